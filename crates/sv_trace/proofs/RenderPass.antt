-- The lists of a render pass.
use Rattle.std.proofs.Common.{◌≡◌, List, Bool, refl, codes}
use Rattle.serde_json.specs.Data.{Data}
use Rattle.sv_json.specs.declared.found.Found.{Found}
use Rattle.sv_json.specs.declared.found.Flaw.{Flaw}
use Rattle.sv_json.specs.declared.found.Flaw.TheVariants.{Range}
use Rattle.sv_json.specs.Flaw.{least}
use Rattle.sv_json.specs.Form.{found, list, member, unless}
use Rattle.sv_model.specs.declared.line.PassAttachment.{PassAttachment}
use Rattle.sv_model.specs.declared.line.PassUse.{PassUse}
use Rattle.sv_model.specs.declared.line.PassDep.{PassDep}
use Rattle.sv_trace.specs.Lines.{lists_fit, pass_lists, subpasses}
use Rattle.sv_parts.specs.Parts.{pass_attachment, pass_dep}

pub lists_are : (d : Data) (a : Found (List PassAttachment)) (s : Found (List (List PassUse)))
    (p : Found (List PassDep)) (fit : Bool) (f g h u : Flaw)
    → a ≡ member (codes "attachments") (list pass_attachment) d → s ≡ subpasses d → p
    ≡ member (codes "deps") (list pass_dep) d
    → fit ≡ lists_fit a.value s.value p.value → u ≡ unless fit Range → f ≡ least a.flaw s.flaw → g
    ≡ least f p.flaw → h ≡ least g u
    → found h (a.value, s.value, p.value) ≡ pass_lists d
unfolding pass_lists
lists_are d a s p fit f g h u a_is s_is p_is fit_is u_is f_is g_is h_is =
    rw (h_is, g_is, f_is, u_is, fit_is, a_is, s_is, p_is) refl
