use Rattle.std.proofs.Common.{◌≡◌, true, ◌∙◌, sym, subst, Option}
use Rattle.sv_model.specs.Declarations.{is_pass, pass_of}
use Rattle.sv_lines.specs.declared.measure.PassSizes.{PassSizes}
use Rattle.sv_lines.specs.Measures.{HasMeasure}
use Rattle.sv_rules.specs.Taken.{Taken}
use Rattle.sv_lines.proofs.Kept.{trace_in}
use Rattle.sv_lines.proofs.taken.TakenLines.pass_sizes.Goals as goal

pub returns : goal.returns
returns c = subst (λ (s : Taken). is_pass s.trace c.args.pass ≡ true
    → HasMeasure (pass_of s.trace c.args.pass) c.copied.result) c.self.view_is
    (λ declared. subst (λ (o : Option PassSizes). HasMeasure
    (pass_of (trace_in c.self.inside) c.args.pass) o) (sym (c.copied.ensures ∙ c.get.ensures.value))
    (c.self.invariant.steady.sizes c.args.pass declared))
