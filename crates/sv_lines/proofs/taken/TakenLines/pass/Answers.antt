use Rattle.std.proofs.Common.{◌≡◌, ◌∙◌, ap, subst}
use Rattle.std.specs.Prelude.{unwrap_or, option_and_then, slice_get}
use Rattle.sv_model.specs.Declarations.{empty_pass}
use Rattle.sv_lines.specs.Extents.{as_pass}
use Rattle.sv_lines.specs.PassLines.{pass_or_empty}
use Rattle.sv_rules.specs.Taken.{Taken, pass_in}
use Rattle.sv_lines.proofs.taken.TakenLines.pass.Goals as goal

pub returns : goal.returns
unfolding pass_in
returns c = subst (λ (s : Taken). as_pass c.pass_of.result ≡ pass_in s.trace c.args.pass) c.self.view_is
    (c.pass_of.ensures ∙ ap pass_or_empty c.line_at.ensures
    ∙ ap (λ lines. pass_or_empty (option_and_then (slice_get lines) c.get-place.result))
    c.as_slice.ensures.value
    ∙ ap (λ place. pass_or_empty (option_and_then (slice_get c.self.inside.passes.lines.items) place))
    c.get-place.ensures
    ∙ ap (λ p. unwrap_or p empty_pass) (c.self.invariant.declared.passes c.args.pass))
