use Rattle.std.proofs.Common.{List, ◌∙◌, ap, sum_by}
use Rattle.sv_model.specs.declared.work.Here.{Here}
use Rattle.sv_model.specs.declared.work.Step.{Step}
use Rattle.sv_model.specs.Passes.{pass_steps}
use Rattle.sv_model.specs.Size.{step_size, capped}
use Rattle.sv_lines.proofs.Numbering.{numbered_size}
use Rattle.sv_lines.proofs.measure.measured.Goals as goal

pub returns : goal.returns
returns c pass views h =
    c.steps_size-size.ensures
    ∙ ap (λ (xs : List Step). capped (sum_by step_size xs))
    (c.as_slice.ensures ∙ c.in_ok-steps.ensures pass views h)
    ∙ ap capped (numbered_size c.anywhere.result.step (pass_steps pass views c.args.at c.anywhere.result)
    ∙ ap (λ (here : Here). sum_by step_size (pass_steps pass views c.args.at here)) c.anywhere.ensures)
