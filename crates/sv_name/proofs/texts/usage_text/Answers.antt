use Rattle.std.proofs.Common.{ap, ◌∙◌}
use Rattle.sv_mask.specs.Names.{usage_text, plain_accesses, plain_stages, text_at}
use Rattle.sv_name.proofs.texts.usage_text.Goals as goal

pub returns-clause-access : goal.returns-clause-access
unfolding usage_text
returns-clause-access c = c.text_at.ensures ∙ ap (text_at plain_accesses)
    (c.number-access.ensures.place ∙ c.access_of.ensures)

pub returns-clause-stage : goal.returns-clause-stage
unfolding usage_text
returns-clause-stage c = c.text_at-2.ensures ∙ ap (text_at plain_stages)
    (c.number-stage.ensures.place ∙ c.stage_of.ensures)
