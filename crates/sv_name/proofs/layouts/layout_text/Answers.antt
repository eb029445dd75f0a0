use Rattle.std.proofs.Common.{ap, ◌∙◌}
use Rattle.sv_mask.specs.Names.{layout_text, layouts, text_at}
use Rattle.sv_name.proofs.layouts.layout_text.Goals as goal

pub returns : goal.returns
unfolding layout_text
returns c = c.text_at.ensures ∙ ap (text_at layouts) c.number.ensures.place
