use Rattle.std.proofs.Common.{◌∙◌}
use Rattle.sv_words.proofs.Numerals.{told}
use Rattle.sv_words.proofs.numbers.parsed.Goals as goal

pub returns : goal.returns
returns c = c.ok.ensures.value ∙ told c.args.word.now c.parse.result c.requires c.parse.ensures.value.0
