use Rattle.sv_rules.proofs.Texts.{text_lawful}
use Rattle.sv_rules.proofs.laws.texts_are_lawful.Goals as goal

pub returns : goal.returns
returns c lines t h = text_lawful lines t h
