use Rattle.std.proofs.Common.{refl}
use Rattle.sv_mask.specs.declared.usage.TheConstants.{STAGES}
use Rattle.sv_mask.specs.Usages.{stage_number, stages}
use Rattle.sv_mask.proofs.TableLemmas.{numbered}
use Rattle.sv_mask.proofs.usage.stage_of.Goals as goal

pub returns : goal.returns
returns c = numbered stage_number STAGES stages refl c.args.usage.0 _ c.requires
