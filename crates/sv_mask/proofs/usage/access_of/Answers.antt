use Rattle.std.proofs.Common.{refl}
use Rattle.sv_mask.specs.declared.usage.TheConstants.{ACCESSES}
use Rattle.sv_mask.specs.Usages.{access_number, accesses}
use Rattle.sv_mask.proofs.TableLemmas.{numbered}
use Rattle.sv_mask.proofs.usage.access_of.Goals as goal

pub returns : goal.returns
returns c = numbered access_number ACCESSES accesses refl c.args.usage.0 _ c.requires
