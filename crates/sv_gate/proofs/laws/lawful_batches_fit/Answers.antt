use Rattle.sv_gate.proofs.Lawfulness.{batch_at_fits}
use Rattle.sv_gate.proofs.laws.lawful_batches_fit.Goals as goal

pub returns : goal.returns
returns c = batch_at_fits
