use Rattle.sv_core.proofs.TakingIn.{ready_first}
use Rattle.sv_core.proofs.parts.Parts.open.Goals as goal

pub returns : goal.returns
returns c = ready_first c.args.trace.now (record {
  gate = c.in_ok-open.field-0;
  recordings = c.in_ok-new.field-0;
  work = c.in_ok-open-2.field-0;
}) c.requires c.in_ok-open.ensures
    c.in_ok-new.ensures c.in_ok-open-2.ensures.left c.in_ok-open-2.ensures.steps c.in_ok-open-2.ensures.fits
