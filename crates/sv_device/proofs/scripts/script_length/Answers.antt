use Rattle.std.proofs.Common.{[]}
use Rattle.sv_device.proofs.Items.{lane_long}
use Rattle.sv_device.proofs.scripts.script_length.Goals as goal

pub returns-in-Some : goal.returns-in-Some
returns-in-Some c = lane_long c.args.trace.now c.args.who c.in-Lane.lane c.len.result c.as_slice.result.now
    c.in-Some.script.now c.in-Lane.is c.as_slice.ensures (c.in-Some.ensures.lookup.3.1 []) c.len.ensures
