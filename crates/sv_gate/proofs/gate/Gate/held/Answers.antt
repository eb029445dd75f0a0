use Rattle.sv_gate.proofs.HeldCalls.{one_lane}
use Rattle.sv_gate.proofs.gate.Gate.held.Goals as goal

pub loop-lane-preserved : goal.loop-lane-preserved
loop-lane-preserved c = one_lane c.loop-lane.lane c.args.self.now.lanes.items c.loop-lane.list
    c.push_calls.new.list _ c.in_ok-push_calls.ensures c.loop-lane.invariant
