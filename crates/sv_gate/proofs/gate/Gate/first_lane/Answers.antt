use Rattle.std.proofs.Common.{◌<◌, ◌≡◌, ◌∙◌, [], length, sym, arith}
use Rattle.sv_model.specs.Holding.{call_ready, starts, first_calls}
use Rattle.sv_model.proofs.Settling.{first_calls-length}
use Rattle.sv_gate.proofs.Places.{first_is, none_is}
use Rattle.sv_gate.proofs.gate.Gate.first_lane.Goals as goal

pub returns-then-lane_starts : goal.returns-then-lane_starts
returns-then-lane_starts c t h m p lawful is stands agrees =
    let long = first_calls-length t 0 h.lanes in
    let many : length h.lanes ≡ 16 = is.lane_count in
    let within : c.loop-lane.lane < length (first_calls t 0 h.lanes) = omega arith in
    sym (first_is (starts (call_ready p h.events h.queues)) (first_calls t 0 h.lanes) c.loop-lane.lane
    [] within
    (c.loop-lane.invariant t h m p lawful is stands agrees)
    (sym (c.lane_starts.ensures t h m p lawful is stands agrees) ∙ c.if-lane_starts.true))

pub returns : goal.returns
returns c t h m p lawful is stands agrees =
    let long = first_calls-length t 0 h.lanes in
    let many : length h.lanes ≡ 16 = is.lane_count in
    sym (none_is (starts (call_ready p h.events h.queues)) (first_calls t 0 h.lanes) []
    (λ k l. c.loop-lane.invariant t h m p lawful is stands agrees k (omega arith)))
