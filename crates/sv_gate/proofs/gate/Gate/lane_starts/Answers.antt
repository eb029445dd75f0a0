use Rattle.std.proofs.Common.{◌∙◌, [], Option, false, get_or, sym, ap}
use Rattle.std.specs.Option.{option_map_or}
use Rattle.std.proofs.lemmas.Option.{MatchOption-at_some}
use Rattle.sv_gate.specs.declared.calls.Call.{Call}
use Rattle.sv_gate.specs.Calls.{NamesItsFence, ready_call}
use Rattle.sv_gate.proofs.Starts.{lane_starts_is, first_names}
use Rattle.sv_gate.proofs.gate.Gate.lane_starts.Goals as goal

pub returns-in-None : goal.returns-in-None
returns-in-None c t h m p lawful is stands agrees =
    ap (λ (o : Option Call). option_map_or (ready_call p h.events h.queues) o false) c.in-None.ensures
    ∙ sym (lane_starts_is t h c.args.self.now p c.args.lane is)

pub returns-in-Some : goal.returns-in-Some
returns-in-Some c t h m p lawful is stands agrees =
    let names = first_names t c.args.self.now.scripts c.args.lane
    (get_or c.args.self.now.lanes.items c.args.lane []) lawful is.scripts in
    c.call_is_ready.ensures t h m p is stands agrees
    (MatchOption-at_some (Unit {0}) (NamesItsFence t) c.in-Some.call.now (sym c.in-Some.ensures) names)
    ∙ ap (λ (o : Option Call). option_map_or (ready_call p h.events h.queues) o false) c.in-Some.ensures
    ∙ sym (lane_starts_is t h c.args.self.now p c.args.lane is)
