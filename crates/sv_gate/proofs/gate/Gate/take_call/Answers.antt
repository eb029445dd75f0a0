use Rattle.std.proofs.Common.{◌+◌, ◌<◌, ◌^◌, ◌≡◌, ◌∙◌, List, [], None, Some, drop, get_or, length, subst}
use Rattle.std.proofs.Common.{refl, arith}
use Rattle.std.proofs.lemmas.List.{with_items_is}
use Rattle.sv_model.specs.declared.work.Item.{Item}
use Rattle.sv_model.specs.Holding.{items_held}
use Rattle.sv_gate.specs.declared.waiting.Waiting.{Waiting}
use Rattle.sv_gate.specs.Gates.{Pops, sent_to}
use Rattle.sv_gate.proofs.Taking.{after_call, call_counts, no_call}
use Rattle.sv_gate.proofs.gate.Gate.take_call.Goals as goal

pub returns-in-None-clause-takes : goal.returns-in-None-clause-takes
returns-in-None-clause-takes c t h is =
    let lanes = with_items_is c.args.self.now.lanes c.pop_call.new.lanes (omega arith) in
    let pops : Pops c.args.self.now.lanes.items c.pop_call.new.lanes c.args.lane None =
    subst (λ (all : List (List Waiting)). Pops all c.pop_call.new.lanes c.args.lane None)
    c.deref_mut.ensures.value c.in-None.ensures in
    no_call t h c.args.self.now _ c.args.lane is (record
    { scripts = refl; events = refl; published = refl }) pops.0 (lanes ∙ pops.1) refl refl

pub returns-in-Some-clause-takes : goal.returns-in-Some-clause-takes
returns-in-Some-clause-takes c t h is =
    let lanes = with_items_is c.args.self.now.lanes c.pop_call.new.lanes (omega arith) in
    let queues = with_items_is c.args.self.now.queues c.send.new.queues (omega arith) in
    let x : Waiting = c.in-Some.waiting in
    let pops : Pops c.args.self.now.lanes.items c.pop_call.new.lanes c.args.lane (Some x) =
    subst (λ (all : List (List Waiting)). Pops all c.pop_call.new.lanes c.args.lane (Some x))
    c.deref_mut.ensures.value c.in-Some.ensures in
    let sends : items_held c.args.self.now.queues.items + length x.sent < 2 ^ 63 → c.send.new.queues
    ≡ sent_to c.args.self.now.queues.items x.queue x.sent =
    subst (λ (all : List (List Item)). items_held all + length x.sent < 2 ^ 63 → c.send.new.queues
    ≡ sent_to all x.queue x.sent) c.deref_mut-in-Some.ensures.value c.send.ensures in
    after_call t h c.args.self.now _ c.args.lane x
    (drop 1 (get_or c.args.self.now.lanes.items c.args.lane [])) is
    (record { scripts = refl; events = refl; published = refl }) pops.0 (lanes ∙ pops.1)
    (λ fits. queues ∙ sends fits) c.saturating_sub-self.ensures

pub returns-in-Some-clause-falls : goal.returns-in-Some-clause-falls
returns-in-Some-clause-falls c t h is =
    let x : Waiting = c.in-Some.waiting in
    let pops : Pops c.args.self.now.lanes.items c.pop_call.new.lanes c.args.lane (Some x) =
    subst (λ (all : List (List Waiting)). Pops all c.pop_call.new.lanes c.args.lane (Some x))
    c.deref_mut.ensures.value c.in-Some.ensures in
    let some = call_counts t h c.args.self.now c.args.lane x
    (drop 1 (get_or c.args.self.now.lanes.items c.args.lane [])) is pops.0 in
    let one = c.saturating_sub-self.ensures in
    omega (arith, some, one)
