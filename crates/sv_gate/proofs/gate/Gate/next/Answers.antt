use Rattle.std.proofs.Common.{ℕ, Option, None, refl, subst}
use Rattle.sv_model.specs.Primitives.{Past, Made}
use Rattle.sv_model.specs.Holding.{past, items_of, take_lane, take_queue}
use Rattle.sv_model.specs.Laws.{left_by_items}
use Rattle.sv_gate.specs.Gates.{Takes}
use Rattle.sv_gate.proofs.Lawfulness.{agree}
use Rattle.sv_gate.proofs.gate.Gate.next.Goals as goal

pub returns-in-Some-clause-takes : goal.returns-in-Some-clause-takes
returns-in-Some-clause-takes c t h done lawful is semaphores fences =
    let m : Made = left_by_items t h.events done in
    let p : Past = past t h.events (items_of done) in
    let lane = c.in-Some.ensures t h m p lawful is fences (agree t h.events done lawful) in
    subst (λ (o : Option ℕ). Takes t h (take_lane t p h o) c.take_call.result c.take_call.new.self) lane
    (c.take_call.ensures.takes t h is)

pub returns-in-Some-first_queue-clause-takes : goal.returns-in-Some-first_queue-clause-takes
returns-in-Some-first_queue-clause-takes c t h done lawful is semaphores fences =
    let m : Made = left_by_items t h.events done in
    let p : Past = past t h.events (items_of done) in
    let agrees = agree t h.events done lawful in
    let no_lane = c.in-None.ensures t h m p lawful is fences agrees in
    let queue = c.in-Some-first_queue.ensures t h m p lawful is semaphores agrees in
    subst (λ (o : Option ℕ). Takes t h (take_lane t p h o) c.take_item.result c.take_item.new.self) no_lane
    (subst (λ (o : Option ℕ). Takes t h (take_queue h o) c.take_item.result c.take_item.new.self) queue
    (c.take_item.ensures.takes t h is))

pub returns-in-None-first_queue-clause-takes : goal.returns-in-None-first_queue-clause-takes
returns-in-None-first_queue-clause-takes c t h done lawful is semaphores fences =
    let m : Made = left_by_items t h.events done in
    let p : Past = past t h.events (items_of done) in
    let agrees = agree t h.events done lawful in
    let no_lane = c.in-None.ensures t h m p lawful is fences agrees in
    let no_queue = c.in-None-first_queue.ensures t h m p lawful is semaphores agrees in
    subst (λ (o : Option ℕ). Takes t h (take_lane t p h o) None c.args.self.now) no_lane
    (subst (λ (o : Option ℕ). Takes t h (take_queue h o) None c.args.self.now) no_queue (refl, is))
