use Rattle.std.proofs.Common.{◌≡◌, ◌∙◌, ◌++◌, ◌∷◌, [], List, refl, subst, arith}
use Rattle.std.proofs.lemmas.Grind.{common_steps}
use Rattle.std.proofs.lemmas.List.{with_items_is}
use Rattle.sv_model.specs.declared.line.Mark.TheVariants as mark
use Rattle.sv_gate.specs.declared.waiting.Waiting.{Waiting}
use Rattle.sv_gate.specs.Gates.{added}
use Rattle.sv_gate.proofs.Coming.{after_arrival}
use Rattle.sv_gate.proofs.gate.Gate.come.Goals as goal

pub returns-clause-arrived : goal.returns-clause-arrived
returns-clause-arrived c t h is now =
    let x : Waiting = c.in_ok-waiting.waiting in
    let lanes = with_items_is c.args.self.now.lanes c.hold.new.lanes (omega arith) in
    let held : c.hold.new.lanes ≡ added c.args.self.now.lanes.items c.args.lane (x ∷ []) =
    subst (λ (all : List (List Waiting)). c.hold.new.lanes ≡ added all c.args.lane (x ∷ []))
    c.deref_mut.ensures.value c.in_ok-self.ensures.held in
    let events : c.push.new.self.items ≡ c.args.self.now.events.items ++ mark.Call c.args.lane c.args.index
    ∷ [] = grind (arith, common_steps) in
    after_arrival t h c.args.self.now _ c.args.lane c.args.index c.args.event x is now refl events refl
    c.in_ok-waiting.ensures (lanes ∙ held) refl c.in_ok-self.ensures.sum c.in_ok-self.ensures.small
