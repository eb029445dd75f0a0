use Rattle.std.proofs.Common.{[], ◌∷◌, ◌++◌, sym, subst}
use Rattle.sv_model.specs.History.{IsHistory}
use Rattle.sv_core.specs.Marks.{mark_of}
use Rattle.sv_core.specs.State.{State}
use Rattle.sv_core.proofs.Kept.{holds_next, holds_stopped}
use Rattle.sv_core.proofs.validator.Validator.apply.Goals as goal

pub invariant_of-self : goal.invariant_of-self
invariant_of-self c =
    let next = subst (λ (v : State). IsHistory v.trace (v.history ++ mark_of c.args.event ∷ []))
    (sym c.self.view_is) c.requires.next in
    holds_next c.self.inside.trace c.self.inside.history c.go_on-answer.new.history
    (mark_of c.args.event) c.self.inside.replies c.go_on-answer.new.replies c.in-Ok.reply
    c.go_on-answer.new.parts
    c.self.invariant.lawful c.self.invariant.answered next c.in-Ok.ensures.history c.in-Ok.ensures.kept
    c.in-Ok.ensures.reply c.in-Ok.ensures.ready

pub invariant_of-self-in-Err : goal.invariant_of-self-in-Err
invariant_of-self-in-Err c =
    let next = subst (λ (v : State). IsHistory v.trace (v.history ++ mark_of c.args.event ∷ []))
    (sym c.self.view_is) c.requires.next in
    holds_stopped c.self.inside.trace c.self.inside.history c.go_on-answer.new.history
    (mark_of c.args.event) c.self.inside.replies c.go_on-answer.new.replies c.go_on-answer.new.parts
    c.self.invariant.lawful c.self.invariant.is_history c.self.invariant.answered next
    c.in-Err.ensures.fault.0 c.in-Err.ensures.fault.1
