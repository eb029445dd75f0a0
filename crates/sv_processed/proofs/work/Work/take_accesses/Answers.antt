use Rattle.std.proofs.Common.{List, [], ◌∷◌, ◌++◌, length, ap, sym, subst}
use Rattle.std.specs.List.{All}
use Rattle.std.proofs.lemmas.List.Elements.{All-nil}
use Rattle.sv_model.specs.declared.work.Note.{Note}
use Rattle.sv_model.specs.declared.work.Step.TheVariants.{Accesses}
use Rattle.sv_replies.specs.Replying.{IsOnNone}
use Rattle.sv_processed.specs.Works.{IsAt, bound_as}
use Rattle.sv_processed.proofs.OneStep.{accesses_fit, at_after, on_ok_two, with_checks}
use Rattle.sv_processed.proofs.work.Work.take_accesses.Goals as goal

pub take-requires : goal.take-requires
take-requires c = accesses_fit c.args.self.now c.args.accesses.now c.in_ok-list.list
    c.args.self.now.checks.steps c.requires c.in_ok-list.ensures

pub returns-clause-at : goal.returns-clause-at
returns-clause-at c = on_ok_two c.take.result (λ stands replies t event old more m at.
    subst (λ (ns : List Note). IsAt t event old (more
    ++ bound_as (length (old ++ more)) event (Accesses c.args.accesses.now) ns ∷ []) m
    (with_checks c.args.self.now c.take.new.self)) c.new.ensures
    (at_after c.args.self.now c.take.new.self (Accesses c.args.accesses.now)
    (Accesses c.in_ok-list.list) c.new.result (ap Accesses c.in_ok-list.ensures)
    (subst (All IsOnNone) (sym c.new.ensures) (All-nil IsOnNone)) stands replies t event old more m at))
    c.take.ensures.stands c.take.ensures.reply
