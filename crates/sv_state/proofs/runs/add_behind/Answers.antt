use Rattle.std.proofs.Common.{List, ◌-◌, arith, refl, sym, subst}
use Rattle.sv_state.specs.declared.runs.Run.{Run}
use Rattle.sv_state.specs.Masks.{Adds}
use Rattle.sv_state.specs.Numbers.{runs_masks}
use Rattle.sv_state.specs.Turns.{AreInTurn, HaveNumbers}
use Rattle.sv_state.proofs.Numbers.{number_pushed, number_goes_on}
use Rattle.sv_state.proofs.Turns.{have_longer, have_push, turn_longer, turn_push}
use Rattle.sv_state.proofs.runs.add_behind.Goals as goal

pub returns-then-goes_on-clause-adds : goal.returns-then-goes_on-clause-adds
returns-then-goes_on-clause-adds c = λ place is.
    number_goes_on place c.args.runs.now.items c.args.number c.args.more is
    (c.len-count.result - 1) c.index-r.result.now
    (omega (arith, c.len-count.ensures, c.args.runs.now.ok)) c.index-r.ensures
    (c.goes_on.ensures c.if-goes_on.true)

pub returns-then-goes_on-clause-in_turn : goal.returns-then-goes_on-clause-in_turn
returns-then-goes_on-clause-in_turn c =
    let r = c.index-r.result.now in
    turn_longer c.args.runs.now.items c.requires.in_turn c.requires.have_numbers
    (c.len-count.result - 1) r
    (record { first = r.first; last = c.args.number; stages = r.stages; usages = r.usages })
    c.index-r.ensures (omega (arith, c.len-count.ensures, c.args.runs.now.ok)) refl

pub returns-then-goes_on-clause-have_numbers : goal.returns-then-goes_on-clause-have_numbers
returns-then-goes_on-clause-have_numbers c =
    let r = c.index-r.result.now in
    let on = c.goes_on.ensures c.if-goes_on.true in
    have_longer c.args.runs.now.items c.requires.in_turn c.requires.have_numbers
    (c.len-count.result - 1) r
    (record { first = r.first; last = c.args.number; stages = r.stages; usages = r.usages })
    c.index-r.ensures (omega (arith, c.len-count.ensures, c.args.runs.now.ok)) refl on.low

pub returns-clause-adds : goal.returns-clause-adds
returns-clause-adds c = λ place is.
    subst (λ (rs : List Run). Adds (runs_masks place c.args.runs.now.items) (runs_masks place rs) c.args.more)
    (sym c.in_ok-push.ensures.items) (number_pushed place c.args.runs.now.items c.args.number c.args.more is)

pub returns-clause-in_turn : goal.returns-clause-in_turn
returns-clause-in_turn c = subst (λ (rs : List Run). AreInTurn rs) (sym c.in_ok-push.ensures.items)
    (turn_push c.args.runs.now.items c.requires.in_turn c.requires.have_numbers c.args.number _ refl
    c.requires.behind)

pub returns-clause-have_numbers : goal.returns-clause-have_numbers
returns-clause-have_numbers c = subst (λ (rs : List Run). HaveNumbers rs) (sym c.in_ok-push.ensures.items)
    (have_push c.args.runs.now.items c.requires.in_turn c.requires.have_numbers _ refl)
