use Rattle.std.proofs.Common.{◌≡◌, ◌<◌, ◌-◌, ◌+◌, List, arith, length, refl, subst, sym}
use Rattle.sv_state.specs.declared.runs.Run.{Run}
use Rattle.sv_state.specs.Masks.{Adds}
use Rattle.sv_state.specs.Numbers.{runs_masks}
use Rattle.sv_state.specs.Turns.{EndBefore}
use Rattle.sv_state.proofs.Numbers.{number_alone, number_off}
use Rattle.sv_state.proofs.Turns.{before_off, before_taken, first_here, have_longer, last_ends, turn_longer}
use Rattle.sv_state.proofs.runs.take_off.Goals as goal

pub returns-then-r-number-clause-adds : goal.returns-then-r-number-clause-adds
returns-then-r-number-clause-adds c = λ place is.
    let runs = c.args.runs.now.items in
    let n = c.len-count.result - 1 in
    let r = c.index-r.result.now in
    let some = c.requires.reach.some in
    let last : n + 1 ≡ length runs = omega (arith, c.len-count.ensures, c.args.runs.now.ok, some) in
    number_off place runs c.args.number n r c.args.track is last c.index-r.ensures
    (last_ends runs c.args.number n r last c.index-r.ensures c.requires.by c.requires.reach)
    c.if-r-number.true

pub returns-then-r-number-clause-behind : goal.returns-then-r-number-clause-behind
returns-then-r-number-clause-behind c =
    let runs = c.args.runs.now.items in
    let n = c.len-count.result - 1 in
    let r = c.index-r.result.now in
    let some = c.requires.reach.some in
    let last : n + 1 ≡ length runs = omega (arith, c.len-count.ensures, c.args.runs.now.ok, some) in
    let shorter : Run =
    record { first = r.first; last = c.args.number - 1; stages = r.stages; usages = r.usages } in
    let more : r.first < c.args.number = c.if-r-number.true in
    before_off runs c.args.number n r shorter
    (turn_longer runs c.requires.in_turn c.requires.have_numbers n r shorter c.index-r.ensures last refl)
    (have_longer runs c.requires.in_turn c.requires.have_numbers n r shorter c.index-r.ensures last refl
    (omega (arith, more))) last (omega (arith, more))

pub returns-clause-adds : goal.returns-clause-adds
returns-clause-adds c = λ place is.
    let runs = c.args.runs.now.items in
    let n = c.len-count.result - 1 in
    let r = c.index-r.result.now in
    let some = c.requires.reach.some in
    let last : n + 1 ≡ length runs = omega (arith, c.len-count.ensures, c.args.runs.now.ok, some) in
    let ends = last_ends runs c.args.number n r last c.index-r.ensures c.requires.by c.requires.reach in
    subst (λ (rs : List Run). Adds (runs_masks place rs) (runs_masks place runs)
    (record { track = c.args.track; stages = r.stages; usages = r.usages }))
    (sym c.truncate.ensures.items)
    (number_alone place runs c.args.number n r c.args.track is last c.index-r.ensures ends
    (first_here runs c.args.number n r last c.index-r.ensures c.requires.have_numbers ends
    c.if-r-number.false))

pub returns-clause-behind : goal.returns-clause-behind
returns-clause-behind c =
    let runs = c.args.runs.now.items in
    let n = c.len-count.result - 1 in
    let r = c.index-r.result.now in
    let some = c.requires.reach.some in
    let last : n + 1 ≡ length runs = omega (arith, c.len-count.ensures, c.args.runs.now.ok, some) in
    let ends = last_ends runs c.args.number n r last c.index-r.ensures c.requires.by c.requires.reach in
    let first = first_here runs c.args.number n r last c.index-r.ensures c.requires.have_numbers ends
    c.if-r-number.false in
    subst (λ (rs : List Run). EndBefore c.args.number rs) (sym c.truncate.ensures.items)
    (before_taken runs c.requires.in_turn c.requires.have_numbers n last c.args.number r c.index-r.ensures
    (omega (arith, first)))
