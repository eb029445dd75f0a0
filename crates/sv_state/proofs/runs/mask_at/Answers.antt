use Rattle.std.proofs.Common.{arith, ap, get_or}
use Rattle.std.proofs.lemmas.List.Elements.{Contains-get_or}
use Rattle.sv_state.specs.declared.runs.Run.{Run}
use Rattle.sv_state.proofs.Numbers.{none_on, only_on}
use Rattle.sv_state.proofs.Turns.{none_has, run_at}
use Rattle.sv_state.proofs.runs.mask_at.Goals as goal

abbrev none : Run
none = record { first = 0; last = 0; stages = record { 0 = 0 }; usages = record { 0 = 0 } }

pub returns-then-r-number : goal.returns-then-r-number
returns-then-r-number c = λ place is apart.
    let runs = c.args.runs.now in
    let at = c.ended_before-place.result in
    let found = c.ended_before-place.ensures in
    let lt = c.if-place-runs.true in
    only_on place runs c.args.number c.args.track is apart (get_or runs at none)
    (Contains-get_or runs at none lt) c.if-r-number.true (found.behind at none (omega arith) lt)
    (λ s on low high. run_at runs c.requires.in_turn c.requires.have_numbers at c.args.number none s lt
    found.before found.behind on low high)

pub returns-else-r-number : goal.returns-else-r-number
returns-else-r-number c = λ place is apart.
    let runs = c.args.runs.now in
    let at = c.ended_before-place.result in
    let found = c.ended_before-place.ensures in
    let lt = c.if-place-runs.true in
    none_on place runs c.args.number c.args.track is apart (λ s on low high. (
    let same = ap (λ (r : Run). r.first) (run_at runs c.requires.in_turn c.requires.have_numbers at
    c.args.number none s lt found.before found.behind on low high) in
    let f = c.if-r-number.false in
    absurd (omega (arith, same, f, low))))

pub returns-else-place-runs : goal.returns-else-place-runs
returns-else-place-runs c = λ place is apart.
    none_on place c.args.runs.now c.args.number c.args.track is apart (λ s on low high.
    none_has c.args.runs.now c.ended_before-place.result c.args.number s c.if-place-runs.false
    c.ended_before-place.ensures.before on high)
