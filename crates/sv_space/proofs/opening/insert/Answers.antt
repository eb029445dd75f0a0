use Rattle.std.proofs.Common.{◌+◌, ◌<◌, ◌≤◌, ◌≡◌, ◌⊎◌, List, Contains, arith, get_or, length, subst, sym}
use Rattle.std.proofs.lemmas.List.Edits.{length-insert}
use Rattle.sv_space.specs.AllLines.{AreFresh}
use Rattle.sv_space.specs.Pieces.{IsFresh}
use Rattle.sv_space.specs.Sorted.{AreSorted, IsPlaceOf}
use Rattle.sv_space.specs.declared.line.Line.{Line}
use Rattle.sv_space.proofs.Inserted.{insert_each, insert_has, insert_kept, insert_only, insert_sorted}
use Rattle.sv_space.proofs.opening.insert.Goals as goal

pub returns-clause-sorted : goal.returns-clause-sorted
returns-clause-sorted c =
    let old = c.args.lines.now.items in
    let at = c.place_in-at.result in
    let line = c.args.line in
    let le : at ≤ length old = subst (λ (ls : List Line). at ≤ length ls) c.deref.ensures.value
    c.place_in-at.ensures.listed in
    let place : IsPlaceOf line.res old at = subst
    (λ (ls : List Line). IsPlaceOf line.res ls at) c.deref.ensures.value
    (c.place_in-at.ensures.place (subst (λ (ls : List Line). AreSorted ls)
    (sym c.deref.ensures.value) c.requires.sorted)) in
    subst (λ (ls : List Line). AreSorted ls) (sym c.in_ok-insert.ensures.items)
    (insert_sorted old at line le c.requires.sorted place
    (λ d lt same. c.is_there.ensures.absent c.if-is_there.false d
    (subst (λ (ls : List Line). at < length ls) (sym c.deref-2.ensures.value) lt)
    (subst (λ (ls : List Line). (get_or ls at d).res ≡ line.res) (sym c.deref-2.ensures.value) same)))

pub returns-clause-fresh : goal.returns-clause-fresh
returns-clause-fresh c = λ fresh.
    let old = c.args.lines.now.items in
    let at = c.place_in-at.result in
    let le : at ≤ length old = subst (λ (ls : List Line). at ≤ length ls) c.deref.ensures.value
    c.place_in-at.ensures.listed in
    subst (λ (ls : List Line). AreFresh ls) (sym c.in_ok-insert.ensures.items)
    (insert_each old at c.args.line le IsFresh c.requires.fresh fresh)

pub returns-clause-kept : goal.returns-clause-kept
returns-clause-kept c =
    let old = c.args.lines.now.items in
    let at = c.place_in-at.result in
    let le : at ≤ length old = subst (λ (ls : List Line). at ≤ length ls) c.deref.ensures.value
    c.place_in-at.ensures.listed in
    subst (λ (ls : List Line). (l : Line) → Contains old l → Contains ls l)
    (sym c.in_ok-insert.ensures.items) (insert_kept old at c.args.line le)

pub returns-clause-only : goal.returns-clause-only
returns-clause-only c =
    let old = c.args.lines.now.items in
    let at = c.place_in-at.result in
    let le : at ≤ length old = subst (λ (ls : List Line). at ≤ length ls) c.deref.ensures.value
    c.place_in-at.ensures.listed in
    subst (λ (ls : List Line). (l : Line) → Contains ls l → Contains old l ⊎ (l ≡ c.args.line))
    (sym c.in_ok-insert.ensures.items) (insert_only old at c.args.line le)

pub returns-clause-has : goal.returns-clause-has
returns-clause-has c = λ none.
    let old = c.args.lines.now.items in
    let at = c.place_in-at.result in
    let le : at ≤ length old = subst (λ (ls : List Line). at ≤ length ls) c.deref.ensures.value
    c.place_in-at.ensures.listed in
    subst (λ (ls : List Line). Contains ls c.args.line) (sym c.in_ok-insert.ensures.items)
    (insert_has old at c.args.line le)

pub returns-then-is_there-clause-has : goal.returns-then-is_there-clause-has
returns-then-is_there-clause-has c = λ none.
    let w = c.is_there.ensures.there c.if-is_there.true in
    absurd (none w.0 (subst (λ (ls : List Line). Contains ls w.0) c.deref-2.ensures.value w.1) w.2)

pub returns-clause-few : goal.returns-clause-few
returns-clause-few c =
    let old = c.args.lines.now.items in
    let at = c.place_in-at.result in
    let le : at ≤ length old = subst (λ (ls : List Line). at ≤ length ls) c.deref.ensures.value
    c.place_in-at.ensures.listed in
    subst (λ (ls : List Line). length ls ≤ length old + 1) (sym c.in_ok-insert.ensures.items)
    (let long = length-insert old at c.args.line le in omega (arith, long))
