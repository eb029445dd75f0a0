use Rattle.std.proofs.Common.{ℕ, ◌<◌, ◌↔◌, IsTrue, List, length, get_or, sym, subst}
use Rattle.std.specs.List.{AllPairs}
use Rattle.std.proofs.lemmas.List.{get_or_default}
use Rattle.sv_model.specs.Cells as cells
use Rattle.sv_range.specs.Lines.{InSome}
use Rattle.sv_range.specs.Spans.{EndsBefore}
use Rattle.sv_range.specs.declared.span.Span.{Span}
use Rattle.sv_space.specs.Lines.{cell_on}
use Rattle.sv_space.specs.Places.{AreListed}
use Rattle.sv_space.proofs.Placing.{listed_none, placed_all}
use Rattle.sv_space.proofs.places.places_of.Goals as goal

pub loop-span-init : goal.loop-span-init
loop-span-init c =
    let line = c.args.line.now in
    let inside = c.in_ok-spans.ensures.inside line.res line.pieces.size line.shaped c.requires in
    subst (λ (xs : List ℕ). AreListed line.pieces.parts.items c.as_slice-list.result.now 0 0 xs)
    (sym c.new-places.ensures.items)
    (listed_none line.pieces.parts.items c.as_slice-list.result.now
    (subst (λ (xs : List Span). AllPairs EndsBefore xs)
    (sym c.as_slice-list.ensures) c.in_ok-spans.ensures.ascending)
    (subst (λ (xs : List Span). (j : ℕ) (e : Span) → j < length xs → (get_or xs j e).start
    < (get_or xs j e).end) (sym c.as_slice-list.ensures) (λ j e lt. (inside j e lt).0)))

pub loop-span-preserved : goal.loop-span-preserved
loop-span-preserved c =
    let list = c.as_slice-list.result.now in
    let i = c.loop-span.span-index in
    c.in_ok-after.ensures list i c.loop-span-test.true
    (get_or_default list i _ _ c.loop-span-test.true) c.loop-span.invariant

pub returns : goal.returns
returns c =
    let line = c.args.line.now in
    let list = c.as_slice-list.result.now in
    let has : (number : ℕ) → number < line.pieces.size → InSome list number
    ↔ IsTrue (cells.covers c.args.area (cell_on line.res line.shape number)) =
    subst (λ (xs : List Span). (number : ℕ) → number < line.pieces.size → InSome xs number
    ↔ IsTrue (cells.covers c.args.area (cell_on line.res line.shape number)))
    (sym c.as_slice-list.ensures) (c.in_ok-spans.ensures.cells line.res line.pieces.size line.shaped
    c.requires) in
    placed_all c.args.area line.res line.shape line.pieces.size line.pieces.parts.items line.pieces.cover
    list has c.loop-span.span-index c.loop-span.next c.loop-span.places.items c.loop-span-test.false
    c.loop-span.invariant
