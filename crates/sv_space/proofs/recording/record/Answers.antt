use Rattle.std.proofs.Common.{ℕ, ◌<◌, ◌≡◌, List, Contains, arith, get_or, refl, subst, sym}
use Rattle.std.specs.List.{AllPairs}
use Rattle.std.proofs.lemmas.List.{get_or_default}
use Rattle.sv_model.specs.declared.work.Access.{Access}
use Rattle.sv_space.specs.Cut.{ArePlacesOf, Covers}
use Rattle.sv_space.proofs.Lining.{then_line, then_spans}
use Rattle.sv_space.proofs.Marking.{marked_next, marked_none, marked_others, marked_those, same_mark}
use Rattle.sv_space.proofs.OneLine.{line_same}
use Rattle.sv_space.proofs.recording.record.Goals as goal

pub loop-place-init : goal.loop-place-init
loop-place-init c = record {
  same = line_same c.args.line.now;
  spans = record { long = refl; spans = λ k d. refl };
  within = λ n h. h;
  marked = marked_none c.args.accesses.now c.args.groups.now c.args.number c.args.line.now.res
      c.args.line.now.shape c.as_slice-list.result.now c.args.line.now.pieces.parts.items;
}

pub record_at-requires-clause-listed : goal.record_at-requires-clause-listed
record_at-requires-clause-listed c =
    let list = c.as_slice-list.result.now in
    let i = c.loop-place.place-index in
    let lt = c.loop-place-test.true in
    let long = c.loop-place.invariant.spans.long in
    let h = c.in_ok-places.ensures.listed (get_or list i 0)
    (subst (λ (xs : List ℕ). Contains xs (get_or list i 0)) c.as_slice-list.ensures
    (i, lt, get_or_default list i (get_or list i 0) 0 lt)) in
    omega (arith, long, h)

pub loop-place-preserved : goal.loop-place-preserved
loop-place-preserved c =
    let was = c.loop-place.invariant in
    let one = c.in_ok-record_at.ensures in
    let list = c.as_slice-list.result.now in
    let i = c.loop-place.place-index in
    let lt = c.loop-place-test.true in
    let first = c.args.line.now in
    let old = c.loop-place.line in
    let new = c.record_at.new.line in
    let rising : AllPairs (λ (a b : ℕ). a < b) list =
    subst (λ (xs : List ℕ). AllPairs (λ (a b : ℕ). a < b) xs)
    (sym c.as_slice-list.ensures) c.in_ok-places.ensures.rising in record {
      same = then_line first old new was.same one.line;
      spans = then_spans first.pieces.parts.items old.pieces.parts.items new.pieces.parts.items was.spans
          one.spans;
      within = λ n h. one.within n (was.within n h);
      marked = marked_next c.args.accesses.now c.args.groups.now c.args.number first.res first.shape list
          rising i _ lt (get_or_default list i _ _ lt) first.pieces.parts.items old.pieces.parts.items
          new.pieces.parts.items one.others
          (λ d. same_mark c.args.accesses.now c.args.groups.now c.args.number first.res old.res first.shape
          old.shape _ _ was.same.res was.same.shape (one.marked d)) was.marked;
    }

pub returns-clause-marked : goal.returns-clause-marked
returns-clause-marked c =
    let was = c.loop-place.invariant in
    let first = c.args.line.now in
    let pieces = first.pieces in
    let list = c.as_slice-list.result.now in
    let new = c.loop-place.line.pieces.parts.items in
    let x : Access = get_or c.args.accesses.now c.args.number _ in
    let placed : ArePlacesOf x.area first.res first.shape pieces.parts.items list =
    subst (λ (xs : List ℕ). ArePlacesOf x.area first.res first.shape pieces.parts.items xs)
    (sym c.as_slice-list.ensures) c.in_ok-places.ensures in
    let same : (y : Access) → get_or c.args.accesses.now c.args.number y ≡ x =
    λ y. get_or_default c.args.accesses.now c.args.number y _ c.requires.number in record {
      spans = was.spans;
      others = λ k y d lt not_covered. marked_others x.area first.res first.shape pieces.size
          pieces.parts.items pieces.cover (c.requires.cut _) list placed c.args.accesses.now c.args.groups.now
          c.args.number c.loop-place.place-index new (omega arith) was.marked k d
          (λ covered. not_covered (subst (λ (z : Access). Covers z.area first.res first.shape
          (get_or pieces.parts.items k d).span.start) (sym (same y)) covered));
      marked = λ k y d lt covered. marked_those x.area first.res first.shape pieces.size pieces.parts.items
          pieces.cover (c.requires.cut _) list placed c.args.accesses.now c.args.groups.now c.args.number
          c.loop-place.place-index new (omega arith) was.marked k d lt
          (subst (λ (z : Access). Covers z.area first.res first.shape
          (get_or pieces.parts.items k d).span.start) (same y) covered);
    }
