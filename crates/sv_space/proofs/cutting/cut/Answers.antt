use Rattle.std.proofs.Common.{ℕ, ◌<◌, ◌↔◌, ◌∙◌, IsTrue, List, ap, arith, length, sym, subst}
use Rattle.std.specs.List.{All}
use Rattle.std.proofs.lemmas.List.{get_or_default}
use Rattle.sv_model.specs.Cells as cells
use Rattle.sv_range.specs.Lines.{InSome}
use Rattle.sv_range.specs.declared.span.Span.{Span}
use Rattle.sv_rangemap.proofs.Pieces.{parts_of_parts}
use Rattle.sv_space.specs.Lines.{IsInMip, cell_on}
use Rattle.sv_space.proofs.Cuts.{cut_for, cuts_more}
use Rattle.sv_space.proofs.cutting.cut.Goals as goal

pub returns-in_err-split_span-clause-parts : goal.returns-in_err-split_span-clause-parts
returns-in_err-split_span-clause-parts c = parts_of_parts c.args.line.now.pieces.parts.items
    c.loop-span.line.pieces.parts.items c.split_span.new.self.parts.items c.loop-span.invariant.parts
    c.split_span.ensures.parts

pub loop-span-preserved : goal.loop-span-preserved
loop-span-preserved c =
    let was = c.loop-span.invariant in
    let old = c.loop-span.line.pieces in
    let new = c.split_span.new.self in
    let list = c.as_slice-list.result.now in
    let i = c.loop-span.span-index in record {
      same = record {
        res = was.same.res;
        shape = was.same.shape;
        size = c.split_span.ensures.size
            ∙ was.same.size;
      };
      parts = parts_of_parts c.args.line.now.pieces.parts.items old.parts.items new.parts.items was.parts
          c.split_span.ensures.parts;
      cut = cuts_more old.size new.size c.split_span.ensures.size old.parts.items new.parts.items
          c.split_span.ensures.kept list i _ c.loop-span-test.true
          (get_or_default list i _ _ c.loop-span-test.true)
          c.in_ok-split_span.ensures.begins c.in_ok-split_span.ensures.ends was.cut;
      few = let before = was.few in let more = c.split_span.ensures.few in omega (arith, before, more);
    }

pub returns-clause-cut : goal.returns-clause-cut
returns-clause-cut c =
    let was = c.loop-span.invariant in
    let first = c.args.line.now in
    let pieces = c.loop-span.line.pieces in
    let list = c.as_slice-list.result.now in
    let shaped = first.shaped in
    let in_mip : All (IsInMip first.shape) list =
    subst (λ (xs : List Span). All (IsInMip first.shape) xs)
    (sym c.as_slice-list.ensures) c.in_ok-spans.ensures.in_mip in
    let has : (number : ℕ) → number < first.pieces.size → InSome list number
    ↔ IsTrue (cells.covers c.args.area (cell_on first.res first.shape number)) =
    subst (λ (xs : List Span). (number : ℕ) → number < first.pieces.size → InSome xs number
    ↔ IsTrue (cells.covers c.args.area (cell_on first.res first.shape number)))
    (sym c.as_slice-list.ensures) (c.in_ok-spans.ensures.cells first.res first.pieces.size shaped
    c.requires) in
    cut_for c.args.area first.res first.shape pieces.size pieces.parts.items pieces.cover list in_mip
    (λ number lt. has number (let e = was.same.size in omega (arith, e, lt)))
    (λ j e lt. was.cut j e (omega arith))

pub returns-clause-few : goal.returns-clause-few
returns-clause-few c =
    let long = ap (λ (xs : List Span). length xs) c.as_slice-list.ensures in
    let spans = c.in_ok-spans.ensures.few in
    let few = c.loop-span.invariant.few in
    omega (arith, long, spans, few)
