use Rattle.std.proofs.Common.{◌≡◌, ℕ, zero, suc, ◌<◌, List, length, refl, sym, ap, ◌∙◌, subst, arith}
use Rattle.std.specs.Prelude.{slice_index, slice_index_or, replicate}
use Rattle.atomic_table.specs.Table.{Me}
use Rattle.sv_share.specs.declared.view.Known.{Known}
use Rattle.sv_share.specs.declared.view.View.{View}
use Rattle.sv_share.specs.Values.{ShareIs, book_is}
use Rattle.sv_share.specs.Views.{at, counts_of, dealing}
use Rattle.sv_share.proofs.Rounds.{dealing_ok}
use Rattle.sv_share.proofs.Moves.{begins}
use Rattle.sv_share.proofs.board.Board.open.Goals as goal

zeros : (n a : ℕ) → slice_index (replicate n 0) a ≡ 0
zeros zero a = refl
zeros (suc n) zero = refl
zeros (suc n) (suc a) = zeros n a

pub of_words-requires : goal.of_words-requires
of_words-requires c = begins (replicate 32 0) refl (λ a lt. zeros 32 a)

pub invariant_of-result-2 : goal.invariant_of-result-2
invariant_of-result-2 c =
    let i = c.loop-actor.actor in
    let ok = dealing_ok i (omega arith) in
    let of_is : c.loop-actor.seat.me.0.of ≡ (dealing i).of =
    ap (λ (m : Me ℕ View). m.0.of) c.loop-actor.invariant.view in
    let f : (length c.loop-actor.seat.me.0.of ≡ 32)
    × ((a : ℕ) → a < 32 → 0 < (at c.loop-actor.seat.me.0.of a).parts) =
    subst (λ (l : List Known). (length l ≡ 32) × ((a : ℕ) → a < 32 → 0 < (at l a).parts)) (sym of_is)
    (ok.0.long, ok.0.parts) in
    (ap (λ (m : Me ℕ View). m.1) c.loop-actor.invariant.view, f.0, f.1)

pub returns : goal.returns
returns c =
    let i = c.loop-actor.actor in
    let ok = dealing_ok i (omega arith) in
    let of_is : c.loop-actor.seat.me.0.of ≡ (dealing i).of =
    ap (λ (m : Me ℕ View). m.0.of) c.loop-actor.invariant.view in
    let same : i ≡ c.args.actors = omega arith in
    let counts : counts_of c.loop-actor.seat.me.0.of ≡ replicate 32 0 = ap counts_of of_is ∙ ok.1 in record {
      book = λ j. book_is (c.loop-actor.invariant.board j) (counts j);
      count = ap length c.from_vec.ensures ∙ c.loop-actor.invariant.count ∙ same;
      shares = λ k d lt. ap (λ (l : List ShareIs). slice_index_or l k d) c.from_vec.ensures
          ∙ c.loop-actor.invariant.each k d (omega arith);
    }
