use Rattle.std.proofs.Common.{◌<◌, ◌≤◌, ◌+◌, ◌*◌, ◌∙◌, ℕ, length, ap, arith, subst, sym}
use Rattle.sv_rangemap.specs.declared.part.Part.{Part}
use Rattle.sv_space.specs.Counts.{kept_by}
use Rattle.sv_space.specs.Pieces.{IsPieceOf}
use Rattle.sv_space.specs.declared.known.Known.{Known}
use Rattle.sv_space.proofs.Counted.{one_more, whole}
use Rattle.sv_space.proofs.KeptFew.{all_pieces_few, one_piece_more, piece_few}
use Rattle.sv_space.proofs.Lining.{read_start}
use Rattle.sv_space.proofs.space.kept_of.Goals as goal

pub loop-index-preserved : goal.loop-index-preserved
loop-index-preserved c =
    let line = c.args.line.now in
    let parts = line.pieces.parts.items in
    let lt : c.loop-index.index < length parts = omega arith in
    let p : Part Known = record { span = c.piece.result.0; value = c.piece.result.1.now } in
    let r = read_start line.pieces.size parts line.pieces.cover c.loop-index.index c.piece.result.0
    c.piece.result.1.now lt c.piece.ensures in record {
      number = c.saturating_add-all.ensures
          ∙ one_more kept_by parts c.loop-index.index p c.loop-index.all c.kept.result lt
          c.loop-index.invariant.number (c.kept.ensures.number ∙ ap kept_by (sym (c.piece.ensures _)));
      few = λ work queues most order bounded stands. subst
          (λ (n : ℕ). n ≤ (most + 17 * length queues) * (c.loop-index.index + 1))
          (sym c.saturating_add-all.ensures)
          (one_piece_more (most + 17 * length queues) c.loop-index.all c.kept.result c.loop-index.index
          (c.loop-index.invariant.few work queues most order bounded stands)
          (piece_few queues most work line.res line.shape p c.kept.result order bounded r.0
          (subst (IsPieceOf work line.res line.shape) (c.piece.ensures p) (stands c.loop-index.index p lt))
          c.kept.ensures.few));
    }

pub returns-clause-number : goal.returns-clause-number
returns-clause-number c = whole kept_by c.args.line.now.pieces.parts.items c.loop-index.index c.loop-index.all
    (omega arith) c.loop-index.invariant.number

pub returns-clause-few : goal.returns-clause-few
returns-clause-few c = λ work queues most order bounded stands. all_pieces_few (most + 17 * length queues)
    c.loop-index.all c.loop-index.index (length c.args.line.now.pieces.parts.items) (omega arith)
    (c.loop-index.invariant.few work queues most order bounded stands)
