use Rattle.std.proofs.Common.{arith, sym, ◌∙◌, ◌≡◌, ap, subst, ◌≤◌, length}
use Rattle.sv_range.specs.declared.span.Span.{Span}
use Rattle.sv_rangemap.specs.declared.part.Part.{Part}
use Rattle.sv_rangemap.proofs.Pieces.{replaced_again}
use Rattle.sv_space.specs.Lines.{cell_on, IsInMip}
use Rattle.sv_space.specs.declared.known.Known.{Known}
use Rattle.sv_space.proofs.Lining.{one_in_mip, only_at, read_start, piece_caught}
use Rattle.sv_space.proofs.line.Line.catch_up_at.Goals as goal

pub first_cell-requires : goal.first_cell-requires
first_cell-requires c =
    let pieces = c.args.self.now.pieces in
    (read_start pieces.size pieces.parts.items pieces.cover c.args.index c.piece.result.0
    c.piece.result.1.now c.requires.listed c.piece.ensures).0

pub area_of-at-requires-clause-inside : goal.area_of-at-requires-clause-inside
area_of-at-requires-clause-inside c =
    let pieces = c.args.self.now.pieces in
    let r = read_start pieces.size pieces.parts.items pieces.cover c.args.index c.piece.result.0
    c.piece.result.1.now c.requires.listed c.piece.ensures in (
      pieces.size,
      c.args.self.now.shaped,
      (let e = ap (λ (s : Span). s.end) c.first_cell.ensures in
          omega (arith, e, r.0, r.1)),
    )

pub area_of-at-requires-clause-in_mip : goal.area_of-at-requires-clause-in_mip
area_of-at-requires-clause-in_mip c =
    subst (λ (s : Span). IsInMip c.args.self.now.shape s) (sym c.first_cell.ensures)
    (one_in_mip c.args.self.now.shape c.args.self.now.pieces.size c.piece.result.0.start
    c.args.self.now.shaped)

pub catch_up-requires : goal.catch_up-requires
catch_up-requires c =
    let d : Part Known = record { span = c.piece.result.0; value = c.piece.result.1.now } in
    let w = c.requires.within c.args.index d c.requires.listed in
    subst (λ (k : Known). k.upto ≤ length c.args.log.now) (c.replace-known.ensures.had d) w

pub returns-clause-caught : goal.returns-clause-caught
returns-clause-caught c = λ work d are log_is of.
    let pieces = c.args.self.now.pieces in
    let r = read_start pieces.size pieces.parts.items pieces.cover c.args.index c.piece.result.0
    c.piece.result.1.now c.requires.listed c.piece.ensures in
    let had : c.piece.result.1.now ≡ c.replace-known.result =
    sym (ap (λ (p : Part Known). p.value) (c.piece.ensures d)) ∙ c.replace-known.ensures.had d in
    let again = replaced_again c.args.index c.new.result c.catch_up.new.self pieces.parts.items
    c.replace-known.new.self.parts.items c.replace-spare.new.self.parts.items
    c.replace-known.ensures.replaced c.replace-spare.ensures.replaced in
    piece_caught work c.args.self.now.res c.args.self.now.shape c.args.log.now are log_is c.args.index
    pieces.parts.items c.replace-spare.new.self.parts.items d c.piece.result.0 c.replace-known.result
    c.catch_up.new.self r.0
    (c.piece.ensures d ∙ ap (λ (k : Known). record { span = c.piece.result.0; value = k }) had)
    (again.at d) c.in_ok-given.ensures.upto
    (c.in_ok-given.ensures.gone (cell_on c.args.self.now.res c.args.self.now.shape c.piece.result.0.start)
    (only_at c.args.self.now.res c.args.self.now.shape c.piece.result.0.start c.first_cell.result
    c.area_of-at.result c.first_cell.ensures c.area_of-at.ensures)) of

pub returns-clause-given : goal.returns-clause-given
returns-clause-given c = λ d. (
    let e = c.in_ok-given.ensures.given in
    let u = ap (λ (k : Known). k.upto) (c.replace-known.ensures.had d) in
    omega (arith, e, u))
