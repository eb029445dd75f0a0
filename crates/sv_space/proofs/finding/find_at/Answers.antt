use Rattle.std.proofs.Common.{◌≡◌, ◌∙◌, ◌++◌, [], sym, ap, subst, append-nil, get_or}
use Rattle.std.specs.Option.{option_copied}
use Rattle.std.proofs.lemmas.Result.{on_ok_weaker}
use Rattle.sv_model.specs.Dependencies.{own_deps}
use Rattle.sv_model.specs.Reports.{spots, spots_of}
use Rattle.sv_model.specs.declared.work.Area.{Area}
use Rattle.sv_model.specs.declared.work.Report.{Report}
use Rattle.sv_range.specs.declared.span.Span.{Span}
use Rattle.sv_rangemap.specs.declared.part.Part.{Part}
use Rattle.sv_space.specs.Found.{ArePieceSpots}
use Rattle.sv_space.specs.Lines.{IsInMip, IsOf, area_on}
use Rattle.sv_space.specs.declared.known.Known.{Known}
use Rattle.sv_space.proofs.Lining.{read_start}
use Rattle.sv_space.proofs.PieceSpots.{no_spots, some_spots, area_run, area_within, whole_known}
use Rattle.sv_space.proofs.finding.find_at.Goals as goal

pub area_of-requires-clause-order : goal.area_of-requires-clause-order
area_of-requires-clause-order c =
    let pieces = c.args.line.now.pieces in
    (read_start pieces.size pieces.parts.items pieces.cover c.args.index c.piece.result.0
    c.piece.result.1.now c.requires.listed c.piece.ensures).0

pub area_of-requires-clause-inside : goal.area_of-requires-clause-inside
area_of-requires-clause-inside c =
    let pieces = c.args.line.now.pieces in (
      pieces.size,
      c.args.line.now.shaped,
      (read_start pieces.size pieces.parts.items pieces.cover
          c.args.index c.piece.result.0 c.piece.result.1.now c.requires.listed c.piece.ensures).1,
    )

pub area_of-requires-clause-in_mip : goal.area_of-requires-clause-in_mip
area_of-requires-clause-in_mip c =
    let d : Part Known = record { span = c.piece.result.0; value = c.piece.result.1.now } in
    subst (λ (p : Part Known). IsInMip c.args.line.now.shape p.span) (c.piece.ensures d) (c.requires.in_mip d)

pub add_run-requires-clause-run : goal.add_run-requires-clause-run
add_run-requires-clause-run c =
    let pieces = c.args.line.now.pieces in
    let r = read_start pieces.size pieces.parts.items pieces.cover c.args.index c.piece.result.0
    c.piece.result.1.now c.requires.listed c.piece.ensures in
    area_run c.args.line.now.res c.args.line.now.shape c.piece.result.0 c.area_of.result c.area_of.ensures r.0

pub add_run-requires-clause-ends : goal.add_run-requires-clause-ends
add_run-requires-clause-ends c =
    let pieces = c.args.line.now.pieces in
    let r = read_start pieces.size pieces.parts.items pieces.cover c.args.index c.piece.result.0
    c.piece.result.1.now c.requires.listed c.piece.ensures in
    let d : Part Known = record { span = c.piece.result.0; value = c.piece.result.1.now } in
    area_within c.args.line.now.res c.args.line.now.shape pieces.size c.piece.result.0 c.area_of.result
    c.area_of.ensures c.args.line.now.shaped r.0
    (subst (λ (p : Part Known). IsInMip c.args.line.now.shape p.span) (c.piece.ensures d)
    (c.requires.in_mip d))

pub returns-in-None-clause-found : goal.returns-in-None-clause-found
returns-in-None-clause-found c = λ work step d steps next same_own upto of on.
    let line = c.args.line.now in
    let known = whole_known work line.res line.shape
    (get_or line.pieces.parts.items c.args.index d) c.piece.result.0 c.piece.result.1.now
    (c.piece.ensures d) upto of in
    let span : (get_or line.pieces.parts.items c.args.index d).span ≡ c.piece.result.0 =
    ap (λ (p : Part Known). p.span) (c.piece.ensures d) in (
      [],
      sym (append-nil (spots_of c.args.reports.now)),
      subst (λ (s : Span). ArePieceSpots work step line.res line.shape s c.args.access.now []) (sym span)
          (no_spots work steps step next line.res line.shape c.piece.result.0 c.piece.result.1.now.state
          c.args.access.now (own_deps (option_copied c.args.group)) same_own known
          (λ cell h. on cell (subst (λ (s : Span). IsOf line.res line.shape s cell) (sym span) h))
          c.in-None.ensures),
    )

pub returns-in-Some-clause-found : goal.returns-in-Some-clause-found
returns-in-Some-clause-found c = on_ok_weaker c.add_run.result
    (λ whole work step d steps next same_own upto of on. (
    let line = c.args.line.now in
    let pieces = line.pieces in
    let r = read_start pieces.size pieces.parts.items pieces.cover c.args.index c.piece.result.0
    c.piece.result.1.now c.requires.listed c.piece.ensures in
    let known = whole_known work line.res line.shape
    (get_or line.pieces.parts.items c.args.index d) c.piece.result.0 c.piece.result.1.now
    (c.piece.ensures d) upto of in
    let span : (get_or line.pieces.parts.items c.args.index d).span ≡ c.piece.result.0 =
    ap (λ (p : Part Known). p.span) (c.piece.ensures d) in
    let in_mip = subst (λ (s : Span). IsInMip line.shape s) span (c.requires.in_mip d) in
    let report : Area → Report = λ area. record {
      area = area;
      later = c.args.access.now;
      earlier = c.in-Some.partner.access;
      kind = c.in-Some.partner.kind;
    } in
    let more = spots (report (area_on line.res line.shape c.piece.result.0)) in (
      more,
      whole ∙ ap (λ (a : Area). spots_of c.args.reports.now ++ spots (report a)) c.area_of.ensures,
      subst (λ (s : Span). ArePieceSpots work step line.res line.shape s c.args.access.now more) (sym span)
          (some_spots work steps step next line.res line.shape c.piece.result.0 c.piece.result.1.now.state
          c.args.access.now (own_deps (option_copied c.args.group)) same_own known
          (λ cell h. on cell (subst (λ (s : Span). IsOf line.res line.shape s cell) (sym span) h))
          c.in-Some.partner.access c.in-Some.partner.kind r.0 in_mip c.in-Some.ensures),
    ))) c.add_run.ensures.whole
