use Rattle.std.proofs.Common.{arith, ◌+◌, length}
use Rattle.sv_rangemap.proofs.Joins.{joined_span, up_to_end}
use Rattle.sv_rangemap.proofs.map.RangeMap.join_span.Goals as goal

pub invariant_of-self : goal.invariant_of-self
invariant_of-self g c =
    let joined = c.join.ensures c.args.self.now.size c.args.self.now.cover in
    record {
      cover = joined.cover;
      fits = (let f = joined.few in let was = c.args.self.now.fits in
          omega (arith, f, was));
    }

pub returns-clause-unlike : goal.returns-clause-unlike
returns-clause-unlike g c =
    let line = c.args.self.now in
    joined_span g.V.Piece.is_same line.size c.max.result
    (c.min-end.result + 1) line.parts.items c.join.new.parts.items c.args.span c.places-first.result.0
    c.places-first.result.1 line.cover c.places-first.ensures
    (λ k lt. (let m = c.max.ensures in omega (arith, m, lt)))
    (up_to_end c.places-first.result.1 (length line.parts.items) c.len.result c.min-end.result
    line.cover.some c.len.ensures c.min-end.ensures)
    (c.join.ensures line.size line.cover)

pub returns-clause-values : goal.returns-clause-values
returns-clause-values g c = (c.join.ensures c.args.self.now.size c.args.self.now.cover).values

pub returns-clause-few : goal.returns-clause-few
returns-clause-few g c = (c.join.ensures c.args.self.now.size c.args.self.now.cover).few
