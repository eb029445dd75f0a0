use Rattle.sv_range.specs.declared.span.Span.{Span}
use Rattle.sv_space.proofs.Fresh.{one_piece, one_stands, one_within}
use Rattle.sv_space.proofs.line.Line.new.Goals as goal

pub returns-clause-fresh : goal.returns-clause-fresh
returns-clause-fresh c =
    let span : Span = record { start = 0; end = c.args.size } in
    let e = c.new.ensures in record {
      within = one_within c.args.res c.args.shape span c.new.result e.upto e.step e.stands
          c.in_ok-pieces.pieces.parts.items c.in_ok-pieces.ensures.whole;
      stands = one_stands c.args.res c.args.shape span c.new.result e.upto e.step e.stands
          c.in_ok-pieces.pieces.parts.items c.in_ok-pieces.ensures.whole;
      one = one_piece (record { span = span; value = c.new.result }) c.in_ok-pieces.pieces.parts.items
          c.in_ok-pieces.ensures.whole;
    }
