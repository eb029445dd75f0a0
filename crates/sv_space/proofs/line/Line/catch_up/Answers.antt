use Rattle.std.proofs.Common.{◌≡◌, arith, get_or, length, subst}
use Rattle.std.proofs.lemmas.List.{get_or_default}
use Rattle.sv_space.proofs.Lining.{caught_more, changed_more, line_caught, none_more, others_more}
use Rattle.sv_space.proofs.Lining.{piece_at_same, then_line, then_spans}
use Rattle.sv_space.proofs.Counted.{none_sum}
use Rattle.sv_space.proofs.Cuts.{later_spans}
use Rattle.sv_space.proofs.line.Line.catch_up.Goals as goal

pub catch_up_at-requires-clause-listed : goal.catch_up_at-requires-clause-listed
catch_up_at-requires-clause-listed c =
    let long = c.loop-place.invariant.spans.long in
    let i = c.loop-place.place-index in
    let h = c.requires.listed (get_or c.args.places.now i 0) (
      i,
      c.loop-place-test.true,
      get_or_default c.args.places.now i
          (get_or c.args.places.now i 0) 0 c.loop-place-test.true,
    ) in
    omega (arith, long, h)

pub loop-place-preserved : goal.loop-place-preserved
loop-place-preserved c =
    let was = c.loop-place.invariant in
    let one = c.in_ok-more.ensures in
    let i = c.loop-place.place-index in
    let places = c.args.places.now in
    let first = c.args.self.now in
    let old = c.loop-place.self.pieces.parts.items in
    let new = c.catch_up_at.new.self.pieces.parts.items in record {
      same = then_line first c.loop-place.self c.catch_up_at.new.self was.same one.line;
      spans = then_spans first.pieces.parts.items old new was.spans one.spans;
      within = one.within;
      stands = λ work are log_is of. line_caught work first.res first.shape _ old new one.spans.long
          one.others
          (λ d. piece_at_same work first.res c.loop-place.self.res first.shape c.loop-place.self.shape
          was.same.res was.same.shape (get_or old _ d) (get_or new _ d) (one.caught work d are log_is))
          (was.stands work are log_is of);
      changed = changed_more (length c.args.log.now) _ first.pieces.parts.items old new one.others one.upto
          was.changed;
      others = others_more places i _ c.loop-place-test.true
          (get_or_default places i _ _ c.loop-place-test.true) first.pieces.parts.items old new one.others
          was.others;
      none = λ all. none_sum c.loop-place.given c.in_ok-more.more c.saturating_add-given.result
          c.saturating_add-given.ensures (was.none all)
          (none_more (length c.args.log.now) places i _ c.loop-place-test.true
          (get_or_default places i _ _ c.loop-place-test.true) first.pieces.parts.items old
          (let long = was.spans.long in let h =
          c.requires.listed (get_or places i 0) (
            i,
            c.loop-place-test.true,
            get_or_default places i
                (get_or places i 0) 0 c.loop-place-test.true,
          ) in omega (arith, long, h)) c.in_ok-more.more
          one.given was.changed all);
      caught = caught_more (length c.args.log.now) places i _ c.loop-place-test.true
          (get_or_default places i _ _ c.loop-place-test.true) old new one.others one.upto was.caught;
    }

pub returns-clause-later : goal.returns-clause-later
returns-clause-later c = later_spans (length c.args.log.now) c.args.self.now.pieces.parts.items
    c.loop-place.self.pieces.parts.items c.loop-place.invariant.spans
    (λ k d lt. c.loop-place.invariant.changed k d)

pub returns-clause-caught : goal.returns-clause-caught
returns-clause-caught c = λ k d on.
    let lt = on.1 in
    let over = c.loop-place-test.false in
    subst (λ n. (get_or c.loop-place.self.pieces.parts.items n d).value.upto ≡ length c.args.log.now) on.2
    (c.loop-place.invariant.caught on.0 k d (omega (arith, lt, over)))
