use Rattle.std.proofs.Common.{◌<◌, ◌≡◌, ◌∙◌, List, ap, arith, get_or, length, subst, sym}
use Rattle.std.proofs.lemmas.List.{get_or_default}
use Rattle.std.proofs.lemmas.Result.{IfOk-weaker, on_ok_weaker}
use Rattle.sv_space.specs.AllLines.{LiesAt}
use Rattle.sv_space.specs.Cut.{ArePartsLater, IsCaughtFor}
use Rattle.sv_space.specs.Runs.{runs_of}
use Rattle.sv_space.specs.declared.line.Line.{Line}
use Rattle.sv_space.proofs.Cuts.{later_same}
use Rattle.sv_space.proofs.Fewer.{one_grows}
use Rattle.sv_space.proofs.OneLine.{line_within, one_caught, one_cut, one_line, one_others, one_stands}
use Rattle.sv_space.proofs.OneLine.{one_within, same_lines}
use Rattle.sv_space.proofs.lines.prepare_area.Goals as goal

pub prepare-requires-clause-lies : goal.prepare-requires-clause-lies
prepare-requires-clause-lies c =
    let old = c.args.lines.now.items in
    let at = c.place_of-at.result in
    let line = c.index_mut-line.result.now in
    let lt : at < length old = (let e = ap length c.deref.ensures.value in let h =
    c.place_of-at.ensures.listed in omega (arith, e, h)) in
    let is : line ≡ get_or old at line = c.index_mut-line.ensures.value ∙ get_or_default old at _ line lt in
    subst (λ (l : Line). LiesAt l c.args.area) (ap
    (λ (ls : List Line). get_or ls at line) c.deref.ensures.value ∙ sym is)
    (c.place_of-at.ensures.lies line)

pub prepare-requires-clause-within : goal.prepare-requires-clause-within
prepare-requires-clause-within c =
    let old = c.args.lines.now.items in
    let at = c.place_of-at.result in
    let line = c.index_mut-line.result.now in
    let lt : at < length old = (let e = ap length c.deref.ensures.value in let h =
    c.place_of-at.ensures.listed in omega (arith, e, h)) in
    let is : line ≡ get_or old at line = c.index_mut-line.ensures.value ∙ get_or_default old at _ line lt in
    line_within old at line line lt is (length c.args.log.now) c.requires.within

pub returns : goal.returns
returns c =
    let old = c.args.lines.now.items in
    let at = c.place_of-at.result in
    let line = c.index_mut-line.result.now in
    let new = c.prepare.new.self in
    let n = length c.args.log.now in
    let lt : at < length old = (let e = ap length c.deref.ensures.value in let h =
    c.place_of-at.ensures.listed in omega (arith, e, h)) in
    let is : line ≡ get_or old at line = c.index_mut-line.ensures.value ∙ get_or_default old at _ line lt in
    let lies : LiesAt line c.args.area = subst (λ (l : Line). LiesAt l c.args.area)
    (ap (λ (ls : List Line). get_or ls at line) c.deref.ensures.value ∙ sym is)
    (c.place_of-at.ensures.lies line) in record {
      same = same_lines old at line new lt is c.prepare.ensures.line;
      within = one_within old at line new lt is n c.prepare.ensures.within c.requires.within;
      stands = on_ok_weaker c.prepare.result (λ go work are log_is. one_stands old at line new lt is work
          c.prepare.ensures.line (go work are log_is)) c.prepare.ensures.stands;
      later = on_ok_weaker c.prepare.result (λ later k d k_lt. one_line old at line new lt is
          (λ (l m : Line). ArePartsLater n m.pieces.parts.items l.pieces.parts.items)
          (λ l. later_same n l.pieces.parts.items) later k d) c.prepare.ensures.later;
      cut = on_ok_weaker c.prepare.result (one_cut old at line new lt is c.requires.sorted c.args.area lies
          c.prepare.ensures.line) c.prepare.ensures.cut;
      caught = on_ok_weaker c.prepare.result (one_caught old at line new lt is c.requires.sorted c.args.area
          lies n c.prepare.ensures.line) c.prepare.ensures.caught;
      others = on_ok_weaker c.prepare.result (λ others area m apart was. one_others old at line new lt is
          c.prepare.ensures.line area m (others area m apart) was) c.prepare.ensures.others;
      few = on_ok_weaker c.prepare.result (one_grows old at line new lt is (runs_of c.args.area))
          c.prepare.ensures.few;
      none = IfOk-weaker c.prepare.result _ _ (λ given none was. none
          (subst (λ (l : Line). IsCaughtFor c.args.area n l.res l.shape l.pieces.parts.items) (sym is)
          (was at line lt))) c.prepare.ensures.none;
    }
