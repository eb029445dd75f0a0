use Rattle.std.proofs.Common.{◌<◌, ◌≡◌, ◌∙◌, List, ap, arith, get_or, length, subst, sym}
use Rattle.std.proofs.lemmas.List.{get_or_default}
use Rattle.std.proofs.lemmas.Result.{on_ok_weaker}
use Rattle.sv_rangemap.specs.Lines.{ArePartsOf}
use Rattle.sv_space.specs.AllLines.{LiesAt}
use Rattle.sv_space.specs.Runs.{runs_of}
use Rattle.sv_space.specs.declared.line.Line.{Line}
use Rattle.sv_space.proofs.Fewer.{one_grows}
use Rattle.sv_space.proofs.OneLine.{one_cut, one_line, parts_same, same_lines}
use Rattle.sv_space.proofs.lines.cut_area.Goals as goal

pub returns : goal.returns
returns c =
    let old = c.args.lines.now.items in
    let at = c.place_of-at.result in
    let line = c.index_mut-line.result.now in
    let new = c.cut.new.line in
    let lt : at < length old = (let e = ap length c.deref.ensures.value in let h =
    c.place_of-at.ensures.listed in omega (arith, e, h)) in
    let is : line ≡ get_or old at line = c.index_mut-line.ensures.value ∙ get_or_default old at _ line lt in
    let lies : LiesAt line c.args.area = subst (λ (l : Line). LiesAt l c.args.area)
    (ap (λ (ls : List Line). get_or ls at line) c.deref.ensures.value ∙ sym is)
    (c.place_of-at.ensures.lies line) in record {
      same = same_lines old at line new lt is c.cut.ensures.line;
      parts = λ k d k_lt. one_line old at line new lt is
          (λ (l m : Line). ArePartsOf m.pieces.parts.items l.pieces.parts.items)
          (λ l. parts_same l.pieces.parts.items) c.cut.ensures.parts k d;
      cut = on_ok_weaker c.cut.result (one_cut old at line new lt is c.requires.sorted c.args.area lies
          c.cut.ensures.line) c.cut.ensures.cut;
      few = on_ok_weaker c.cut.result (one_grows old at line new lt is (runs_of c.args.area))
          c.cut.ensures.few;
    }
