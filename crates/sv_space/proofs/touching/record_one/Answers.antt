use Rattle.std.proofs.Common.{ℕ, ◌<◌, ◌≡◌, ◌∙◌, List, ap, arith, get_or, length, subst, sym}
use Rattle.std.proofs.lemmas.List.{get_or_default}
use Rattle.std.proofs.lemmas.Result.{on_ok_weaker}
use Rattle.sv_model.specs.declared.work.Access.{Access}
use Rattle.sv_space.specs.AllLines.{LiesAt, LiesIn}
use Rattle.sv_space.specs.Cut.{IsCutFor}
use Rattle.sv_space.specs.declared.line.Line.{Line}
use Rattle.sv_space.proofs.LineStepped.{one_marked}
use Rattle.sv_space.proofs.OneLine.{line_within, one_within, same_lines}
use Rattle.sv_space.proofs.touching.record_one.Goals as goal

-- the line that was found, and the access by any default
any_access : (xs : List Access) (n : ℕ) (e : Access) (lines : List Line) (at : ℕ) (line : Line) → line
    ≡ get_or lines at line → n < length xs → ((d : Line) → LiesAt (get_or lines at d) (get_or xs n e).area)
    → (d : Access) → LiesAt line (get_or xs n d).area
any_access xs n e lines at line is lt lies d = subst (λ (y : Access). LiesAt line y.area)
    (get_or_default xs n e d lt) (subst (λ (l : Line). LiesAt l (get_or xs n e).area) (sym is) (lies line))

pub place_of-at-requires-clause-lies : goal.place_of-at-requires-clause-lies
place_of-at-requires-clause-lies c =
    let xs = c.args.accesses.now in
    let n = c.args.number in
    let at = λ (e : Access). subst (λ (ls : List Line). LiesIn ls (get_or xs n e).area)
    (sym c.deref.ensures.value) (c.requires.lies (get_or xs n e)
    (n, c.requires.number, get_or_default xs n (get_or xs n e) e c.requires.number)) in
    at _

pub record-requires-clause-lies : goal.record-requires-clause-lies
record-requires-clause-lies c =
    let old = c.args.lines.now.items in
    let at = c.place_of-at.result in
    let line = c.index_mut-line.result.now in
    let is : line ≡ get_or c.deref.result.now at line = c.index_mut-line.ensures.value
    ∙ ap (λ (ls : List Line). get_or ls at line) (sym c.deref.ensures.value) in
    any_access c.args.accesses.now c.args.number _ c.deref.result.now at line is c.requires.number
    c.place_of-at.ensures.lies

pub record-requires-clause-cut : goal.record-requires-clause-cut
record-requires-clause-cut c = λ d.
    let old = c.args.lines.now.items in
    let xs = c.args.accesses.now in
    let n = c.args.number in
    let at = c.place_of-at.result in
    let line = c.index_mut-line.result.now in
    let lt : at < length old = (let e = ap length c.deref.ensures.value in let h =
    c.place_of-at.ensures.listed in omega (arith, e, h)) in
    subst (λ (l : Line). IsCutFor (get_or xs n d).area l.res l.shape l.pieces.parts.items)
    (sym c.index_mut-line.ensures.value)
    (c.requires.cut (get_or xs n d) (
      n,
      c.requires.number,
      get_or_default xs n (get_or xs n d) d c.requires.number,
    ) at line lt)

pub returns : goal.returns
returns c =
    let old = c.args.lines.now.items in
    let at = c.place_of-at.result in
    let line = c.index_mut-line.result.now in
    let new = c.record.new.line in
    let lt : at < length old = (let e = ap length c.deref.ensures.value in let h =
    c.place_of-at.ensures.listed in omega (arith, e, h)) in
    let is : line ≡ get_or old at line = c.index_mut-line.ensures.value in
    let from : line ≡ get_or c.deref.result.now at line = c.index_mut-line.ensures.value
    ∙ ap (λ (ls : List Line). get_or ls at line) (sym c.deref.ensures.value) in
    let lies : (d : Access) → LiesAt line (get_or c.args.accesses.now c.args.number d).area =
    any_access c.args.accesses.now c.args.number _ c.deref.result.now at line from c.requires.number
    c.place_of-at.ensures.lies in record {
      same = same_lines old at line new lt is c.record.ensures.line;
      within = λ n h. one_within old at line new lt is n
          (c.record.ensures.within n (line_within old at line new lt is n h)) h;
      marked = on_ok_weaker c.record.result (one_marked old at line new lt is c.requires.sorted
          c.args.accesses.now c.args.groups.now c.args.number lies) c.record.ensures.marked;
    }
