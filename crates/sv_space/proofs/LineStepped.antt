-- Lines of which the accesses of a step are recorded, one access after another.
use Rattle.std.proofs.Common.{ℕ, Bool, true, false, ◌≡◌, ◌<◌, ◌≤◌, ◌+◌, List, [], ◌∷◌, ◌++◌, Contains}
use Rattle.std.proofs.Common.{length, get_or, arith, refl, sym, ◌∙◌, ap, subst}
use Rattle.std.proofs.Math.ListN.{set}
use Rattle.std.proofs.lemmas.List.{get_or_default}
use Rattle.sv_model.specs.Cells.{covers}
use Rattle.sv_model.specs.declared.work.Access.{Access}
use Rattle.sv_model.specs.declared.work.Area.{Area}
use Rattle.sv_model.specs.declared.work.Group.{Group}
use Rattle.sv_model.specs.declared.work.Step.{Step}
use Rattle.sv_range.specs.Spans.{InSpan}
use Rattle.sv_range.specs.declared.span.Span.{Span}
use Rattle.sv_rangemap.proofs.Pieces.{some_part}
use Rattle.sv_rangemap.specs.Lines.{HaveSameSpans}
use Rattle.sv_rangemap.specs.declared.part.Part.{Part}
use Rattle.sv_space.specs.AllLines.{AreAllCaught, AreAllCut, AreLinesOf, AreSameLines, IsRangeOf, LiesAt}
use Rattle.sv_space.specs.Cut.{Covers, IsCaughtFor, IsCutFor}
use Rattle.sv_space.specs.Known.{groups_in}
use Rattle.sv_space.specs.Lines.{cell_on}
use Rattle.sv_space.specs.Marked.{IsLineMarked, IsStepOf}
use Rattle.sv_space.specs.Pieces.{IsLineOf, IsSameLine}
use Rattle.sv_space.specs.Sorted.{AreSorted}
use Rattle.sv_space.specs.declared.known.Known.{Known}
use Rattle.sv_space.specs.declared.line.Line.{Line}
use Rattle.sv_space.proofs.Cuts.{cut_spans}
use Rattle.sv_space.proofs.Lining.{then_spans}
use Rattle.sv_space.proofs.Marking.{same_mark}
use Rattle.sv_space.proofs.OneLine.{apart, at_line, back_line, one_each}
use Rattle.sv_space.proofs.Stepped.{IsStepped, covers_res, cut_uniform, stepped_all, stepped_here}
use Rattle.sv_space.proofs.Stepped.{stepped_none, stepped_past}

-- each piece of the line is as the first so many accesses left it
pub record IsLineStepped (accesses : List Access) (groups : List Group) (n : ℕ)
    (first now : Line) : Type 0 where
  pub spans : HaveSameSpans first.pieces.parts.items now.pieces.parts.items
  pub pieces : (k : ℕ) (d : Part Known) → k < length first.pieces.parts.items
      → IsStepped accesses groups n first.res first.shape first.pieces.parts.items k d
      (get_or now.pieces.parts.items k d)

pub line_stepped_none : (accesses : List Access) (groups : List Group) (line : Line)
    → IsLineStepped accesses groups 0 line line
line_stepped_none accesses groups line = record {
  spans = record { long = refl; spans = λ k d. refl };
  pieces = λ k d lt. stepped_none accesses groups line.res line.shape line.pieces.size
      line.pieces.parts.items line.pieces.cover k d lt;
}

pub line_stepped : (accesses : List Access) (groups : List Group) (n : ℕ) (first mid new : Line)
    → IsSameLine first mid → n < length accesses → IsLineMarked accesses groups n mid new
    → IsLineStepped accesses groups n first mid → IsLineStepped accesses groups (n + 1) first new
line_stepped accesses groups n first mid new same n_lt mark was = record {
  spans = then_spans first.pieces.parts.items mid.pieces.parts.items new.pieces.parts.items was.spans
      mark.spans;
  pieces = λ k d lt. by_test k d lt (covers (x k).area
      (cell_on first.res first.shape (get_or first.pieces.parts.items k d).span.start)) refl;
}
  where
    -- the access, by any default
    some : (xs : List Access) → n < length xs → Access
    some [] lt = absurd (omega (arith, lt))
    some (y ∷ ys) lt = y

    x : ℕ → Access
    x k = get_or accesses n (some accesses n_lt)

    x_is : (k : ℕ) → get_or accesses n (x k) ≡ x k
    x_is k = get_or_default accesses n (x k) (some accesses n_lt) n_lt

    start : (k : ℕ) (d : Part Known) → (get_or mid.pieces.parts.items k d).span.start
        ≡ (get_or first.pieces.parts.items k d).span.start
    start k d = ap (λ (t : Span). t.start) (was.spans.spans k d)

    to_mid : (k : ℕ) (d : Part Known) → Covers (x k).area first.res first.shape
        (get_or first.pieces.parts.items k d).span.start
        → Covers (get_or accesses n (x k)).area mid.res mid.shape
        (get_or mid.pieces.parts.items k d).span.start
    to_mid k d covered =
        subst (λ (m : ℕ). Covers (get_or accesses n (x k)).area mid.res mid.shape m) (sym (start k d))
        (at_line (λ r s. Covers (get_or accesses n (x k)).area r s
        (get_or first.pieces.parts.items k d).span.start) first mid same
        (subst (λ (y : Access). Covers y.area first.res first.shape
        (get_or first.pieces.parts.items k d).span.start) (sym (x_is k)) covered))

    to_first : (k : ℕ) (d : Part Known) → Covers (get_or accesses n (x k)).area mid.res mid.shape
        (get_or mid.pieces.parts.items k d).span.start
        → Covers (x k).area first.res first.shape (get_or first.pieces.parts.items k d).span.start
    to_first k d covered =
        subst (λ (y : Access). Covers y.area first.res first.shape
        (get_or first.pieces.parts.items k d).span.start) (x_is k)
        (back_line (λ r s. Covers (get_or accesses n (x k)).area r s
        (get_or first.pieces.parts.items k d).span.start) first mid same
        (subst (λ (m : ℕ). Covers (get_or accesses n (x k)).area mid.res mid.shape m) (start k d) covered))

    by_test : (k : ℕ) (d : Part Known) → k < length first.pieces.parts.items → (b : Bool)
        → covers (x k).area (cell_on first.res first.shape (get_or first.pieces.parts.items k d).span.start)
        ≡ b
        → IsStepped accesses groups (n + 1) first.res first.shape first.pieces.parts.items k d
        (get_or new.pieces.parts.items k d)
    by_test k d lt true is =
        stepped_here accesses groups first.res first.shape first.pieces.size first.pieces.parts.items
        first.pieces.cover k d lt n (x k) n_lt (x_is k) (get_or mid.pieces.parts.items k d)
        (get_or new.pieces.parts.items k d) (was.pieces k d lt) is
        (same_mark accesses groups n first.res mid.res first.shape mid.shape
        (get_or mid.pieces.parts.items k d) (get_or new.pieces.parts.items k d) same.res same.shape
        (mark.marked k (x k) d (let l = was.spans.long in omega (arith, l, lt)) (to_mid k d is)))
    by_test k d lt false is =
        stepped_past accesses groups first.res first.shape first.pieces.size first.pieces.parts.items
        first.pieces.cover k d lt n (x k) n_lt (x_is k) (get_or mid.pieces.parts.items k d)
        (get_or new.pieces.parts.items k d) (was.pieces k d lt)
        (λ covered. let h : true ≡ false = sym covered ∙ is in cc)
        (mark.others k (x k) d (let l = was.spans.long in omega (arith, l, lt))
        (λ covered. let h : true ≡ false = sym (to_first k d covered) ∙ is in cc))

-- one line is marked, and the access has no cell of the others
pub one_marked : (old : List Line) (at : ℕ) (line new : Line) (lt : at < length old)
    (is : line ≡ get_or old at line) → AreSorted old
    → (accesses : List Access) (groups : List Group) (n : ℕ)
    → ((x : Access) → LiesAt line (get_or accesses n x).area)
    → IsLineMarked accesses groups n line new → (k : ℕ) (d : Line) → k < length old
    → IsLineMarked accesses groups n (get_or old k d) (get_or (set old at new) k d)
one_marked old at line new lt is sorted accesses groups n lies mark =
    one_each old at line new lt is (IsLineMarked accesses groups n) mark
    (λ k d k_lt other. record {
      spans = record { long = refl; spans = λ j e. refl };
      others = λ j x e j_lt not_covered. refl;
      marked = λ j x e j_lt covered. absurd (apart old at line new lt is sorted (get_or accesses n x).area
          (lies x) k d k_lt other (covers_res (get_or accesses n x).area (get_or old k d).res
          (get_or old k d).shape (get_or (get_or old k d).pieces.parts.items j e).span.start covered));
    })

-- the lines are still cut for an area
pub lines_cut : (accesses : List Access) (groups : List Group) (n : ℕ) (first new : List Line)
    → AreSameLines first new → ((k : ℕ) (d : Line) → k < length first
    → IsLineStepped accesses groups n (get_or first k d) (get_or new k d)) → (area : Area)
    → AreAllCut area first → AreAllCut area new
lines_cut accesses groups n first new same stepped area cut k d lt =
    let in_first : k < length first = (let l = same.long in omega (arith, l, lt)) in
    at_line (λ r s. IsCutFor area r s (get_or new k d).pieces.parts.items) (get_or first k d)
    (get_or new k d) (same.same k d)
    (cut_spans area (get_or first k d).res (get_or first k d).shape (get_or first k d).pieces.parts.items
    (get_or new k d).pieces.parts.items (stepped k d in_first).spans (cut k d in_first))

-- after all accesses
pub lines_stepped : (accesses : List Access) (groups : List Group) (n : ℕ) (first new : List Line)
    → length accesses ≤ n → AreSameLines first new
    → ((k : ℕ) (d : Line) → k < length first → IsLineStepped accesses groups n (get_or first k d)
    (get_or new k d))
    → ((x : Access) → Contains accesses x → AreAllCut x.area first) → (work : List Step) (step : Step)
    → IsStepOf work step accesses groups → ((x : Access) → Contains accesses x
    → AreAllCaught x.area (length (groups_in work)) first)
    → ((area : Area) → IsRangeOf groups area → AreAllCut area first) → AreLinesOf work first
    → AreLinesOf (work ++ step ∷ []) new
lines_stepped accesses groups n first new over same stepped cut work step is caught ranges stand k d lt =
    let in_first : k < length first = (let l = same.long in omega (arith, l, lt)) in
    let old : Line = get_or first k d in
    let now : Line = get_or new k d in
    let on = stepped k d in_first in
    at_line (λ r s. IsLineOf (work ++ step ∷ []) r s now.pieces.parts.items) old now (same.same k d)
    (λ j e j_lt. (
    let j_in : j < length old.pieces.parts.items = (let l = on.spans.long in omega (arith, l, j_lt)) in
    stepped_all accesses groups old.res old.shape old.pieces.size old.pieces.parts.items old.pieces.cover j
    e j_in (get_or now.pieces.parts.items j e) n over (on.pieces j e j_in) work step is
    (λ x on_x. caught x on_x k d in_first)
    (cut_uniform old.res old.shape old.pieces.parts.items j e j_in step
    (λ x on_x. cut x (subst (λ (xs : List Access). Contains xs x) (sym is.accesses_is) on_x) k d in_first)
    (λ area range. ranges area (subst (λ (gs : List Group). IsRangeOf gs area) (sym is.groups_is) range) k d
    in_first))
    (stand k d in_first j e j_in)))

-- each piece was given as many groups as before its accesses were recorded
pub marked_upto : (accesses : List Access) (groups : List Group) (n : ℕ) → n < length accesses
    → (old new : Line) → IsLineMarked accesses groups n old new → (k : ℕ) (d : Part Known) → k
    < length old.pieces.parts.items
    → (get_or new.pieces.parts.items k d).value.upto ≡ (get_or old.pieces.parts.items k d).value.upto
marked_upto accesses groups n n_lt old new mark k d lt =
    by_test (covers (get_or accesses n x).area (cell_on old.res old.shape
    (get_or old.pieces.parts.items k d).span.start)) refl
  where
    x : Access
    x = some_part accesses (omega (arith, n_lt))

    by_test : (b : Bool) → covers (get_or accesses n x).area
        (cell_on old.res old.shape (get_or old.pieces.parts.items k d).span.start) ≡ b
        → (get_or new.pieces.parts.items k d).value.upto ≡ (get_or old.pieces.parts.items k d).value.upto
    by_test true is = (mark.marked k x d lt is).upto
    by_test false is = ap (λ (p : Part Known). p.value.upto)
        (mark.others k x d lt (λ covered. let h : true ≡ false = sym covered ∙ is in cc))

pub marked_caught : (accesses : List Access) (groups : List Group) (n : ℕ) → n < length accesses
    → (old new : List Line) → AreSameLines old new
    → ((k : ℕ) (d : Line) → k < length old → IsLineMarked accesses groups n (get_or old k d)
    (get_or new k d))
    → (at : Area) (upto : ℕ) → AreAllCaught at upto old → AreAllCaught at upto new
marked_caught accesses groups n n_lt old new same marked at upto was k d lt =
    let in_old : k < length old = (let l = same.long in omega (arith, l, lt)) in
    let l : Line = get_or old k d in
    let m : Line = get_or new k d in
    let mark : IsLineMarked accesses groups n l m = marked k d in_old in
    at_line (λ r s. IsCaughtFor at upto r s m.pieces.parts.items) l m (same.same k d)
    (λ j c e j_lt has covered. (
    let j_in : j < length l.pieces.parts.items = (let z = mark.spans.long in omega (arith, z, j_lt)) in
    marked_upto accesses groups n n_lt l m mark j e j_in
    ∙ was k d in_old j c e j_in (subst (λ (t : Span). InSpan t c) (mark.spans.spans j e) has) covered))
