-- How many pieces lines have more after areas were cut, and how many a space has at most.
use Rattle.std.proofs.Common.{ℕ, zero, suc, ◌≡◌, ◌<◌, ◌≤◌, ◌+◌, ◌*◌, List, [], ◌∷◌, ◌++◌, length, get_or}
use Rattle.std.proofs.Common.{arith, refl, ap, subst, take}
use Rattle.std.specs.Prelude.{sum_by}
use Rattle.std.proofs.Math.ListN.{set}
use Rattle.std.proofs.lemmas.List.{take_all}
use Rattle.std.proofs.lemmas.List.Sums.{sum_by-cons, sum_by-le, sum_by-set, sum_by_more, sum_by_push}
use Rattle.sv_model.specs.Reports.{accesses_of, groups_of}
use Rattle.sv_model.specs.declared.line.Trace.{Trace}
use Rattle.sv_model.specs.declared.work.Access.{Access}
use Rattle.sv_model.specs.declared.work.Group.{Group}
use Rattle.sv_model.specs.declared.work.Step.{Step}
use Rattle.sv_space.specs.AllLines.{AreFresh}
use Rattle.sv_space.specs.Counts.{pieces_on}
use Rattle.sv_space.specs.Growth.{GrowBy, pieces_over}
use Rattle.sv_space.specs.Runs.{access_runs, group_runs, runs_in, step_runs}
use Rattle.sv_space.specs.Space.{HasResources, IsSpaceOf, pieces_in}
use Rattle.sv_space.specs.declared.line.Line.{Line}
use Rattle.sv_space.specs.declared.space.Space.{Space}

-- One line changed, or one item after another of a list was cut.

pub one_grows : (old : List Line) (at : ℕ) (line new : Line) → at < length old → line ≡ get_or old at line
    → (runs : ℕ) → pieces_on new ≤ pieces_on line + 2 * runs → GrowBy runs old (set old at new)
one_grows old at line new lt is runs few =
    let s = sum_by-set pieces_on old at new line lt in
    let e = ap pieces_on is in
    omega (arith, s, e, few)

pub grown_none : (runs : ℕ) (lines : List Line) → GrowBy runs lines lines
grown_none runs lines = omega arith

module _ {X : Type 0} (f : X → ℕ) (xs : List X) (i : ℕ) (first new : List Line) where
  pub grown_more : (x : X) → i < length xs → get_or xs i x ≡ x → (old : List Line)
      → GrowBy (sum_by f (take i xs)) first old → GrowBy (f x) old new
      → GrowBy (sum_by f (take (i + 1) xs)) first new
  grown_more x lt is old was now =
      let s = sum_by_more f xs i x lt in
      let e = ap f is in
      omega (arith, s, e, was, now)

  pub grown_all : length xs ≤ i → GrowBy (sum_by f (take i xs)) first new → GrowBy (sum_by f xs) first new
  grown_all le was = subst (λ (ys : List X). GrowBy (sum_by f ys) first new) (take_all i xs le) was

-- What has the same number at each place has the same sum.

pub same_sum : {X : Type 0} (f : X → ℕ) (xs ys : List X) → length ys ≡ length xs
    → ((k : ℕ) (d : X) → k < length xs → f (get_or ys k d) ≡ f (get_or xs k d)) → sum_by f ys ≡ sum_by f xs
same_sum f [] [] long same = refl
same_sum f [] (y ∷ ys) long same = absurd (omega (arith, long))
same_sum f (x ∷ xs) [] long same = absurd (omega (arith, long))
same_sum f (x ∷ xs) (y ∷ ys) long same =
    let rest = same_sum f xs ys (omega (arith, long)) (λ k d lt. same (suc k) d (omega (arith, lt))) in
    let head = same zero x (omega arith) in
    let a = sum_by-cons f x xs in
    let b = sum_by-cons f y ys in
    omega (arith, rest, head, a, b)

-- The pieces of a space.

pub fresh_few : (lines : List Line) → AreFresh lines → pieces_over lines ≤ length lines + 2 * runs_in []
fresh_few lines fresh =
    let s = sum_by-le pieces_on 1 lines (λ k d lt. let o = (fresh k d lt).one in omega (arith, o)) in
    omega (arith, s)

runs_more : (work : List Step) (step : Step) → runs_in (work ++ step ∷ []) ≡ runs_in work + step_runs step
unfolding runs_in
runs_more work step = sum_by_push step_runs work step

-- after the accesses and the ranges of one more step were cut, and the accesses recorded
pub few_more : (work : List Step) (step : Step) (accesses : List Access) (groups : List Group)
    → accesses ≡ accesses_of step → groups ≡ groups_of step → (old mid cut new : List Line)
    → pieces_over old ≤ length old + 2 * runs_in work → GrowBy (sum_by access_runs accesses) old mid
    → GrowBy (sum_by group_runs groups) mid cut → pieces_over new ≡ pieces_over cut
    → length new ≡ length old → pieces_over new ≤ length new + 2 * runs_in (work ++ step ∷ [])
few_more work step accesses groups are_accesses are_groups old mid cut new few first second same long =
    let a = ap (λ (xs : List Access). sum_by access_runs xs) are_accesses in
    let g = ap (λ (gs : List Group). sum_by group_runs gs) are_groups in
    let r = runs_more work step in
    omega (arith, a, g, r, few, first, second, same, long)

few_on : (space : Space) (n : ℕ) → pieces_over space.lines.items ≤ n → pieces_in space ≤ n
unfolding pieces_in
few_on space n few = grind (arith, few)

pub pieces_are_few : (t : Trace) (work : List Step) (space : Space) → HasResources t space
    → IsSpaceOf space work → pieces_in space ≤ length t.resources + 2 * runs_in work
pieces_are_few t work space has is =
    let l = has.lines in
    let f = is.few in
    few_on space (length t.resources + 2 * runs_in work) (omega (arith, l, f))
