-- The reports of one more step go on from those before it, in greatest runs.
use Rattle.std.proofs.Common.{ℕ, zero, suc, ◌+◌, ◌-◌, ◌<◌, ◌≤◌, ◌≡◌, ◌⊎◌, inl, inr, Bool}
use Rattle.std.proofs.Common.{cond, List, [], ◌∷◌, ◌++◌, length, get_or, map, refl, sym}
use Rattle.std.proofs.Common.{ap, subst, arith, Contains}
use Rattle.std.specs.Prelude.{nat_le}
use Rattle.std.specs.List.{sum_by}
use Rattle.std.specs.List.{All, AllPairs, range_with_len}
use Rattle.std.proofs.lemmas.Bool.{le-leb, lt-leb}
use Rattle.std.proofs.lemmas.Grind.{flat_map-append}
use Rattle.std.proofs.lemmas.List.{get_or_default}
use Rattle.std.proofs.lemmas.List.Elements.{All-append, All-contains, All-head}
use Rattle.std.proofs.lemmas.List.Elements.{All-tail, Contains-append_left}
use Rattle.std.proofs.lemmas.List.Elements.{Contains-append_right, Contains-append_cases}
use Rattle.std.proofs.lemmas.List.Kept.{AllPairs-cons}
use Rattle.std.proofs.lemmas.List.Sums.{sum_by-append, sum_by-cons}
use Rattle.sv_model.specs.Cells.{cells_of}
use Rattle.sv_model.specs.Notes.{Noted}
use Rattle.sv_model.specs.Notes.{noted}
use Rattle.sv_model.specs.Order.{Story}
use Rattle.sv_model.specs.Replies.{among, note_behind, reports_up_to}
use Rattle.sv_model.specs.Reports.{AreApart, AreNumbered, AreReportsFrom, IsNumbered, IsReported, IsRun}
use Rattle.sv_model.specs.Reports.{Joins, Spot, SpotBefore, spots, spots_of, story_of}
use Rattle.sv_model.specs.declared.work.Access.{Access}
use Rattle.sv_model.specs.declared.work.Area.{Area}
use Rattle.sv_model.specs.declared.work.Area.TheVariants.{Bytes, Image}
use Rattle.sv_model.specs.declared.work.Cell.{Cell}
use Rattle.sv_model.specs.declared.work.Cell.TheVariants.{Byte, Texel}
use Rattle.sv_model.specs.declared.work.Note.{Note}
use Rattle.sv_model.specs.declared.work.Note.TheVariants as note
use Rattle.sv_model.specs.declared.work.Report.{Report}
use Rattle.sv_model.specs.declared.work.Step.{Step}
use Rattle.sv_model.proofs.Current.{reported_old}
use Rattle.sv_model.proofs.Lists.{from_flat_map, in_cons, in_cons_cases, in_first}
use Rattle.sv_model.proofs.Works.{accesses_on, deps_of, step_at, story_grows, work_below}
use Rattle.sv_runs.specs.Runs.{AreRuns}

-- two lists of which each element of the first one is before each of the second
pairs_append : (xs ys : List Spot) → AllPairs SpotBefore xs → AllPairs SpotBefore ys
    → ((x y : Spot) → Contains xs x → Contains ys y → SpotBefore x y) → AllPairs SpotBefore (xs ++ ys)
pairs_append [] ys one two across = two
pairs_append (x ∷ xs) ys one two across =
    AllPairs-cons SpotBefore x (xs ++ ys)
    (All-append (SpotBefore x) xs ys
    (λ k d lt. one 0 (suc k) d (omega arith) (omega arith))
    (λ k d lt. across x (get_or ys k d) (in_first x xs) (k, lt, get_or_default ys k (get_or ys k d) d lt)))
    (pairs_append xs ys (λ i j d lt len. one (suc i) (suc j) d (omega arith) (omega arith)) two
    (λ y z on_y on_z. across y z (in_cons x xs y on_y) on_z))

module _ (work : List Step) (step : Step) (numbered : AreNumbered work)
    (is : IsNumbered (length work) step) where
  was_reported : (s : Spot) → s.later.step < length work
      → IsReported (story_of (work ++ step ∷ []) s.cell) s.later s.earlier s.kind
      → IsReported (story_of work s.cell) s.later s.earlier s.kind
  was_reported s lt r = (reported_old (story_of work s.cell) (accesses_on step s.cell) (deps_of step)
      (length work) (work_below work s.cell numbered)
      (step_at (length work) step s.cell is) s.later s.earlier s.kind lt).1
      (subst (λ (t : Story). IsReported t s.later s.earlier s.kind) (story_grows work step s.cell) r)

  stays_reported : (s : Spot) → s.later.step < length work
      → IsReported (story_of work s.cell) s.later s.earlier s.kind
      → IsReported (story_of (work ++ step ∷ []) s.cell) s.later s.earlier s.kind
  stays_reported s lt r = subst (λ (t : Story). IsReported t s.later s.earlier s.kind)
      (sym (story_grows work step s.cell)) ((reported_old (story_of work s.cell) (accesses_on step s.cell)
      (deps_of step) (length work) (work_below work s.cell numbered)
      (step_at (length work) step s.cell is) s.later s.earlier s.kind lt).0 r)

  is_below : (s : Spot) → IsReported (story_of work s.cell) s.later s.earlier s.kind → s.later.step
      < length work
  is_below s r = (work_below work s.cell numbered).accesses s.later r.listed

  before_or_from : (k m : ℕ) → (k < m) ⊎ (m ≤ k)
  before_or_from k m = grind arith

  -- the reports from a step on of the longer work are those of the work and then those of the step
  pub reports_go_on : (first : ℕ) → first ≤ length work → (old new : List Spot)
      → AreReportsFrom first work old → AreReportsFrom (length work) (work ++ step ∷ []) new
      → AreReportsFrom first (work ++ step ∷ []) (old ++ new)
  reports_go_on first le old new o n = record {
    only = λ s on. elim (Contains-append_cases old new s on) [
      | inl was ↦ (let r = o.only s was in record
          { at = r.at; reported = stays_reported s (is_below s r.reported) r.reported })
      | inr now ↦ (let r = n.only s now in record
          { at = (let at = r.at in omega (arith, at, le)); reported = r.reported })
    ];
    all = λ s r. elim (before_or_from s.later.step (length work)) [
      | inl before ↦ Contains-append_left old new s
          (o.all s (record { at = r.at; reported = was_reported s before r.reported }))
      | inr from ↦ Contains-append_right old new s (n.all s (record { at = from; reported = r.reported }))
    ];
    in_order = pairs_append old new o.in_order n.in_order
        (λ s t on_s on_t. inl (inl (let h = is_below s (o.only s on_s).reported in let k = (n.only t on_t).at
        in omega (arith, h, k))));
  }

pub spots_append : (old more : List Report) → spots_of (old ++ more) ≡ spots_of old ++ spots_of more
unfolding spots_of
spots_append old more = flat_map-append spots old more

pub in_map : {X Y : Type 0} (f : X → Y) (xs : List X) (x : X) → Contains xs x → Contains (map f xs) (f x)
in_map f [] x c = absurd (let h = c.1 in omega arith)
in_map f (y ∷ ys) x c = elim (in_cons_cases y ys x c) [
  | inl same ↦ subst (λ z. Contains (f y ∷ map f ys) (f z)) same (in_first (f y) (map f ys))
  | inr later ↦ in_cons (f y) (map f ys) (f x) (in_map f ys x later)
]

range_first : (a n : ℕ) → 0 < n → Contains (range_with_len a n) a
range_first a zero h = absurd (omega arith)
range_first a (suc n) h = in_first a (range_with_len (a + 1) n)

-- a run has a cell
pub some_cell : (a : Area) → IsRun a → (c : Cell) × Contains (cells_of a) c
unfolding cells_of
some_cell (Bytes res span) h = (
  Byte res span.start,
  in_map (λ at. Byte res at) (range_with_len span.start (span.end - span.start)) span.start
      (range_first span.start (span.end - span.start) (omega arith)),
)
some_cell (Image res box) h = (
  Texel res box.mip box.layer,
  from_flat_map (λ mip. map (λ layer. Texel res mip layer) (range_with_len box.layer box.layers))
      (range_with_len box.mip box.mips) box.mip (Texel res box.mip box.layer)
      (range_first box.mip box.mips (let e = h.0 in omega arith))
      (in_map (λ layer. Texel res box.mip layer) (range_with_len box.layer box.layers) box.layer
      (range_first box.layer box.layers h.1)),
)

abbrev spot_at : Report → Cell → Spot
spot_at r cell = record { cell = cell; later = r.later; earlier = r.earlier; kind = r.kind }

-- each of the reports has a spot
some_spot : (rs : List Report) → AreRuns rs → (r : Report) → Contains rs r → (cell : Cell)
    × Contains (spots_of rs) (spot_at r cell)
unfolding spots_of
some_spot rs runs r on =
    let c = some_cell r.area (All-contains (λ (x : Report). IsRun x.area) rs r runs.runs on) in
    (c.0, from_flat_map spots rs r (spot_at r c.0) on (in_map (spot_at r) (cells_of r.area) c.0 c.1))

apart_append : (old more : List Report) → AreApart old → AreApart more
    → ((r s : Report) → Contains old r → Contains more s → ¬ Joins r s) → AreApart (old ++ more)
apart_append [] more a b across = b
apart_append (r ∷ []) [] a b across = tt
apart_append (r ∷ []) (s ∷ more) a b across = (across r s (in_first r []) (in_first s more), b)
apart_append (r ∷ s ∷ old) more a b across = (
  a.0,
  apart_append (s ∷ old) more a.1 b (λ x y on_x on_y. across x y (in_cons r (s ∷ old) x on_x) on_y),
)

runs_append : (old more : List Report) → AreRuns old → AreRuns more
    → ((r s : Report) → Contains old r → Contains more s → ¬ Joins r s) → AreRuns (old ++ more)
runs_append old more a b across = record {
  runs = All-append (λ (r : Report). IsRun r.area) old more a.runs b.runs;
  apart = apart_append old more a.apart b.apart across;
}

-- the reports of a work are of its steps
pub reports_below : (first : ℕ) (work : List Step) (rs : List Report) → AreNumbered work
    → AreReportsFrom first work (spots_of rs) → AreRuns rs → (r : Report) → Contains rs r → r.later.step
    < length work
reports_below first work rs numbered reports runs r on =
    let s = some_spot rs runs r on in
    (work_below work s.0 numbered).accesses r.later (reports.only (spot_at r s.0) s.1).reported.listed

pub reports_from : (first : ℕ) (work : List Step) (rs : List Report) → AreReportsFrom first work (spots_of rs)
    → AreRuns rs → (r : Report) → Contains rs r → first ≤ r.later.step
reports_from first work rs reports runs r on =
    let s = some_spot rs runs r on in
    (reports.only (spot_at r s.0) s.1).at

-- the reports of earlier steps and those of a later one, in greatest runs
pub runs_go_on : (first : ℕ) (work : List Step) (step : Step) (old new : List Report) → AreNumbered work
    → AreReportsFrom first work (spots_of old) → AreRuns old
    → AreReportsFrom (length work) (work ++ step ∷ []) (spots_of new) → AreRuns new → AreRuns (old ++ new)
runs_go_on first work step old new numbered o runs_o n runs_n =
    runs_append old new runs_o runs_n (λ r s on_r on_s j. (
    let steps : r.later.step ≡ s.later.step = ap (λ (a : Access). a.step) j.later in
    let before = reports_below first work old numbered o runs_o r on_r in
    let from = reports_from (length work) (work ++ step ∷ []) new n runs_n s on_s in
    omega (arith, steps, before, from)))

-- How many reports stand before a note.

sum_zero : {X : Type 0} (f : X → ℕ) (xs : List X) → ((x : X) → Contains xs x → f x ≡ 0) → sum_by f xs ≡ 0
sum_zero f [] none = refl
sum_zero f (x ∷ xs) none = let a = none x (in_first x xs) in let b =
    sum_zero f xs (λ y on. none y (in_cons x xs y on)) in let c = sum_by-cons f x xs in
    omega (arith, a, b, c)

sum_each : {X : Type 0} (f : X → ℕ) (xs : List X) → ((x : X) → Contains xs x → f x ≡ 1) → sum_by f xs
    ≡ length xs
sum_each f [] each = refl
sum_each f (x ∷ xs) each = let a = each x (in_first x xs) in let b =
    sum_each f xs (λ y on. each y (in_cons x xs y on)) in let c = sum_by-cons f x xs in
    omega (arith, a, b, c)

abbrev counts : ℕ → Report → ℕ
counts n r = cond (nat_le r.later.step n) 1 0

-- reports of later steps do not count
up_to_more : (old new : List Report) (n : ℕ) → ((r : Report) → Contains new r → n < r.later.step)
    → reports_up_to (old ++ new) n ≡ reports_up_to old n
up_to_more old new n later =
    let none : sum_by (counts n) new ≡ 0 = sum_zero (counts n) new
    (λ r on. ap (λ (b : Bool). cond {A = ℕ} b 1 0) (lt-leb r.later.step n (later r on))) in
    let both : reports_up_to (old ++ new) n ≡ reports_up_to old n + sum_by (counts n) new =
    sum_by-append (counts n) old new in
    omega (arith, none, both)

-- all reports of these steps count
up_to_all : (rs : List Report) (n : ℕ) → ((r : Report) → Contains rs r → r.later.step ≤ n)
    → reports_up_to rs n ≡ length rs
up_to_all rs n within = sum_each (counts n) rs (λ r on. ap (λ (b : Bool). cond {A = ℕ} b 1 0)
    (le-leb r.later.step n (within r on)))

abbrev pub IsBelow : ℕ → Noted → Type 0
IsBelow bound n = n.step < bound

pub among_more : (old new : List Report) (bound : ℕ) → ((r : Report) → Contains new r → bound ≤ r.later.step)
    → (ns : List Noted) → All (IsBelow bound) ns → among (old ++ new) ns ≡ among old ns
among_more old new bound from [] all = refl
among_more old new bound from (n ∷ ns) all =
    let lt = All-head (IsBelow bound) n ns all in
    let e = up_to_more old new n.step (λ r on. (let le = from r on in omega (arith, lt, le))) in
    (λ j. note_behind (e j) n.note ∷ among_more old new bound from ns (All-tail (IsBelow bound) n ns all) j)

pub among_last : (rs : List Report) (step : ℕ) → ((r : Report) → Contains rs r → r.later.step ≤ step)
    → (notes : List Note) → among rs (noted step notes) ≡ map (note_behind (length rs)) notes
among_last rs step within [] = refl
among_last rs step within (n ∷ notes) = (λ j. note_behind (up_to_all rs step within j) n
    ∷ among_last rs step within notes j)
