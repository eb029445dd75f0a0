-- How many of the reports in greatest runs stand for the first of those that were given.
use Rattle.std.proofs.Common.{◌≡◌, ℕ, zero, suc, ◌+◌, ◌<◌, ◌≤◌, ◌⊎◌, inl, inr, Bool, true, false, List, []}
use Rattle.std.proofs.Common.{◌∷◌, ◌++◌, length, get_or, take, refl, sym, ◌∙◌, ap, subst, arith}
use Rattle.std.specs.Prelude.{cond, nat_le, sum_by}
use Rattle.std.specs.List.{All, AllPairs}
use Rattle.std.proofs.Math.Seq.{get_or-append_seam}
use Rattle.std.proofs.lemmas.Bool.Decides.{leb_tells}
use Rattle.std.proofs.lemmas.List.{get_or-take, get_or_append_left, length-append, length-take-le, take_all}
use Rattle.std.proofs.lemmas.List.{take_more}
use Rattle.std.proofs.lemmas.List.Elements.{All-append, All-cons, All-head, All-nil, All-tail}
use Rattle.std.proofs.lemmas.List.Sums.{count_by-le-length, sum_by-append, sum_by-cons}
use Rattle.sv_model.specs.Replies.{reports_up_to}
use Rattle.sv_model.specs.Reports.{spots_of, spots}
use Rattle.sv_model.specs.declared.work.Report.{Report}
use Rattle.sv_runs.proofs.JoinedAreas.{all_front, all_last}
use Rattle.sv_runs.proofs.JoinedReports.{runs_none, spots_more}
use Rattle.sv_runs.specs.Runs.{AreRuns, Grows, joined}
use Rattle.sv_runs.specs.Grouped.{IsNotLater, Moves}

abbrev IsUpTo : ℕ → Report → Type 0
IsUpTo step r = r.later.step ≤ step

-- ---- counting

count_push : (step : ℕ) (rs : List Report) (r : Report) → reports_up_to (rs ++ r ∷ []) step
    ≡ reports_up_to rs step + cond (nat_le r.later.step step) 1 0
count_push step rs r =
    let weight : Report → ℕ = λ x. cond (nat_le x.later.step step) 1 0 in
    let one : sum_by weight (r ∷ []) ≡ weight r = sum_by-cons weight r []
    ∙ (let e : weight r + 0 ≡ weight r = omega arith in e) in
    sum_by-append weight rs (r ∷ []) ∙ ap (λ n. sum_by weight rs + n) one

up_to_test : (r : Report) (step : ℕ) → IsUpTo step r → nat_le r.later.step step ≡ true
up_to_test r step h = elim (leb_tells r.later.step step) [
  | inl q ↦ q.0
  | inr q ↦ absurd (let lt = q.1 in omega (arith, h, lt))
]

count_all : (step : ℕ) (rs : List Report) → All (IsUpTo step) rs → reports_up_to rs step ≡ length rs
count_all step [] all = refl
count_all step (r ∷ rs) all =
    sum_by-cons (λ (x : Report). cond (nat_le x.later.step step) 1 0) r rs
    ∙ ap (λ (b : Bool). cond b 1 0 + reports_up_to rs step)
    (up_to_test r step (All-head (IsUpTo step) r rs all))
    ∙ ap (λ n. 1 + n) (count_all step rs (All-tail (IsUpTo step) r rs all))
    ∙ (let e : 1 + length rs ≡ suc (length rs) = omega arith in e)

-- ---- one more report

grown_up_to : (step : ℕ) (old new : List Report) (r : Report) → Grows old r new → All (IsUpTo step) old
    → IsUpTo step r → All (IsUpTo step) new
grown_up_to step old new r (inl g) all here =
    let before : All (IsUpTo step) (g.kept ++ g.last ∷ []) = subst (All (IsUpTo step)) g.before all in
    subst (All (IsUpTo step)) (sym g.after)
    (All-append (IsUpTo step) g.kept (joined g.last r ∷ []) (all_front (IsUpTo step) g.kept g.last before)
    (All-cons (IsUpTo step) (joined g.last r) [] (all_last (IsUpTo step) g.kept g.last before)
    (All-nil (IsUpTo step))))
grown_up_to step old new r (inr n) all here =
    subst (All (IsUpTo step)) (sym n) (All-append (IsUpTo step) old (r ∷ []) all
    (All-cons (IsUpTo step) r [] here (All-nil (IsUpTo step))))

-- a later report leaves the count as it was
grown_count : (step : ℕ) (old new : List Report) (r : Report) → Grows old r new → nat_le r.later.step step
    ≡ false → reports_up_to new step ≡ reports_up_to old step
grown_count step old new r (inl g) off =
    ap (λ (rs : List Report). reports_up_to rs step) g.after
    ∙ count_push step g.kept (joined g.last r)
    ∙ sym (count_push step g.kept g.last)
    ∙ sym (ap (λ (rs : List Report). reports_up_to rs step) g.before)
grown_count step old new r (inr n) off =
    ap (λ (rs : List Report). reports_up_to rs step) n
    ∙ count_push step old r
    ∙ ap (λ (b : Bool). reports_up_to old step + cond b 1 0) off
    ∙ (let e : reports_up_to old step + 0 ≡ reports_up_to old step = omega arith in e)

-- ---- the loop

-- What holds when so many of the reports were added.
pub record AreAdded (reports : List Report) (i : ℕ) (grouped : List Report) (numbers : List ℕ) : Type 0 where
  pub runs : AreRuns grouped
  pub whole : spots_of grouped ≡ spots_of (take i reports)
  pub long : length numbers ≡ i + 1
  pub bound : (step : ℕ) → All (IsUpTo step) (take i reports) → All (IsUpTo step) grouped
  pub moves : AllPairs IsNotLater reports → (step : ℕ)
      → get_or numbers (reports_up_to (take i reports) step) 0 ≡ reports_up_to grouped step

get_or_any : (rs : List Report) (i : ℕ) (d e : Report) → i < length rs → get_or rs i d ≡ get_or rs i e
get_or_any [] i d e lt = absurd (omega (arith, lt))
get_or_any (r ∷ rs) zero d e lt = refl
get_or_any (r ∷ rs) (suc i) d e lt = get_or_any rs i d e (omega (arith, lt))

last_or_before : (k i : ℕ) → k < i + 1 → (k < i) ⊎ (k ≡ i)
last_or_before zero zero lt = inr refl
last_or_before zero (suc i) lt = inl (omega arith)
last_or_before (suc k) zero lt = absurd (omega (arith, lt))
last_or_before (suc k) (suc i) lt = elim (last_or_before k i (omega (arith, lt))) [
  | inl earlier ↦ inl (omega (arith, earlier))
  | inr same ↦ inr (ap suc same)
]

-- all reports up to one are of its step or earlier ones
all_up_to : (reports : List Report) (i step : ℕ) (d : Report) → i < length reports
    → AllPairs IsNotLater reports → IsUpTo step (get_or reports i d)
    → All (IsUpTo step) (take (i + 1) reports)
all_up_to reports i step d lt ord here j e inside =
    let many : length (take (i + 1) reports) ≡ i + 1 = length-take-le (i + 1) reports (omega (arith, lt)) in
    let below : j < i + 1 = subst (λ n. j < n) many inside in
    subst (IsUpTo step) (sym (get_or-take (i + 1) reports j e below)) (elim (last_or_before j i below) [
      | inl before ↦ (let le = ord j i e before lt in let h = at_end e in omega (arith, le, h))
      | inr same ↦ subst (λ k. IsUpTo step (get_or reports k e)) (sym same) (at_end e)
    ])
  where
    at_end : (e : Report) → IsUpTo step (get_or reports i e)
    at_end e = subst (IsUpTo step) (get_or_any reports i d e lt) here

pub one_added : (reports old new : List Report) (i : ℕ) (d r : Report) (before after : List ℕ) → i
    < length reports → r ≡ get_or reports i d
    → AreAdded reports i old before → spots_of new ≡ spots_of old ++ spots r → AreRuns new → Grows old r new
    → after ≡ before ++ length new ∷ []
    → AreAdded reports (i + 1) new after
one_added reports old new i d r before after lt given are whole runs grows more = record {
  runs = runs;
  whole = whole ∙ ap (λ xs. xs ++ spots r) are.whole ∙ sym (spots_more (take i reports) r)
      ∙ sym (ap spots_of taken);
  long = ap length more ∙ length-append before (length new ∷ [])
      ∙ (let e = are.long in let f : length before + 1 ≡ i + 1 + 1 = omega (arith, e) in f);
  bound = λ step all.
      let both : All (IsUpTo step) (take i reports ++ r ∷ []) = subst (All (IsUpTo step)) taken all in
      grown_up_to step old new r grows (are.bound step (all_front (IsUpTo step) (take i reports) r both))
      (all_last (IsUpTo step) (take i reports) r both);
  moves = λ ord step. by_step ord step (leb_tells r.later.step step);
} where
  at : r ≡ get_or reports i r
  at = given ∙ get_or_any reports i d r lt

  taken : take (i + 1) reports ≡ take i reports ++ r ∷ []
  taken = take_more reports i r lt ∙ ap (λ (x : Report). take i reports ++ x ∷ []) (sym at)

  by_step : AllPairs IsNotLater reports → (step : ℕ)
      → ((nat_le r.later.step step ≡ true) × (r.later.step ≤ step))
      ⊎ ((nat_le r.later.step step ≡ false) × (step < r.later.step))
      → get_or after (reports_up_to (take (i + 1) reports) step) 0 ≡ reports_up_to new step
  by_step ord step (inl q) =
      let all : All (IsUpTo step) (take (i + 1) reports) =
      all_up_to reports i step r lt ord (subst (IsUpTo step) at q.1) in
      let both : All (IsUpTo step) (take i reports ++ r ∷ []) = subst (All (IsUpTo step)) taken all in
      let news = grown_up_to step old new r grows
      (are.bound step (all_front (IsUpTo step) (take i reports) r both)) q.1 in
      let count : reports_up_to (take (i + 1) reports) step ≡ length before =
      count_all step (take (i + 1) reports) all ∙ length-take-le (i + 1) reports (omega (arith, lt))
      ∙ sym are.long in
      (λ j. get_or (more j) (count j) 0) ∙ get_or-append_seam before (length new) [] 0
      ∙ sym (count_all step new news)
  by_step ord step (inr q) =
      let same : reports_up_to (take (i + 1) reports) step ≡ reports_up_to (take i reports) step =
      ap (λ (rs : List Report). reports_up_to rs step) taken ∙ count_push step (take i reports) r
      ∙ ap (λ (b : Bool). reports_up_to (take i reports) step + cond b 1 0) q.0
      ∙ (let e : reports_up_to (take i reports) step + 0 ≡ reports_up_to (take i reports) step = omega arith
      in e) in
      let few = count_by-le-length (λ (x : Report). nat_le x.later.step step) (take i reports) in
      let many : length (take i reports) ≡ i = length-take-le i reports (omega (arith, lt)) in
      let long = are.long in
      let inside : reports_up_to (take i reports) step < length before = omega (arith, few, many, long) in
      (λ j. get_or (more j) (same j) 0) ∙ get_or_append_left before (length new ∷ []) 0
      (reports_up_to (take i reports) step) inside
      ∙ are.moves ord step ∙ sym (grown_count step old new r grows q.0)

pub all_added : (reports grouped : List Report) (i : ℕ) (numbers : List ℕ) → length reports ≤ i
    → AreAdded reports i grouped numbers
    → (spots_of grouped ≡ spots_of reports) × Moves reports grouped (λ (k : ℕ). get_or numbers k 0)
all_added reports grouped i numbers le are =
    let all : take i reports ≡ reports = take_all i reports le in (
      are.whole ∙ ap spots_of all,
      λ ord step. ap (λ (rs : List Report). get_or numbers
          (reports_up_to rs step) 0) (sym all) ∙ are.moves ord step,
    )
