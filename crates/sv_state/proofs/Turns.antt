-- Runs in the order of their numbers.
use Rattle.std.proofs.Common.{ℕ, ◌≡◌, ◌<◌, ◌≤◌, ◌+◌, ◌-◌, ◌⊎◌, ◌++◌, ◌∷◌, [], inl, inr, List, arith, length}
use Rattle.std.proofs.Common.{length-set, get_or, sym, ◌∙◌, ap, subst, take, Contains}
use Rattle.std.proofs.Math.ListN.{set}
use Rattle.std.proofs.lemmas.Bool.{cases_lt}
use Rattle.std.proofs.lemmas.List.{get_or_default, get_or-set_other, get_or-set_same}
use Rattle.std.proofs.lemmas.List.{get_or-take, length-take-le}
use Rattle.std.proofs.lemmas.List.Elements.{All-push}
use Rattle.std.proofs.lemmas.List.Quantifiers.{all_pairs_push}
use Rattle.sv_state.specs.declared.runs.Run.{Run}
use Rattle.sv_state.specs.Turns.{AreInTurn, EndBefore, EndBy, HaveNumbers, Reach}

same_or_less : (k m : ℕ) → k ≤ m → (k ≡ m) ⊎ (k < m)
same_or_less k m le = grind arith

first_at : (runs : List Run) (m : ℕ) (r d : Run) → r ≡ get_or runs m r → m < length runs
    → (get_or runs m d).first ≡ r.first
first_at runs m r d is lt = ap (λ (s : Run). s.first) (sym (is ∙ get_or_default runs m r d lt))

module _ (runs : List Run) (turn : AreInTurn runs) (have : HaveNumbers runs) where
  -- the numbers at which runs end rise
  ends : (k m : ℕ) (d : Run) → k ≤ m → m < length runs → (get_or runs k d).last ≤ (get_or runs m d).last
  ends k m d le lt = elim (same_or_less k m le) [
    | inl same ↦ (let e = ap (λ (n : ℕ). (get_or runs n d).last) same in omega (arith, e))
    | inr less ↦ (let t = turn k m d less lt in let h = have m d lt in omega (arith, t, h))
  ]

  -- with one run those before it end before the number
  pub ends_below : (m number : ℕ) (e : Run) → m < length runs → (get_or runs m e).last < number
      → (k : ℕ) (d : Run) → k < m + 1 → (get_or runs k d).last < number
  ends_below m number e lt less k d k_lt =
      let same = ap (λ (r : Run). r.last) (get_or_default runs m e d lt) in
      let h = ends k m d (omega (arith, k_lt)) lt in
      omega (arith, same, h, less)

  -- with one run those behind it don't end before the number
  pub ends_behind : (m number : ℕ) (e : Run) → m < length runs → number ≤ (get_or runs m e).last
      → (k : ℕ) (d : Run) → m ≤ k → k < length runs → number ≤ (get_or runs k d).last
  ends_behind m number e lt more k d le k_lt =
      let same = ap (λ (r : Run). r.last) (get_or_default runs m e d lt) in
      let h = ends m k d le k_lt in
      omega (arith, same, h, more)

  -- with the last run all end before the number
  pub all_below : (m number : ℕ) (e : Run) → m + 1 ≡ length runs → (get_or runs m e).last < number
      → EndBefore number runs
  all_below m number e last less k d k_lt = ends_below m number e (omega (arith, last)) less k d
      (omega (arith, last, k_lt))

  -- the run at the place that was looked for is the one that has the number, if one does
  pub run_at : (place number : ℕ) (e r : Run) → place < length runs
      → ((k : ℕ) (f : Run) → k < place → (get_or runs k f).last < number)
      → ((k : ℕ) (f : Run) → place ≤ k → k < length runs → number ≤ (get_or runs k f).last)
      → Contains runs r → r.first ≤ number → number ≤ r.last → get_or runs place e ≡ r
  run_at place number e r lt before behind (k, k_lt, here) low high = elim (cases_lt k place) [
    | inl less ↦ absurd (
        let is : (get_or runs k r).last ≡ r.last = ap (λ (s : Run). s.last) here in
        let b = before k r less in
        omega (arith, is, b, high))
    | inr le ↦ elim (same_or_less place k le) [
      | inl same ↦ (
          let at : get_or runs place r ≡ r = subst (λ (n : ℕ). get_or runs n r ≡ r) (sym same) here in
          get_or_default runs place e r lt ∙ at)
      | inr less ↦ absurd (
          let is : (get_or runs k r).first ≡ r.first = ap (λ (s : Run). s.first) here in
          let b = behind place r (omega arith) lt in
          let t = turn place k r less k_lt in
          omega (arith, is, b, t, low))
    ]
  ]

  -- one run more, which begins with the number
  pub turn_push : (number : ℕ) (r : Run) → r.first ≡ number → EndBefore number runs
      → AreInTurn (runs ++ r ∷ [])
  turn_push number r first end = all_pairs_push (λ (s t : Run). s.last < t.first) runs r turn
      (λ k d lt. (let e = end k d lt in omega (arith, e, first)))

  pub have_push : (r : Run) → r.first ≡ r.last → HaveNumbers (runs ++ r ∷ [])
  have_push r one = All-push (λ (s : Run). s.first ≤ s.last) runs r have (omega (arith, one))

  -- the last run ends elsewhere
  module _ (n : ℕ) (old longer : Run) (is : old ≡ get_or runs n old) (last : n + 1 ≡ length runs)
      (first : longer.first ≡ old.first) where
    long : length (set runs n longer) ≡ length runs
    long = length-set runs n longer

    now : (d : Run) → get_or (set runs n longer) n d ≡ longer
    now d = get_or-set_same runs n longer d (omega (arith, last))

    -- the run at another place
    other : (k : ℕ) (d : Run) → k < n → get_or (set runs n longer) k d ≡ get_or runs k d
    other k d lt = get_or-set_other runs n k longer d (λ e. absurd (omega (arith, e, lt)))

    -- each run begins where it began
    begins : (k : ℕ) (d : Run) → k ≤ n → (get_or (set runs n longer) k d).first ≡ (get_or runs k d).first
    begins k d le = elim (same_or_less k n le) [
      | inl same ↦ subst (λ (m : ℕ). (get_or (set runs n longer) m d).first ≡ (get_or runs m d).first)
          (sym same) (ap (λ (r : Run). r.first) (now d) ∙ first
          ∙ sym (first_at runs n old d is (omega (arith, last))))
      | inr less ↦ ap (λ (r : Run). r.first) (other k d less)
    ]

    pub turn_longer : AreInTurn (set runs n longer)
    turn_longer i j d lt j_lt =
        let l = long in
        let in_list : j < length runs = omega (arith, j_lt, l) in
        let e : (get_or (set runs n longer) i d).last ≡ (get_or runs i d).last =
        ap (λ (r : Run). r.last) (other i d (omega (arith, lt, in_list, last))) in
        let b = begins j d (omega (arith, in_list, last)) in
        let t = turn i j d lt in_list in
        omega (arith, e, b, t)

    pub have_longer : longer.first ≤ longer.last → HaveNumbers (set runs n longer)
    have_longer some k d lt =
        let l = long in
        let in_list : k < length runs = omega (arith, lt, l) in
        elim (same_or_less k n (omega (arith, in_list, last))) [
          | inl same ↦ subst
              (λ (m : ℕ). (get_or (set runs n longer) m d).first ≤ (get_or (set runs n longer) m d).last)
              (sym same) (subst (λ (r : Run). r.first ≤ r.last) (sym (now d)) some)
          | inr less ↦ subst (λ (r : Run). r.first ≤ r.last) (sym (other k d less)) (have k d in_list)
        ]

-- where all runs end before the number none has it
pub none_has : (runs : List Run) (place number : ℕ) (r : Run) → length runs ≤ place
    → ((k : ℕ) (e : Run) → k < place → (get_or runs k e).last < number) → Contains runs r → number ≤ r.last
    → ⊥
none_has runs place number r over before (k, k_lt, here) high =
    let e : (get_or runs k r).last ≡ r.last = ap (λ (s : Run). s.last) here in
    let b = before k r (omega (arith, k_lt, over)) in
    absurd (omega (arith, e, b, high))

pub end_none : (runs : List Run) (number : ℕ) → length runs ≡ 0 → EndBefore number runs
end_none runs number none k d lt = absurd (omega (arith, none, lt))

pub reach_at : (runs : List Run) (number : ℕ) (e : Run) → 0 < length runs
    → number ≤ (get_or runs (length runs - 1) e).last → Reach number runs
reach_at runs number e some le = record {
  some = some;
  last = λ d. (
      let same = ap (λ (r : Run). r.last) (get_or_default runs (length runs - 1) e d (omega (arith, some))) in
      omega (arith, same, le));
}

pub by_at : (runs : List Run) (number : ℕ) (e : Run) → (get_or runs (length runs - 1) e).last ≤ number
    → EndBy number runs
by_at runs number e le d some =
    let same = ap (λ (r : Run). r.last) (get_or_default runs (length runs - 1) e d (omega (arith, some))) in
    omega (arith, same, le)

-- the last run ends at the number
pub ends_here : (runs : List Run) (number : ℕ) (d : Run) → EndBy number runs → Reach number runs
    → (get_or runs (length runs - 1) d).last ≡ number
ends_here runs number d by reach =
    let b = by d reach.some in
    let r = reach.last d in
    omega (arith, b, r)

-- without the last run
module _ (runs : List Run) (turn : AreInTurn runs) (have : HaveNumbers runs) (n : ℕ)
    (last : n + 1 ≡ length runs) where
  long_taken : length (take n runs) ≡ n
  long_taken = length-take-le n runs (omega (arith, last))

  same_taken : (k : ℕ) (d : Run) → k < n → get_or (take n runs) k d ≡ get_or runs k d
  same_taken k d lt = get_or-take n runs k d lt

  pub turn_taken : AreInTurn (take n runs)
  turn_taken i j d lt j_lt =
      let l = long_taken in
      let e = ap (λ (r : Run). r.last) (same_taken i d (omega (arith, lt, j_lt, l))) in
      let f = ap (λ (r : Run). r.first) (same_taken j d (omega (arith, j_lt, l))) in
      let t = turn i j d lt (omega (arith, j_lt, l, last)) in
      omega (arith, e, f, t)

  pub have_taken : HaveNumbers (take n runs)
  have_taken k d lt =
      let l = long_taken in
      let e = ap (λ (r : Run). r.last) (same_taken k d (omega (arith, lt, l))) in
      let f = ap (λ (r : Run). r.first) (same_taken k d (omega (arith, lt, l))) in
      let h = have k d (omega (arith, lt, l, last)) in
      omega (arith, e, f, h)

  pub before_taken : (number : ℕ) (r : Run) → r ≡ get_or runs n r → r.first ≤ number
      → EndBefore number (take n runs)
  before_taken number r is first k d lt =
      let l = long_taken in
      let e = ap (λ (s : Run). s.last) (same_taken k d (omega (arith, lt, l))) in
      let f = first_at runs n r d is (omega (arith, last)) in
      let t = turn k n d (omega (arith, lt, l)) (omega (arith, last)) in
      omega (arith, e, f, t, first)

-- with a shorter last run
pub before_off : (runs : List Run) (number n : ℕ) (r shorter : Run) → AreInTurn (set runs n shorter)
    → HaveNumbers (set runs n shorter) → n + 1 ≡ length runs → shorter.last < number
    → EndBefore number (set runs n shorter)
before_off runs number n r shorter turn have last less =
    let long = length-set runs n shorter in
    all_below (set runs n shorter) turn have n number shorter (omega (arith, long, last))
    (let at = ap (λ (s : Run). s.last) (get_or-set_same runs n shorter shorter (omega (arith, last))) in
    omega (arith, at, less))

-- where the last run ends, and where it begins if it has that number alone
module _ (runs : List Run) (number n : ℕ) (r : Run) (last : n + 1 ≡ length runs)
    (at : r ≡ get_or runs n r) where
  pub last_ends : EndBy number runs → Reach number runs → r.last ≡ number
  last_ends by reach =
      let same : n ≡ length runs - 1 = omega (arith, last) in
      ap (λ (s : Run). s.last) at
      ∙ (ap (λ (m : ℕ). (get_or runs m r).last) same ∙ ends_here runs number r by reach)

  pub first_here : HaveNumbers runs → r.last ≡ number → number ≤ r.first → r.first ≡ number
  first_here have ends le =
      let h : r.first ≤ r.last = subst (λ (s : Run). s.first ≤ s.last) (sym at)
      (have n r (omega (arith, last))) in
      omega (arith, h, ends, le)
