-- What the masks of runs of numbers hold.
use Rattle.std.proofs.Common.{ℕ, ◌≡◌, ◌<◌, ◌≤◌, ◌+◌, ◌-◌, ◌⊎◌, inl, inr, List, []}
use Rattle.std.proofs.Common.{◌∷◌, ◌++◌, arith, refl, sym, ◌∙◌, ap, subst, Contains, length, get_or, take}
use Rattle.std.proofs.Math.ListN.{set}
use Rattle.std.proofs.lemmas.List.{get_or-set_same, length-set, set-set, set-get_or, take_all, take_more}
use Rattle.std.proofs.lemmas.List.Elements.{Contains-append_left}
use Rattle.std.proofs.lemmas.List.Elements.{Contains-push, Contains-push_cases}
use Rattle.std.proofs.lemmas.List.FromFn.{length-map-range_with_len, get_or-map-range_with_len}
use Rattle.sv_mask.specs.Sets.{Has}
use Rattle.sv_model.proofs.Lists.{in_flat_map, from_flat_map}
use Rattle.sv_model.specs.declared.work.Track.{Track}
use Rattle.sv_state.specs.declared.mask.Mask.{Mask}
use Rattle.sv_state.specs.declared.runs.Run.{Run}
use Rattle.sv_state.specs.Masks.{Mark, stage, usage, Marked, Holds, Adds, IsJoined}
use Rattle.sv_state.specs.Numbers.{AreApart, GoesOn, IsNoneOn, IsOnlyOn, mask_at, run_masks, runs_masks}
use Rattle.sv_state.proofs.MaskLaws.{set_cases, set_keeps, set_has, joined_cases, joined_l, joined_r}

-- a mask of a run is that of one of its numbers
pub record IsAt (place : ℕ → Track) (r : Run) (m : Mask) : Type 0 where
  pub number : ℕ
  pub low : r.first ≤ number
  pub high : number ≤ r.last
  pub is : mask_at place r number ≡ m

-- a run holds the mark on one of its numbers
pub record RunHolds (place : ℕ → Track) (t : Track) (k : Mark) (r : Run) : Type 0 where
  pub number : ℕ
  pub low : r.first ≤ number
  pub high : number ≤ r.last
  pub track : place number ≡ t
  pub marked : Marked (mask_at place r number) k

marked_same : (m n : Mask) (k : Mark) → m.stages.0 ≡ n.stages.0 → m.usages.0 ≡ n.usages.0 → Marked m k
    → Marked n k
marked_same m n (stage s) stages usages h = subst (λ (set : ℕ). Has set s) stages h
marked_same m n (usage u) stages usages h = subst (λ (set : ℕ). Has set u) usages h

module _ (place : ℕ → Track) where
  in_run : (r : Run) (m : Mask) → Contains (run_masks place r) m → IsAt place r m
  unfolding run_masks
  in_run r m on =
      let l = length-map-range_with_len {X = Mask} (λ n. mask_at place r n) r.first (r.last + 1 - r.first) in
      let lt : on.0 < r.last + 1 - r.first = (let h = on.1 in omega arith) in
      record {
        number = r.first + on.0;
        low = omega arith;
        high = omega arith;
        is = sym (get_or-map-range_with_len {X = Mask} (λ n. mask_at place r n) r.first
            (r.last + 1 - r.first) on.0 (r.first + on.0) m lt refl) ∙ on.2;
      }

  from_run : (r : Run) (n : ℕ) → r.first ≤ n → n ≤ r.last → Contains (run_masks place r) (mask_at place r n)
  unfolding run_masks
  from_run r n low high =
      let long = r.last + 1 - r.first in
      let l = length-map-range_with_len {X = Mask} (λ n. mask_at place r n) r.first long in (
        n - r.first,
        omega arith,
        get_or-map-range_with_len {X = Mask} (λ n. mask_at place r n) r.first long (n - r.first) n
            (mask_at place r n) (omega arith) (omega arith),
      )

  -- a mask of runs is that of a number of one of them
  pub in_runs : (runs : List Run) (m : Mask) → Contains (runs_masks place runs) m → (r : Run)
      × Contains runs r × IsAt place r m
  unfolding runs_masks
  in_runs runs m on =
      let p = in_flat_map (λ r. run_masks place r) runs m on in
      (p.0, p.1, in_run p.0 m p.2)

  pub from_runs : (runs : List Run) (r : Run) (n : ℕ) → Contains runs r → r.first ≤ n → n ≤ r.last
      → Contains (runs_masks place runs) (mask_at place r n)
  unfolding runs_masks
  from_runs runs r n on low high = from_flat_map (λ r. run_masks place r) runs r (mask_at place r n) on
      (from_run r n low high)

  pub no_runs : runs_masks place [] ≡ []
  unfolding runs_masks
  no_runs = refl

  holds_in : (runs : List Run) (t : Track) (k : Mark) → Holds (runs_masks place runs) t k → (r : Run)
      × Contains runs r × RunHolds place t k r
  holds_in runs t k (m, by) =
      let p = in_runs runs m by.listed in
      let q = p.2 in (
        p.0,
        p.1,
        record {
          number = q.number;
          low = q.low;
          high = q.high;
          track = ap (λ (x : Mask). x.track) q.is
              ∙ by.track;
          marked = subst (λ x. Marked x k) (sym q.is) by.marked;
        },
      )

  from_holds : (runs : List Run) (t : Track) (k : Mark) (r : Run) → Contains runs r → RunHolds place t k r
      → Holds (runs_masks place runs) t k
  from_holds runs t k r on h = (
    mask_at place r h.number,
    record {
      listed = from_runs runs r h.number on h.low h.high;
      track = h.track;
      marked = h.marked;
    },
  )

  -- a run of one number more
  module _ (runs : List Run) (number : ℕ) (more : Mask) (is : more.track ≡ place number) where
    abbrev alone : Run
    alone = record { first = number; last = number; stages = more.stages; usages = more.usages }

    alone_number : (t : Track) (k : Mark) → RunHolds place t k alone → (more.track ≡ t) × Marked more k
    alone_number t k h =
        let same : number ≡ h.number = (let l = h.low in let g = h.high in omega arith) in (
          is ∙ (ap (λ (n : ℕ). place n) same ∙ h.track),
          marked_same (mask_at place alone h.number) more k refl refl h.marked,
        )

    pub number_pushed : Adds (runs_masks place runs) (runs_masks place (runs ++ alone ∷ [])) more
    number_pushed = record {
      only = λ t k h. (
          let r = holds_in (runs ++ alone ∷ []) t k h in
          elim (Contains-push_cases runs alone r.0 r.1) [
            | inl old ↦ inl (from_holds runs t k r.0 old r.2)
            | inr same ↦ inr (alone_number t k (subst (λ (x : Run). RunHolds place t k x) (sym same) r.2))
          ]);
      old_stay = λ t k h. (let r = holds_in runs t k h in
          from_holds (runs ++ alone ∷ []) t k r.0 (Contains-append_left runs (alone ∷ []) r.0 r.1) r.2);
      more_is = λ k h. from_holds (runs ++ alone ∷ []) more.track k alone (Contains-push runs alone)
          (record {
            number = number;
            low = omega arith;
            high = omega arith;
            track = sym is;
            marked = marked_same more (mask_at place alone number) k refl refl h;
          });
    }

    -- a run that goes on with the number
    module _ (i : ℕ) (old : Run) (within : i < length runs) (at : old ≡ get_or runs i old)
        (on : GoesOn old number more) where
      abbrev longer : Run
      longer = record { first = old.first; last = number; stages = old.stages; usages = old.usages }

      longer_number : (t : Track) (k : Mark) → RunHolds place t k longer → RunHolds place t k old
          ⊎ ((more.track ≡ t) × Marked more k)
      longer_number t k h = elim (before_or_at h.number number h.high) [
        | inl lt ↦ inl (record {
          number = h.number;
          low = h.low;
          high = (let n = on.next in omega arith);
          track = h.track;
          marked = h.marked;
        })
        | inr same ↦ inr (
          is ∙ (ap (λ (n : ℕ). place n) (sym same) ∙ h.track),
          marked_same (mask_at place longer h.number) more k on.stages on.usages h.marked,
        )
      ]
        where
          before_or_at : (m n : ℕ) → m ≤ n → (m < n) ⊎ (m ≡ n)
          before_or_at m n h = grind arith

      pub number_goes_on : Adds (runs_masks place runs) (runs_masks place (set runs i longer)) more
      number_goes_on = record {
        only = λ t k h. (
            let r = holds_in (set runs i longer) t k h in
            elim (set_cases runs i longer r.0 within r.1) [
              | inl was ↦ inl (from_holds runs t k r.0 was r.2)
              | inr same ↦ elim (longer_number t k
                  (subst (λ (x : Run). RunHolds place t k x) (sym same) r.2)) [
                    | inl in_old ↦ inl (from_holds runs t k old (i, within, sym at) in_old)
                    | inr new ↦ inr new
                  ]
            ]);
        old_stay = λ t k h. (
            let r = holds_in runs t k h in
            elim (set_keeps runs i old longer r.0 within r.1) [
              | inl stays ↦ from_holds (set runs i longer) t k r.0 stays r.2
              | inr same ↦ (
                  let here = subst (λ (x : Run). RunHolds place t k x) (sym (at ∙ same)) r.2 in
                  from_holds (set runs i longer) t k longer (set_has runs i longer within)
                  (record {
                    number = here.number;
                    low = here.low;
                    high =
                        (let n = on.next in let g = here.high in omega arith);
                    track = here.track;
                    marked = here.marked;
                  }))
            ]);
        more_is = λ k h. from_holds (set runs i longer) more.track k longer (set_has runs i longer within)
            (record {
              number = number;
              low = on.low;
              high = omega arith;
              track = sym is;
              marked = marked_same more (mask_at place longer number) k (sym on.stages) (sym on.usages) h;
            });
      }

  -- the last number is taken off the last run
  module _ (runs : List Run) (number n : ℕ) (r : Run) (t : Track) (is : t ≡ place number)
      (last : n + 1 ≡ length runs) (at : r ≡ get_or runs n r) (ends : r.last ≡ number) where
    abbrev taken : Mask
    taken = record { track = t; stages = r.stages; usages = r.usages }

    -- a run of the same masks
    abbrev like : ℕ → ℕ → Run
    like first last = record { first = first; last = last; stages = r.stages; usages = r.usages }

    pub number_alone : r.first ≡ number → Adds (runs_masks place (take n runs)) (runs_masks place runs) taken
    number_alone first =
        let one = like number number in
        let same : one ≡ r = ap (λ (m : ℕ). like m number) (sym first)
        ∙ ap (λ (m : ℕ). like r.first m) (sym ends) in
        let whole : take n runs ++ one ∷ [] ≡ runs =
        ap (λ (s : Run). take n runs ++ s ∷ []) (same ∙ at)
        ∙ (sym (take_more runs n r (omega (arith, last))) ∙ take_all (n + 1) runs (omega (arith, last))) in
        subst (λ (rs : List Run). Adds (runs_masks place (take n runs)) (runs_masks place rs) taken) whole
        (number_pushed (take n runs) number taken is)

    abbrev shorter : Run
    shorter = record { first = r.first; last = number - 1; stages = r.stages; usages = r.usages }

    pub number_off : r.first < number
        → Adds (runs_masks place (set runs n shorter)) (runs_masks place runs) taken
    number_off more =
        let long = length-set runs n shorter in
        let back = like r.first number in
        let same : back ≡ r = ap (λ (m : ℕ). like r.first m) (sym ends) in
        let whole : set (set runs n shorter) n back ≡ runs = set-set runs n shorter back
        ∙ (ap (λ (s : Run). set runs n s) (same ∙ at) ∙ set-get_or runs n r) in
        subst (λ (rs : List Run). Adds (runs_masks place (set runs n shorter)) (runs_masks place rs) taken)
        whole (number_goes_on (set runs n shorter) number taken is n shorter (omega (arith, long, last))
        (sym (get_or-set_same runs n shorter shorter (omega (arith, last))))
        (record { next = omega (arith, more); low = omega (arith, more); stages = refl; usages = refl }))

-- the mask of the run that has the number is the one on its track
module _ (place : ℕ → Track) (runs : List Run) (number : ℕ) (t : Track) (is : t ≡ place number)
    (apart : AreApart place number) where
  has_number : (m : Mask) → Contains (runs_masks place runs) m → m.track ≡ t → (r : Run) × Contains runs r
      × (r.first ≤ number) × (number ≤ r.last) × (mask_at place r number ≡ m)
  has_number m on to =
      let q = in_runs place runs m on in
      let same : q.2.number ≡ number = apart q.2.number (ap (λ (x : Mask). x.track) q.2.is ∙ (to ∙ is)) in
      let low = q.2.low in
      let high = q.2.high in (
        q.0,
        q.1,
        omega (arith, low, same),
        omega (arith, high, same),
        subst (λ (n : ℕ). mask_at place q.0 n ≡ m) same q.2.is,
      )

  pub only_on : (r : Run) → Contains runs r → r.first ≤ number → number ≤ r.last
      → ((s : Run) → Contains runs s → s.first ≤ number → number ≤ s.last → r ≡ s)
      → IsOnlyOn (runs_masks place runs) t (record { track = t; stages = r.stages; usages = r.usages })
  only_on r on low high one =
      let same : mask_at place r number ≡ record { track = t; stages = r.stages; usages = r.usages } =
      ap (λ (u : Track). record { track = u; stages = r.stages; usages = r.usages }) (sym is) in
      record {
        listed = subst (λ (m : Mask). Contains (runs_masks place runs) m) same
            (from_runs place runs r number on low high);
        only = λ n on_n to. (
            let h = has_number n on_n to in
            sym same ∙ (ap (λ (s : Run). mask_at place s number) (one h.0 h.1 h.2 h.3) ∙ h.4));
      }

  pub none_on : ((s : Run) → Contains runs s → s.first ≤ number → number ≤ s.last → ⊥)
      → IsNoneOn (runs_masks place runs) t
  none_on none m on to = (let h = has_number m on to in none h.0 h.1 h.2 h.3)

-- what is taken off and added again with more
pub Adds-again : (old mid new : List Mask) (a more both : Mask) → Adds mid old a → a.track ≡ more.track
    → IsJoined a more both → Adds mid new both → Adds old new more
Adds-again old mid new a more both off same j on =
    let to : both.track ≡ more.track = j.track ∙ same in
    record {
      only = λ t k h. elim (on.only t k h) [
        | inl m ↦ inl (off.old_stay t k m)
        | inr b ↦ elim (joined_cases a more both k j b.1) [
          | inl in_a ↦ inl (subst (λ (u : Track). Holds old u k) (sym j.track ∙ b.0) (off.more_is k in_a))
          | inr in_more ↦ inr (sym to ∙ b.0, in_more)
        ]
      ];
      old_stay = λ t k h. elim (off.only t k h) [
        | inl m ↦ on.old_stay t k m
        | inr b ↦ subst (λ (u : Track). Holds new u k) (j.track ∙ b.0)
            (on.more_is k (joined_l a more both k j b.1))
      ];
      more_is = λ k h. subst (λ (u : Track). Holds new u k) to (on.more_is k (joined_r a more both k j h));
    }
