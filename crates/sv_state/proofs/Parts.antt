-- Masks in several lists.
use Rattle.std.proofs.Common.{ℕ, Bool, true, false, IsTrue, ◌↔◌, ◌≡◌, ◌<◌, ◌⊎◌, inl, inr, List, [], ◌∷◌}
use Rattle.std.proofs.Common.{◌++◌, sym, ◌∙◌, subst, Contains, length, get_or}
use Rattle.std.proofs.Math.ListN.{set}
use Rattle.std.proofs.lemmas.List.Elements.{Contains-append_left, Contains-append_right}
use Rattle.std.proofs.lemmas.List.Elements.{Contains-append_cases, Contains-push, Contains-push_cases}
use Rattle.std.specs.List.{flat_map}
use Rattle.sv_model.proofs.Lists.{in_flat_map, from_flat_map}
use Rattle.sv_model.specs.declared.work.Track.{Track}
use Rattle.sv_state.specs.declared.mask.Mask.{Mask}
use Rattle.sv_state.specs.Masks.{Mark, Holds, Adds}
use Rattle.sv_state.specs.Numbers.{IsNoneOn, IsOnlyOn}
use Rattle.sv_state.proofs.MaskLaws.{set_cases, set_keeps, set_has, Holds-none}

pub never : {A : Type 0} → (A → ⊥) → IsTrue false ↔ A
never none = (λ t. absurd (let f : false ≡ true = t in cc), λ a. absurd (none a))

pub unless : {A : Type 0} → IsTrue false ↔ A → A → ⊥
unless is a = let f : false ≡ true = is.1 a in cc

-- two lists hold what one of them holds
Holds-left : (xs ys : List Mask) (t : Track) (k : Mark) → Holds xs t k → Holds (xs ++ ys) t k
Holds-left xs ys t k (m, by) = (
  m,
  record {
    listed = Contains-append_left xs ys m by.listed;
    track = by.track;
    marked = by.marked;
  },
)

Holds-right : (xs ys : List Mask) (t : Track) (k : Mark) → Holds ys t k → Holds (xs ++ ys) t k
Holds-right xs ys t k (m, by) = (
  m,
  record {
    listed = Contains-append_right xs ys m by.listed;
    track = by.track;
    marked = by.marked;
  },
)

Holds-cases : (xs ys : List Mask) (t : Track) (k : Mark) → Holds (xs ++ ys) t k → Holds xs t k ⊎ Holds ys t k
Holds-cases xs ys t k (m, by) = elim (Contains-append_cases xs ys m by.listed) [
  | inl l ↦ inl (m, record { listed = l; track = by.track; marked = by.marked })
  | inr r ↦ inr (m, record { listed = r; track = by.track; marked = by.marked })
]

pub Adds-left : (xs ys others : List Mask) (more : Mask) → Adds xs ys more
    → Adds (xs ++ others) (ys ++ others) more
Adds-left xs ys others more a = record {
  only = λ t k h. elim (Holds-cases ys others t k h) [
    | inl l ↦ elim (a.only t k l) [ inl o ↦ inl (Holds-left xs others t k o) | inr m ↦ inr m ]
    | inr r ↦ inl (Holds-right xs others t k r)
  ];
  old_stay = λ t k h. elim (Holds-cases xs others t k h)
      [ inl l ↦ Holds-left ys others t k (a.old_stay t k l) | inr r ↦ Holds-right ys others t k r ];
  more_is = λ k h. Holds-left ys others more.track k (a.more_is k h);
}

pub Adds-right : (others xs ys : List Mask) (more : Mask) → Adds xs ys more
    → Adds (others ++ xs) (others ++ ys) more
Adds-right others xs ys more a = record {
  only = λ t k h. elim (Holds-cases others ys t k h) [
    | inl l ↦ inl (Holds-left others xs t k l)
    | inr r ↦ elim (a.only t k r) [ inl o ↦ inl (Holds-right others xs t k o) | inr m ↦ inr m ]
  ];
  old_stay = λ t k h. elim (Holds-cases others xs t k h)
      [ inl l ↦ Holds-left others ys t k l | inr r ↦ Holds-right others ys t k (a.old_stay t k r) ];
  more_is = λ k h. Holds-right others ys more.track k (a.more_is k h);
}

-- lists of masks, one of which changes, and one more
module _ {X : Type 0} (f : X → List Mask) (xs : List X) where
  pub held_in : (t : Track) (k : Mark) → Holds (flat_map f xs) t k → (x : X) × Contains xs x × Holds (f x) t k
  held_in t k (m, by) =
      let p = in_flat_map f xs m by.listed in
      (p.0, p.1, (m, record { listed = p.2; track = by.track; marked = by.marked }))

  pub from_held : (t : Track) (k : Mark) (x : X) → Contains xs x → Holds (f x) t k → Holds (flat_map f xs) t k
  from_held t k x on (m, by) = (
    m,
    record { listed = from_flat_map f xs x m on by.listed; track = by.track; marked = by.marked },
  )

pub Adds-set : {X : Type 0} (f : X → List Mask) (xs : List X) (i : ℕ) (old new : X) (more : Mask)
    → i < length xs → old ≡ get_or xs i old → Adds (f old) (f new) more
    → Adds (flat_map f xs) (flat_map f (set xs i new)) more
Adds-set f xs i old new more within at a = record {
  only = λ t k h. (
      let r = held_in f (set xs i new) t k h in
      elim (set_cases xs i new r.0 within r.1) [
        | inl was ↦ inl (from_held f xs t k r.0 was r.2)
        | inr same ↦ elim (a.only t k (subst (λ x. Holds (f x) t k) (sym same) r.2)) [
          | inl in_old ↦ inl (from_held f xs t k old (i, within, sym at) in_old)
          | inr in_more ↦ inr in_more
        ]
      ]);
  old_stay = λ t k h. (
      let r = held_in f xs t k h in
      elim (set_keeps xs i old new r.0 within r.1) [
        | inl stays ↦ from_held f (set xs i new) t k r.0 stays r.2
        | inr same ↦ from_held f (set xs i new) t k new (set_has xs i new within)
            (a.old_stay t k (subst (λ x. Holds (f x) t k) (sym (at ∙ same)) r.2))
      ]);
  more_is = λ k h. from_held f (set xs i new) more.track k new (set_has xs i new within) (a.more_is k h);
}

pub Adds-pushed : {X : Type 0} (f : X → List Mask) (xs : List X) (new : X) (more : Mask)
    → Adds [] (f new) more → Adds (flat_map f xs) (flat_map f (xs ++ new ∷ [])) more
Adds-pushed f xs new more a = record {
  only = λ t k h. (
      let r = held_in f (xs ++ new ∷ []) t k h in
      elim (Contains-push_cases xs new r.0 r.1) [
        | inl was ↦ inl (from_held f xs t k r.0 was r.2)
        | inr same ↦ elim (a.only t k (subst (λ x. Holds (f x) t k) (sym same) r.2)) [
          | inl in_none ↦ absurd (Holds-none t k in_none)
          | inr in_more ↦ inr in_more
        ]
      ]);
  old_stay = λ t k h. (
      let r = held_in f xs t k h in
      from_held f (xs ++ new ∷ []) t k r.0 (Contains-append_left xs (new ∷ []) r.0 r.1) r.2);
  more_is = λ k h. from_held f (xs ++ new ∷ []) more.track k new (Contains-push xs new) (a.more_is k h);
}

-- a mask with a property is looked for
module _ (P : Mask → Type 0) where
  pub found_left : (xs ys : List Mask) (a : Bool) → a ≡ true → IsTrue a ↔ ((m : Mask) × Contains xs m × P m)
      → IsTrue a ↔ ((m : Mask) × Contains (xs ++ ys) m × P m)
  found_left xs ys a is some = (
    λ t. (let r = some.0 t in (r.0, Contains-append_left xs ys r.0 r.1, r.2)),
    λ l. is,
  )

  pub found_right : (xs ys : List Mask) (a b : Bool) → a ≡ false
      → IsTrue a ↔ ((m : Mask) × Contains xs m × P m) → IsTrue b ↔ ((m : Mask) × Contains ys m × P m)
      → IsTrue b ↔ ((m : Mask) × Contains (xs ++ ys) m × P m)
  found_right xs ys a b none other some = (
    λ t. (let r = some.0 t in (r.0, Contains-append_right xs ys r.0 r.1, r.2)),
    λ l. elim (Contains-append_cases xs ys l.0 l.1) [
      | inl x ↦ absurd (let f : false ≡ true = sym none ∙ other.1 (l.0, x, l.2) in cc)
      | inr y ↦ some.1 (l.0, y, l.2)
    ],
  )

  -- only masks on one track can have it, and at most one mask is on it
  pub one_found : (xs : List Mask) (t : Track) (m : Mask) (b : Bool) → IsOnlyOn xs t m
      → ((n : Mask) → Contains xs n → P n → n.track ≡ t) → IsTrue b ↔ P m
      → IsTrue b ↔ ((n : Mask) × Contains xs n × P n)
  one_found xs t m b one track is = (
    λ h. (m, one.listed, is.0 h),
    λ l. is.1 (subst P (sym (one.only l.0 l.1 (track l.0 l.1 l.2))) l.2),
  )

  pub none_found : (xs : List Mask) (t : Track) → IsNoneOn xs t
      → ((n : Mask) → Contains xs n → P n → n.track ≡ t) → IsTrue false
      ↔ ((n : Mask) × Contains xs n × P n)
  none_found xs t none track = (
    λ h. absurd (let f : false ≡ true = h in cc),
    λ l. absurd (none l.0 l.1 (track l.0 l.1 l.2)),
  )

  -- a mask of several lists
  pub found_in : {X : Type 0} (f : X → List Mask) (xs : List X)
      → (m : Mask) × Contains (flat_map f xs) m × P m
      → (x : X) × Contains xs x × ((m : Mask) × Contains (f x) m × P m)
  found_in f xs (m, on, p) = (let r = in_flat_map f xs m on in (r.0, r.1, (m, r.2, p)))

  pub found_from : {X : Type 0} (f : X → List Mask) (xs : List X) (x : X) → Contains xs x
      → (m : Mask) × Contains (f x) m × P m → (m : Mask) × Contains (flat_map f xs) m × P m
  found_from f xs x on (m, on_m, p) = (m, from_flat_map f xs x m on on_m, p)
