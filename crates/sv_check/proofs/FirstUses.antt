-- One layout for each attachment: each use is compared with the first of its attachment.
use Rattle.std.proofs.Common.{◌≡◌, ℕ, zero, suc, ◌+◌, ◌<◌, ◌≤◌, ◌⊎◌, List, [], ◌∷◌, Bool, true, false, not}
use Rattle.std.proofs.Common.{◌||◌, ◌&&◌, eqb, cond, Option, None, Some, refl, sym, ◌∙◌, ap, subst, arith}
use Rattle.std.proofs.Common.{length, inl, inr, eq-eqb}
use Rattle.std.proofs.lemmas.Bool.{cases_lt}
use Rattle.std.proofs.lemmas.Bool.Decides.{eqb_tells}
use Rattle.std.specs.BTreeMap.{BTreeMap, get, IsEmpty}
use Rattle.std.specs.Ordering.{nat_cmp}
use Rattle.std.specs.Prelude.{is_some, slice_index_or, unwrap_or}
use Rattle.std.specs.List.{list_any}
use Rattle.sv_mask.specs.declared.layout.Layout.{Layout}
use Rattle.sv_mask.specs.Usages.{layout_number, same_layout}
use Rattle.sv_model.specs.declared.line.PassUse.{PassUse}
use Rattle.sv_rules.specs.Places.{differ_in_layout, differs_from_some, has_two_layouts}
use Rattle.sv_lines.specs.Tables.{Puts}
use Rattle.sv_lines.proofs.Declared.{number_is}
use Rattle.sv_lines.proofs.Everywhere.{any_none}

pub any_true : {A : Type 0} (p : A → Bool) (xs : List A) (k : ℕ) (d : A) → k < length xs
    → p (slice_index_or xs k d) ≡ true → list_any p xs ≡ true
any_true p [] k d lt e = absurd (omega (arith, lt))
any_true p (x ∷ xs) zero d lt e = ap (λ b. b || list_any p xs) e
any_true p (x ∷ xs) (suc k) d lt e = ap (λ b. p x || b) (any_true p xs k d (omega (arith, lt)) e)
    ∙ or_true (p x)
  where
    or_true : (b : Bool) → (b || true) ≡ true
    or_true true = refl
    or_true false = refl

-- the table has the layout of the first use of each attachment of the first i uses, and each of these has
-- that layout
pub record AreFirsts (uses : List PassUse) (i : ℕ) (table : BTreeMap ℕ Layout) : Type 0 where
  pub same : (k : ℕ) (d : PassUse) → k < i → (l : Layout) → get nat_cmp table (slice_index_or uses k d).att
      ≡ Some l → same_layout (slice_index_or uses k d).layout l ≡ true
  pub there : (k : ℕ) (d : PassUse) → k < i → is_some (get nat_cmp table (slice_index_or uses k d).att) ≡ true
  pub from : (d : PassUse) (n : ℕ) (l : Layout) → get nat_cmp table n ≡ Some l → (k : ℕ) × (k < i)
      × ((slice_index_or uses k d).att ≡ n) × ((slice_index_or uses k d).layout ≡ l)

same_itself : (l : Layout) → same_layout l l ≡ true
same_itself l = eq-eqb (layout_number l) (layout_number l) refl

-- the layout of the first use of that attachment
abbrev first_of : BTreeMap ℕ Layout → PassUse → Layout
first_of table u = unwrap_or (get nat_cmp table u.att) u.layout

found_first : (o : Option Layout) (l other : Layout) → o ≡ Some l → unwrap_or o other ≡ l
found_first o l other e = ap (λ x. unwrap_or x other) e

some_layout : (o : Option Layout) → is_some o ≡ true → (l : Layout) × (o ≡ Some l)
some_layout None e = absurd (let h : false ≡ true = e in cc)
some_layout (Some l) e = (l, refl)

put_here : (old new : BTreeMap ℕ Layout) (n : ℕ) (v : Layout) → Puts old new n v → get nat_cmp new n ≡ Some v
put_here old new n v puts = puts n ∙ ap (λ b. cond b (Some v) (get nat_cmp old n)) (eq-eqb n n refl)

put_other : (old new : BTreeMap ℕ Layout) (n m : ℕ) (v : Layout) → Puts old new n v → eqb n m ≡ false
    → get nat_cmp new m ≡ get nat_cmp old m
put_other old new n m v puts e = puts m ∙ ap (λ b. cond b (Some v) (get nat_cmp old m)) e

-- what was found before is found still
put_again : (old new : BTreeMap ℕ Layout) (u : PassUse) (m : ℕ) (l : Layout)
    → Puts old new u.att (first_of old u) → get nat_cmp old m ≡ Some l → get nat_cmp new m ≡ Some l
put_again old new u m l puts e = elim (eqb_tells u.att m) [
  | inl same ↦ sym (ap (get nat_cmp new) same.1) ∙ put_here old new u.att (first_of old u) puts
      ∙ ap Some (found_first (get nat_cmp old u.att) l u.layout (ap (get nat_cmp old) same.1 ∙ e))
  | inr other ↦ put_other old new u.att m (first_of old u) puts other.0 ∙ e
]

one_layout : (o : Option Layout) (l m : Layout) → o ≡ Some l → o ≡ Some m → l ≡ m
one_layout o l m a b = let both : Some l ≡ Some m = sym a ∙ b in cc

-- a use that has the layout of the first one
pub one_more : (uses : List PassUse) (i : ℕ) (u : PassUse) (old new : BTreeMap ℕ Layout)
    → ((d : PassUse) → slice_index_or uses i d ≡ u) → AreFirsts uses i old
    → Puts old new u.att (first_of old u)
    → same_layout u.layout (first_of old u) ≡ true → AreFirsts uses (i + 1) new
one_more uses i u old new at h puts agrees = record {
  same = λ k d lt l found. same_more k d (cases_lt k i) lt l found;
  there = λ k d lt. there_more k d (cases_lt k i) lt;
  from = λ d n l found. from_more d n l found (get nat_cmp old n) refl;
}
  where
    last : (k : ℕ) → i ≤ k → k < i + 1 → k ≡ i
    last k a b = omega (arith, a, b)

    same_more : (k : ℕ) (d : PassUse) → (k < i) ⊎ (i ≤ k) → k < i + 1 → (l : Layout)
        → get nat_cmp new (slice_index_or uses k d).att ≡ Some l
        → same_layout (slice_index_or uses k d).layout l ≡ true
    same_more k d (inl less) lt l found =
        let before = some_layout (get nat_cmp old (slice_index_or uses k d).att) (h.there k d less) in
        subst (λ (m : Layout). same_layout (slice_index_or uses k d).layout m ≡ true)
        (one_layout (get nat_cmp new (slice_index_or uses k d).att) before.0 l
        (put_again old new u (slice_index_or uses k d).att before.0 puts before.1) found)
        (h.same k d less before.0 before.1)
    same_more k d (inr more) lt l found =
        let here : slice_index_or uses k d ≡ u = ap (λ n. slice_index_or uses n d) (last k more lt) ∙ at d in
        let mine : get nat_cmp new u.att ≡ Some l = sym (ap (λ (y : PassUse). get nat_cmp new y.att) here)
        ∙ found in
        subst (λ (y : PassUse). same_layout y.layout l ≡ true) (sym here)
        (subst (λ (m : Layout). same_layout u.layout m ≡ true)
        (one_layout (get nat_cmp new u.att) (first_of old u) l
        (put_here old new u.att (first_of old u) puts) mine) agrees)

    there_more : (k : ℕ) (d : PassUse) → (k < i) ⊎ (i ≤ k) → k < i + 1
        → is_some (get nat_cmp new (slice_index_or uses k d).att) ≡ true
    there_more k d (inl less) lt =
        let before = some_layout (get nat_cmp old (slice_index_or uses k d).att) (h.there k d less) in
        ap is_some (put_again old new u (slice_index_or uses k d).att before.0 puts before.1)
    there_more k d (inr more) lt =
        let here : slice_index_or uses k d ≡ u = ap (λ n. slice_index_or uses n d) (last k more lt) ∙ at d in
        ap (λ (y : PassUse). is_some (get nat_cmp new y.att)) here
        ∙ ap is_some (put_here old new u.att (first_of old u) puts)

    from_more : (d : PassUse) (n : ℕ) (l : Layout) → get nat_cmp new n ≡ Some l → (o : Option Layout)
        → get nat_cmp old n ≡ o → (k : ℕ) × (k < i + 1) × ((slice_index_or uses k d).att ≡ n)
        × ((slice_index_or uses k d).layout ≡ l)
    from_more d n l found (Some m) e =
        let before = h.from d n m e in
        let same = one_layout (get nat_cmp new n) m l (put_again old new u n m puts e) found in
        (before.0, (let lt = before.1 in omega (arith, lt)), before.2, before.3 ∙ same)
    from_more d n l found None e = elim (eqb_tells u.att n) [
      | inl same ↦
          let none : get nat_cmp old u.att ≡ None = ap (get nat_cmp old) same.1 ∙ e in
          let mine : first_of old u ≡ u.layout = ap (λ x. unwrap_or x u.layout) none in
          let here : get nat_cmp new n ≡ Some (first_of old u) = sym (ap (get nat_cmp new) same.1)
          ∙ put_here old new u.att (first_of old u) puts in (
            i,
            omega arith,
            ap (λ (y : PassUse). y.att) (at d) ∙ same.1,
            ap (λ (y : PassUse). y.layout) (at d) ∙ sym mine
                ∙ one_layout (get nat_cmp new n) (first_of old u) l here found,
          )
      | inr other ↦ absurd (let both : None ≡ Some l =
          sym (put_other old new u.att n (first_of old u) puts other.0 ∙ e) ∙ found in cc)
    ]

-- a use that has another
pub two_found : (uses : List PassUse) (i : ℕ) (u : PassUse) (old : BTreeMap ℕ Layout) → i < length uses
    → ((d : PassUse) → slice_index_or uses i d ≡ u) → AreFirsts uses i old
    → same_layout u.layout (first_of old u) ≡ false → has_two_layouts uses ≡ true
two_found uses i u old lt at h apart = tell (get nat_cmp old u.att) refl
  where
    tell : (o : Option Layout) → get nat_cmp old u.att ≡ o → has_two_layouts uses ≡ true
    tell None e = absurd (let both : true ≡ false = sym (same_itself u.layout)
        ∙ ap (same_layout u.layout) (sym (ap (λ x. unwrap_or x u.layout) e)) ∙ apart in cc)
    tell (Some l) e =
        let first = h.from u u.att l e in
        let other : same_layout u.layout (slice_index_or uses first.0 u).layout ≡ false =
        ap (same_layout u.layout) (first.3 ∙ sym (found_first (get nat_cmp old u.att) l u.layout e))
        ∙ apart in
        any_true (differs_from_some uses) uses i u lt
        (subst (λ (y : PassUse). differs_from_some uses y ≡ true) (sym (at u))
        (any_true (differ_in_layout u) uses first.0 u (let within = first.1 in omega (arith, within, lt))
        (ap (λ b. b && not (same_layout u.layout (slice_index_or uses first.0 u).layout))
        (eq-eqb u.att (slice_index_or uses first.0 u).att (sym first.2)) ∙ ap not other)))

-- all uses are alike
pub none_found : (uses : List PassUse) (i : ℕ) (table : BTreeMap ℕ Layout) → i ≡ length uses
    → AreFirsts uses i table → (d : PassUse) → has_two_layouts uses ≡ false
none_found uses i table whole h d = any_none (differs_from_some uses) uses d
    (λ k lt. any_none (differ_in_layout (slice_index_or uses k d)) uses d
    (λ m within. agree k m (omega (arith, lt, whole)) (omega (arith, within, whole))))
  where
    number_same : (a b c : Layout) → same_layout a c ≡ true → same_layout b c ≡ true → same_layout a b ≡ true
    number_same a b c e f = eq-eqb (layout_number a) (layout_number b)
        (number_is (layout_number a) (layout_number c) e
        ∙ sym (number_is (layout_number b) (layout_number c) f))

    agree : (k m : ℕ) → k < i → m < i → differ_in_layout (slice_index_or uses k d) (slice_index_or uses m d)
        ≡ false
    agree k m lt within = elim (eqb_tells (slice_index_or uses k d).att (slice_index_or uses m d).att) [
      | inl same ↦
          let first = some_layout (get nat_cmp table (slice_index_or uses m d).att) (h.there m d within) in
          let mine = h.same k d lt first.0 (ap (get nat_cmp table) same.1 ∙ first.1) in
          let its = h.same m d within first.0 first.1 in
          ap (λ b. b && not (same_layout (slice_index_or uses k d).layout (slice_index_or uses m d).layout))
          same.0
          ∙ ap not (number_same (slice_index_or uses k d).layout
          (slice_index_or uses m d).layout first.0 mine its)
      | inr other ↦ ap (λ b. b && not (same_layout (slice_index_or uses k d).layout
          (slice_index_or uses m d).layout)) other.0
    ]
