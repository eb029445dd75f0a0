-- A loop that changes each item of a list, and what is seen of the items.
use Rattle.std.proofs.Common.{ap, ◌≢◌, ℕ, ◌≡◌, ◌<◌, ◌≤◌, ◌+◌, List, [], ◌∷◌, arith, inl, inr, sym, ◌∙◌}
use Rattle.std.proofs.Common.{subst, get_or, length, map, refl, take, drop, ◌++◌}
use Rattle.std.proofs.lemmas.List.{ext_get_or, get_or_default, get_or-map, get_or-set_other, length-map}
use Rattle.std.proofs.lemmas.List.{length-set}
use Rattle.std.proofs.lemmas.Grind.{get_or-set_at, common_steps}
use Rattle.std.proofs.lemmas.Bool.Decides.{eqb_tells, leb_tells}
use Rattle.std.proofs.Math.ListN.{set}
use Rattle.sv_hub.specs.Attachments.{AllChanged}

-- the items before this place are changed, and the others are as they were
pub record Changing {X : Type 0} (R : X → X → Type 0) (i : ℕ) (old new : List X) : Type 0 where
  pub long : length new ≡ length old
  pub done : (k : ℕ) (d : X) → k < i → k < length old → R (get_or old k d) (get_or new k d)
  pub left : (k : ℕ) (d : X) → i ≤ k → get_or new k d ≡ get_or old k d

pub changing_none : {X : Type 0} (R : X → X → Type 0) (old : List X) → Changing R 0 old old
changing_none R old = record {
  long = refl;
  done = λ k d lt within. absurd (omega arith);
  left = λ k d le. refl;
}

pub changing_next : {X : Type 0} (R : X → X → Type 0) (i : ℕ) (old cur : List X) (e new : X) → i
    < length cur → e ≡ get_or cur i e → R e new → Changing R i old cur
    → Changing R (i + 1) old (set cur i new)
changing_next R i old cur e new below is p c = record {
  long = length-set _ _ _ ∙ c.long;
  done = λ k d lt within. elim (eqb_tells k i) [
    | inl w ↦ (
        let was : e ≡ get_or old i e = is ∙ c.left i e (omega arith) in
        let at : get_or old k d ≡ e = ap (λ j. get_or old j d) w.1
        ∙ (get_or_default old i d e (let l = c.long in omega arith) ∙ sym was) in
        rw (at, get_or-set_at cur i k new d w.1 below) p)
    | inr w ↦ rw (get_or-set_other cur i k new d w.1) (c.done k d (let n : k ≢ i = w.1 in omega arith) within)
  ];
  left = λ k d le. (let n : k ≢ i = omega arith in
      rw (get_or-set_other cur i k new d n) (c.left k d (omega arith)));
}

pub changing_all : {X : Type 0} (R : X → X → Type 0) (i : ℕ) (old new : List X) → length new ≤ i
    → Changing R i old new → AllChanged R old new
changing_all R i old new over c = record {
  long = c.long;
  each =
      λ k d within. c.done k d (let l = c.long in omega arith) within;
}

pub changing_by : {X : Type 0} (R S : X → X → Type 0) (i : ℕ) (old new : List X)
    → ((a b : X) → R a b → S a b) → Changing R i old new → Changing S i old new
changing_by R S i old new gives c = record {
  long = c.long;
  done = λ k d lt within. gives _ _ (c.done k d lt within);
  left = c.left;
}

-- a loop that stops early: the others are as they were
pub changing_stops : {X : Type 0} (R : X → X → Type 0) (i : ℕ) (old new : List X) → ((a : X) → R a a)
    → Changing R i old new → AllChanged R old new
changing_stops R i old new same c = record {
  long = c.long;
  each = λ k d within. elim (leb_tells i k) [
    | inl w ↦ subst (λ x. R (get_or old k d) x) (sym (c.left k d w.1)) (same _)
    | inr w ↦ c.done k d w.1 within
  ];
}

pub changed_by : {X : Type 0} (R S : X → X → Type 0) (old new : List X) → ((a b : X) → R a b → S a b)
    → AllChanged R old new → AllChanged S old new
changed_by R S old new gives c = record { long = c.long; each = λ k d within. gives _ _ (c.each k d within) }

-- what is seen of the items changed as they did
pub changed_map : {X Y : Type 0} (f : X → Y) (S : Y → Y → Type 0) (old new : List X)
    → AllChanged (λ a b. S (f a) (f b)) old new → AllChanged S (map f old) (map f new)
changed_map f S [] new c = record {
  long = length-map new f ∙ c.long;
  each = λ k d within. absurd (omega arith);
}
changed_map f S (x ∷ old) new c = record {
  long = length-map new f ∙ (c.long ∙ sym (length-map (x ∷ old) f));
  each = λ k d within.
      (let here : k < length (x ∷ old) = subst (λ n. k < n) (length-map (x ∷ old) f) within in
      let there : k < length new = subst (λ n. k < n) (sym c.long) here in
      subst (λ a. S a (get_or (map f new) k d)) (sym (get_or-map f (x ∷ old) k x d here))
      (subst (λ b. S (f (get_or (x ∷ old) k x)) b) (sym (get_or-map f new k x d there)) (c.each k x here)));
}

-- what no item changed is the same for all of them
pub same_map : {X Y : Type 0} (f : X → Y) (old new : List X) → AllChanged (λ a b. f b ≡ f a) old new
    → map f new ≡ map f old
same_map f [] [] c = refl
same_map f [] (y ∷ new) c = absurd (let l = c.long in omega arith)
same_map f (x ∷ old) new c = (let m = changed_map f (λ a b. b ≡ a) (x ∷ old) new c in
    ext_get_or (f x) _ _ m.long (λ i within. m.each i (f x) (subst (λ n. i < n) m.long within)))

-- a list that was written over whole
pub whole : {X : Type 0} (new old : List X) (n : ℕ) → length new ≡ length old → n ≡ length old
    → take n (new ++ drop (length new) old) ≡ new
whole new old n a b = grind (arith, common_steps)

-- what was written through a slice of a whole vector is the whole
pub changed_whole : {X : Type 0} (R : X → X → Type 0) (old seen new : List X) (n : ℕ) → seen ≡ old
    → length seen ≡ n → AllChanged R seen new → AllChanged R old (take n (new ++ drop (length new) old))
changed_whole R old seen new n is long all =
    let same : length new ≡ length seen = all.long in
    let here : length seen ≡ length old = ap length is in
    subst (λ es. AllChanged R old es) (sym (whole new old n (omega arith) (omega arith)))
    (subst (λ es. AllChanged R es new) is all)

-- a fact of each thing seen, of the items themselves
pub seen_each : {X Y : Type 0} (f : X → Y) (P : Y → Type 0) (old seen : List X) → seen ≡ old
    → ((k : ℕ) (d : Y) → k < length (map f old) → P (get_or (map f old) k d)) → (k : ℕ) (d : X) → k
    < length seen → P (f (get_or seen k d))
seen_each f P old seen is each k d within =
    let here : k < length old = subst (λ xs. k < length xs) is within in
    subst (λ xs. P (f (get_or xs k d))) (sym is) (subst P (get_or-map f old k d (f d) here)
    (each k (f d) (subst (λ n. k < n) (sym (length-map old f)) here)))

-- a fact of each item, of the things seen
pub each_seen : {X Y : Type 0} (f : X → Y) (P : Y → Type 0) (xs : List X)
    → ((k : ℕ) (d : X) → k < length xs → P (f (get_or xs k d))) → (k : ℕ) (d : Y) → k < length (map f xs)
    → P (get_or (map f xs) k d)
each_seen f P [] each k d within = absurd (omega arith)
each_seen f P (x ∷ xs) each k d within =
    let here : k < length (x ∷ xs) = subst (λ n. k < n) (length-map (x ∷ xs) f) within in
    subst P (sym (get_or-map f (x ∷ xs) k x d here)) (each k x here)

-- the same, of what was written through a slice of a whole vector
pub each_of_whole : {X Y : Type 0} (f : X → Y) (P : Y → Type 0) (old seen new : List X) (n : ℕ) → seen ≡ old
    → length seen ≡ n → length new ≡ length seen →
    ((k : ℕ) (d : X) → k < length seen → P (f (get_or new k d))) → (k : ℕ) (d : Y) → k
    < length (map f (take n (new ++ drop (length new) old)))
    → P (get_or (map f (take n (new ++ drop (length new) old))) k d)
each_of_whole f P old seen new n is long same each =
    let here : length seen ≡ length old = ap length is in
    subst (λ es. (k : ℕ) (d : _) → k < length (map f es) → P (get_or (map f es) k d))
    (sym (whole new old n (omega arith) (omega arith)))
    (each_seen f P new (λ k d within. each k d (subst (λ m. k < m) same within)))

-- the same, of what was read through a slice
pub each_read : {X Y : Type 0} (f : X → Y) (P : Y → Type 0) (xs seen : List X) → seen ≡ xs
    → ((k : ℕ) (d : X) → k < length seen → P (f (get_or seen k d))) → (k : ℕ) (d : Y) → k
    < length (map f xs) → P (get_or (map f xs) k d)
each_read f P xs seen is each = subst (λ es. (k : ℕ) (d : _) → k < length (map f es)
    → P (get_or (map f es) k d)) is (each_seen f P seen each)
