-- The steps of a recording of a lawful trace lie inside its resources, and so do their bound forms.
use Rattle.std.proofs.Common.{ℕ, suc, ◌+◌, ◌≤◌, ◌≡◌, Bool, true, false, List, [], ◌∷◌, Option, None, length}
use Rattle.std.proofs.Common.{get_or, map, filter, IsTrue, Contains, if◌then◌else◌, refl, sym, ap, subst}
use Rattle.std.proofs.Common.{arith, inl, inr}
use Rattle.std.specs.List.{All}
use Rattle.std.proofs.lemmas.List.{get_or_default, length-map}
use Rattle.std.proofs.lemmas.List.Elements.{All-cons, All-contains, All-head, All-map, All-nil, All-tail}
use Rattle.std.proofs.lemmas.List.Elements.{All-weaker}
use Rattle.sv_mask.specs.declared.layout.Layout.{Layout}
use Rattle.sv_model.specs.declared.line.Trace.{Trace}
use Rattle.sv_model.specs.declared.work.Access.{Access}
use Rattle.sv_model.specs.declared.work.Area.{Area}
use Rattle.sv_model.specs.declared.work.Cell.{Cell}
use Rattle.sv_model.specs.declared.work.Dep.{Dep}
use Rattle.sv_model.specs.declared.work.Group.{Group}
use Rattle.sv_model.specs.declared.work.Old.{Old}
use Rattle.sv_model.specs.declared.work.Place.{Place}
use Rattle.sv_model.specs.declared.work.Step.{Step}
use Rattle.sv_model.specs.declared.work.Step.TheVariants.{Accesses, Groups, SetEvent, WaitEvent, ResetEvent}
use Rattle.sv_model.specs.declared.work.Transfer.{Transfer}
use Rattle.sv_model.specs.Barriers.{group, with_transition_stage, transition}
use Rattle.sv_model.specs.Places.{Run, bind_access, bind_dep, bind_group}
use Rattle.sv_model.specs.Events.{set_half, wait_half, with_tokens}
use Rattle.sv_model.specs.Cells.{Within, covers}
use Rattle.sv_model.specs.Positions.{accesses_from, groups_from, numbered_group, numbered_step}
use Rattle.sv_model.specs.Positions.{numbered_steps}
use Rattle.sv_model.proofs.Lists.{in_cons, in_cons_cases, in_first}
use Rattle.sv_state.specs.States.{RangesHold}
use Rattle.sv_space.specs.Areas.{IsAreaOf}
use Rattle.sv_step_laws.specs.Steps.{IsAccessOf, IsDepOf, IsGroupOf, IsOldOf, IsRangeOf, IsStepOf}
use Rattle.sv_step_laws.specs.Steps.{IsTransferOf, MayDeclare}

-- Members.

pub in_nothing : {X : Type 0} (x : X) → Contains [] x → ⊥
in_nothing x on = let h = on.1 in omega arith

pub in_map : {X Y : Type 0} (f : X → Y) (xs : List X) (y : Y) → Contains (map f xs) y → (x : X)
    × Contains xs x × (f x ≡ y)
in_map f [] y on = absurd (in_nothing y on)
in_map f (x ∷ xs) y on = elim (in_cons_cases (f x) (map f xs) y on) [
  | inl same ↦ (x, in_first x xs, same)
  | inr later ↦ (let r = in_map f xs y later in (r.0, in_cons x xs r.0 r.1, r.2))
]

pub all_of : {X : Type 0} (P : X → Type 0) (xs : List X) → ((x : X) → Contains xs x → P x) → All P xs
all_of P xs each k d lt = each (get_or xs k d) (k, lt, get_or_default xs k (get_or xs k d) d lt)

-- A group with the outline of another.

-- each dependency has the range of one of the other group, each transition the area of one
pub record IsLike (g h : Group) : Type 0 where
  pub deps : (d : Dep) → Contains h.deps d → (e : Dep) × Contains g.deps e × (e.range ≡ d.range)
  pub accesses : (x : Access) → Contains h.transitions x → (y : Access) × Contains g.transitions y
      × (y.area ≡ x.area) × (y.layout ≡ x.layout)
  pub many : length h.transitions ≤ length g.transitions
  pub olds : h.olds ≡ g.olds
  pub transfer : h.transfer ≡ g.transfer

like_holds : (t : Trace) (g h : Group) → IsLike g h → IsGroupOf t g → (x : Access)
    → Contains h.transitions x → RangesHold h x.area
like_holds t g h like is x on d c of_deps covered =
    let y = like.accesses x on in
    let e = like.deps d of_deps in
    let same : IsTrue (covers y.0.area c) = subst (λ (a : Area). IsTrue (covers a c)) (sym y.2) covered in
    subst (λ (o : Option Area). Within o c) e.2 (is.held y.0 y.1 e.0 c e.1 same)

like_access : (t : Trace) (x y : Access) → y.area ≡ x.area → y.layout ≡ x.layout → IsAccessOf t y
    → IsAccessOf t x
like_access t x y area layout is = record {
  area = subst (IsAreaOf t) area is.area;
  layout = subst (λ (o : Option Layout). MayDeclare x.area o) layout
      (subst (λ (a : Area). MayDeclare a y.layout) area is.layout);
}

pub like_is : (t : Trace) (g h : Group) → IsLike g h → IsGroupOf t g → IsGroupOf t h
like_is t g h like is = record {
  ranges = all_of (IsDepOf t) h.deps (λ d on. (let e = like.deps d on in
      subst (IsRangeOf t) e.2 (All-contains (IsDepOf t) g.deps e.0 is.ranges e.1)));
  transitions = all_of (IsAccessOf t) h.transitions
      (λ x on. (let y = like.accesses x on in like_access t x y.0 y.2 y.3
      (All-contains (IsAccessOf t) g.transitions y.0 is.transitions y.1)));
  held = like_holds t g h like is;
  olds = subst (All (IsOldOf t)) (sym like.olds) is.olds;
  paired = let many = like.many in let paired = is.paired in let long =
      ap (λ (xs : List Old). length xs) like.olds in omega (arith, many, paired, long);
  transfer = subst (IsTransferOf t) (sym like.transfer) is.transfer;
}

-- Binding.

pub bound_group : (t : Trace) (r : Run) (g : Group) → IsGroupOf t g → IsGroupOf t (bind_group r g)
bound_group t r g = like_is t g (bind_group r g) (record {
  deps = λ d on. (let e = in_map (bind_dep r) g.deps d on in (e.0, e.1, ap (λ (x : Dep). x.range) e.2));
  accesses = λ x on. (let y = in_map (bind_access r) g.transitions x on in
      (y.0, y.1, ap (λ (a : Access). a.area) y.2, ap (λ (a : Access). a.layout) y.2));
  many = let e = length-map g.transitions (bind_access r) in omega (arith, e);
  olds = refl;
  transfer = refl;
})

pub bound_groups : (t : Trace) (r : Run) (gs : List Group) → All (IsGroupOf t) gs
    → All (IsGroupOf t) (map (bind_group r) gs)
bound_groups t r gs all = All-map (IsGroupOf t) (bind_group r) gs
    (All-weaker (IsGroupOf t) (λ (g : Group). IsGroupOf t (bind_group r g)) (bound_group t r) gs all)

pub bound_accesses : (t : Trace) (r : Run) (xs : List Access) → All (IsAccessOf t) xs
    → All (IsAccessOf t) (map (bind_access r) xs)
bound_accesses t r xs all = All-map (IsAccessOf t) (bind_access r) xs
    (All-weaker (IsAccessOf t) (λ (a : Access). IsAccessOf t (bind_access r a))
    (λ a h. like_access t (bind_access r a) a refl refl h) xs all)

-- Halves.

nothing_held : (g : Group) → g.transitions ≡ [] → (x : Access) → Contains g.transitions x
    → RangesHold g x.area
nothing_held g none x on = absurd (in_nothing x (subst (λ (xs : List Access). Contains xs x) none on))

pub set_is : (t : Trace) (token : ℕ) (g : Group) → IsGroupOf t g → IsGroupOf t (set_half token g)
set_is t token g is = record {
  ranges = all_of (IsDepOf t) (set_half token g).deps
      (λ d on. (let e = in_map _ g.deps d on in subst (IsRangeOf t) (ap (λ (x : Dep). x.range) e.2)
      (All-contains (IsDepOf t) g.deps e.0 is.ranges e.1)));
  transitions = All-nil (IsAccessOf t);
  held = nothing_held (set_half token g) refl;
  olds = All-nil (IsOldOf t);
  paired = omega arith;
  transfer = is.transfer;
}

pub wait_is : (t : Trace) (place : Place) (token : ℕ) (g : Group) → IsGroupOf t g
    → IsGroupOf t (wait_half place token g)
wait_is t place token g = like_is t g (wait_half place token g) (record {
  deps = λ d on. (let e = in_map _ g.deps d on in (e.0, e.1, ap (λ (x : Dep). x.range) e.2));
  accesses = λ x on. (let y = in_map _ g.transitions x on in
      (y.0, y.1, ap (λ (a : Access). a.area) y.2, ap (λ (a : Access). a.layout) y.2));
  many = let e = length-map g.transitions (λ (a : Access). record a { place = place }) in omega (arith, e);
  olds = refl;
  transfer = refl;
})

pub halves_are : (t : Trace) (half : ℕ → Group → Group)
    → ((token : ℕ) (g : Group) → IsGroupOf t g → IsGroupOf t (half token g)) → (token : ℕ) (gs : List Group)
    → All (IsGroupOf t) gs → All (IsGroupOf t) (with_tokens half token gs)
halves_are t half each token [] all = All-nil (IsGroupOf t)
halves_are t half each token (g ∷ gs) all = All-cons (IsGroupOf t) (half token g)
    (with_tokens half (token + 1) gs) (each token g (All-head (IsGroupOf t) g gs all))
    (halves_are t half each (token + 1) gs (All-tail (IsGroupOf t) g gs all))

-- Numbering.

in_numbered : (n pos : ℕ) (xs : List Access) (x : Access) → Contains (accesses_from n pos xs) x
    → (y : Access) × Contains xs y × (y.area ≡ x.area) × (y.layout ≡ x.layout)
in_numbered n pos [] x on = absurd (in_nothing x on)
in_numbered n pos (y ∷ xs) x on = elim (in_cons_cases (record y { step = n; pos = pos })
    (accesses_from n (pos + 1) xs) x on) [
      | inl same ↦ (y, in_first y xs, ap (λ (a : Access). a.area) same, ap (λ (a : Access). a.layout) same)
      | inr later ↦ (let r = in_numbered n (pos + 1) xs x later in (r.0, in_cons y xs r.0 r.1, r.2, r.3))
    ]

pub accesses_long : (n pos : ℕ) (xs : List Access) → length (accesses_from n pos xs) ≡ length xs
accesses_long n pos [] = refl
accesses_long n pos (x ∷ xs) = let e = accesses_long n (pos + 1) xs in omega arith

pub numbered_accesses : (t : Trace) (n pos : ℕ) (xs : List Access) → All (IsAccessOf t) xs
    → All (IsAccessOf t) (accesses_from n pos xs)
numbered_accesses t n pos xs all = all_of (IsAccessOf t) (accesses_from n pos xs)
    (λ x on. (let y = in_numbered n pos xs x on in
    like_access t x y.0 y.2 y.3 (All-contains (IsAccessOf t) xs y.0 all y.1)))

pub numbered_group_is : (t : Trace) (n pos : ℕ) (g : Group) → IsGroupOf t g
    → IsGroupOf t (numbered_group n pos g)
numbered_group_is t n pos g = like_is t g (numbered_group n pos g) (record {
  deps = λ d on. (d, on, refl);
  accesses = in_numbered n pos g.transitions;
  many = let e = accesses_long n pos g.transitions in omega (arith, e);
  olds = refl;
  transfer = refl;
})

pub numbered_groups : (t : Trace) (n pos : ℕ) (gs : List Group) → All (IsGroupOf t) gs
    → All (IsGroupOf t) (groups_from n pos gs)
numbered_groups t n pos [] all = All-nil (IsGroupOf t)
numbered_groups t n pos (g ∷ gs) all = All-cons (IsGroupOf t) (numbered_group n pos g)
    (groups_from n (pos + length g.transitions) gs)
    (numbered_group_is t n pos g (All-head (IsGroupOf t) g gs all))
    (numbered_groups t n (pos + length g.transitions) gs (All-tail (IsGroupOf t) g gs all))

pub numbered_is : (t : Trace) (n : ℕ) (s : Step) → IsStepOf t s → IsStepOf t (numbered_step n s)
numbered_is t n (Accesses list) is = numbered_accesses t n 0 list is
numbered_is t n (Groups list) is = numbered_groups t n 0 list is
numbered_is t n (SetEvent event place list) is = numbered_groups t n 0 list is
numbered_is t n (WaitEvent event place) is = tt
numbered_is t n (ResetEvent event place) is = tt

pub numbered_all : (t : Trace) (n : ℕ) (ss : List Step) → All (IsStepOf t) ss
    → All (IsStepOf t) (numbered_steps n ss)
numbered_all t n [] all = All-nil (IsStepOf t)
numbered_all t n (s ∷ ss) all = All-cons (IsStepOf t) (numbered_step n s) (numbered_steps (n + 1) ss)
    (numbered_is t n s (All-head (IsStepOf t) s ss all))
    (numbered_all t (n + 1) ss (All-tail (IsStepOf t) s ss all))

-- Groups without a range and without transitions.

pub plain_group : (t : Trace) (g : Group) → All (λ (d : Dep). d.range ≡ None) g.deps → g.transitions ≡ []
    → g.olds ≡ [] → g.transfer ≡ None → IsGroupOf t g
plain_group t g ranges transitions olds transfer = record {
  ranges = All-weaker (λ (d : Dep). d.range ≡ None) (IsDepOf t)
      (λ d e. subst (IsRangeOf t) (sym e) tt) g.deps ranges;
  transitions = subst (All (IsAccessOf t)) (sym transitions) (All-nil (IsAccessOf t));
  held = nothing_held g transitions;
  olds = subst (All (IsOldOf t)) (sym olds) (All-nil (IsOldOf t));
  paired = let e = ap (λ (xs : List Access). length xs) transitions in omega (arith, e);
  transfer = subst (IsTransferOf t) (sym transfer) tt;
}

-- Groups of barriers and passes.

pub kept_none : {X : Type 0} (p : X → Bool) (xs : List X) → length (filter p xs) ≤ length xs
kept_none p [] = omega arith
kept_none p (x ∷ xs) = by_test (p x) (kept_none p xs)
  where
    by_test : (b : Bool) → length (filter p xs) ≤ length xs
        → length (if b then x ∷ filter p xs else filter p xs) ≤ suc (length xs)
    by_test true h = omega (arith, h)
    by_test false h = omega (arith, h)

-- a group whose ranges hold the areas of the pairs that are transitions
pub group_is : (t : Trace) (place : Place) (deps : List Dep) (olds moves_on : List Old)
    (transfer : Option Transfer) → All (IsDepOf t) deps → All (IsOldOf t) olds → All (IsOldOf t) moves_on
    → length moves_on ≤ length olds → IsTransferOf t transfer
    → ((o : Old) (d : Dep) (c : Cell) → Contains moves_on o → Contains deps d → IsTrue (covers o.area c)
    → Within d.range c) → IsGroupOf t (group place deps olds moves_on transfer)
group_is t place deps olds moves_on transfer ranges are moving_are many of hold = record {
  ranges = All-map (IsDepOf t) (with_transition_stage moves_on) deps
      (All-weaker (IsDepOf t) (λ (d : Dep). IsDepOf t (with_transition_stage moves_on d))
      (λ d h. subst (IsRangeOf t) (sym (same_range moves_on d)) h) deps ranges);
  transitions = All-map (IsAccessOf t) (transition place) moves_on
      (All-weaker (IsOldOf t) (λ (o : Old). IsAccessOf t (transition place o))
      (λ o h. record { area = h.area; layout = tt }) moves_on moving_are);
  held = λ x on d c of_deps covered. (
      let o = in_map (transition place) moves_on x on in
      let e = in_map (with_transition_stage moves_on) deps d of_deps in
      let here : IsTrue (covers o.0.area c) = subst (λ (a : Access). IsTrue (covers a.area c))
      (sym o.2) covered in
      subst (λ (y : Dep). Within y.range c) e.2 (subst (λ (r : Option Area). Within r c)
      (sym (same_range moves_on e.0)) (hold o.0 e.0 c o.1 e.1 here)));
  olds = are;
  paired = let e = length-map moves_on (transition place) in omega (arith, e, many);
  transfer = of;
}
  where
    same_range : (ms : List Old) (d : Dep) → (with_transition_stage ms d).range ≡ d.range
    same_range [] d = refl
    same_range (m ∷ ms) d = refl
