-- Whether some access of a step races.
use Rattle.std.proofs.Common.{ℕ, ◌≡◌, ◌<◌, ◌+◌, IsTrue, List, ◌⊎◌, inl, inr, arith, sym, ◌∙◌, ap, subst}
use Rattle.std.proofs.Common.{[], ◌∷◌, refl, Contains, length, get_or, Option, Some, None, IfSome, Bor}
use Rattle.std.specs.Option.{option_copied}
use Rattle.std.proofs.lemmas.List.{get_or_default}
use Rattle.sv_model.specs.Cells.{covers}
use Rattle.sv_model.specs.Dependencies.{Placed, IsOwn}
use Rattle.sv_model.specs.Order.{Story, IsBelow, IsClear, IsPartner, extended}
use Rattle.sv_model.specs.Reports.{on_cell}
use Rattle.sv_model.proofs.Lists.{in_cons, in_filter, in_first}
use Rattle.sv_model.specs.declared.work.Access.{Access}
use Rattle.sv_model.specs.declared.work.Cell.{Cell}
use Rattle.sv_model.specs.declared.work.Group.{Group}
use Rattle.sv_state.specs.States.{RangesHold}
use Rattle.sv_space.specs.Own.{own_group, HaveOwnGroups}

listed_item : (xs : List Access) (i : ℕ) (x : Access) → i < length xs → x ≡ get_or xs i x → Contains xs x
listed_item xs i x lt is = (i, lt, sym is)

pub own_if : (groups : List Group) (xs : List Access) → HaveOwnGroups groups xs → (i : ℕ) (x : Access) → i
    < length xs → x ≡ get_or xs i x → (found : Option (Bor Group)) → option_copied found
    ≡ own_group groups x.pos → IfSome found (λ g. IsOwn x g.now)
own_if groups xs own i x lt is None e = tt
own_if groups xs own i x lt is (Some g) e = (own x g.now (listed_item xs i x lt is) (sym e)).own

pub held_if : (groups : List Group) (xs : List Access) → HaveOwnGroups groups xs → (i : ℕ) (x : Access) → i
    < length xs → x ≡ get_or xs i x → (found : Option (Bor Group)) → option_copied found
    ≡ own_group groups x.pos → IfSome found (λ g. RangesHold g.now x.area)
held_if groups xs own i x lt is None e = tt
held_if groups xs own i x lt is (Some g) e = (own x g.now (listed_item xs i x lt is) (sym e)).held

cases_more : (i k : ℕ) → k < i + 1 → (k < i) ⊎ (k ≡ i)
cases_more i k h = grind arith

-- an access of the list races
pub some_races : {K : Type 0} (own : Access → List Placed) (accesses : List Access) (i : ℕ) (x : Access)
    (seen : List Placed) → seen ≡ own x → (story : Story) (epoch : ℕ) (a : Access) → i < length accesses → x
    ≡ get_or accesses i x
    → ((y : Access) → Contains accesses y → IsBelow y.step story)
    → ((y : Access) → Contains accesses y → IsTrue (covers y.area story.cell))
    → (IsBelow x.step story → IsTrue (covers x.area story.cell) → IsPartner (extended story seen) epoch x a
    × K)
    → (y : Access) × Contains accesses y × ((b : Access) × IsPartner (extended story (own y)) epoch y b)
some_races own accesses i x seen same story epoch a lt is below cov h =
    let on : Contains accesses x = listed_item accesses i x lt is in (
      x,
      on,
      (
        a,
        subst (λ (ds : List Placed). IsPartner (extended story ds) epoch x a) same
            (h (below x on) (cov x on)).0,
      ),
    )

-- none up to the i-th does
pub clear_more : (own : Access → List Placed) (accesses : List Access) (i : ℕ) (x : Access)
    (seen : List Placed) → seen ≡ own x → (story : Story) (epoch : ℕ) → i < length accesses → x
    ≡ get_or accesses i x
    → ((y : Access) → Contains accesses y → IsBelow y.step story)
    → ((y : Access) → Contains accesses y → IsTrue (covers y.area story.cell))
    → (IsBelow x.step story → IsTrue (covers x.area story.cell) → IsClear (extended story seen) epoch x)
    → ((k : ℕ) (d : Access) → k < length accesses → k < i
    → IsClear (extended story (own (get_or accesses k d))) epoch (get_or accesses k d))
    → (k : ℕ) (d : Access) → k < length accesses → k < i + 1
    → IsClear (extended story (own (get_or accesses k d))) epoch (get_or accesses k d)
clear_more own accesses i x seen same story epoch lt is below cov h all k d len before =
    elim (cases_more i k before) [
      | inl less ↦ all k d len less
      | inr here ↦ (
          let on : Contains accesses x = listed_item accesses i x lt is in
          let at : get_or accesses k d ≡ x = ap (λ (n : ℕ). get_or accesses n d) here
          ∙ get_or_default accesses i d x lt ∙ sym is in
          subst (λ (y : Access). IsClear (extended story (own y)) epoch y) (sym at)
          (subst (λ (ds : List Placed). IsClear (extended story ds) epoch x) same
          (h (below x on) (cov x on))))
    ]

-- those on a cell have their own groups too
pub own_on_cell : (groups : List Group) (accesses : List Access) (cell : Cell)
    → HaveOwnGroups groups accesses → (xs : List Access) → xs ≡ on_cell cell accesses
    → HaveOwnGroups groups xs
own_on_cell groups accesses cell own xs is x g on found =
    own x g (in_filter (λ (a : Access). covers a.area cell) accesses x
    (subst (λ (ys : List Access). Contains ys x) is on)).0 found

-- where each is on the cell, those on it are all
pub all_on_cell : (accesses : List Access) (cell : Cell)
    → ((x : Access) → Contains accesses x → IsTrue (covers x.area cell)) → on_cell cell accesses ≡ accesses
all_on_cell [] cell all = refl
all_on_cell (x ∷ xs) cell all = rw (all x (in_first x xs))
    (ap (λ (ys : List Access). x ∷ ys) (all_on_cell xs cell (λ y on. all y (in_cons x xs y on))))
