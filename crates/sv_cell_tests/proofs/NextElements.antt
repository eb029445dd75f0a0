-- The group of one element on an area of a trace, as the next step.
use Rattle.std.proofs.Common.{ℕ, zero, suc, ◌≡◌, ◌∙◌, ◌<◌, ◌≤◌, ◌^◌, ◌++◌, List, [], ◌∷◌, Option, Some}
use Rattle.std.proofs.Common.{None, true, IsTrue, Contains, arith, ap, inl, inr, length, lit<, refl, subst}
use Rattle.std.proofs.Common.{sym}
use Rattle.std.specs.Prelude.{IfSome, IsSome, is_some, option_to_list, slice_index_or}
use Rattle.std.specs.List.{All, flat_map}
use Rattle.std.proofs.lemmas.Bool.{true≢false}
use Rattle.std.proofs.lemmas.List.{append-nil}
use Rattle.std.proofs.lemmas.List.Elements.{All-cons, All-nil}
use Rattle.sv_model.specs.Cells.{Within, covers}
use Rattle.sv_model.specs.Reports.{accesses_of, groups_of}
use Rattle.sv_model.specs.declared.line.Trace.{Trace}
use Rattle.sv_model.specs.declared.work.Access.{Access}
use Rattle.sv_model.specs.declared.work.Area.{Area}
use Rattle.sv_model.specs.declared.work.Cell.{Cell}
use Rattle.sv_model.specs.declared.work.Dep.{Dep}
use Rattle.sv_model.specs.declared.work.Group.{Group}
use Rattle.sv_model.specs.declared.work.Old.{Old}
use Rattle.sv_model.specs.declared.work.Step.{Step}
use Rattle.sv_model.specs.declared.work.Step.TheVariants.{Groups}
use Rattle.sv_model.specs.declared.work.Transfer.{Transfer}
use Rattle.sv_model.proofs.Lists.{in_cons_cases, in_first}
use Rattle.sv_state.specs.States.{RangesHold}
use Rattle.sv_space.specs.Areas.{IsAreaOf}
use Rattle.sv_space.specs.Steps.{IsNext}
use Rattle.sv_step_laws.specs.Steps.{IsAccessOf, IsDepOf, IsGroupOf, IsOfImage, IsOldOf, IsRangeOf}
use Rattle.sv_step_laws.specs.Steps.{IsTransferOf, MayDeclare}
use Rattle.sv_model.specs.Size.{HasShortOlds}
use Rattle.sv_step_laws.proofs.Areas.{all_of, in_nothing}
use Rattle.sv_cell_tests.specs.NextSteps.{IsNextOf, IsTransitionOn}

-- an item of a list of one or none
in_option : {X : Type 0} (o : Option X) (x : X) → Contains (option_to_list o) x → o ≡ Some x
in_option None x on = absurd (in_nothing x on)
in_option (Some y) x on = elim (in_cons_cases y [] x on) [
  | inl same ↦ ap Some same
  | inr later ↦ absurd (in_nothing x later)
]

-- what holds of the item, if there is one, holds of each item of the list
each_of : {X : Type 0} (P : X → Type 0) (xs : List X) (o : Option X) → xs ≡ option_to_list o → IfSome o P
    → (x : X) → Contains xs x → P x
each_of {X} P xs o e h x on = subst (λ (k : Option X). IfSome k P)
    (in_option o x (subst (λ (ys : List X). Contains ys x) e on)) h

few : {X : Type 0} (o : Option X) → length (option_to_list o) ≤ 1
few None = omega arith
few (Some x) = omega arith

paired : {X Y : Type 0} (o : Option X) (p : Option Y) → (IsSome o → IsSome p) → length (option_to_list o)
    ≤ length (option_to_list p)
paired None p h = omega arith
paired (Some x) None h = absurd (true≢false (sym (h refl)))
paired (Some x) (Some y) h = omega arith

placed : (o : Option Access) → IfSome o (λ a. a.pos ≡ 0) → (k : ℕ) (d : Access) → k
    < length (option_to_list o) → (slice_index_or (option_to_list o) k d).pos ≡ k
placed None h k d lt = absurd (omega arith)
placed (Some a) h zero d lt = h
placed (Some a) h (suc k) d lt = absurd (omega arith)

weaker : {X : Type 0} (P Q : X → Type 0) (o : Option X) → ((x : X) → P x → Q x) → IfSome o P → IfSome o Q
weaker P Q None f h = tt
weaker P Q (Some x) f h = f x h

-- the group is made of these on an area of the trace
pub record IsElement (t : Trace) (area : Area) (n : ℕ) (g : Group) (dep : Dep) (transition : Option Access)
    (old : Option Old) (transfer : Option Transfer) : Type 0 where
  pub inside : IsAreaOf t area
  pub step : g.step ≡ n
  pub deps : g.deps ≡ dep ∷ []
  pub transitions : g.transitions ≡ option_to_list transition
  pub olds : g.olds ≡ option_to_list old
  pub transfer_is : g.transfer ≡ transfer
  pub range : dep.range ≡ Some area
  pub changes : IfSome transition (IsTransitionOn area n)
  pub pairs : IsSome transition → IsSome old
  pub of_area : IfSome old (λ o. o.area ≡ area)
  pub of_image : IsSome old → IsOfImage area
  pub on_area : IfSome transfer (λ x. x.area ≡ area)

access_is : (t : Trace) (area : Area) (n : ℕ) (a : Access) → IsAreaOf t area → IsTransitionOn area n a
    → IsAccessOf t a
access_is t area n a inside is = record {
  area = subst (IsAreaOf t) (sym is.area_is) inside;
  layout = subst (MayDeclare a.area) (sym is.layout) tt;
}

old_is : (t : Trace) (area : Area) (o : Option Old) → IsAreaOf t area → IfSome o (λ x. x.area ≡ area)
    → (IsSome o → IsOfImage area) → IfSome o (IsOldOf t)
old_is t area None inside e image = tt
old_is t area (Some x) inside e image = record {
  area = subst (IsAreaOf t) (sym e) inside;
  image = subst IsOfImage (sym e) (image refl);
}

transfer_is_of : (t : Trace) (area : Area) (o : Option Transfer) → IsAreaOf t area
    → IfSome o (λ x. x.area ≡ area) → IsTransferOf t o
transfer_is_of t area None inside e = tt
transfer_is_of t area (Some x) inside e = subst (IsAreaOf t) (sym e) inside

module _ (t : Trace) (area : Area) (n : ℕ) (g : Group) (dep : Dep) (transition : Option Access)
    (old : Option Old) (transfer : Option Transfer)
    (is : IsElement t area n g dep transition old transfer) where
  transition_in : (x : Access) → Contains g.transitions x → IsTransitionOn area n x
  transition_in x on = each_of (IsTransitionOn area n) g.transitions transition is.transitions is.changes x on

  range_in : (d : Dep) → Contains g.deps d → d.range ≡ Some area
  range_in d on = each_of (λ (k : Dep). k.range ≡ Some area) g.deps (Some dep) is.deps is.range d on

  range_holds : (x : Access) → Contains g.transitions x → (d : Dep) (c : Cell) → Contains g.deps d
      → IsTrue (covers x.area c) → Within d.range c
  range_holds x on d c of_group covered =
      let e = (transition_in x on).area_is in
      let h : IsTrue (covers area c) = subst (λ (a : Area). IsTrue (covers a c)) e covered in
      subst (λ (o : Option Area). Within o c) (sym (range_in d of_group)) h

  as_many : length g.transitions ≤ length g.olds
  as_many =
      subst (λ (xs : List Access). length xs ≤ length g.olds) (sym is.transitions)
      (subst (λ (xs : List Old). length (option_to_list transition) ≤ length xs) (sym is.olds)
      (paired transition old is.pairs))

  few_olds : length g.olds < 2 ^ 32
  few_olds = let e : length g.olds ≡ length (option_to_list old) = ap length is.olds in let f = few old in
      omega (arith, e, f)

  element_is : IsGroupOf t g
  element_is = record {
    ranges = all_of (IsDepOf t) g.deps (λ d on. subst (IsRangeOf t) (sym (range_in d on)) is.inside);
    transitions = all_of (IsAccessOf t) g.transitions
        (λ x on. access_is t area n x is.inside (transition_in x on));
    held = range_holds;
    olds = all_of (IsOldOf t) g.olds (each_of (IsOldOf t) g.olds old is.olds
        (old_is t area old is.inside is.of_area is.of_image));
    paired = as_many;
    transfer = subst (IsTransferOf t) (sym is.transfer_is)
        (transfer_is_of t area transfer is.inside is.on_area);
  }

  all_transitions : g.transitions ++ [] ≡ option_to_list transition
  all_transitions = append-nil g.transitions ∙ is.transitions

  element_comes : IsNext n (Groups (g ∷ []))
  element_comes = record {
    numbered = record {
      accesses = λ a on. (each_of (IsTransitionOn area n)
          (g.transitions ++ []) transition all_transitions is.changes a on).step;
      groups = λ h on. each_of (λ (k : Group). k.step ≡ n) (g ∷ []) (Some g) refl is.step h on;
    };
    positions = subst (λ (xs : List Access). (k : ℕ) (d : Access) → k < length xs
        → (slice_index_or xs k d).pos ≡ k) (sym all_transitions)
        (placed transition (weaker (IsTransitionOn area n) (λ (a : Access). a.pos ≡ 0) transition
        (λ a h. h.pos) is.changes));
  }

  pub element_next : (list : List Group) → list ≡ g ∷ [] → IsNextOf t n (Groups list)
  element_next list same = subst (λ (gs : List Group). IsNextOf t n (Groups gs)) (sym same) (record {
    inside = All-cons (IsGroupOf t) g [] element_is (All-nil (IsGroupOf t));
    short = (lit< tt, All-cons HasShortOlds g [] few_olds (All-nil HasShortOlds));
    next = element_comes;
  })
