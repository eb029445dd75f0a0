-- Lines of which the accesses of a step are recorded, one access after another.
use Rattle.std.proofs.Common.{ℕ, Bool, true, false, ◌&&◌, ◌==◌, if◌then◌else◌, ◌≡◌, ◌<◌, ◌≤◌, ◌+◌, ◌⊎◌, inl}
use Rattle.std.proofs.Common.{inr, IsTrue, List, [], ◌∷◌, ◌++◌, Contains, length, get_or, take, arith, refl}
use Rattle.std.proofs.Common.{sym, ◌∙◌, ap, subst}
use Rattle.std.proofs.lemmas.Bool.{eqb-true}
use Rattle.std.proofs.lemmas.List.{take_more, take_all}
use Rattle.std.proofs.lemmas.List.Elements.{Contains-append_left, Contains-push, Contains-push_cases}
use Rattle.sv_model.specs.Cells.{area_resource, covers, Within}
use Rattle.sv_model.specs.Reports.{accesses_of, groups_of, on_cell}
use Rattle.sv_model.proofs.Lists.{in_first, in_cons, in_cons_cases}
use Rattle.sv_model.specs.declared.work.Access.{Access}
use Rattle.sv_model.specs.declared.work.Area.{Area}
use Rattle.sv_model.specs.declared.work.Area.TheVariants.{Bytes, Image}
use Rattle.sv_model.specs.declared.work.Cell.{Cell}
use Rattle.sv_model.specs.declared.work.Dep.{Dep}
use Rattle.sv_model.specs.declared.work.Group.{Group}
use Rattle.sv_model.specs.declared.work.Step.{Step}
use Rattle.sv_range.specs.declared.span.Span.{Span}
use Rattle.sv_rangemap.specs.Lines.{Cover}
use Rattle.sv_rangemap.specs.declared.part.Part.{Part}
use Rattle.std.specs.Prelude.{Option, Some, None}
use Rattle.sv_space.specs.AllLines.{IsRangeOf}
use Rattle.sv_space.specs.Cut.{Covers, IsCutFor, IsCaughtFor}
use Rattle.sv_space.specs.Known.{groups_in}
use Rattle.sv_space.specs.Lines.{IsOf, cell_on}
use Rattle.sv_space.specs.Marked.{IsFree, IsMarked, IsStepOf}
use Rattle.sv_space.specs.Pieces.{IsPieceOf, IsUniform}
use Rattle.sv_space.specs.Steps.{AreInOrder, IsNext}
use Rattle.sv_space.specs.declared.known.Known.{Known}
use Rattle.sv_space.specs.declared.shape.Shape.{Shape}
use Rattle.sv_space.specs.declared.shape.Shape.TheVariants as shape
use Rattle.sv_space.proofs.Keeping.{known_untouched}
use Rattle.sv_space.proofs.LaterAt.{both}

-- some of the accesses touches the cell, or none
pub busy_or_free : (xs : List Access) (res : ℕ) (s : Shape) (n : ℕ)
    → ((x : Access) × Contains xs x × Covers x.area res s n) ⊎ IsFree xs res s n
busy_or_free [] res s n = inr (λ x on covered. absurd (let h = on.1 in omega arith))
busy_or_free (x ∷ xs) res s n = by_test (covers x.area (cell_on res s n)) refl (busy_or_free xs res s n)
  where
    by_test : (b : Bool) → covers x.area (cell_on res s n) ≡ b
        → ((y : Access) × Contains xs y × Covers y.area res s n) ⊎ IsFree xs res s n
        → ((y : Access) × Contains (x ∷ xs) y × Covers y.area res s n) ⊎ IsFree (x ∷ xs) res s n
    by_test true is rest = inl (x, in_first x xs, is)
    by_test false is (inl (y, on, covered)) = inl (y, in_cons x xs y on, covered)
    by_test false is (inr free) = inr (λ y on covered. elim (in_cons_cases x xs y on) [
      | inl same ↦ absurd (let h : true ≡ false =
          sym (subst (λ (z : Access). Covers z.area res s n) (sym same) covered) ∙ is in cc)
      | inr later ↦ free y later covered
    ])

-- a covered cell is of the area's resource
pub covers_res : (area : Area) (res : ℕ) (s : Shape) (n : ℕ) → Covers area res s n → area_resource area ≡ res
covers_res (Bytes r span) res shape.Bytes n covered = first_is r res _ covered
  where
    first_is : (a b : ℕ) (rest : Bool) → IsTrue ((a == b) && rest) → a ≡ b
    first_is a b rest h = eqb-true a b (both (a == b) rest h).0
covers_res (Image r box) res (shape.Mips mips layers) n covered = first_is r res _ covered
  where
    first_is : (a b : ℕ) (rest : Bool) → IsTrue ((a == b) && rest) → a ≡ b
    first_is a b rest h = eqb-true a b (both (a == b) rest h).0
covers_res (Bytes r span) res (shape.Mips mips layers) n covered =
    absurd (let h : false ≡ true = covered in cc)
covers_res (Image r box) res shape.Bytes n covered = absurd (let h : false ≡ true = covered in cc)

-- accesses that touch both cells or neither are the same on both
same_filter : (xs : List Access) (c e : Cell) → ((x : Access) → Contains xs x → covers x.area c
    ≡ covers x.area e) → on_cell c xs ≡ on_cell e xs
same_filter [] c e same = refl
same_filter (x ∷ xs) c e same =
    by_test (covers x.area c) (covers x.area e) (same x (in_first x xs))
    (same_filter xs c e (λ y on. same y (in_cons x xs y on)))
  where
    by_test : (a b : Bool) → a ≡ b → on_cell c xs ≡ on_cell e xs
        → (if a then x ∷ on_cell c xs else on_cell c xs) ≡ (if b then x ∷ on_cell e xs else on_cell e xs)
    by_test true true is rest = ap (λ (ys : List Access). x ∷ ys) rest
    by_test false false is rest = rest
    by_test true false is rest = absurd (let h : true ≡ false = is in cc)
    by_test false true is rest = absurd (let h : false ≡ true = is in cc)

same_bool : (a b : Bool) → (IsTrue a → IsTrue b) → (IsTrue b → IsTrue a) → a ≡ b
same_bool true true f g = refl
same_bool false false f g = refl
same_bool true false f g = sym (f refl)
same_bool false true f g = g refl

-- what holds of cut pieces: each access and each range has all of their cells or none
module _ (res : ℕ) (s : Shape) (parts : List (Part Known)) (k : ℕ) (d : Part Known)
    (lt : k < length parts) where
  cut_both : (area : Area) → IsCutFor area res s parts → (c e : Cell) → IsOf res s (get_or parts k d).span c
      → IsOf res s (get_or parts k d).span e → IsTrue (covers area c) → IsTrue (covers area e)
  cut_both area cut c e of_c of_e covered =
      subst (λ (f : Cell). IsTrue (covers area f)) (sym of_e.is)
      (cut.whole k of_c.number of_e.number d lt of_c.inside of_e.inside
      (subst (λ (f : Cell). IsTrue (covers area f)) of_c.is covered))

  pub cut_uniform : (step : Step) → ((x : Access) → Contains (accesses_of step) x
      → IsCutFor x.area res s parts) → ((area : Area) → IsRangeOf (groups_of step) area
      → IsCutFor area res s parts) → IsUniform step res s (get_or parts k d).span
  cut_uniform step accesses ranges = record {
    accesses = λ c e of_c of_e. same_filter (accesses_of step) c e
        (λ x on. same_bool (covers x.area c) (covers x.area e) (cut_both x.area (accesses x on) c e of_c of_e)
        (cut_both x.area (accesses x on) e c of_e of_c));
    groups = λ c e of_c of_e g on dep in_g. (
      one c e of_c of_e g on dep in_g,
      one e c of_e of_c g on dep in_g,
    );
  }
    where
      by_range : (c e : Cell) → IsOf res s (get_or parts k d).span c → IsOf res s (get_or parts k d).span e
          → (range : Option Area) → ((area : Area) → range ≡ Some area → IsCutFor area res s parts)
          → Within range c → Within range e
      by_range c e of_c of_e None cut within = tt
      by_range c e of_c of_e (Some area) cut within = cut_both area (cut area refl) c e of_c of_e within

      one : (c e : Cell) → IsOf res s (get_or parts k d).span c → IsOf res s (get_or parts k d).span e
          → (g : Group) → Contains (groups_of step) g → (dep : Dep) → Contains g.deps dep → Within dep.range c
          → Within dep.range e
      one c e of_c of_e g on dep in_g = by_range c e of_c of_e dep.range
          (λ area is. ranges area (record { group = g; dep = dep; listed = on; in_group = in_g; is = is }))

-- a piece that no access of the step touches
pub untouched : (work : List Step) (step : Step) → AreInOrder work → IsNext (length work) step
    → (res : ℕ) (s : Shape) (p : Part Known) → p.span.start < p.span.end → IsUniform step res s p.span
    → IsFree (accesses_of step) res s p.span.start → IsPieceOf work res s p
    → IsPieceOf (work ++ step ∷ []) res s p
untouched work step steps next res s p some uniform free of =
    known_untouched work step (λ k d lt. (steps k d lt).numbered) next.numbered
    (IsOf res s p.span) p.value.upto p.value.state of
    (λ c h. uniform.accesses c (cell_on res s p.span.start) h
    (record { number = p.span.start; inside = record { from = omega arith; before = some }; is = refl })
    ∙ none (accesses_of step) (λ x on. free x on))
    uniform.groups
  where
    none : (xs : List Access) → IsFree xs res s p.span.start → on_cell (cell_on res s p.span.start) xs ≡ []
    none [] h = refl
    none (x ∷ xs) h = by_test (covers x.area (cell_on res s p.span.start)) refl
        (none xs (λ y on. h y (in_cons x xs y on)))
      where
        by_test : (b : Bool) → covers x.area (cell_on res s p.span.start) ≡ b
            → on_cell (cell_on res s p.span.start) xs ≡ []
            → (if b then x ∷ on_cell (cell_on res s p.span.start) xs else on_cell
            (cell_on res s p.span.start) xs) ≡ []
        by_test true is rest = absurd (h x (in_first x xs) is)
        by_test false is rest = rest

-- after the first so many accesses: a piece that one of them touches stands for the longer work, and one
-- that none touches is as it was
pub record IsStepped (accesses : List Access) (groups : List Group) (n res : ℕ) (s : Shape)
    (parts : List (Part Known)) (k : ℕ) (d : Part Known) (new : Part Known) : Type 0 where
  pub span : new.span ≡ (get_or parts k d).span
  pub upto : new.value.upto ≡ (get_or parts k d).value.upto
  pub left : IsFree (take n accesses) res s (get_or parts k d).span.start → new ≡ get_or parts k d
  pub done : (work : List Step) (step : Step) → IsStepOf work step accesses groups
      → ((x : Access) → Contains accesses x → IsCaughtFor x.area (length (groups_in work)) res s parts)
      → IsUniform step res s (get_or parts k d).span → IsPieceOf work res s (get_or parts k d)
      → (x : Access) → Contains (take n accesses) x → Covers x.area res s (get_or parts k d).span.start
      → IsPieceOf (work ++ step ∷ []) res s new

module _ (accesses : List Access) (groups : List Group) (res : ℕ) (s : Shape) (size : ℕ)
    (parts : List (Part Known)) (cover : Cover size parts) (k : ℕ) (d : Part Known)
    (lt : k < length parts) where
  pub stepped_none : IsStepped accesses groups 0 res s parts k d (get_or parts k d)
  stepped_none = record {
    span = refl;
    upto = refl;
    left = λ free. refl;
    done = λ work step is caught uniform of x on. absurd (let h = on.1 in omega arith);
  }

  module _ (n : ℕ) (x : Access) (n_lt : n < length accesses) (x_is : get_or accesses n x ≡ x)
      (mid new : Part Known) (was : IsStepped accesses groups n res s parts k d mid) where
    taken : take (n + 1) accesses ≡ take n accesses ++ x ∷ []
    taken = take_more accesses n x n_lt ∙ ap (λ (y : Access). take n accesses ++ y ∷ []) x_is

    in_taken : (y : Access) → Contains (take (n + 1) accesses) y → Contains (take n accesses) y ⊎ (x ≡ y)
    in_taken y on = Contains-push_cases (take n accesses) x y
        (subst (λ (ys : List Access). Contains ys y) taken on)

    fewer : IsFree (take (n + 1) accesses) res s (get_or parts k d).span.start
        → IsFree (take n accesses) res s (get_or parts k d).span.start
    fewer free y on = free y (subst (λ (ys : List Access). Contains ys y) (sym taken)
        (Contains-append_left (take n accesses) (x ∷ []) y on))

    -- the access does not touch the piece
    pub stepped_past : ¬ Covers x.area res s (get_or parts k d).span.start → new ≡ mid
        → IsStepped accesses groups (n + 1) res s parts k d new
    stepped_past not_covered same = record {
      span = ap (λ (p : Part Known). p.span) same ∙ was.span;
      upto = ap (λ (p : Part Known). p.value.upto) same ∙ was.upto;
      left = λ free. same ∙ was.left (fewer free);
      done = λ work step is caught uniform of y on covered. elim (in_taken y on) [
        | inl before ↦ subst (λ (p : Part Known). IsPieceOf (work ++ step ∷ []) res s p) (sym same)
            (was.done work step is caught uniform of y before covered)
        | inr now ↦ absurd (not_covered (subst (λ (z : Access). Covers z.area res s
            (get_or parts k d).span.start) (sym now) covered))
      ];
    }

    -- it does
    pub stepped_here : Covers x.area res s (get_or parts k d).span.start
        → IsMarked accesses groups n res s mid new → IsStepped accesses groups (n + 1) res s parts k d new
    stepped_here here mark = record {
      span = mark.span ∙ was.span;
      upto = mark.upto ∙ was.upto;
      left = λ free. absurd (free x (subst (λ (ys : List Access). Contains ys x) (sym taken)
          (Contains-push (take n accesses) x)) here);
      done = λ work step is caught uniform of y on covered. elim
          (busy_or_free (take n accesses) res s (get_or parts k d).span.start) [
            | inl busy ↦ subst (λ (p : Part Known). IsPieceOf (work ++ step ∷ []) res s p)
                (sym (mark.busy busy.0 busy.1 (subst (λ (m : ℕ). Covers busy.0.area res s m) (sym start)
                busy.2)))
                (was.done work step is caught uniform of busy.0 busy.1 busy.2)
            | inr free ↦ (
                let same : mid ≡ get_or parts k d = was.left free in
                let on_x : Contains accesses x = (n, n_lt, x_is) in
                let upto_all = caught x on_x k (get_or parts k d).span.start d lt
                (record { from = omega arith; before = cover.cells k d lt }) here in
                mark.recorded work step is (was.upto ∙ upto_all)
                (subst (λ (m : ℕ). IsFree (take n accesses) res s m) (sym start) free)
                (subst (λ (p : Part Known). IsUniform step res s p.span) (sym same) uniform)
                (subst (λ (p : Part Known). IsPieceOf work res s p) (sym same) of))
          ];
    }
      where
        start : mid.span.start ≡ (get_or parts k d).span.start
        start = ap (λ (t : Span). t.start) was.span

  -- after all of them
  pub stepped_all : (new : Part Known) (n : ℕ) → length accesses ≤ n
      → IsStepped accesses groups n res s parts k d new → (work : List Step) (step : Step)
      → IsStepOf work step accesses groups
      → ((x : Access) → Contains accesses x → IsCaughtFor x.area (length (groups_in work)) res s parts)
      → IsUniform step res s (get_or parts k d).span → IsPieceOf work res s (get_or parts k d)
      → IsPieceOf (work ++ step ∷ []) res s new
  stepped_all new n over was work step is caught uniform of =
      let all : take n accesses ≡ accesses = take_all n accesses over in
      elim (busy_or_free accesses res s (get_or parts k d).span.start) [
        | inl busy ↦ was.done work step is caught uniform of busy.0
            (subst (λ (ys : List Access). Contains ys busy.0) (sym all) busy.1) busy.2
        | inr free ↦ (
            let same : new ≡ get_or parts k d = was.left
            (subst (λ (ys : List Access). IsFree ys res s (get_or parts k d).span.start) (sym all) free)
            in
            subst (λ (p : Part Known). IsPieceOf (work ++ step ∷ []) res s p) (sym same)
            (untouched work step is.steps is.next res s (get_or parts k d) (cover.cells k d lt) uniform
            (subst (λ (ys : List Access). IsFree ys res s (get_or parts k d).span.start) is.accesses_is
            free) of))
      ]
