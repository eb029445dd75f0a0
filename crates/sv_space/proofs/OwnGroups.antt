-- Each transition of a step has one group, and sees the dependencies of that group alone.
use Rattle.std.proofs.Common.{ℕ, zero, suc, Bool, true, false, ◌≡◌, ◌<◌, ◌≤◌, ◌+◌, ◌-◌, nat_lt}
use Rattle.std.proofs.Common.{if◌then◌else◌, List, [], ◌∷◌, ◌++◌, arith, refl, sym, ◌∙◌, ap, subst}
use Rattle.std.proofs.Common.{Contains, Option, Some, None, length, get_or, length-append, drop, take}
use Rattle.std.specs.List.{flat_map}
use Rattle.std.proofs.lemmas.List.{get_or_append_left, get_or-append_right, drop_all, take_more, append-nil}
use Rattle.std.proofs.lemmas.List.Concat.{flat_map-append}
use Rattle.std.proofs.lemmas.Bool.{le-leb}
use Rattle.sv_model.specs.Dependencies.{Placed, placed, dependencies, own_deps, IsOwn}
use Rattle.sv_model.specs.Order.{IsBelow}
use Rattle.sv_model.specs.Reports.{groups_of, story_of}
use Rattle.sv_model.proofs.Lists.{in_flat_map, from_flat_map, in_filter}
use Rattle.sv_model.proofs.Seen.{LeadAlike, use_alike, own_alike}
use Rattle.sv_model.proofs.Transitions.{placed_step}
use Rattle.sv_model.proofs.Works.{accesses_on, deps_of, work_below}
use Rattle.sv_model.specs.Cells.{covers}
use Rattle.sv_model.specs.declared.work.Access.{Access}
use Rattle.sv_model.specs.declared.work.Cell.{Cell}
use Rattle.sv_model.specs.declared.work.Group.{Group}
use Rattle.sv_model.specs.declared.work.Step.{Step}
use Rattle.sv_model.specs.declared.work.Step.TheVariants.{Accesses, Groups, SetEvent, WaitEvent, ResetEvent}
use Rattle.sv_model.specs.declared.work.What.{What}
use Rattle.sv_model.specs.declared.work.What.TheVariants.{Use, Transition}
use Rattle.sv_space.specs.Steps.{IsNext, AreInOrder}
use Rattle.sv_space.specs.Own.{own_group, own_of}

abbrev all_transitions : List Group → List Access
all_transitions groups = flat_map (λ (g : Group). g.transitions) groups

-- the transitions have the positions from this one on
abbrev ArePlaced : ℕ → List Access → Type 0
ArePlaced from xs = (k : ℕ) (d : Access) → k < length xs → (get_or xs k d).pos ≡ from + k

lt_true : (a b : ℕ) → a < b → nat_lt a b ≡ true
lt_true a b lt = le-leb (suc a) b lt

lt_false : (a b : ℕ) → b ≤ a → nat_lt a b ≡ false
lt_false a b le = grind arith

here_is : (g : Group) (groups : List Group) (n : ℕ) → n < length g.transitions → own_group (g ∷ groups) n
    ≡ Some g
here_is g groups n lt = ap (λ (b : Bool). if b then Some g else own_group groups (n - length g.transitions))
    (lt_true n (length g.transitions) lt)

later_is : (g : Group) (groups : List Group) (n : ℕ) → length g.transitions ≤ n → own_group (g ∷ groups) n
    ≡ own_group groups (n - length g.transitions)
later_is g groups n le = ap (λ (b : Bool). if b then Some g else own_group groups
    (n - length g.transitions)) (lt_false n (length g.transitions) le)

-- a transition's group is the one that lists it
pub own_is : (groups : List Group) (from : ℕ) → ArePlaced from (all_transitions groups) → (h : Group)
    → Contains groups h → (x : Access) → Contains h.transitions x → own_group groups (x.pos - from) ≡ Some h
own_is [] from are h on x in_h = absurd (let k = on.1 in omega arith)
own_is (g ∷ groups) from are h (zero, lt, is) x (j, j_lt, j_is) =
    let in_g : j < length g.transitions = subst (λ (y : Group). j < length y.transitions) (sym is) j_lt in
    let at_g : get_or g.transitions j x ≡ x = subst (λ (y : Group). get_or y.transitions j x ≡ x)
    (sym is) j_is in
    let all : get_or (g.transitions ++ all_transitions groups) j x ≡ x =
    get_or_append_left g.transitions (all_transitions groups) x j in_g ∙ at_g in
    let l = length-append g.transitions (all_transitions groups) in
    let pos : x.pos ≡ from + j = sym (ap (λ (a : Access). a.pos) all) ∙ are j x (omega (arith, in_g, l)) in
    let n : x.pos - from ≡ j = omega (arith, pos) in
    subst (λ (y : Group). own_group (g ∷ groups) (x.pos - from) ≡ Some y) is
    (subst (λ (m : ℕ). own_group (g ∷ groups) m ≡ Some g) (sym n) (here_is g groups j in_g))
own_is (g ∷ groups) from are h (suc i, lt, is) x in_h =
    let l = length-append g.transitions (all_transitions groups) in
    let rest : ArePlaced (from + length g.transitions) (all_transitions groups) = λ k d k_lt. (
    let e = get_or-append_right g.transitions (all_transitions groups) (length g.transitions)
    (length g.transitions + k) d refl (omega arith) in
    let s : length g.transitions + k - length g.transitions ≡ k = omega arith in
    let at : get_or (g.transitions ++ all_transitions groups) (length g.transitions + k) d
    ≡ get_or (all_transitions groups) k d = subst
    (λ (m : ℕ). get_or (g.transitions ++ all_transitions groups) (length g.transitions + k) d
    ≡ get_or (all_transitions groups) m d) s e in
    let p = are (length g.transitions + k) d (omega (arith, k_lt, l)) in
    let q : (get_or (all_transitions groups) k d).pos ≡ from + (length g.transitions + k) =
    sym (ap (λ (a : Access). a.pos) at) ∙ p in
    omega (arith, q)) in
    let deep = own_is groups (from + length g.transitions) rest h (i, omega arith, is) x in_h in
    let far : from + length g.transitions ≤ x.pos =
    placed_behind groups (from + length g.transitions) rest h (i, omega arith, is) x in_h in
    let n : x.pos - from - length g.transitions ≡ x.pos - (from + length g.transitions) = omega arith in
    later_is g groups (x.pos - from) (omega (arith, far))
    ∙ subst (λ (m : ℕ). own_group groups m ≡ Some h) (sym n) deep
  where
    placed_behind : (gs : List Group) (n : ℕ) → ArePlaced n (all_transitions gs) → (h : Group)
        → Contains gs h → (x : Access) → Contains h.transitions x → n ≤ x.pos
    placed_behind gs n placed h on x in_h =
        let k = from_all gs h on x in_h in
        let p = placed k.0 x k.1 in
        let e = ap (λ (a : Access). a.pos) k.2 in
        omega (arith, p, e)
      where
        from_all : (gs : List Group) (h : Group) → Contains gs h → (x : Access) → Contains h.transitions x
            → Contains (all_transitions gs) x
        from_all gs h on x in_h = from_flat_map (λ (g : Group). g.transitions) gs h x on in_h

some_same : {A : Type 0} (a b : A) → Some a ≡ Some b → a ≡ b
some_same a b e = cc

module _ (work : List Step) (steps : AreInOrder work) (groups : List Group)
    (next : IsNext (length work) (Groups groups)) where
  placed_from : ArePlaced 0 (all_transitions groups)
  placed_from k d lt = let p = next.positions k d lt in omega (arith, p)

  own_now : (h : Group) → Contains groups h → (x : Access) → Contains h.transitions x
      → own_group groups x.pos ≡ Some h
  own_now h on x in_h = let z : x.pos - 0 ≡ x.pos = omega arith in
      subst (λ (n : ℕ). own_group groups n ≡ Some h) z (own_is groups 0 placed_from h on x in_h)

  -- the group of a transition of the step
  pub own_found : (x : Access) → Contains (all_transitions groups) x → (h : Group) × Contains groups h
      × Contains h.transitions x × (own_group groups x.pos ≡ Some h)
  own_found x on =
      let r = in_flat_map (λ (g : Group). g.transitions) groups x on in
      (r.0, r.1, r.2, own_now r.0 r.1 x r.2)

  pub own_alone : (x : Access) (h : Group) → own_group groups x.pos ≡ Some h → (g : Group)
      → Contains groups g → IsOwn x g → g ≡ h
  own_alone x h found g on own = some_same g h (sym (own_now g on x own.listed) ∙ found)

-- an access of a step sees as much with its own group's dependencies as with those of the step
pub leads_alike : (work : List Step) (steps : AreInOrder work) (step : Step)
    (next : IsNext (length work) step) (cell : Cell) (x : Access) → Contains (accesses_on step cell) x
    → LeadAlike (story_of work cell) x (own_of (groups_of step) x) (deps_of step)
leads_alike work steps (Accesses xs) next cell x on = λ a. (λ c. c, λ c. c)
leads_alike work steps (Groups groups) next cell x on =
    let in_step : Contains (all_transitions groups) x =
    (in_filter (λ (a : Access). covers a.area cell) (all_transitions groups) x on).0 in
    let found = own_found work steps groups next x in_step in
    let h : Group = found.0 in
    let here : x.step ≡ length work = next.numbered.accesses x in_step in
    let h_step : h.step ≡ length work = next.numbered.groups h found.1 in
    let own : own_of groups x ≡ placed h = ap own_deps found.3 in
    let late : (d : Placed) → Contains (dependencies groups) d → x.step ≤ d.group.step =
    λ d on_d. (let r = in_flat_map placed groups d on_d in let s = placed_step r.0 d r.2 in let t =
    next.numbered.groups r.0 r.1 in omega (arith, here, s, t)) in
    subst (λ (ds : List Placed). LeadAlike (story_of work cell) x ds (dependencies groups)) (sym own)
    (by_what x.what refl h found.1 found.2 here h_step found.3 late)
  where
    by_what : (w : What) → x.what ≡ w → (h : Group) → Contains groups h → Contains h.transitions x → x.step
        ≡ length work → h.step ≡ length work → own_group groups x.pos ≡ Some h
        → ((d : Placed) → Contains (dependencies groups) d → x.step ≤ d.group.step)
        → LeadAlike (story_of work cell) x (placed h) (dependencies groups)
    by_what (Use u) is h on in_h here h_step found late =
        use_alike (story_of work cell) x (placed h) (dependencies groups) u is
        (λ d on_d. let s = placed_step h d on_d in omega (arith, here, h_step, s)) late
    by_what Transition is h on in_h here h_step found late =
        let below : IsBelow (length work) (story_of work cell) =
        work_below work cell (λ k d lt. (steps k d lt).numbered) in
        own_alike (story_of work cell) x h groups is (record { step = here ∙ sym h_step; listed = in_h })
        (subst (λ (n : ℕ). IsBelow n (story_of work cell)) (sym here) below) on
        (λ g on_g own. own_alone work steps groups next x h found g on_g own) late
leads_alike work steps (SetEvent event place groups) next cell x on = absurd (let h = on.1 in omega arith)
leads_alike work steps (WaitEvent event place) next cell x on = absurd (let h = on.1 in omega arith)
leads_alike work steps (ResetEvent event place) next cell x on = absurd (let h = on.1 in omega arith)

-- what it sees of its step is of that step
pub own_at : (work : List Step) (steps : AreInOrder work) (step : Step) (next : IsNext (length work) step)
    (cell : Cell) (x : Access) → Contains (accesses_on step cell) x → (d : Placed)
    → Contains (own_of (groups_of step) x) d → d.group.step ≡ length work
own_at work steps (Accesses xs) next cell x on d in_own = absurd (let h = in_own.1 in omega arith)
own_at work steps (Groups groups) next cell x on d in_own =
    let in_step : Contains (all_transitions groups) x =
    (in_filter (λ (a : Access). covers a.area cell) (all_transitions groups) x on).0 in
    let found = own_found work steps groups next x in_step in
    let here : Contains (placed found.0) d = subst
    (λ (o : Option Group). Contains (own_deps o) d) found.3 in_own in
    placed_step found.0 d here ∙ next.numbered.groups found.0 found.1
own_at work steps (SetEvent event place groups) next cell x on d in_own = absurd (let h = on.1 in omega arith)
own_at work steps (WaitEvent event place) next cell x on d in_own = absurd (let h = on.1 in omega arith)
own_at work steps (ResetEvent event place) next cell x on d in_own = absurd (let h = on.1 in omega arith)
