-- The steps of recordings without render scopes have few accesses, and none in a subpass.
use Rattle.std.proofs.Common.{ℕ, ◌+◌, ◌-◌, ◌≤◌, ◌≡◌, true, false, List, [], ◌∷◌, ◌++◌, Option, Some}
use Rattle.std.proofs.Common.{None, inl, inr, length, map, reverse, Contains, refl, sym, ap, subst, arith}
use Rattle.std.proofs.Common.{length-append}
use Rattle.std.specs.Prelude.{◌==◌, option_map}
use Rattle.std.specs.List.{All, flat_map}
use Rattle.std.proofs.lemmas.List.{get_or-reverse, length-map, length-reverse}
use Rattle.std.proofs.lemmas.List.Elements.{All-append, All-cons, All-head, All-nil, All-tail}
use Rattle.std.proofs.lemmas.List.Elements.{Contains-append_cases, Contains-append_left}
use Rattle.std.proofs.lemmas.List.Elements.{Contains-append_right}
use Rattle.sv_model.specs.declared.line.Command.{Command}
use Rattle.sv_model.specs.declared.line.Command.TheVariants as command
use Rattle.sv_model.specs.declared.line.Declared.{Declared}
use Rattle.sv_model.specs.declared.line.Element.{Element}
use Rattle.sv_model.specs.declared.line.Recording.{Recording}
use Rattle.sv_model.specs.declared.line.Target.{Target}
use Rattle.sv_model.specs.declared.line.Trace.{Trace}
use Rattle.sv_model.specs.declared.work.Access.{Access}
use Rattle.sv_model.specs.declared.work.Area.{Area}
use Rattle.sv_model.specs.declared.work.Dep.{Dep}
use Rattle.sv_model.specs.declared.work.Group.{Group}
use Rattle.sv_model.specs.declared.work.Here.{Here}
use Rattle.sv_model.specs.declared.work.Old.{Old}
use Rattle.sv_model.specs.declared.work.Place.{Place}
use Rattle.sv_model.specs.declared.work.Step.{Step}
use Rattle.sv_model.specs.declared.work.Step.TheVariants.{Accesses, Groups, SetEvent, WaitEvent, ResetEvent}
use Rattle.sv_model.specs.Barriers.{area_of, dependency, element_group, group_on, moving, olds_of}
use Rattle.sv_model.specs.Barriers.{place_of, track_of, transfer_for, transition}
use Rattle.sv_model.specs.Declarations.{recording_of}
use Rattle.sv_model.specs.Events.{with_tokens}
use Rattle.sv_model.specs.Lawful.{IsLawful}
use Rattle.sv_model.specs.LawfulCommands.{AreLawful, IsLawfulCommand, IsLawfulRecording}
use Rattle.sv_model.specs.Positions.{accesses_from, groups_from, numbered_step}
use Rattle.sv_model.specs.Positions.{numbered_steps}
use Rattle.sv_model.specs.Recordings.{Scope, Outside, begins, compile, declared_access, here_after, lowered}
use Rattle.sv_model.specs.Recordings.{next_scope, scope_after, steps_in, steps_of, subpass_in}
use Rattle.sv_model.proofs.ElementTransitions.{few_transitions}
use Rattle.sv_step_laws.specs.Bounded.{BeginNone, HasNoScopes}
use Rattle.sv_step_laws.proofs.Areas.{in_map, in_nothing}
use Rattle.sv_step_laws.proofs.Lowered.{find_is}

-- Lists of at most 64 accesses.

abbrev pub transitions_in : List Group → List Access
transitions_in groups = flat_map (λ (g : Group). g.transitions) groups

pub record AreFew (P : Access → Type 0) (xs : List Access) : Type 0 where
  pub few : length xs ≤ 64
  pub each : (a : Access) → Contains xs a → P a

pub few_none : (P : Access → Type 0) (xs : List Access) → xs ≡ [] → AreFew P xs
few_none P xs none = record {
  few = let e = ap (λ (ys : List Access). length ys) none in omega (arith, e);
  each = λ a on. absurd (in_nothing a (subst (λ (ys : List Access). Contains ys a) none on));
}

-- as long as another list, each access in the place of one there
module _ (P Q : Access → Type 0) where
  pub record AreFor (xs ys : List Access) : Type 0 where
    pub long : length ys ≡ length xs
    pub from : (a : Access) → Contains ys a → (b : Access) × Contains xs b × (P b → Q a)

  pub few_for : (xs ys : List Access) → AreFor xs ys → AreFew P xs → AreFew Q ys
  few_for xs ys are few = record {
    few = let l = are.long in let f = few.few in omega (arith, l, f);
    each = λ a on. (let b = are.from a on in b.2 (few.each b.0 b.1));
  }

  none_for : AreFor [] []
  none_for = record { long = refl; from = λ a on. absurd (in_nothing a on) }

  both_for : (xs ys vs ws : List Access) → AreFor xs ys → AreFor vs ws → AreFor (xs ++ vs) (ys ++ ws)
  both_for xs ys vs ws one two = record {
    long = let a = length-append xs vs in let b = length-append ys ws in let l = one.long in
        let m = two.long in omega (arith, a, b, l, m);
    from = λ a on. (elim (Contains-append_cases ys ws a on) [
      | inl first ↦ (let b = one.from a first in (b.0, Contains-append_left xs vs b.0 b.1, b.2))
      | inr second ↦ (let b = two.from a second in (b.0, Contains-append_right xs vs b.0 b.1, b.2))
    ]);
  }

  pub mapped_for : (f : Access → Access) → ((a : Access) → P a → Q (f a)) → (xs : List Access)
      → AreFor xs (map f xs)
  mapped_for f each xs = record {
    long = length-map xs f;
    from = λ a on. (let b = in_map f xs a on in (b.0, b.1, λ p. subst Q b.2 (each b.0 p)));
  }

  -- groups in the place of others
  pub groups_for : (h : Group → Group) → ((g : Group) → AreFor g.transitions (h g).transitions)
      → (gs : List Group) → AreFor (transitions_in gs) (transitions_in (map h gs))
  groups_for h each [] = none_for
  groups_for h each (g ∷ gs) = both_for g.transitions (h g).transitions (transitions_in gs)
      (transitions_in (map h gs)) (each g) (groups_for h each gs)

  -- halves of groups, each with a token
  pub tokens_for : (half : ℕ → Group → Group)
      → ((token : ℕ) (g : Group) → AreFor g.transitions (half token g).transitions)
      → (token : ℕ) (gs : List Group) → AreFor (transitions_in gs)
      (transitions_in (with_tokens half token gs))
  tokens_for half each token [] = none_for
  tokens_for half each token (g ∷ gs) = both_for g.transitions (half token g).transitions (transitions_in gs)
      (transitions_in (with_tokens half (token + 1) gs)) (each token g) (tokens_for half each (token + 1) gs)

-- few accesses in the step, of a recording or of a work
abbrev pub IsFewStep : (Access → Type 0) → Step → Type 0
IsFewStep P (Accesses list) = AreFew P list
IsFewStep P (Groups list) = AreFew P (transitions_in list)
IsFewStep P (SetEvent event place list) = AreFew P (transitions_in list)
IsFewStep P (WaitEvent event place) = Unit {0}
IsFewStep P (ResetEvent event place) = Unit {0}

-- Numbering.

module _ (P : Access → Type 0)
    (same : (n pos : ℕ) (a : Access) → P a → P (record a { step = n; pos = pos })) where
  numbered_accesses : (n pos : ℕ) (xs : List Access) → AreFor P P xs (accesses_from n pos xs)
  numbered_accesses n pos [] = none_for P P
  numbered_accesses n pos (x ∷ xs) = both_for P P (x ∷ []) (record x { step = n; pos = pos } ∷ []) xs
      (accesses_from n (pos + 1) xs) (mapped_for P P (λ (a : Access). record a { step = n; pos = pos })
      (same n pos) (x ∷ [])) (numbered_accesses n (pos + 1) xs)

  numbered_groups : (n pos : ℕ) (gs : List Group) → AreFor P P (transitions_in gs)
      (transitions_in (groups_from n pos gs))
  numbered_groups n pos [] = none_for P P
  numbered_groups n pos (g ∷ gs) = both_for P P g.transitions (accesses_from n pos g.transitions)
      (transitions_in gs) (transitions_in (groups_from n (pos + length g.transitions) gs))
      (numbered_accesses n pos g.transitions) (numbered_groups n (pos + length g.transitions) gs)

  pub numbered_few : (n : ℕ) (s : Step) → IsFewStep P s → IsFewStep P (numbered_step n s)
  numbered_few n (Accesses list) is = few_for P P list (accesses_from n 0 list)
      (numbered_accesses n 0 list) is
  numbered_few n (Groups list) is = few_for P P (transitions_in list) (transitions_in (groups_from n 0 list))
      (numbered_groups n 0 list) is
  numbered_few n (SetEvent event place list) is = few_for P P (transitions_in list)
      (transitions_in (groups_from n 0 list)) (numbered_groups n 0 list) is
  numbered_few n (WaitEvent event place) is = tt
  numbered_few n (ResetEvent event place) is = tt

  all_numbered_few : (n : ℕ) (ss : List Step) → All (IsFewStep P) ss → All (IsFewStep P) (numbered_steps n ss)
  all_numbered_few n [] all = All-nil (IsFewStep P)
  all_numbered_few n (s ∷ ss) all = All-cons (IsFewStep P) (numbered_step n s) (numbered_steps (n + 1) ss)
      (numbered_few n s (All-head (IsFewStep P) s ss all))
      (all_numbered_few (n + 1) ss (All-tail (IsFewStep P) s ss all))

-- Recordings.

abbrev pub IsOutside : Access → Type 0
IsOutside a = a.sub ≡ None

outside_numbered : (n pos : ℕ) (a : Access) → IsOutside a → IsOutside (record a { step = n; pos = pos })
outside_numbered n pos a is = is

abbrev pub IsFewOutside : Step → Type 0
IsFewOutside s = IsFewStep IsOutside s

first_none : (c : Command) (before : List Command) → BeginNone (c ∷ before) → begins c ≡ false
first_none c before none = All-head (λ (x : Command). begins x ≡ false) c before none

others_none : (c : Command) (before : List Command) → BeginNone (c ∷ before) → BeginNone before
others_none c before none = All-tail (λ (x : Command). begins x ≡ false) c before none

scope_none : (before : List Command) → BeginNone before → scope_after before ≡ Outside
scope_none [] none = refl
scope_none (command.Work accesses ∷ before) none =
    scope_none before (others_none (command.Work accesses) before none)
scope_none (command.Barrier deps ∷ before) none =
    scope_none before (others_none (command.Barrier deps) before none)
scope_none (command.SetEvent event deps ∷ before) none =
    scope_none before (others_none (command.SetEvent event deps) before none)
scope_none (command.WaitEvent event ∷ before) none =
    scope_none before (others_none (command.WaitEvent event) before none)
scope_none (command.ResetEvent event ∷ before) none =
    scope_none before (others_none (command.ResetEvent event) before none)
scope_none (command.BeginRendering attachments ∷ before) none =
    absurd (let e : true ≡ false = first_none (command.BeginRendering attachments) before none in cc)
scope_none (command.EndRendering ∷ before) none = refl
scope_none (command.BeginPass pass views ∷ before) none =
    absurd (let e : true ≡ false = first_none (command.BeginPass pass views) before none in cc)
scope_none (command.NextSubpass ∷ before) none =
    ap next_scope (scope_none before (others_none command.NextSubpass before none))
scope_none (command.EndPass ∷ before) none = refl

moves_outside : (place : Place) (olds : List Old) (a : Access) → Contains (map (transition place) olds) a
    → IsOutside a
moves_outside place olds a on = let o = in_map (transition place) olds a on in subst IsOutside o.2 refl

group_outside : (here : Here) (dep : Option Area → Dep) (target : Option Target) (a : Access)
    → Contains (group_on here dep target).transitions a → IsOutside a
group_outside here dep None a on = moves_outside (place_of here) (moving None []) a on
group_outside here dep (Some x) a on =
    let at : Area = area_of x.res x.part in
    moves_outside (place_of here) (moving (transfer_for here.family at x.families) (olds_of at x.layouts)) a
    on

element_outside : (here : Here) (e : Element) (a : Access) → Contains (element_group here e).transitions a
    → IsOutside a
element_outside here e = group_outside here (dependency (track_of here) e.src e.src_access
    (track_of here) e.dst e.dst_access) e.target

elements_long : (here : Here) (es : List Element) → length (transitions_in (map (element_group here) es))
    ≤ length es
elements_long here [] = omega arith
elements_long here (e ∷ es) =
    let both = length-append (element_group here e).transitions
    (transitions_in (map (element_group here) es)) in
    let one = few_transitions here e in
    let rest = elements_long here es in
    omega (arith, both, one, rest)

elements_outside : (here : Here) (es : List Element) (a : Access)
    → Contains (transitions_in (map (element_group here) es)) a → IsOutside a
elements_outside here [] a on = absurd (in_nothing a on)
elements_outside here (e ∷ es) a on = elim (Contains-append_cases (element_group here e).transitions
    (transitions_in (map (element_group here) es)) a on) [
      | inl first ↦ element_outside here e a first
      | inr later ↦ elements_outside here es a later
    ]

elements_few : (here : Here) (es : List Element) → length es ≤ 64
    → AreFew IsOutside (transitions_in (map (element_group here) es))
elements_few here es short = record {
  few = let l = elements_long here es in omega (arith, l, short);
  each = elements_outside here es;
}

accesses_few : (here : Here) → here.subpass ≡ None → (list : List Declared) → length list ≤ 64
    → AreFew IsOutside (map (declared_access here) list)
accesses_few here none list short = record {
  few = let l = length-map list (declared_access here) in omega (arith, l, short);
  each = λ a on. (let d = in_map (declared_access here) list a on in
      subst IsOutside d.2 (ap (λ (s : Option ℕ). option_map (λ (i : ℕ). (here.instance, i)) s) none));
}

one_step : (s : Step) → IsFewOutside s → All IsFewOutside (s ∷ [])
one_step s is = All-cons IsFewOutside s [] is (All-nil IsFewOutside)

command_few : (t : Trace) (here : Here) (family : ℕ) (c : Command) → here.subpass ≡ None → begins c ≡ false
    → IsLawfulCommand t family Outside c → All IsFewOutside (steps_of t here Outside c)
command_few t here family (command.Work accesses) none first h =
    one_step (Accesses (map (declared_access here) accesses)) (accesses_few here none accesses h.short)
command_few t here family (command.Barrier deps) none first h =
    one_step (Groups (map (element_group here) deps)) (elements_few here deps h.short)
command_few t here family (command.SetEvent event deps) none first h =
    one_step (SetEvent event (place_of here) (map (element_group here) deps)) (elements_few here deps h.short)
command_few t here family (command.WaitEvent event) none first h =
    one_step (WaitEvent event (place_of here)) tt
command_few t here family (command.ResetEvent event) none first h =
    one_step (ResetEvent event (place_of here)) tt
command_few t here family (command.BeginRendering attachments) none first h =
    absurd (let e : true ≡ false = first in cc)
command_few t here family command.EndRendering none first h = All-nil IsFewOutside
command_few t here family (command.BeginPass pass views) none first h =
    absurd (let e : true ≡ false = first in cc)
command_few t here family command.NextSubpass none first h = All-nil IsFewOutside
command_few t here family command.EndPass none first h = All-nil IsFewOutside

lowered_few : (t : Trace) (r : Recording) (cs : List Command) → AreLawful t r.family cs → BeginNone cs
    → All IsFewOutside (lowered t r cs)
unfolding lowered
lowered_few t r [] are none = All-nil IsFewOutside
lowered_few t r (c ∷ before) are none =
    let rest = others_none c before none in
    let out = scope_none before rest in
    let here = here_after r c before (length (lowered t r before)) in
    All-append IsFewOutside (lowered t r before) _ (lowered_few t r before are.1 rest)
    (all_numbered_few IsOutside outside_numbered here.step (steps_of t here (scope_after before) c)
    (subst (λ (s : Scope). All IsFewOutside (steps_of t here s c)) (sym out)
    (command_few t here r.family c (ap subpass_in out) (first_none c before none)
    (subst (λ (s : Scope). IsLawfulCommand t r.family s c) out are.0))))

reversed : (cs : List Command) → BeginNone cs → BeginNone (reverse cs)
reversed cs none k d lt =
    let long : length (reverse cs) ≡ length cs = length-reverse cs in
    subst (λ (c : Command). begins c ≡ false) (sym (get_or-reverse cs k d (omega (arith, long, lt))))
    (none (length cs - 1 - k) d (omega (arith, long, lt)))

pub compile_few : (t : Trace) → IsLawful t → HasNoScopes t → (k : ℕ) → All IsFewOutside (compile t k)
compile_few t lawful none k = by_option (recording_of t k) refl
  where
    by_option : (o : Option Recording) → recording_of t k ≡ o → All IsFewOutside (steps_in t o)
    by_option None e = All-nil IsFewOutside
    by_option (Some r) e = lowered_few t r (reverse r.commands)
        (find_is (IsLawfulRecording t) (λ (x : Recording). x.rec == k) t.recordings r lawful.recordings
        e).commands
        (reversed r.commands (find_is (λ (x : Recording). BeginNone x.commands)
        (λ (x : Recording). x.rec == k) t.recordings r none e))
