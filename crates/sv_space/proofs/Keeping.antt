-- What is known of the cells of a piece stays so: where the piece is cut, goes through groups, records a
-- step or joins another one.
use Rattle.std.proofs.Common.{ℕ, ◌≡◌, ◌<◌, ◌≤◌, ◌+◌, List, [], ◌∷◌, ◌++◌, ◌⊎◌, inl, inr, arith, suc, refl}
use Rattle.std.proofs.Common.{sym, ◌∙◌, ap, subst, Contains, length-drop, length, get_or, take, drop}
use Rattle.std.proofs.Common.{append-nil, append_assoc, length-append}
use Rattle.std.specs.List.{AllPairs}
use Rattle.std.proofs.lemmas.List.Kept.{AllPairs-cons}
use Rattle.std.proofs.lemmas.List.{take-append-drop, take_all, take-append-le, drop-append-le, drop_all}
use Rattle.std.proofs.lemmas.List.{take_more, length-take, get_or-take, get_or-drop, get_or_default}
use Rattle.std.proofs.lemmas.List.Elements.{All-append, Contains-append_left, Contains-append_right}
use Rattle.std.proofs.lemmas.List.Elements.{Contains-append_cases}
use Rattle.std.proofs.lemmas.List.Concat.{flat_map-append}
use Rattle.sv_model.specs.Dependencies.{Placed, placed, dependencies}
use Rattle.sv_model.specs.Order.{Story, grown, extended}
use Rattle.sv_model.specs.Reports.{groups_of, story_of, IsCurrent, IsNumbered, AreNumbered}
use Rattle.sv_model.proofs.Lists.{in_flat_map, in_first, in_cons}
use Rattle.sv_model.proofs.Current.{current_kept, current_start}
use Rattle.sv_model.proofs.Works.{accesses_on, deps_of, story_grows, step_at, work_below}
use Rattle.sv_model.specs.declared.work.Access.{Access}
use Rattle.sv_model.specs.declared.work.Cell.{Cell}
use Rattle.sv_model.specs.declared.work.Group.{Group}
use Rattle.sv_model.specs.declared.work.Step.{Step}
use Rattle.sv_state.specs.States.{AreNext, HasGrown}
use Rattle.sv_space.specs.Meant.{StandsFor}
use Rattle.sv_state.specs.Contents.{Contents, contents_of}
use Rattle.sv_state.specs.declared.state.CellState.{CellState}
use Rattle.sv_state.specs.States as state
use Rattle.sv_state.proofs.StateLaws.{stands_same}
use Rattle.sv_space.specs.Known.{groups_in, cut_story, AreAlike, AreKnown, HasGone, MayFollow}

-- a part of the cells
pub known_part : (work : List Step) (Holds Part : Cell → Type 0) (upto : ℕ) (state : Contents)
    → ((c : Cell) → Part c → Holds c) → AreKnown work Holds upto state → AreKnown work Part upto state
known_part work Holds Part upto state sub k = record {
  within = k.within;
  up_to = k.up_to;
  after = k.after;
  each = λ c h. k.each c (sub c h);
  alike = λ c e h i. k.alike c e (sub c h) (sub e i);
}

-- a state stands for what it holds
pub stands_of : (story : Story) (epoch : ℕ) (s : CellState) → state.StandsFor story epoch s
    → StandsFor story epoch (contents_of s)
stands_of story epoch s st = λ t same. stands_same s t same story epoch st

-- going through groups, one after another
pub gone_none : (at : Cell) (state : Contents) → HasGone at [] state state
gone_none at state = record {
  stands = λ story epoch alike st. subst (λ (ds : List Placed). StandsFor
      (record { cell = story.cell; accesses = story.accesses; deps = ds }) epoch state)
      (sym (append-nil story.deps)) st;
  up_to = λ n le all. le;
}

-- the groups of a numbered work are of its steps
pub group_below : (work : List Step) → AreNumbered work → (g : Group) → Contains (groups_in work) g → g.step
    < length work
group_below work are g on =
    let r = in_flat_map groups_of work g on in
    let is : IsNumbered r.1.0 r.0 = subst (IsNumbered r.1.0) r.1.2 (are r.1.0 r.0 r.1.1) in
    let at = is.groups g r.2 in
    omega (arith, at, r.1.1)

in_drop : (n : ℕ) (gs : List Group) (g : Group) → Contains (drop n gs) g → Contains gs g
in_drop n gs g on = subst (λ (xs : List Group). Contains xs g) (take-append-drop n gs)
    (Contains-append_right (take n gs) (drop n gs) g on)

nothing_left : (gs : List Group) (g : Group) → Contains (drop (length gs) gs) g → ⊥
nothing_left gs g on = let e = drop_all (length gs) gs (omega arith) in let h =
    subst (λ (xs : List Group). Contains xs g) e on in let k = h.1 in omega arith

-- the deps of the first groups and of the others are all
split_deps : (n : ℕ) (gs : List Group) → dependencies (take n gs) ++ dependencies (drop n gs)
    ≡ dependencies (take (length gs) gs)
split_deps n gs = sym (flat_map-append placed (take n gs) (drop n gs))
    ∙ ap dependencies (take-append-drop n gs) ∙ ap dependencies
    (sym (take_all (length gs) gs (omega arith)))

-- catching up, on one of the cells
pub known_caught : (work : List Step) → AreNumbered work
    → (Holds : Cell → Type 0) (upto : ℕ) (old new : Contents) (at : Cell) → Holds at
    → HasGone at (drop upto (groups_in work)) old new → AreKnown work Holds upto old
    → AreKnown work Holds (length (groups_in work)) new
known_caught work are Holds upto old new at here gone k = record {
  within = omega arith;
  up_to = gone.up_to (length work) k.up_to (λ g on. let b =
      group_below work are g (in_drop upto (groups_in work) g on) in omega (arith, b));
  after = λ g on. absurd (nothing_left (groups_in work) g on);
  each = λ c h. (let was = k.each c h in record {
    epoch = was.epoch;
    current = was.current;
    stands = subst (λ (ds : List Placed). StandsFor
        (record { cell = c; accesses = (story_of work c).accesses; deps = ds }) was.epoch new)
        (split_deps upto (groups_in work))
        (gone.stands (cut_story work upto c) was.epoch (k.alike at c here h) was.stands);
  });
  alike = λ c e h i g on. absurd (nothing_left (groups_in work) g on);
}

-- with all groups the story is whole
pub whole_story : (work : List Step) (cell : Cell) → cut_story work (length (groups_in work)) cell
    ≡ story_of work cell
whole_story work cell = ap (λ (gs : List Group). record
    { cell = cell; accesses = (story_of work cell).accesses; deps = dependencies gs })
    (take_all (length (groups_in work)) (groups_in work) (omega arith))

module _ (work : List Step) (step : Step) (are : AreNumbered work)
    (next : IsNumbered (length work) step) where
  abbrev more : List Step
  more = work ++ step ∷ []

  pub groups_more : groups_in more ≡ groups_in work ++ groups_of step
  groups_more = flat_map-append groups_of work (step ∷ [])
      ∙ ap (λ (gs : List Group). groups_in work ++ gs) (append-nil (groups_of step))

  pub take_same : (n : ℕ) → n ≤ length (groups_in work) → take n (groups_in more) ≡ take n (groups_in work)
  take_same n le = ap (take n) groups_more ∙ take-append-le n (groups_in work) (groups_of step) le

  -- what is left to be given: what was, and the groups of the step
  left_cases : (n : ℕ) → n ≤ length (groups_in work) → (g : Group) → Contains (drop n (groups_in more)) g
      → Contains (drop n (groups_in work)) g ⊎ Contains (groups_of step) g
  left_cases n le g on =
      Contains-append_cases (drop n (groups_in work)) (groups_of step) g
      (subst (λ (xs : List Group). Contains xs g)
      (ap (drop n) groups_more ∙ drop-append-le n (groups_in work) (groups_of step) le) on)

  longer : (cell : Cell) → story_of more cell ≡ grown (story_of work cell) (accesses_on step cell)
      (deps_of step)
  longer cell = story_grows work step cell

  longer_accesses : (cell : Cell) → (story_of more cell).accesses ≡ (story_of work cell).accesses
      ++ accesses_on step cell
  longer_accesses cell = ap (λ (s : Story). s.accesses) (longer cell)

  module _ (Holds : Cell → Type 0) (upto : ℕ) (old : Contents) (known : AreKnown work Holds upto old) where
    pub within_more : upto ≤ length (groups_in more)
    within_more = let w = known.within in let e = ap length groups_more
        ∙ length-append (groups_in work) (groups_of step) in omega (arith, w, e)

    pub after_more : (new : Contents) → new.step ≡ old.step → (g : Group)
        → Contains (drop upto (groups_in more)) g → new.step ≤ g.step
    after_more new same g on = elim (left_cases upto known.within g on) [
      | inl was ↦ (let h = known.after g was in omega (arith, same, h))
      | inr added ↦ (let h = next.groups g added in let u = known.up_to in omega (arith, same, h, u))
    ]

    pub alike_more : ((c e : Cell) → Holds c → Holds e → AreAlike (groups_of step) c e) → (c e : Cell)
        → Holds c → Holds e → AreAlike (drop upto (groups_in more)) c e
    alike_more split c e h i g on = elim (left_cases upto known.within g on) [
      | inl was ↦ known.alike c e h i g was
      | inr added ↦ split c e h i g added
    ]

    pub up_to_more : (new : Contents) → new.step ≡ old.step → new.step ≤ length more
    up_to_more new same = let u = known.up_to in let l = length-append work (step ∷ []) in
        omega (arith, same, u, l)

    -- a step that does not touch the cells, and whose groups do not tell them apart
    pub known_untouched : ((c : Cell) → Holds c → accesses_on step c ≡ [])
        → ((c e : Cell) → Holds c → Holds e → AreAlike (groups_of step) c e) → AreKnown more Holds upto old
    known_untouched none split = record {
      within = within_more;
      up_to = up_to_more old refl;
      after = after_more old refl;
      each = λ c h. (let was = known.each c h in record {
        epoch = was.epoch;
        current = subst (λ (s : Story). IsCurrent s was.epoch) (sym (longer c))
            (current_kept (story_of work c) (accesses_on step c) (deps_of step) (length work)
            (work_below work c are) (step_at (length work) step c next) was.epoch was.current
            (λ x on. absurd (let k = subst (λ (xs : List Access). Contains xs x) (none c h) on in let b =
            k.1 in omega arith)));
        stands = subst (λ (s : Story). StandsFor s was.epoch old) (same_story c h) was.stands;
      });
      alike = alike_more split;
    }
      where
        same_story : (c : Cell) → Holds c → cut_story work upto c ≡ cut_story more upto c
        same_story c h =
            let accesses : (story_of work c).accesses ≡ (story_of more c).accesses =
            sym (longer_accesses c ∙ ap (λ (xs : List Access). (story_of work c).accesses ++ xs)
            (none c h) ∙ append-nil (story_of work c).accesses) in
            let groups : take upto (groups_in work) ≡ take upto (groups_in more) =
            sym (take_same upto known.within) in
            ap (λ (p : List Access × List Group). record
            { cell = c; accesses = p.0; deps = dependencies p.1 })
            (let e : ((story_of work c).accesses, take upto (groups_in work))
            ≡ ((story_of more c).accesses, take upto (groups_in more)) = cc in e)

-- before any work
pub known_before : (Holds : Cell → Type 0) (state : Contents) → state.step ≡ 0
    → ((cell : Cell) → StandsFor (record { cell = cell; accesses = []; deps = [] }) 0 state)
    → AreKnown [] Holds 0 state
known_before Holds state step stands = record {
  within = omega arith;
  up_to = omega (arith, step);
  after = λ g on. absurd (let h = on.1 in omega arith);
  each = λ c h. record { epoch = 0; current = current_start c; stands = stands c };
  alike = λ c e h i g on. absurd (let k = on.1 in omega arith);
}

pub pairs_append : {X : Type 0} (R : X → X → Type 0) (xs ys : List X) → AllPairs R xs → AllPairs R ys
    → ((x y : X) → Contains xs x → Contains ys y → R x y) → AllPairs R (xs ++ ys)
pairs_append R [] ys one two across = two
pairs_append R (x ∷ xs) ys one two across =
    AllPairs-cons R x (xs ++ ys)
    (All-append (R x) xs ys
    (λ k d lt. one 0 (suc k) d (omega arith) (omega arith))
    (λ k d lt. across x (get_or ys k d) (in_first x xs) (k, lt, get_or_default ys k (get_or ys k d) d lt)))
    (pairs_append R xs ys (λ i j d lt len. one (suc i) (suc j) d (omega arith) (omega arith)) two
    (λ y z on_y on_z. across y z (in_cons x xs y on_y) on_z))

-- the groups of a work stand in the order of its steps
groups_ordered : (n : ℕ) (work : List Step) → ((k : ℕ) (d : Step) → k < length work
    → IsNumbered (n + k) (get_or work k d)) → AllPairs (λ (g h : Group). g.step ≤ h.step) (groups_in work)
groups_ordered n [] are = λ i j d lt len. absurd (omega arith)
groups_ordered n (s ∷ work) are =
    pairs_append (λ (g h : Group). g.step ≤ h.step) (groups_of s) (groups_in work)
    (λ i j d lt len. (
    let a = first_step (get_or (groups_of s) i d)
    (i, omega arith, get_or_default (groups_of s) i (get_or (groups_of s) i d) d (omega arith)) in
    let b = first_step (get_or (groups_of s) j d)
    (j, len, get_or_default (groups_of s) j (get_or (groups_of s) j d) d len) in
    omega (arith, a, b)))
    (groups_ordered (n + 1) work rest)
    (λ g h on_g on_h. (
    let a = first_step g on_g in
    let r = in_flat_map groups_of work h on_h in
    let is : IsNumbered (n + 1 + r.1.0) r.0 = subst (IsNumbered (n + 1 + r.1.0)) r.1.2
    (rest r.1.0 r.0 r.1.1) in
    let b = is.groups h r.2 in
    omega (arith, a, b)))
  where
    first_step : (g : Group) → Contains (groups_of s) g → g.step ≡ n
    first_step g on = let e : n + 0 ≡ n = omega arith in (are 0 s (omega arith)).groups g on ∙ e

    rest : (k : ℕ) (d : Step) → k < length work → IsNumbered (n + 1 + k) (get_or work k d)
    rest k d lt = let e : n + suc k ≡ n + 1 + k = omega arith in
        subst (λ (m : ℕ). IsNumbered m (get_or work k d)) e (are (suc k) d (omega arith))

-- the groups that a state lacks may be given to it, one after another
pub may_follow : (work : List Step) → AreNumbered work
    → (Holds : Cell → Type 0) (upto : ℕ) (state : Contents) → AreKnown work Holds upto state
    → MayFollow state.step (drop upto (groups_in work))
may_follow work are Holds upto state k = record {
  after = k.after;
  in_order = λ i j d lt len. (
      let all = groups_ordered 0 work (λ m e m_lt. let z : 0 + m ≡ m = omega arith in
      subst (λ (q : ℕ). IsNumbered q (get_or work m e)) (sym z) (are m e m_lt)) in
      let l = length-drop upto (groups_in work) in
      rw (get_or-drop upto (groups_in work) i d, get_or-drop upto (groups_in work) j d)
      (all (upto + i) (upto + j) d (omega arith) (omega (arith, len, l))));
}
