-- A state goes through the groups of a log, and passes over those that add nothing to it.
use Rattle.std.proofs.Common.{ℕ, ◌≡◌, ◌<◌, ◌≤◌, ◌+◌, ◌-◌, List, [], ◌∷◌, ◌++◌, ◌⊎◌, inl, inr, arith, refl}
use Rattle.std.proofs.Common.{sym, ◌∙◌, ap, subst, Contains, length, get_or, take, drop, append_assoc}
use Rattle.std.proofs.Common.{append-nil, length-drop}
use Rattle.std.proofs.lemmas.List.{take_all, take_more, length-take, get_or-take, get_or-drop}
use Rattle.std.proofs.lemmas.List.{get_or_default, drop-drop}
use Rattle.std.proofs.lemmas.List.Elements.{Contains-append_left, Contains-append_right}
use Rattle.std.proofs.lemmas.List.Concat.{flat_map-append}
use Rattle.std.proofs.Math.Seq.{take-add}
use Rattle.sv_model.specs.Dependencies.{Placed, placed, dependencies}
use Rattle.sv_model.specs.Order.{Story, extended}
use Rattle.sv_model.proofs.Lists.{in_flat_map}
use Rattle.sv_model.proofs.Transitions.{placed_step, placed_dep}
use Rattle.sv_model.specs.declared.work.Cell.{Cell}
use Rattle.sv_model.specs.declared.work.Group.{Group}
use Rattle.sv_state.specs.Contents.{Contents, contents_of}
use Rattle.sv_state.specs.Outlines.{AddsNothing, ArePassed}
use Rattle.sv_state.specs.States.{HasGrown, entries_of}
use Rattle.sv_state.specs.States as state
use Rattle.sv_state.specs.declared.entry.Entry.{Entry}
use Rattle.sv_state.specs.declared.state.CellState.{CellState}
use Rattle.sv_state.proofs.StateLaws.{live_in}
use Rattle.sv_space.specs.Known.{HasGone, MayFollow}
use Rattle.sv_space.specs.Meant.{StandsFor}
use Rattle.sv_space.proofs.Keeping.{gone_none, stands_of}

-- a state that came to a step, where groups up to there add nothing to what it was
module _ (at : Cell) (more : List Group) (step : ℕ) (old mid : CellState)
    (low : (g : Group) → Contains more g → old.step ≤ g.step)
    (high : (g : Group) → Contains more g → g.step ≤ step)
    (late : (g : Group) (e : Entry) → Contains more g → Contains (entries_of old) e → e.access.step
    < g.step) (quiet : (g : Group) → Contains more g → AddsNothing old g)
    (passes : (story : Story) (epoch : ℕ) (ds : List Placed) → state.StandsFor story epoch old
    → ArePassed story step old ds → state.StandsFor (extended story ds) epoch mid) where
  passed : (story : Story) (epoch : ℕ) → state.StandsFor story epoch old
      → ArePassed story step old (dependencies more)
  passed story epoch st = record {
    low = λ n on. (let r = in_flat_map placed more n on in let h = low r.0 r.1 in let s =
        placed_step r.0 n r.2 in omega (arith, h, s));
    high = λ n on. (let r = in_flat_map placed more n on in let h = high r.0 r.1 in let s =
        placed_step r.0 n r.2 in omega (arith, h, s));
    quiet = λ n e on on_e. (
        let r = in_flat_map placed more n on in
        let h = late r.0 e r.1 (live_in old e on_e) in
        let s = placed_step r.0 n r.2 in
        quiet r.0 r.1 e n.dep on_e (placed_dep r.0 n r.2) story.cell story.deps old.step n refl
        (omega (arith, h, s)) (st.each e on_e));
  }

  over : (story : Story) (epoch : ℕ) → StandsFor story epoch (contents_of old)
      → state.StandsFor (extended story (dependencies more)) epoch mid
  over story epoch st = let was = st old refl in passes story epoch (dependencies more) was
      (passed story epoch was)

  -- up to the step of the last of them
  pub gone_over : mid.step ≡ step → (last : Group) → Contains more last → last.step ≡ step
      → HasGone at more (contents_of old) (contents_of mid)
  gone_over come last on is = record {
    stands = λ story epoch alike st. stands_of (extended story (dependencies more)) epoch mid
        (over story epoch st);
    up_to = λ n le all. (let b = all last on in omega (arith, come, is, b));
  }

  -- up to the step of a later one, which it is given
  pub gone_to : (h : Group) (new : CellState) → h.step ≡ step → HasGrown at h mid new
      → HasGone at (more ++ h ∷ []) (contents_of old) (contents_of new)
  gone_to h new is grows = record {
    stands = λ story epoch alike st. (
        let last = grows.stands (extended story (dependencies more)) epoch
        (alike h (Contains-append_right more (h ∷ []) h (0, omega arith, refl))) (over story epoch st) in
        subst (λ (ds : List Placed). StandsFor (record
        { cell = story.cell; accesses = story.accesses; deps = ds }) epoch (contents_of new))
        (append_assoc story.deps (dependencies more) (placed h)
        ∙ ap (λ (ds : List Placed). story.deps ++ ds) (sym (one_more more h)))
        (stands_of (extended (extended story (dependencies more)) (placed h)) epoch new last));
    up_to = λ n le all. (let s = grows.step in let b =
        all h (Contains-append_right more (h ∷ []) h (0, omega arith, refl)) in omega (arith, s, b));
  }
    where
      one_more : (gs : List Group) (g : Group) → dependencies (gs ++ g ∷ []) ≡ dependencies gs ++ placed g
      one_more gs g = flat_map-append placed gs (g ∷ [])
          ∙ ap (λ (ds : List Placed). dependencies gs ++ ds) (append-nil (placed g))

-- groups, and then others
pub gone_then : (at : Cell) (gs hs : List Group) (old mid new : Contents) → HasGone at gs old mid
    → HasGone at hs mid new → HasGone at (gs ++ hs) old new
gone_then at gs hs old mid new one two = record {
  stands = λ story epoch alike st. (
      let first = one.stands story epoch (λ g on. alike g (Contains-append_left gs hs g on)) st in
      let last = two.stands (extended story (dependencies gs)) epoch
      (λ g on. alike g (Contains-append_right gs hs g on)) first in
      subst (λ (ds : List Placed). StandsFor (record
      { cell = story.cell; accesses = story.accesses; deps = ds }) epoch new)
      (append_assoc story.deps (dependencies gs) (dependencies hs)
      ∙ ap (λ (ds : List Placed). story.deps ++ ds) (sym (flat_map-append placed gs hs))) last);
  up_to = λ n le all. two.up_to n (one.up_to n le (λ g on. all g (Contains-append_left gs hs g on)))
      (λ g on. all g (Contains-append_right gs hs g on));
}

-- places in the order of steps
module _ (groups : List Group) (step : ℕ) (may : MayFollow step groups) where
  pub ordered : (i j : ℕ) (g h : Group) → i ≤ j → j < length groups → get_or groups i g ≡ g
      → get_or groups j h ≡ h → g.step ≤ h.step
  ordered i j g h le lt at_i at_j = elim (before_or_at i j le) [
    | inl less ↦ (
        let o = may.in_order i j g less lt in
        let is : get_or groups j g ≡ h = get_or_default groups j g h lt ∙ at_j in
        subst (λ (x : Group). x.step ≤ h.step) at_i
        (subst (λ (y : Group). (get_or groups i g).step ≤ y.step) is o))
    | inr same ↦ (
        let is : g ≡ h = sym at_i ∙ (ap (λ k. get_or groups k g) same
        ∙ (get_or_default groups j g h lt ∙ at_j)) in
        subst (λ (x : Group). g.step ≤ x.step) is (omega arith))
  ]
    where
      before_or_at : (m n : ℕ) → m ≤ n → (m < n) ⊎ (m ≡ n)
      before_or_at m n h = grind arith

  -- what follows after the first of them
  pub may_rest : (at : Cell) (k : ℕ) (old mid : Contents) → old.step ≡ step
      → HasGone at (take k groups) old mid → MayFollow mid.step (drop k groups)
  may_rest at k old mid is gone = record {
    after = λ g on. (
        let j = on.0 in
        let long = length-drop k groups in
        let lt : k + j < length groups = (let l = on.1 in omega (arith, long, l)) in
        let here : get_or groups (k + j) g ≡ g = sym (get_or-drop k groups j g) ∙ on.2 in
        gone.up_to g.step (let b = may.after g (k + j, lt, here) in omega (arith, b, is))
        (λ h on_h. (
        let i = on_h.0 in
        let l = on_h.1 in
        let short = length-take k groups in
        let less : i < k = omega (arith, l, short) in
        ordered i (k + j) h g (omega (arith, less)) lt (sym (get_or-take k groups i h less) ∙ on_h.2) here)));
    in_order = λ i j d lt len. (
        let long = length-drop k groups in
        rw (get_or-drop k groups i d, get_or-drop k groups j d)
        (may.in_order (k + i) (k + j) d (omega (arith, lt)) (omega (arith, len, long))));
  }

-- the groups up to one place, and then those up to another
pub gone_on : (at : Cell) (log : List Group) (from done next : ℕ) (old mid new : Contents) → from ≤ done
    → done ≤ next → HasGone at (take (done - from) (drop from log)) old mid
    → HasGone at (take (next - done) (drop done log)) mid new
    → HasGone at (take (next - from) (drop from log)) old new
gone_on at log from done next old mid new le le_next one two =
    let k = done - from in
    let m = next - done in
    let rest : drop k (drop from log) ≡ drop done log = drop-drop k from log
    ∙ ap (λ i. drop i log) (let e : from + k ≡ done = omega (arith, le) in e) in
    let all : take k (drop from log) ++ take m (drop done log) ≡ take (next - from) (drop from log) =
    ap (λ (gs : List Group). take k (drop from log) ++ take m gs) (sym rest)
    ∙ (sym (take-add k m (drop from log)) ∙ ap (λ i. take i (drop from log))
    (let e : k + m ≡ next - from = omega (arith, le, le_next) in e)) in
    subst (λ (gs : List Group). HasGone at gs old new) all
    (gone_then at (take k (drop from log)) (take m (drop done log)) old mid new one two)

-- a group that comes behind a place of the log
pub in_rest : (log : List Group) (done next : ℕ) (h : Group) → done ≤ next → next < length log
    → get_or log next h ≡ h → Contains (drop done log) h
in_rest log done next h le lt is = (
  next - done,
  (let l = length-drop done log in omega (arith, l, le, lt)),
  get_or-drop done log (next - done) h
      ∙ (ap (λ i. get_or log i h) (let e : done + (next - done) ≡ next = omega (arith, le) in e) ∙ is),
)

-- the groups from one place of the log up to another
abbrev taken : List Group → ℕ → ℕ → List Group
taken log done next = take (next - done) (drop done log)

-- the state goes on from one place of the log to another
module _ (at : Cell) (log : List Group) (done next : ℕ) (old mid : CellState) (first : done ≤ next)
    (may : MayFollow old.step (drop done log))
    (quiet : (j : ℕ) (d : Group) → done ≤ j → j < next → AddsNothing old (get_or log j d))
    (late : (d : Group) (e : Entry) → done < next → Contains (entries_of old) e → e.access.step
    < (get_or log done d).step) where
  -- where a group that is passed over stands
  in_more : next ≤ length log → (g : Group) → Contains (taken log done next) g → (i : ℕ) × (i < next - done)
      × (get_or (drop done log) i g ≡ g)
  in_more within g (i, lt, is) =
      let short = length-take (next - done) (drop done log) in
      let less : i < next - done = omega (arith, lt, short) in
      (i, less, sym (get_or-take (next - done) (drop done log) i g less) ∙ is)

  low_more : next ≤ length log → (g : Group) → Contains (taken log done next) g → old.step ≤ g.step
  low_more within g on =
      let p = in_more within g on in
      let less = p.1 in
      let long = length-drop done log in
      may.after g (p.0, omega (arith, less, long, within), p.2)

  quiet_more : next ≤ length log → (g : Group) → Contains (taken log done next) g → AddsNothing old g
  quiet_more within g on =
      let p = in_more within g on in
      let less = p.1 in
      subst (λ (h : Group). AddsNothing old h) (sym (get_or-drop done log p.0 g) ∙ p.2)
      (quiet (done + p.0) g (omega arith) (omega (arith, less)))

  late_more : next ≤ length log → (g : Group) (e : Entry) → Contains (taken log done next) g
      → Contains (entries_of old) e → e.access.step < g.step
  late_more within g e on on_e =
      let p = in_more within g on in
      let less = p.1 in
      let long = length-drop done log in
      let lt : 0 < length (drop done log) = omega (arith, less, long, within) in
      let here : get_or (drop done log) 0 g ≡ get_or log done g = get_or-drop done log 0 g
      ∙ ap (λ i. get_or log i g) (let z : done + 0 ≡ done = omega arith in z) in
      let one : get_or (drop done log) 0 (get_or (drop done log) 0 g) ≡ get_or (drop done log) 0 g =
      get_or_default (drop done log) 0 (get_or (drop done log) 0 g) g lt in
      let o = ordered (drop done log) old.step may 0 p.0 (get_or (drop done log) 0 g) g (omega arith)
      (omega (arith, less, long, within)) one p.2 in
      let b = late g e (omega (arith, less)) on_e in
      let s : (get_or (drop done log) 0 g).step ≡ (get_or log done g).step =
      ap (λ (h : Group). h.step) here in
      omega (arith, o, b, s)

  module _ (step : ℕ) (passes : (story : Story) (epoch : ℕ) (ds : List Placed)
      → state.StandsFor story epoch old → ArePassed story step old ds
      → state.StandsFor (extended story ds) epoch mid) where
    -- it is given the group there
    pub goes_to : (h : Group) (new : CellState) → next < length log → get_or log next h ≡ h → h.step ≡ step
        → HasGrown at h mid new → HasGone at (take (next + 1 - done) (drop done log)) (contents_of old)
        (contents_of new)
    goes_to h new lt is same grows =
        let k = next - done in
        let long = length-drop done log in
        let below : k < length (drop done log) = omega (arith, lt, long, first) in
        let here : get_or (drop done log) k h ≡ h = get_or-drop done log k h
        ∙ (ap (λ i. get_or log i h) (let e : done + k ≡ next = omega (arith, first) in e) ∙ is) in
        let within : next ≤ length log = omega (arith, lt) in
        let all : take (next + 1 - done) (drop done log) ≡ (taken log done next) ++ h ∷ [] =
        ap (λ i. take i (drop done log)) (let e : next + 1 - done ≡ k + 1 = omega (arith, first) in e)
        ∙ (take_more (drop done log) k h below ∙ ap (λ (g : Group). (taken log done next) ++ g ∷ []) here)
        in
        subst (λ (gs : List Group). HasGone at gs (contents_of old) (contents_of new)) (sym all)
        (gone_to at (taken log done next) step old mid (low_more within)
        (λ g on. (let p = in_more within g on in let l = p.1 in let o =
        ordered (drop done log) old.step may p.0 k g h (omega (arith, l)) below p.2 here in
        omega (arith, o, same)))
        (late_more within) (quiet_more within) passes h new same grows)

    -- all groups that are left are passed over
    pub goes_over : (last : Group) → next ≡ length log → done < next → get_or log (next - 1) last ≡ last
        → last.step ≡ step → mid.step ≡ step → HasGone at (taken log done next) (contents_of old)
        (contents_of mid)
    goes_over last whole lt is same come =
        let k = next - done in
        let long = length-drop done log in
        let within : next ≤ length log = omega (arith, whole) in
        let below : k - 1 < length (drop done log) = omega (arith, lt, long, whole) in
        let here : get_or (drop done log) (k - 1) last ≡ last = get_or-drop done log (k - 1) last
        ∙ (ap (λ i. get_or log i last) (let e : done + (k - 1) ≡ next - 1 = omega (arith, lt) in e) ∙ is)
        in
        let in_all : Contains (taken log done next) last = (
          k - 1,
          (let short = length-take k (drop done log) in omega (arith, lt, short, long, whole)),
          get_or-take k (drop done log) (k - 1) last (omega (arith, lt)) ∙ here,
        ) in
        gone_over at (taken log done next) step old mid (low_more within)
        (λ g on. (let p = in_more within g on in let l = p.1 in let o =
        ordered (drop done log) old.step may p.0 (k - 1) g last (omega (arith, l)) below p.2 here in
        omega (arith, o, same)))
        (late_more within) (quiet_more within) passes come last in_all same

pub none_taken : (at : Cell) (log : List Group) (from : ℕ) (state : Contents)
    → HasGone at (take (from - from) (drop from log)) state state
none_taken at log from state = subst (λ i. HasGone at (take i (drop from log)) state state)
    (let z : 0 ≡ from - from = omega arith in z) (gone_none at state)

pub rest_taken : (at : Cell) (log : List Group) (from done : ℕ) (old new : Contents) → length log ≤ done
    → HasGone at (take (done - from) (drop from log)) old new → HasGone at (drop from log) old new
rest_taken at log from done old new all gone = subst (λ gs. HasGone at gs old new)
    (take_all (done - from) (drop from log) (let l = length-drop from log in omega (arith, all, l))) gone

pub may_on : (at : Cell) (log : List Group) (from done : ℕ) (old mid : Contents) → from ≤ done
    → MayFollow old.step (drop from log) → HasGone at (take (done - from) (drop from log)) old mid
    → MayFollow mid.step (drop done log)
may_on at log from done old mid le may gone =
    subst (λ gs. MayFollow mid.step gs) (drop-drop (done - from) from log
    ∙ ap (λ i. drop i log) (let e : from + (done - from) ≡ done = omega (arith, le) in e))
    (may_rest (drop from log) old.step may at (done - from) old mid refl gone)
