-- What a state stands for after each call.
use Rattle.std.proofs.Common.{ℕ, IsTrue, false, true≢false, ◌≡◌, ◌<◌, ◌≤◌, ◌-◌, List, [], ◌++◌, inl, inr}
use Rattle.std.proofs.Common.{arith, refl, sym, ◌∙◌, ap, subst, Contains, length, get_or, Option, Some}
use Rattle.std.proofs.Common.{None, IfSome, Bor, length-append, map, drop, true, ◌+◌}
use Rattle.std.specs.Option.{option_copied}
use Rattle.std.proofs.lemmas.Bool.{cases_lt}
use Rattle.std.proofs.lemmas.List.{get_or_append_left, get_or-append_right, get_or_default, length-map}
use Rattle.std.proofs.lemmas.List.{get_or-drop, length-drop}
use Rattle.std.proofs.Math.ListN.{get_or-map}
use Rattle.std.proofs.lemmas.List.Elements.{Contains-append_cases, Contains-append_left}
use Rattle.std.proofs.lemmas.List.Elements.{Contains-append_right}
use Rattle.std.proofs.lemmas.List.Elements.{Contains-get_or}
use Rattle.sv_model.specs.Cells.{covers, Within}
use Rattle.sv_model.specs.Dependencies.{Placed, placed, own_deps, UpTo}
use Rattle.sv_model.specs.Order.{Story, Before, NoRaces, IsBelow}
use Rattle.sv_model.specs.Kept.{IsKept, IsAtWrite}
use Rattle.sv_model.proofs.Latest.{apart}
use Rattle.sv_model.proofs.Transitions.{placed_dep, placed_step}
use Rattle.sv_model.specs.declared.work.Access.{Access}
use Rattle.sv_model.specs.declared.work.Cell.{Cell}
use Rattle.sv_model.specs.declared.work.Group.{Group}
use Rattle.sv_state.specs.declared.entry.Entry.{Entry}
use Rattle.sv_state.specs.declared.state.CellState.{CellState}
use Rattle.sv_state.specs.Alike.{is_alike}
use Rattle.sv_state.specs.Masks.{AreReached, AreReachedBeside, Stands}
use Rattle.sv_state.specs.Contents.{Contents, Item, contents_of, item_of}
use Rattle.sv_state.specs.States.{AreListed, IsAtReads, AreParted, EachStands, entries_of, StandsFor}
use Rattle.sv_state.specs.States.{AreLikeLast, AllChanged, HasAdvanced, HasGoneOn, HasComeTo, HasGrown}
use Rattle.sv_state.specs.States.{IsReady, RangesHold, AreChangedFrom, first_live, live_from, live_of}
use Rattle.sv_state.specs.States.{live_written}
use Rattle.sv_state.proofs.Changes.{SameAccess, accesses_stay, changed_on}

-- entries that changed, but not their accesses
module _ (R : Entry → Entry → Type 0) (same : (e f : Entry) → R e f → f.access ≡ e.access)
    (old new : List Entry) (all : AllChanged R old new) where
  from_old : (e : Entry) → Contains old e → (f : Entry) × Contains new f × R e f
  from_old e (k, lt, is) =
      let within : k < length new = (let l = all.long in omega arith) in (
        get_or new k e,
        Contains-get_or new k e within,
        subst (λ (y : Entry). R y (get_or new k e)) is (all.each k e lt),
      )

  pub to_old : (f : Entry) → Contains new f → (e : Entry) × Contains old e × R e f
  to_old f (k, lt, is) =
      let within : k < length old = (let l = all.long in omega arith) in (
        get_or old k f,
        Contains-get_or old k f within,
        subst (λ (y : Entry). R (get_or old k f) y) is (all.each k f within),
      )

  pub lists_stay : {xs : List Access} {epoch : ℕ} → AreListed xs epoch old → AreListed xs epoch new
  lists_stay {xs} {epoch} lists = record {
    listed = λ a on from kept. (let e = lists.listed a on from kept in let f = from_old e.0 e.1 in
        (f.0, f.1, same e.0 f.0 f.2 ∙ e.2));
    known = λ f on. (let e = to_old f on in subst (λ (a : Access). Contains xs a) (sym (same e.0 f e.2))
        (lists.known e.0 e.1));
    kept = λ f on. (let e = to_old f on in subst (λ (a : Access). IsKept xs a) (sym (same e.0 f e.2))
        (lists.kept e.0 e.1));
    in_epoch = λ f on. (let e = to_old f on in subst (λ (a : Access). epoch ≤ a.step) (sym (same e.0 f e.2))
        (lists.in_epoch e.0 e.1));
    in_order = λ i j d lt within. (
        let l = all.long in
        let at_i = same (get_or old i d) (get_or new i d) (all.each i d (omega arith)) in
        let at_j = same (get_or old j d) (get_or new j d) (all.each j d (omega arith)) in
        subst (λ (a : Access). Before (get_or new i d).access a) (sym at_j)
        (subst (λ (a : Access). Before a (get_or old j d).access) (sym at_i)
        (lists.in_order i j d lt (omega arith))));
  }

  pub each_goes : (cell : Cell) (deps more : List Placed) (step next : ℕ)
      → ((e f : Entry) → R e f → Stands cell e.access deps step e.reached
      → Stands cell e.access more next f.reached) → EachStands cell deps step old
      → EachStands cell more next new
  each_goes cell deps more step next goes each f on =
      let e = to_old f on in
      subst (λ (a : Access). Stands cell a more next f.reached) (sym (same e.0 f e.2))
      (goes e.0 f e.2 (each e.0 e.1))

-- two lists of entries that changed so
pub changed_both : (R : Entry → Entry → Type 0) (olds news more after : List Entry) → AllChanged R olds news
    → AllChanged R more after → AllChanged R (olds ++ more) (news ++ after)
changed_both R olds news more after first second = record {
  long = (let l = first.long in let m = second.long in let p = length-append olds more in let q =
      length-append news after in omega arith);
  each = λ k d within. (
      let l = first.long in
      let p = length-append olds more in
      elim (cases_lt k (length olds)) [
        | inl low ↦ (
            subst (λ (f : Entry). R (get_or (olds ++ more) k d) f)
            (sym (get_or_append_left news after d k (omega arith)))
            (subst (λ (e : Entry). R e (get_or news k d)) (sym (get_or_append_left olds more d k low))
            (first.each k d low)))
        | inr high ↦ (
            subst (λ (f : Entry). R (get_or (olds ++ more) k d) f)
            (sym (get_or-append_right news after (length olds) k d l high))
            (subst (λ (e : Entry). R e (get_or after (k - length olds) d))
            (sym (get_or-append_right olds more (length olds) k d refl high))
            (second.each (k - length olds) d (omega arith))))
      ]);
}

-- each new entry is of the access of an old one
pub access_before : (R : Entry → Entry → Type 0) (same : (e f : Entry) → R e f → f.access ≡ e.access)
    (olds news more after : List Entry) → AllChanged R olds news → AllChanged R more after → (e : Entry)
    → Contains (news ++ after) e → (f : Entry) × Contains (olds ++ more) f × (f.access ≡ e.access)
access_before R same olds news more after first second e on =
    let f = to_old R same (olds ++ more) (news ++ after)
    (changed_both R olds news more after first second) e on in
    (f.0, f.1, sym (same f.0 e f.2))

parted_stays : (R : Entry → Entry → Type 0) (same : (e f : Entry) → R e f → f.access ≡ e.access)
    (xs : List Access) (olds news more after : List Entry) → AllChanged R olds news
    → AllChanged R more after → AreParted xs olds more → AreParted xs news after
parted_stays R same xs olds news more after first second parted = record {
  written = λ f on. (let e = to_old R same olds news first f on in
      subst (λ (a : Access). IsAtWrite xs a) (sym (same e.0 f e.2)) (parted.written e.0 e.1));
  reads = λ f on. (let e = to_old R same more after second f on in
      subst (λ (a : Access). IsAtReads xs a) (sym (same e.0 f e.2)) (parted.reads e.0 e.1));
}

-- entries that are like the last one stay so
like_last_stays : (R : Entry → Entry → Type 0) (same : (e f : Entry) → R e f → f.access ≡ e.access)
    (olds news : List Entry) → AllChanged R olds news → AreLikeLast olds → AreLikeLast news
like_last_stays R same olds news all alike k e l at_e at_l within =
    let long = all.long in
    let last : length news - 1 ≡ length olds - 1 = omega arith in
    let n = length olds - 1 in
    let d : Entry = get_or olds k e in
    let m : Entry = get_or olds n e in
    let old_e = same d (get_or news k e) (all.each k e (omega arith)) in
    let old_l = same m (get_or news n e) (all.each n e (omega arith)) in
    let is_e : e.access ≡ d.access = ap (λ (f : Entry). f.access) (sym at_e) ∙ old_e in
    let is_l : l.access ≡ m.access = ap (λ (f : Entry). f.access)
    (sym at_l ∙ (ap (λ j. get_or news j l) last ∙ get_or_default news n l e (omega arith))) ∙ old_l in
    subst (λ (a : Access). IsTrue (is_alike a l.access)) (sym is_e)
    (subst (λ (a : Access). IsTrue (is_alike d.access a)) (sym is_l)
    (alike k d m (get_or_default olds k d e (omega arith)) (get_or_default olds n m e (omega arith))
    (omega arith)))

-- the entries of which it is kept what they reach are some of all
pub live_in : (state : CellState) (e : Entry) → Contains (live_of state) e → Contains (entries_of state) e
live_in state e on = elim (Contains-append_cases (live_written state) state.reads.items e on) [
  | inl (k, lt, is) ↦ Contains-append_left state.written.items state.reads.items e (
    first_live state + k,
    (let l = length-drop (first_live state) state.written.items in omega (arith, l, lt)),
    sym (get_or-drop (first_live state) state.written.items k e) ∙ is,
  )
  | inr read ↦ Contains-append_right state.written.items state.reads.items e read
]

-- a state of which each live entry changed, but not the accesses
module _ (R : Entry → Entry → Type 0) (same : (e f : Entry) → R e f → f.access ≡ e.access)
    (old new : CellState) (same_alike : new.alike ≡ old.alike)
    (first : AreChangedFrom (first_live old) R old.written.items new.written.items)
    (second : AreChangedFrom 0 R old.reads.items new.reads.items) where
  written_stay : AllChanged SameAccess old.written.items new.written.items
  written_stay = accesses_stay R same (first_live old) old.written.items new.written.items first

  reads_stay : AllChanged SameAccess old.reads.items new.reads.items
  reads_stay = accesses_stay R same 0 old.reads.items new.reads.items second

  pub same_first : first_live new ≡ first_live old
  same_first = ap (λ b. live_from b (length new.written.items)) same_alike
      ∙ ap (λ n. live_from old.alike n) first.long

  pub written_live : AllChanged R (live_written old) (live_written new)
  written_live = subst (λ n. AllChanged R (live_written old) (drop n new.written.items)) (sym same_first)
      (changed_on R (first_live old) old.written.items new.written.items first.long first.each)

  pub reads_live : AllChanged R old.reads.items new.reads.items
  reads_live = record { long = second.long; each = λ k d lt. second.each k d (omega arith) lt }

  pub all_live : AllChanged R (live_of old) (live_of new)
  all_live = changed_both R (live_written old) (live_written new) old.reads.items new.reads.items
      written_live reads_live

  pub stay_listed : {xs : List Access} {epoch : ℕ} → AreListed xs epoch (entries_of old)
      → AreListed xs epoch (entries_of new)
  stay_listed = lists_stay SameAccess (λ e f h. h) (entries_of old) (entries_of new)
      (changed_both SameAccess old.written.items new.written.items old.reads.items new.reads.items
      written_stay reads_stay)

  pub stay_parted : (xs : List Access) → AreParted xs old.written.items old.reads.items
      → AreParted xs new.written.items new.reads.items
  stay_parted xs = parted_stays SameAccess (λ e f h. h) xs old.written.items new.written.items
      old.reads.items new.reads.items written_stay reads_stay

  pub stay_alike : (old.alike ≡ true → AreLikeLast old.written.items) → new.alike ≡ true
      → AreLikeLast new.written.items
  stay_alike alike t = like_last_stays SameAccess (λ e f h. h) old.written.items new.written.items
      written_stay (alike (sym same_alike ∙ t))

-- a later step begins
pub state_advanced : (old new : CellState) → old.step < new.step → new.alike ≡ old.alike
    → AreChangedFrom (first_live old) HasAdvanced old.written.items new.written.items
    → AreChangedFrom 0 HasAdvanced old.reads.items new.reads.items → HasComeTo new.step old new
state_advanced old new lt same_alike first second = record {
  step = refl;
  stands = λ story epoch st. record {
    lists = stay_listed HasAdvanced (λ e f h. h.access) old new same_alike first second st.lists;
    parted = stay_parted HasAdvanced (λ e f h. h.access) old new same_alike first second story.accesses
        st.parted;
    up_to = λ d on. (let h = st.up_to d on in omega arith);
    each = each_goes HasAdvanced (λ e f h. h.access) (live_of old) (live_of new)
        (all_live HasAdvanced (λ e f h. h.access) old new same_alike first second)
        story.cell story.deps story.deps old.step new.step
        (λ e f h. h.stands story.cell story.deps old.step new.step lt) st.each;
    alike = stay_alike HasAdvanced (λ e f h. h.access) old new same_alike first second st.alike;
  };
}

-- entries that hold the same
abbrev HoldSame : Entry → Entry → Type 0
HoldSame e f = item_of f ≡ item_of e

hold_same : (old new : List Entry) → map item_of new ≡ map item_of old → AllChanged HoldSame old new
hold_same old new same = record {
  long = sym (length-map new item_of) ∙ ap length same ∙ length-map old item_of;
  each = λ k d within. sym (get_or-map item_of new k d)
      ∙ ap (λ (is : List Item). get_or is k (item_of d)) same ∙ get_or-map item_of old k d;
}

stands_same_item : (cell : Cell) (deps : List Placed) (step : ℕ) (e f : Entry) → HoldSame e f
    → Stands cell e.access deps step e.reached → Stands cell e.access deps step f.reached
stands_same_item cell deps step e f same st = record {
  up_to = st.up_to;
  settled = subst (λ (i : Item). AreReached deps cell e.access (λ k. k < step) i.settled)
      (sym same) st.settled;
  fresh = subst (λ (i : Item). AreReachedBeside deps cell e.access (λ k. k ≡ step) i.settled i.fresh)
      (sym same) st.fresh;
}

-- a state that holds the same stands for the same
pub stands_same : (old new : CellState) → contents_of new ≡ contents_of old → (story : Story) (epoch : ℕ)
    → StandsFor story epoch old → StandsFor story epoch new
stands_same old new same story epoch st =
    let step : new.step ≡ old.step = ap (λ (c : Contents). c.step) same in
    let alike : new.alike ≡ old.alike = ap (λ (c : Contents). c.alike) same in
    let first = hold_same old.written.items new.written.items (ap (λ (c : Contents). c.written) same) in
    let second = hold_same old.reads.items new.reads.items (ap (λ (c : Contents). c.reads) same) in
    let all = changed_both HoldSame old.written.items new.written.items old.reads.items new.reads.items
    first second in
    let from : first_live new ≡ first_live old = ap (λ b. live_from b (length new.written.items)) alike
    ∙ ap (λ n. live_from old.alike n) first.long in
    let written : AllChanged HoldSame (live_written old) (live_written new) =
    subst (λ n. AllChanged HoldSame (live_written old) (drop n new.written.items)) (sym from)
    (changed_on HoldSame (first_live old) old.written.items new.written.items first.long
    (λ k d le. first.each k d)) in
    record {
      lists = lists_stay HoldSame (λ e f h. ap (λ (i : Item). i.access) h) (entries_of old)
          (entries_of new) all st.lists;
      parted = parted_stays HoldSame (λ e f h. ap (λ (i : Item). i.access) h) story.accesses
          old.written.items new.written.items old.reads.items new.reads.items first second st.parted;
      up_to = subst (λ n. UpTo story.deps n) (sym step) st.up_to;
      each = subst (λ n. EachStands story.cell story.deps n (live_of new)) (sym step)
          (each_goes HoldSame (λ e f h. ap (λ (i : Item). i.access) h) (live_of old) (live_of new)
          (changed_both HoldSame (live_written old) (live_written new) old.reads.items new.reads.items
          written second) story.cell story.deps story.deps old.step old.step
          (stands_same_item story.cell story.deps old.step) st.each);
      alike = λ t. like_last_stays HoldSame (λ e f h. ap (λ (i : Item). i.access) h) old.written.items
          new.written.items first (st.alike (sym alike ∙ t));
    }

up_to_more : (deps : List Placed) (g : Group) → UpTo deps g.step → UpTo (deps ++ placed g) g.step
up_to_more deps g up d on = elim (Contains-append_cases deps (placed g) d on)
    [ inl old ↦ up d old | inr new ↦ (let s = placed_step g d new in omega arith) ]

-- the entries go through a group of the present step
pub state_grown : (at : Cell) (g : Group) (first old new : CellState) → HasComeTo g.step first old
    → new.step ≡ old.step → new.alike ≡ old.alike
    → AreChangedFrom (first_live old) (HasGoneOn at g) old.written.items new.written.items
    → AreChangedFrom 0 (HasGoneOn at g) old.reads.items new.reads.items → HasGrown at g first new
state_grown at g first old new come same same_alike of_written of_reads = record {
  step = same ∙ come.step;
  stands = λ story epoch alike before.
      let st = come.stands story epoch before in
      let now : new.step ≡ g.step = same ∙ come.step in
      record {
        lists = stay_listed (HasGoneOn at g) (λ e f h. h.access) old new same_alike of_written of_reads
            st.lists;
        parted = stay_parted (HasGoneOn at g) (λ e f h. h.access) old new same_alike of_written of_reads
            story.accesses st.parted;
        up_to = subst (λ n. UpTo (story.deps ++ placed g) n) (sym now)
            (up_to_more story.deps g (subst (λ n. UpTo story.deps n) come.step st.up_to));
        each = subst (λ n. EachStands story.cell (story.deps ++ placed g) n (live_of new)) (sym now)
            (each_goes (HasGoneOn at g) (λ e f h. h.access) (live_of old) (live_of new)
            (all_live (HasGoneOn at g) (λ e f h. h.access) old new same_alike of_written of_reads)
            story.cell story.deps (story.deps ++ placed g) g.step g.step
            (λ e f h. h.stands story.cell alike story.deps)
            (subst (λ n. EachStands story.cell story.deps n (live_of old)) come.step st.each));
        alike = stay_alike (HasGoneOn at g) (λ e f h. h.access) old new same_alike of_written of_reads
            st.alike;
      };
}

pub state_grown_at : (at cell : Cell) → at ≡ cell → (g : Group) (first old new : CellState) (from : ℕ)
    → from ≡ first_live old → HasComeTo g.step first old → new.step ≡ old.step → new.alike ≡ old.alike
    → AreChangedFrom from (HasGoneOn at g) old.written.items new.written.items
    → AreChangedFrom 0 (HasGoneOn at g) old.reads.items new.reads.items → HasGrown cell g first new
state_grown_at at cell is g first old new from here come same same_alike of_written of_reads =
    subst (λ (c : Cell). HasGrown c g first new) is
    (state_grown at g first old new come same same_alike
    (subst (λ n. AreChangedFrom n (HasGoneOn at g) old.written.items new.written.items) here of_written)
    of_reads)

-- nothing is kept
pub none_on : {P : Type 0} (e : Entry) → Contains [] e → P
none_on e on = absurd (let h = on.1 in omega arith)

-- the epoch begins anew
pub state_restarted : (old new : CellState) → new.step ≡ old.step → new.alike ≡ false → new.written.items
    ≡ [] → new.reads.items ≡ [] → (story : Story) (epoch next : ℕ) → StandsFor story epoch old
    → ((a : Access) → Contains story.accesses a → a.step < next) → StandsFor story next new
state_restarted old new same apart none no_reads story epoch next st before = record {
  lists = subst (λ (es : List Entry). AreListed story.accesses next es) (sym nothing) record {
    listed = λ a on from kept. absurd (let h = before a on in omega arith);
    known = λ e on. none_on e on;
    in_epoch = λ e on. none_on e on;
    kept = λ e on. none_on e on;
    in_order = λ i j d lt within. absurd (omega arith);
  };
  parted = record {
    written = λ e on. none_on e (subst (λ (es : List Entry). Contains es e) none on);
    reads = λ e on. none_on e (subst (λ (es : List Entry). Contains es e) no_reads on);
  };
  up_to = subst (λ n. UpTo story.deps n) (sym same) st.up_to;
  each = λ e on. none_on e (subst (λ (es : List Entry). Contains es e) nothing (live_in new e on));
  alike = λ t. absurd (true≢false (sym t ∙ apart));
}
  where
    nothing : entries_of new ≡ []
    nothing = ap (λ (es : List Entry). es ++ new.reads.items) none ∙ no_reads

-- the ranges of its own group hold the cell of a transition
own_held : (x : Access) (cell : Cell) (group : Option (Bor Group))
    → IfSome group (λ g. RangesHold g.now x.area) → IsTrue (covers x.area cell) → (d : Placed)
    → Contains (own_deps (option_copied group)) d → Within d.dep.range cell
own_held x cell None held on d c = absurd (let h = c.1 in omega arith)
own_held x cell (Some g) held on d c = held d.dep cell (placed_dep g.now d c) on

pub state_ready : (state : CellState) (x : Access) (group : Option (Bor Group)) (story : Story) (epoch : ℕ)
    → IfSome group (λ g. RangesHold g.now x.area) → StandsFor story epoch state → NoRaces story epoch
    → IsBelow x.step story → IsTrue (covers x.area story.cell)
    → IsReady story epoch (entries_of state) x (option_copied group)
state_ready state x group story epoch held st clean below on = record {
  lists = st.lists;
  clean = clean;
  after = below.accesses;
  earlier = record { before = below.deps; held = own_held x story.cell group held on };
}
