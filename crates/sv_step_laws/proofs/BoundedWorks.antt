-- The works of lawful traces without render scopes are bounded.
use Rattle.std.proofs.Common.{ℕ, ◌+◌, ◌≡◌, Bool, true, false, List, [], ◌∷◌, ◌++◌, Option, Some, None}
use Rattle.std.proofs.Common.{length, map, Contains, refl, ap, subst, arith, if◌then◌else◌}
use Rattle.std.specs.Prelude.{◌==◌, find, fold, is_some, option_and_then, option_map, option_to_list}
use Rattle.std.specs.List.{All, enumerate_from, flat_map}
use Rattle.std.proofs.lemmas.List.Elements.{All-append, All-cons, All-head, All-map, All-nil}
use Rattle.std.proofs.lemmas.List.Elements.{All-tail, All-weaker}
use Rattle.sv_model.specs.declared.line.Batch.{Batch}
use Rattle.sv_model.specs.declared.line.Line.{Line}
use Rattle.sv_model.specs.declared.line.Line.TheVariants as line
use Rattle.sv_model.specs.declared.line.Mark.{Mark}
use Rattle.sv_model.specs.declared.line.SemaphoreUse.{SemaphoreUse}
use Rattle.sv_model.specs.declared.line.Trace.{Trace}
use Rattle.sv_model.specs.declared.work.Access.{Access}
use Rattle.sv_model.specs.declared.work.FenceState.{FenceState}
use Rattle.sv_model.specs.declared.work.FenceState.TheVariants as fence
use Rattle.sv_model.specs.declared.work.Group.{Group}
use Rattle.sv_model.specs.declared.work.Item.{Item}
use Rattle.sv_model.specs.declared.work.Item.TheVariants as item
use Rattle.sv_model.specs.declared.work.Place.{Place}
use Rattle.sv_model.specs.declared.work.Step.{Step}
use Rattle.sv_model.specs.declared.work.Step.TheVariants.{Accesses, Groups, SetEvent, WaitEvent, ResetEvent}
use Rattle.sv_model.specs.declared.work.Taken.{Taken}
use Rattle.sv_model.specs.Batches.{batch_given, batch_made, recs_made}
use Rattle.sv_model.specs.Binding.{bound, rec_given, rec_made, run_at}
use Rattle.sv_model.specs.Binding.{step_made}
use Rattle.sv_model.specs.Cells.{covers}
use Rattle.sv_model.specs.Declarations.{call_of, queues_of}
use Rattle.sv_model.specs.Events.{event_set, in_force, set_groups, set_half, wait_groups, wait_half}
use Rattle.sv_model.specs.Events.{with_tokens}
use Rattle.sv_model.specs.Fences.{fence_state}
use Rattle.sv_model.specs.Lists.{gather}
use Rattle.sv_model.specs.History.{batch_at}
use Rattle.sv_model.specs.Holding.{flow}
use Rattle.sv_model.specs.HostWaits.{call_given, call_made, fence_waited, queue_groups}
use Rattle.sv_model.specs.Places.{Bound, Run, bind_access, bind_group, bind_place}
use Rattle.sv_model.specs.Positions.{numbered_step}
use Rattle.sv_model.specs.Primitives.{EventChange, InForce, Made, nothing_made}
use Rattle.sv_model.specs.Recordings.{compile}
use Rattle.sv_model.specs.Reports.{accesses_of}
use Rattle.sv_model.specs.Semaphores.{paired, raises, signal_given, signaled, signals_step, wait_given}
use Rattle.sv_model.specs.Semaphores.{waited, waits_made, waits_step}
use Rattle.sv_model.specs.Work.{bound_steps, given, item_given, item_made, made, numbered, run_of}
use Rattle.sv_space.specs.KeptLaws.{IsBoundedStep}
use Rattle.sv_step_laws.specs.Bounded.{LawfulWorksAreBounded}
use Rattle.sv_step_laws.proofs.Areas.{kept_none}
use Rattle.sv_step_laws.proofs.FewListed.{AreFew, IsFewOutside, IsFewStep, IsOutside, compile_few}
use Rattle.sv_step_laws.proofs.FewListed.{few_for, few_none, groups_for, mapped_for, numbered_few}
use Rattle.sv_step_laws.proofs.FewListed.{tokens_for, transitions_in}
use Rattle.sv_step_laws.proofs.OnQueues.{IsItemOn, taken_on}

-- What a list of items gives.

fold_keeps : {S X : Type 0} (Stands : S → Type 0) (Is : X → Type 0) (next : S → X → S)
    → ((s : S) (x : X) → Stands s → Is x → Stands (next s x)) → (s : S) (xs : List X) → Stands s → All Is xs
    → Stands (fold next s xs)
fold_keeps Stands Is next each s [] stands all = stands
fold_keeps Stands Is next each s (x ∷ xs) stands all = fold_keeps Stands Is next each (next s x) xs
    (each s x stands (All-head Is x xs all)) (All-tail Is x xs all)

gather_all : {S X Y : Type 0} (Stands : S → Type 0) (Is : X → Type 0) (P : Y → Type 0) (next : S → X → S)
    (gives : S → X → List Y) → ((s : S) (x : X) → Stands s → Is x → Stands (next s x))
    → ((s : S) (x : X) → Stands s → Is x → All P (gives s x)) → (s : S) (xs : List X) → Stands s → All Is xs
    → All P (gather next gives s xs)
gather_all Stands Is P next gives each gives_all s [] stands all = All-nil P
gather_all Stands Is P next gives each gives_all s (x ∷ xs) stands all =
    let here = All-head Is x xs all in
    All-append P (gives s x) (gather next gives (next s x) xs) (gives_all s x stands here)
    (gather_all Stands Is P next gives each gives_all (next s x) xs (each s x stands here)
    (All-tail Is x xs all))

abbrev Any : (X : Type 0) → X → Type 0
Any X x = Unit {0}

any_all : {X : Type 0} (xs : List X) → All (Any X) xs
any_all xs k d lt = tt

-- Groups without transitions.

abbrev IsStill : Group → Type 0
IsStill g = g.transitions ≡ []

still_in : (gs : List Group) → All IsStill gs → transitions_in gs ≡ []
still_in [] all = refl
still_in (g ∷ gs) all = (λ j. All-head IsStill g gs all j ++ still_in gs (All-tail IsStill g gs all) j)

still_map : {X : Type 0} (f : X → Group) → ((x : X) → IsStill (f x)) → (xs : List X) → All IsStill (map f xs)
still_map f each [] = All-nil IsStill
still_map f each (x ∷ xs) = All-cons IsStill (f x) (map f xs) (each x) (still_map f each xs)

still_one : (g : Group) → IsStill g → All IsStill (g ∷ [])
still_one g is = All-cons IsStill g [] is (All-nil IsStill)

module _ (queues : List ℕ) where
  -- outside subpasses, on one of the queues
  record IsOn (a : Access) : Type 0 where
    outside : IsOutside a
    queue : Contains queues a.queue

  abbrev AreStepsOn : Bound → Type 0
  AreStepsOn b = IsFewStep IsOn b.step

  still_on : (gs : List Group) → All IsStill gs → AreFew IsOn (transitions_in gs)
  still_on gs all = few_none IsOn (transitions_in gs) (still_in gs all)

  -- Binding.

  bound_on : (r : Run) → Contains queues r.queue → (a : Access) → IsOutside a → IsOn (bind_access r a)
  bound_on r on a out = record {
    outside = ap (λ (s : Option (ℕ × ℕ)). option_map (λ (x : ℕ × ℕ). (r.instance + x.0, x.1)) s) out;
    queue = on;
  }

  bound_groups : (r : Run) → Contains queues r.queue → (gs : List Group)
      → AreFew IsOutside (transitions_in gs) → AreFew IsOn (transitions_in (map (bind_group r) gs))
  bound_groups r on gs few = few_for IsOutside IsOn (transitions_in gs)
      (transitions_in (map (bind_group r) gs))
      (groups_for IsOutside IsOn (bind_group r)
      (λ g. mapped_for IsOutside IsOn (bind_access r) (bound_on r on) g.transitions) gs) few

  -- the groups of each set in force
  abbrev IsSetOn : Option InForce → Type 0
  IsSetOn None = Unit {0}
  IsSetOn (Some x) = AreFew IsOn (transitions_in x.groups)

  abbrev IsChangeOn : EventChange → Type 0
  IsChangeOn x = IsSetOn x.set

  abbrev AreSetsOn : Made → Type 0
  AreSetsOn m = All IsChangeOn m.events

  force_on : (m : Made) (event : ℕ) → AreSetsOn m → IsSetOn (in_force m event)
  force_on m event all = found m.events all
    where
      found : (xs : List EventChange) → All IsChangeOn xs → IsSetOn (option_and_then
          (λ (x : EventChange). x.set) (find (λ (x : EventChange). x.event == event) xs))
      found [] all = tt
      found (x ∷ xs) all = by_test (x.event == event) (found xs (All-tail IsChangeOn x xs all))
        where
          by_test : (b : Bool) → IsSetOn (option_and_then (λ (y : EventChange). y.set)
              (find (λ (y : EventChange). y.event == event) xs))
              → IsSetOn (option_and_then (λ (y : EventChange). y.set)
              (if b then Some x else find (λ (y : EventChange). y.event == event) xs))
          by_test true rest = All-head IsChangeOn x xs all
          by_test false rest = rest

  set_on : (m : Made) (event queue : ℕ) (gs : List Group) → AreSetsOn m → AreFew IsOn (transitions_in gs)
      → AreSetsOn (event_set m event queue gs)
  set_on m event queue gs all few = by_test (is_some (in_force m event))
    where
      by_test : (b : Bool) → AreSetsOn (if b then m else record m {
        events = record {
          event = event;
          set = Some (record { queue = queue; groups = gs; token = m.tokens });
        } ∷ m.events;
        tokens = m.tokens + length gs;
      })
      by_test true = all
      by_test false = All-cons IsChangeOn _ m.events few all

  step_keeps : (r : Run) → Contains queues r.queue → (m : Made) (s : Step) → AreSetsOn m → IsFewOutside s
      → AreSetsOn (step_made r m s)
  step_keeps r on m (Accesses list) all few = all
  step_keeps r on m (Groups list) all few = all
  step_keeps r on m (SetEvent event place list) all few = set_on m event r.queue (map (bind_group r) list) all
      (bound_groups r on list few)
  step_keeps r on m (WaitEvent event place) all few = all
  step_keeps r on m (ResetEvent event place) all few =
      All-cons IsChangeOn (record { event = event; set = None }) m.events tt all

  still_halves : (token : ℕ) (gs : List Group) → All IsStill (with_tokens set_half token gs)
  still_halves token [] = All-nil IsStill
  still_halves token (g ∷ gs) = All-cons IsStill (set_half token g) (with_tokens set_half (token + 1) gs) refl
      (still_halves (token + 1) gs)

  halves_still : (m : Made) (r : Run) (event : ℕ) (gs : List Group) → All IsStill (set_groups m r event gs)
  halves_still m r event gs = by_test (is_some (in_force m event))
    where
      by_test : (b : Bool) → All IsStill (if b then [] else with_tokens set_half m.tokens
          (map (bind_group r) gs))
      by_test true = All-nil IsStill
      by_test false = still_halves m.tokens (map (bind_group r) gs)

  waits_on : (r : Run) (place : Place) (x : Option InForce) → IsSetOn x
      → AreFew IsOn (transitions_in (wait_groups r place x))
  waits_on r place None is = few_none IsOn [] refl
  waits_on r place (Some x) is = by_test (x.queue == r.queue)
    where
      by_test : (b : Bool) → AreFew IsOn (transitions_in (if b then with_tokens
          (wait_half place) x.token x.groups else []))
      by_test true = few_for IsOn IsOn (transitions_in x.groups)
          (transitions_in (with_tokens (wait_half place) x.token x.groups))
          (tokens_for IsOn IsOn (wait_half place)
          (λ token g. mapped_for IsOn IsOn (λ (a : Access). record a { place = place })
          (λ a on. record { outside = on.outside; queue = on.queue }) g.transitions) x.token x.groups) is
      by_test false = few_none IsOn [] refl

  one_bound : (b : Bound) → AreStepsOn b → All AreStepsOn (b ∷ [])
  one_bound b is = All-cons AreStepsOn b [] is (All-nil AreStepsOn)

  step_bound : (r : Run) → Contains queues r.queue → (m : Made) (s : Step) → AreSetsOn m → IsFewOutside s
      → All AreStepsOn (bound r m s)
  step_bound r on m (Accesses list) all few = one_bound _
      (few_for IsOutside IsOn list (map (bind_access r) list)
      (mapped_for IsOutside IsOn (bind_access r) (bound_on r on) list) few)
  step_bound r on m (Groups list) all few = one_bound _ (bound_groups r on list few)
  step_bound r on m (SetEvent event place list) all few = one_bound _
      (still_on (set_groups m r event list) (halves_still m r event list))
  step_bound r on m (WaitEvent event place) all few = one_bound _
      (waits_on r (bind_place r place) (in_force m event) (force_on m event all))
  step_bound r on m (ResetEvent event place) all few = one_bound _ (still_on [] (All-nil IsStill))

  -- Batches.

  module _ (t : Trace) (compiled : (k : ℕ) → All IsFewOutside (compile t k)) where
    rec_on : (r : Run) → Contains queues r.queue → (m : Made) (x : ℕ × ℕ) → AreSetsOn m
        → All AreStepsOn (rec_given t r m x)
    rec_on r on m x all = gather_all AreSetsOn IsFewOutside AreStepsOn (step_made (run_at r m x.0))
        (bound (run_at r m x.0)) (step_keeps (run_at r m x.0) on) (step_bound (run_at r m x.0) on) m
        (compile t x.1) all (compiled x.1)

    rec_keeps : (r : Run) → Contains queues r.queue → (m : Made) (x : ℕ × ℕ) → AreSetsOn m
        → AreSetsOn (rec_made t r m x)
    rec_keeps r on m x all = fold_keeps AreSetsOn IsFewOutside (step_made (run_at r m x.0))
        (step_keeps (run_at r m x.0) on) m (compile t x.1) all (compiled x.1)

    waits_keep : (m : Made) (b : Batch) → AreSetsOn m → AreSetsOn (waits_made m b)
    waits_keep m b all = fold_keeps AreSetsOn (Any SemaphoreUse) waited (λ s x stands is. stands) m b.waits
        all (any_all b.waits)

    signal_keeps : (m : Made) (x : SemaphoreUse) → AreSetsOn m → AreSetsOn (signaled t m x)
    signal_keeps m x all = by_test (raises t m x)
      where
        by_test : (b : Bool) → AreSetsOn (if b then record m {
          signals = m.signals ++ record { sem = x.sem; value = x.value; token = m.tokens } ∷ [];
          tokens = m.tokens + 1;
        } else m)
        by_test true = all
        by_test false = all

    recs_keep : (r : Run) → Contains queues r.queue → (m : Made) (b : Batch) → AreSetsOn m
        → AreSetsOn (recs_made t r m b)
    recs_keep r on m b all = fold_keeps AreSetsOn (Any (ℕ × ℕ)) (rec_made t r)
        (λ s x stands is. rec_keeps r on s x stands) (waits_made m b) (enumerate_from 0 b.recs)
        (waits_keep m b all) (any_all (enumerate_from 0 b.recs))

    batch_keeps : (r : Run) → Contains queues r.queue → (m : Made) (b : Batch) → AreSetsOn m
        → AreSetsOn (batch_made t r m b)
    batch_keeps r on m b all = fold_keeps AreSetsOn (Any SemaphoreUse) (signaled t)
        (λ s x stands is. signal_keeps s x stands) (recs_made t r m b) b.signals (recs_keep r on m b all)
        (any_all b.signals)

    waits_still : (r : Run) (m : Made) (b : Batch)
        → All IsStill (gather waited (wait_given t r) m b.waits)
    waits_still r m b = gather_all (Any Made) (Any SemaphoreUse) IsStill waited (wait_given t r)
        (λ s x a c. tt) (λ s w a c. still_map _ (λ x. refl) (option_to_list (paired t s w))) m b.waits tt
        (any_all b.waits)

    signal_still : (r : Run) (m : Made) (x : SemaphoreUse) → All IsStill (signal_given t r m x)
    signal_still r m x = by_test (raises t m x) _ refl
      where
        by_test : (b : Bool) (g : Group) → IsStill g → All IsStill (if b then g ∷ [] else [])
        by_test true g is = still_one g is
        by_test false g is = All-nil IsStill

    signals_still : (r : Run) (m : Made) (b : Batch)
        → All IsStill (gather (signaled t) (signal_given t r) m b.signals)
    signals_still r m b = gather_all (Any Made) (Any SemaphoreUse) IsStill (signaled t) (signal_given t r)
        (λ s x a c. tt) (λ s x a c. signal_still r s x) m b.signals tt (any_all b.signals)

    batch_on : (r : Run) → Contains queues r.queue → (m : Made) (b : Batch) → AreSetsOn m
        → All AreStepsOn (batch_given t r m b)
    batch_on r on m b all = All-cons AreStepsOn (waits_step t r m b) _
        (still_on (gather waited (wait_given t r) m b.waits) (waits_still r m b))
        (All-append AreStepsOn _ (signals_step t r (recs_made t r m b) b ∷ [])
        (gather_all AreSetsOn (Any (ℕ × ℕ)) AreStepsOn (rec_made t r) (rec_given t r)
        (λ s x stands is. rec_keeps r on s x stands) (λ s x stands is. rec_on r on s x stands)
        (waits_made m b) (enumerate_from 0 b.recs) (waits_keep m b all) (any_all (enumerate_from 0 b.recs)))
        (one_bound (signals_step t r (recs_made t r m b) b)
        (still_on _ (signals_still r (recs_made t r m b) b))))

    -- Calls and fences.

    host_on : (gs : List Group) (event : ℕ) → All IsStill gs
        → All AreStepsOn (record { step = Groups gs; event = event; notes = [] } ∷ [])
    host_on gs event all = one_bound _ (still_on gs all)

    queue_still : (r : Run) (p : ℕ) → All IsStill (queue_groups t r p)
    queue_still r p = still_map _ (λ q. refl) (queues_of t)

    queues_still : (r : Run) (ps : List ℕ) → All IsStill (flat_map (queue_groups t r) ps)
    queues_still r [] = All-nil IsStill
    queues_still r (p ∷ ps) = All-append IsStill (queue_groups t r p) (flat_map (queue_groups t r) ps)
        (queue_still r p) (queues_still r ps)

    waited_on : (r : Run) (s : FenceState) → All AreStepsOn (fence_waited t r s)
    waited_on r (fence.Token token) = host_on _ r.released (still_map _ (λ q. refl) (queues_of t))
    waited_on r other = All-nil AreStepsOn

    call_on : (r : Run) (m : Made) (call : Option Line) → All AreStepsOn (call_given t r m call)
    call_on r m (Some (line.WaitFence lane f)) = waited_on r (fence_state t m f)
    call_on r m (Some (line.WaitQueue lane p)) = host_on (queue_groups t r p) r.released (queue_still r p)
    call_on r m (Some (line.WaitDevice lane)) =
        host_on (flat_map (queue_groups t r) (queues_of t)) r.released (queues_still r (queues_of t))
    call_on r m other = All-nil AreStepsOn

    call_keeps : (m : Made) (call : Option Line) → AreSetsOn m → AreSetsOn (call_made m call)
    call_keeps m (Some (line.ResetFence lane f)) all = all
    call_keeps m other all = all

    -- Items.

    item_on : (history : List Mark) (m : Made) (n : ℕ) (i : Item) → IsItemOn queues i → AreSetsOn m
        → All AreStepsOn (item_given t history m n i)
    item_on history m n (item.Batch queue event batch) on all =
        batch_on (run_of n queue event batch) on m (batch_at t history event batch) all
    item_on history m n (item.Fence queue event f) on all = one_bound _ (few_none IsOn _ refl)
    item_on history m n (item.Call lane index) on all = call_on (run_of n 0 n 0) m (call_of t lane index)

    item_keeps : (history : List Mark) (m : Made) (n : ℕ) (i : Item) → IsItemOn queues i → AreSetsOn m
        → AreSetsOn (item_made t history m n i)
    item_keeps history m n (item.Batch queue event batch) on all =
        batch_keeps (run_of n queue event batch) on m (batch_at t history event batch) all
    item_keeps history m n (item.Fence queue event f) on all = all
    item_keeps history m n (item.Call lane index) on all = call_keeps m (call_of t lane index) all

    abbrev IsTakenOn : Taken → Type 0
    IsTakenOn x = IsItemOn queues x.item

    items_on : (history : List Mark) (items : List Taken) → All IsTakenOn items
        → All AreStepsOn (gather (made t history) (given t history) nothing_made items)
    items_on history items all = gather_all AreSetsOn IsTakenOn AreStepsOn (made t history) (given t history)
        (λ s x stands is. item_keeps history s x.event x.item is stands)
        (λ s x stands is. item_on history s x.event x.item is stands) nothing_made items
        (All-nil IsChangeOn) all

    same_place : (n pos : ℕ) (a : Access) → IsOn a → IsOn (record a { step = n; pos = pos })
    same_place n pos a on = record { outside = on.outside; queue = on.queue }

    numbered_on : (n : ℕ) (bs : List Bound) → All AreStepsOn bs → All AreStepsOn (numbered n bs)
    numbered_on n [] all = All-nil AreStepsOn
    numbered_on n (b ∷ bs) all = All-cons AreStepsOn (record b { step = numbered_step n b.step })
        (numbered (n + 1) bs) (numbered_few IsOn same_place n b.step (All-head AreStepsOn b bs all))
        (numbered_on (n + 1) bs (All-tail AreStepsOn b bs all))

    steps_on : (history : List Mark) (items : List Taken) → All IsTakenOn items
        → All AreStepsOn (bound_steps t history items)
    unfolding bound_steps
    steps_on history items all = numbered_on 0 _ (items_on history items all)

  -- Steps.

  list_bounded : (step : Step) (xs : List Access) → accesses_of step ≡ xs → AreFew IsOn xs
      → IsBoundedStep queues 64 step
  list_bounded step xs is few = record {
    subpasses = λ a on. (few.each a (subst (λ (ys : List Access). Contains ys a) is on)).outside;
    on_queues = λ a on. (few.each a (subst (λ (ys : List Access). Contains ys a) is on)).queue;
    few = λ cell. (
        let kept = kept_none (λ (a : Access). covers a.area cell) (accesses_of step) in
        let long = ap (λ (ys : List Access). length ys) is in
        let all = few.few in
        omega (arith, kept, long, all));
  }

  step_bounded : (step : Step) → IsFewStep IsOn step → IsBoundedStep queues 64 step
  step_bounded (Accesses list) few = list_bounded (Accesses list) list refl few
  step_bounded (Groups list) few = list_bounded (Groups list) (transitions_in list) refl few
  step_bounded (SetEvent event place list) few = list_bounded (SetEvent event place list) [] refl
      (few_none IsOn [] refl)
  step_bounded (WaitEvent event place) few = list_bounded (WaitEvent event place) [] refl
      (few_none IsOn [] refl)
  step_bounded (ResetEvent event place) few = list_bounded (ResetEvent event place) [] refl
      (few_none IsOn [] refl)

pub works_are_bounded : LawfulWorksAreBounded
works_are_bounded t history lawful none =
    All-map (IsBoundedStep (queues_of t) 64) (λ (b : Bound). b.step) _
    (All-weaker (λ (b : Bound). IsFewStep (IsOn (queues_of t)) b.step)
    (λ (b : Bound). IsBoundedStep (queues_of t) 64 b.step) (λ b is. step_bounded (queues_of t) b.step is) _
    (steps_on (queues_of t) t (compile_few t lawful none) history (flow t history).done
    (taken_on t lawful history)))
