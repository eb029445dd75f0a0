-- What sets, resets and waits of events leave.
use Rattle.std.specs.Prelude.{MatchOption, IfSome, filter, find, filter_map, count_by, is_some, is_none}
use Rattle.std.specs.Prelude.{max, unwrap_or, option_and_then}
use Rattle.std.proofs.Common.{ℕ, ◌+◌, ◌≡◌, ◌==◌, Bool, true, false, if◌then◌else◌, List, [], ◌∷◌, Option}
use Rattle.std.proofs.Common.{Some, None, length, refl, sym, ap, ◌∙◌}
use Rattle.std.specs.List.{All, fold}
use Rattle.sv_model.specs.Declarations.{initial_value, is_declared_signaled, is_fence}
use Rattle.sv_model.specs.Events.{set_half, with_tokens, event_reset, event_set, in_force}
use Rattle.sv_model.specs.Primitives.{FenceChange, InForce, Made, Signal, EventChange}
use Rattle.sv_model.specs.Fences.{fence_by}
use Rattle.sv_model.specs.declared.line.Trace.{Trace}
use Rattle.sv_model.specs.declared.work.Group.{Group}
use Rattle.sv_event.specs.Stands.{EventsStandFor}
use Rattle.sv_event.specs.declared.events.Events.{Events}
use Rattle.sv_fence.specs.Stands.{FencesStandFor}
use Rattle.sv_fence.specs.declared.fences.Fences.{Fences}
use Rattle.sv_sema.specs.Stands.{IsBinary, IsTimeline, SemaphoresStandFor, is_of, raise_of}
use Rattle.sv_sema.specs.declared.semaphores.Semaphores.{Semaphores}
use Rattle.sv_sema.specs.declared.timeline.Timeline.{Timeline}
use Rattle.sv_step_laws.specs.Steps.{IsGroupOf}
use Rattle.sv_processed.specs.Works.{IsLeft, SetsFit, WorkFits, halves_of}
use Rattle.sv_processed.specs.declared.work.Work.{Work}

binary_same : (m k : Made) (n : ℕ) (o : Option (Option ℕ)) → k.signals ≡ m.signals → k.waits ≡ m.waits
    → MatchOption o ⊥ (IsBinary m n) → MatchOption o ⊥ (IsBinary k n)
binary_same m k n None e f h = h
binary_same m k n (Some x) e f h = record {
  served = h.served;
  signals = ap (filter (is_of n)) e ∙ h.signals;
  waits = h.waits ∙ ap (count_by (λ (w : ℕ). w == n)) (sym f);
}

timeline_same : (t : Trace) (m k : Made) (n : ℕ) (o : Option Timeline) → k.signals ≡ m.signals
    → MatchOption o ⊥ (IsTimeline t m n) → MatchOption o ⊥ (IsTimeline t k n)
timeline_same t m k n None e h = h
timeline_same t m k n (Some x) e h = record {
  initial = h.initial;
  current = h.current ∙ ap (λ (xs : List Signal). fold
      (λ (v : ℕ) (y : Signal). if y.sem == n then max v (unwrap_or y.value 0) else v)
      (initial_value t n) xs) (sym e);
  raises = h.raises ∙ ap (filter_map (raise_of n)) (sym e);
  rises = h.rises;
  below = h.below;
}

-- semaphores see the signals and the waits alone
pub semaphores_same : (t : Trace) (m k : Made) (s : Semaphores) → k.signals ≡ m.signals → k.waits ≡ m.waits
    → SemaphoresStandFor t m s → SemaphoresStandFor t k s
semaphores_same t m k s e f h = record {
  binaries = λ n is. binary_same m k n _ e f (h.binaries n is);
  timelines = λ n is. timeline_same t m k n _ e (h.timelines n is);
}

-- fences see the fence signals and resets alone
pub fences_same : (t : Trace) (m k : Made) (s : Fences) → k.fences ≡ m.fences → FencesStandFor t m s
    → FencesStandFor t k s
fences_same t m k s e h = record {
  states = λ n. h.states n
      ∙ ap (λ (fs : List FenceChange). if is_fence t n then Some
      (fence_by (is_declared_signaled t n) (find (λ (x : FenceChange). x.fence == n) fs)) else None) (sym e);
}

-- events see the sets and resets alone
pub events_same : (m k : Made) (s : Events) → k.events ≡ m.events → EventsStandFor m s → EventsStandFor k s
events_same m k s e h = record {
  sets = λ n. h.sets n
      ∙ ap (λ (es : List EventChange). option_and_then (λ (x : EventChange). x.set)
      (find (λ (x : EventChange). x.event == n) es)) (sym e);
}

kept_by_set : {Y : Type 0} (said : Made → Y) (b : Bool) (m n : Made) → said n ≡ said m
    → said (if b then m else n) ≡ said m
kept_by_set said true m n e = refl
kept_by_set said false m n e = e

-- the work with other events and tokens
abbrev pub with_events : Work → Events → ℕ → Work
with_events w e k = record w { events = e; tokens = k }

module _ (t : Trace) (m : Made) (w : Work) (left : IsLeft t m w) where
  pub left_reset : (event : ℕ) (e : Events) → EventsStandFor (event_reset m event) e
      → IsLeft t (event_reset m event) (record w { events = e })
  left_reset event e stands = record {
    semaphores = semaphores_same t m (event_reset m event) w.semaphores refl refl left.semaphores;
    fences = fences_same t m (event_reset m event) w.fences refl left.fences;
    vulkan_events = stands;
    instances = left.instances;
    tokens = left.tokens;
  }

  module _ (event queue : ℕ) (groups : List Group) (e : Events)
      (stands : EventsStandFor (event_set m event queue groups) e) where
    abbrev after : Made
    after = event_set m event queue groups

    set_made : Made
    set_made = record m {
      events = record {
        event = event;
        set = Some (record { queue = queue; groups = groups; token = m.tokens });
      } ∷ m.events;
      tokens = m.tokens
          + length groups;
    }

    left_with : (k : ℕ) → k ≡ after.tokens → IsLeft t after (with_events w e k)
    left_with k same = record {
      semaphores = semaphores_same t m after w.semaphores
          (kept_by_set (λ (x : Made). x.signals) (is_some (in_force m event)) m _ refl)
          (kept_by_set (λ (x : Made). x.waits) (is_some (in_force m event)) m _ refl) left.semaphores;
      fences = fences_same t m after w.fences (kept_by_set (λ (x : Made). x.fences)
          (is_some (in_force m event)) m _ refl) left.fences;
      vulkan_events = stands;
      instances = left.instances ∙ sym (kept_by_set (λ (x : Made). x.instances)
          (is_some (in_force m event)) m _ refl);
      tokens = same;
    }

    none_some : (o : Option InForce) → is_none o ≡ true → is_some o ≡ false
    none_some None h = refl
    none_some (Some x) h = cc

    some_none : (o : Option InForce) → is_none o ≡ false → is_some o ≡ true
    some_none None h = cc
    some_none (Some x) h = refl

    -- a set that had effect took its tokens
    pub left_taken : true ≡ is_none (in_force m event) → (k : ℕ) → k ≡ m.tokens + length groups
        → IsLeft t after (with_events w e k)
    left_taken took k is = left_with k (is ∙ ap (λ (b : Bool).
        (if b then m else record m {
          events = record
              { event = event; set = Some (record { queue = queue; groups = groups; token = m.tokens }) }
              ∷ m.events;
          tokens = m.tokens + length groups;
        }).tokens)
        (sym (none_some (in_force m event) (sym took))))

    -- one that had none took none
    pub left_untaken : false ≡ is_none (in_force m event) → (k : ℕ) → k ≡ m.tokens
        → IsLeft t after (with_events w e k)
    left_untaken took k is = left_with k (is ∙ ap
        (λ (b : Bool). (if b then m else record m {
          events =
              record {
                event = event;
                set = Some (record { queue = queue; groups = groups; token = m.tokens });
              }
              ∷ m.events;
          tokens = m.tokens + length groups;
        }).tokens)
        (sym (some_none (in_force m event) (sym took))))

    pub halves_taken : true ≡ is_none (in_force m event) → (halves : List Group) → halves
        ≡ with_tokens set_half m.tokens groups → halves ≡ halves_of m event groups
    halves_taken took halves is = is ∙ ap (λ (b : Bool). if b then
        [] else with_tokens set_half m.tokens groups) (sym (none_some (in_force m event) (sym took)))

    pub halves_untaken : false ≡ is_none (in_force m event) → (halves : List Group) → halves ≡ [] → halves
        ≡ halves_of m event groups
    halves_untaken took halves is = is ∙ ap (λ (b : Bool). if b then
        [] else with_tokens set_half m.tokens groups) (sym (some_none (in_force m event) (sym took)))

-- The sets in force fit.

-- what is in force after one more set or reset
abbrev found_in : Option EventChange → Option InForce
found_in o = option_and_then (λ (x : EventChange). x.set) o

turned_fits : (t : Trace) (event n : ℕ) (set : Option InForce) (rest : List EventChange)
    → IfSome set (λ (x : InForce). All (IsGroupOf t) x.groups)
    → IfSome (found_in (find (λ (x : EventChange). x.event == n) rest))
    (λ (x : InForce). All (IsGroupOf t) x.groups)
    → IfSome (found_in (find (λ (x : EventChange). x.event == n)
    (record { event = event; set = set } ∷ rest))) (λ (x : InForce). All (IsGroupOf t) x.groups)
turned_fits t event n set rest new old = by_test (event == n)
  where
    by_test : (b : Bool) → IfSome (found_in (if b then Some (record { event = event; set = set }) else find
        (λ (x : EventChange). x.event == n) rest)) (λ (x : InForce). All (IsGroupOf t) x.groups)
    by_test true = new
    by_test false = old

pub sets_after_set : (t : Trace) (m : Made) (event queue : ℕ) (groups : List Group)
    → All (IsGroupOf t) groups → SetsFit t m → SetsFit t (event_set m event queue groups)
sets_after_set t m event queue groups are fit n = by_test (is_some (in_force m event))
  where
    by_test : (b : Bool) → IfSome (in_force (if b then m else record m {
      events = record {
        event = event;
        set = Some
            (record { queue = queue; groups = groups; token = m.tokens });
      } ∷ m.events;
      tokens = m.tokens
          + length groups;
    }) n) (λ (x : InForce). All (IsGroupOf t) x.groups)
    by_test true = fit n
    by_test false = turned_fits t event n (Some (record
        { queue = queue; groups = groups; token = m.tokens })) m.events are (fit n)

pub fits_set : (t : Trace) (w : Work) (e : Events) (k event queue : ℕ) (groups : List Group)
    → ((m : Made) → EventsStandFor m w.events → m.tokens ≡ w.tokens
    → EventsStandFor (event_set m event queue groups) e) → All (IsGroupOf t) groups → WorkFits t w
    → WorkFits t (with_events w e k)
fits_set t w e k event queue groups stands are fits =
    let left : Made = record fits.left { tokens = w.tokens } in record {
      lawful = fits.lawful;
      areas = fits.areas;
      left = event_set left event queue groups;
      events = stands left (events_same fits.left left w.events refl fits.events) refl;
      sets = sets_after_set t left event queue groups are fits.sets;
    }
