-- Items that are taken on the way may run.
use Rattle.std.proofs.Common.{ℕ, ◌-◌, ◌≡◌, ◌&&◌, Bool, true, false, List, [], ◌∷◌, ◌++◌, Option, Some, None}
use Rattle.std.proofs.Common.{length, refl, sym, ap, subst, ◌∙◌, arith, length-append}
use Rattle.std.specs.Prelude.{MatchOption, slice_get, slice_index_or, unwrap_or}
use Rattle.std.specs.List.{All, list_all}
use Rattle.std.proofs.lemmas.List.Elements.{All-cons, All-nil}
use Rattle.std.proofs.lemmas.Option.{unwrap_or-slice_get}
use Rattle.sv_model.specs.Batches.{batch_given, batch_made}
use Rattle.sv_model.specs.Places.{Bound}
use Rattle.sv_model.specs.Places as binding
use Rattle.sv_model.specs.Declarations.{call_of, is_fence}
use Rattle.sv_model.specs.Semaphores.{batch_ready}
use Rattle.sv_model.specs.Holding.{is_published, past, Flow, Holding, items_of, next}
use Rattle.sv_model.specs.History.{batch_at, no_batch}
use Rattle.sv_model.specs.HostWaits.{call_given, call_made}
use Rattle.sv_model.specs.Fences.{fence_given, fence_signaled}
use Rattle.sv_model.specs.Lawful.{IsLawful, IsLawfulCall}
use Rattle.sv_model.specs.Laws.{left_by_items}
use Rattle.sv_model.specs.Primitives.{Made}
use Rattle.sv_model.specs.Work.{item_given, item_made, numbered}
use Rattle.sv_model.specs.declared.line.Batch.{Batch}
use Rattle.sv_model.specs.declared.line.Line.{Line}
use Rattle.sv_model.specs.declared.line.Mark.{Mark}
use Rattle.sv_model.specs.declared.line.Trace.{Trace}
use Rattle.sv_model.specs.declared.work.Item.{Item}
use Rattle.sv_model.specs.declared.work.Item.TheVariants as item
use Rattle.sv_binding.specs.Runs.{run_for}
use Rattle.sv_binding.specs.declared.run.Run.{Run}
use Rattle.sv_gate.specs.Kept.{IsBatchOf, past_of}
use Rattle.sv_gate.proofs.FindsSignals.{batches_taken}
use Rattle.sv_gate.proofs.Lawfulness.{batch_at_fits, call_names, called}
use Rattle.sv_processed.specs.Works.{IsAt}
use Rattle.sv_processed.specs.declared.work.Work.{Work}
use Rattle.sv_history_laws.specs.Ways.{IsWay, left_at, longer}
use Rattle.sv_history_laws.proofs.Onward.{ways_have_events}
use Rattle.sv_history_laws.specs.Queued.{IsQueued}
use Rattle.sv_history_laws.proofs.Held.{taken_are_queued}
use Rattle.sv_core.specs.Runnable.{CallNamesFence, IsBatchAfter, IsRunnable}
use Rattle.sv_batch.specs.Running.{ArePublished, IsThere}
use Rattle.sv_core.specs.Taking.{IsAfter}
use Rattle.sv_batch.specs.declared.recordings.Recordings.{Recordings}
use Rattle.sv_core.proofs.HostWaits.{stays}

both_left : (a b : Bool) → (a && b) ≡ true → a ≡ true
both_left true b h = refl
both_left false b h = h

both_right : (a b : Bool) → (a && b) ≡ true → b ≡ true
both_right true b h = h
both_right false b h = absurd (let e : false ≡ true = h in cc)

all_there : (t : Trace) (events : List Mark) (r : Recordings) → ArePublished t events r → (recs : List ℕ)
    → list_all (is_published events) recs ≡ true → All (IsThere t r) recs
all_there t events r published [] h = All-nil (IsThere t r)
all_there t events r published (k ∷ rest) h = All-cons (IsThere t r) k rest
    (published.all k (both_left (is_published events k) (list_all (is_published events) rest) h))
    (all_there t events r published rest (both_right (is_published events k)
    (list_all (is_published events) rest) h))

names : (t : Trace) (lane : ℕ) (o : Option Line) → MatchOption o (Unit {0}) (IsLawfulCall t lane)
    → CallNamesFence t o
names t lane None h = tt
names t lane (Some call) h = call_names t lane call h

module _ (t : Trace) (history : List Mark) (latest : Mark) (now : Flow) (more : List Bound)
    (lawful : IsLawful t) (way : IsWay t history latest now more) where
  events_are : now.holding.events ≡ longer history latest
  events_are = ways_have_events t history latest now more way

  -- the latest event has the number of the events before it
  pub number_is : length now.holding.events - 1 ≡ length history
  number_is =
      let l = length-append history (latest ∷ []) in
      let e : length now.holding.events ≡ length (history ++ latest ∷ []) =
      ap (λ (es : List Mark). length es) events_are in
      omega (arith, l, e)

  module _ (r : Recordings) (published : ArePublished t (longer history latest) r) where
    queued : (x : Item) (after : Holding) → next t
        (past t now.holding.events (items_of now.done)) now.holding ≡ Some (x, after)
        → IsQueued t (longer history latest) x
    queued x after e = subst (λ (es : List Mark). IsQueued t es x) events_are
        (taken_are_queued t history latest now more x after lawful way e)

    -- what is taken next may run
    pub runnable : (x : Item) (after : Holding) → next t
        (past t now.holding.events (items_of now.done)) now.holding ≡ Some (x, after)
        → IsRunnable t (longer history latest) r (left_at t history latest now) x
    runnable (item.Call lane index) after e = names t lane (call_of t lane index) (called t lane index lawful)
    runnable (item.Fence queue event fence) after e = queued (item.Fence queue event fence) after e
    runnable (item.Batch queue event batch) after e = record {
      uses = batch_at_fits t (longer history latest) event batch lawful;
      ready = subst (λ (es : List Mark). batch_ready (past_of t (left_by_items t es now.done))
          (batch_at t es event batch) ≡ true) events_are
          (batches_taken t now.holding now.done queue event batch after lawful e);
      there = all_there t (longer history latest) r published
          (batch_at t (longer history latest) event batch).recs
          (queued (item.Batch queue event batch) after e).published;
    }

-- What the code of an item says, in the words of items.

-- what the item says of the work
abbrev pub ItemTakes : Trace → List Mark → Recordings → ℕ → Item → Work → Work → Type 0
ItemTakes t list r number x before after = (old more : List Bound) (m : Made) → IsRunnable t list r m x
    → IsAt t number old more m before
    → IsAt t number old (more ++ numbered (length (old ++ more)) (item_given t list m number x))
    (item_made t list m number x) after

pub sent_some : (xs : List Batch) (i : ℕ) (b : Batch) → Some b ≡ slice_get xs i
    → slice_index_or xs i no_batch ≡ b
sent_some xs i b e = sym (unwrap_or-slice_get xs i no_batch)
    ∙ ap (λ (o : Option Batch). unwrap_or o no_batch) (sym e)

pub sent_none : (xs : List Batch) (i : ℕ) → None ≡ slice_get xs i → slice_index_or xs i no_batch ≡ no_batch
sent_none xs i e = sym (unwrap_or-slice_get xs i no_batch)
    ∙ ap (λ (o : Option Batch). unwrap_or o no_batch) (sym e)

-- what take_batch says
abbrev pub BatchTakes : Trace → ℕ → Recordings → Run → Batch → Work → Work → Type 0
BatchTakes t event r run b before after = (old more : List Bound) (m : Made) → IsBatchOf t b
    → batch_ready (past_of t m) b ≡ true → All (IsThere t r) b.recs → IsAt t event old more m before
    → IsAt t event old (more ++ numbered (length (old ++ more)) (batch_given t (run_for event run) m b))
    (batch_made t (run_for event run) m b) after

pub batch_taken : (t : Trace) (event : ℕ) (r : Recordings) (run : Run) (w after : Work) (b c : Batch) → b
    ≡ c → BatchTakes t event r run c w after → IsBatchAfter t event r run b w after
batch_taken t event r run w after b c e takes = subst (λ (x : Batch). IsBatchAfter t event r run x w after)
    (sym e) (λ old more m ready at. takes old more m ready.uses ready.ready ready.there at)

pub fence_item : (t : Trace) (list : List Mark) (r : Recordings) (number : ℕ) (x : Item)
    (queue event fence : ℕ) (run : Run) (w after : Work) → x ≡ item.Fence queue event fence → run
    ≡ record { queue = queue; event = event; batch = 0; slot = 0; instance = 0 }
    → (is_fence t fence ≡ true → IsAfter t number (λ (m : Made). fence_given t (run_for number run) m fence)
    (λ (m : Made). fence_signaled m fence) w after) → ItemTakes t list r number x w after
fence_item t list r number x queue event fence run w after e same takes =
    let there = subst (λ (k : Run). is_fence t fence ≡ true
    → IsAfter t number (λ (m : Made). fence_given t (run_for number k) m fence)
    (λ (m : Made). fence_signaled m fence) w after) same takes in
    subst (λ (y : Item). ItemTakes t list r number y w after) (sym e)
    (λ old more m may at. there may old more m at)
