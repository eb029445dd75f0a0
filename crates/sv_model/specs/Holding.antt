-- What is held, which item is taken next, and what is enabled ("Queue Submission", "Queue Forward Progress").
-- Each lane is a queue of calls, each device queue a queue of batches and fence signals.
use Rattle.std.specs.Prelude.{ℕ, ◌-◌, List, [], ◌∷◌, Option, Some, None, slice_index_or, Bool, true, false}
use Rattle.std.specs.Prelude.{◌==◌, filter_map, zero, suc, ◌+◌, ◌++◌, slice_set, length, map, sum_by, fold}
use Rattle.std.specs.Prelude.{position, replicate}
use Rattle.std.specs.List.{list_all, list_any, flat_map}
use Rattle.std.specs.Option.{option_map_or}
use Rattle.sv_model.specs.declared.line.Trace.{Trace}
use Rattle.sv_model.specs.declared.line.Mark.{Mark}
use Rattle.sv_model.specs.declared.line.Batch.{Batch}
use Rattle.sv_model.specs.declared.line.Line.{Line}
use Rattle.sv_model.specs.declared.line.Line.TheVariants.{Submit, WaitFence, ResetFence, WaitQueue}
use Rattle.sv_model.specs.declared.line.Line.TheVariants.{WaitDevice}
use Rattle.sv_model.specs.declared.work.Item.{Item}
use Rattle.sv_model.specs.declared.work.Taken.{Taken}
use Rattle.sv_model.specs.declared.work.Held.{Held}
use Rattle.sv_model.specs.History.{batch_at}
use Rattle.sv_model.specs.Semaphores.{signals_standing, served, batch_ready}
use Rattle.sv_model.specs.Fences.{is_signaled}
use Rattle.sv_model.specs.Primitives.{Past}
use Rattle.sv_model.specs.Declarations.{call_of}
use Rattle.sv_model.specs.declared.line.Mark.TheVariants as mark
use Rattle.sv_model.specs.declared.work.Item.TheVariants as item
use Rattle.sv_model.specs.declared.work.Held.TheVariants as held

abbrev pub batch_of : Trace → List Mark → Item → Option Batch
batch_of t events (item.Batch queue event batch) = Some (batch_at t events event batch)
batch_of t events other = None

-- the processed batches
abbrev pub batches_done : Trace → List Mark → List Item → List Batch
batches_done t events done = filter_map (batch_of t events) done

abbrev pub past : Trace → List Mark → List Item → Past
past t events done = record {
  serves = served t (batches_done t events done);
  standing = signals_standing (batches_done t events done);
  signaled = is_signaled t done;
}

abbrev pub publishes : ℕ → Mark → Bool
publishes rec (mark.Publish k) = k == rec
publishes rec (mark.Call lane index) = false

-- the publication stands among the events so far
abbrev pub is_published : List Mark → ℕ → Bool
is_published events rec = list_any (publishes rec) events

abbrev pub are_published : List Mark → List Batch → Bool
are_published events batches = list_all (λ (b : Batch). list_all (is_published events) b.recs) batches

abbrev pub is_empty : List Item → Bool
is_empty [] = true
is_empty (x ∷ rest) = false

abbrev pub call_ready : Past → List Mark → List (List Item) → Option Line → Bool
call_ready p events queues (Some (Submit lane queue batches fence)) = are_published events batches
call_ready p events queues (Some (WaitFence lane fence)) = p.signaled fence
call_ready p events queues (Some (ResetFence lane fence)) = true
call_ready p events queues (Some (WaitQueue lane queue)) = is_empty (slice_index_or queues queue [])
call_ready p events queues (Some (WaitDevice lane)) = list_all is_empty queues
call_ready p events queues other = false

-- An item of a device queue.
abbrev pub item_ready : Trace → Past → List Mark → Item → Bool
item_ready t p events (item.Batch queue event batch) = batch_ready p (batch_at t events event batch)
item_ready t p events (item.Fence queue event fence) = true
item_ready t p events (item.Call lane index) = false

-- A call as its lane holds it: its number in the lane's script, and the event as which it came.
pub record Came : Type 0 where
  pub index : ℕ
  pub event : ℕ

-- The events so far, and what is held: by lane and by queue, sixteen of each.
pub record Holding : Type 0 where
  pub events : List Mark
  pub lanes : List (List Came)
  pub queues : List (List Item)

-- The processed items, and what is held after them.
pub record Flow : Type 0 where
  pub done : List Taken
  pub holding : Holding

abbrev pub batches_from : ℕ → ℕ → ℕ → List Batch → List Item
batches_from queue event number [] = []
batches_from queue event number (b ∷ rest) = item.Batch queue event number
    ∷ batches_from queue event (number + 1) rest

abbrev pub fence_items : ℕ → ℕ → Option ℕ → List Item
fence_items queue event None = []
fence_items queue event (Some fence) = item.Fence queue event fence ∷ []

abbrev pub sent : ℕ → Option Line → List Item
sent event (Some (Submit lane queue batches fence)) = batches_from queue event 0 batches
    ++ fence_items queue event fence
sent event other = []

-- the queues after a call that came as that event is taken
abbrev pub queues_after : List (List Item) → ℕ → Option Line → List (List Item)
queues_after queues event (Some (Submit lane queue batches fence)) =
    slice_set queues queue (slice_index_or queues queue []
    ++ sent event (Some (Submit lane queue batches fence)))
queues_after queues event other = queues

-- whether there is a first one, and it passes
abbrev pub starts : {X : Type 0} → (X → Bool) → List X → Bool
starts ready [] = false
starts ready (x ∷ rest) = ready x

abbrev pub from_lane : Trace → Holding → ℕ → List Came → Option (Item × Holding)
from_lane t h lane [] = None
from_lane t h lane (x ∷ rest) = Some (
  item.Call lane x.index,
  record {
    events = h.events;
    lanes = slice_set h.lanes lane rest;
    queues = queues_after h.queues x.event (call_of t lane x.index);
  },
)

abbrev pub from_queue : Holding → ℕ → List Item → Option (Item × Holding)
from_queue h queue [] = None
from_queue h queue (x ∷ rest) = Some (
  x,
  record {
    events = h.events;
    lanes = h.lanes;
    queues = slice_set h.queues queue rest;
  },
)

abbrev pub take_queue : Holding → Option ℕ → Option (Item × Holding)
take_queue h None = None
take_queue h (Some queue) = from_queue h queue (slice_index_or h.queues queue [])

abbrev pub take_lane : Trace → Past → Holding → Option ℕ → Option (Item × Holding)
take_lane t p h None = take_queue h (position (starts (item_ready t p h.events)) h.queues)
take_lane t p h (Some lane) = from_lane t h lane (slice_index_or h.lanes lane [])

-- the first calls of the lanes, by lane
abbrev pub first_calls : Trace → ℕ → List (List Came) → List (List (Option Line))
first_calls t lane [] = []
first_calls t lane (calls ∷ rest) = map (λ (x : Came). call_of t lane x.index) calls
    ∷ first_calls t (lane + 1) rest

-- The lowest lane whose first call is enabled gives it, else the lowest queue whose first item is.
abbrev pub next : Trace → Past → Holding → Option (Item × Holding)
next t p h = take_lane t p h (position (starts (call_ready p h.events h.queues)) (first_calls t 0 h.lanes))

abbrev pub items_of : List Taken → List Item
items_of done = map (λ (x : Taken). x.item) done

-- the latest event releases the item
abbrev pub took : Flow → Option (Item × Holding) → Option Flow
took s None = None
took s (Some x) = Some (record {
  done = s.done ++ record { item = x.0; event = length s.holding.events - 1 }
      ∷ [];
  holding = x.1;
})

-- one more item is taken, where one is enabled
unfoldable pub step : Trace → Flow → Option Flow
step t s = took s (next t (past t s.holding.events (items_of s.done)) s.holding)

-- a call counts as itself and as the items that it will send
abbrev pub cost : Trace → ℕ → Came → ℕ
cost t lane x = 1 + length (sent x.event (call_of t lane x.index))

abbrev pub calls_held : Trace → ℕ → List (List Came) → ℕ
calls_held t lane [] = 0
calls_held t lane (calls ∷ rest) = sum_by (cost t lane) calls + calls_held t (lane + 1) rest

abbrev pub items_held : List (List Item) → ℕ
items_held queues = sum_by (λ (queue : List Item). length queue) queues

-- at most so many items can still be taken
abbrev pub held_count : Trace → Holding → ℕ
held_count t h = calls_held t 0 h.lanes + items_held h.queues

abbrev pub settle : ℕ → Trace → Flow → Flow
settle zero t s = s
settle (suc n) t s = option_map_or (settle n t) (step t s) s

-- Items are taken until none is enabled: no more can be taken than are held.
unfoldable pub settled : Trace → Flow → Flow
settled t s = settle (held_count t s.holding) t s

abbrev pub lanes_after : List (List Came) → ℕ → Mark → List (List Came)
lanes_after lanes event (mark.Publish k) = lanes
lanes_after lanes event (mark.Call lane index) = slice_set lanes lane
    (slice_index_or lanes lane [] ++ record { index = index; event = event } ∷ [])

abbrev pub arrived : Flow → Mark → Flow
arrived s m = record {
  done = s.done;
  holding = record {
    events = s.holding.events ++ m ∷ [];
    lanes = lanes_after s.holding.lanes (length s.holding.events) m;
    queues = s.holding.queues;
  };
}

abbrev pub start : Flow
start = record {
  done = [];
  holding = record {
    events = [];
    lanes = replicate 16 [];
    queues = replicate 16 [];
  };
}

-- The flow of a history: after each event items are taken until none is enabled.
unfoldable pub flow : Trace → List Mark → Flow
flow t history = fold (λ (s : Flow) (m : Mark). settled t (arrived s m)) start history

abbrev pub held_calls : ℕ → List (List Came) → List Held
held_calls lane [] = []
held_calls lane (calls ∷ rest) = map (λ (x : Came). held.Call lane x.index) calls
    ++ held_calls (lane + 1) rest

abbrev pub held_item : Item → Held
held_item (item.Call lane index) = held.Call lane index
held_item (item.Batch queue event batch) = held.Batch queue event batch
held_item (item.Fence queue event fence) = held.Fence queue event

abbrev pub held_items : Trace → List Mark → List Held
held_items t history = held_calls 0 (flow t history).holding.lanes
    ++ flat_map (map held_item) (flow t history).holding.queues
