-- What a gate stands for: the events so far, and what is held after them ("Queue Submission").
use Rattle.std.specs.Prelude.{ℕ, ◌≡◌, ◌<◌, ◌≤◌, ◌^◌, ◌∷◌, ◌++◌, List, [], Option, Some, None, All, drop}
use Rattle.std.specs.Prelude.{map, length, slice_index_or, slice_set}
use Rattle.std.specs.BTreeSet.{contains}
use Rattle.std.specs.Ordering.{nat_cmp}
use Rattle.sv_model.specs.declared.line.Trace.{Trace}
use Rattle.sv_model.specs.declared.line.Line.{Line}
use Rattle.sv_model.specs.declared.line.Line.TheVariants as line
use Rattle.sv_model.specs.declared.work.Item.{Item}
use Rattle.sv_model.specs.Declarations.{call_of}
use Rattle.sv_model.specs.Holding.{is_published, Came, Holding, sent, held_count}
use Rattle.sv_gate.specs.declared.calls.Call.{Call}
use Rattle.sv_gate.specs.declared.waiting.Waiting.{Waiting}
use Rattle.sv_gate.specs.declared.gate.Gate.{Gate}
use Rattle.sv_gate.specs.Calls.{call_in, kept_call, sent_for, queue_for}

-- Lists by number.

-- one more at the end of the list of that number, where there is one
abbrev pub added : {X : Type 0} → List (List X) → ℕ → List X → List (List X)
added lists n more = slice_set lists n (slice_index_or lists n [] ++ more)

-- The first of the list of that number was taken out; None where it has none, and nothing changes.
abbrev pub Pops : {X : Type 0} → List (List X) → List (List X) → ℕ → Option X → Type 0
Pops old new n None = (slice_index_or old n [] ≡ []) × (new ≡ old)
Pops old new n (Some x) = (slice_index_or old n [] ≡ x ∷ drop 1 (slice_index_or old n []))
    × (new ≡ slice_set old n (drop 1 (slice_index_or old n [])))

-- the queues after the items went to that one
abbrev pub sent_to : List (List Item) → Option ℕ → List Item → List (List Item)
sent_to queues None items = queues
sent_to queues (Some queue) items = added queues queue items

-- Held calls.

-- the queue of a submit
abbrev pub queue_in : Option Line → Option ℕ
queue_in (Some (line.Submit lane queue batches fence)) = Some queue
queue_in other = None

abbrev pub came_of : Waiting → Came
came_of x = record { index = x.index; event = x.event }

-- the first call of a lane
abbrev pub first_in : List (List Call) → ℕ → List Waiting → Option Call
first_in scripts lane [] = None
first_in scripts lane (x ∷ rest) = kept_call scripts lane x.index

-- The call of that number came as that event. What it will send, and where, is kept with it.
pub record IsMadeOf (call : Option Call) (number came : ℕ) (x : Waiting) : Type 0 where
  pub index : x.index ≡ number
  pub event : x.event ≡ came
  pub queue : x.queue ≡ queue_for call
  pub sent : x.sent ≡ sent_for came call

-- what a held call will send, and where, is kept with it
pub record IsWaiting (t : Trace) (lane : ℕ) (x : Waiting) : Type 0 where
  pub sent_items : x.sent ≡ sent x.event (call_of t lane x.index)
  pub queue : x.queue ≡ queue_in (call_of t lane x.index)

abbrev pub came_in : List Waiting → List Came
came_in calls = map came_of calls

-- The gate of a trace holds this.
pub record IsGateOf (t : Trace) (h : Holding) (g : Gate) : Type 0 where
  pub scripts : g.scripts ≡ map (map call_in) t.lane_scripts
  pub events : g.events.items ≡ h.events
  pub published : (rec : ℕ) → contains nat_cmp g.published rec ≡ is_published h.events rec
  pub lanes : map came_in g.lanes.items ≡ h.lanes
  pub waiting : (lane : ℕ) → All (IsWaiting t lane) (slice_index_or g.lanes.items lane [])
  pub queues : g.queues.items ≡ h.queues
  pub lane_count : length h.lanes ≡ 16
  pub total : held_count t h ≤ g.total
  pub small : g.total < 2 ^ 62

-- what is taken, and what the gate holds after it
abbrev pub Takes : Trace → Holding → Option (Item × Holding) → Option Item → Gate → Type 0
Takes t h None result g = (result ≡ None) × IsGateOf t h g
Takes t h (Some x) result g = (result ≡ Some x.0) × IsGateOf t x.1 g
