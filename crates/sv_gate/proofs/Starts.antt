-- The first call of a lane and the first item of a queue, as the gate keeps them.
use Rattle.std.proofs.Common.{ℕ, zero, suc, ◌+◌, ◌≡◌, ◌∙◌, ◌&&◌, List, [], ◌∷◌, Bool, false, Option, Some}
use Rattle.std.proofs.Common.{None, get_or, map, refl, sym, ap, subst, arith}
use Rattle.std.specs.Prelude.{MatchOption, option_map, slice_get, unwrap_or}
use Rattle.std.specs.Option.{option_map_or}
use Rattle.std.specs.List.{list_all}
use Rattle.std.proofs.lemmas.Option.{slice_get-map, unwrap_or-slice_get}
use Rattle.sv_model.specs.declared.line.Trace.{Trace}
use Rattle.sv_model.specs.declared.line.Batch.{Batch}
use Rattle.sv_model.specs.declared.line.Mark.{Mark}
use Rattle.sv_model.specs.declared.line.Mark.TheVariants as mark
use Rattle.sv_model.specs.declared.line.Line.{Line}
use Rattle.sv_model.specs.declared.line.Line.TheVariants as line
use Rattle.sv_model.specs.declared.work.Item.{Item}
use Rattle.sv_model.specs.Declarations.{call_of}
use Rattle.sv_model.specs.History.{batch_at, batches_in, call_at, call_of_mark, no_batch}
use Rattle.sv_model.specs.Primitives.{Past}
use Rattle.sv_model.specs.Holding.{call_ready, is_published, are_published, Came, Holding, starts, sent}
use Rattle.sv_model.specs.Holding.{first_calls}
use Rattle.sv_model.specs.Lawful.{IsLawful, IsLawfulCall}
use Rattle.sv_gate.specs.declared.calls.Call.{Call}
use Rattle.sv_gate.specs.declared.waiting.Waiting.{Waiting}
use Rattle.sv_gate.specs.declared.gate.Gate.{Gate}
use Rattle.sv_gate.specs.Calls.{NamesItsFence, batches_by, call_in, kept_call, kept_of_mark, ready_call}
use Rattle.sv_gate.specs.Calls.{sent_for, queue_for}
use Rattle.sv_gate.specs.Gates.{IsGateOf, IsMadeOf, IsWaiting, first_in, came_in, queue_in}
use Rattle.sv_gate.proofs.Lawfulness.{call_names, called}

-- Calls.

script_at : (scripts : List (List Line)) (lane : ℕ) → get_or (map (map call_in) scripts) lane []
    ≡ map call_in (get_or scripts lane [])
script_at [] lane = refl
script_at (s ∷ scripts) zero = refl
script_at (s ∷ scripts) (suc lane) = script_at scripts lane

-- the kept call is that of the trace
pub kept_is : (t : Trace) (scripts : List (List Call)) (lane index : ℕ) → scripts
    ≡ map (map call_in) t.lane_scripts → kept_call scripts lane index
    ≡ option_map call_in (call_of t lane index)
kept_is t scripts lane index e =
    ap (λ (s : List (List Call)). kept_call s lane index) e
    ∙ ap (λ (s : List Call). slice_get s index) (script_at t.lane_scripts lane)
    ∙ slice_get-map call_in (get_or t.lane_scripts lane []) index

sent_is : (event : ℕ) (x : Option Line) → sent_for event (option_map call_in x) ≡ sent event x
sent_is event None = refl
sent_is event (Some (line.Submit lane queue batches fence)) = refl
sent_is event (Some other) = refl

queue_is : (x : Option Line) → queue_for (option_map call_in x) ≡ queue_in x
queue_is None = refl
queue_is (Some (line.Submit lane queue batches fence)) = refl
queue_is (Some other) = refl

-- what is kept with a call that comes is what it will send
pub made_waits : (t : Trace) (scripts : List (List Call)) (lane index event : ℕ) (x : Waiting) → scripts
    ≡ map (map call_in) t.lane_scripts → IsMadeOf (kept_call scripts lane index) index event x
    → IsWaiting t lane x
made_waits t scripts lane index event x e made =
    let kept = kept_is t scripts lane index e in
    let own : call_of t lane x.index ≡ call_of t lane index = ap (call_of t lane) made.index in
    record {
      sent_items = made.sent ∙ ap (sent_for event) kept ∙ sent_is event (call_of t lane index)
          ∙ ap (λ (n : ℕ). sent n (call_of t lane index)) (sym made.event) ∙ ap (sent x.event) (sym own);
      queue = made.queue ∙ ap queue_for kept ∙ queue_is (call_of t lane index) ∙ ap queue_in (sym own);
    }

ready_is : (p : Past) (events : List Mark) (queues : List (List Item)) (x : Option Line)
    → call_ready p events queues x ≡ option_map_or (ready_call p events queues) (option_map call_in x) false
ready_is p events queues None = refl
ready_is p events queues (Some (line.Submit lane queue batches fence)) = refl
ready_is p events queues (Some other) = refl

-- Lanes.

first_calls-at : (t : Trace) (from k : ℕ) (lanes : List (List Came))
    → get_or (first_calls t from lanes) k [] ≡ map (λ (x : Came). call_of t (from + k) x.index)
    (get_or lanes k [])
first_calls-at t from k [] = refl
first_calls-at t from zero (calls ∷ lanes) =
    let z : from + 0 ≡ from = omega arith in
    ap (λ (n : ℕ). map (λ (x : Came). call_of t n x.index) calls) (sym z)
first_calls-at t from (suc k) (calls ∷ lanes) =
    let z : from + 1 + k ≡ from + suc k = omega arith in
    first_calls-at t (from + 1) k lanes ∙ ap (λ (n : ℕ). map (λ (x : Came). call_of t n x.index)
    (get_or lanes k [])) z

pub came_at : (lanes : List (List Waiting)) (k : ℕ) → get_or (map came_in lanes) k []
    ≡ came_in (get_or lanes k [])
came_at [] k = refl
came_at (calls ∷ lanes) zero = refl
came_at (calls ∷ lanes) (suc k) = came_at lanes k

pub lane_is : (t : Trace) (h : Holding) (g : Gate) (lane : ℕ) → IsGateOf t h g → get_or h.lanes lane []
    ≡ came_in (get_or g.lanes.items lane [])
lane_is t h g lane is = ap (λ (lanes : List (List Came)). get_or lanes lane []) (sym is.lanes)
    ∙ came_at g.lanes.items lane

first_starts : (t : Trace) (p : Past) (events : List Mark) (queues : List (List Item))
    (scripts : List (List Call)) (lane : ℕ) (calls : List Waiting) → scripts
    ≡ map (map call_in) t.lane_scripts
    → starts (call_ready p events queues) (map (λ (x : Came). call_of t lane x.index) (came_in calls))
    ≡ option_map_or (ready_call p events queues) (first_in scripts lane calls) false
first_starts t p events queues scripts lane [] e = refl
first_starts t p events queues scripts lane (x ∷ rest) e =
    ready_is p events queues (call_of t lane x.index)
    ∙ ap (λ (o : Option Call). option_map_or (ready_call p events queues) o false)
    (sym (kept_is t scripts lane x.index e))

-- whether a lane starts is whether its first call may go on
pub lane_starts_is : (t : Trace) (h : Holding) (g : Gate) (p : Past) (lane : ℕ) → IsGateOf t h g
    → starts (call_ready p h.events h.queues) (get_or (first_calls t 0 h.lanes) lane [])
    ≡ option_map_or (ready_call p h.events h.queues)
    (first_in g.scripts lane (get_or g.lanes.items lane [])) false
lane_starts_is t h g p lane is =
    let z : 0 + lane ≡ lane = omega arith in
    ap (starts (call_ready p h.events h.queues)) (first_calls-at t 0 lane h.lanes
    ∙ ap (λ (n : ℕ). map (λ (x : Came). call_of t n x.index) (get_or h.lanes lane [])) z
    ∙ ap (map (λ (x : Came). call_of t lane x.index)) (lane_is t h g lane is))
    ∙ first_starts t p h.events h.queues g.scripts lane (get_or g.lanes.items lane []) is.scripts

-- its first call names its fence
names : (t : Trace) (lane : ℕ) (o : Option Line) → MatchOption o (Unit {0}) (IsLawfulCall t lane)
    → MatchOption (option_map call_in o) (Unit {0}) (NamesItsFence t)
names t lane None h = tt
names t lane (Some x) h = call_names t lane x h

pub first_names : (t : Trace) (scripts : List (List Call)) (lane : ℕ) (calls : List Waiting) → IsLawful t
    → scripts ≡ map (map call_in) t.lane_scripts → MatchOption (first_in scripts lane calls) (Unit {0})
    (NamesItsFence t)
first_names t scripts lane [] lawful e = tt
first_names t scripts lane (x ∷ rest) lawful e =
    subst (λ (o : Option Call). MatchOption o (Unit {0}) (NamesItsFence t))
    (sym (kept_is t scripts lane x.index e)) (names t lane (call_of t lane x.index)
    (called t lane x.index lawful))

-- Publications.

same_all : {X : Type 0} (p q : X → Bool) → ((x : X) → p x ≡ q x) → (xs : List X) → list_all p xs
    ≡ list_all q xs
same_all p q same [] = refl
same_all p q same (x ∷ xs) = both (same x) (same_all p q same xs)
  where
    both : {a b c d : Bool} → a ≡ c → b ≡ d → (a && b) ≡ (c && d)
    both e f = cc

-- Queues.

-- Batches.

batches_are : (x : Option Line) → batches_by (option_map call_in x) ≡ batches_in x
batches_are None = refl
batches_are (Some (line.Submit lane queue batches fence)) = refl
batches_are (Some other) = refl

marked : (t : Trace) (scripts : List (List Call)) (m : Option Mark) → scripts
    ≡ map (map call_in) t.lane_scripts → batches_by (kept_of_mark scripts m) ≡ batches_in (call_of_mark t m)
marked t scripts None e = refl
marked t scripts (Some (mark.Publish k)) e = refl
marked t scripts (Some (mark.Call lane index)) e = ap batches_by (kept_is t scripts lane index e)
    ∙ batches_are (call_of t lane index)

-- the kept batch is that of the trace
pub batch_is : (t : Trace) (h : Holding) (g : Gate) (event batch : ℕ) (kept : Option Batch) → IsGateOf t h g
    → kept ≡ slice_get (batches_by (kept_of_mark g.scripts (slice_get g.events.items event))) batch
    → batch_at t h.events event batch ≡ unwrap_or kept no_batch
batch_is t h g event batch kept is e =
    sym (unwrap_or-slice_get (batches_in (call_at t h.events event)) batch no_batch)
    ∙ ap (λ (batches : List Batch). unwrap_or (slice_get batches batch) no_batch)
    (sym (marked t g.scripts (slice_get h.events event) is.scripts))
    ∙ ap (λ (events : List Mark). unwrap_or (slice_get
    (batches_by (kept_of_mark g.scripts (slice_get events event))) batch) no_batch) (sym is.events)
    ∙ ap (λ (o : Option Batch). unwrap_or o no_batch) (sym e)
