-- Items are taken one after another.
use Rattle.std.proofs.Common.{ℕ, zero, suc, ◌≡◌, List, [], ◌∷◌, ◌++◌, Option, Some, None, length, refl}
use Rattle.std.proofs.Common.{sym, ap, ◌∙◌, append-nil, append_assoc}
use Rattle.std.specs.Prelude.{position, slice_index_or}
use Rattle.std.specs.Option.{option_map_or}
use Rattle.sv_model.specs.Places.{Bound}
use Rattle.sv_model.specs.Primitives.{Past, nothing_made}
use Rattle.sv_model.specs.Holding.{call_ready, item_ready, past, Came, Flow, Holding, arrived, first_calls}
use Rattle.sv_model.specs.Holding.{flow, from_lane, from_queue, held_count, items_of, next, settle, settled}
use Rattle.sv_model.specs.Holding.{starts, step, take_lane, take_queue, took}
use Rattle.sv_model.specs.Standing.{Reaches}
use Rattle.sv_model.specs.Standing as standing
use Rattle.sv_model.specs.Standing.Reaches.{here, on}
use Rattle.sv_model.specs.Work.{bound_steps, given, made, numbered, work}
use Rattle.sv_model.specs.declared.line.Mark.{Mark}
use Rattle.sv_model.specs.declared.line.Trace.{Trace}
use Rattle.sv_model.specs.declared.work.Item.{Item}
use Rattle.sv_model.proofs.NoteGrowth.{from_end}
use Rattle.sv_model.proofs.Settling.{some_is}
use Rattle.sv_model.proofs.Stable.{flow_grows, flow_is_of, same_left, same_steps}
use Rattle.sv_model.proofs.Standings.{settled_is_reached, standing_grows}
use Rattle.sv_history_laws.specs.Ways.{WaysBegin, WaysEnd, WaysGoOn, WaysHaveEvents, left_at, longer}
use Rattle.sv_history_laws.specs.Ways.{taken_now}

pub ways_begin : WaysBegin
ways_begin t history m = record {
  way = record {
    way = here;
    grown = same_steps t history (m ∷ []) (flow t history).done
        (flow_is_of t history) ∙ sym (append-nil (work t history));
  };
  left = same_left t history (m ∷ []) nothing_made (flow t history).done (flow_is_of t history);
}

-- The way goes on.

reaches_on : (t : Trace) {s now after : Flow} → Reaches t s now → step t now ≡ Some after → Reaches t s after
reaches_on t (here {s}) one = on one here
reaches_on t (on {s} {next} {last} first rest) one = on first (reaches_on t rest one)

stepped : (t : Trace) (now : Flow) (n : Option (Item × Holding))
    → next t (past t now.holding.events (items_of now.done)) now.holding ≡ n → step t now ≡ took now n
unfolding step
stepped t now n e = ap (took now) e

pub ways_go_on : WaysGoOn
ways_go_on t history m now more item after is e =
    let steps = standing_grows t (longer history m) now.done (taken_now now item) in record {
      way = record {
        way = reaches_on t is.way (stepped t now (Some (item, after)) e);
        grown =
            ap (λ (s : standing.Standing). s.steps) steps
            ∙ ap (λ (bs : List Bound). bs ++ numbered (length bs)
            (given t (longer history m) (left_at t history m now) (taken_now now item))) is.grown
            ∙ append_assoc (work t history) more (numbered (length (work t history ++ more))
            (given t (longer history m) (left_at t history m now) (taken_now now item)));
      };
      left = ap (λ (s : standing.Standing). s.made) steps;
    }

pub ways_end : WaysEnd
ways_end t history m now more is e =
    let last : settled t (arrived (flow t history) m) ≡ now =
    settled_is_reached t (arrived (flow t history) m) now is.way (stepped t now None e) in
    let same : now ≡ flow t (longer history m) = sym last ∙ sym (flow_grows t history m) in record {
      flow = same;
      work = ap (λ (s : Flow). bound_steps t (longer history m) s.done) (sym same) ∙ is.grown;
    }

-- The events.

lane_events : (t : Trace) (h : Holding) (lane : ℕ) (calls : List Came) (x : Item) (after : Holding)
    → from_lane t h lane calls ≡ Some (x, after) → after.events ≡ h.events
lane_events t h lane [] x after e = cc
lane_events t h lane (c ∷ rest) x after e = ap (λ (p : Item × Holding). p.1.events) (sym (some_is e))

queue_events : (h : Holding) (queue : ℕ) (items : List Item) (x : Item) (after : Holding)
    → from_queue h queue items ≡ Some (x, after) → after.events ≡ h.events
queue_events h queue [] x after e = cc
queue_events h queue (i ∷ rest) x after e = ap (λ (p : Item × Holding). p.1.events) (sym (some_is e))

take_queue_events : (h : Holding) (p : Option ℕ) (x : Item) (after : Holding) → take_queue h p
    ≡ Some (x, after) → after.events ≡ h.events
take_queue_events h None x after e = cc
take_queue_events h (Some queue) x after e = queue_events h queue (slice_index_or h.queues queue []) x after e

take_lane_events : (t : Trace) (p : Past) (h : Holding) (n : Option ℕ) (x : Item) (after : Holding)
    → take_lane t p h n ≡ Some (x, after) → after.events ≡ h.events
take_lane_events t p h None x after e = take_queue_events h
    (position (starts (item_ready t p h.events)) h.queues) x after e
take_lane_events t p h (Some lane) x after e = lane_events t h lane (slice_index_or h.lanes lane []) x after e

took_events : (t : Trace) (s after : Flow) (n : Option (Item × Holding))
    → next t (past t s.holding.events (items_of s.done)) s.holding ≡ n → took s n ≡ Some after
    → after.holding.events ≡ s.holding.events
took_events t s after None e w = cc
took_events t s after (Some x) e w =
    ap (λ (k : Flow). k.holding.events) (sym (some_is w))
    ∙ take_lane_events t (past t s.holding.events (items_of s.done)) s.holding
    (position (starts (call_ready (past t s.holding.events (items_of s.done)) s.holding.events
    s.holding.queues)) (first_calls t 0 s.holding.lanes)) x.0 x.1 e

step_events : (t : Trace) (s after : Flow) → step t s ≡ Some after → after.holding.events ≡ s.holding.events
unfolding step
step_events t s after e = took_events t s after (next t
    (past t s.holding.events (items_of s.done)) s.holding) refl e

reaches_events : (t : Trace) {s last : Flow} → Reaches t s last → last.holding.events ≡ s.holding.events
reaches_events t (here {s}) = refl
reaches_events t (on {s} {next} {last} first rest) = reaches_events t rest ∙ step_events t s next first

settle_events : (n : ℕ) (t : Trace) (s : Flow) → (settle n t s).holding.events ≡ s.holding.events
settle_events zero t s = refl
settle_events (suc n) t s = by_step (step t s) refl (settle_events n t)
  where
    by_step : (r : Option Flow) → step t s ≡ r → ((k : Flow) → (settle n t k).holding.events
        ≡ k.holding.events) → (option_map_or (settle n t) r s).holding.events ≡ s.holding.events
    by_step None e rest = refl
    by_step (Some k) e rest = rest k ∙ step_events t s k e

settled_events : (t : Trace) (s : Flow) → (settled t s).holding.events ≡ s.holding.events
unfolding settled
settled_events t s = settle_events (held_count t s.holding) t s

start_events : (t : Trace) → (flow t []).holding.events ≡ []
unfolding flow
start_events t = refl

pub flow_events : (t : Trace) (history : List Mark) → (flow t history).holding.events ≡ history
flow_events t = from_end (λ (h : List Mark). (flow t h).holding.events ≡ h) (start_events t) (λ h m e.
    ap (λ (s : Flow). s.holding.events) (flow_grows t h m) ∙ settled_events t (arrived (flow t h) m)
    ∙ ap (λ (es : List Mark). es ++ m ∷ []) e)

pub ways_have_events : WaysHaveEvents
ways_have_events t history m now more is = reaches_events t is.way
    ∙ ap (λ (es : List Mark). es ++ m ∷ []) (flow_events t history)
