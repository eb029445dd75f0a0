-- Later events change nothing of what the items of the earlier ones left.
use Rattle.std.proofs.Common.{ℕ, zero, suc, ◌≡◌, ◌∙◌, List, [], ◌∷◌, ◌++◌, Option, Some, None}
use Rattle.std.proofs.Common.{get_or, refl, sym, ap, append_assoc, append-nil}
use Rattle.std.specs.Prelude.{position}
use Rattle.std.specs.Option.{option_map_or}
use Rattle.std.specs.List.{fold}
use Rattle.std.proofs.lemmas.Option.{same_Some}
use Rattle.sv_model.specs.declared.line.Mark.{Mark}
use Rattle.sv_model.specs.declared.line.Trace.{Trace}
use Rattle.sv_model.specs.declared.work.Item.{Item}
use Rattle.sv_model.specs.Primitives.{Past, nothing_made}
use Rattle.sv_model.specs.Holding.{past, call_ready, item_ready, Came, Flow, Holding, arrived, first_calls}
use Rattle.sv_model.specs.Holding.{flow, from_lane, from_queue, held_count, items_of, next, settle, settled}
use Rattle.sv_model.specs.Holding.{start, starts, step, take_lane, take_queue, took}
use Rattle.sv_model.specs.Laws.{left_by_items}
use Rattle.sv_model.proofs.Stable.{flow_is_of, same_left}

-- What the items left.

pub later_events_leave : (t : Trace) (history : List Mark) (m : Mark)
    → left_by_items t (history ++ m ∷ []) (flow t history).done
    ≡ left_by_items t history (flow t history).done
later_events_leave t history m = same_left t history (m ∷ []) nothing_made (flow t history).done
    (flow_is_of t history)

-- Events.

lane_keeps : (t : Trace) (h : Holding) (lane : ℕ) (calls : List Came) (x : Item) (rest : Holding)
    → from_lane t h lane calls ≡ Some (x, rest) → rest.events ≡ h.events
lane_keeps t h lane [] x rest e = cc
lane_keeps t h lane (y ∷ calls) x rest e = sym (ap (λ (p : Item × Holding). p.1.events) (same_Some _ _ e))

queue_keeps : (h : Holding) (q : ℕ) (items : List Item) (x : Item) (rest : Holding) → from_queue h q items
    ≡ Some (x, rest) → rest.events ≡ h.events
queue_keeps h q [] x rest e = cc
queue_keeps h q (y ∷ items) x rest e = sym (ap (λ (p : Item × Holding). p.1.events) (same_Some _ _ e))

queues_keep : (h : Holding) (place : Option ℕ) (x : Item) (rest : Holding) → take_queue h place
    ≡ Some (x, rest) → rest.events ≡ h.events
queues_keep h None x rest e = cc
queues_keep h (Some q) x rest e = queue_keeps h q (get_or h.queues q []) x rest e

lanes_keep : (t : Trace) (p : Past) (h : Holding) (place : Option ℕ) (x : Item) (rest : Holding)
    → take_lane t p h place ≡ Some (x, rest) → rest.events ≡ h.events
lanes_keep t p h None x rest e = queues_keep h (position (starts (item_ready t p h.events)) h.queues) x rest e
lanes_keep t p h (Some lane) x rest e = lane_keeps t h lane (get_or h.lanes lane []) x rest e

pub taking_keeps : (t : Trace) (p : Past) (h : Holding) (x : Item) (rest : Holding) → next t p h
    ≡ Some (x, rest) → rest.events ≡ h.events
taking_keeps t p h x rest e = lanes_keep t p h (position (starts (call_ready p h.events h.queues))
    (first_calls t 0 h.lanes)) x rest e

took_keeps : (t : Trace) (s after : Flow) (x : Option (Item × Holding))
    → next t (past t s.holding.events (items_of s.done)) s.holding ≡ x → took s x ≡ Some after
    → after.holding.events ≡ s.holding.events
took_keeps t s after None e w = cc
took_keeps t s after (Some x) e w =
    sym (ap (λ (k : Flow). k.holding.events) (same_Some _ _ w))
    ∙ taking_keeps t (past t s.holding.events (items_of s.done)) s.holding x.0 x.1 e

step_keeps : (t : Trace) (s after : Flow) → step t s ≡ Some after → after.holding.events ≡ s.holding.events
unfolding step
step_keeps t s after e = took_keeps t s after (next t (past t s.holding.events (items_of s.done)) s.holding)
    refl e

settles_keep : (n : ℕ) (t : Trace) → ((s : Flow) → (settle n t s).holding.events ≡ s.holding.events)
    → (s : Flow) (r : Option Flow) → step t s ≡ r → (option_map_or (settle n t) r s).holding.events
    ≡ s.holding.events
settles_keep n t below s None e = refl
settles_keep n t below s (Some after) e = below after ∙ step_keeps t s after e

settle_keeps : (n : ℕ) (t : Trace) (s : Flow) → (settle n t s).holding.events ≡ s.holding.events
settle_keeps zero t s = refl
settle_keeps (suc n) t s = settles_keep n t (settle_keeps n t) s (step t s) refl

settled_keeps : (t : Trace) (s : Flow) → (settled t s).holding.events ≡ s.holding.events
unfolding settled
settled_keeps t s = settle_keeps (held_count t s.holding) t s

events_on : (t : Trace) (s : Flow) (rest : List Mark)
    → (fold (λ (k : Flow) (m : Mark). settled t (arrived k m)) s rest).holding.events ≡ s.holding.events
    ++ rest
events_on t s [] = sym (append-nil s.holding.events)
events_on t s (m ∷ rest) =
    events_on t (settled t (arrived s m)) rest
    ∙ ap (λ (events : List Mark). events ++ rest) (settled_keeps t (arrived s m))
    ∙ append_assoc s.holding.events (m ∷ []) rest

pub flow_has_its_events : (t : Trace) (history : List Mark) → (flow t history).holding.events ≡ history
unfolding flow
flow_has_its_events t history = events_on t start history
