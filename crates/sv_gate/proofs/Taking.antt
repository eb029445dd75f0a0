-- What a gate holds after a call or an item was taken.
use Rattle.std.proofs.Common.{ℕ, ◌+◌, ◌-◌, ◌<◌, ◌≤◌, ◌^◌, ◌≡◌, ◌∙◌, List, [], ◌∷◌, Option, Some, None}
use Rattle.std.proofs.Common.{length, get_or, set, map, refl, sym, ap, subst, arith, length-set, inl, inr}
use Rattle.std.specs.Prelude.{All}
use Rattle.std.specs.BTreeSet.{contains, BTreeSet}
use Rattle.std.specs.Ordering.{nat_cmp}
use Rattle.std.proofs.lemmas.Bool.{cases_eq}
use Rattle.std.proofs.lemmas.List.{map-set, get_or-set_same, get_or-set_other}
use Rattle.std.proofs.lemmas.List.Elements.{All-head, All-tail}
use Rattle.sv_model.specs.declared.line.Trace.{Trace}
use Rattle.sv_model.specs.declared.line.Line.{Line}
use Rattle.sv_model.specs.declared.line.Line.TheVariants as line
use Rattle.sv_model.specs.declared.work.Item.{Item}
use Rattle.sv_model.specs.declared.work.Item.TheVariants as item
use Rattle.sv_model.specs.Declarations.{call_of}
use Rattle.sv_model.specs.Holding.{Came, Holding, from_lane, from_queue, sent, queues_after, items_held}
use Rattle.sv_model.specs.Holding.{held_count}
use Rattle.sv_gate.specs.declared.waiting.Waiting.{Waiting}
use Rattle.sv_gate.specs.declared.gate.Gate.{Gate}
use Rattle.sv_gate.specs.Gates.{IsGateOf, IsWaiting, Takes, came_in, came_of, queue_in, sent_to}
use Rattle.sv_gate.proofs.Falls.{below_end, lane_falls, lane_has_room, queue_falls}
use Rattle.sv_gate.proofs.Starts.{lane_is}

-- Two gates with equal parts.
pub record IsSame (g new : Gate) : Type 0 where
  pub scripts : new.scripts ≡ g.scripts
  pub events : new.events.items ≡ g.events.items
  pub published : new.published ≡ g.published

pub same_gate : (t : Trace) (h : Holding) (g new : Gate) → IsGateOf t h g → IsSame g new → new.lanes.items
    ≡ g.lanes.items → new.queues.items ≡ g.queues.items → new.total ≡ g.total → IsGateOf t h new
same_gate t h g new is same lanes queues all = record {
  scripts = same.scripts ∙ is.scripts;
  events = same.events ∙ is.events;
  published = λ rec. ap (λ (s : BTreeSet ℕ). contains nat_cmp s rec) same.published ∙ is.published rec;
  lanes = ap (map came_in) lanes ∙ is.lanes;
  waiting = λ lane. subst (λ (held : List (List Waiting)). All (IsWaiting t lane) (get_or held lane []))
      (sym lanes) (is.waiting lane);
  queues = queues ∙ is.queues;
  lane_count = is.lane_count;
  total = (let l = is.total in omega (arith, all));
  small = (let l = is.small in omega (arith, all));
}

-- Calls.

sent_after : (queues : List (List Item)) (event : ℕ) (x : Option Line)
    → sent_to queues (queue_in x) (sent event x) ≡ queues_after queues event x
sent_after queues event None = refl
sent_after queues event (Some (line.Submit lane queue batches fence)) = refl
sent_after queues event (Some other) = refl

-- what the other lanes hold waits as before
rest_waits : (t : Trace) (lane : ℕ) (held : List (List Waiting)) (x : Waiting) (rest : List Waiting)
    → ((k : ℕ) → All (IsWaiting t k) (get_or held k [])) → get_or held lane [] ≡ x ∷ rest → (k : ℕ)
    → All (IsWaiting t k) (get_or (set held lane rest) k [])
rest_waits t lane held x rest all found k =
    elim (cases_eq k lane) [
      | inl e ↦ (
          let here : get_or (set held lane rest) lane [] ≡ rest =
          get_or-set_same held lane rest [] (below_end held lane x rest found) in
          let own : All (IsWaiting t lane) (x ∷ rest) =
          subst (λ (calls : List Waiting). All (IsWaiting t lane) calls) found (all lane) in
          let left : All (IsWaiting t lane) rest = All-tail (IsWaiting t lane) x rest own in
          let there : All (IsWaiting t lane) (get_or (set held lane rest) lane []) =
          subst (λ (calls : List Waiting). All (IsWaiting t lane) calls) (sym here) left in
          subst (λ (n : ℕ). All (IsWaiting t n) (get_or (set held lane rest) n [])) (sym e) there)
      | inr ne ↦ subst (λ (calls : List Waiting). All (IsWaiting t k) calls)
          (sym (get_or-set_other held lane k rest [] ne)) (all k)
    ]

pub after_call : (t : Trace) (h : Holding) (g new : Gate) (lane : ℕ) (x : Waiting) (rest : List Waiting)
    → IsGateOf t h g → IsSame g new → get_or g.lanes.items lane [] ≡ x ∷ rest
    → new.lanes.items ≡ set g.lanes.items lane rest
    → (items_held g.queues.items + length x.sent < 2 ^ 63 → new.queues.items
    ≡ sent_to g.queues.items x.queue x.sent)
    → new.total ≡ g.total - 1
    → Takes t h (from_lane t h lane (get_or h.lanes lane [])) (Some (item.Call lane x.index)) new
after_call t h g new lane x rest is same found lanes queues one =
    let e : get_or h.lanes lane [] ≡ came_of x ∷ came_in rest = lane_is t h g lane is ∙ ap came_in found in
    let own : All (IsWaiting t lane) (x ∷ rest) =
    subst (λ (calls : List Waiting). All (IsWaiting t lane) calls) found (is.waiting lane) in
    let waits : IsWaiting t lane x = All-head (IsWaiting t lane) x rest own in
    let call : Option Line = call_of t lane x.index in
    let room : items_held h.queues + length (sent x.event call) ≤ held_count t h =
    lane_has_room t h lane (came_of x) (came_in rest) e in
    let falls = lane_falls t h lane (came_of x) (came_in rest) e in
    let held : items_held g.queues.items ≡ items_held h.queues = ap items_held is.queues in
    let long : length x.sent ≡ length (sent x.event call) =
    ap (λ (items : List Item). length items) waits.sent_items in
    let within : held_count t h ≤ g.total = is.total in
    let small : g.total < 2 ^ 62 = is.small in
    let fits : items_held g.queues.items + length x.sent < 2 ^ 63 = omega arith in
    let total : new.total ≡ g.total - 1 = one in
    subst (λ (calls : List Came). Takes t h (from_lane t h lane calls) (Some (item.Call lane x.index)) new)
    (sym e) (
      refl,
      record {
        scripts = same.scripts ∙ is.scripts;
        events = same.events ∙ is.events;
        published = λ rec. ap (λ (s : BTreeSet ℕ). contains nat_cmp s rec) same.published ∙ is.published rec;
        lanes = ap (map came_in) lanes ∙ map-set came_in g.lanes.items lane rest
            ∙ ap (λ (all : List (List Came)). set all lane (came_in rest)) is.lanes;
        waiting = λ k. subst (λ (all : List (List Waiting)). All (IsWaiting t k) (get_or all k []))
            (sym lanes) (rest_waits t lane g.lanes.items x rest is.waiting found k);
        queues = queues fits
            ∙ ap (λ (all : List (List Item)). sent_to all x.queue x.sent) is.queues
            ∙ ap (λ (q : Option ℕ). sent_to h.queues q x.sent) waits.queue
            ∙ ap (λ (items : List Item). sent_to h.queues (queue_in call) items) waits.sent_items
            ∙ sent_after h.queues x.event call;
        lane_count = length-set h.lanes lane (came_in rest) ∙ is.lane_count;
        total = omega arith;
        small = omega arith;
      },
    )

pub no_call : (t : Trace) (h : Holding) (g new : Gate) (lane : ℕ) → IsGateOf t h g → IsSame g new
    → get_or g.lanes.items lane [] ≡ [] → new.lanes.items ≡ g.lanes.items → new.queues.items
    ≡ g.queues.items → new.total ≡ g.total
    → Takes t h (from_lane t h lane (get_or h.lanes lane [])) None new
no_call t h g new lane is same found lanes queues all =
    let e : get_or h.lanes lane [] ≡ [] = lane_is t h g lane is ∙ ap came_in found in
    subst (λ (calls : List Came). Takes t h (from_lane t h lane calls) None new) (sym e)
    (refl, same_gate t h g new is same lanes queues all)

-- a held call counts in the total
pub call_counts : (t : Trace) (h : Holding) (g : Gate) (lane : ℕ) (x : Waiting) (rest : List Waiting)
    → IsGateOf t h g → get_or g.lanes.items lane [] ≡ x ∷ rest → 1 ≤ g.total
call_counts t h g lane x rest is found =
    let falls = lane_falls t h lane (came_of x) (came_in rest) (lane_is t h g lane is ∙ ap came_in found) in
    let within : held_count t h ≤ g.total = is.total in
    omega (arith, falls, within)

-- Items.

pub after_item : (t : Trace) (h : Holding) (g new : Gate) (queue : ℕ) (x : Item) (rest : List Item)
    → IsGateOf t h g → IsSame g new → new.lanes.items ≡ g.lanes.items → get_or g.queues.items queue [] ≡ x
    ∷ rest
    → new.queues.items ≡ set g.queues.items queue rest
    → new.total ≡ g.total - 1
    → Takes t h (from_queue h queue (get_or h.queues queue [])) (Some x) new
after_item t h g new queue x rest is same lanes found queues one =
    let e : get_or h.queues queue [] ≡ x ∷ rest =
    ap (λ (all : List (List Item)). get_or all queue []) (sym is.queues) ∙ found in
    let falls = queue_falls t h queue x rest e in
    let within : held_count t h ≤ g.total = is.total in
    let small : g.total < 2 ^ 62 = is.small in
    let total : new.total ≡ g.total - 1 = one in
    subst (λ (items : List Item). Takes t h (from_queue h queue items) (Some x) new) (sym e) (
      refl,
      record {
        scripts = same.scripts ∙ is.scripts;
        events = same.events ∙ is.events;
        published = λ rec. ap (λ (s : BTreeSet ℕ). contains nat_cmp s rec) same.published ∙ is.published rec;
        lanes = ap (map came_in) lanes ∙ is.lanes;
        waiting = λ k. subst (λ (all : List (List Waiting)). All (IsWaiting t k) (get_or all k []))
            (sym lanes) (is.waiting k);
        queues = queues ∙ ap (λ (all : List (List Item)). set all queue rest) is.queues;
        lane_count = is.lane_count;
        total = omega arith;
        small = omega arith;
      },
    )
