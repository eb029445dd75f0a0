-- What a gate holds after one more event came.
use Rattle.std.proofs.Common.{ℕ, ◌+◌, ◌<◌, ◌≤◌, ◌^◌, ◌≡◌, ◌∙◌, ◌==◌, ◌||◌, List, [], ◌∷◌, ◌++◌, Bool, true}
use Rattle.std.proofs.Common.{false, length, get_or, set, map, cond, refl, sym, ap, subst, arith}
use Rattle.std.proofs.Common.{length-set, ◌⊎◌, inl, inr}
use Rattle.std.specs.Prelude.{All}
use Rattle.std.specs.BTreeSet.{contains, BTreeSet, Updates}
use Rattle.std.specs.BTreeMap.{is_at}
use Rattle.std.specs.Ordering.{nat_cmp}
use Rattle.std.proofs.lemmas.Bool.{cases_eq, cases_lt, cases_order}
use Rattle.std.proofs.lemmas.Bool.Decides.{nat_tests}
use Rattle.std.proofs.lemmas.List.{map-set, map_push, set_past, get_or-set_same, get_or-set_other}
use Rattle.std.proofs.lemmas.List.Folds.{list_any-append}
use Rattle.std.proofs.lemmas.List.Elements.{All-push}
use Rattle.sv_model.specs.declared.line.Trace.{Trace}
use Rattle.sv_model.specs.declared.line.Mark.{Mark}
use Rattle.sv_model.specs.declared.line.Mark.TheVariants as mark
use Rattle.sv_model.specs.declared.work.Item.{Item}
use Rattle.sv_model.specs.Declarations.{call_of}
use Rattle.sv_model.specs.Holding.{is_published, publishes, Came, Holding, arrived, cost, held_count, sent}
use Rattle.sv_gate.specs.declared.waiting.Waiting.{Waiting}
use Rattle.sv_gate.specs.declared.gate.Gate.{Gate}
use Rattle.sv_gate.specs.Calls.{kept_call}
use Rattle.sv_gate.specs.Gates.{IsGateOf, IsMadeOf, IsWaiting, added, came_in, came_of}
use Rattle.sv_gate.proofs.Falls.{calls_added}
use Rattle.sv_gate.proofs.Starts.{lane_is, made_waits}

-- Publications.

one_more : (events : List Mark) (m : Mark) (rec : ℕ) → is_published (events ++ m ∷ []) rec
    ≡ (is_published events rec || publishes rec m)
one_more events m rec = list_any-append (publishes rec) events (m ∷ [])
    ∙ ap (λ (b : Bool). is_published events rec || b) (last (publishes rec m))
  where
    last : (b : Bool) → (b || false) ≡ b
    last true = refl
    last false = refl

never : (b : Bool) → b ≡ (b || false)
never true = refl
never false = refl

-- Calls.

more_waits : (t : Trace) (lane : ℕ) (held : List (List Waiting)) (x : Waiting) → IsWaiting t lane x
    → ((k : ℕ) → All (IsWaiting t k) (get_or held k [])) → (k : ℕ)
    → All (IsWaiting t k) (get_or (added held lane (x ∷ [])) k [])
more_waits t lane held x waits all k =
    elim (cases_eq k lane) [
      | inl e ↦ subst (λ (n : ℕ). All (IsWaiting t n) (get_or (added held lane (x ∷ [])) n [])) (sym e)
          (own (cases_lt lane (length held)))
      | inr ne ↦ subst (λ (calls : List Waiting). All (IsWaiting t k) calls)
          (sym (get_or-set_other held lane k (get_or held lane [] ++ x ∷ []) [] ne)) (all k)
    ]
  where
    own : (lane < length held) ⊎ (length held ≤ lane)
        → All (IsWaiting t lane) (get_or (added held lane (x ∷ [])) lane [])
    own (inl l) = subst (λ (calls : List Waiting). All (IsWaiting t lane) calls)
        (sym (get_or-set_same held lane (get_or held lane [] ++ x ∷ []) [] l))
        (All-push (IsWaiting t lane) (get_or held lane []) x (all lane) waits)
    own (inr l) = subst (λ (lanes : List (List Waiting)). All (IsWaiting t lane) (get_or lanes lane []))
        (sym (set_past held lane (get_or held lane [] ++ x ∷ []) l)) (all lane)

came_is : (x : Waiting) (index event now : ℕ) → x.index ≡ index → x.event ≡ event → event ≡ now → came_of x
    ≡ record { index = index; event = now }
came_is x index event now e f g =
    let same : came_of x ≡ record { index = index; event = x.event } =
    ap (λ (n : ℕ). let c : Came = record { index = n; event = x.event } in c) e in
    same ∙ ap (λ (n : ℕ). let c : Came = record { index = index; event = n } in c) (f ∙ g)

pub after_arrival : (t : Trace) (h : Holding) (g new : Gate) (lane index event : ℕ) (x : Waiting)
    → IsGateOf t h g → event ≡ length h.events → new.scripts ≡ g.scripts → new.events.items ≡ g.events.items
    ++ mark.Call lane index ∷ [] → new.published ≡ g.published
    → IsMadeOf (kept_call g.scripts lane index) index event x → new.lanes.items
    ≡ added g.lanes.items lane (x ∷ []) → new.queues.items ≡ g.queues.items → new.total ≡ g.total
    + (1 + length x.sent) → new.total < 2 ^ 62
    → IsGateOf t (arrived (record { done = []; holding = h }) (mark.Call lane index)).holding new
after_arrival t h g new lane index event x is now scripts events published made lanes queues total small =
    let waits : IsWaiting t lane x = made_waits t g.scripts lane index event x is.scripts made in
    let came : Came = record { index = index; event = length h.events } in
    let same : came_of x ≡ came = came_is x index event (length h.events) made.index made.event now in
    let long : length x.sent + 1 ≡ cost t lane came = (
    let e : length x.sent ≡ length (sent x.event (call_of t lane x.index)) =
    ap (λ (items : List Item). length items) waits.sent_items in
    let f : cost t lane (came_of x) ≡ cost t lane came = ap (cost t lane) same in
    omega arith) in
    let more = calls_added t 0 lane h.lanes came in
    let z : 0 + lane ≡ lane = omega arith in
    let within : held_count t h ≤ g.total = is.total in
    let cost_is : cost t (0 + lane) came ≡ cost t lane came = ap (λ (n : ℕ). cost t n came) z in
    record {
      scripts = scripts ∙ is.scripts;
      events = events ∙ ap (λ (all : List Mark). all ++ mark.Call lane index ∷ []) is.events;
      published = λ rec. ap (λ (s : BTreeSet ℕ). contains nat_cmp s rec) published ∙ is.published rec
          ∙ never (is_published h.events rec) ∙ sym (one_more h.events (mark.Call lane index) rec);
      lanes = ap (map came_in) lanes
          ∙ map-set came_in g.lanes.items lane (get_or g.lanes.items lane [] ++ x ∷ [])
          ∙ ap (set (map came_in g.lanes.items) lane) (map_push came_of (get_or g.lanes.items lane []) x)
          ∙ ap (λ (c : Came). set (map came_in g.lanes.items) lane
          (came_in (get_or g.lanes.items lane []) ++ c ∷ [])) same
          ∙ ap (λ (calls : List Came). set (map came_in g.lanes.items) lane (calls ++ came ∷ []))
          (sym (lane_is t h g lane is))
          ∙ ap (λ (all : List (List Came)). set all lane (get_or h.lanes lane [] ++ came ∷ [])) is.lanes;
      waiting = λ k. subst (λ (all : List (List Waiting)). All (IsWaiting t k) (get_or all k []))
          (sym lanes) (more_waits t lane g.lanes.items x waits is.waiting k);
      queues = queues ∙ is.queues;
      lane_count = length-set h.lanes lane (get_or h.lanes lane [] ++ came ∷ []) ∙ is.lane_count;
      total = omega arith;
      small = small;
    }
