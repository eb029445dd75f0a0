-- The items that are taken from device queues are on declared queues.
use Rattle.std.proofs.Common.{ℕ, zero, suc, ◌+◌, ◌≡◌, Bool, true, false, List, [], ◌∷◌, ◌++◌}
use Rattle.std.proofs.Common.{Option, Some, None, Contains, get_or, refl, sym, subst, ◌∙◌}
use Rattle.std.proofs.Common.{if◌then◌else◌}
use Rattle.std.specs.Prelude.{◌==◌, filter_map, fold, position, slice_get, slice_index_or}
use Rattle.std.specs.List.{All, cons_option}
use Rattle.std.specs.Option.{option_map_or}
use Rattle.std.proofs.lemmas.Bool.{eqb-true}
use Rattle.std.proofs.lemmas.Option.{slice_get-get_or, slice_get_within}
use Rattle.std.proofs.lemmas.List.Elements.{All-append, All-cons, All-head, All-nil, All-replicate, All-set}
use Rattle.std.proofs.lemmas.List.Elements.{All-tail}
use Rattle.sv_model.specs.Declarations.{call_of, queue_number, queues_of, said}
use Rattle.sv_model.specs.Declarations.{says_queue}
use Rattle.sv_model.specs.Holding.{Came, Flow, Holding, arrived, batches_from, call_ready, fence_items}
use Rattle.sv_model.specs.Holding.{first_calls, flow, from_lane, from_queue, held_count, item_ready, items_of}
use Rattle.sv_model.specs.Holding.{next, past, queues_after, sent, settle, settled, start, starts, step}
use Rattle.sv_model.specs.Holding.{take_lane, take_queue, took}
use Rattle.sv_model.specs.Lawful.{IsLawful, IsLawfulCall, IsQueueOf, script_of}
use Rattle.sv_model.specs.Primitives.{Past}
use Rattle.sv_model.specs.declared.line.Batch.{Batch}
use Rattle.sv_model.specs.declared.line.Line.{Line}
use Rattle.sv_model.specs.declared.line.Line.TheVariants as line
use Rattle.sv_model.specs.declared.line.Mark.{Mark}
use Rattle.sv_model.specs.declared.line.Trace.{Trace}
use Rattle.sv_model.specs.declared.work.Item.{Item}
use Rattle.sv_model.specs.declared.work.Item.TheVariants as item
use Rattle.sv_model.specs.declared.work.Taken.{Taken}
use Rattle.sv_model.proofs.Lists.{in_cons, in_first}
use Rattle.sv_model.proofs.Settling.{some_is}

-- Queues that lines declare.

declared : (n lane : ℕ) (lines : List Line) → IsQueueOf lane (said (says_queue n) lines)
    → Contains (filter_map queue_number lines) n
declared n lane [] is = absurd is
declared n lane (line.Queue queue family l ∷ rest) is = by_test (declared n lane rest) (queue == n) refl is
  where
    by_test : (IsQueueOf lane (said (says_queue n) rest) → Contains (filter_map queue_number rest) n)
        → (b : Bool) → (queue == n) ≡ b
        → IsQueueOf lane (slice_get (cons_option (if b then Some (record { family = family; lane = l }) else
        None) (filter_map (says_queue n) rest)) 0)
        → Contains (queue ∷ filter_map queue_number rest) n
    by_test later true e h = subst (λ (q : ℕ). Contains (queue ∷ filter_map queue_number rest) q)
        (eqb-true queue n e) (in_first queue (filter_map queue_number rest))
    by_test later false e h = in_cons queue (filter_map queue_number rest) n (later h)
declared n lane (other ∷ rest) is = declared n lane rest is

-- Items.

abbrev pub IsItemOn : List ℕ → Item → Type 0
IsItemOn queues (item.Batch queue event batch) = Contains queues queue
IsItemOn queues (item.Fence queue event fence) = Unit {0}
IsItemOn queues (item.Call lane index) = Unit {0}

abbrev AreItemsOn : List ℕ → List (List Item) → Type 0
AreItemsOn queues lists = All (All (IsItemOn queues)) lists

one_of : {X : Type 0} (P : X → Type 0) (lists : List (List X)) (i : ℕ) → All (All P) lists
    → All P (get_or lists i [])
one_of P [] i all = All-nil P
one_of P (xs ∷ lists) zero all = All-head (All P) xs lists all
one_of P (xs ∷ lists) (suc i) all = one_of P lists i (All-tail (All P) xs lists all)

batches_on : (queues : List ℕ) (queue event n : ℕ) (batches : List Batch) → Contains queues queue
    → All (IsItemOn queues) (batches_from queue event n batches)
batches_on queues queue event n [] on = All-nil (IsItemOn queues)
batches_on queues queue event n (b ∷ rest) on = All-cons (IsItemOn queues) (item.Batch queue event n)
    (batches_from queue event (n + 1) rest) on (batches_on queues queue event (n + 1) rest on)

fences_on : (queues : List ℕ) (queue event : ℕ) (fence : Option ℕ)
    → All (IsItemOn queues) (fence_items queue event fence)
fences_on queues queue event None = All-nil (IsItemOn queues)
fences_on queues queue event (Some f) = All-cons (IsItemOn queues) (item.Fence queue event f) [] tt
    (All-nil (IsItemOn queues))

module _ (t : Trace) (lawful : IsLawful t) where
  abbrev IsOn : Item → Type 0
  IsOn i = IsItemOn (queues_of t) i

  abbrev AreOn : List (List Item) → Type 0
  AreOn lists = AreItemsOn (queues_of t) lists

  abbrev OfLane : ℕ → Option Line → Type 0
  OfLane lane None = Unit {0}
  OfLane lane (Some call) = IsLawfulCall t lane call

  of_lane : (lane index : ℕ) (o : Option Line) → call_of t lane index ≡ o → OfLane lane o
  of_lane lane index None e = tt
  of_lane lane index (Some call) e =
      let within = slice_get_within (script_of t lane) index call e in
      let at : get_or (script_of t lane) index call ≡ call =
      some_is (sym (slice_get-get_or (script_of t lane) index call within) ∙ e) in
      subst (IsLawfulCall t lane) at (lawful.lanes lane index call within)

  queues_on : (queues : List (List Item)) (lane event : ℕ) (call : Option Line) → OfLane lane call
      → AreOn queues → AreOn (queues_after queues event call)
  queues_on queues lane event (Some (line.Submit l q batches fence)) is all =
      let on = declared q lane t.queues is.1.of_lane in
      All-set (All IsOn) queues q (slice_index_or queues q []
      ++ sent event (Some (line.Submit l q batches fence)))
      (All-append IsOn (slice_index_or queues q []) (sent event (Some (line.Submit l q batches fence)))
      (one_of IsOn queues q all)
      (All-append IsOn (batches_from q event 0 batches) (fence_items q event fence)
      (batches_on (queues_of t) q event 0 batches on) (fences_on (queues_of t) q event fence))) all
  queues_on queues lane event other is all = all

  -- what is taken, and what is held after it
  abbrev IsTakenOn : Option (Item × Holding) → Type 0
  IsTakenOn None = Unit {0}
  IsTakenOn (Some x) = IsOn x.0 × AreOn x.1.queues

  lane_on : (h : Holding) (lane : ℕ) (calls : List Came) → AreOn h.queues
      → IsTakenOn (from_lane t h lane calls)
  lane_on h lane [] all = tt
  lane_on h lane (x ∷ rest) all = (
    tt,
    queues_on h.queues lane x.event (call_of t lane x.index)
        (of_lane lane x.index (call_of t lane x.index) refl) all,
  )

  queue_on : (h : Holding) (queue : ℕ) (items : List Item) → All IsOn items → AreOn h.queues
      → IsTakenOn (from_queue h queue items)
  queue_on h queue [] here all = tt
  queue_on h queue (x ∷ rest) here all = (
    All-head IsOn x rest here,
    All-set (All IsOn) h.queues queue rest
        (All-tail IsOn x rest here) all,
  )

  take_queue_on : (h : Holding) (p : Option ℕ) → AreOn h.queues → IsTakenOn (take_queue h p)
  take_queue_on h None all = tt
  take_queue_on h (Some queue) all = queue_on h queue (slice_index_or h.queues queue [])
      (one_of IsOn h.queues queue all) all

  take_lane_on : (p : Past) (h : Holding) (n : Option ℕ) → AreOn h.queues → IsTakenOn (take_lane t p h n)
  take_lane_on p h None all = take_queue_on h (position (starts (item_ready t p h.events)) h.queues) all
  take_lane_on p h (Some lane) all = lane_on h lane (slice_index_or h.lanes lane []) all

  next_on : (p : Past) (h : Holding) → AreOn h.queues → IsTakenOn (next t p h)
  next_on p h all = take_lane_on p h
      (position (starts (call_ready p h.events h.queues)) (first_calls t 0 h.lanes)) all

  -- The flow.

  abbrev IsTaken : Taken → Type 0
  IsTaken x = IsOn x.item

  record IsFlowOn (s : Flow) : Type 0 where
    done : All IsTaken s.done
    held : AreOn s.holding.queues

  abbrev IsFlowOnIf : Option Flow → Type 0
  IsFlowOnIf None = Unit {0}
  IsFlowOnIf (Some s) = IsFlowOn s

  took_on : (s : Flow) (x : Option (Item × Holding)) → IsFlowOn s → IsTakenOn x → IsFlowOnIf (took s x)
  took_on s None is taken = tt
  took_on s (Some x) is taken = record {
    done = All-append IsTaken s.done _ is.done (All-cons IsTaken _ [] taken.0 (All-nil IsTaken));
    held = taken.1;
  }

  step_on : (s : Flow) → IsFlowOn s → IsFlowOnIf (step t s)
  unfolding step
  step_on s is = took_on s (next t (past t s.holding.events (items_of s.done)) s.holding) is
      (next_on (past t s.holding.events (items_of s.done)) s.holding is.held)

  settle_on : (n : ℕ) (s : Flow) → IsFlowOn s → IsFlowOn (settle n t s)
  settle_on zero s is = is
  settle_on (suc n) s is = by_step (settle_on n) (step t s) (step_on s is)
    where
      by_step : ((k : Flow) → IsFlowOn k → IsFlowOn (settle n t k)) → (r : Option Flow) → IsFlowOnIf r
          → IsFlowOn (option_map_or (settle n t) r s)
      by_step more None on = is
      by_step more (Some k) on = more k on

  event_on : (s : Flow) (m : Mark) → IsFlowOn s → IsFlowOn (settled t (arrived s m))
  unfolding settled
  event_on s m is = settle_on (held_count t (arrived s m).holding) (arrived s m)
      (record { done = is.done; held = is.held })

  events_on : (s : Flow) (history : List Mark) → IsFlowOn s
      → IsFlowOn (fold (λ (s : Flow) (m : Mark). settled t (arrived s m)) s history)
  events_on s [] is = is
  events_on s (m ∷ history) is = events_on (settled t (arrived s m)) history (event_on s m is)

  flow_on : (history : List Mark) → IsFlowOn (flow t history)
  unfolding flow
  flow_on history = events_on start history (record {
    done = All-nil IsTaken;
    held = All-replicate (All IsOn) 16 [] (All-nil IsOn);
  })

  pub taken_on : (history : List Mark) → All IsTaken (flow t history).done
  taken_on history = (flow_on history).done
