-- What is held stays well.
use Rattle.std.proofs.Common.{ℕ, zero, suc, ◌+◌, ◌<◌, ◌≡◌, Bool, true, false, ◌&&◌, ◌||◌, List}
use Rattle.std.proofs.Common.{[], ◌∷◌, ◌++◌, Option, Some, None, length, get_or, set, map, refl, sym, ap}
use Rattle.std.proofs.Common.{subst, ◌∙◌, arith, length-append}
use Rattle.std.specs.Prelude.{position, replicate, slice_get, slice_index_or, slice_set}
use Rattle.std.specs.Option.{option_map_or}
use Rattle.std.specs.List.{All, list_all, list_any}
use Rattle.std.proofs.Math.Seq.{get_or-append_seam}
use Rattle.std.proofs.lemmas.Option.{slice_get-get_or, slice_get_within}
use Rattle.std.proofs.lemmas.List.Folds.{list_any-append}
use Rattle.std.proofs.lemmas.List.Elements.{All-append, All-cons, All-head, All-nil, All-tail, All-weaker}
use Rattle.std.proofs.lemmas.List.Quantifiers.{position-Some}
use Rattle.sv_model.specs.Declarations.{call_of}
use Rattle.sv_model.specs.Primitives.{Past}
use Rattle.sv_model.specs.Holding.{are_published, call_ready, is_published, item_ready, past, publishes}
use Rattle.sv_model.specs.Holding.{Came, Flow, Holding, arrived, batches_from, fence_items, first_calls}
use Rattle.sv_model.specs.Holding.{flow, from_lane, from_queue, held_count, items_of, lanes_after, next}
use Rattle.sv_model.specs.Holding.{queues_after, sent, settle, settled, start, starts, step, take_lane}
use Rattle.sv_model.specs.Holding.{take_queue, took}
use Rattle.sv_model.specs.History.{batch_at, batches_in, call_at, call_of_mark, no_batch}
use Rattle.sv_model.specs.Lawful.{IsFenceOrNone, IsLawful, IsLawfulCall, script_of}
use Rattle.sv_model.specs.Standing.{Reaches}
use Rattle.sv_model.specs.Standing.Reaches.{here, on}
use Rattle.sv_model.specs.declared.line.Batch.{Batch}
use Rattle.sv_model.specs.declared.line.Line.{Line}
use Rattle.sv_model.specs.declared.line.Line.TheVariants as line
use Rattle.sv_model.specs.declared.line.Mark.{Mark}
use Rattle.sv_model.specs.declared.line.Mark.TheVariants as mark
use Rattle.sv_model.specs.declared.line.Trace.{Trace}
use Rattle.sv_model.specs.declared.work.Item.{Item}
use Rattle.sv_model.specs.declared.work.Item.TheVariants as item
use Rattle.sv_model.proofs.NoteGrowth.{from_end}
use Rattle.sv_model.proofs.Settling.{some_is}
use Rattle.sv_model.proofs.Stable.{flow_grows}
use Rattle.sv_history_laws.specs.Queued.{IsCame, IsHeldWell, IsQueued, TakenAreQueued}
use Rattle.sv_model.proofs.Stable.{same_slice}

-- Lists with one place changed.

set_at : {X : Type 0} (P : ℕ → List X → Type 0) (xs : List (List X)) (i : ℕ) (new : List X)
    → (i < length xs → P i new) → ((k : ℕ) → P k (get_or xs k [])) → (k : ℕ)
    → P k (get_or (set xs i new) k [])
set_at P [] i new at each k = each k
set_at P (x ∷ xs) zero new at each zero = at (omega arith)
set_at P (x ∷ xs) zero new at each (suc k) = each (suc k)
set_at P (x ∷ xs) (suc i) new at each zero = each zero
set_at P (x ∷ xs) (suc i) new at each (suc k) = set_at (λ (n : ℕ). P (suc n)) xs i new
    (λ lt. at (omega (arith, lt))) (λ n. each (suc n)) k

all_alike : {X : Type 0} (n k : ℕ) (P : List X → Type 0) → P [] → P (get_or (replicate n []) k [])
all_alike zero k P p = p
all_alike (suc n) zero P p = p
all_alike (suc n) (suc k) P p = all_alike n k P p

all_true : {X : Type 0} (p q : X → Bool) → ((x : X) → p x ≡ true → q x ≡ true) → (xs : List X)
    → list_all p xs ≡ true → list_all q xs ≡ true
all_true p q each [] all = refl
all_true p q each (x ∷ xs) all = let h = and_both (p x) (list_all p xs) all in
    and_true (q x) (list_all q xs) (each x h.0) (all_true p q each xs h.1)
  where
    and_both : (a b : Bool) → (a && b) ≡ true → (a ≡ true) × (b ≡ true)
    and_both true b e = (refl, e)
    and_both false b e = cc

    and_true : (a b : Bool) → a ≡ true → b ≡ true → (a && b) ≡ true
    and_true a b e f = cc

all_at : {X : Type 0} (p : X → Bool) (xs : List X) (k : ℕ) (d : X) → p d ≡ true → list_all p xs ≡ true
    → p (get_or xs k d) ≡ true
all_at p [] k d e all = e
all_at p (x ∷ xs) zero d e all = (and_both (p x) (list_all p xs) all).0
  where
    and_both : (a b : Bool) → (a && b) ≡ true → (a ≡ true) × (b ≡ true)
    and_both true b f = (refl, f)
    and_both false b f = cc
all_at p (x ∷ xs) (suc k) d e all = all_at p xs k d e (and_both (p x) (list_all p xs) all).1
  where
    and_both : (a b : Bool) → (a && b) ≡ true → (a ≡ true) × (b ≡ true)
    and_both true b f = (refl, f)
    and_both false b f = cc

-- One event more.

came_more : (es : List Mark) (m : Mark) (lane : ℕ) (x : Came) → IsCame es lane x
    → IsCame (es ++ m ∷ []) lane x
came_more es m lane x is = same_slice es (m ∷ []) x.event
    (slice_get_within es x.event (mark.Call lane x.index) is) ∙ is

published_more : (es : List Mark) (m : Mark) (k : ℕ) → is_published es k ≡ true
    → is_published (es ++ m ∷ []) k ≡ true
published_more es m k e = list_any-append (publishes k) es (m ∷ [])
    ∙ ap (λ (b : Bool). b || list_any (publishes k) (m ∷ [])) e

queued_more : (t : Trace) (es : List Mark) (m : Mark) (i : Item) → IsQueued t es i
    → IsQueued t (es ++ m ∷ []) i
queued_more t es m (item.Batch queue event batch) is =
    let long = length-append es (m ∷ []) in
    let came = is.came in
    let same : batch_at t (es ++ m ∷ []) event batch ≡ batch_at t es event batch =
    ap (λ (o : Option Mark). slice_index_or (batches_in (call_of_mark t o)) batch no_batch)
    (same_slice es (m ∷ []) event is.came) in record {
      came = omega (arith, long, came);
      published = subst (λ (b : Batch). list_all (is_published (es ++ m ∷ [])) b.recs ≡ true) (sym same)
          (all_true (is_published es) (is_published (es ++ m ∷ [])) (published_more es m)
          (batch_at t es event batch).recs is.published);
    }
queued_more t es m (item.Fence queue event fence) is = is
queued_more t es m (item.Call lane index) is = is

held_start : (t : Trace) → IsHeldWell t start.holding
held_start t = record {
  lanes = λ lane. all_alike 16 lane (All (IsCame [] lane)) (All-nil (IsCame [] lane));
  queues = λ queue. all_alike 16 queue (All (IsQueued t [])) (All-nil (IsQueued t []));
}

lanes_arrived : (t : Trace) (h : Holding) (m : Mark) → IsHeldWell t h → (lane : ℕ)
    → All (IsCame (h.events ++ m ∷ []) lane) (get_or (lanes_after h.lanes (length h.events) m) lane [])
lanes_arrived t h (mark.Publish k) is lane = All-weaker (IsCame h.events lane)
    (IsCame (h.events ++ mark.Publish k ∷ []) lane) (came_more h.events (mark.Publish k) lane)
    (get_or h.lanes lane []) (is.lanes lane)
lanes_arrived t h (mark.Call l index) is lane =
    let m : Mark = mark.Call l index in
    let old = λ (n : ℕ). All-weaker (IsCame h.events n) (IsCame (h.events ++ m ∷ []) n)
    (came_more h.events m n) (get_or h.lanes n []) (is.lanes n) in
    let long = length-append h.events (m ∷ []) in
    let new : slice_get (h.events ++ m ∷ []) (length h.events) ≡ Some m =
    slice_get-get_or (h.events ++ m ∷ []) (length h.events) m (omega (arith, long))
    ∙ ap Some (get_or-append_seam h.events m [] m) in
    set_at (λ (n : ℕ) (xs : List Came). All (IsCame (h.events ++ m ∷ []) n) xs) h.lanes l
    (get_or h.lanes l [] ++ record { index = index; event = length h.events } ∷ [])
    (λ lt. All-append (IsCame (h.events ++ m ∷ []) l) (get_or h.lanes l [])
    (record { index = index; event = length h.events } ∷ []) (old l)
    (All-cons (IsCame (h.events ++ m ∷ []) l) (record { index = index; event = length h.events }) [] new
    (All-nil (IsCame (h.events ++ m ∷ []) l))))
    old lane

held_arrived : (t : Trace) (s : Flow) (m : Mark) → IsHeldWell t s.holding → IsHeldWell t (arrived s m).holding
held_arrived t s m is = record {
  lanes = lanes_arrived t s.holding m is;
  queues = λ queue. All-weaker (IsQueued t s.holding.events) (IsQueued t (s.holding.events ++ m ∷ []))
      (queued_more t s.holding.events m) (get_or s.holding.queues queue []) (is.queues queue);
}

-- One item more.

batches_queued : (t : Trace) (es : List Mark) (queue event : ℕ) (all : List Batch) → event < length es
    → batches_in (call_at t es event) ≡ all → are_published es all ≡ true → (n : ℕ) (rest : List Batch)
    → All (IsQueued t es) (batches_from queue event n rest)
batches_queued t es queue event all came is published n [] = All-nil (IsQueued t es)
batches_queued t es queue event all came is published n (b ∷ rest) =
    All-cons (IsQueued t es) (item.Batch queue event n) (batches_from queue event (n + 1) rest)
    (record {
      came = came;
      published = subst (λ (bs : List Batch). list_all (is_published es) (slice_index_or bs n no_batch).recs
          ≡ true) (sym is) (all_at (λ (x : Batch). list_all (is_published es) x.recs) all n no_batch refl
          published);
    })
    (batches_queued t es queue event all came is published (n + 1) rest)

fence_queued : (t : Trace) (es : List Mark) (queue event : ℕ) (fence : Option ℕ) → IsFenceOrNone t fence
    → All (IsQueued t es) (fence_items queue event fence)
fence_queued t es queue event None is = All-nil (IsQueued t es)
fence_queued t es queue event (Some f) is = All-cons (IsQueued t es) (item.Fence queue event f) [] is
    (All-nil (IsQueued t es))

abbrev OfLane : Trace → ℕ → Option Line → Type 0
OfLane t lane None = Unit {0}
OfLane t lane (Some call) = IsLawfulCall t lane call

of_lane : (t : Trace) (lane index : ℕ) → IsLawful t → (o : Option Line) → call_of t lane index ≡ o
    → OfLane t lane o
of_lane t lane index lawful None e = tt
of_lane t lane index lawful (Some call) e =
    let within = slice_get_within (script_of t lane) index call e in
    let at : get_or (script_of t lane) index call ≡ call =
    some_is (sym (slice_get-get_or (script_of t lane) index call within) ∙ e) in
    subst (IsLawfulCall t lane) at (lawful.lanes lane index call within)

-- what a call sends
queues_sent : (t : Trace) (h : Holding) (p : Past) (lane : ℕ) (x : Came) (call : Option Line)
    → call_at t h.events x.event ≡ call → x.event < length h.events → OfLane t lane call
    → call_ready p h.events h.queues call ≡ true →
    ((queue : ℕ) → All (IsQueued t h.events) (get_or h.queues queue []))
    → (queue : ℕ) → All (IsQueued t h.events) (get_or (queues_after h.queues x.event call) queue [])
queues_sent t h p lane x (Some (line.Submit l q batches fence)) at came lawful ready old =
    set_at (λ (n : ℕ) (xs : List Item). All (IsQueued t h.events) xs) h.queues q
    (get_or h.queues q [] ++ sent x.event (Some (line.Submit l q batches fence)))
    (λ lt. All-append (IsQueued t h.events) (get_or h.queues q [])
    (sent x.event (Some (line.Submit l q batches fence))) (old q)
    (All-append (IsQueued t h.events) (batches_from q x.event 0 batches) (fence_items q x.event fence)
    (batches_queued t h.events q x.event batches came (ap batches_in at) ready 0 batches)
    (fence_queued t h.events q x.event fence lawful.1.signals)))
    old
queues_sent t h p lane x other at came lawful ready old = old

record IsTakenWell (t : Trace) (h : Holding) (i : Item) (after : Holding) : Type 0 where
  held : IsHeldWell t after
  queued : IsQueued t h.events i

held_lane : (t : Trace) (h : Holding) (p : Past) (lane : ℕ) (calls : List Came) → IsLawful t
    → IsHeldWell t h → get_or h.lanes lane [] ≡ calls
    → starts (call_ready p h.events h.queues) (map (λ (x : Came). call_of t lane x.index) calls) ≡ true
    → (i : Item) (after : Holding) → from_lane t h lane calls ≡ Some (i, after) → IsTakenWell t h i after
held_lane t h p lane [] lawful is at ready i after e = cc
held_lane t h p lane (x ∷ rest) lawful is at ready i after e =
    let all : All (IsCame h.events lane) (x ∷ rest) = subst (All (IsCame h.events lane)) at (is.lanes lane) in
    let came : slice_get h.events x.event ≡ Some (mark.Call lane x.index) =
    All-head (IsCame h.events lane) x rest all in
    let next_holding : Holding = record {
      events = h.events;
      lanes = slice_set h.lanes lane rest;
      queues = queues_after h.queues x.event (call_of t lane x.index);
    } in
    let well : IsHeldWell t next_holding = record {
      lanes = set_at (λ (n : ℕ) (xs : List Came). All (IsCame h.events n) xs) h.lanes lane rest
          (λ lt. All-tail (IsCame h.events lane) x rest all) is.lanes;
      queues = queues_sent t h p lane x (call_of t lane x.index) (ap (call_of_mark t) came)
          (slice_get_within h.events x.event (mark.Call lane x.index) came)
          (of_lane t lane x.index lawful (call_of t lane x.index) refl) ready is.queues;
    } in
    let same = some_is e in record {
      held = subst (IsHeldWell t) (ap (λ (y : Item × Holding). y.1) same) well;
      queued = subst (IsQueued t h.events) (ap (λ (y : Item × Holding). y.0) same) tt;
    }

held_queue : (t : Trace) (h : Holding) (queue : ℕ) (items : List Item) → IsHeldWell t h
    → get_or h.queues queue [] ≡ items → (i : Item) (after : Holding) → from_queue h queue items
    ≡ Some (i, after) → IsTakenWell t h i after
held_queue t h queue [] is at i after e = cc
held_queue t h queue (x ∷ rest) is at i after e =
    let all : All (IsQueued t h.events) (x ∷ rest) = subst (All (IsQueued t h.events)) at (is.queues queue) in
    let next_holding : Holding = record {
      events = h.events;
      lanes = h.lanes;
      queues = slice_set h.queues queue rest;
    } in
    let well : IsHeldWell t next_holding = record {
      lanes = is.lanes;
      queues = set_at (λ (n : ℕ) (xs : List Item). All (IsQueued t h.events) xs) h.queues queue rest
          (λ lt. All-tail (IsQueued t h.events) x rest all) is.queues;
    } in
    let same = some_is e in record {
      held = subst (IsHeldWell t) (ap (λ (y : Item × Holding). y.1) same) well;
      queued = subst (IsQueued t h.events) (ap (λ (y : Item × Holding). y.0) same)
          (All-head (IsQueued t h.events) x rest all);
    }

held_take_queue : (t : Trace) (h : Holding) (p : Option ℕ) → IsHeldWell t h → (i : Item) (after : Holding)
    → take_queue h p ≡ Some (i, after) → IsTakenWell t h i after
held_take_queue t h None is i after e = cc
held_take_queue t h (Some queue) is i after e = held_queue t h queue
    (slice_index_or h.queues queue []) is refl i after e

-- the first call of a lane
first_at : (t : Trace) (from lane : ℕ) (lanes : List (List Came))
    → get_or (first_calls t from lanes) lane [] ≡ map (λ (x : Came). call_of t (from + lane) x.index)
    (get_or lanes lane [])
first_at t from lane [] = refl
first_at t from zero (calls ∷ lanes) = let z : from ≡ from + 0 = omega arith in
    ap (λ (n : ℕ). map (λ (x : Came). call_of t n x.index) calls) z
first_at t from (suc lane) (calls ∷ lanes) = let z : from + 1 + lane ≡ from + suc lane = omega arith in
    first_at t (from + 1) lane lanes ∙ ap (λ (n : ℕ). map (λ (x : Came). call_of t n x.index)
    (get_or lanes lane [])) z

held_take_lane : (t : Trace) (p : Past) (h : Holding) (n : Option ℕ) → IsLawful t → IsHeldWell t h
    → position (starts (call_ready p h.events h.queues)) (first_calls t 0 h.lanes) ≡ n
    → (i : Item) (after : Holding) → take_lane t p h n ≡ Some (i, after) → IsTakenWell t h i after
held_take_lane t p h None lawful is at i after e =
    held_take_queue t h (position (starts (item_ready t p h.events)) h.queues) is i after e
held_take_lane t p h (Some lane) lawful is at i after e =
    let ready = (position-Some (starts (call_ready p h.events h.queues)) (first_calls t 0 h.lanes) lane
    [] at).1 in
    let z : 0 + lane ≡ lane = omega arith in
    let same : get_or (first_calls t 0 h.lanes) lane []
    ≡ map (λ (x : Came). call_of t lane x.index) (get_or h.lanes lane []) = first_at t 0 lane h.lanes
    ∙ ap (λ (n : ℕ). map (λ (x : Came). call_of t n x.index) (get_or h.lanes lane [])) z in
    held_lane t h p lane (slice_index_or h.lanes lane []) lawful is refl
    (subst (λ (xs : List (Option Line)). starts (call_ready p h.events h.queues) xs ≡ true) same ready) i
    after e

held_next : (t : Trace) (p : Past) (h : Holding) → IsLawful t → IsHeldWell t h
    → (i : Item) (after : Holding) → next t p h ≡ Some (i, after) → IsTakenWell t h i after
held_next t p h lawful is i after e = held_take_lane t p h
    (position (starts (call_ready p h.events h.queues)) (first_calls t 0 h.lanes)) lawful is refl i after e

held_took : (t : Trace) (s after : Flow) → IsLawful t → IsHeldWell t s.holding
    → (n : Option (Item × Holding)) → next t (past t s.holding.events (items_of s.done)) s.holding ≡ n
    → took s n ≡ Some after → IsHeldWell t after.holding
held_took t s after lawful is None e w = cc
held_took t s after lawful is (Some x) e w = subst (λ (k : Flow). IsHeldWell t k.holding) (some_is w)
    (held_next t (past t s.holding.events (items_of s.done)) s.holding lawful is x.0 x.1 e).held

held_step : (t : Trace) (s after : Flow) → IsLawful t → IsHeldWell t s.holding → step t s ≡ Some after
    → IsHeldWell t after.holding
unfolding step
held_step t s after lawful is e = held_took t s after lawful is
    (next t (past t s.holding.events (items_of s.done)) s.holding) refl e

held_reaches : (t : Trace) {s last : Flow} → IsLawful t → Reaches t s last → IsHeldWell t s.holding
    → IsHeldWell t last.holding
held_reaches t lawful (here {s}) is = is
held_reaches t lawful (on {s} {next} {last} first rest) is =
    held_reaches t lawful rest (held_step t s next lawful is first)

held_settle : (n : ℕ) (t : Trace) (s : Flow) → IsLawful t → IsHeldWell t s.holding
    → IsHeldWell t (settle n t s).holding
held_settle zero t s lawful is = is
held_settle (suc n) t s lawful is = by_step (step t s) refl (λ k. held_settle n t k lawful)
  where
    by_step : (r : Option Flow) → step t s ≡ r → ((k : Flow) → IsHeldWell t k.holding
        → IsHeldWell t (settle n t k).holding) → IsHeldWell t (option_map_or (settle n t) r s).holding
    by_step None e rest = is
    by_step (Some k) e rest = rest k (held_step t s k lawful is e)

held_settled : (t : Trace) (s : Flow) → IsLawful t → IsHeldWell t s.holding
    → IsHeldWell t (settled t s).holding
unfolding settled
held_settled t s lawful is = held_settle (held_count t s.holding) t s lawful is

held_empty : (t : Trace) → IsHeldWell t (flow t []).holding
unfolding flow
held_empty t = held_start t

pub held_flow : (t : Trace) → IsLawful t → (history : List Mark) → IsHeldWell t (flow t history).holding
held_flow t lawful = from_end (λ (h : List Mark). IsHeldWell t (flow t h).holding) (held_empty t) (λ h m is.
    subst (λ (s : Flow). IsHeldWell t s.holding) (sym (flow_grows t h m))
    (held_settled t (arrived (flow t h) m) lawful (held_arrived t (flow t h) m is)))

pub taken_are_queued : TakenAreQueued
taken_are_queued t history m now more x after lawful way e =
    (held_next t (past t now.holding.events (items_of now.done)) now.holding lawful
    (held_reaches t lawful way.way (held_arrived t (flow t history) m (held_flow t lawful history))) x
    after e).queued
