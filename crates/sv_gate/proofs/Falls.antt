-- What can still be taken stays within the total, and falls.
use Rattle.std.proofs.Common.{ℕ, zero, suc, ◌+◌, ◌<◌, ◌≤◌, ◌≡◌, List, [], ◌∷◌, ◌++◌, length, get_or, set}
use Rattle.std.proofs.Common.{ap, subst, arith}
use Rattle.std.proofs.lemmas.List.Sums.{sum_by_push}
use Rattle.sv_model.specs.declared.line.Trace.{Trace}
use Rattle.sv_model.specs.declared.work.Item.{Item}
use Rattle.sv_model.specs.Declarations.{call_of}
use Rattle.sv_model.specs.Holding.{Came, Holding, cost, calls_held, items_held, held_count, sent}
use Rattle.sv_model.specs.Holding.{queues_after}
use Rattle.sv_model.proofs.Settling.{calls_rest, items_set, items_sent}

-- a list that is not empty stands below the end
pub below_end : {X : Type 0} (lists : List (List X)) (i : ℕ) (x : X) (rest : List X) → get_or lists i [] ≡ x
    ∷ rest → i < length lists
below_end [] i x rest e = absurd (let no : ⊥ = cc in no)
below_end (list ∷ lists) zero x rest e = omega arith
below_end (list ∷ lists) (suc i) x rest e = let l = below_end lists i x rest e in omega arith

-- one more call of a lane adds at most its cost
pub calls_added : (t : Trace) (from lane : ℕ) (lanes : List (List Came)) (x : Came)
    → calls_held t from (set lanes lane (get_or lanes lane [] ++ x ∷ [])) ≤ calls_held t from lanes
    + cost t (from + lane) x
calls_added t from lane [] x = omega arith
calls_added t from zero (calls ∷ lanes) x =
    let z : from + 0 ≡ from = omega arith in
    let b = sum_by_push (cost t from) calls x in
    rw z (omega arith)
calls_added t from (suc lane) (calls ∷ lanes) x =
    let a = calls_added t (from + 1) lane lanes x in
    let z : from + suc lane ≡ from + 1 + lane = omega arith in
    rw z (omega arith)

-- a call is taken
pub lane_falls : (t : Trace) (h : Holding) (lane : ℕ) (x : Came) (rest : List Came) → get_or h.lanes lane []
    ≡ x ∷ rest
    → held_count t (record {
      events = h.events;
      lanes = set h.lanes lane rest;
      queues = queues_after h.queues x.event (call_of t lane x.index);
    }) + 1 ≤ held_count t h
lane_falls t h lane x rest e =
    let a = calls_rest t 0 lane h.lanes x rest (below_end h.lanes lane x rest e) e in
    let z : 0 + lane ≡ lane = omega arith in
    let a' : calls_held t 0 (set h.lanes lane rest) + cost t lane x ≡ calls_held t 0 h.lanes =
    subst (λ (n : ℕ). calls_held t 0 (set h.lanes lane rest) + cost t n x ≡ calls_held t 0 h.lanes) z a in
    let b = items_sent h.queues x.event (call_of t lane x.index) in
    omega arith

-- what it sends finds room
pub lane_has_room : (t : Trace) (h : Holding) (lane : ℕ) (x : Came) (rest : List Came)
    → get_or h.lanes lane [] ≡ x ∷ rest → items_held h.queues
    + length (sent x.event (call_of t lane x.index)) ≤ held_count t h
lane_has_room t h lane x rest e =
    let a = calls_rest t 0 lane h.lanes x rest (below_end h.lanes lane x rest e) e in
    let z : 0 + lane ≡ lane = omega arith in
    let a' : calls_held t 0 (set h.lanes lane rest) + cost t lane x ≡ calls_held t 0 h.lanes =
    subst (λ (n : ℕ). calls_held t 0 (set h.lanes lane rest) + cost t n x ≡ calls_held t 0 h.lanes) z a in
    omega arith

-- an item is taken
pub queue_falls : (t : Trace) (h : Holding) (queue : ℕ) (x : Item) (rest : List Item)
    → get_or h.queues queue [] ≡ x ∷ rest → held_count t
    (record { events = h.events; lanes = h.lanes; queues = set h.queues queue rest }) + 1 ≤ held_count t h
queue_falls t h queue x rest e =
    let a = items_set h.queues queue rest (below_end h.queues queue x rest e) in
    let b : length (get_or h.queues queue []) ≡ length (x ∷ rest) = ap length e in
    omega arith
