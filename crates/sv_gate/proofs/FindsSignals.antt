-- In a batch that may run each binary wait finds a signal, and each binary signal finds the semaphore free.
use Rattle.std.proofs.Common.{ℕ, zero, suc, ◌+◌, ◌-◌, ◌≡◌, ◌<◌, ◌≤◌, ◌∙◌, ◌==◌, ◌&&◌, List, [], ◌∷◌, Bool}
use Rattle.std.proofs.Common.{true, Option, Some, None, length, get_or, take, cond, refl, sym, ap, subst}
use Rattle.std.proofs.Common.{arith}
use Rattle.std.specs.Prelude.{filter, is_none, is_some, nat_le, slice_get, position}
use Rattle.std.specs.List.{fold, list_all}
use Rattle.std.proofs.lemmas.Bool.{and_parts, leb-true, eq-eqb}
use Rattle.std.proofs.lemmas.Option.{slice_get_past, same_Some}
use Rattle.std.proofs.lemmas.List.Elements.{All-get_or, All-take}
use Rattle.std.proofs.lemmas.List.Quantifiers.{position-Some}
use Rattle.std.proofs.lemmas.List.Sums.{AllPass-from_list_all, count_by_more_yes, sum_by-take-le}
use Rattle.sv_model.specs.declared.line.Trace.{Trace}
use Rattle.sv_model.specs.declared.line.Batch.{Batch}
use Rattle.sv_model.specs.declared.line.SemKind.TheVariants.{Binary, Timeline}
use Rattle.sv_model.specs.declared.line.SemaphoreUse.{SemaphoreUse}
use Rattle.sv_model.specs.declared.work.Item.{Item}
use Rattle.sv_model.specs.declared.work.Item.TheVariants as item
use Rattle.sv_model.specs.declared.work.Taken.{Taken}
use Rattle.sv_model.specs.Batches.{recs_made}
use Rattle.sv_model.specs.Semaphores.{waits_made, batch_ready, is_balanced, is_binary_use, use_fits}
use Rattle.sv_model.specs.Semaphores.{wait_served, binary_pair, signaled, waited}
use Rattle.sv_model.specs.Places.{Run}
use Rattle.sv_model.specs.Declarations.{semaphore_kind}
use Rattle.sv_model.specs.Primitives.{Past, Made}
use Rattle.sv_model.specs.Holding.{call_ready, item_ready, past, Came, Holding, first_calls, from_lane}
use Rattle.sv_model.specs.Holding.{from_queue, items_of, next, starts, take_lane, take_queue}
use Rattle.sv_model.specs.History.{batch_at}
use Rattle.sv_model.specs.Lawful.{IsLawful}
use Rattle.sv_model.specs.Laws.{left_by_items}
use Rattle.sv_sema.specs.Stands.{IsUseOf}
use Rattle.sv_gate.specs.Kept.{IsBatchOf, Agrees, past_of, standing_of}
use Rattle.sv_gate.proofs.Binaries.{kept, kept_signals, kept_waits, own, used, waits_of}
use Rattle.sv_gate.proofs.Folds.{fold_keeps, recs_signals, recs_waits, signal_waits}
use Rattle.sv_gate.proofs.Lawfulness.{agree, no_values}

-- Balance.

some_below : {X : Type 0} (xs : List X) (k : ℕ) → k < length xs → is_some (slice_get xs k) ≡ true
some_below [] k l = absurd (omega arith)
some_below (x ∷ xs) zero l = refl
some_below (x ∷ xs) (suc k) l = some_below xs k (omega arith)

passes_at : {X : Type 0} (p : X → Bool) (xs : List X) (i : ℕ) (d : X) → i < length xs → list_all p xs ≡ true
    → p (get_or xs i d) ≡ true
passes_at p xs i d l all = All-get_or (λ x. p x ≡ true) xs i d l (AllPass-from_list_all p xs all)

has_no_value : (t : Trace) (sem : ℕ) (value : Option ℕ) → IsUseOf t sem value
    → semaphore_kind t sem ≡ Some Binary
    → value ≡ None
has_no_value t sem None fits binary = refl
has_no_value t sem (Some v) fits binary =
    let no : Some Timeline ≡ Some Binary = sym fits ∙ binary in
    absurd (let never : ⊥ = cc in never)

record IsBalanced (b w s : ℕ) : Type 0 where
  waits : w ≤ b
  left : (b - w) + s ≤ 1

balanced : (b w s : ℕ) → is_balanced b w s ≡ true → IsBalanced b w s
balanced b w s e =
    let parts = and_parts (nat_le w b) (nat_le ((b - w) + s) 1) e in
    record { waits = leb-true w b parts.0; left = leb-true ((b - w) + s) 1 parts.1 }

fits_balanced : (p : Past) (b : Batch) (u : SemaphoreUse) → u.value ≡ None → use_fits p b u ≡ true
    → IsBalanced (p.standing u.sem) (used u.sem b.waits) (used u.sem b.signals)
fits_balanced p b u none fits =
    balanced (p.standing u.sem) (used u.sem b.waits) (used u.sem b.signals)
    (sym (ap (λ (o : Option ℕ). cond (is_none o) (is_balanced (p.standing u.sem) (used u.sem b.waits)
    (used u.sem b.signals)) true) none) ∙ fits)

is_own : (u : SemaphoreUse) → u.value ≡ None → is_binary_use u.sem u ≡ true
is_own u none = ap (λ (o : Option ℕ). (u.sem == u.sem) && is_none o) none
    ∙ ap (λ (b : Bool). b && true) (eq-eqb u.sem u.sem refl)

-- the uses before the i-th, and it, are among all
used_before : (uses : List SemaphoreUse) (i : ℕ) (d : SemaphoreUse) → i < length uses
    → (get_or uses i d).value ≡ None → used (get_or uses i d).sem (take i uses) + 1
    ≤ used (get_or uses i d).sem uses
used_before uses i d l none =
    let sem : ℕ = (get_or uses i d).sem in
    let more = count_by_more_yes (is_binary_use sem) uses i d l (is_own (get_or uses i d) none) in
    let within = sum_by-take-le (λ (u : SemaphoreUse). cond {A = ℕ} (is_binary_use sem u) 1 0) uses (i + 1) in
    omega arith

-- Waits.

pub waits_find : (t : Trace) (m : Made) (b : Batch) (i : ℕ) (d : SemaphoreUse) → IsBatchOf t b
    → batch_ready (past_of t m) b ≡ true → i < length b.waits → semaphore_kind t (get_or b.waits i d).sem
    ≡ Some Binary
    → is_some (binary_pair (fold waited m (take i b.waits)) (get_or b.waits i d).sem) ≡ true
waits_find t m b i d fits ready l binary =
    let u : SemaphoreUse = get_or b.waits i d in
    let sem : ℕ = u.sem in
    let p : Past = past_of t m in
    let parts = and_parts (list_all (wait_served p) b.waits && list_all (use_fits p b) b.waits)
    (list_all (use_fits p b) b.signals) ready in
    let waits = and_parts (list_all (wait_served p) b.waits) (list_all (use_fits p b) b.waits) parts.0 in
    let none : u.value ≡ None = has_no_value t sem u.value
    (All-get_or (λ (x : SemaphoreUse). IsUseOf t x.sem x.value) b.waits i d l fits.waits) binary in
    let balance : IsBalanced (standing_of m sem) (used sem b.waits) (used sem b.signals) =
    fits_balanced p b u none (passes_at (use_fits p b) b.waits i d l waits.1) in
    let before = used_before b.waits i d l none in
    let counted = kept_waits sem m (take i b.waits)
    (All-take (λ (x : SemaphoreUse). (x.sem == sem) ≡ is_binary_use sem x) i b.waits
    (no_values t sem b.waits binary fits.waits)) in
    let same : (fold waited m (take i b.waits)).signals ≡ m.signals =
    fold_keeps waited (λ (k : Made). k.signals) (λ k w. refl) m (take i b.waits) in
    let long : kept sem (fold waited m (take i b.waits)).signals ≡ kept sem m.signals = ap (kept sem) same in
    let enough : used sem b.waits ≤ standing_of m sem = balance.waits in
    let stands : standing_of m sem ≡ kept sem m.signals - waits_of sem m.waits = refl in
    some_below (filter (own sem) (fold waited m (take i b.waits)).signals)
    (waits_of sem (fold waited m (take i b.waits)).waits) (omega arith)

-- Signals.

pub signals_find : (t : Trace) (r : Run) (m : Made) (b : Batch) (i : ℕ) (d : SemaphoreUse) → IsBatchOf t b
    → batch_ready (past_of t m) b ≡ true → i < length b.signals → semaphore_kind t (get_or b.signals i d).sem
    ≡ Some Binary
    → binary_pair (fold (signaled t) (recs_made t r m b) (take i b.signals)) (get_or b.signals i d).sem ≡ None
signals_find t r m b i d fits ready l binary =
    let u : SemaphoreUse = get_or b.signals i d in
    let sem : ℕ = u.sem in
    let k : Made = recs_made t r m b in
    let n : Made = fold (signaled t) k (take i b.signals) in
    let p : Past = past_of t m in
    let parts = and_parts (list_all (wait_served p) b.waits && list_all (use_fits p b) b.waits)
    (list_all (use_fits p b) b.signals) ready in
    let none : u.value ≡ None = has_no_value t sem u.value
    (All-get_or (λ (x : SemaphoreUse). IsUseOf t x.sem x.value) b.signals i d l fits.signals) binary in
    let balance : IsBalanced (standing_of m sem) (used sem b.waits) (used sem b.signals) =
    fits_balanced p b u none (passes_at (use_fits p b) b.signals i d l parts.1) in
    let before = used_before b.signals i d l none in
    let signals : kept sem n.signals ≡ kept sem k.signals + used sem (take i b.signals) =
    kept_signals t sem k (take i b.signals) (All-take
    (λ (x : SemaphoreUse). (x.sem == sem) ≡ is_binary_use sem x) i b.signals
    (no_values t sem b.signals binary fits.signals)) in
    let recorded : kept sem k.signals ≡ kept sem m.signals = ap (kept sem) (recs_signals t r m b) in
    let same : n.waits ≡ (waits_made m b).waits =
    fold_keeps (signaled t) (λ (x : Made). x.waits) (signal_waits t) k (take i b.signals)
    ∙ recs_waits t r m b in
    let waits : waits_of sem n.waits ≡ waits_of sem (waits_made m b).waits = ap (waits_of sem) same in
    let counted = kept_waits sem m b.waits (no_values t sem b.waits binary fits.waits) in
    let enough : used sem b.waits ≤ standing_of m sem = balance.waits in
    let left : (standing_of m sem - used sem b.waits) + used sem b.signals ≤ 1 = balance.left in
    let stands : standing_of m sem ≡ kept sem m.signals - waits_of sem m.waits = refl in
    slice_get_past (filter (own sem) n.signals) (waits_of sem n.waits) (omega arith)

-- Batches that are taken.

lane_gives : (t : Trace) (h : Holding) (lane : ℕ) (calls : List Came) (queue event batch : ℕ)
    (rest : Holding) → from_lane t h lane calls ≡ Some (item.Batch queue event batch, rest) → ⊥
lane_gives t h lane [] queue event batch rest e = cc
lane_gives t h lane (x ∷ calls) queue event batch rest e =
    let same : item.Call lane x.index ≡ item.Batch queue event batch =
    ap (λ (p : Item × Holding). p.0) (same_Some _ _ e) in
    cc

first_gives : (ready : Item → Bool) (h : Holding) (q : ℕ) (items : List Item) (x : Item) (rest : Holding)
    → starts ready items ≡ true → from_queue h q items ≡ Some (x, rest) → ready x ≡ true
first_gives ready h q [] x rest starts_so e = cc
first_gives ready h q (y ∷ items) x rest starts_so e =
    let same : y ≡ x = ap (λ (p : Item × Holding). p.0) (same_Some _ _ e) in
    subst (λ (i : Item). ready i ≡ true) same starts_so

queue_gives : (ready : Item → Bool) (h : Holding) (place : Option ℕ) (x : Item) (rest : Holding)
    → position (starts ready) h.queues ≡ place → take_queue h place ≡ Some (x, rest) → ready x ≡ true
queue_gives ready h None x rest at e = cc
queue_gives ready h (Some q) x rest at e = first_gives ready h q (get_or h.queues q []) x rest
    (position-Some (starts ready) h.queues q [] at).1 e

taken_ready : (t : Trace) (p : Past) (h : Holding) (place : Option ℕ) (queue event batch : ℕ)
    (rest : Holding) → take_lane t p h place ≡ Some (item.Batch queue event batch, rest)
    → batch_ready p (batch_at t h.events event batch) ≡ true
taken_ready t p h None queue event batch rest e =
    queue_gives (item_ready t p h.events) h (position (starts (item_ready t p h.events)) h.queues)
    (item.Batch queue event batch) rest refl e
taken_ready t p h (Some lane) queue event batch rest e =
    absurd (lane_gives t h lane (get_or h.lanes lane []) queue event batch rest e)

pub batches_taken : (t : Trace) (h : Holding) (items : List Taken) (queue event batch : ℕ) (rest : Holding)
    → IsLawful t → next t (past t h.events (items_of items)) h ≡ Some (item.Batch queue event batch, rest)
    → batch_ready (past_of t (left_by_items t h.events items)) (batch_at t h.events event batch) ≡ true
batches_taken t h items queue event batch rest lawful e =
    let p : Past = past t h.events (items_of items) in
    let agrees : Agrees t h.events (left_by_items t h.events items) p = agree t h.events items lawful in
    sym (agrees.ready event batch) ∙ taken_ready t p h
    (position (starts (call_ready p h.events h.queues)) (first_calls t 0 h.lanes)) queue event batch rest
    e
