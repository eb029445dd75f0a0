-- The signals and waits that are kept of a binary semaphore are those of the batches.
use Rattle.std.proofs.Common.{ℕ, ◌+◌, ◌≡◌, ◌∙◌, ◌==◌, ◌&&◌, List, [], ◌∷◌, ◌++◌, Bool, true, false, Option}
use Rattle.std.proofs.Common.{Some, None, length, cond, refl, sym, ap, arith, length-append}
use Rattle.std.specs.Prelude.{All, filter, count_by, is_none}
use Rattle.std.specs.List.{fold, flat_map, cons_option}
use Rattle.std.proofs.lemmas.List.Elements.{filter-append, All-head, All-tail}
use Rattle.std.proofs.lemmas.List.Sums.{sum_by-append, sum_by-cons}
use Rattle.sv_model.specs.declared.line.Trace.{Trace}
use Rattle.sv_model.specs.declared.line.Mark.{Mark}
use Rattle.sv_model.specs.declared.line.Batch.{Batch}
use Rattle.sv_model.specs.declared.line.Line.{Line}
use Rattle.sv_model.specs.declared.line.Line.TheVariants as line
use Rattle.sv_model.specs.declared.line.SemaphoreUse.{SemaphoreUse}
use Rattle.sv_model.specs.declared.work.Item.{Item}
use Rattle.sv_model.specs.declared.work.Item.TheVariants as item
use Rattle.sv_model.specs.declared.work.Taken.{Taken}
use Rattle.sv_model.specs.Declarations.{call_of}
use Rattle.sv_model.specs.History.{batch_at}
use Rattle.sv_model.specs.Primitives.{Made, Signal, nothing_made}
use Rattle.sv_model.specs.Semaphores.{raises, signaled, waited, is_binary_use, waits_made}
use Rattle.sv_model.specs.Holding.{batch_of, batches_done, items_of}
use Rattle.sv_model.specs.Batches.{batch_made, recs_made}
use Rattle.sv_model.specs.Places.{Run}
use Rattle.sv_model.specs.HostWaits.{call_made}
use Rattle.sv_model.specs.Work.{made, item_made, run_of}
use Rattle.sv_gate.specs.Accounts.{HasNoValues, IsBinaryIn, Balance}
use Rattle.sv_gate.proofs.Folds.{recs_signals, batch_waits}

abbrev pub own : ℕ → Signal → Bool
own sem x = x.sem == sem

abbrev pub kept : ℕ → List Signal → ℕ
kept sem signals = length (filter (own sem) signals)

abbrev pub used : ℕ → List SemaphoreUse → ℕ
used sem uses = count_by (is_binary_use sem) uses

abbrev as_signal : Made → SemaphoreUse → Signal
as_signal m u = record { sem = u.sem; value = u.value; token = m.tokens }

abbrev with_signal : Made → SemaphoreUse → Made
with_signal m u = record m { signals = m.signals ++ as_signal m u ∷ []; tokens = m.tokens + 1 }

one_kept : (b : Bool) (x : Signal) → length (cond b (x ∷ []) []) ≡ cond b 1 0
one_kept true x = refl
one_kept false x = refl

kept_more : (sem : ℕ) (signals : List Signal) (x : Signal) → kept sem (signals ++ x ∷ []) ≡ kept sem signals
    + cond (x.sem == sem) 1 0
kept_more sem signals x =
    ap length (filter-append (own sem) signals (x ∷ []))
    ∙ length-append (filter (own sem) signals) (filter (own sem) (x ∷ []))
    ∙ ap (λ (n : ℕ). kept sem signals + n) (one_kept (x.sem == sem) x)

-- a use that is the semaphore's has effect, and another is none of its signals
signal_cases : (sem : ℕ) (m : Made) (u : SemaphoreUse) (b : Bool) → ((u.sem == sem) ≡ true → b ≡ true)
    → kept sem (cond b (with_signal m u) m).signals ≡ kept sem m.signals + cond (u.sem == sem) 1 0
signal_cases sem m u true has = kept_more sem m.signals (as_signal m u)
signal_cases sem m u false has = elsewhere (u.sem == sem) has
  where
    elsewhere : (o : Bool) → (o ≡ true → false ≡ true) → kept sem m.signals ≡ kept sem m.signals + cond o 1 0
    elsewhere true h = absurd (let e : false ≡ true = h refl in cc)
    elsewhere false h = omega arith

has_effect : (t : Trace) (sem : ℕ) (m : Made) (u : SemaphoreUse) (value : Option ℕ) → u.value ≡ value
    → (u.sem == sem) ≡ ((u.sem == sem) && is_none value) → (u.sem == sem) ≡ true → raises t m u ≡ true
has_effect t sem m u None e same o = ap (λ (v : Option ℕ). raises t m
    (record { sem = u.sem; value = v; stages = u.stages })) e
has_effect t sem m u (Some w) e same o = absurd (let no : false ≡ true = never (u.sem == sem) same o in cc)
  where
    never : (b : Bool) → b ≡ (b && false) → b ≡ true → false ≡ true
    never true s p = sym s
    never false s p = p

kept_signal : (t : Trace) (sem : ℕ) (m : Made) (u : SemaphoreUse) → (u.sem == sem) ≡ is_binary_use sem u
    → kept sem (signaled t m u).signals ≡ kept sem m.signals + cond (is_binary_use sem u) 1 0
kept_signal t sem m u same =
    signal_cases sem m u (raises t m u) (has_effect t sem m u u.value refl same)
    ∙ ap (λ (b : Bool). kept sem m.signals + cond b 1 0) same

pub kept_signals : (t : Trace) (sem : ℕ) (m : Made) (us : List SemaphoreUse) → HasNoValues sem us
    → kept sem (fold (signaled t) m us).signals ≡ kept sem m.signals + used sem us
kept_signals t sem m [] all = omega arith
kept_signals t sem m (u ∷ us) all =
    let first = kept_signal t sem m u (All-head (λ (x : SemaphoreUse). (x.sem == sem) ≡ is_binary_use sem x)
    u us all) in
    let rest = kept_signals t sem (signaled t m u) us
    (All-tail (λ (x : SemaphoreUse). (x.sem == sem) ≡ is_binary_use sem x) u us all) in
    let count = sum_by-cons (λ (x : SemaphoreUse). cond (is_binary_use sem x) 1 0) u us in
    omega arith

-- waits

abbrev pub waits_of : ℕ → List ℕ → ℕ
waits_of sem waits = count_by (λ (w : ℕ). w == sem) waits

pub kept_waits : (sem : ℕ) (m : Made) (us : List SemaphoreUse) → HasNoValues sem us
    → waits_of sem (fold waited m us).waits ≡ waits_of sem m.waits + used sem us
kept_waits sem m [] all = omega arith
kept_waits sem m (u ∷ us) all =
    let same : (u.sem == sem) ≡ is_binary_use sem u =
    All-head (λ (x : SemaphoreUse). (x.sem == sem) ≡ is_binary_use sem x) u us all in
    let first = sum_by-append (λ (w : ℕ). cond (w == sem) 1 0) m.waits (u.sem ∷ []) in
    let one : waits_of sem (u.sem ∷ []) ≡ 0 + cond (u.sem == sem) 1 0 = refl in
    let count = sum_by-cons (λ (x : SemaphoreUse). cond (is_binary_use sem x) 1 0) u us in
    let counted : cond {A = ℕ} (u.sem == sem) 1 0 ≡ cond {A = ℕ} (is_binary_use sem u) 1 0 =
    ap (λ (b : Bool). cond {A = ℕ} b 1 0) same in
    let rest = kept_waits sem (waited m u) us (All-tail
    (λ (x : SemaphoreUse). (x.sem == sem) ≡ is_binary_use sem x) u us all) in
    omega arith

-- items

used_joined : (sem : ℕ) (xs ys : List SemaphoreUse) → used sem (xs ++ ys) ≡ used sem xs + used sem ys
used_joined sem xs ys = sum_by-append (λ (u : SemaphoreUse). cond (is_binary_use sem u) 1 0) xs ys

abbrev signals_in : List Batch → List SemaphoreUse
signals_in batches = flat_map (λ (b : Batch). b.signals) batches

abbrev waits_in : List Batch → List SemaphoreUse
waits_in batches = flat_map (λ (b : Batch). b.waits) batches

call_signals : (m : Made) (call : Option Line) → (call_made m call).signals ≡ m.signals
call_signals m (Some (line.ResetFence lane fence)) = refl
call_signals m other = refl

call_waits : (m : Made) (call : Option Line) → (call_made m call).waits ≡ m.waits
call_waits m (Some (line.ResetFence lane fence)) = refl
call_waits m other = refl

signals_item : (t : Trace) (history : List Mark) (sem : ℕ) (m : Made) (event : ℕ) (i : Item)
    (later : List Batch) → All (IsBinaryIn sem) (cons_option (batch_of t history i) later)
    → kept sem (item_made t history m event i).signals + used sem (signals_in later) ≡ kept sem m.signals
    + used sem (signals_in (cons_option (batch_of t history i) later))
signals_item t history sem m event (item.Call lane index) later all =
    ap (λ (xs : List Signal). kept sem xs + used sem (signals_in later))
    (call_signals m (call_of t lane index))
signals_item t history sem m event (item.Fence queue e fence) later all = refl
signals_item t history sem m event (item.Batch queue e batch) later all =
    let b : Batch = batch_at t history e batch in
    let r : Run = run_of event queue e batch in
    let here = kept_signals t sem (recs_made t r m b) b.signals
    (All-head (IsBinaryIn sem) b later all).signals in
    let before : kept sem (recs_made t r m b).signals ≡ kept sem m.signals =
    ap (kept sem) (recs_signals t r m b) in
    let join = used_joined sem b.signals (signals_in later) in
    omega arith

waits_item : (t : Trace) (history : List Mark) (sem : ℕ) (m : Made) (event : ℕ) (i : Item)
    (later : List Batch) → All (IsBinaryIn sem) (cons_option (batch_of t history i) later)
    → waits_of sem (item_made t history m event i).waits + used sem (waits_in later) ≡ waits_of sem m.waits
    + used sem (waits_in (cons_option (batch_of t history i) later))
waits_item t history sem m event (item.Call lane index) later all =
    ap (λ (xs : List ℕ). waits_of sem xs + used sem (waits_in later)) (call_waits m (call_of t lane index))
waits_item t history sem m event (item.Fence queue e fence) later all = refl
waits_item t history sem m event (item.Batch queue e batch) later all =
    let b : Batch = batch_at t history e batch in
    let r : Run = run_of event queue e batch in
    let here = kept_waits sem m b.waits (All-head (IsBinaryIn sem) b later all).waits in
    let after : waits_of sem (batch_made t r m b).waits ≡ waits_of sem (waits_made m b).waits =
    ap (waits_of sem) (batch_waits t r m b) in
    let join = used_joined sem b.waits (waits_in later) in
    omega arith

rest_all : (sem : ℕ) (o : Option Batch) (later : List Batch) → All (IsBinaryIn sem) (cons_option o later)
    → All (IsBinaryIn sem) later
rest_all sem None later all = all
rest_all sem (Some b) later all = All-tail (IsBinaryIn sem) b later all

signals_items : (t : Trace) (history : List Mark) (sem : ℕ) (m : Made) (items : List Taken)
    → All (IsBinaryIn sem) (batches_done t history (items_of items))
    → kept sem (fold (made t history) m items).signals ≡ kept sem m.signals
    + used sem (signals_in (batches_done t history (items_of items)))
signals_items t history sem m [] all = omega arith
signals_items t history sem m (x ∷ rest) all =
    signals_items t history sem (made t history m x) rest
    (rest_all sem (batch_of t history x.item) (batches_done t history (items_of rest)) all)
    ∙ signals_item t history sem m x.event x.item (batches_done t history (items_of rest)) all

waits_items : (t : Trace) (history : List Mark) (sem : ℕ) (m : Made) (items : List Taken)
    → All (IsBinaryIn sem) (batches_done t history (items_of items))
    → waits_of sem (fold (made t history) m items).waits ≡ waits_of sem m.waits
    + used sem (waits_in (batches_done t history (items_of items)))
waits_items t history sem m [] all = omega arith
waits_items t history sem m (x ∷ rest) all =
    waits_items t history sem (made t history m x) rest
    (rest_all sem (batch_of t history x.item) (batches_done t history (items_of rest)) all)
    ∙ waits_item t history sem m x.event x.item (batches_done t history (items_of rest)) all

pub balanced : (t : Trace) (history : List Mark) (items : List Taken) (sem : ℕ)
    → All (IsBinaryIn sem) (batches_done t history (items_of items)) → Balance t history items sem
balanced t history items sem all =
    let signals = signals_items t history sem nothing_made items all in
    let waits = waits_items t history sem nothing_made items all in
    record { signals = omega (arith, signals); waits = omega (arith, waits) }
