-- A timeline serves a value exactly where its current value is not below it.
use Rattle.std.proofs.Common.{ℕ, ◌+◌, ◌≡◌, ◌≤◌, ◌∙◌, ◌==◌, ◌&&◌, ◌||◌, List, [], ◌∷◌, ◌++◌, Bool, true}
use Rattle.std.proofs.Common.{false, Option, Some, None, cond, refl, sym, ap, subst, arith, inl, inr, leb}
use Rattle.std.specs.Prelude.{max, nat_le, nat_lt, is_some, unwrap_or}
use Rattle.std.specs.Option.{option_map_or}
use Rattle.std.specs.List.{fold, find, list_any, flat_map, cons_option}
use Rattle.std.proofs.lemmas.Bool.{cases_lt, lt-ltb, le-ltb, le-leb, lt-leb}
use Rattle.std.proofs.lemmas.Bool.Decides.{eqb_tells}
use Rattle.std.proofs.lemmas.List.Sums.{fold-append}
use Rattle.sv_model.specs.declared.line.Trace.{Trace}
use Rattle.sv_model.specs.declared.line.Mark.{Mark}
use Rattle.sv_model.specs.declared.line.Batch.{Batch}
use Rattle.sv_model.specs.declared.line.Line.{Line}
use Rattle.sv_model.specs.declared.line.Line.TheVariants as line
use Rattle.sv_model.specs.declared.line.SemaphoreUse.{SemaphoreUse}
use Rattle.sv_model.specs.declared.work.Item.{Item}
use Rattle.sv_model.specs.declared.work.Item.TheVariants as item
use Rattle.sv_model.specs.declared.work.Taken.{Taken}
use Rattle.sv_model.specs.Declarations.{call_of, initial_value}
use Rattle.sv_model.specs.History.{batch_at}
use Rattle.sv_model.specs.Primitives.{Made, Signal, nothing_made}
use Rattle.sv_model.specs.Semaphores.{serves, current_value, raises, signaled, reaches, served}
use Rattle.sv_model.specs.Holding.{batch_of, batches_done, items_of}
use Rattle.sv_model.specs.Batches.{batch_made, recs_made}
use Rattle.sv_model.specs.Places.{Run}
use Rattle.sv_model.specs.HostWaits.{call_made}
use Rattle.sv_model.specs.Work.{made, item_made, run_of}
use Rattle.sv_model.specs.Laws.{left_by_items}
use Rattle.sv_gate.proofs.Folds.{recs_signals}

-- The current value as a fold over the signals.

abbrev higher : ℕ → ℕ → Signal → ℕ
higher sem n x = cond (x.sem == sem) (max n (unwrap_or x.value 0)) n

current_more : (t : Trace) (sem : ℕ) (signals : List Signal) (x : Signal)
    → fold (higher sem) (initial_value t sem) (signals ++ x ∷ [])
    ≡ higher sem (fold (higher sem) (initial_value t sem) signals) x
current_more t sem signals x = fold-append (higher sem) (initial_value t sem) signals (x ∷ [])

-- the value is reached by the greater of two where one reaches it
reach_max : (v c w : ℕ) → leb v (max c w) ≡ (leb v c || leb v w)
reach_max v c w =
    elim (cases_lt c v) [
      | inl l ↦ elim (cases_lt w v) [
        | inl k ↦ lt-leb v (max c w) (omega arith)
            ∙ sym (ap (λ (b : Bool). b || leb v w) (lt-leb v c l) ∙ lt-leb v w k)
        | inr k ↦ le-leb v (max c w) (omega arith)
            ∙ sym (ap (λ (b : Bool). b || leb v w) (lt-leb v c l) ∙ le-leb v w k)
      ]
      | inr m ↦ le-leb v (max c w) (omega arith) ∙ sym (ap (λ (b : Bool). b || leb v w) (le-leb v c m))
    ]

or_nothing : (a : Bool) → a ≡ (a || false)
or_nothing true = refl
or_nothing false = refl

or_joined : (a b c : Bool) → ((a || b) || c) ≡ (a || (b || c))
or_joined true b c = refl
or_joined false b c = refl

no_more : (c : ℕ) → max c 0 ≡ c
no_more c = omega arith

-- One more signal.

abbrev as_signal : Made → SemaphoreUse → Signal
as_signal m u = record { sem = u.sem; value = u.value; token = m.tokens }

abbrev with_signal : Made → SemaphoreUse → Made
with_signal m u = record m { signals = m.signals ++ as_signal m u ∷ []; tokens = m.tokens + 1 }

abbrev higher_use : ℕ → ℕ → SemaphoreUse → ℕ
higher_use sem n u = cond (u.sem == sem) (max n (unwrap_or u.value 0)) n

raised_current : (t : Trace) (m : Made) (sem : ℕ) (u : SemaphoreUse) → raises t m u ≡ true
    → current_value t (signaled t m u) sem ≡ higher_use sem (current_value t m sem) u
raised_current t m sem u e = ap (λ (b : Bool). current_value t (cond b (with_signal m u) m) sem) e
    ∙ current_more t sem m.signals (as_signal m u)

not_higher : (t : Trace) (m : Made) (sem : ℕ) (u : SemaphoreUse) (w : ℕ) → u.value ≡ Some w → w
    ≤ current_value t m u.sem → current_value t m sem ≡ higher_use sem (current_value t m sem) u
not_higher t m sem u w e l =
    elim (eqb_tells u.sem sem) [
      | inl same ↦
          let there : w ≤ current_value t m sem = subst (λ (k : ℕ). w ≤ current_value t m k) same.1 l in
          let top : current_value t m sem ≡ max (current_value t m sem) w = omega arith in
          top ∙ sym (ap (λ (b : Bool). cond b (max (current_value t m sem) (unwrap_or u.value 0))
          (current_value t m sem)) same.0 ∙ ap (λ (o : Option ℕ). max (current_value t m sem)
          (unwrap_or o 0)) e)
      | inr other ↦ sym (ap (λ (b : Bool). cond b (max (current_value t m sem) (unwrap_or u.value 0))
          (current_value t m sem)) other.0)
    ]

current_of : (t : Trace) (m : Made) (sem : ℕ) (u : SemaphoreUse) (value : Option ℕ) → u.value ≡ value
    → current_value t (signaled t m u) sem ≡ higher_use sem (current_value t m sem) u
current_of t m sem u None e = raised_current t m sem u
    (ap (λ (o : Option ℕ). option_map_or (nat_lt (current_value t m u.sem)) o true) e)
current_of t m sem u (Some w) e =
    elim (cases_lt (current_value t m u.sem) w) [
      | inl l ↦ raised_current t m sem u (ap (λ (o : Option ℕ). option_map_or
          (nat_lt (current_value t m u.sem)) o true) e ∙ lt-ltb (current_value t m u.sem) w l)
      | inr l ↦
          let stays : raises t m u ≡ false = ap (λ (o : Option ℕ). option_map_or
          (nat_lt (current_value t m u.sem)) o true) e ∙ le-ltb (current_value t m u.sem) w l in
          ap (λ (b : Bool). current_value t (cond b (with_signal m u) m) sem) stays
          ∙ not_higher t m sem u w e l
    ]

reach_use : (v : ℕ) (b : Bool) (c : ℕ) (value : Option ℕ) → leb v (cond b (max c (unwrap_or value 0)) c)
    ≡ (leb v c || (b && option_map_or (nat_le v) value false))
reach_use v false c value = or_nothing (leb v c)
reach_use v true c None = ap (leb v) (no_more c) ∙ or_nothing (leb v c)
reach_use v true c (Some w) = reach_max v c w

reach_signal : (t : Trace) (sem v : ℕ) (m : Made) (u : SemaphoreUse)
    → leb v (current_value t (signaled t m u) sem) ≡ (leb v (current_value t m sem) || reaches sem v u)
reach_signal t sem v m u = ap (leb v) (current_of t m sem u u.value refl)
    ∙ reach_use v (u.sem == sem) (current_value t m sem) u.value

reach_signals : (t : Trace) (sem v : ℕ) (m : Made) (us : List SemaphoreUse)
    → leb v (current_value t (fold (signaled t) m us) sem)
    ≡ (leb v (current_value t m sem) || list_any (reaches sem v) us)
reach_signals t sem v m [] = or_nothing (leb v (current_value t m sem))
reach_signals t sem v m (u ∷ us) =
    reach_signals t sem v (signaled t m u) us
    ∙ ap (λ (b : Bool). b || list_any (reaches sem v) us) (reach_signal t sem v m u)
    ∙ or_joined (leb v (current_value t m sem)) (reaches sem v u) (list_any (reaches sem v) us)

-- One more item.

reach_batch : (t : Trace) (sem v : ℕ) (r : Run) (m : Made) (b : Batch)
    → leb v (current_value t (batch_made t r m b) sem)
    ≡ (leb v (current_value t m sem) || list_any (reaches sem v) b.signals)
reach_batch t sem v r m b =
    reach_signals t sem v (recs_made t r m b) b.signals
    ∙ ap (λ (signals : List Signal). leb v (fold (higher sem) (initial_value t sem) signals)
    || list_any (reaches sem v) b.signals) (recs_signals t r m b)

call_current : (t : Trace) (sem : ℕ) (m : Made) (call : Option Line)
    → current_value t (call_made m call) sem ≡ current_value t m sem
call_current t sem m (Some (line.ResetFence lane fence)) = refl
call_current t sem m other = refl

any_joined : (p : SemaphoreUse → Bool) (xs ys : List SemaphoreUse) → list_any p (xs ++ ys)
    ≡ (list_any p xs || list_any p ys)
any_joined p [] ys = refl
any_joined p (x ∷ xs) ys = ap (λ (b : Bool). p x || b) (any_joined p xs ys)
    ∙ sym (or_joined (p x) (list_any p xs) (list_any p ys))

reach_item : (t : Trace) (history : List Mark) (sem v : ℕ) (m : Made) (event : ℕ) (i : Item)
    (later : List Batch)
    → (leb v (current_value t (item_made t history m event i) sem)
    || list_any (reaches sem v) (flat_map (λ (b : Batch). b.signals) later))
    ≡ (leb v (current_value t m sem) || list_any (reaches sem v)
    (flat_map (λ (b : Batch). b.signals) (cons_option (batch_of t history i) later)))
reach_item t history sem v m event (item.Call lane index) later =
    ap (λ (c : ℕ). leb v c || list_any (reaches sem v) (flat_map (λ (b : Batch). b.signals) later))
    (call_current t sem m (call_of t lane index))
reach_item t history sem v m event (item.Fence queue e fence) later = refl
reach_item t history sem v m event (item.Batch queue e batch) later =
    let b : Batch = batch_at t history e batch in
    ap (λ (c : Bool). c || list_any (reaches sem v) (flat_map (λ (x : Batch). x.signals) later))
    (reach_batch t sem v (run_of event queue e batch) m b)
    ∙ or_joined (leb v (current_value t m sem)) (list_any (reaches sem v) b.signals)
    (list_any (reaches sem v) (flat_map (λ (x : Batch). x.signals) later))
    ∙ ap (λ (c : Bool). leb v (current_value t m sem) || c)
    (sym (any_joined (reaches sem v) b.signals (flat_map (λ (x : Batch). x.signals) later)))

reach_items : (t : Trace) (history : List Mark) (sem v : ℕ) (m : Made) (items : List Taken)
    → leb v (current_value t (fold (made t history) m items) sem)
    ≡ (leb v (current_value t m sem) || list_any (reaches sem v)
    (flat_map (λ (b : Batch). b.signals) (batches_done t history (items_of items))))
reach_items t history sem v m [] = or_nothing (leb v (current_value t m sem))
reach_items t history sem v m (x ∷ rest) =
    reach_items t history sem v (made t history m x) rest
    ∙ reach_item t history sem v m x.event x.item (batches_done t history (items_of rest))

pub served_are : (t : Trace) (history : List Mark) (items : List Taken) (sem v : ℕ)
    → served t (batches_done t history (items_of items)) sem v
    ≡ leb v (current_value t (left_by_items t history items) sem)
served_are t history items sem v = sym (reach_items t history sem v nothing_made items)

-- What is kept.

found_more : (b : Bool) (x : Signal) (rest : Option Signal) → is_some (cond b (Some x) rest)
    ≡ (b || is_some rest)
found_more true x rest = refl
found_more false x rest = refl

reach_kept : (sem v c : ℕ) (signals : List Signal) → leb v (fold (higher sem) c signals)
    ≡ (leb v c || is_some (find (serves sem v) signals))
reach_kept sem v c [] = or_nothing (leb v c)
reach_kept sem v c (x ∷ xs) =
    reach_kept sem v (higher sem c x) xs
    ∙ ap (λ (b : Bool). b || is_some (find (serves sem v) xs)) (reach_use v (x.sem == sem) c x.value)
    ∙ or_joined (leb v c) (serves sem v x) (is_some (find (serves sem v) xs))
    ∙ ap (λ (b : Bool). leb v c || b) (sym (found_more (serves sem v x) x (find (serves sem v) xs)))

pub kept_are : (t : Trace) (m : Made) (sem v : ℕ) → leb v (current_value t m sem)
    ≡ (leb v (initial_value t sem) || is_some (find (serves sem v) m.signals))
kept_are t m sem v = reach_kept sem v (initial_value t sem) m.signals
