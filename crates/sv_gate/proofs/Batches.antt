-- A batch may run, counted over the items, exactly where it may by what they left.
use Rattle.std.proofs.Common.{ℕ, ◌≡◌, ◌&&◌, List, [], ◌∷◌, Bool, true, Option, Some, None, cond, refl, ap}
use Rattle.std.specs.Prelude.{All, is_none, count_by}
use Rattle.std.specs.Option.{option_map_or}
use Rattle.std.specs.List.{list_all}
use Rattle.std.proofs.lemmas.List.Elements.{All-head, All-tail}
use Rattle.sv_model.specs.declared.line.Trace.{Trace}
use Rattle.sv_model.specs.declared.line.Mark.{Mark}
use Rattle.sv_model.specs.declared.line.Batch.{Batch}
use Rattle.sv_model.specs.declared.line.SemaphoreUse.{SemaphoreUse}
use Rattle.sv_model.specs.declared.work.Taken.{Taken}
use Rattle.sv_model.specs.Primitives.{Past}
use Rattle.sv_model.specs.Holding.{past, batches_done, items_of}
use Rattle.sv_model.specs.Semaphores.{batch_ready, wait_served, use_fits, is_balanced, is_binary_use}
use Rattle.sv_model.specs.Semaphores.{signals_standing}
use Rattle.sv_model.specs.Laws.{left_by_items}
use Rattle.sv_gate.specs.Accounts.{IsBinaryIn, IsBinaryBefore, Balance}
use Rattle.sv_gate.specs.Kept.{past_of, standing_of}
use Rattle.sv_gate.proofs.Timelines.{served_are}
use Rattle.sv_gate.proofs.Binaries.{balanced}

both : {a b c d : Bool} → a ≡ c → b ≡ d → (a && b) ≡ (c && d)
both e f = cc

served_case : (t : Trace) (history : List Mark) (items : List Taken) (sem : ℕ) (value : Option ℕ)
    → option_map_or ((past t history (items_of items)).serves sem) value true
    ≡ option_map_or ((past_of t (left_by_items t history items)).serves sem) value true
served_case t history items sem None = refl
served_case t history items sem (Some v) = served_are t history items sem v

standing_same : (t : Trace) (history : List Mark) (items : List Taken) (sem : ℕ)
    → All (IsBinaryIn sem) (batches_done t history (items_of items))
    → signals_standing (batches_done t history (items_of items)) sem
    ≡ standing_of (left_by_items t history items) sem
standing_same t history items sem all =
    let balance : Balance t history items sem = balanced t history items sem all in
    let signals = balance.signals in
    let waits = balance.waits in
    cc

fits_case : (p q : Past) (b : Batch) (u : SemaphoreUse) (value : Option ℕ)
    → (value ≡ None → p.standing u.sem ≡ q.standing u.sem)
    → cond (is_none value) (is_balanced (p.standing u.sem) (count_by (is_binary_use u.sem) b.waits)
    (count_by (is_binary_use u.sem) b.signals)) true
    ≡ cond (is_none value) (is_balanced (q.standing u.sem) (count_by (is_binary_use u.sem) b.waits)
    (count_by (is_binary_use u.sem) b.signals)) true
fits_case p q b u None same = ap (λ (n : ℕ). is_balanced n (count_by (is_binary_use u.sem) b.waits)
    (count_by (is_binary_use u.sem) b.signals)) (same refl)
fits_case p q b u (Some v) same = refl

fits_same : (t : Trace) (history : List Mark) (items : List Taken) (b : Batch) (u : SemaphoreUse)
    → IsBinaryBefore t history items u → use_fits (past t history (items_of items)) b u
    ≡ use_fits (past_of t (left_by_items t history items)) b u
fits_same t history items b u binary = fits_case (past t history (items_of items))
    (past_of t (left_by_items t history items)) b u u.value
    (λ e. standing_same t history items u.sem (binary e))

all_served : (t : Trace) (history : List Mark) (items : List Taken) (uses : List SemaphoreUse)
    → list_all (wait_served (past t history (items_of items))) uses
    ≡ list_all (wait_served (past_of t (left_by_items t history items))) uses
all_served t history items [] = refl
all_served t history items (u ∷ rest) = both (served_case t history items u.sem u.value)
    (all_served t history items rest)

all_fit : (t : Trace) (history : List Mark) (items : List Taken) (b : Batch) (uses : List SemaphoreUse)
    → All (IsBinaryBefore t history items) uses → list_all
    (use_fits (past t history (items_of items)) b) uses
    ≡ list_all (use_fits (past_of t (left_by_items t history items)) b) uses
all_fit t history items b [] all = refl
all_fit t history items b (u ∷ rest) all =
    both (fits_same t history items b u (All-head (IsBinaryBefore t history items) u rest all))
    (all_fit t history items b rest (All-tail (IsBinaryBefore t history items) u rest all))

pub batches_are : (t : Trace) (history : List Mark) (items : List Taken) (b : Batch)
    → All (IsBinaryBefore t history items) b.waits → All (IsBinaryBefore t history items) b.signals
    → batch_ready (past t history (items_of items)) b
    ≡ batch_ready (past_of t (left_by_items t history items)) b
batches_are t history items b waits signals =
    both (both (all_served t history items b.waits) (all_fit t history items b b.waits waits))
    (all_fit t history items b b.signals signals)
