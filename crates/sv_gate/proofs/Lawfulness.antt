-- In a lawful trace the uses of a batch fit their semaphores, and waits name declared fences.
use Rattle.std.proofs.Common.{ℕ, zero, suc, ◌≡◌, ◌∙◌, ◌==◌, ◌&&◌, List, [], ◌∷◌, Bool, true, false, Option}
use Rattle.std.proofs.Common.{Some, None, get_or, refl, sym, ap, subst}
use Rattle.std.specs.Prelude.{All, MatchOption, slice_get, is_none}
use Rattle.std.specs.List.{cons_option}
use Rattle.std.proofs.lemmas.Bool.{eqb-true}
use Rattle.std.proofs.lemmas.List.Elements.{All-nil, All-cons, All-head, All-tail, All-weaker}
use Rattle.sv_model.specs.declared.line.Trace.{Trace}
use Rattle.sv_model.specs.declared.line.Mark.{Mark}
use Rattle.sv_model.specs.declared.line.Mark.TheVariants as mark
use Rattle.sv_model.specs.declared.line.Line.{Line}
use Rattle.sv_model.specs.declared.line.Line.TheVariants as line
use Rattle.sv_model.specs.declared.line.Batch.{Batch}
use Rattle.sv_model.specs.declared.line.SemaphoreUse.{SemaphoreUse}
use Rattle.sv_model.specs.declared.line.SemKind.{SemKind}
use Rattle.sv_model.specs.declared.line.SemKind.TheVariants.{Binary, Timeline}
use Rattle.sv_model.specs.declared.work.Item.{Item}
use Rattle.sv_model.specs.declared.work.Item.TheVariants as item
use Rattle.sv_model.specs.declared.work.Taken.{Taken}
use Rattle.sv_model.specs.Declarations.{QueueLine, semaphore_kind, queue_of, call_of}
use Rattle.sv_model.specs.History.{batch_at, batches_in, call_of_mark, no_batch}
use Rattle.sv_model.specs.Semaphores.{is_binary_use}
use Rattle.sv_model.specs.Holding.{batch_of, batches_done, past, items_of}
use Rattle.sv_model.specs.Laws.{left_by_items}
use Rattle.sv_model.specs.LawfulParts.{HasItsValue, IsLawfulUse}
use Rattle.sv_model.specs.Lawful.{IsLawful, IsLawfulBatch, BatchesAreLawful, IsLawfulCall, script_of}
use Rattle.sv_model.proofs.Lists.{at_or}
use Rattle.sv_sema.specs.Stands.{IsUseOf}
use Rattle.sv_gate.specs.Calls.{NamesItsFence, call_in}
use Rattle.sv_gate.specs.Kept.{AreUsesOf, IsBatchOf, Agrees}
use Rattle.sv_gate.specs.Accounts.{HasNoValues, IsBinaryIn, IsBinaryBefore}
use Rattle.sv_gate.proofs.Fences.{fences_are}
use Rattle.sv_gate.proofs.Batches.{batches_are}

-- Uses.

use_of : (t : Trace) (sem : ℕ) (value : Option ℕ) (kind : Option SemKind) → semaphore_kind t sem ≡ kind
    → HasItsValue kind value → IsUseOf t sem value
use_of t sem None (Some Timeline) e h = absurd (let no : false ≡ true = h in cc)
use_of t sem None (Some Binary) e h = e
use_of t sem (Some v) (Some Timeline) e h = e
use_of t sem (Some v) (Some Binary) e h = cc
use_of t sem value None e h = absurd h

abbrev UseFits : Trace → SemaphoreUse → Type 0
UseFits t u = IsUseOf t u.sem u.value

uses_fit : (t : Trace) (uses : List SemaphoreUse) → All (IsLawfulUse t) uses → AreUsesOf t uses
uses_fit t uses all = All-weaker (IsLawfulUse t) (UseFits t)
    (λ u h. use_of t u.sem u.value (semaphore_kind t u.sem) refl h) uses all

batch_fits : (t : Trace) (family : ℕ) (b : Batch) → IsLawfulBatch t family b → IsBatchOf t b
batch_fits t family b h = record {
  waits = uses_fit t b.waits h.waits;
  signals = uses_fit t b.signals h.signals;
}

batches_fit : (t : Trace) (q : Option QueueLine) (batches : List Batch) → BatchesAreLawful t q batches
    → All (IsBatchOf t) batches
batches_fit t None batches h = absurd h
batches_fit t (Some q) batches h = All-weaker (IsLawfulBatch t q.family) (IsBatchOf t)
    (λ b l. batch_fits t q.family b l) batches h

-- Calls.

call_fits : (t : Trace) (lane : ℕ) (x : Line) → IsLawfulCall t lane x
    → All (IsBatchOf t) (batches_in (Some x))
call_fits t lane (line.Submit l queue batches fence) h = batches_fit t (queue_of t queue) batches h.1.each
call_fits t lane other h = All-nil (IsBatchOf t)

pub call_names : (t : Trace) (lane : ℕ) (x : Line) → IsLawfulCall t lane x → NamesItsFence t (call_in x)
call_names t lane (line.WaitFence l fence) h = h.1
call_names t lane other h = tt

got : {X : Type 0} (P : X → Type 0) (xs : List X) (i : ℕ) → All P xs
    → MatchOption (slice_get xs i) (Unit {0}) P
got P [] i all = tt
got P (x ∷ xs) zero all = All-head P x xs all
got P (x ∷ xs) (suc i) all = got P xs i (All-tail P x xs all)

pub called : (t : Trace) (lane index : ℕ) → IsLawful t
    → MatchOption (call_of t lane index) (Unit {0}) (IsLawfulCall t lane)
called t lane index lawful = got (IsLawfulCall t lane) (script_of t lane) index (lawful.lanes lane)

call_batches : (t : Trace) (lane : ℕ) (o : Option Line) → MatchOption o (Unit {0}) (IsLawfulCall t lane)
    → All (IsBatchOf t) (batches_in o)
call_batches t lane None h = All-nil (IsBatchOf t)
call_batches t lane (Some x) h = call_fits t lane x h

mark_batches : (t : Trace) (o : Option Mark) → IsLawful t → All (IsBatchOf t) (batches_in (call_of_mark t o))
mark_batches t None lawful = All-nil (IsBatchOf t)
mark_batches t (Some (mark.Publish k)) lawful = All-nil (IsBatchOf t)
mark_batches t (Some (mark.Call lane index)) lawful =
    call_batches t lane (call_of t lane index) (called t lane index lawful)

-- Batches.

pub batch_at_fits : (t : Trace) (history : List Mark) (event batch : ℕ) → IsLawful t
    → IsBatchOf t (batch_at t history event batch)
batch_at_fits t history event batch lawful =
    at_or (IsBatchOf t) (batches_in (call_of_mark t (slice_get history event))) batch no_batch
    (record { waits = All-nil (UseFits t); signals = All-nil (UseFits t) })
    (mark_batches t (slice_get history event) lawful)

-- Binary uses.

none_too : (b : Bool) → b ≡ (b && true)
none_too true = refl
none_too false = refl

has_none : (t : Trace) (sem a : ℕ) (value : Option ℕ) → semaphore_kind t sem ≡ Some Binary → IsUseOf t a value
    → (b : Bool) → (a == sem) ≡ b → b ≡ (b && is_none value)
has_none t sem a None binary fits b e = none_too b
has_none t sem a (Some v) binary fits false e = refl
has_none t sem a (Some v) binary fits true e =
    let no : Some Timeline ≡ Some Binary = sym fits ∙ ap (semaphore_kind t) (eqb-true a sem e) ∙ binary in
    absurd (let never : ⊥ = cc in never)

pub no_values : (t : Trace) (sem : ℕ) (uses : List SemaphoreUse) → semaphore_kind t sem ≡ Some Binary
    → AreUsesOf t uses → HasNoValues sem uses
no_values t sem uses binary all = All-weaker (UseFits t)
    (λ (u : SemaphoreUse). (u.sem == sem) ≡ is_binary_use sem u)
    (λ u h. has_none t sem u.sem u.value binary h (u.sem == sem) refl) uses all

batch_is_binary : (t : Trace) (sem : ℕ) (b : Batch) → semaphore_kind t sem ≡ Some Binary → IsBatchOf t b
    → IsBinaryIn sem b
batch_is_binary t sem b binary fits = record {
  waits = no_values t sem b.waits binary fits.waits;
  signals = no_values t sem b.signals binary fits.signals;
}

item_batch : (t : Trace) (events : List Mark) (i : Item) (later : List Batch) (P : Batch → Type 0)
    → ((event batch : ℕ) → P (batch_at t events event batch)) → All P later
    → All P (cons_option (batch_of t events i) later)
item_batch t events (item.Call lane index) later P each all = all
item_batch t events (item.Fence queue event fence) later P each all = all
item_batch t events (item.Batch queue event batch) later P each all =
    All-cons P (batch_at t events event batch) later (each event batch) all

done_batches : (t : Trace) (events : List Mark) (items : List Taken) (P : Batch → Type 0)
    → ((event batch : ℕ) → P (batch_at t events event batch))
    → All P (batches_done t events (items_of items))
done_batches t events [] P each = All-nil P
done_batches t events (x ∷ rest) P each = item_batch t events x.item
    (batches_done t events (items_of rest)) P each (done_batches t events rest P each)

binary_before : (t : Trace) (events : List Mark) (items : List Taken) (u : SemaphoreUse) → IsLawful t
    → UseFits t u → IsBinaryBefore t events items u
binary_before t events items u lawful fits none =
    let binary : semaphore_kind t u.sem ≡ Some Binary =
    subst (λ (o : Option ℕ). IsUseOf t u.sem o) none fits in
    done_batches t events items (IsBinaryIn u.sem)
    (λ event batch. batch_is_binary t u.sem (batch_at t events event batch) binary
    (batch_at_fits t events event batch lawful))

all_before : (t : Trace) (events : List Mark) (items : List Taken) (uses : List SemaphoreUse) → IsLawful t
    → AreUsesOf t uses → All (IsBinaryBefore t events items) uses
all_before t events items uses lawful all = All-weaker (UseFits t) (IsBinaryBefore t events items)
    (λ u h. binary_before t events items u lawful h) uses all

pub agree : (t : Trace) (events : List Mark) (items : List Taken) → IsLawful t
    → Agrees t events (left_by_items t events items) (past t events (items_of items))
agree t events items lawful = record {
  signaled = fences_are t events items;
  ready = λ event batch.
      let fits = batch_at_fits t events event batch lawful in
      batches_are t events items (batch_at t events event batch)
      (all_before t events items (batch_at t events event batch).waits lawful fits.waits)
      (all_before t events items (batch_at t events event batch).signals lawful fits.signals);
}
