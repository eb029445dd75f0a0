-- What an item asks for, from what the processed items left.
use Rattle.std.specs.Prelude.{◌≡◌, ℕ, ◌-◌, ◌==◌, List, Bool, true, false, All, filter, count_by, length}
use Rattle.std.specs.Prelude.{nat_le}
use Rattle.sv_model.specs.declared.line.Trace.{Trace}
use Rattle.sv_model.specs.declared.line.Mark.{Mark}
use Rattle.sv_model.specs.declared.line.Batch.{Batch}
use Rattle.sv_model.specs.declared.line.SemaphoreUse.{SemaphoreUse}
use Rattle.sv_model.specs.declared.work.Taken.{Taken}
use Rattle.sv_model.specs.History.{batch_at}
use Rattle.sv_model.specs.Primitives.{Made, Signal, Past}
use Rattle.sv_model.specs.Semaphores.{current_value, batch_ready}
use Rattle.sv_model.specs.Fences.{fence_state, has_signal}
use Rattle.sv_model.specs.Holding.{past, items_of}
use Rattle.sv_model.specs.Laws.{left_by_items}
use Rattle.sv_model.specs.Lawful.{IsLawful}
use Rattle.sv_sema.specs.Stands.{IsUseOf}
use Rattle.sv_sema.specs.declared.semaphores.Pairing.{Pairing}
use Rattle.sv_sema.specs.declared.semaphores.Pairing.TheVariants.{Initial, Token, NotYet}

-- the signals of a semaphore that are kept, less its waits
abbrev pub standing_of : Made → ℕ → ℕ
standing_of m sem = length (filter (λ (x : Signal). x.sem == sem) m.signals)
    - count_by (λ (w : ℕ). w == sem) m.waits

abbrev pub past_of : Trace → Made → Past
past_of t m = record {
  serves = λ (sem value : ℕ). nat_le value (current_value t m sem);
  standing = standing_of m;
  signaled = λ (fence : ℕ). has_signal (fence_state t m fence);
}

abbrev pub found : Pairing → Bool
found NotYet = false
found Initial = true
found (Token token) = true

-- each use has a value exactly where its semaphore is a timeline
abbrev pub AreUsesOf : Trace → List SemaphoreUse → Type 0
AreUsesOf t uses = All (λ (u : SemaphoreUse). IsUseOf t u.sem u.value) uses

pub record IsBatchOf (t : Trace) (b : Batch) : Type 0 where
  pub waits : AreUsesOf t b.waits
  pub signals : AreUsesOf t b.signals

-- in a lawful trace that holds of each batch
abbrev pub LawfulBatchesFit : Type 0
LawfulBatchesFit = (t : Trace) (history : List Mark) (event batch : ℕ) → IsLawful t
    → IsBatchOf t (batch_at t history event batch)

-- What the items left answers fences and batches as the past does.
pub record Agrees (t : Trace) (events : List Mark) (m : Made) (p : Past) : Type 0 where
  pub signaled : (fence : ℕ) → p.signaled fence ≡ has_signal (fence_state t m fence)
  pub ready : (event batch : ℕ) → batch_ready p (batch_at t events event batch)
      ≡ batch_ready (past_of t m) (batch_at t events event batch)

-- in a lawful trace what the items left does so
abbrev pub LawfulPastsAgree : Type 0
LawfulPastsAgree = (t : Trace) (events : List Mark) (items : List Taken) → IsLawful t
    → Agrees t events (left_by_items t events items) (past t events (items_of items))
