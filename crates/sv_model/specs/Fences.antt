-- Fences: whether a fence is signalled, what its signal gives, and when that gives a note ("Fences").
use Rattle.std.specs.Prelude.{ℕ, ◌+◌, ◌∷◌, Bool, true, false, ◌==◌, Option, Some, None, find, option_map}
use Rattle.std.specs.Prelude.{unwrap_or, if◌then◌else◌, ◌-◌, List, fold, []}
use Rattle.sv_mask.specs.Scopes.{with_signal, device_stages, device_usages}
use Rattle.sv_model.specs.declared.line.Trace.{Trace}
use Rattle.sv_model.specs.declared.work.FenceState.{FenceState}
use Rattle.sv_model.specs.declared.line.Batch.{Batch}
use Rattle.sv_model.specs.declared.line.Line.{Line}
use Rattle.sv_model.specs.declared.line.Line.TheVariants.{ResetFence}
use Rattle.sv_model.specs.declared.work.Item.{Item}
use Rattle.sv_model.specs.declared.work.Step.TheVariants.{Groups}
use Rattle.sv_model.specs.declared.work.Note.{Note}
use Rattle.sv_model.specs.Declarations.{is_declared_signaled, call_of}
use Rattle.sv_model.specs.Primitives.{FenceChange, Made}
use Rattle.sv_model.specs.Places.{Bound, Run}
use Rattle.sv_model.specs.QueueGroups.{place_in, to_token}
use Rattle.sv_model.specs.declared.work.FenceState.TheVariants as fence
use Rattle.sv_model.specs.declared.work.Item.TheVariants as item
use Rattle.sv_model.specs.declared.work.Note.TheVariants as note

abbrev pub fence_by : Bool → Option FenceChange → FenceState
fence_by declared None = if declared then fence.Initial else fence.Unsignalled
fence_by declared (Some x) = unwrap_or (option_map fence.Token x.token) fence.Unsignalled

-- the last signal or reset decides, and before the first the declaration
abbrev pub fence_state : Trace → Made → ℕ → FenceState
fence_state t m n = fence_by (is_declared_signaled t n) (find (λ (x : FenceChange). x.fence == n) m.fences)

abbrev pub has_signal : FenceState → Bool
has_signal fence.Unsignalled = false
has_signal state = true

abbrev pub fence_signaled : Made → ℕ → Made
fence_signaled m n = record m {
  fences = record { fence = n; token = Some m.tokens } ∷ m.fences;
  tokens = m.tokens + 1;
}

abbrev pub fence_reset : Made → ℕ → Made
fence_reset m n = record m { fences = record { fence = n; token = None } ∷ m.fences }

abbrev pub fence_after_call : ℕ → Bool → Option Line → Bool
fence_after_call n signaled (Some (ResetFence lane fence)) = if fence == n then false else signaled
fence_after_call n signaled other = signaled

-- whether fence n is signalled after one more item
abbrev pub fence_after : Trace → ℕ → Bool → Item → Bool
fence_after t n signaled (item.Call lane index) = fence_after_call n signaled (call_of t lane index)
fence_after t n signaled (item.Fence queue event fence) = if fence == n then true else signaled
fence_after t n signaled (item.Batch queue event batch) = signaled

-- the last signal or reset decides, and before the first the declaration
abbrev pub is_signaled : Trace → List Item → ℕ → Bool
is_signaled t done n = fold (fence_after t n) (is_declared_signaled t n) done

abbrev pub fence_notes : FenceState → ℕ → ℕ → List Note
fence_notes state fence event = if has_signal state then note.Fence
    (record { fence = fence; event = event; reports_before = 0 }) ∷ [] else []

abbrev pub fence_given : Trace → Run → Made → ℕ → List Bound
fence_given t r m fence = record {
  step = Groups (to_token (place_in r) r.queue
      (with_signal device_stages) device_usages m.tokens ∷ []);
  event = r.released;
  notes = fence_notes (fence_state t m fence) fence r.event;
} ∷ []
