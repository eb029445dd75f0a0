-- Items that are taken: their bound steps are added to the work, and what they leave is left.
use Rattle.std.specs.Prelude.{ℕ, Bool, List, [], ◌∷◌, ◌++◌, map, length, if◌then◌else◌}
use Rattle.sv_mask.specs.Scopes.{device_stages, device_usages, with_signal}
use Rattle.sv_model.specs.Places.{Bound}
use Rattle.sv_model.specs.Primitives.{Made}
use Rattle.sv_model.specs.QueueGroups.{from_token, group_from}
use Rattle.sv_model.specs.Work.{numbered}
use Rattle.sv_model.specs.declared.line.Line.{Line}
use Rattle.sv_model.specs.declared.line.Trace.{Trace}
use Rattle.sv_model.specs.declared.work.Group.{Group}
use Rattle.sv_model.specs.declared.work.Note.{Note}
use Rattle.sv_model.specs.declared.work.Note.TheVariants as note
use Rattle.sv_model.specs.declared.work.Place.{Place}
use Rattle.sv_model.specs.declared.work.Track.TheVariants.{Queue}
use Rattle.sv_gate.specs.Calls.{NamesItsFence, call_in}
use Rattle.sv_processed.specs.Works.{IsAt}
use Rattle.sv_processed.specs.declared.work.Work.{Work}

-- from a token to all that comes later on these queues
abbrev pub token_groups : Place → ℕ → List ℕ → List Group
token_groups place token queues = map (λ (q : ℕ). from_token place token q device_stages device_usages) queues

-- all that queue p did, before all that comes later on these queues
abbrev pub queue_groups_on : Place → List ℕ → ℕ → List Group
queue_groups_on place queues p = map (λ (q : ℕ). group_from place (Queue p)
    (with_signal device_stages) device_usages (Queue q) device_stages device_usages) queues

-- a note where the fence was signalled already
abbrev pub notes_where : Bool → ℕ → ℕ → List Note
notes_where was fence event = if was then note.Fence
    (record { fence = fence; event = event; reports_before = 0 }) ∷ [] else []

-- These bound steps are added, and that is left.
abbrev pub IsAfter : Trace → ℕ → (Made → List Bound) → (Made → Made) → Work → Work → Type 0
IsAfter t event given made before after = (old more : List Bound) (m : Made)
    → IsAt t event old more m before → IsAt t event old (more ++ numbered (length (old ++ more)) (given m))
    (made m) after

-- a wait names a declared fence
abbrev pub NamesFence : Trace → Line → Type 0
NamesFence t call = NamesItsFence t (call_in call)
