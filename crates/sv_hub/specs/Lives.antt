-- What a listener hears between its attach and its detach.
use Rattle.std.specs.Prelude.{ℕ, ◌≡◌, ◌≢◌, ◌+◌, List, [], ◌++◌, Contains}
use Rattle.sv_model.specs.declared.work.Report.{Report}
use Rattle.sv_hub.specs.Attachments.{Attached, Attachments, HasHeard, HasRoom, IsJoined, IsNumbered}
use Rattle.sv_hub.specs.Attachments.{IsTaken, UsesRoom}

-- a listener with this number is attached, and has heard these reports
pub record Holds (number : ℕ) (heard : List Report) (hub : Attachments) : Type 0 where
  pub listener : Attached
  pub attached : Contains hub.attached listener
  pub has_number : listener.number ≡ number
  pub has_heard : listener.heard ≡ heard

-- What becomes of a hub while the listener with this number stays: reports are delivered to it, in this
-- order, other listeners come, and others go.
pub data Stays (number : ℕ) : List Report → Attachments → Attachments → Type 0 where
  begins : {hub : Attachments} → Stays number [] hub hub
  hears : {reports more : List Report} {before now after : Attachments}
      → Stays number reports before now → HasHeard more now after
      → Stays number (reports ++ more) before after
  joins : {reports : List Report} {before now after : Attachments} {other : Attached}
      → Stays number reports before now → IsJoined other now after → Stays number reports before after
  leaves : {reports : List Report} {before now after : Attachments} {other : Attached}
      → Stays number reports before now → IsTaken other now after → other.number ≢ number
      → Stays number reports before after

-- a listener that joined has heard its opening list, and from then on each report that is delivered, once, in
-- order
abbrev pub HearsWhileItStays : Type 0
HearsWhileItStays = (listener : Attached) (reports : List Report) (before joined after : Attachments)
    → IsJoined listener before joined → Stays listener.number reports joined after
    → Holds listener.number (listener.heard ++ reports) after

-- a listener that is handed back has heard what the one with its number had
abbrev pub LeavesWithWhatItHeard : Type 0
LeavesWithWhatItHeard = (listener : Attached) (heard : List Report) (old new : Attachments) → IsNumbered old
    → Holds listener.number heard old → IsTaken listener old new → listener.heard ≡ heard

-- reports that are heard one after another are heard as one list
abbrev pub ReportsAddUp : Type 0
ReportsAddUp = (reports more : List Report) (before now after : Attachments)
    → HasHeard reports before now → HasHeard more now after → HasHeard (reports ++ more) before after

-- a report takes the room of one at most
abbrev pub RoomLasts : Type 0
RoomLasts = (more : ℕ) (old new : Attachments) → HasRoom (more + 1) old → UsesRoom old new → HasRoom more new
