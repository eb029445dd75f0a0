-- The listeners of a hub, and what they hear.
use Rattle.std.specs.Prelude.{ℕ, ◌≡◌, ◌≢◌, ◌+◌, ◌<◌, ◌≤◌, List, [], ◌∷◌, ◌++◌, Some, length, map, slice_get}
use Rattle.std.specs.Prelude.{slice_index_or, ⊤}
use Rattle.std.specs.List.{All, AllPairs, remove}
use Rattle.sv_model.specs.declared.work.Report.{Report}

-- The condition of a call that has none. The checker takes a call with a condition as one that makes no boxed
-- listener of its own, so that the functions of other crates may call it on a hub that they were lent.
abbrev pub AsksNothing : Type 0
AsksNothing = ⊤

-- what a listener has heard, and for how many reports more it has room
pub record Ear : Type 0 where
  pub heard : List Report
  pub spare : ℕ

-- an attached listener: the number of its id, what it has heard, and for how many reports more it has room
pub record Attached : Type 0 where
  pub number : ℕ
  pub heard : List Report
  pub spare : ℕ

-- the attached listeners, in order of their ids, and the number of the next id
pub record Attachments : Type 0 where
  pub attached : List Attached
  pub next : ℕ

-- the numbers rise, and each is below the next one
pub record AreNumbered (next : ℕ) (numbers : List ℕ) : Type 0 where
  pub below : All (λ number. number < next) numbers
  pub rise : AllPairs (λ a b. a < b) numbers

-- no number is given twice: those of the attached listeners rise, and the next one is above them
abbrev pub IsNumbered : Attachments → Type 0
IsNumbered hub = AreNumbered hub.next (map (λ (a : Attached). a.number) hub.attached)

-- each changed like this, place by place
pub record AllChanged {X : Type 0} (Changes : X → X → Type 0) (old new : List X) : Type 0 where
  pub long : length new ≡ length old
  pub each : (k : ℕ) (d : X) → k < length old → Changes (slice_index_or old k d) (slice_index_or new k d)

-- a listener has heard what it had heard and then these reports
pub record HasHeardIn (reports : List Report) (old new : Attached) : Type 0 where
  pub number : new.number ≡ old.number
  pub heard : new.heard ≡ old.heard ++ reports

-- the same listeners are attached, and each has heard what it had heard and then these reports
pub record HasHeard (reports : List Report) (old new : Attachments) : Type 0 where
  pub next : new.next ≡ old.next
  pub each : AllChanged (HasHeardIn reports) old.attached new.attached

-- no attached listener has less room than before
abbrev pub KeepsRoom : Attachments → Attachments → Type 0
KeepsRoom old new = AllChanged (λ (a b : Attached). a.spare ≤ b.spare) old.attached new.attached

-- the room of each attached listener is less by one at most
abbrev pub UsesRoom : Attachments → Attachments → Type 0
UsesRoom old new = AllChanged (λ (a b : Attached). a.spare ≤ b.spare + 1) old.attached new.attached

-- each attached listener has room for so many reports more
abbrev pub HasRoom : ℕ → Attachments → Type 0
HasRoom more hub = (k : ℕ) (d : Attached) → k < length hub.attached
    → more ≤ (slice_index_or hub.attached k d).spare

-- the number is that of no attached listener
abbrev pub IsAbsent : ℕ → Attachments → Type 0
IsAbsent number hub = (k : ℕ) (d : Attached) → k < length hub.attached
    → (slice_index_or hub.attached k d).number ≢ number

-- the listener is attached after the others, under the next number
pub record IsJoined (listener : Attached) (old new : Attachments) : Type 0 where
  pub number : listener.number ≡ old.next
  pub others : new ≡ record { attached = old.attached ++ listener ∷ []; next = old.next + 1 }

-- the listener was attached, and is taken out of its place; the others stand
pub record IsTaken (listener : Attached) (old new : Attachments) : Type 0 where
  pub place : ℕ
  pub there : slice_get old.attached place ≡ Some listener
  pub others : new ≡ record { attached = remove old.attached place; next = old.next }

-- a listener made room, or had no memory for it
pub record Reserves (old new : Attached) : Type 0 where
  pub number : new.number ≡ old.number
  pub heard : new.heard ≡ old.heard
  pub room : old.spare ≤ new.spare

-- a listener heard the report
pub record Hears (report : Report) (old new : Attached) : Type 0 where
  pub number : new.number ≡ old.number
  pub heard : new.heard ≡ old.heard ++ report ∷ []
  pub room : old.spare ≤ new.spare + 1
