-- What contracts see of a validator, and what holds of every one.
use Rattle.std.specs.Prelude.{ℕ, ◌≡◌, List, Bool, true, false}
use Rattle.sv_model.specs.History.{IsHistory, IsWhole}
use Rattle.sv_model.specs.Lawful.{IsLawful}
use Rattle.sv_model.specs.Replies.{AreReplies}
use Rattle.sv_model.specs.Work.{work_steps}
use Rattle.sv_model.specs.declared.line.Mark.{Mark}
use Rattle.sv_model.specs.declared.line.Trace.{Trace}
use Rattle.sv_model.specs.declared.work.Reply.{Reply}
use Rattle.sv_space.specs.Space.{HasResources, IsSpaceOf, given_in, kept_in, pieces_in}
use Rattle.sv_space.specs.declared.space.Space.{Space}
use Rattle.sv_core.specs.Going.{AreReadyUnlessSpent}
use Rattle.sv_core.specs.declared.parts.Parts.{Parts}

-- The trace, the history, the replies, whether it is spent, and the numbers of its space: of pieces, of the
-- accesses that are kept for them, and of the groups that were given to states late.
pub record State : Type 0 where
  pub trace : Trace
  pub history : List Mark
  pub replies : List Reply
  pub spent : Bool
  pub pieces : ℕ
  pub kept : ℕ
  pub given : ℕ

-- the space has the resources of the trace, and stands for the work of the history
pub record IsSpaceAfter (t : Trace) (history : List Mark) (space : Space) : Type 0 where
  pub stands : IsSpaceOf space (work_steps t history)
  pub resources : HasResources t space

-- so it is with the one space that the numbers of a validator are of, unless it is spent
abbrev pub HasItsSpace : State → Type 0
HasItsSpace v = v.spent ≡ false → (space : Space) × IsSpaceAfter v.trace v.history space
    × (v.pieces ≡ pieces_in space) × (v.kept ≡ kept_in space) × (v.given ≡ given_in space)

-- the history of a spent validator lacks the event that it stopped at
abbrev pub LacksIfSpent : Bool → Trace → List Mark → Type 0
LacksIfSpent true t history = ¬ IsWhole t history
LacksIfSpent false t history = Unit {0}

-- What holds of every validator.
pub record Holds (t : Trace) (history : List Mark) (replies : List Reply) (spent : Bool)
    (p : Parts) : Type 0 where
  pub lawful : IsLawful t
  pub is_history : IsHistory t history
  pub answered : AreReplies t history replies
  pub ready : AreReadyUnlessSpent spent t history p
  pub lacks : LacksIfSpent spent t history
