-- A step's accesses on a cell are recorded in its state.
use Rattle.std.specs.Prelude.{ℕ, Bool, true, false, ◌≡◌, ◌<◌, List, Contains, IsTrue, MatchBool}
use Rattle.sv_model.specs.Cells.{covers}
use Rattle.sv_model.specs.Dependencies.{Placed}
use Rattle.sv_model.specs.Order.{Story, IsBelow, IsClear, IsPartner, NoRaces, extended, recorded}
use Rattle.sv_model.specs.declared.work.Access.{Access}
use Rattle.sv_state.specs.States.{AreNext}
use Rattle.sv_space.specs.Meant.{StandsFor}
use Rattle.sv_state.specs.Contents.{Contents}

-- one of the accesses races, each seen with the dependencies of its own group; or none does
abbrev pub TellsRaces : (Access → List Placed) → List Access → Bool → Contents → Type 0
TellsRaces own xs raced state = (story : Story) (epoch : ℕ) → StandsFor story epoch state
    → NoRaces story epoch
    → ((x : Access) → Contains xs x → IsBelow x.step story)
    → ((x : Access) → Contains xs x → IsTrue (covers x.area story.cell))
    → MatchBool raced ((x : Access) × Contains xs x
    × ((a : Access) × IsPartner (extended story (own x)) epoch x a))
    ((x : Access) → Contains xs x → IsClear (extended story (own x)) epoch x)

-- what happened to the state of a cell at a step of which these accesses are on the cell: its epoch began
-- anew where one races, and they were added
pub record IsRecording (own : Access → List Placed) (xs : List Access) (raced : Bool)
    (old mid new : Contents) : Type 0 where
  pub races : TellsRaces own xs raced old
  pub step_mid : mid.step ≡ old.step
  pub kept : raced ≡ false → (story : Story) (epoch : ℕ) → StandsFor story epoch old
      → StandsFor story epoch mid
  pub restarts : raced ≡ true → (story : Story) (epoch next : ℕ) → StandsFor story epoch old
      → ((b : Access) → Contains story.accesses b → b.step < next) → StandsFor story next mid
  pub step_new : new.step ≡ mid.step
  pub stands : (story : Story) (epoch : ℕ) → AreNext story epoch xs → StandsFor story epoch mid
      → StandsFor (recorded story xs) epoch new
