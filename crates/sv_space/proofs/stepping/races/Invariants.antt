use Rattle.std.proofs.Common.{◌<◌, ℕ, length, get_or, Contains, IsTrue}
use Rattle.sv_model.specs.Cells.{covers}
use Rattle.sv_model.specs.Order.{Story, IsBelow, IsClear, NoRaces, extended}
use Rattle.sv_model.specs.declared.work.Access.{Access}
use Rattle.sv_state.specs.Contents.{contents_of}
use Rattle.sv_space.specs.Meant.{StandsFor}
use Rattle.sv_space.specs.Own.{own_of}
use Rattle.sv_space.proofs.stepping.races.Given as goal

abbrev pub invariant-loop-access : goal.invariant-loop-access
invariant-loop-access l = (story : Story) (epoch : ℕ) → StandsFor story epoch (contents_of l.state)
    → NoRaces story epoch
    → ((x : Access) → Contains l.accesses x → IsBelow x.step story)
    → ((x : Access) → Contains l.accesses x → IsTrue (covers x.area story.cell))
    → (k : ℕ) (d : Access) → k < length l.accesses → k < l.access-index
    → IsClear (extended story (own_of l.groups (get_or l.accesses k d))) epoch (get_or l.accesses k d)
