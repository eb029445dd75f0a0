use Rattle.std.proofs.Common.{◌≤◌, ◌-◌, drop, length, take}
use Rattle.sv_model.specs.Cells.{IsOnly}
use Rattle.sv_model.specs.declared.work.Cell.{Cell}
use Rattle.sv_state.specs.Contents.{contents_of}
use Rattle.sv_space.specs.Known.{HasGone, MayFollow}
use Rattle.sv_space.specs.Patterns.{AreFullPatterns}
use Rattle.sv_space.proofs.going.go_through.Given as goal

-- the groups from the first to this place were gone through
abbrev pub invariant-loop-done : goal.invariant-loop-done
invariant-loop-done l = record {
  first : l.from ≤ l.done;
  known : AreFullPatterns l.state l.patterns.items l.full;
  listed : l.done ≤ length l.groups.items;
  gone : (cell : Cell) → IsOnly l.at cell → MayFollow l.initial.state.step (drop l.from l.groups.items)
      → HasGone cell (take (l.done - l.from) (drop l.from l.groups.items)) (contents_of l.initial.state)
      (contents_of l.state);
}

abbrev pub decreases-loop-done : goal.decreases-loop-done
decreases-loop-done l = length l.groups.items - l.done
