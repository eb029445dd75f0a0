use Rattle.std.proofs.Common.{ℕ, ◌≡◌, List, Contains, length, take}
use Rattle.std.specs.Prelude.{sum_by}
use Rattle.sv_model.specs.Reports.{AreNumbered}
use Rattle.sv_model.specs.declared.work.Access.{Access}
use Rattle.sv_model.specs.declared.work.Area.{Area}
use Rattle.sv_model.specs.declared.work.Step.{Step}
use Rattle.sv_space.specs.AllLines.{AreAllCaught, AreAllCut, AreAllWithin, AreLinesOf, AreSameLines}
use Rattle.sv_space.specs.Cut.{AreApart}
use Rattle.sv_space.specs.Growth.{GrowBy}
use Rattle.sv_space.specs.Known.{groups_in}
use Rattle.sv_space.specs.Runs.{access_runs}
use Rattle.sv_space.proofs.lines.prepare.Given as goal

abbrev pub invariant-loop-access : goal.invariant-loop-access
invariant-loop-access l = record {
  same : AreSameLines l.initial.lines.items l.lines.items;
  within : AreAllWithin (length l.log) l.lines.items;
  stands : (work : List Step) → AreNumbered work → l.log ≡ groups_in work
      → AreLinesOf work l.initial.lines.items → AreLinesOf work l.lines.items;
  others : (at : Area) (n : ℕ) → ((x : Access) → Contains l.accesses x → AreApart x.area at)
      → AreAllCaught at n l.initial.lines.items → AreAllCaught at n l.lines.items;
  still : (at : Area) → AreAllCaught at (length l.log) l.initial.lines.items
      → AreAllCaught at (length l.log) l.lines.items;
  none : ((x : Access) → Contains l.accesses x → AreAllCaught x.area (length l.log) l.initial.lines.items)
      → l.given ≡ 0;
  few : GrowBy (sum_by access_runs (take l.access-index l.accesses)) l.initial.lines.items l.lines.items;
  cut : (x : Access) → Contains (take l.access-index l.accesses) x → AreAllCut x.area l.lines.items;
  caught : (x : Access) → Contains (take l.access-index l.accesses) x
      → AreAllCaught x.area (length l.log) l.lines.items;
}
