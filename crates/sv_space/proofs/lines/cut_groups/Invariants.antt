use Rattle.std.proofs.Common.{◌≡◌, Contains, Some, take}
use Rattle.std.specs.Prelude.{sum_by}
use Rattle.sv_model.specs.declared.work.Area.{Area}
use Rattle.sv_model.specs.declared.work.Dep.{Dep}
use Rattle.sv_model.specs.declared.work.Group.{Group}
use Rattle.sv_space.specs.AllLines.{AreAllCut, AreAllPartsOf, AreSameLines}
use Rattle.sv_space.specs.Growth.{GrowBy}
use Rattle.sv_space.specs.Runs.{group_runs}
use Rattle.sv_space.proofs.lines.cut_groups.Given as goal

abbrev pub invariant-loop-group : goal.invariant-loop-group
invariant-loop-group l = record {
  same : AreSameLines l.initial.lines.items l.lines.items;
  parts : AreAllPartsOf l.lines.items l.initial.lines.items;
  cut : (g : Group) → Contains (take l.group-index l.groups) g → (d : Dep) (area : Area) → Contains g.deps d
      → d.range ≡ Some area → AreAllCut area l.lines.items;
  few : GrowBy (sum_by group_runs (take l.group-index l.groups)) l.initial.lines.items l.lines.items;
}
