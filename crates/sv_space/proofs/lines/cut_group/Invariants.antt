use Rattle.std.proofs.Common.{◌≡◌, Contains, Some, take}
use Rattle.std.specs.Prelude.{sum_by}
use Rattle.sv_model.specs.declared.work.Area.{Area}
use Rattle.sv_model.specs.declared.work.Dep.{Dep}
use Rattle.sv_space.specs.AllLines.{AreAllCut, AreAllPartsOf, AreSameLines}
use Rattle.sv_space.specs.Growth.{GrowBy}
use Rattle.sv_space.specs.Runs.{dep_runs}
use Rattle.sv_space.proofs.lines.cut_group.Given as goal

abbrev pub invariant-loop-dep : goal.invariant-loop-dep
invariant-loop-dep l = record {
  same : AreSameLines l.initial.lines.items l.lines.items;
  parts : AreAllPartsOf l.lines.items l.initial.lines.items;
  cut : (d : Dep) → Contains (take l.dep-index l.deps) d → (area : Area) → d.range ≡ Some area
      → AreAllCut area l.lines.items;
  few : GrowBy (sum_by dep_runs (take l.dep-index l.deps)) l.initial.lines.items l.lines.items;
}
