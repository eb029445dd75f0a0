use Rattle.std.proofs.Common.{ℕ, ◌<◌, length, get_or}
use Rattle.sv_model.specs.declared.work.Area.{Area}
use Rattle.sv_space.specs.AllLines.{AreAllCaught, AreAllWithin, AreSameLines}
use Rattle.sv_space.specs.declared.line.Line.{Line}
use Rattle.sv_space.proofs.LineStepped.{IsLineStepped}
use Rattle.sv_space.proofs.touching.record_all.Given as goal

abbrev pub invariant-loop-number : goal.invariant-loop-number
invariant-loop-number l = record {
  same : AreSameLines l.initial.lines.items l.lines.items;
  within : (n : ℕ) → AreAllWithin n l.initial.lines.items → AreAllWithin n l.lines.items;
  upto : (at : Area) (n : ℕ) → AreAllCaught at n l.initial.lines.items → AreAllCaught at n l.lines.items;
  stepped : (k : ℕ) (d : Line) → k < length l.initial.lines.items
      → IsLineStepped l.accesses l.groups l.number (get_or l.initial.lines.items k d)
      (get_or l.lines.items k d);
}
