use Rattle.std.proofs.Common.{◌≤◌, Contains, length, take}
use Rattle.sv_model.specs.Lawful.{AreOnce}
use Rattle.sv_model.specs.declared.line.Line.{Line as Declared}
use Rattle.sv_space.specs.AllLines.{AreFresh}
use Rattle.sv_space.specs.Resources.{HasLineFor, IsLineFor}
use Rattle.sv_space.specs.Sorted.{AreSorted}
use Rattle.sv_space.specs.declared.line.Line.{Line}
use Rattle.sv_space.proofs.opening.open_all.Given as goal

abbrev pub invariant-loop-declared : goal.invariant-loop-declared
invariant-loop-declared l = record {
  sorted : AreSorted l.lines.items;
  fresh : AreFresh l.lines.items;
  from : (m : Line) → Contains l.lines.items m → (e : Declared)
      × Contains (take l.declared-index l.resources) e × IsLineFor e m;
  has : AreOnce l.resources → (e : Declared) → Contains (take l.declared-index l.resources) e
      → HasLineFor l.lines.items e;
  few : length l.lines.items ≤ l.declared-index;
}
