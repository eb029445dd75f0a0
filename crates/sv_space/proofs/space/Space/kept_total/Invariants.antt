use Rattle.std.proofs.Common.{◌≡◌, ◌≤◌, ◌+◌, ◌*◌, ℕ, List, length, take}
use Rattle.std.specs.Prelude.{sum_by}
use Rattle.sv_model.specs.Size.{capped}
use Rattle.sv_model.specs.declared.work.Step.{Step}
use Rattle.sv_space.specs.AllLines.{AreLinesOf}
use Rattle.sv_space.specs.Counts.{kept_on, pieces_on}
use Rattle.sv_space.specs.KeptLaws.{IsBoundedWork}
use Rattle.sv_space.specs.Steps.{AreInOrder}
use Rattle.sv_space.proofs.space.Space.kept_total.Given as goal

abbrev pub invariant-loop-line : goal.invariant-loop-line
invariant-loop-line l = record {
  number : l.all ≡ capped (sum_by kept_on (take l.line-index l.self.lines.items));
  few : (work : List Step) (queues : List ℕ) (most : ℕ) → AreInOrder work → IsBoundedWork queues most work
      → AreLinesOf work l.self.lines.items
      → l.all ≤ (most + 17 * length queues) * sum_by pieces_on (take l.line-index l.self.lines.items);
}
