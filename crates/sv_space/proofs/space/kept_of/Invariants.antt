use Rattle.std.proofs.Common.{◌≡◌, ◌≤◌, ◌+◌, ◌*◌, ℕ, List, length, take}
use Rattle.std.specs.Prelude.{sum_by}
use Rattle.sv_model.specs.Size.{capped}
use Rattle.sv_model.specs.declared.work.Step.{Step}
use Rattle.sv_space.specs.Counts.{kept_by}
use Rattle.sv_space.specs.KeptLaws.{IsBoundedWork}
use Rattle.sv_space.specs.Pieces.{IsLineOf}
use Rattle.sv_space.specs.Steps.{AreInOrder}
use Rattle.sv_space.proofs.space.kept_of.Given as goal

abbrev pub invariant-loop-index : goal.invariant-loop-index
invariant-loop-index l = record {
  number : l.all ≡ capped (sum_by kept_by (take l.index l.line.pieces.parts.items));
  few : (work : List Step) (queues : List ℕ) (most : ℕ) → AreInOrder work → IsBoundedWork queues most work
      → IsLineOf work l.line.res l.line.shape l.line.pieces.parts.items
      → l.all ≤ (most + 17 * length queues) * l.index;
}
