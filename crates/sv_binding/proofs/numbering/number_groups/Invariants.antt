use Rattle.std.proofs.Common.{◌≡◌}
use Rattle.sv_model.specs.Positions.{groups_from}
use Rattle.std.specs.List.{All}
use Rattle.sv_model.specs.Size.{HasShortOlds}
use Rattle.sv_binding.proofs.Counting.{count_of}
use Rattle.sv_binding.proofs.numbering.number_groups.Given as goal

abbrev pub invariant-loop-group : goal.invariant-loop-group
invariant-loop-group l = (l.numbered ≡ groups_from l.step 0 l.yielded) × (l.pos ≡ count_of l.yielded)
    × All HasShortOlds l.numbered
