use Rattle.std.proofs.Common.{◌≡◌, false, take}
use Rattle.std.specs.List.{list_any}
use Rattle.sv_rules.specs.Places.{has_two_layouts}
use Rattle.sv_check.proofs.layouts.any_two_layouts.Given as goal

abbrev pub invariant-loop-uses : goal.invariant-loop-uses
invariant-loop-uses l = list_any has_two_layouts (take l.uses-index l.subpasses) ≡ false
