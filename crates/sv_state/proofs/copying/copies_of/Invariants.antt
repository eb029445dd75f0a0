use Rattle.std.proofs.Common.{◌≡◌, map, take}
use Rattle.sv_state.specs.Contents.{item_of}
use Rattle.sv_state.proofs.copying.copies_of.Given as goal

abbrev pub invariant-loop-e : goal.invariant-loop-e
invariant-loop-e l = map item_of l.copies.items ≡ map item_of (take l.e-index l.entries)
