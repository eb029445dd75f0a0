use Rattle.std.proofs.Common.{◌≡◌, take}
use Rattle.sv_state.specs.Numbers.{subs_masks}
use Rattle.sv_state.proofs.subs.copies_of.Given as goal

abbrev pub invariant-loop-p : goal.invariant-loop-p
invariant-loop-p l = subs_masks l.copies.items ≡ subs_masks (take l.p-index l.subs)
