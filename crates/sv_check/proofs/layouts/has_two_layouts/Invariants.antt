use Rattle.sv_check.proofs.FirstUses.{AreFirsts}
use Rattle.sv_check.proofs.layouts.has_two_layouts.Given as goal

abbrev pub invariant-loop-u : goal.invariant-loop-u
invariant-loop-u l = AreFirsts l.uses l.u-index l.firsts
