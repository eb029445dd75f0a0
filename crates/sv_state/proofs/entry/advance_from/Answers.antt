use Rattle.std.proofs.Common.{◌<◌, arith, length, subst, sym}
use Rattle.sv_state.specs.declared.entry.Entry.{Entry}
use Rattle.sv_state.specs.States.{HasAdvanced}
use Rattle.sv_state.proofs.Changes.{changing_next}
use Rattle.sv_state.proofs.entry.advance_from.Goals as goal

pub loop-i-preserved : goal.loop-i-preserved
loop-i-preserved c =
    let was = c.loop-i.invariant in
    let behind = was.behind in
    let below : c.loop-i.i < length c.loop-i.entries = omega (arith, was.changed.long) in
    record {
      behind = omega (arith, behind);
      changed = changing_next HasAdvanced c.args.from c.loop-i.i c.args.entries.now c.loop-i.entries
          c.index-entries-i.result c.advance.new.e behind below c.index-entries-i.is
          (subst (λ (y : Entry). HasAdvanced y c.advance.new.e) (sym c.index-entries-i.is)
          c.in_ok-advance.ensures)
          was.changed;
    }
