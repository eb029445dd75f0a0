use Rattle.std.proofs.Common.{◌∙◌, ap, count_by, List}
use Rattle.std.specs.BTreeMap.{get}
use Rattle.std.specs.Ordering.{nat_cmp}
use Rattle.sv_model.specs.Recordings.{begins}
use Rattle.sv_model.specs.declared.line.Command.{Command}
use Rattle.sv_batch.proofs.MoreRecordings.{instances_more}
use Rattle.sv_batch.proofs.instances.instances_of.Goals as goal

pub loop-recording-preserved : goal.loop-recording-preserved
loop-recording-preserved c n =
    instances_more c.args.recordings.now c.loop-recording.recording-index n c.begun-count.result
    c.recording-item.result _ (get nat_cmp c.note.new.table n)
    c.loop-recording-test.true c.recording-item.is
    (c.begun-count.ensures ∙ ap (λ (list : List Command). count_by begins list) c.as_slice.ensures)
    (c.loop-recording.invariant n) (c.in_ok-note.ensures n)
