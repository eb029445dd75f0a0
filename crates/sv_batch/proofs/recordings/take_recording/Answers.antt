use Rattle.sv_batch.proofs.OneRecording.{recording_taken}
use Rattle.sv_batch.proofs.recordings.take_recording.Goals as goal

pub returns-clause-at : goal.returns-clause-at
returns-clause-at c t k is = recording_taken c.args.run k t c.args.published.now c.args.work.now
    c.take_steps.new.work c.as_slice.result.now c.in_ok-work.field-0 is c.as_slice.ensures
    c.in_ok-take_steps.ensures.at c.in_ok-work.ensures
