use Rattle.sv_lines.proofs.Found.{recording_new}
use Rattle.sv_lines.proofs.taken.TakenLines.is_new_recording.Goals as goal

pub returns : goal.returns
returns c = recording_new c.args.self.now.trace c.args.rec c.recording.result c.is_none.result
    c.recording.ensures c.is_none.ensures
