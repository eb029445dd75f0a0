use Rattle.std.proofs.Common.{◌∙◌}
use Rattle.sv_lines.proofs.Found.{size_found}
use Rattle.sv_lines.proofs.taken.TakenLines.size_of_recording.Goals as goal

pub returns : goal.returns
returns c = c.size_of.ensures ∙ size_found c.args.self.now.trace c.args.rec c.recording.result
    c.recording.ensures
