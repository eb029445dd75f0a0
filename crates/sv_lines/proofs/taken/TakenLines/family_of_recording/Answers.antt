use Rattle.std.proofs.Common.{◌∙◌}
use Rattle.sv_lines.proofs.Found.{family_found}
use Rattle.sv_lines.proofs.taken.TakenLines.family_of_recording.Goals as goal

pub returns : goal.returns
returns c = c.family_of.ensures ∙ family_found c.args.self.now.trace c.args.rec c.recording.result
    c.recording.ensures
