use Rattle.std.proofs.Common.{◌∙◌}
use Rattle.sv_lines.proofs.Found.{standing_found}
use Rattle.sv_lines.proofs.taken.TakenLines.standing.Goals as goal

pub returns : goal.returns
returns c = c.standing_of.ensures ∙ standing_found c.args.self.now.trace c.args.rec c.recording.result
    c.recording.ensures
