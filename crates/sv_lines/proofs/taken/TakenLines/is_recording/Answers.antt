use Rattle.std.proofs.Common.{◌≡◌, ◌∙◌, subst}
use Rattle.sv_rules.specs.Taken.{Taken}
use Rattle.sv_rules.specs.Places.{is_recording}
use Rattle.sv_lines.proofs.taken.TakenLines.is_recording.Goals as goal

pub returns : goal.returns
returns c = subst (λ (s : Taken). c.is_recording.result ≡ is_recording s.trace c.args.recorder)
    c.self.view_is (c.is_recording.ensures ∙ c.self.invariant.recorded.busy c.args.recorder)
