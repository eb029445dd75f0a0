use Rattle.std.proofs.Common.{◌≡◌, ◌∙◌, subst}
use Rattle.sv_rules.specs.Taken.{Taken}
use Rattle.sv_lines.specs.Sound.{known_in}
use Rattle.sv_lines.proofs.Found.{known_found}
use Rattle.sv_lines.proofs.taken.TakenLines.recording.Goals as goal

pub returns : goal.returns
returns c = subst (λ (s : Taken). c.get.result ≡ known_in s.trace c.args.rec) c.self.view_is
    (c.get.ensures ∙ known_found _ c.self.inside.recordings.known.items c.self.inside.recordings.places
    c.args.rec c.self.invariant.recorded.known (c.self.invariant.recorded.places c.args.rec))
