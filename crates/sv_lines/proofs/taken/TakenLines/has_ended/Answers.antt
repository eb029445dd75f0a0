use Rattle.std.proofs.Common.{◌≡◌, ◌∙◌, subst}
use Rattle.sv_rules.specs.Taken.{Taken, has_ended}
use Rattle.sv_lines.proofs.Found.{ended_found, known_found}
use Rattle.sv_lines.proofs.taken.TakenLines.has_ended.Goals as goal

pub returns : goal.returns
returns c =
    let recorded = c.self.invariant.recorded in
    subst (λ (s : Taken). c.ended_of.result ≡ has_ended s.trace c.args.rec) c.self.view_is
    (c.ended_of.ensures ∙ ended_found _ c.args.rec c.get.result
    (c.get.ensures ∙ known_found _ c.self.inside.recordings.known.items c.self.inside.recordings.places
    c.args.rec recorded.known (recorded.places c.args.rec))
    (recorded.unknown c.args.rec))
