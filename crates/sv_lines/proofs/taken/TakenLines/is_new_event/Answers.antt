use Rattle.std.proofs.Common.{◌≡◌, ◌∙◌, subst}
use Rattle.sv_rules.specs.Taken.{Taken}
use Rattle.sv_rules.specs.Named.{is_new_event}
use Rattle.sv_lines.proofs.Found.{event_new}
use Rattle.sv_lines.proofs.taken.TakenLines.is_new_event.Goals as goal

pub returns : goal.returns
returns c = subst (λ (s : Taken). c.is_none.result ≡ is_new_event s.trace c.args.event) c.self.view_is
    (event_new _ c.args.event c.get.result c.is_none.result
    (c.get.ensures ∙ c.self.invariant.declared.events c.args.event) c.is_none.ensures)
