use Rattle.std.proofs.Common.{◌≡◌, ◌<◌, true, sym, subst}
use Rattle.sv_rules.specs.Named.{is_new_queue}
use Rattle.sv_rules.specs.Taken.{Taken}
use Rattle.sv_lines.proofs.Kept.{queue_again, queue_kept}
use Rattle.sv_lines.proofs.taken.TakenLines.keep_queue.Goals as goal

pub invariant_of-self : goal.invariant_of-self
invariant_of-self c = queue_again c.self.inside c.push.new.self.lines.items c.push.new.self.table
    c.self.invariant c.in_err-push.ensures.fault.0 c.in_err-push.ensures.fault.1

pub invariant_of-self-2 : goal.invariant_of-self-2
invariant_of-self-2 c = queue_kept c.self.inside c.push.new.self.lines.items c.push.new.self.table
    c.args.queue c.args.family c.args.lane c.self.invariant
    (subst (λ (s : Taken). s.lines < 1000000) (sym c.self.view_is) c.requires.few)
    (subst (λ (s : Taken). is_new_queue s.trace c.args.queue ≡ true) (sym c.self.view_is) c.requires.first)
    c.in_ok-push.ensures.lines c.in_ok-push.ensures.table
