use Rattle.std.proofs.Common.{◌≡◌, ◌<◌, true, sym, subst}
use Rattle.sv_rules.specs.Named.{is_new_semaphore}
use Rattle.sv_rules.specs.Taken.{Taken}
use Rattle.sv_lines.proofs.Kept.{semaphore_again, semaphore_kept}
use Rattle.sv_lines.proofs.taken.TakenLines.keep_semaphore.Goals as goal

pub invariant_of-self : goal.invariant_of-self
invariant_of-self c = semaphore_again c.self.inside c.push.new.self.lines.items c.push.new.self.table
    c.self.invariant c.in_err-push.ensures.fault.0 c.in_err-push.ensures.fault.1

pub invariant_of-self-2 : goal.invariant_of-self-2
invariant_of-self-2 c = semaphore_kept c.self.inside c.push.new.self.lines.items c.push.new.self.table
    c.args.sem c.args.kind c.args.initial c.self.invariant
    (subst (λ (s : Taken). s.lines < 1000000) (sym c.self.view_is) c.requires.few)
    (subst (λ (s : Taken). is_new_semaphore s.trace c.args.sem ≡ true) (sym c.self.view_is) c.requires.first)
    c.in_ok-push.ensures.lines c.in_ok-push.ensures.table
