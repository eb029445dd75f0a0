use Rattle.std.proofs.Common.{◌≡◌, ◌<◌, true, sym, subst}
use Rattle.sv_rules.specs.Named.{is_new_fence}
use Rattle.sv_rules.specs.Taken.{Taken}
use Rattle.sv_lines.proofs.Kept.{fence_again, fence_kept}
use Rattle.sv_lines.proofs.taken.TakenLines.keep_fence.Goals as goal

pub invariant_of-self : goal.invariant_of-self
invariant_of-self c = fence_again c.self.inside c.push.new.self.lines.items c.push.new.self.table
    c.self.invariant c.in_err-push.ensures.fault.0 c.in_err-push.ensures.fault.1

pub invariant_of-self-2 : goal.invariant_of-self-2
invariant_of-self-2 c = fence_kept c.self.inside c.push.new.self.lines.items c.push.new.self.table
    c.args.fence c.args.signaled c.self.invariant
    (subst (λ (s : Taken). s.lines < 1000000) (sym c.self.view_is) c.requires.few)
    (subst (λ (s : Taken). is_new_fence s.trace c.args.fence ≡ true) (sym c.self.view_is) c.requires.first)
    c.in_ok-push.ensures.lines c.in_ok-push.ensures.table
