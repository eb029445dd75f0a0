use Rattle.std.proofs.Common.{◌≡◌, ◌<◌, ◌+◌, false, ◌-◌, ◌^◌, ◌∙◌, min, sym, subst}
use Rattle.sv_model.specs.Size.{capped}
use Rattle.sv_rules.specs.Limits.{size_so_far, added_size}
use Rattle.sv_rules.specs.Places.{submits_wrongly}
use Rattle.sv_rules.specs.Taken.{Taken}
use Rattle.sv_lines.proofs.Calling.{call_again, call_kept}
use Rattle.sv_lines.proofs.Sums.{both_capped}
use Rattle.sv_lines.proofs.taken.TakenLines.keep_call.Goals as goal

pub invariant_of-self : goal.invariant_of-self
invariant_of-self c = call_again c.self.inside c.call.new.self.lanes c.call.new.self.recorders
    c.call.new.self.order.items c.self.invariant c.in_err-call.ensures.fault.0
    c.in_err-call.ensures.recorders c.in_err-call.ensures.fault.1

pub invariant_of-self-2 : goal.invariant_of-self-2
unfolding size_so_far added_size
invariant_of-self-2 c = call_kept c.self.inside c.call.new.self.lanes c.call.new.self.recorders
    c.call.new.self.order.items c.args.lane c.saturating_add-size.result c.args.line c.self.invariant
    (subst (λ (s : Taken). s.lines < 1000000) (sym c.self.view_is) c.requires.few) c.requires.lane
    c.in_ok-call.ensures.lanes c.in_ok-call.ensures.recorders c.in_ok-call.ensures.order
    (subst (λ (s : Taken). submits_wrongly s.trace c.args.line ≡ false) (sym c.self.view_is) c.requires.ended)
    (c.saturating_add-size.ensures ∙ subst (λ (s : Taken). min (c.size.result + c.call_size.result)
    (2 ^ 64 - 1) ≡ capped (size_so_far s + added_size s c.args.line)) (sym c.self.view_is)
    (both_capped c.size.result c.call_size.result _ _ c.size.ensures c.call_size.ensures))
