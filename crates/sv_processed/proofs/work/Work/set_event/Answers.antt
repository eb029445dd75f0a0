use Rattle.std.proofs.Common.{sym, subst}
use Rattle.std.specs.List.{All}
use Rattle.std.proofs.lemmas.List.Elements.{All-nil}
use Rattle.std.proofs.lemmas.Result.{IfOk-weaker}
use Rattle.sv_model.specs.Events.{set_half}
use Rattle.sv_step_laws.specs.Steps.{IsGroupOf}
use Rattle.sv_step_laws.proofs.Areas.{halves_are, set_is}
use Rattle.sv_processed.proofs.EventChanges.{fits_set}
use Rattle.sv_processed.proofs.work.Work.set_event.Goals as goal

pub returns-in_ok-self-clause-fits : goal.returns-in_ok-self-clause-fits
returns-in_ok-self-clause-fits c = IfOk-weaker c.set_halves.result _ _ (λ halves e t all fits. (
  fits_set t c.args.self.now c.set.new.self c.in_ok-self.field-0 c.args.event c.args.run.queue
      c.args.groups.now c.in_ok-set.ensures.stands all fits,
  subst (All (IsGroupOf t)) (sym e) (halves_are t set_half
      (set_is t) c.args.self.now.tokens c.as_slice.result.now
      (subst (All (IsGroupOf t)) (sym c.as_slice.ensures) all)),
)) c.set_halves.ensures

pub returns-else-branch-clause-fits : goal.returns-else-branch-clause-fits
returns-else-branch-clause-fits c = λ t all fits. (
  fits_set t c.args.self.now c.set.new.self c.args.self.now.tokens c.args.event c.args.run.queue
      c.args.groups.now c.in_ok-set.ensures.stands all fits,
  subst (All (IsGroupOf t)) (sym c.new.ensures) (All-nil (IsGroupOf t)),
)
