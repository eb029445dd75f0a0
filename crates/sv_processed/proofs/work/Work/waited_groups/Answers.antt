use Rattle.std.proofs.Common.{Option, sym, subst}
use Rattle.std.specs.Prelude.{IfSome}
use Rattle.std.specs.List.{All}
use Rattle.std.proofs.lemmas.Result.{IfOk-weaker}
use Rattle.sv_model.specs.Events.{wait_half}
use Rattle.sv_model.specs.Primitives.{InForce}
use Rattle.sv_step_laws.specs.Steps.{IsGroupOf}
use Rattle.sv_step_laws.proofs.Areas.{halves_are, wait_is}
use Rattle.sv_processed.proofs.work.Work.waited_groups.Goals as goal

pub returns-in-Set-clause-fit : goal.returns-in-Set-clause-fit
returns-in-Set-clause-fit c = IfOk-weaker c.wait_halves.result _ _ (λ groups e t fits.
    let set = c.in-Set.ensures fits.left fits.events in
    let are = subst (λ (o : Option InForce). IfSome o (λ (x : InForce). All (IsGroupOf t) x.groups)) set
    (fits.sets c.args.event) in
    subst (All (IsGroupOf t)) (sym e) (halves_are t (wait_half c.args.place)
    (wait_is t c.args.place) _ c.as_slice.result.now
    (subst (All (IsGroupOf t)) (sym c.as_slice.ensures) are))) c.wait_halves.ensures
