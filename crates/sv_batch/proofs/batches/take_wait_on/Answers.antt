use Rattle.std.proofs.Common.{subst, sym}
use Rattle.std.specs.List.{All}
use Rattle.std.proofs.lemmas.List.Elements.{All-append}
use Rattle.sv_step_laws.specs.Steps.{IsGroupOf}
use Rattle.sv_batch.specs.Running.{pairing_groups}
use Rattle.sv_batch.proofs.UsesTaken.{left_waited, pairing_fits}
use Rattle.sv_batch.proofs.batches.take_wait_on.Goals as goal

pub returns-clause-left : goal.returns-clause-left
returns-clause-left c t m finds left =
    let wait = c.args.wait.now in
    left_waited t m c.args.work.now c.take.new.self wait
    (c.take.ensures t m wait.value wait.stages left.semaphores finds) left

pub returns-clause-fit : goal.returns-clause-fit
returns-clause-fit c t all =
    let wait = c.args.wait.now in
    let pairing = c.pair-pairing.result in
    subst (All (IsGroupOf t)) (sym c.in_ok-push_wait.ensures)
    (All-append (IsGroupOf t) c.args.groups.now (pairing_groups c.args.run wait pairing) all
    (pairing_fits t c.args.run wait pairing))
