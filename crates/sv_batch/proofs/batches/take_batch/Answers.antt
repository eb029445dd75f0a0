use Rattle.std.proofs.Common.{ℕ, List, subst, sym}
use Rattle.std.specs.List.{All}
use Rattle.std.proofs.lemmas.Result.{on_ok_weaker}
use Rattle.sv_model.specs.declared.line.SemaphoreUse.{SemaphoreUse}
use Rattle.sv_batch.specs.Running.{IsThere, are_recordings_after}
use Rattle.sv_batch.proofs.WholeBatch.{SignalsAfter, WaitsAfter, batch_taken}
use Rattle.sv_batch.proofs.batches.take_batch.Goals as goal

pub returns-clause-at : goal.returns-clause-at
returns-clause-at c =
    let r = c.args.run in
    let b = c.args.batch.now in
    let w = c.args.work.now in
    let u = c.take_waits.new.work in
    let v = c.take_recordings.new.work in
    let z = c.take_signals.new.work in
    on_ok_weaker c.take_signals.result (λ signals t event old more m is ready there at. batch_taken t r b w
    u v z
    (subst (λ (us : List SemaphoreUse). WaitsAfter t r us w u) c.as_slice.ensures
    (c.in_ok-take_waits.ensures.at t))
    (subst (λ (ks : List ℕ). are_recordings_after r ks t u v) c.as_slice-2.ensures
    (c.in_ok-take_recordings.ensures.at t (subst (All (IsThere t c.args.recordings.now))
    (sym c.as_slice-2.ensures) there)))
    (subst (λ (us : List SemaphoreUse). SignalsAfter t r us v z) c.as_slice-3.ensures (signals t))
    is event old more m ready at) c.take_signals.ensures.at
