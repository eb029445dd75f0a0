use Rattle.std.proofs.Common.{◌<◌, ◌∙◌, List, ap, fold, length, subst, take, take_all}
use Rattle.std.proofs.lemmas.Result.{on_ok_weaker}
use Rattle.sv_model.specs.Semaphores.{signal_given, timeline_notes, signaled}
use Rattle.sv_model.specs.Lists.{gather}
use Rattle.sv_model.specs.Primitives.{Made}
use Rattle.sv_model.specs.declared.line.SemaphoreUse.{SemaphoreUse}
use Rattle.sv_binding.specs.Runs.{run_for}
use Rattle.sv_processed.specs.Works.{IsLeft}
use Rattle.sv_batch.proofs.OneMore.{folded_next, gathered_next}
use Rattle.sv_batch.proofs.UsesTaken.{fits_alike, step_at}
use Rattle.sv_batch.proofs.batches.take_signals.Goals as goal

pub loop-signal-preserved : goal.loop-signal-preserved
loop-signal-preserved c =
    let signals = c.args.signals.now in
    let i = c.loop-signal.signal-index in
    let lt : i < length signals = c.loop-signal-test.true in
    let inv = c.loop-signal.invariant in
    let after = c.in_ok-take_signal.ensures in record {
      checks = c.take_signal.ensures.checks ∙ inv.checks;
      vulkan_events = c.take_signal.ensures.events ∙ inv.vulkan_events;
      left = λ t m ready left. subst (λ (k : Made). IsLeft t k c.take_signal.new.work)
          (folded_next (signaled t) m signals i _ lt)
          (after.left t (fold (signaled t) m (take i signals)) (ready.uses i _ lt) (ready.room i _ lt)
          (inv.left t m ready left));
      groups = λ t event m ready left. gathered_next (signaled t)
          (signal_given t (run_for event c.args.run)) m signals i _ c.loop-signal.groups
          c.take_signal.new.groups lt
          (after.groups t event (fold (signaled t) m (take i signals)) (ready.uses i _ lt)
          (inv.left t m ready left)) (inv.groups t event m ready left);
      notes = λ t event m ready left. gathered_next (signaled t)
          (timeline_notes t (run_for event c.args.run)) m signals i _ c.loop-signal.notes
          c.take_signal.new.notes lt
          (after.notes t event (fold (signaled t) m (take i signals)) (ready.uses i _ lt)
          (inv.left t m ready left)) (inv.notes t event m ready left);
      fit = λ t. after.fit t (inv.fit t);
      none = after.none inv.none;
    }

pub take_groups-requires-clause-groups : goal.take_groups-requires-clause-groups
take_groups-requires-clause-groups c = record {
  trace = c.requires.trace;
  fits = fits_alike c.requires.trace c.args.work.now c.loop-signal.work c.loop-signal.invariant.checks
      c.loop-signal.invariant.vulkan_events c.requires.fits;
  step = c.loop-signal.invariant.fit c.requires.trace;
}

pub returns-clause-at : goal.returns-clause-at
returns-clause-at c =
    let inv = c.loop-signal.invariant in
    let all = take_all c.loop-signal.signal-index c.args.signals.now c.loop-signal-test.false in
    on_ok_weaker c.take_groups.result (λ at t event old more m ready is.
    step_at t event old more m (fold (signaled t) m c.args.signals.now) c.args.work.now c.loop-signal.work
    c.take_groups.new.self c.loop-signal.groups
    (gather (signaled t) (signal_given t (run_for event c.args.run)) m c.args.signals.now)
    c.loop-signal.notes (gather (signaled t) (timeline_notes t (run_for event c.args.run)) m
    c.args.signals.now) at is inv.checks
    (subst (λ (us : List SemaphoreUse). IsLeft t (fold (signaled t) m us) c.loop-signal.work) all
    (inv.left t m ready is.left))
    (inv.groups t event m ready is.left ∙ ap (gather (signaled t)
    (signal_given t (run_for event c.args.run)) m) all)
    (inv.notes t event m ready is.left ∙ ap (gather (signaled t)
    (timeline_notes t (run_for event c.args.run)) m) all)) c.take_groups.ensures.at
