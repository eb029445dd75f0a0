use Rattle.std.proofs.Common.{ℕ, List, refl, sym, subst}
use Rattle.std.specs.List.{All, flat_map}
use Rattle.std.proofs.lemmas.Result.{on_ok_weaker}
use Rattle.sv_model.specs.Declarations.{queues_of}
use Rattle.sv_model.specs.HostWaits.{host_step, queue_groups}
use Rattle.sv_model.specs.Primitives.{Made}
use Rattle.sv_model.specs.QueueGroups.{place_in}
use Rattle.sv_model.specs.declared.work.Place.{Place}
use Rattle.sv_binding.specs.Runs.{run_for}
use Rattle.sv_step_laws.specs.Steps.{IsGroupOf}
use Rattle.sv_core.specs.Taking.{queue_groups_on}
use Rattle.sv_core.proofs.HostWaits.{device_groups_are, host_done, may_take, same_groups}
use Rattle.sv_core.proofs.calls.take_device_wait.Goals as goal

pub take_groups-requires-clause-groups : goal.take_groups-requires-clause-groups
take_groups-requires-clause-groups c =
    may_take c.args.work.now c.args.work.now c.in_ok-groups.groups refl refl
    (λ t. subst (All (IsGroupOf t)) (sym c.in_ok-groups.ensures)
    (device_groups_are t c.place_in.result c.as_slice-2.result.now c.as_slice-2.result.now)) c.requires

pub returns-clause-at : goal.returns-clause-at
returns-clause-at c =
    let same = same_groups (λ (p : Place) (qs : List ℕ). flat_map (queue_groups_on p qs) qs)
    c.args.trace.now c.place_in.result (place_in (run_for 0 c.args.run)) c.in_ok-groups.groups
    c.as_slice-2.result.now c.in_ok-queues.queues c.as_slice.result.now
    c.in_ok-groups.ensures c.place_in.ensures c.as_slice-2.ensures c.in_ok-queues.ensures c.as_slice.ensures
    in
    on_ok_weaker c.take_groups.result (λ at event.
    host_done c.args.trace.now event c.args.work.now c.take_groups.new.self c.in_ok-groups.groups
    (flat_map (queue_groups_on (place_in (run_for 0 c.args.run)) (queues_of c.args.trace.now))
    (queues_of c.args.trace.now)) c.new.result
    (λ (m : Made). host_step (run_for event c.args.run)
    (flat_map (queue_groups c.args.trace.now (run_for event c.args.run)) (queues_of c.args.trace.now))) at
    same c.new.ensures (λ m left. refl)) c.take_groups.ensures.at
