use Rattle.std.proofs.Common.{ℕ, List, ap, refl, sym, subst, ◌∙◌}
use Rattle.std.specs.List.{All}
use Rattle.std.proofs.lemmas.Result.{on_ok_weaker}
use Rattle.sv_model.specs.Declarations.{queues_of}
use Rattle.sv_model.specs.HostWaits.{fence_waited}
use Rattle.sv_model.specs.Primitives.{Made}
use Rattle.sv_model.specs.Fences.{fence_state}
use Rattle.sv_model.specs.QueueGroups.{place_in}
use Rattle.sv_model.specs.declared.work.FenceState.{FenceState}
use Rattle.sv_model.specs.declared.work.Place.{Place}
use Rattle.sv_binding.specs.Runs.{run_for}
use Rattle.sv_step_laws.specs.Steps.{IsGroupOf}
use Rattle.sv_core.specs.Taking.{token_groups}
use Rattle.sv_core.proofs.HostWaits.{host_done, may_take, same_groups, token_groups_are}
use Rattle.sv_core.proofs.calls.take_fence_wait.Goals as goal

pub take_groups-requires-clause-groups : goal.take_groups-requires-clause-groups
take_groups-requires-clause-groups c =
    may_take c.args.work.now c.args.work.now c.in_ok-groups-in-Token.groups refl refl
    (λ t. subst (All (IsGroupOf t)) (sym c.in_ok-groups-in-Token.ensures)
    (token_groups_are t c.place_in.result c.in-Token.token c.as_slice-in-Token.result.now)) c.requires

pub returns-in_ok-groups-in-Token-clause-at : goal.returns-in_ok-groups-in-Token-clause-at
returns-in_ok-groups-in-Token-clause-at c =
    let same = same_groups (λ (p : Place) (qs : List ℕ). token_groups p c.in-Token.token qs)
    c.args.trace.now c.place_in.result (place_in (run_for 0 c.args.run)) c.in_ok-groups-in-Token.groups
    c.as_slice-in-Token.result.now c.in_ok-queues-in-Token.queues c.as_slice.result.now
    c.in_ok-groups-in-Token.ensures c.place_in.ensures c.as_slice-in-Token.ensures
    c.in_ok-queues-in-Token.ensures c.as_slice.ensures in
    on_ok_weaker c.take_groups.result (λ at event is.
    host_done c.args.trace.now event c.args.work.now c.take_groups.new.self c.in_ok-groups-in-Token.groups
    (token_groups (place_in (run_for 0 c.args.run)) c.in-Token.token (queues_of c.args.trace.now))
    c.new.result
    (λ (m : Made). fence_waited c.args.trace.now (run_for event c.args.run)
    (fence_state c.args.trace.now m c.args.fence)) at same c.new.ensures
    (λ m left. ap (λ (s : FenceState). fence_waited c.args.trace.now (run_for event c.args.run) s)
    (sym (c.state.ensures c.args.trace.now m left.fences is) ∙ c.in-Token.is))) c.take_groups.ensures.at
