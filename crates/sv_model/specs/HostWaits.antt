-- The steps of host calls: waits for a fence, a queue and the device ("Fences", "Wait Idle Operations").
use Rattle.std.specs.Prelude.{ℕ, List, [], ◌∷◌, Option, Some, map}
use Rattle.std.specs.List.{flat_map}
use Rattle.sv_mask.specs.Scopes.{with_signal, device_stages, device_usages}
use Rattle.sv_model.specs.declared.line.Trace.{Trace}
use Rattle.sv_model.specs.declared.line.Line.{Line}
use Rattle.sv_model.specs.declared.line.Line.TheVariants.{WaitFence, ResetFence, WaitQueue, WaitDevice}
use Rattle.sv_model.specs.declared.work.Track.TheVariants.{Queue}
use Rattle.sv_model.specs.declared.work.FenceState.{FenceState}
use Rattle.sv_model.specs.declared.work.Group.{Group}
use Rattle.sv_model.specs.declared.work.Step.TheVariants.{Groups}
use Rattle.sv_model.specs.Declarations.{queues_of}
use Rattle.sv_model.specs.Primitives.{Made}
use Rattle.sv_model.specs.Fences.{fence_state, fence_reset}
use Rattle.sv_model.specs.Places.{Bound, Run}
use Rattle.sv_model.specs.QueueGroups.{place_in, group_from, from_token}
use Rattle.sv_model.specs.declared.work.FenceState.TheVariants as fence

-- to the later commands of each queue
abbrev pub to_queues : Trace → (ℕ → Group) → List Group
to_queues t group = map group (queues_of t)

abbrev pub host_step : Run → List Group → List Bound
host_step r groups = record { step = Groups groups; event = r.released; notes = [] } ∷ []

abbrev pub fence_waited : Trace → Run → FenceState → List Bound
fence_waited t r (fence.Token token) = host_step r
    (to_queues t (λ (q : ℕ). from_token (place_in r) token q device_stages device_usages))
fence_waited t r s = []

-- all that queue p did, before all that comes on any queue
abbrev pub queue_groups : Trace → Run → ℕ → List Group
queue_groups t r p = to_queues t (λ (q : ℕ). group_from (place_in r) (Queue p)
    (with_signal device_stages) device_usages (Queue q) device_stages device_usages)

abbrev pub call_given : Trace → Run → Made → Option Line → List Bound
call_given t r m (Some (WaitFence lane f)) = fence_waited t r (fence_state t m f)
call_given t r m (Some (WaitQueue lane p)) = host_step r (queue_groups t r p)
call_given t r m (Some (WaitDevice lane)) = host_step r (flat_map (queue_groups t r) (queues_of t))
call_given t r m _ = []

abbrev pub call_made : Made → Option Line → Made
call_made m (Some (ResetFence lane f)) = fence_reset m f
call_made m _ = m
