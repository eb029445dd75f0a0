-- The rows hold by computation.
use Rattle.std.specs.Prelude.{refl}
use Rattle.sv_mask.specs.Scopes.{number_where, first_sync, second_sync, access, usages_at}
use Rattle.sv_mask.specs.Usages.{usage_of}
use Rattle.sv_model.specs.Recordings.{lowered}
use Rattle.sv_model.specs.Holding.{step, settled, flow}
use Rattle.sv_model.specs.Work.{bound_steps}
use Rattle.sv_examples.specs.Rows.{Semaphore, WaitFirst, WaitFirstItems, Event, RenderPass, Subpasses}
use Rattle.sv_examples.specs.Rows.{Rendering, Acquire, Twice, TwiceSize, Sparse, IsHeld, FenceWait}

pub semaphore : Semaphore
unfolding number_where first_sync second_sync access usages_at usage_of lowered step settled flow bound_steps
semaphore = refl

pub wait_first : WaitFirst
unfolding number_where first_sync second_sync access usages_at usage_of lowered step settled flow bound_steps
wait_first = refl

pub wait_first_items : WaitFirstItems
unfolding number_where first_sync second_sync access usages_at usage_of lowered step settled flow bound_steps
wait_first_items = refl

pub event : Event
unfolding number_where first_sync second_sync access usages_at usage_of lowered step settled flow bound_steps
event = refl

pub render_pass : RenderPass
unfolding number_where first_sync second_sync access usages_at usage_of lowered step settled flow bound_steps
render_pass = refl

pub acquire : Acquire
unfolding number_where first_sync second_sync access usages_at usage_of lowered step settled flow bound_steps
acquire = refl

pub twice : Twice
unfolding number_where first_sync second_sync access usages_at usage_of lowered step settled flow bound_steps
twice = refl

pub twice_size : TwiceSize
unfolding number_where first_sync second_sync access usages_at usage_of lowered step settled flow bound_steps
twice_size = refl

pub sparse : Sparse
unfolding number_where first_sync second_sync access usages_at usage_of lowered step settled flow bound_steps
sparse = refl

pub is_held : IsHeld
unfolding number_where first_sync second_sync access usages_at usage_of lowered step settled flow bound_steps
is_held = refl

pub fence_wait : FenceWait
unfolding number_where first_sync second_sync access usages_at usage_of lowered step settled flow bound_steps
fence_wait = refl

pub subpasses : Subpasses
unfolding number_where first_sync second_sync access usages_at usage_of lowered step settled flow bound_steps
subpasses = refl

pub rendering : Rendering
unfolding number_where first_sync second_sync access usages_at usage_of lowered step settled flow bound_steps
rendering = refl
