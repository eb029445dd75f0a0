use Rattle.std.proofs.Common.{◌≡◌, ℕ, ◌<◌, Some, drop, length, slice_get, slice_index_or}
use Rattle.sv_device.specs.Actors.{actor_is}
use Rattle.sv_device.specs.declared.who.Who.{Who}
use Rattle.sv_device.proofs.device.seated.Given as goal

abbrev pub invariant-loop-who : goal.invariant-loop-who
invariant-loop-who g l = record {
  count : length l.actors.items ≡ l.who-index;
  rest : l.shares.items ≡ drop l.who-index l.fn.shares;
  each : (i : ℕ) (who : Who) (d : _) → i < l.who-index → slice_get l.all i ≡ Some who
      → slice_index_or l.actors.items i d ≡ actor_is who i 0;
}
