use Rattle.std.proofs.Common.{◌≡◌, ℕ, ◌<◌, Some, drop, length, slice_get}
use Rattle.sv_device.specs.Actors.{actors_of, events_of, script_of}
use Rattle.sv_device.specs.declared.who.Who.{Who}
use Rattle.sv_device.proofs.finish.finish.Given as goal

abbrev pub invariant-loop : goal.invariant-loop
invariant-loop g l = record {
  rest : l.actors.items ≡ drop l.counter l.fn.actors.items;
  kept : l.kept ≡ l.fn.kept;
  whole : (i : ℕ) (who : Who) → i < l.counter → slice_get (actors_of g.C.Case.trace) i ≡ Some who
      → length (events_of g.C.Case.trace who l.fn.kept.history) ≡ length (script_of g.C.Case.trace who);
}
