use Rattle.std.proofs.Common.{◌≡◌, take}
use Rattle.std.specs.List.{filter_map}
use Rattle.sv_model.specs.Declarations.{queue_number}
use Rattle.sv_core.proofs.calls.queue_numbers.Given as goal

abbrev pub invariant-loop-line : goal.invariant-loop-line
invariant-loop-line l = l.queues ≡ filter_map queue_number (take l.line-index l.lines)
