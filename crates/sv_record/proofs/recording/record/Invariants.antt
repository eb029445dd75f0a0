use Rattle.std.proofs.Common.{◌≡◌}
use Rattle.sv_record.proofs.recording.record.Given as goal

abbrev pub invariant-loop-command : goal.invariant-loop-command
invariant-loop-command l = l.context ≡ record { trace = l.trace; number = l.number; pushed = l.command-index }
