use Rattle.std.proofs.Common.{◌≡◌, ◌++◌, drop, string_bytes}
use Rattle.sv_report.specs.Text.{events_text}
use Rattle.sv_report.proofs.events.push_events.Given as goal

abbrev pub invariant-loop-i : goal.invariant-loop-i
invariant-loop-i l = string_bytes l.text ++ events_text l.trace l.i (drop l.i l.marks) (drop l.i l.replies)
    ≡ string_bytes l.initial.text ++ events_text l.trace 0 l.marks l.replies
