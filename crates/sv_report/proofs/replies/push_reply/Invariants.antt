use Rattle.std.proofs.Common.{◌≡◌, ◌≤◌, ◌++◌, length, drop, string_bytes}
use Rattle.sv_report.specs.Replies.{entries}
use Rattle.sv_report.proofs.replies.push_reply.Given as goal

abbrev pub invariant-loop-i : goal.invariant-loop-i
invariant-loop-i l = record {
  inside : l.done ≤ length l.notes;
  lines : string_bytes l.text ++ entries l.i (drop l.i l.reports) (drop l.done l.notes)
      ≡ string_bytes l.initial.text ++ entries 0 l.reports l.notes;
}
