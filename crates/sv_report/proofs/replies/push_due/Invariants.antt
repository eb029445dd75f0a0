use Rattle.std.proofs.Common.{◌≡◌, ◌+◌, ◌-◌, ◌≤◌, ◌++◌, length, drop, string_bytes}
use Rattle.std.specs.List.{flat_map}
use Rattle.sv_report.specs.Notes.{note_line}
use Rattle.sv_report.specs.Replies.{due}
use Rattle.sv_report.proofs.replies.push_due.Given as goal

abbrev pub invariant-loop-count : goal.invariant-loop-count
invariant-loop-count l = record {
  inside : l.count ≤ length l.notes;
  counted : l.count + length (due l.number (drop l.count l.notes)) ≡ length (due l.number l.notes);
  lines : string_bytes l.text ++ flat_map note_line (due l.number (drop l.count l.notes))
      ≡ string_bytes l.initial.text ++ flat_map note_line (due l.number l.notes);
}

abbrev pub decreases-loop-count : goal.decreases-loop-count
decreases-loop-count l = length l.notes - l.count
