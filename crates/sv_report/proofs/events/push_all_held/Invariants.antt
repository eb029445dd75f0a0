use Rattle.std.proofs.Common.{◌≡◌, ◌++◌, take, string_bytes}
use Rattle.std.specs.List.{flat_map}
use Rattle.sv_report.specs.Notes.{held_line}
use Rattle.sv_report.proofs.events.push_all_held.Given as goal

abbrev pub invariant-loop-item : goal.invariant-loop-item
invariant-loop-item l = string_bytes l.text ≡ string_bytes l.initial.text
    ++ flat_map held_line (take l.item-index l.held)
