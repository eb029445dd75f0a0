use Rattle.std.proofs.Common.{◌≡◌, ◌≤◌, ◌-◌, ◌⊎◌, ◌++◌}
use Rattle.std.specs.List.{range_with_len}
use Rattle.sv_space.proofs.places.push_numbers.Given as goal

abbrev pub invariant-loop-number : goal.invariant-loop-number
invariant-loop-number l = record {
  items : l.list.items ≡ l.initial.list.items ++ range_with_len l.from (l.number - l.from);
  inside : (l.number ≡ l.from) ⊎ (l.number ≤ l.end);
}
