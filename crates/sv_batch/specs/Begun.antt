-- How many instances of render scopes the recordings of a trace begin, by their numbers.
use Rattle.std.specs.Prelude.{ℕ, ◌≡◌, ◌==◌, List, Option, Some, None, count_by, find, unwrap_or}
use Rattle.std.specs.Prelude.{if◌then◌else◌}
use Rattle.std.specs.BTreeMap.{BTreeMap, get}
use Rattle.std.specs.Option.{option_map, option_or}
use Rattle.std.specs.Ordering.{nat_cmp}
use Rattle.sv_model.specs.Binding.{instances_of}
use Rattle.sv_model.specs.Recordings.{begins}
use Rattle.sv_model.specs.Declarations.{first_recording}
use Rattle.sv_model.specs.declared.line.Recording.{Recording}
use Rattle.sv_model.specs.declared.line.Trace.{Trace}

abbrev pub begun_in : Recording → ℕ
begun_in r = count_by begins r.commands

-- the table has each number of a recording, with the instances of the first recording of that number
abbrev pub HaveInstances : List Recording → BTreeMap ℕ ℕ → Type 0
HaveInstances recordings table = (number : ℕ) → get nat_cmp table number
    ≡ option_map begun_in (first_recording recordings number)

-- a count is noted for a number, where none was noted before
abbrev pub Notes : BTreeMap ℕ ℕ → BTreeMap ℕ ℕ → ℕ → ℕ → Type 0
Notes old new number count = (n : ℕ) → get nat_cmp new n
    ≡ option_or (get nat_cmp old n) (if number == n then Some count else None)

-- the table tells the instances of each recording of the trace
abbrev pub AreInstancesOf : Trace → BTreeMap ℕ ℕ → Type 0
AreInstancesOf t table = (number : ℕ) → unwrap_or (get nat_cmp table number) 0 ≡ instances_of t number
