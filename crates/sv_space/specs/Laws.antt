-- What holds of every space.
use Rattle.std.specs.Prelude.{◌≤◌, ◌+◌, ◌*◌, List, length}
use Rattle.sv_model.specs.declared.line.Trace.{Trace}
use Rattle.sv_model.specs.declared.work.Step.{Step}
use Rattle.sv_space.specs.Runs.{runs_in}
use Rattle.sv_space.specs.Space.{HasResources, IsSpaceOf, pieces_in}
use Rattle.sv_space.specs.declared.space.Space.{Space}

-- It has at most one piece for each declared resource, and two more for each run of its work.
abbrev pub PiecesAreFew : Type 0
PiecesAreFew = (t : Trace) (work : List Step) (space : Space) → HasResources t space → IsSpaceOf space work
    → pieces_in space ≤ length t.resources + 2 * runs_in work
