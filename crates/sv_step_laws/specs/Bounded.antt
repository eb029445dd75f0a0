-- How many accesses the steps of a trace without render scopes have, and on which queues.
use Rattle.std.specs.Prelude.{◌≡◌, false, List}
use Rattle.std.specs.List.{All}
use Rattle.sv_model.specs.Declarations.{queues_of}
use Rattle.sv_model.specs.Lawful.{IsLawful}
use Rattle.sv_model.specs.Recordings.{begins}
use Rattle.sv_model.specs.Work.{work_steps}
use Rattle.sv_model.specs.declared.line.Command.{Command}
use Rattle.sv_model.specs.declared.line.Mark.{Mark}
use Rattle.sv_model.specs.declared.line.Recording.{Recording}
use Rattle.sv_model.specs.declared.line.Trace.{Trace}
use Rattle.sv_space.specs.KeptLaws.{IsBoundedWork}

-- no command begins dynamic rendering or a render pass
abbrev pub BeginNone : List Command → Type 0
BeginNone commands = All (λ (c : Command). begins c ≡ false) commands

abbrev pub HasNoScopes : Trace → Type 0
HasNoScopes t = All (λ (r : Recording). BeginNone r.commands) t.recordings

-- In a lawful trace without render scopes no access of a work is in a subpass, each is on a declared queue,
-- and no step has more than 64 on one cell.
abbrev pub LawfulWorksAreBounded : Type 0
LawfulWorksAreBounded = (t : Trace) (history : List Mark) → IsLawful t → HasNoScopes t
    → IsBoundedWork (queues_of t) 64 (work_steps t history)
