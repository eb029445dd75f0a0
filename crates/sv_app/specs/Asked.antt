-- What is answered to what is asked for.
use Rattle.std.specs.Prelude.{ℕ, ◌≡◌, List, [], Option, Some, None, ⊤}
use Rattle.sv_gen.specs.Generated.{generated}
use Rattle.sv_model.specs.declared.work.Report.{Report}
use Rattle.sv_words.specs.declared.ask.Ask.{Ask}
use Rattle.sv_words.specs.declared.ask.Ask.TheVariants.{Check, Replay, Generate, Bench}
use Rattle.sv_app.specs.Answer.{IsAnswerTo, InTextOrder, InSomeOrder}
use Rattle.sv_app.specs.Bench.{IsBench}
use Rattle.sv_app.specs.declared.status.Status.{Status}
use Rattle.sv_app.specs.declared.status.Status.TheVariants.{Clean}

-- What is written to what is asked for, with which status, and which reports listeners hear. `check` answers
-- the bytes that were read in the order of their lines, `replay` in some whole history of their trace, `gen`
-- writes the generated trace, and `bench` one line on it.
abbrev pub IsAnswerToAsk : Option Ask → (bytes : List ℕ) → Status → (text : List ℕ) → List Report → Type 0
IsAnswerToAsk (Some Check) bytes status text reports = IsAnswerTo InTextOrder bytes status text reports
IsAnswerToAsk (Some Replay) bytes status text reports = IsAnswerTo InSomeOrder bytes status text reports
IsAnswerToAsk (Some (Generate seed count)) bytes status text reports = (status ≡ Clean)
    × (text ≡ generated seed count) × (reports ≡ [])
IsAnswerToAsk (Some (Bench seed count)) bytes status text reports = IsBench seed count status text
    × (reports ≡ [])
IsAnswerToAsk None bytes status text reports = ⊥
