-- The printed lines. Each ends with a line feed.
use Rattle.std.specs.Prelude.{ℕ, List, [], ◌++◌, codes}
use Rattle.std.specs.Fmt.{decimal}
use Rattle.sv_model.specs.declared.line.Line.{Line}
use Rattle.sv_model.specs.declared.line.Line.TheVariants as line
use Rattle.sv_model.specs.declared.work.Report.{Report}
use Rattle.sv_model.specs.declared.refusal.Cause.{Cause}
use Rattle.sv_model.specs.declared.refusal.Cause.TheVariants as cause
use Rattle.sv_model.specs.declared.refusal.LimitName.{LimitName}
use Rattle.sv_model.specs.declared.refusal.LimitName.TheVariants as limit
use Rattle.sv_model.specs.declared.refusal.Refusal.{Refusal}
use Rattle.sv_report.specs.Pieces.{kind_text, area_text, access_text}

-- the event with this number publishes a recording
unfoldable pub publish_line : ℕ → ℕ → ℕ → List ℕ
publish_line event recorder rec = codes "event " ++ decimal event ++ codes " recorder " ++ decimal recorder
    ++ codes " publish rec " ++ decimal rec ++ codes "\n"

-- a call by its name and what it names; other lines are no calls
abbrev pub call_text : Line → List ℕ
call_text (line.Submit lane queue batches fence) = codes "submit queue " ++ decimal queue
call_text (line.WaitFence lane fence) = codes "wait_fence fence " ++ decimal fence
call_text (line.ResetFence lane fence) = codes "reset_fence fence " ++ decimal fence
call_text (line.WaitQueue lane queue) = codes "wait_queue queue " ++ decimal queue
call_text (line.WaitDevice lane) = codes "wait_device"
call_text other = []

-- the event with this number is a lane's call
unfoldable pub call_line : ℕ → ℕ → ℕ → Line → List ℕ
call_line event lane index call = codes "event " ++ decimal event ++ codes " lane " ++ decimal lane
    ++ codes " call " ++ decimal index ++ codes " " ++ call_text call ++ codes "\n"

unfoldable pub report_line : Report → List ℕ
report_line r = codes "  " ++ kind_text r.kind ++ codes " " ++ area_text r.area ++ codes " "
    ++ access_text r.later ++ codes " after " ++ access_text r.earlier ++ codes "\n"

-- so many of what the word names
unfoldable pub count_text : List ℕ → ℕ → List ℕ
count_text word count = codes " " ++ word ++ codes " " ++ decimal count

-- how many events there are, and how many lines of reports, notes and held items, to the end of the line
unfoldable pub counts_text : ℕ → ℕ → ℕ → ℕ → List ℕ
counts_text events reports notes held = count_text (codes "events") events
    ++ count_text (codes "reports") reports ++ count_text (codes "notes") notes
    ++ count_text (codes "held") held ++ codes "\n"

unfoldable pub total_line : ℕ → ℕ → ℕ → ℕ → List ℕ
total_line events reports notes held = codes "total" ++ counts_text events reports notes held

abbrev pub limit_text : LimitName → List ℕ
limit_text limit.Lines = codes "lines"
limit_text limit.Accesses = codes "accesses"
limit_text limit.Deps = codes "deps"
limit_text limit.Subpasses = codes "subpasses"
limit_text limit.Uses = codes "uses"
limit_text limit.Attachments = codes "attachments"
limit_text limit.Batches = codes "batches"
limit_text limit.Recs = codes "recs"
limit_text limit.Waits = codes "waits"
limit_text limit.Signals = codes "signals"
limit_text limit.Size = codes "size"

-- the number and the name
abbrev pub cause_text : Cause → List ℕ
cause_text cause.BadJson = codes "1 BadJson"
cause_text cause.BadShape = codes "2 BadShape"
cause_text cause.UnknownName = codes "3 UnknownName"
cause_text cause.Range = codes "4 Range"
cause_text cause.Undeclared = codes "5 Undeclared"
cause_text cause.DeclaredTwice = codes "6 DeclaredTwice"
cause_text cause.OutOfResource = codes "7 OutOfResource"
cause_text cause.Empty = codes "8 Empty"
cause_text cause.AccessWithoutStage = codes "9 AccessWithoutStage"
cause_text cause.WrongPlace = codes "10 WrongPlace"
cause_text cause.NoSelfDependency = codes "11 NoSelfDependency"
cause_text cause.QueueOfAnotherLane = codes "12 QueueOfAnotherLane"
cause_text cause.SemaphoreKind = codes "13 SemaphoreKind"
cause_text (cause.Limit name number) = codes "14 Limit " ++ limit_text name ++ codes " " ++ decimal number
cause_text cause.Unfinished = codes "15 Unfinished"

unfoldable pub refusal_line : Refusal → List ℕ
refusal_line r = codes "line " ++ decimal r.line ++ codes " refused " ++ cause_text r.cause ++ codes "\n"
