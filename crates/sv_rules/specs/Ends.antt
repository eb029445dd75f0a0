-- The end of a text.
use Rattle.std.specs.Prelude.{◌≡◌, ◌+◌, Bool, true, false, not, Result, Ok, Err, ⊤}
use Rattle.std.specs.List.{list_any}
use Rattle.sv_model.specs.declared.line.Recording.{Recording}
use Rattle.sv_model.specs.declared.line.Trace.{Trace}
use Rattle.sv_model.specs.declared.refusal.Cause.TheVariants.{Unfinished}
use Rattle.sv_model.specs.declared.refusal.Fault.{Fault}
use Rattle.sv_model.specs.declared.refusal.Fault.TheVariants.{Refused, Memory}
use Rattle.sv_rules.specs.Taken.{Taken, has_ended}

-- a recording is open: it has begun and not ended
unfoldable pub is_unfinished : Trace → Bool
is_unfinished t = list_any (λ (r : Recording). not (has_ended t r.rec)) t.recordings

-- The trace of the lines, where no recording is open; else the line after the last one is refused.
abbrev pub EndsWith : Taken → Result Trace Fault → Type 0
EndsWith s (Ok trace) = (is_unfinished s.trace ≡ false) × (trace ≡ s.trace)
EndsWith s (Err (Refused refusal)) = (is_unfinished s.trace ≡ true) × (refusal.cause ≡ Unfinished)
    × (refusal.line ≡ s.lines + 1)
EndsWith s (Err Memory) = ⊤
