-- What a command makes of where a recording stands, and what it adds to its size.
use Rattle.std.specs.Prelude.{◌≡◌, ℕ, ◌+◌, ◌-◌, ◌^◌, ◌<◌, Bool, true, false, not, ◌&&◌, ◌==◌, List, Option}
use Rattle.std.specs.Prelude.{None, Some, count_by, length, min, sum_by, if◌then◌else◌}
use Rattle.sv_model.specs.declared.line.Command.{Command}
use Rattle.sv_model.specs.declared.line.Command.TheVariants as command
use Rattle.sv_model.specs.declared.line.Element.{Element}
use Rattle.sv_model.specs.declared.line.Target.{Target}
use Rattle.sv_model.specs.declared.line.Trace.{Trace}
use Rattle.sv_model.specs.declared.work.Here.{Here}
use Rattle.sv_model.specs.declared.work.PassPoint.TheVariants.{Next, End}
use Rattle.sv_model.specs.Declarations.{is_pass, pass_of}
use Rattle.sv_model.specs.Recordings.{Scope, steps_of}
use Rattle.sv_model.specs.LawfulCommands.{IsLawfulCommand}
use Rattle.sv_model.specs.Size.{step_size, capped}
use Rattle.sv_rules.specs.declared.standing.Standing.{Standing}
use Rattle.sv_rules.specs.declared.standing.Standing.TheVariants.{Outside, InRendering, InPass}
use Rattle.sv_lines.specs.Measures.{IsSizeAt}
use Rattle.sv_rules.specs.Places.{are_two_layouts}
use Rattle.sv_lines.specs.Sound.{IsFitScope}
use Rattle.sv_rules.specs.Standings.{standing_of, stored}

-- in the next subpass, as far as its number fits
abbrev pub next_standing : Standing → Standing
next_standing (InPass pass i) = InPass pass (min (i + 1) (2 ^ 32 - 1))
next_standing other = other

-- where the next command stands after this one
abbrev pub standing_after : Standing → Command → Standing
standing_after s (command.BeginRendering attachments) = InRendering (stored attachments)
standing_after s command.EndRendering = Outside
standing_after s (command.BeginPass pass views) = InPass pass 0
standing_after s command.NextSubpass = next_standing s
standing_after s command.EndPass = Outside
standing_after s other = s

-- the families are those of a release for this one
abbrev pub is_release : ℕ → Option (ℕ × ℕ) → Bool
is_release family None = false
is_release family (Some f) = not (f.0 == f.1) && f.0 == family

abbrev pub has_transition_at : ℕ → Option Target → Bool
has_transition_at family None = false
has_transition_at family (Some x) = are_two_layouts x.layouts && not (is_release family x.families)

-- the layouts of the element differ, and it is no release
abbrev pub has_transition : ℕ → Element → Bool
has_transition family e = has_transition_at family e.target

abbrev pub barrier_size : ℕ → List Element → ℕ
barrier_size family deps = 1 + (length deps + count_by (has_transition family) deps)

-- the size of a step with so many parts, which is left out where it has none
abbrev pub step_with : ℕ → ℕ
step_with parts = if parts == 0 then 0 else 1 + parts

abbrev pub end_rendering_size : Standing → ℕ
end_rendering_size (InRendering stores) = step_with stores
end_rendering_size other = 0

-- the size of the command that goes on to the next subpass
abbrev pub IsNextSize : Trace → Standing → ℕ → Type 0
IsNextSize t (InPass pass i) n = is_pass t pass ≡ true → i + 1 < length (pass_of t pass).subpasses
    → IsSizeAt (pass_of t pass) (Next (i + 1)) n
IsNextSize t other n = Unit {0}

-- the size of the command that ends the instance
abbrev pub IsEndSize : Trace → Standing → ℕ → Type 0
IsEndSize t (InPass pass i) n = is_pass t pass ≡ true → IsSizeAt (pass_of t pass) End n
IsEndSize t other n = Unit {0}

-- the size of the steps of a lawful command of a recording of that family, which stands there
abbrev pub IsSizeOf : Trace → ℕ → Standing → Command → ℕ → Type 0
IsSizeOf t family standing c n = (here : Here) (scope : Scope) → here.family ≡ family → standing
    ≡ standing_of scope → IsFitScope t scope → IsLawfulCommand t family scope c
    → n ≡ capped (sum_by step_size (steps_of t here scope c))
