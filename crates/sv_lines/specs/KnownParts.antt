-- What is known of a recording, part by part.
use Rattle.std.specs.Prelude.{ℕ, Bool, false, true, ◌++◌, ◌∷◌, [], Option, None, Some}
use Rattle.sv_model.specs.declared.line.Command.{Command}
use Rattle.sv_model.specs.declared.line.Recording.{Recording}
use Rattle.sv_lines.specs.declared.known.Known.{Known}
use Rattle.sv_rules.specs.declared.standing.Standing.{Standing}
use Rattle.sv_rules.specs.declared.standing.Standing.TheVariants.{Outside}

abbrev pub family_of : Option Known → Option ℕ
family_of None = None
family_of (Some known) = Some known.family

abbrev pub ended_of : Option Known → Bool
ended_of None = false
ended_of (Some known) = known.ended

abbrev pub standing_of : Option Known → Standing
standing_of None = Outside
standing_of (Some known) = known.standing

abbrev pub size_of : Option Known → ℕ
size_of None = 0
size_of (Some known) = known.size

-- a recording with one more command
abbrev pub with_one_more : Command → Recording → Recording
with_one_more c r = record r { commands = r.commands ++ c ∷ [] }

-- it stands so, and has this size
abbrev pub stands_so : Standing → ℕ → Known → Known
stands_so standing size known = record known { standing = standing; size = size }

abbrev pub ended : Known → Known
ended known = record known { ended = true }
