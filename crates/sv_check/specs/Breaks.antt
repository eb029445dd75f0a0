-- The three tests of a part, by what they ask.
use Rattle.std.specs.Prelude.{ℕ, Bool}
use Rattle.sv_model.specs.declared.line.Part.{Part}
use Rattle.sv_model.specs.declared.line.Trace.{Trace}
use Rattle.sv_check.specs.declared.part_rule.PartRule.{PartRule}
use Rattle.sv_check.specs.declared.part_rule.PartRule.TheVariants.{Undeclared, Outside, Empty}
use Rattle.sv_rules.specs.Named.{is_on_new}
use Rattle.sv_rules.specs.PartRules.{goes_outside, has_no_cells}

abbrev pub breaks : Trace → PartRule → ℕ → Part → Bool
breaks t Undeclared = is_on_new t
breaks t Outside = goes_outside t
breaks t Empty = has_no_cells
