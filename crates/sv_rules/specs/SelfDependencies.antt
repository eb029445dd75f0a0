-- Barriers inside a subpass ("Subpass Self-dependency").
use Rattle.std.specs.Prelude.{ℕ, Bool, false, not, List}
use Rattle.std.specs.List.{list_any}
use Rattle.sv_model.specs.declared.line.Line.{Line}
use Rattle.sv_model.specs.declared.line.Line.TheVariants as line
use Rattle.sv_model.specs.declared.line.Element.{Element}
use Rattle.sv_model.specs.declared.line.PassDep.{PassDep}
use Rattle.sv_model.specs.declared.line.Trace.{Trace}
use Rattle.sv_model.specs.LawfulCommands.{contains_element}
use Rattle.sv_rules.specs.declared.standing.Standing.{Standing}
use Rattle.sv_rules.specs.declared.standing.Standing.TheVariants.{InPass}
use Rattle.sv_rules.specs.Taken.{pass_in, standing_in}

-- a dependency of subpass i on itself contains the element
abbrev pub is_contained : ℕ → List PassDep → Element → Bool
is_contained i deps e = list_any (contains_element i e) deps

abbrev pub is_uncontained : ℕ → List PassDep → Element → Bool
is_uncontained i deps e = not (is_contained i deps e)

abbrev pub some_uncontained : Trace → Standing → List Element → Bool
some_uncontained t (InPass pass i) elements = list_any (is_uncontained i (pass_in t pass).deps) elements
some_uncontained t other elements = false

-- A barrier inside a subpass has an element that no self-dependency of the subpass contains.
unfoldable pub is_without_self_dependency : Trace → Line → Bool
is_without_self_dependency t (line.Barrier rec deps) = some_uncontained t (standing_in t rec) deps
is_without_self_dependency t other = false
