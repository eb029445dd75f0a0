-- Where a command stands: in no render scope, in dynamic rendering, or in a subpass of a pass ("Render Pass
-- Commands").
use Rattle.std.specs.Prelude.{ℕ, Bool, true, false, List, count_by}
use Rattle.sv_model.specs.declared.line.Attachment.{Attachment}
use Rattle.sv_model.specs.declared.line.Store.{Store}
use Rattle.sv_model.specs.declared.line.Store.TheVariants as store
use Rattle.sv_model.specs.Recordings.{Scope}
use Rattle.sv_model.specs.Recordings as scope
use Rattle.sv_rules.specs.declared.standing.Standing.{Standing}
use Rattle.sv_rules.specs.declared.standing.Standing.TheVariants.{Outside, InRendering, InPass}

abbrev pub is_stored : Store → Bool
is_stored store.Nothing = false
is_stored other = true

-- how many of the attachments are stored at the end of dynamic rendering
abbrev pub stored : List Attachment → ℕ
stored attachments = count_by (λ (a : Attachment). is_stored a.store) attachments

abbrev pub standing_of : Scope → Standing
standing_of scope.Outside = Outside
standing_of (scope.InRendering attachments) = InRendering (stored attachments)
standing_of (scope.InPass pass views i) = InPass pass i

-- in a render scope
abbrev pub is_inside : Standing → Bool
is_inside Outside = false
is_inside (InRendering stores) = true
is_inside (InPass pass i) = true

abbrev pub is_in_rendering : Standing → Bool
is_in_rendering (InRendering stores) = true
is_in_rendering other = false

abbrev pub is_in_pass : Standing → Bool
is_in_pass (InPass pass i) = true
is_in_pass other = false
