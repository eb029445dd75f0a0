use Rattle.std.proofs.Common.{◌≡◌, ℕ, ◌<◌, List, length, sum_by}
use Rattle.std.specs.Prelude.{slice_index_or}
use Rattle.sv_model.specs.declared.line.View.{View}
use Rattle.sv_model.specs.declared.work.PassPoint.TheVariants.{Next}
use Rattle.sv_model.specs.Declarations.{Pass}
use Rattle.sv_model.specs.Passes.{pass_steps}
use Rattle.sv_model.specs.Size.{step_size, capped}
use Rattle.sv_pass.specs.Begun.{IsBegun}
use Rattle.sv_lines.specs.Measures.{anywhere}
use Rattle.sv_lines.proofs.measure.next_sizes.Given as goal

abbrev pub invariant-loop-i : goal.invariant-loop-i
invariant-loop-i l = (length l.sizes ≡ 32)
    × ((pass : Pass) (views : List View) → IsBegun pass views l.begun → (k : ℕ) → k < l.i
    → slice_index_or l.sizes k 0 ≡ capped (sum_by step_size (pass_steps pass views (Next k) anywhere)))
