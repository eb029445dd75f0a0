-- The size of a command of a render pass, which rests on the pass alone.
use Rattle.std.specs.Prelude.{◌≡◌, ℕ, ◌<◌, ◌≤◌, List, Option, Some, None, length, slice_index_or, sum_by}
use Rattle.sv_model.specs.declared.line.View.{View}
use Rattle.sv_model.specs.declared.work.Here.{Here}
use Rattle.sv_model.specs.declared.work.PassPoint.{PassPoint}
use Rattle.sv_model.specs.declared.work.PassPoint.TheVariants.{Begin, Next, End}
use Rattle.sv_model.specs.Declarations.{Pass}
use Rattle.sv_model.specs.Passes.{pass_steps}
use Rattle.sv_model.specs.Size.{step_size, capped}
use Rattle.sv_lines.specs.declared.measure.PassSizes.{PassSizes}

-- a place at which an instance is measured
abbrev pub anywhere : Here
anywhere = record { rec = 0; family = 0; cmd = 0; step = 0; instance = 0; subpass = None }

-- the size of the steps of a command of the pass, wherever it stands and whatever the views
abbrev pub IsSizeAt : Pass → PassPoint → ℕ → Type 0
IsSizeAt p point n = (here : Here) (views : List View) → length views ≡ length p.attachments → n
    ≡ capped (sum_by step_size (pass_steps p views point here))

-- the sizes of all commands of the pass
pub record IsMeasureOf (p : Pass) (m : PassSizes) : Type 0 where
  pub few : length p.subpasses ≤ 32
  pub begin : IsSizeAt p Begin m.begin
  pub next : (i : ℕ) → i < length p.subpasses → IsSizeAt p (Next i) (slice_index_or m.next i 0)
  pub end : IsSizeAt p End m.end

abbrev pub HasMeasure : Pass → Option PassSizes → Type 0
HasMeasure p None = ⊥
HasMeasure p (Some m) = IsMeasureOf p m
