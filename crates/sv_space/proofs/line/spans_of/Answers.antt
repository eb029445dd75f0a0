use Rattle.std.proofs.Common.{ℕ, sym, subst, IsTrue, ◌↔◌, ◌<◌}
use Rattle.std.specs.List.{All}
use Rattle.std.proofs.lemmas.Result.{IfOk-weaker}
use Rattle.sv_model.specs.Cells as cells
use Rattle.sv_model.specs.declared.work.Area.{Area}
use Rattle.sv_model.specs.declared.work.Area.TheVariants.{Image}
use Rattle.sv_range.specs.Lines.{InSome}
use Rattle.sv_space.specs.Lines.{IsInMip, IsShaped, cell_on}
use Rattle.sv_space.specs.Spans.{spans_in}
use Rattle.sv_space.specs.declared.shape.Shape.{Shape}
use Rattle.sv_space.specs.declared.shape.Shape.TheVariants as shape
use Rattle.sv_space.proofs.SpansOf.{all_in_mip, all_inside, cells_of_box, if_ok_three, lies_on_mips}
use Rattle.sv_space.proofs.line.spans_of.Goals as goal

pub returns-in-Image-Mips-clause-in_mip : goal.returns-in-Image-Mips-clause-in_mip
returns-in-Image-Mips-clause-in_mip c = IfOk-weaker c.box_runs.result _
    (λ spans. All (IsInMip c.args.shape) (spans_in spans))
    (λ spans all. subst (λ (s : Shape). All (IsInMip s) (spans_in spans)) (sym c.in-Image-Mips.is-1)
    (all_in_mip c.in-Image-Mips.mips-1 c.in-Image-Mips.layers (spans_in spans) all))
    c.box_runs.ensures.in_one_mip

pub returns-in-Image-Mips-clause-inside : goal.returns-in-Image-Mips-clause-inside
returns-in-Image-Mips-clause-inside c = λ res size shaped lies. (
    let on = lies_on_mips res c.in-Image-Mips.mips-1 c.in-Image-Mips.layers size c.args.shape c.args.area
    c.in-Image-Mips.res-0 c.in-Image-Mips.cells c.in-Image-Mips.is-1 c.in-Image-Mips.is-0 lies in
    let shape_is : IsShaped (shape.Mips c.in-Image-Mips.mips-1 c.in-Image-Mips.layers) size =
    subst (λ (s : Shape). IsShaped s size) c.in-Image-Mips.is-1 shaped in
    if_ok_three c.box_runs.result _ _ _ _ c.box_runs.ensures.in_one_mip c.box_runs.ensures.ordered
    c.box_runs.ensures.cells
    (λ spans one ordered cells. all_inside c.in-Image-Mips.layers c.in-Image-Mips.mips-1 size
    c.in-Image-Mips.cells (spans_in spans) shape_is.1.1.1.1 on.2 one ordered cells))

pub returns-in-Image-Mips-clause-cells : goal.returns-in-Image-Mips-clause-cells
returns-in-Image-Mips-clause-cells c = λ res size shaped lies. (
    let on = lies_on_mips res c.in-Image-Mips.mips-1 c.in-Image-Mips.layers size c.args.shape c.args.area
    c.in-Image-Mips.res-0 c.in-Image-Mips.cells c.in-Image-Mips.is-1 c.in-Image-Mips.is-0 lies in
    let shape_is : IsShaped (shape.Mips c.in-Image-Mips.mips-1 c.in-Image-Mips.layers) size =
    subst (λ (s : Shape). IsShaped s size) c.in-Image-Mips.is-1 shaped in
    IfOk-weaker c.box_runs.result _ (λ spans. (number : ℕ) → number < size → InSome (spans_in spans) number
    ↔ IsTrue (cells.covers c.args.area (cell_on res c.args.shape number)))
    (λ spans has number lt. subst (λ (a : Area). InSome (spans_in spans) number
    ↔ IsTrue (cells.covers a (cell_on res c.args.shape number))) (sym c.in-Image-Mips.is-0)
    (subst (λ (s : Shape). InSome (spans_in spans) number ↔ IsTrue
    (cells.covers (Image c.in-Image-Mips.res-0 c.in-Image-Mips.cells) (cell_on res s number)))
    (sym c.in-Image-Mips.is-1)
    (cells_of_box res c.in-Image-Mips.res-0 c.in-Image-Mips.layers c.in-Image-Mips.mips-1
    c.in-Image-Mips.cells (spans_in spans) on.0 shape_is.0 has number))) c.box_runs.ensures.cells)
