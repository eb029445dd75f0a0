use Rattle.std.proofs.Common.{Option, refl, subst, sym}
use Rattle.sv_model.specs.Declarations.{Resource}
use Rattle.sv_cell_tests.specs.Found.{IsImageCellOf}
use Rattle.sv_cell_tests.proofs.Declared.{says_first}
use Rattle.sv_cell_tests.proofs.inside.is_image_cell.Goals as goal

pub returns-in-Some : goal.returns-in-Some
returns-in-Some c = λ inside.
    subst (λ (o : Option Resource). IsImageCellOf o c.args.number)
    (sym (says_first c.as_slice.result.now c.args.trace.now.resources c.args.res c.args.res
    c.in-Some.line.now c.as_slice.ensures refl c.in-Some.ensures))
    (c.is_cell_of_image.ensures inside)
