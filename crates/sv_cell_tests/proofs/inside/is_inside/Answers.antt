use Rattle.std.proofs.Common.{Option, subst, sym}
use Rattle.sv_model.specs.Cells.{area_resource}
use Rattle.sv_model.specs.Declarations.{Resource}
use Rattle.sv_space.specs.Areas.{IsIn}
use Rattle.sv_cell_tests.proofs.Declared.{says_first}
use Rattle.sv_cell_tests.proofs.inside.is_inside.Goals as goal

pub returns-in-Some : goal.returns-in-Some
returns-in-Some c = λ inside.
    subst (λ (o : Option Resource). IsIn o c.args.area)
    (sym (says_first c.as_slice.result.now c.args.trace.now.resources c.resource_of.result
    (area_resource c.args.area) c.in-Some.line.now c.as_slice.ensures c.resource_of.ensures
    c.in-Some.ensures))
    (c.has_area.ensures inside)
