use Rattle.std.proofs.Common.{arith, subst}
use Rattle.sv_space.specs.Lines.{IsShaped}
use Rattle.sv_space.specs.declared.shape.Shape.{Shape}
use Rattle.sv_space.specs.declared.shape.Shape.TheVariants as shape
use Rattle.sv_space.proofs.AtLine.{first_below, first_fits}
use Rattle.sv_space.proofs.SpansOf.{lies_on_mips}
use Rattle.sv_space.proofs.line.first_of.Goals as goal

pub overflow_mul-result : goal.overflow_mul-result
overflow_mul-result c =
    let i = c.in-Image-Mips in
    let shaped : IsShaped (shape.Mips i.mips-1 i.layers) c.requires.1 =
    subst (λ (s : Shape). IsShaped s c.requires.1) i.is-1 c.requires.2 in
    let on = lies_on_mips c.requires.0 i.mips-1 i.layers c.requires.1 c.args.shape c.args.area.now i.res-0
    i.cells i.is-1 i.is-0 c.requires.3 in
    let f = first_fits i.mips-1 i.layers i.cells.mip i.cells.mips i.cells.layer i.cells.layers
    (let a = shaped.1.1.0 in omega (arith, a)) (let a = shaped.1.0 in omega (arith, a)) on.1 on.2 on.3
    on.4 in
    rw (c.from.ensures, c.from-in-Image-Mips.ensures) (omega (arith, f))

pub overflow_add-result : goal.overflow_add-result
overflow_add-result c =
    let i = c.in-Image-Mips in
    let shaped : IsShaped (shape.Mips i.mips-1 i.layers) c.requires.1 =
    subst (λ (s : Shape). IsShaped s c.requires.1) i.is-1 c.requires.2 in
    let on = lies_on_mips c.requires.0 i.mips-1 i.layers c.requires.1 c.args.shape c.args.area.now i.res-0
    i.cells i.is-1 i.is-0 c.requires.3 in
    let f = first_fits i.mips-1 i.layers i.cells.mip i.cells.mips i.cells.layer i.cells.layers
    (let a = shaped.1.1.0 in omega (arith, a)) (let a = shaped.1.0 in omega (arith, a)) on.1 on.2 on.3
    on.4 in
    rw (c.from.ensures, c.from-in-Image-Mips.ensures, c.from-in-Image-Mips-2.ensures) (omega (arith, f))

pub returns-in-Image-Mips-clause-below : goal.returns-in-Image-Mips-clause-below
returns-in-Image-Mips-clause-below c = λ res size shaped lies. (
    let i = c.in-Image-Mips in
    let shape_is : IsShaped (shape.Mips i.mips-1 i.layers) size =
    subst (λ (s : Shape). IsShaped s size) i.is-1 shaped in
    let on = lies_on_mips res i.mips-1 i.layers size c.args.shape c.args.area.now i.res-0 i.cells i.is-1
    i.is-0 lies in
    let f = first_below i.mips-1 i.layers size i.cells.mip i.cells.mips i.cells.layer i.cells.layers
    shape_is.1.1.1.1 on.1 on.2 on.3 on.4 in
    rw (c.from.ensures, c.from-in-Image-Mips.ensures, c.from-in-Image-Mips-2.ensures) f)
