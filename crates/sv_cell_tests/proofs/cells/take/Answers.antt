use Rattle.std.specs.Prelude.{Result, Ok, Err, OnOk}
use Rattle.sv_cell_tests.proofs.Taken.{may_take, taken}
use Rattle.sv_cell_tests.proofs.cells.take.Goals as goal

where_ok : {A E P : Type 0} (r : Result A E) → P → OnOk r P
where_ok (Ok a) p = p
where_ok (Err e) p = tt

pub touch-requires : goal.touch-requires
touch-requires c = (may_take c.args.trace.now c.args.cells.now.space c.args.cells.now.layouts
    c.args.cells.now.owners c.args.number c.args.step.now c.requires.cells c.requires.step).space

pub apply-requires : goal.apply-requires
apply-requires c = (may_take c.args.trace.now c.args.cells.now.space c.args.cells.now.layouts
    c.args.cells.now.owners c.args.number c.args.step.now c.requires.cells c.requires.step).layouts

pub apply-requires-2 : goal.apply-requires-2
apply-requires-2 c = (may_take c.args.trace.now c.args.cells.now.space c.args.cells.now.layouts
    c.args.cells.now.owners c.args.number c.args.step.now c.requires.cells c.requires.step).owners

pub returns : goal.returns
returns c = where_ok c.extend_from_slice-3.result
    (taken c.args.trace.now c.args.cells.now.space c.touch.new.self c.args.cells.now.layouts
    c.apply.new.self c.args.cells.now.owners c.apply-2.new.self c.args.step.now c.requires.cells
    c.in_ok-reports.ensures.areas c.apply.ensures.images c.apply-2.ensures.resources
    (c.in_ok-layout_notes.ensures.stands c.args.trace.now c.requires.cells.moved c.requires.cells.layouts_are)
    (c.in_ok-owner_notes.ensures.stands c.args.trace.now c.requires.cells.actions
    c.requires.cells.owners_are))
