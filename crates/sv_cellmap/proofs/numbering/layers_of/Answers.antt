use Rattle.std.proofs.Common.{ℕ, List, [], refl, subst, sym}
use Rattle.sv_model.specs.declared.line.Line.{Line}
use Rattle.sv_cellmap.specs.CellNumbers.{HaveLayers}
use Rattle.sv_cellmap.proofs.DeclaringLines.{lines_all, lines_more, lines_none}
use Rattle.sv_cellmap.proofs.numbering.layers_of.Goals as goal

pub loop-number-init : goal.loop-number-init
loop-number-init c = lines_none (λ (ls : List Line). HaveLayers c.new-table.result.items ls)
    c.args.lines.now (subst (λ (ns : List ℕ). HaveLayers ns []) (sym c.new-table.ensures.items) (λ k. refl))

pub loop-number-preserved : goal.loop-number-preserved
loop-number-preserved c = lines_more (λ (ls : List Line). HaveLayers c.loop-number.table.items ls)
    (λ (ls : List Line). HaveLayers c.add_layers.new.table.items ls) c.args.lines.now c.loop-number.number
    c.index-lines-lines.result c.loop-number-test.true c.index-lines-lines.is c.in_ok-add_layers.ensures
    c.loop-number.invariant

pub returns : goal.returns
returns c = lines_all (λ (ls : List Line). HaveLayers c.loop-number.table.items ls) c.args.lines.now
    c.loop-number.number c.loop-number-test.false c.loop-number.invariant
