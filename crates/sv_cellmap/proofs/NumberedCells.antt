-- A map with the areas of a resource has the cells with its numbers.
use Rattle.std.proofs.Common.{ℕ, zero, suc, ◌≡◌, ◌<◌, ◌≤◌, ◌+◌, ◌*◌, ◌/◌, ◌%◌, ◌==◌, Bool, false}
use Rattle.std.proofs.Common.{if◌then◌else◌, arith, sym, subst}
use Rattle.std.proofs.lemmas.Nat.{div_below, mod_below}
use Rattle.sv_model.specs.declared.work.Cell.TheVariants.{Byte, Texel}
use Rattle.sv_range.specs.declared.span.Cells.{Cells}
use Rattle.sv_range.specs.declared.span.Span.{Span}
use Rattle.sv_cellmap.specs.CellNumbers.{cell_numbered}
use Rattle.sv_cellmap.specs.Making.{IsBoxIn}
use Rattle.sv_cellmap.specs.Maps.{HasBox, HasCell, HasPlace, HasSpan}
use Rattle.sv_cellmap.specs.declared.map.CellMap.{CellMap}
use Rattle.sv_cellmap.proofs.DeclaringLines.{other_number}

-- an image with cells has layers
pub some_layers : (mips layers number : ℕ) → number < mips * layers → 0 < layers
some_layers mips zero number lt = absurd (omega (arith, lt))
some_layers mips (suc layers) number lt = omega arith

pub image_cell : {V : Type 0} (map : CellMap V) (res mips layers number : ℕ) → number < mips * layers
    → ((box : Cells) → IsBoxIn mips layers box → HasBox map.images.items res box)
    → HasCell map (cell_numbered layers res number)
image_cell {V} map res mips layers number lt has =
    let some = some_layers mips layers number lt in
    let none : (layers == 0) ≡ false = other_number layers 0 (λ e. (omega (arith, some, e))) in
    let box : Cells = record { mip = number / layers; mips = 1; layer = number % layers; layers = 1 } in
    let mip_in = div_below number layers mips some lt in
    let layer_in = mod_below number layers some in
    let boxed = has box (record {
      some_mips = omega arith;
      some_layers = omega arith;
      mips_end = omega (arith, mip_in);
      layers_end = omega (arith, layer_in);
    }) in
    let line : HasSpan map.images.items res (number / layers)
    (record { start = number % layers; end = number % layers + 1 }) =
    boxed.each (number / layers) (omega arith) (omega arith) in
    let place : HasPlace map.images.items res (number / layers) (number % layers) =
    record { line = line.line; is = line.is; inside = (let i = line.inside in omega (arith, i)) } in
    subst (λ (b : Bool). HasCell map (if b then Byte res number else Texel res (number / layers)
    (number % layers))) (sym none) place

pub buffer_cell : {V : Type 0} (map : CellMap V) (res size number : ℕ) → number < size
    → ((span : Span) → span.start < span.end → span.end ≤ size → HasSpan map.buffers.items res 0 span)
    → HasCell map (cell_numbered 0 res number)
buffer_cell {V} map res size number lt has =
    let line = has (record { start = number; end = number + 1 }) (omega arith) (omega (arith, lt)) in
    record { line = line.line; is = line.is; inside = (let i = line.inside in omega (arith, i)) }
