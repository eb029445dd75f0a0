use Rattle.std.proofs.Common.{arith, refl, ap, ◌∙◌, length}
use Rattle.std.proofs.lemmas.List.Edits.{length-remove}
use Rattle.sv_rangemap.specs.declared.chunk.Chunk.{Chunk}
use Rattle.sv_rangemap.specs.Chunking.{items_in}
use Rattle.sv_rangemap.proofs.Counting.{place_read, item_read, remove_read, counted_upto, same_items}
use Rattle.sv_rangemap.proofs.chunk.take_out.Goals as goal

pub remove-item-requires : goal.remove-item-requires
remove-item-requires g c =
    let x = c.index_mut-chunk.result.now in
    let p = place_read c.args.chunks.now.items c.requires.counted c.args.index c.find-at.result
    c.find-at.ensures x c.index_mut-chunk.ensures.value c.requires.inside in
    let k = x.items.ok.0 in
    omega (arith, p, k)

pub count-requires-clause-counted : goal.count-requires-clause-counted
count-requires-clause-counted g c =
    counted_upto c.args.chunks.now.items c.find-at.result c.find-at.ensures.listed c.requires.counted
    c.index_mut-chunk.result.now c.index_mut-chunk.ensures.value
    (record { first = c.index_mut-chunk.result.now.first; items = c.remove-item.new.self }) refl

pub count-requires-clause-fits : goal.count-requires-clause-fits
count-requires-clause-fits g c =
    let items = items_in c.args.chunks.now.items in
    let x = c.index_mut-chunk.result.now in
    let left : Chunk g.row.T.Denot = record { first = x.first; items = c.remove-item.new.self } in
    let is = ap length (remove_read c.args.chunks.now.items c.requires.counted c.args.index c.find-at.result
    c.find-at.ensures x c.index_mut-chunk.ensures.value left c.requires.inside
    c.remove-item.ensures.items) in
    let less = length-remove items c.args.index c.requires.inside in
    let fits = c.requires.fits in
    omega (arith, is, less, fits)

pub returns-clause-value : goal.returns-clause-value
returns-clause-value g c =
    item_read c.args.chunks.now.items c.requires.counted c.args.index c.find-at.result c.find-at.ensures
    c.index_mut-chunk.result.now c.index_mut-chunk.ensures.value c.requires.inside c.remove-item.result
    c.remove-item.ensures.value

pub returns-clause-items : goal.returns-clause-items
returns-clause-items g c =
    let x = c.index_mut-chunk.result.now in
    let left : Chunk g.row.T.Denot = record { first = x.first; items = c.remove-item.new.self } in
    same_items _ _ c.count.ensures.same
    ∙ remove_read c.args.chunks.now.items c.requires.counted c.args.index c.find-at.result c.find-at.ensures
    x c.index_mut-chunk.ensures.value left c.requires.inside c.remove-item.ensures.items
