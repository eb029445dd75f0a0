use Rattle.std.proofs.Common.{arith, refl, ap, ◌∙◌, ◌≡◌, ◌≤◌, List, length}
use Rattle.std.proofs.Math.ListN.{set}
use Rattle.std.specs.List.{insert}
use Rattle.std.proofs.lemmas.List.Edits.{length-insert}
use Rattle.sv_rangemap.specs.declared.chunk.Chunk.{Chunk}
use Rattle.sv_rangemap.specs.Chunking.{items_in}
use Rattle.sv_rangemap.proofs.Counting.{on_err, room_read, insert_read, items_kept, counted_all}
use Rattle.sv_rangemap.proofs.Counting.{counted_upto, same_items}
use Rattle.sv_rangemap.proofs.chunk.put.Goals as goal

pub insert-requires : goal.insert-requires
insert-requires g c =
    let chunks = c.make_room.new.chunks.items in
    let x = c.index_mut-chunk.result.now in
    let inside : c.args.index ≤ length (items_in chunks) =
    (let l = c.requires.inside in let s = ap length c.make_room.ensures.same in omega (arith, l, s)) in
    let p = room_read chunks c.make_room.ensures.counted c.args.index c.in_ok-at.at c.in_ok-at.ensures.place
    x c.index_mut-chunk.ensures.value inside in
    let k = x.items.ok.0 in
    omega (arith, p, k)

pub returns-in_err-insert-clause-counted : goal.returns-in_err-insert-clause-counted
returns-in_err-insert-clause-counted g c =
    let x = c.index_mut-chunk.result.now in
    counted_all c.make_room.new.chunks.items c.in_ok-at.at c.in_ok-at.ensures.place.listed
    c.make_room.ensures.counted x c.index_mut-chunk.ensures.value
    (record { first = x.first; items = c.insert.new.self }) refl (ap length c.in_err-insert.ensures.items)

pub returns-in_err-insert-clause-fault : goal.returns-in_err-insert-clause-fault
returns-in_err-insert-clause-fault g c =
    let x = c.index_mut-chunk.result.now in
    let same : items_in (set c.make_room.new.chunks.items c.in_ok-at.at
    (record { first = x.first; items = c.insert.new.self })) ≡ items_in c.args.chunks.now.items =
    items_kept c.make_room.new.chunks.items c.in_ok-at.at x
    (record { first = x.first; items = c.insert.new.self }) c.in_ok-at.ensures.place.listed
    c.index_mut-chunk.ensures.value c.in_err-insert.ensures.items
    ∙ c.make_room.ensures.same in
    on_err c.from_residual-in_err-insert.result same

pub count-requires-clause-counted : goal.count-requires-clause-counted
count-requires-clause-counted g c =
    let x = c.index_mut-chunk.result.now in
    counted_upto c.make_room.new.chunks.items c.in_ok-at.at c.in_ok-at.ensures.place.listed
    c.make_room.ensures.counted x c.index_mut-chunk.ensures.value
    (record { first = x.first; items = c.insert.new.self }) refl

pub count-requires-clause-fits : goal.count-requires-clause-fits
count-requires-clause-fits g c =
    let chunks = c.make_room.new.chunks.items in
    let x = c.index_mut-chunk.result.now in
    let more : Chunk g.row.T.Denot = record { first = x.first; items = c.insert.new.self } in
    let same = ap length c.make_room.ensures.same in
    let inside : c.args.index ≤ length (items_in chunks) =
    (let l = c.requires.inside in omega (arith, l, same)) in
    let is = ap length (insert_read chunks c.make_room.ensures.counted c.args.index c.in_ok-at.at
    c.in_ok-at.ensures.place x c.index_mut-chunk.ensures.value more c.args.item inside
    c.in_ok-insert.ensures.items) in
    let longer = length-insert (items_in chunks) c.args.index c.args.item inside in
    let fits = c.requires.fits in
    omega (arith, is, longer, fits, same)

pub returns-clause-ok : goal.returns-clause-ok
returns-clause-ok g c =
    let chunks = c.make_room.new.chunks.items in
    let x = c.index_mut-chunk.result.now in
    let more : Chunk g.row.T.Denot = record { first = x.first; items = c.insert.new.self } in
    let inside : c.args.index ≤ length (items_in chunks) =
    (let l = c.requires.inside in let s = ap length c.make_room.ensures.same in omega (arith, l, s)) in
    same_items _ _ c.count.ensures.same
    ∙ insert_read chunks c.make_room.ensures.counted c.args.index c.in_ok-at.at c.in_ok-at.ensures.place x
    c.index_mut-chunk.ensures.value more c.args.item inside c.in_ok-insert.ensures.items
    ∙ ap (λ (xs : List g.row.T.Denot). insert xs c.args.index c.args.item) c.make_room.ensures.same
