use Rattle.std.proofs.Common.{arith, refl, ap, subst, sym, ◌∙◌, ◌<◌, ◌+◌, ◌/◌, List, length}
use Rattle.sv_rangemap.specs.declared.chunk.Chunk.{Chunk}
use Rattle.sv_rangemap.specs.Chunking.{AreCounted, items_in}
use Rattle.sv_rangemap.proofs.Counting.{cut_items, cut_counted, same_items}
use Rattle.sv_rangemap.proofs.chunk.cut.Goals as goal

pub count-requires-clause-counted : goal.count-requires-clause-counted
count-requires-clause-counted g c =
    let chunks = c.reserve.new.self.items in
    let same = c.reserve.ensures.items in
    let x = c.index_mut-chunk.result.now in
    let front : Chunk g.row.T.Denot = record { first = x.first; items = c.split_off.new.self } in
    let back : Chunk g.row.T.Denot = record { first = 0; items = c.in_ok-items.items } in
    let listed : c.args.at < length chunks = (let l = c.requires.listed in let n = ap length same in
    omega (arith, l, n)) in
    let counted : AreCounted (length chunks) chunks =
    subst (λ (cs : List (Chunk g.row.T.Denot)). AreCounted (length cs) cs)
    (sym same) c.requires.counted in
    subst (λ (cs : List (Chunk g.row.T.Denot)). AreCounted (c.args.at + 1) cs)
    (sym c.in_ok-insert.ensures.items)
    (cut_counted chunks c.args.at (c.len-half.result / 2) listed x c.index_mut-chunk.ensures.value front
    back c.in_ok-items.ensures.items c.in_ok-items.ensures.tail counted refl)

pub count-requires-clause-fits : goal.count-requires-clause-fits
count-requires-clause-fits g c =
    let chunks = c.reserve.new.self.items in
    let same = c.reserve.ensures.items in
    let x = c.index_mut-chunk.result.now in
    let front : Chunk g.row.T.Denot = record { first = x.first; items = c.split_off.new.self } in
    let back : Chunk g.row.T.Denot = record { first = 0; items = c.in_ok-items.items } in
    let listed : c.args.at < length chunks = (let l = c.requires.listed in let n = ap length same in
    omega (arith, l, n)) in
    let is = ap length (ap items_in c.in_ok-insert.ensures.items
    ∙ cut_items chunks c.args.at (c.len-half.result / 2) listed x c.index_mut-chunk.ensures.value front
    back c.in_ok-items.ensures.items c.in_ok-items.ensures.tail ∙ ap items_in same) in
    let fits = c.requires.fits in
    omega (arith, is, fits)

pub returns-clause-same : goal.returns-clause-same
returns-clause-same g c =
    let chunks = c.reserve.new.self.items in
    let same = c.reserve.ensures.items in
    let x = c.index_mut-chunk.result.now in
    let front : Chunk g.row.T.Denot = record { first = x.first; items = c.split_off.new.self } in
    let back : Chunk g.row.T.Denot = record { first = 0; items = c.in_ok-items.items } in
    let listed : c.args.at < length chunks = (let l = c.requires.listed in let n = ap length same in
    omega (arith, l, n)) in
    same_items _ _ c.count.ensures.same
    ∙ ap items_in c.in_ok-insert.ensures.items
    ∙ cut_items chunks c.args.at (c.len-half.result / 2) listed x c.index_mut-chunk.ensures.value front back
    c.in_ok-items.ensures.items c.in_ok-items.ensures.tail
    ∙ ap items_in same
