use Rattle.std.proofs.Common.{arith, ap, ◌∙◌, ◌≡◌, ◌<◌, List, length, get_or}
use Rattle.sv_rangemap.specs.Items.{Items}
use Rattle.sv_rangemap.specs.Chunking.{items_in}
use Rattle.sv_rangemap.proofs.Counting.{place_read, item_read}
use Rattle.sv_rangemap.proofs.chunks.Chunks.get.Goals as goal

pub index-requires : goal.index-requires
index-requires g c =
    let chunks = c.self.inside.chunks.items in
    let x = c.index-chunk.result.now in
    let same : items_in chunks ≡ c.args.self.now.items =
    ap (λ (i : Items g.row.T.Denot). i.items) c.self.view_is in
    let inside : c.args.index < length (items_in chunks) =
    (let l = c.requires in let n = ap length same in omega (arith, l, n)) in
    let p = place_read chunks c.self.invariant.counted c.args.index c.find-at.result c.find-at.ensures x
    c.index-chunk.ensures inside in
    let k = x.items.ok.0 in
    omega (arith, p, k)

pub returns : goal.returns
returns g c =
    let chunks = c.self.inside.chunks.items in
    let x = c.index-chunk.result.now in
    let same : items_in chunks ≡ c.args.self.now.items =
    ap (λ (i : Items g.row.T.Denot). i.items) c.self.view_is in
    let inside : c.args.index < length (items_in chunks) =
    (let l = c.requires in let n = ap length same in omega (arith, l, n)) in
    item_read chunks c.self.invariant.counted c.args.index c.find-at.result c.find-at.ensures x
    c.index-chunk.ensures inside c.index.result.now c.index.ensures
    ∙ ap (λ (xs : List g.row.T.Denot). get_or xs c.args.index c.index.result.now) same
