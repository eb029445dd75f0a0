use Rattle.std.proofs.Common.{arith, refl, ap, ◌∙◌, ◌≡◌, ◌<◌, ◌-◌, List, length, get_or}
use Rattle.std.proofs.Math.ListN.{set, length-set}
use Rattle.std.specs.Vec.{with_item}
use Rattle.sv_rangemap.specs.Items.{Items}
use Rattle.sv_rangemap.specs.declared.chunk.Chunk.{Chunk}
use Rattle.sv_rangemap.specs.Chunking.{items_in}
use Rattle.sv_rangemap.proofs.Counting.{place_read, item_read, set_read, counted_all}
use Rattle.sv_rangemap.proofs.chunks.Chunks.get_mut.Goals as goal

pub index_mut-requires : goal.index_mut-requires
index_mut-requires g c =
    let chunks = c.self.inside.chunks.items in
    let x = c.index_mut-chunk.result.now in
    let same : items_in chunks ≡ c.args.self.now.items =
    ap (λ (i : Items g.row.T.Denot). i.items) c.self.view_is in
    let inside : c.args.index < length (items_in chunks) =
    (let l = c.requires in let n = ap length same in omega (arith, l, n)) in
    let p = place_read chunks c.self.invariant.counted c.args.index c.find-at.result c.find-at.ensures x
    c.index_mut-chunk.ensures.value inside in
    let k = x.items.ok.0 in
    omega (arith, p, k)

pub invariant_of-self-lent : goal.invariant_of-self-lent
invariant_of-self-lent g c = λ w.
    let chunks = c.self.inside.chunks.items in
    let x = c.index_mut-chunk.result.now in
    let place = c.args.index - x.first in
    let now : Chunk g.row.T.Denot = record { first = x.first; items = with_item x.items place w } in
    let same : items_in chunks ≡ c.args.self.now.items =
    ap (λ (i : Items g.row.T.Denot). i.items) c.self.view_is in
    let inside : c.args.index < length (items_in chunks) =
    (let l = c.requires in let n = ap length same in omega (arith, l, n)) in
    record {
      some = (let s = c.self.invariant.some in let l = length-set chunks c.find-at.result now in
          omega (arith, s, l));
      counted = counted_all chunks c.find-at.result c.find-at.ensures.listed c.self.invariant.counted x
          c.index_mut-chunk.ensures.value now refl (length-set x.items.items place w);
      long = ap length (set_read chunks c.self.invariant.counted c.args.index c.find-at.result
          c.find-at.ensures x c.index_mut-chunk.ensures.value now w inside refl)
          ∙ length-set (items_in chunks) c.args.index w ∙ c.self.invariant.long;
    }

pub returns : goal.returns
returns g c =
    let chunks = c.self.inside.chunks.items in
    let x = c.index_mut-chunk.result.now in
    let place = c.args.index - x.first in
    let same : items_in chunks ≡ c.args.self.now.items =
    ap (λ (i : Items g.row.T.Denot). i.items) c.self.view_is in
    let inside : c.args.index < length (items_in chunks) =
    (let l = c.requires in let n = ap length same in omega (arith, l, n)) in (
      (
        refl,
        λ w. ap (λ (xs : List g.row.T.Denot). record { items = xs })
            (set_read chunks c.self.invariant.counted c.args.index c.find-at.result c.find-at.ensures x
            c.index_mut-chunk.ensures.value (record
            { first = x.first; items = with_item x.items place w }) w inside refl
            ∙ ap (λ (xs : List g.row.T.Denot). set xs c.args.index w) same),
      ),
      record {
        writes_back = tt;
        value =
            item_read chunks c.self.invariant.counted c.args.index c.find-at.result c.find-at.ensures x
            c.index_mut-chunk.ensures.value inside c.index_mut.result.now c.index_mut.ensures.value
            ∙ ap (λ (xs : List g.row.T.Denot). get_or xs c.args.index c.index_mut.result.now) same;
      },
    )
