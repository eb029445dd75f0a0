use Rattle.std.proofs.Common.{ℕ, ◌≡◌, ◌<◌, ◌+◌, ◌-◌, ◌∙◌, length, take, arith, refl, ap}
use Rattle.sv_rangemap.specs.declared.chunk.Chunk.{Chunk}
use Rattle.sv_rangemap.specs.Chunking.{items_in}
use Rattle.sv_rangemap.proofs.Counting.{add_own, unchanged, same_set, counted_more, counted_same}
use Rattle.sv_rangemap.proofs.Counting.{count_within}
use Rattle.sv_rangemap.proofs.chunk.count.Goals as goal

pub overflow_add-next : goal.overflow_add-next
overflow_add-next g c =
    let chunks = c.args.chunks.now.items in
    let x = c.index-before.result.now in
    let lt : c.args.from - 1 < length chunks = (let s = c.requires.some in let l = c.requires.listed in
    omega (arith, s, l)) in
    let first = ap (λ (o : Chunk g.row.T.Denot). o.first) c.index-before.ensures
    ∙ c.requires.counted (c.args.from - 1) x (let s = c.requires.some in omega (arith, s)) in
    let sum = add_own chunks chunks (unchanged chunks)
    (c.args.from - 1) x c.index-before.ensures x.first c.len.result lt first
    (c.len.ensures ∙ x.items.ok.0) in
    let within = count_within chunks (c.args.from - 1 + 1) in
    let fits = c.requires.fits in
    omega (arith, sum, within, fits)

pub loop-index-init : goal.loop-index-init
loop-index-init g c =
    let chunks = c.args.chunks.now.items in
    let x = c.index-before.result.now in
    let lt : c.args.from - 1 < length chunks = (let s = c.requires.some in let l = c.requires.listed in
    omega (arith, s, l)) in
    let first = ap (λ (o : Chunk g.row.T.Denot). o.first) c.index-before.ensures
    ∙ c.requires.counted (c.args.from - 1) x (let s = c.requires.some in omega (arith, s)) in
    let sum = add_own chunks chunks (unchanged chunks)
    (c.args.from - 1) x c.index-before.ensures x.first c.len.result lt first
    (c.len.ensures ∙ x.items.ok.0) in
    let back : c.args.from - 1 + 1 ≡ c.args.from = (let s = c.requires.some in omega (arith, s)) in
    (unchanged chunks, c.requires.counted, sum ∙ ap (λ (n : ℕ). length (items_in (take n chunks))) back)

pub overflow_add-next-in-loop-index : goal.overflow_add-next-in-loop-index
overflow_add-next-in-loop-index g c =
    let old = c.args.chunks.now.items in
    let was = c.loop-index.invariant in
    let index = c.loop-index.index in
    let x = c.index_mut-chunk.result.now in
    let lt : index < length c.loop-index.chunks.items =
    (let t = c.loop-index-test.true in let n = c.len-index-end.ensures in let k = c.args.chunks.now.ok.0
    in let l = was.0.long in omega (arith, t, n, k, l)) in
    let sum = add_own old c.loop-index.chunks.items was.0 index x c.index_mut-chunk.ensures.value
    c.loop-index.next c.len-next.result lt was.2 (c.len-next.ensures ∙ x.items.ok.0) in
    let within = count_within old (index + 1) in
    let fits = c.requires.fits in
    omega (arith, sum, within, fits)

pub loop-index-preserved : goal.loop-index-preserved
loop-index-preserved g c =
    let old = c.args.chunks.now.items in
    let was = c.loop-index.invariant in
    let index = c.loop-index.index in
    let x = c.index_mut-chunk.result.now in
    let lt : index < length c.loop-index.chunks.items =
    (let t = c.loop-index-test.true in let n = c.len-index-end.ensures in let k = c.args.chunks.now.ok.0
    in let l = was.0.long in omega (arith, t, n, k, l)) in
    let now : Chunk g.row.T.Denot = record { first = c.loop-index.next; items = x.items } in (
      same_set old c.loop-index.chunks.items was.0 index x now lt c.index_mut-chunk.ensures.value refl,
      counted_more old c.loop-index.chunks.items index now lt was.2 was.1,
      add_own old c.loop-index.chunks.items was.0 index x c.index_mut-chunk.ensures.value c.loop-index.next
          c.len-next.result lt was.2 (c.len-next.ensures ∙ x.items.ok.0),
    )

pub returns-clause-counted : goal.returns-clause-counted
returns-clause-counted g c =
    let was = c.loop-index.invariant in
    counted_same c.args.chunks.now.items c.loop-index.chunks.items was.0 (length c.loop-index.chunks.items)
    (λ k d lt. was.1 k d (let f = c.loop-index-test.false in let n = c.len-index-end.ensures in let o =
    c.args.chunks.now.ok.0 in let l = was.0.long in omega (arith, f, n, o, l, lt)))
