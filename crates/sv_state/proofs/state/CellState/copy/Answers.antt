use Rattle.std.proofs.Common.{◌≡◌, ◌∙◌, List, ap, map}
use Rattle.sv_state.specs.Contents.{Item, item_of}
use Rattle.sv_state.proofs.state.CellState.copy.Goals as goal

pub returns : goal.returns
returns c =
    let state = c.args.self.now in
    let written : map item_of c.in_ok-written.written.items ≡ map item_of state.written.items =
    c.in_ok-written.ensures ∙ ap (map item_of) c.deref.ensures.value in
    let reads : map item_of c.in_ok-reads.reads.items ≡ map item_of state.reads.items =
    c.in_ok-reads.ensures ∙ ap (map item_of) c.deref-2.ensures.value in
    ap (λ (p : List Item × List Item). record {
      written = p.0;
      alike = state.alike;
      reads = p.1;
      step = state.step;
    })
    (let e : (map item_of c.in_ok-written.written.items, map item_of c.in_ok-reads.reads.items)
    ≡ (map item_of state.written.items, map item_of state.reads.items) = cc in e)
