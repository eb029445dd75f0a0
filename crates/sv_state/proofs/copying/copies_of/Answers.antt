use Rattle.std.proofs.Common.{◌≡◌, ◌∙◌, ◌∷◌, ◌++◌, [], List, ap, get_or, map, sym, take}
use Rattle.std.proofs.lemmas.List.{map-append, map_more}
use Rattle.sv_state.specs.Contents.{Item, item_of}
use Rattle.sv_state.proofs.copying.copies_of.Goals as goal

pub loop-e-preserved : goal.loop-e-preserved
loop-e-preserved c =
    let es = c.args.entries.now in
    let i = c.loop-e.e-index in
    let item : item_of c.in_ok-copied.copied ≡ item_of (get_or es i c.e-item.result) =
    c.in_ok-copied.ensures ∙ ap item_of c.e-item.is in
    ap (map item_of) c.in_ok-push.ensures.items
    ∙ map-append item_of c.loop-e.copies.items (c.in_ok-copied.copied ∷ [])
    ∙ ap (λ (is : List Item). is ++ item_of c.in_ok-copied.copied ∷ []) c.loop-e.invariant
    ∙ ap (λ (t : Item). map item_of (take i es) ++ t ∷ []) item
    ∙ sym (map_more item_of es i c.e-item.result c.loop-e-test.true)
