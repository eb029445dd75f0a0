use Rattle.std.proofs.Common.{◌+◌, List, ℕ, sym, subst}
use Rattle.sv_space.specs.Places.{AreListed}
use Rattle.sv_space.proofs.Placing.{listed_more}
use Rattle.sv_space.proofs.places.add_places.Goals as goal

pub returns : goal.returns
returns c = λ spans i lt is listed. (
    let pieces = c.args.line.now.pieces in
    subst (λ (places : List ℕ). AreListed pieces.parts.items spans (i + 1) c.greater-2.result places)
    (sym c.in_ok-push_numbers.ensures)
    (listed_more pieces.size pieces.parts.items pieces.cover c.args.span c.requires.order
    c.index_of-first.result c.index_of-last.result c.index_of-first.ensures c.index_of-last.ensures spans
    i lt is c.args.next c.greater.result c.greater-2.result
    c.greater.ensures.first c.greater.ensures.second c.greater.ensures.one c.greater-2.ensures.first
    c.greater-2.ensures.second c.greater-2.ensures.one c.args.places.now.items listed))
