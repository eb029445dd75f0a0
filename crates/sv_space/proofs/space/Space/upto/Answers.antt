use Rattle.std.proofs.Common.{ℕ, ◌≡◌, ◌<◌, ◌∙◌, List, ap, arith, get_or, length, subst, sym}
use Rattle.std.proofs.lemmas.List.{get_or_default}
use Rattle.sv_space.specs.AllLines.{AreAllCaught, LiesAt, LiesIn}
use Rattle.sv_space.specs.declared.line.Line.{Line}
use Rattle.sv_space.proofs.Fitting.{area_lies}
use Rattle.sv_space.proofs.Upto.{found_upto, upto_is}
use Rattle.sv_space.proofs.space.Space.upto.Goals as goal

pub place_of-place-requires-clause-lies : goal.place_of-place-requires-clause-lies
place_of-place-requires-clause-lies c = subst (λ (ls : List Line). LiesIn ls c.args.at.now)
    (sym c.deref.ensures.value) (area_lies c.args.self.now c.args.at.now c.requires)

pub returns : goal.returns
returns c = λ cell only. (
    let lines = c.args.self.now.lines.items in
    let at = c.args.at.now in
    let place = c.place_of-place.result in
    let line = c.index-line.result.now in
    let lt : place < length lines = (let e = ap length c.deref.ensures.value in let h =
    c.place_of-place.ensures.listed in omega (arith, e, h)) in
    let is : line ≡ get_or lines place line = c.index-line.ensures ∙ get_or_default lines place _ line lt in
    let lies : (d : Line) → LiesAt (get_or lines place d) at =
    subst (λ (ls : List Line). (d : Line) → LiesAt (get_or ls place d) at) c.deref.ensures.value
    c.place_of-place.ensures.lies in
    upto_is c.args.self.now at c.upto.result
    (subst (λ (n : ℕ). AreAllCaught at n lines) (sym c.upto.ensures)
    (found_upto lines c.args.self.now.sorted place lt at cell only lies line
    (λ d. get_or_default lines place d line lt ∙ sym is) c.first_of-number.result c.get-known.result.now
    c.first_of-number.ensures.is c.get-known.ensures)))
