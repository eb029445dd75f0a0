use Rattle.std.proofs.Common.{ℕ, List, Contains, arith, length, subst, sym}
use Rattle.std.proofs.lemmas.Result.{IfOk-weaker, on_ok_weaker}
use Rattle.sv_space.specs.Cut.{ArePlacesOf}
use Rattle.sv_space.specs.Pieces.{IsLineOf}
use Rattle.sv_space.proofs.Cuts.{apart_caught, caught_for, caught_later, cut_later, later_of_parts}
use Rattle.sv_space.proofs.Cuts.{later_then, within_later}
use Rattle.sv_space.proofs.Lining.{line_split}
use Rattle.sv_space.proofs.OneLine.{back_line}
use Rattle.sv_space.proofs.line.Line.prepare.Goals as goal

pub returns-in_err-cut-clause-within : goal.returns-in_err-cut-clause-within
returns-in_err-cut-clause-within c =
    let n = length c.args.log.now in
    within_later n c.cut.new.line.pieces.parts.items c.args.self.now.pieces.parts.items
    (later_of_parts n c.cut.new.line.pieces.parts.items c.args.self.now.pieces.parts.items
    c.cut.ensures.parts) c.requires.within

pub returns-in_err-places-clause-within : goal.returns-in_err-places-clause-within
returns-in_err-places-clause-within c =
    let n = length c.args.log.now in
    within_later n c.cut.new.line.pieces.parts.items c.args.self.now.pieces.parts.items
    (later_of_parts n c.cut.new.line.pieces.parts.items c.args.self.now.pieces.parts.items
    c.cut.ensures.parts) c.requires.within

pub catch_up-requires-clause-listed : goal.catch_up-requires-clause-listed
catch_up-requires-clause-listed c = λ k on. c.in_ok-places.ensures.listed k
    (subst (λ (xs : List ℕ). Contains xs k) c.as_slice.ensures on)

pub catch_up-requires-clause-within : goal.catch_up-requires-clause-within
catch_up-requires-clause-within c =
    let n = length c.args.log.now in
    within_later n c.cut.new.line.pieces.parts.items c.args.self.now.pieces.parts.items
    (later_of_parts n c.cut.new.line.pieces.parts.items c.args.self.now.pieces.parts.items
    c.cut.ensures.parts) c.requires.within

pub returns-clause-stands : goal.returns-clause-stands
returns-clause-stands c = on_ok_weaker c.catch_up.result (λ stands work are log_is of. (
    let old = c.args.self.now in
    let mid = c.cut.new.line in
    let split = line_split work old.res old.shape old.pieces.parts.items mid.pieces.parts.items
    c.cut.ensures.parts of in
    back_line (λ r s. IsLineOf work r s mid.pieces.parts.items
    → IsLineOf work r s c.catch_up.new.self.pieces.parts.items) old mid c.cut.ensures.line
    (stands work are log_is) split)) c.catch_up.ensures.stands

pub returns-clause-later : goal.returns-clause-later
returns-clause-later c = on_ok_weaker c.catch_up.result (λ later. (
    let n = length c.args.log.now in
    let old = c.args.self.now.pieces.parts.items in
    let mid = c.cut.new.line.pieces.parts.items in
    later_then n c.catch_up.new.self.pieces.parts.items mid old later
    (later_of_parts n mid old c.cut.ensures.parts))) c.catch_up.ensures.later

pub returns-clause-cut : goal.returns-clause-cut
returns-clause-cut c = on_ok_weaker c.catch_up.result (λ later.
    cut_later (length c.args.log.now) c.catch_up.new.self.pieces.parts.items
    c.cut.new.line.pieces.parts.items later c.args.area c.args.self.now.res c.args.self.now.shape
    c.in_ok-cut.ensures.cut) c.catch_up.ensures.later

pub returns-clause-caught : goal.returns-clause-caught
returns-clause-caught c = on_ok_weaker c.catch_up.result (λ caught. (
    let old = c.args.self.now in
    let mid = c.cut.new.line in
    let placed : ArePlacesOf c.args.area old.res old.shape mid.pieces.parts.items
    c.in_ok-places.places.items = back_line (λ r s. ArePlacesOf c.args.area r s mid.pieces.parts.items
    c.in_ok-places.places.items) old mid c.cut.ensures.line c.in_ok-places.ensures in
    caught_for c.args.area (length c.args.log.now) old.res old.shape mid.pieces.parts.items
    c.catch_up.new.self.pieces.parts.items c.catch_up.ensures.spans c.in_ok-places.places.items placed.all
    (λ k d on. caught k d (subst (λ (xs : List ℕ). Contains xs k) (sym c.as_slice.ensures) on))))
    c.catch_up.ensures.caught

pub returns-clause-others : goal.returns-clause-others
returns-clause-others c = on_ok_weaker c.catch_up.result (λ others at n apart was. (
    let old = c.args.self.now in
    let mid = c.cut.new.line in
    let placed : ArePlacesOf c.args.area old.res old.shape mid.pieces.parts.items
    c.in_ok-places.places.items = back_line (λ r s. ArePlacesOf c.args.area r s mid.pieces.parts.items
    c.in_ok-places.places.items) old mid c.cut.ensures.line c.in_ok-places.ensures in
    apart_caught c.args.area at n old.res old.shape mid.pieces.parts.items
    c.catch_up.new.self.pieces.parts.items c.catch_up.ensures.spans c.in_ok-cut.ensures.cut
    c.in_ok-places.places.items placed
    (λ k d free. others k d (λ on. free (subst (λ (xs : List ℕ). Contains xs k) c.as_slice.ensures
    on))) apart
    (caught_later n mid.pieces.parts.items old.pieces.parts.items
    (later_of_parts n mid.pieces.parts.items old.pieces.parts.items c.cut.ensures.parts) at old.res
    old.shape was))) c.catch_up.ensures.others

pub returns-clause-none : goal.returns-clause-none
returns-clause-none c = IfOk-weaker c.catch_up.result _ _ (λ given none was. (
    let n = length c.args.log.now in
    let old = c.args.self.now in
    let mid = c.cut.new.line in
    let placed : ArePlacesOf c.args.area old.res old.shape mid.pieces.parts.items
    c.in_ok-places.places.items = back_line (λ r s. ArePlacesOf c.args.area r s mid.pieces.parts.items
    c.in_ok-places.places.items) old mid c.cut.ensures.line c.in_ok-places.ensures in
    let caught = caught_later n mid.pieces.parts.items old.pieces.parts.items
    (later_of_parts n mid.pieces.parts.items old.pieces.parts.items c.cut.ensures.parts) c.args.area
    old.res old.shape was in
    none (λ k d on.
    let here : Contains c.in_ok-places.places.items k =
    subst (λ (xs : List ℕ). Contains xs k) c.as_slice.ensures on in
    let w = placed.has k d here in
    caught k w.0 d (placed.listed k here) w.1 w.2))) c.catch_up.ensures.none

pub returns-clause-few : goal.returns-clause-few
returns-clause-few c = on_ok_weaker c.catch_up.result (λ later.
    let long = c.catch_up.ensures.spans.long in
    let few = c.in_ok-cut.ensures.few in
    omega (arith, long, few)) c.catch_up.ensures.later
