use Rattle.std.proofs.Common.{ap, refl, sym, ◌∙◌, if◌then◌else◌, Some, None, ◌==◌, take}
use Rattle.std.specs.BTreeMap.{is_at, get}
use Rattle.std.specs.Map.{lookup}
use Rattle.std.specs.Option.{option_or}
use Rattle.std.specs.Ordering.{nat_cmp}
use Rattle.sv_model.specs.declared.line.Recording.{Recording}
use Rattle.sv_index.proofs.MorePlaces.{place_none, places_more, places_all}
use Rattle.sv_index.proofs.recordings.places_of.Goals as goal

pub loop-place-init : goal.loop-place-init
loop-place-init c n = place_none (take 0 c.args.recordings.now) n _ refl
    (ap (lookup (is_at (nat_cmp n))) c.new-places.ensures.empty)

pub loop-place-preserved : goal.loop-place-preserved
loop-place-preserved c n =
    places_more c.args.recordings.now c.loop-place.place n c.index-recordings-place.result
    (get nat_cmp c.loop-place.places n) (get nat_cmp c.note.new.places n) c.loop-place-test.true
    c.index-recordings-place.is (c.loop-place.invariant n)
    (c.in_ok-note.ensures n ∙ ap (λ (r : Recording). option_or (get nat_cmp c.loop-place.places n)
    (if r.rec == n then Some c.loop-place.place else None)) (sym c.index-recordings-place.is))

pub returns : goal.returns
returns c = λ n. places_all c.args.recordings.now c.loop-place.place n _ c.loop-place-test.false
    (c.loop-place.invariant n)
