use Rattle.std.proofs.Common.{ℕ, ◌+◌, ◌≡◌, ◌++◌, ◌∷◌, [], List, Contains, get_or, length, subst, sym}
use Rattle.std.proofs.lemmas.List.{get_or_default}
use Rattle.sv_model.specs.Reports.{Spot, accesses_of, spots_of}
use Rattle.sv_rangemap.specs.declared.part.Part.{Part}
use Rattle.sv_rangemap.proofs.Pieces.{some_part}
use Rattle.sv_space.specs.Cut.{ArePlacesOf}
use Rattle.sv_space.specs.Found.{AreFound}
use Rattle.sv_space.specs.declared.known.Known.{Known}
use Rattle.sv_space.proofs.FoundIn.{IsPastIn, found_first, found_last, found_next, place_in_mip}
use Rattle.sv_space.proofs.FoundIn.{place_touched}
use Rattle.sv_space.proofs.finding.find.Goals as goal

pub loop-place-init : goal.loop-place-init
loop-place-init c = record {
  runs = c.requires.runs;
  found = λ work step steps next on own caught stand f. found_first (length work)
      (work ++ step ∷ []) c.args.line.now.res c.args.line.now.shape c.args.line.now.pieces.parts.items
      c.as_slice-list.result.now c.args.access.now.pos (spots_of c.args.reports.now) f;
}

pub find_at-requires-clause-listed : goal.find_at-requires-clause-listed
find_at-requires-clause-listed c =
    let list = c.as_slice-list.result.now in
    let i = c.loop-place.place-index in
    let lt = c.loop-place-test.true in
    c.in_ok-places.ensures.listed (get_or list i 0)
    (subst (λ (xs : List ℕ). Contains xs (get_or list i 0)) c.as_slice-list.ensures
    (i, lt, get_or_default list i (get_or list i 0) 0 lt))

pub find_at-requires-clause-in_mip : goal.find_at-requires-clause-in_mip
find_at-requires-clause-in_mip c =
    let line = c.args.line.now in
    let list = c.as_slice-list.result.now in
    let i = c.loop-place.place-index in
    let lt = c.loop-place-test.true in
    place_in_mip line.res line.shape line.pieces.size line.shaped line.pieces.parts.items line.pieces.cover
    c.args.access.now c.requires.lies c.requires.cut c.in_ok-places.places.items c.in_ok-places.ensures
    (get_or list i 0)
    (subst (λ (xs : List ℕ). Contains xs (get_or list i 0)) c.as_slice-list.ensures
    (i, lt, get_or_default list i (get_or list i 0) 0 lt))

pub find_at-requires-clause-runs : goal.find_at-requires-clause-runs
find_at-requires-clause-runs c = c.loop-place.invariant.runs

pub loop-place-preserved : goal.loop-place-preserved
loop-place-preserved c =
    let was = c.loop-place.invariant in
    let one = c.in_ok-find_at.ensures in
    let line = c.args.line.now in
    let parts = line.pieces.parts.items in
    let x = c.args.access.now in
    let list = c.as_slice-list.result.now in
    let i = c.loop-place.place-index in
    let lt = c.loop-place-test.true in
    let placed : ArePlacesOf x.area line.res line.shape parts list =
    subst (λ (xs : List ℕ). ArePlacesOf x.area line.res line.shape parts xs)
    (sym c.as_slice-list.ensures) c.in_ok-places.ensures in
    let d : Part Known = some_part parts line.pieces.cover.some in record {
      runs = one.runs;
      found = λ work step steps next on own caught stand f. (
          let k : ℕ = get_or list i 0 in
          let k_at : get_or list i k ≡ k = get_or_default list i k 0 lt in
          let k_on : Contains list k = (i, lt, k_at) in
          let k_lt = placed.listed k k_on in
          let has = placed.has k d k_on in
          let h = one.found work step d steps next own (caught k has.0 d k_lt has.1 has.2) (stand k d k_lt)
          (place_touched line.res line.shape line.pieces.size line.shaped parts line.pieces.cover x
          c.requires.lies c.requires.cut list placed k k_on d (accesses_of step) on) in
          subst (λ (ts : List Spot). AreFound (length work) (work ++ step ∷ [])
          (IsPastIn line.res line.shape parts list x.pos (i + 1)) ts) (sym h.1)
          (found_next line.res line.shape line.pieces.size line.shaped parts line.pieces.cover x
          c.requires.lies c.requires.cut list placed work steps step next on i k d lt k_at
          (spots_of c.loop-place.reports) h.0 h.2
          (was.found work step steps next on own caught stand f)));
    }

pub returns-clause-found : goal.returns-clause-found
returns-clause-found c = λ work step steps next on own caught stand f. (
    let line = c.args.line.now in
    let parts = line.pieces.parts.items in
    let x = c.args.access.now in
    let list = c.as_slice-list.result.now in
    let placed : ArePlacesOf x.area line.res line.shape parts list =
    subst (λ (xs : List ℕ). ArePlacesOf x.area line.res line.shape parts xs)
    (sym c.as_slice-list.ensures) c.in_ok-places.ensures in
    found_last line.res line.shape line.pieces.size line.shaped parts line.pieces.cover x c.requires.lies
    c.requires.cut list placed work steps step next on c.loop-place.place-index
    (spots_of c.loop-place.reports) c.loop-place-test.false
    (c.loop-place.invariant.found work step steps next on own caught stand f))
