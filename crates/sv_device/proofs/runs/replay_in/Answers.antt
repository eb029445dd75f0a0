use Rattle.std.proofs.Common.{◌≡◌, ◌<◌, List, ◌++◌, take, drop, length, ap, ◌∙◌, arith, get_or}
use Rattle.std.specs.Prelude.{slice_index_or}
use Rattle.std.proofs.lemmas.List.{take_at}
use Rattle.std.proofs.lemmas.Option.{slice_get-get_or}
use Rattle.sv_device.specs.declared.who.Who.TheVariants.{Lane}
use Rattle.sv_device.specs.Actors.{ActorIs, actors_of}
use Rattle.sv_device.proofs.runs.replay_in.Goals as goal

pub finish-requires-clause-actors : goal.finish-requires-clause-actors
finish-requires-clause-actors g c i d lt =
    let vec = c.into_vec-actors.result in
    let new = c.run_all.new.actors in
    let kept = c.as_mut_slice.ensures.value in
    let same : length new ≡ length c.as_mut_slice.result.now = c.run_all.auto.actors in
    let long : length new ≡ vec.len = omega (arith, c.as_mut_slice.ensures.len) in
    let all : take vec.len (new ++ drop (length new) vec.items) ≡ new =
    take_at new (drop (length new) vec.items) vec.len long in
    let whole = ap length all in
    let were : length c.as_mut_slice.result.now ≡ length vec.items = ap length kept in
    let listed = ap length c.into_vec-actors.ensures in
    let count = c.in_ok-device.ensures.count in
    let inside : i < length (actors_of c.args.trace.now) =
    omega (arith, lt, whole, same, were, listed, count) in
    let who = get_or (actors_of c.args.trace.now) i (Lane 0) in
    ap (λ (l : List ActorIs). (slice_index_or l i d).index) all
    ∙ c.run_all.ensures i d (omega (arith, lt, whole, same))
    ∙ ap (λ (l : List ActorIs). (slice_index_or l i d).index) (kept ∙ c.into_vec-actors.ensures)
    ∙ ap (λ (a : ActorIs). a.index) (c.in_ok-device.ensures.actors i who d
    (slice_get-get_or (actors_of c.args.trace.now) i (Lane 0) inside))
