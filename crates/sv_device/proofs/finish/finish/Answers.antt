use Rattle.std.proofs.Common.{◌≡◌, ◌<◌, ◌≤◌, List, drop, length, slice_get, sym, ap, ◌∙◌, subst, arith}
use Rattle.std.proofs.Common.{add-zero, add-one}
use Rattle.std.specs.Prelude.{slice_index_or}
use Rattle.std.specs.List.{remove}
use Rattle.std.proofs.lemmas.List.{get_or-drop}
use Rattle.sv_model.specs.declared.line.Trace.{Trace}
use Rattle.sv_model.specs.History.{IsWhole}
use Rattle.sv_core.specs.State.{State}
use Rattle.sv_share.specs.Values.{ShareIs}
use Rattle.sv_device.specs.Actors.{ActorIs, actors_of, events_of}
use Rattle.sv_device.proofs.Finishing.{done_more, done_whole, rest_after}
use Rattle.sv_device.proofs.finish.finish.Goals as goal

pub loop-preserved : goal.loop-preserved
loop-preserved g c =
    let n = c.loop.counter in
    let items = c.args.actors.items in
    let i = c.loop.invariant in
    let a = c.remove-actor.result in
    let share = c.into_share.ensures.share in
    let lt : n < length items = let e = c.len-end.ensures in let t = c.loop-test.true in omega arith in
    let index : a.index ≡ n =
    ap (λ (x : ActorIs). x.index) (c.remove-actor.ensures.value
    ∙ ap (λ (l : List ActorIs). slice_index_or l 0 a) i.rest ∙ get_or-drop n items 0 a
    ∙ ap (λ j. slice_index_or items j a) (add-zero n))
    ∙ c.requires.actors n a lt in
    let count =
    ap (λ (k : State). length (events_of g.C.Case.trace a.who k.history)) (sym i.kept)
    ∙ c.compare.ensures.equal a.who (ap (λ (s : ShareIs). slice_get (actors_of g.C.Case.trace) s.actor)
    share ∙ c.into_share.ensures.actor)
    ∙ ap (λ (s : ShareIs). s.count) share in record {
      rest = c.remove-actor.ensures.items ∙ ap (λ (l : List ActorIs). remove l 0) i.rest
          ∙ rest_after items n lt ∙ ap (λ k. drop k items) (sym (add-one n));
      kept = c.compare.ensures.same.0 ∙ i.kept;
      whole = done_more g.C.Case.trace c.args.kept.history n c.left.result a i.whole index
          c.into_share.ensures.actor count c.left.ensures
          (let none = c.if-left-gt0.false in omega (arith, none));
    }

pub returns-clause-whole : goal.returns-clause-whole
returns-clause-whole g c =
    let v = c.into_validator-validator in
    let few : length (actors_of g.C.Case.trace) ≤ c.loop.counter = let e = c.len-end.ensures in let f =
    c.loop-test.false in let n = c.requires.count in omega (arith, e, n) in
    done_whole g.C.Case.trace v.result c.args.kept.history c.loop.counter c.history.ensures.history
    (ap (λ (k : State). k.trace) v.ensures.is ∙ v.ensures.trace)
    (ap (λ (k : State). k.history) (v.ensures.is ∙ c.loop.invariant.kept)) few c.loop.invariant.whole

pub returns-clause-unspent : goal.returns-clause-unspent
returns-clause-unspent g c =
    let v = c.into_validator-validator in
    let trace = ap (λ (k : State). k.trace) v.ensures.is ∙ v.ensures.trace in
    let few : length (actors_of g.C.Case.trace) ≤ c.loop.counter = let e = c.len-end.ensures in let f =
    c.loop-test.false in let n = c.requires.count in omega (arith, e, n) in
    let whole = done_whole g.C.Case.trace v.result c.args.kept.history c.loop.counter
    c.history.ensures.history trace (ap (λ (k : State). k.history) (v.ensures.is ∙ c.loop.invariant.kept))
    few c.loop.invariant.whole in
    c.history.ensures.unspent (subst (λ (u : Trace). IsWhole u v.result.history) (sym trace) whole)
