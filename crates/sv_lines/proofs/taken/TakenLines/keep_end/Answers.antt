use Rattle.std.proofs.Common.{◌<◌, sym, ap, subst, arith}
use Rattle.std.proofs.lemmas.List.{get_or_read}
use Rattle.sv_lines.specs.declared.known.Known.{Known}
use Rattle.sv_lines.proofs.Finding.{goes_of, known_within, recorder_small, end_kept, end_taken}
use Rattle.sv_lines.proofs.taken.TakenLines.keep_end.Goals as goal

pub index-requires : goal.index-requires
index-requires c =
    let g = goes_of c.self.inside _ c.place_of-place.result c.args.rec c.self.invariant c.self.view_is
    c.requires.few c.place_of-place.ensures c.requires.begun c.requires.not_ended in
    let lt = known_within c.self.inside c.place_of-place.result c.args.rec g in
    omega (arith, lt, c.self.inside.recordings.known.ok.0)

pub publish-requires : goal.publish-requires
publish-requires c =
    let g = goes_of c.self.inside _ c.place_of-place.result c.args.rec c.self.invariant c.self.view_is
    c.requires.few c.place_of-place.ensures c.requires.begun c.requires.not_ended in
    let small = recorder_small c.self.inside c.place_of-place.result c.args.rec g c.index.result.now in
    let lt : c.index.result.now.recorder < 16 = subst (λ (k : Known). k.recorder < 16)
    (sym c.index.ensures) small in
    let count = c.self.invariant.recorders in
    omega (arith, lt, count)

pub end-requires-clause-known : goal.end-requires-clause-known
end-requires-clause-known c =
    let g = goes_of c.self.inside _ c.place_of-place.result c.args.rec c.self.invariant c.self.view_is
    c.requires.few c.place_of-place.ensures c.requires.begun c.requires.not_ended in
    known_within c.self.inside c.place_of-place.result c.args.rec g

pub end-requires-clause-recorder : goal.end-requires-clause-recorder
end-requires-clause-recorder c =
    let g = goes_of c.self.inside _ c.place_of-place.result c.args.rec c.self.invariant c.self.view_is
    c.requires.few c.place_of-place.ensures c.requires.begun c.requires.not_ended in
    subst (λ (k : Known). k.recorder < 16) (sym c.index.ensures)
    (recorder_small c.self.inside c.place_of-place.result c.args.rec g c.index.result.now)

pub invariant_of-self-2 : goal.invariant_of-self-2
invariant_of-self-2 c =
    let g = goes_of c.self.inside _ c.place_of-place.result c.args.rec c.self.invariant c.self.view_is
    c.requires.few c.place_of-place.ensures c.requires.begun c.requires.not_ended in
    end_kept c.self.inside c.place_of-place.result c.args.rec c.index.result.now.recorder
    c.end.new.self.list.items c.publish.new.self.lanes c.publish.new.self.recorders
    c.publish.new.self.order.items c.end.new.self.known.items c.end.new.self.places c.end.new.self.busy
    (record {
      goes = g;
      recorder = λ d. ap (λ (k : Known). k.recorder)
          (get_or_read c.self.inside.recordings.known.items c.place_of-place.result c.index.result.now
          (known_within c.self.inside c.place_of-place.result c.args.rec g) c.index.ensures d);
      list = c.end.ensures.list;
      lanes = c.publish.ensures.lanes;
      scripts = c.in_ok-publish.ensures.recorders;
      order = c.in_ok-publish.ensures.order;
      known = c.end.ensures.known;
      places = c.end.ensures.places;
      busy = c.end.ensures.busy;
    })

pub returns-clause-ok : goal.returns-clause-ok
returns-clause-ok c =
    let g = goes_of c.self.inside _ c.place_of-place.result c.args.rec c.self.invariant c.self.view_is
    c.requires.few c.place_of-place.ensures c.requires.begun c.requires.not_ended in
    end_taken c.self.inside _ c.place_of-place.result c.args.rec c.index.result.now.recorder
    c.end.new.self.list.items c.publish.new.self.lanes c.publish.new.self.recorders
    c.publish.new.self.order.items c.end.new.self.known.items c.end.new.self.places c.end.new.self.busy
    c.self.view_is (record {
      goes = g;
      recorder = λ d. ap (λ (k : Known). k.recorder)
          (get_or_read c.self.inside.recordings.known.items c.place_of-place.result c.index.result.now
          (known_within c.self.inside c.place_of-place.result c.args.rec g) c.index.ensures d);
      list = c.end.ensures.list;
      lanes = c.publish.ensures.lanes;
      scripts = c.in_ok-publish.ensures.recorders;
      order = c.in_ok-publish.ensures.order;
      known = c.end.ensures.known;
      places = c.end.ensures.places;
      busy = c.end.ensures.busy;
    })
