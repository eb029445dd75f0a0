use Rattle.std.proofs.Common.{refl, sym, subst, arith}
use Rattle.std.proofs.lemmas.List.{get_or_read}
use Rattle.sv_rules.specs.Laws.{IsLawfulNext}
use Rattle.sv_lines.specs.Following.{IsSizeOf}
use Rattle.sv_rules.specs.Taken.{Taken}
use Rattle.sv_lines.proofs.Finding.{goes_of, known_within, place_within, adds_here, command_kept}
use Rattle.sv_lines.proofs.Finding.{command_taken, gone_again}
use Rattle.sv_lines.proofs.taken.TakenLines.keep_command.Goals as goal

pub index-known-requires : goal.index-known-requires
index-known-requires c =
    let g = goes_of c.self.inside _ c.place_of-place.result c.args.rec c.self.invariant c.self.view_is
    c.requires.few c.place_of-place.ensures c.requires.begun c.requires.not_ended in
    let lt = known_within c.self.inside c.place_of-place.result c.args.rec g in
    omega (arith, lt, c.self.inside.recordings.known.ok.0)

pub push-requires-clause-place : goal.push-requires-clause-place
push-requires-clause-place c =
    let g = goes_of c.self.inside _ c.place_of-place.result c.args.rec c.self.invariant c.self.view_is
    c.requires.few c.place_of-place.ensures c.requires.begun c.requires.not_ended in
    place_within c.self.inside c.place_of-place.result c.args.rec g

pub push-requires-clause-known : goal.push-requires-clause-known
push-requires-clause-known c =
    let g = goes_of c.self.inside _ c.place_of-place.result c.args.rec c.self.invariant c.self.view_is
    c.requires.few c.place_of-place.ensures c.requires.begun c.requires.not_ended in
    known_within c.self.inside c.place_of-place.result c.args.rec g

pub invariant_of-self : goal.invariant_of-self
invariant_of-self c =
    gone_again c.self.inside c.push.new.self.list.items c.self.inside.scripts.lanes
    c.self.inside.scripts.recorders c.self.inside.scripts.order.items c.push.new.self.known.items
    c.push.new.self.places c.push.new.self.busy c.self.invariant
    c.in_err-push.ensures.fault.0 refl refl refl c.in_err-push.ensures.fault.1 c.in_err-push.ensures.places
    c.in_err-push.ensures.busy

pub invariant_of-self-2 : goal.invariant_of-self-2
invariant_of-self-2 c =
    let g = goes_of c.self.inside _ c.place_of-place.result c.args.rec c.self.invariant c.self.view_is
    c.requires.few c.place_of-place.ensures c.requires.begun c.requires.not_ended in
    command_kept c.self.inside c.place_of-place.result c.args.rec c.args.command
    c.standing_after-standing.result c.both-size.result c.push.new.self.list.items
    c.push.new.self.known.items c.push.new.self.places c.push.new.self.busy (record {
      goes = g;
      adds = adds_here c.self.inside c.place_of-place.result c.args.rec g c.args.command
          c.index-known.result.now c.standing_after-standing.result c.command_size-added.result
          c.both-size.result
          (get_or_read c.self.inside.recordings.known.items c.place_of-place.result c.index-known.result.now
          (known_within c.self.inside c.place_of-place.result c.args.rec g) c.index-known.ensures)
          (subst (λ (s : Taken). IsLawfulNext s.trace c.args.rec c.args.command)
          (sym c.self.view_is) c.requires.lawful) c.standing_after-standing.ensures
          (subst (λ (s : Taken). IsSizeOf s.trace c.index-known.result.now.family
          c.index-known.result.now.standing c.args.command c.command_size-added.result)
          (sym c.self.view_is) c.command_size-added.ensures) c.both-size.ensures;
      list = c.in_ok-push.ensures.list;
      known = c.in_ok-push.ensures.known;
      places = c.in_ok-push.ensures.places;
      busy = c.in_ok-push.ensures.busy;
    })

pub returns-clause-ok : goal.returns-clause-ok
returns-clause-ok c =
    let g = goes_of c.self.inside _ c.place_of-place.result c.args.rec c.self.invariant c.self.view_is
    c.requires.few c.place_of-place.ensures c.requires.begun c.requires.not_ended in
    command_taken c.self.inside _ c.place_of-place.result c.args.rec c.args.command
    c.standing_after-standing.result c.both-size.result c.push.new.self.list.items
    c.push.new.self.known.items c.push.new.self.places c.push.new.self.busy c.self.view_is (record {
      goes = g;
      adds = adds_here c.self.inside c.place_of-place.result c.args.rec g c.args.command
          c.index-known.result.now c.standing_after-standing.result c.command_size-added.result
          c.both-size.result
          (get_or_read c.self.inside.recordings.known.items c.place_of-place.result c.index-known.result.now
          (known_within c.self.inside c.place_of-place.result c.args.rec g) c.index-known.ensures)
          (subst (λ (s : Taken). IsLawfulNext s.trace c.args.rec c.args.command)
          (sym c.self.view_is) c.requires.lawful) c.standing_after-standing.ensures
          (subst (λ (s : Taken). IsSizeOf s.trace c.index-known.result.now.family
          c.index-known.result.now.standing c.args.command c.command_size-added.result)
          (sym c.self.view_is) c.command_size-added.ensures) c.both-size.ensures;
      list = c.in_ok-push.ensures.list;
      known = c.in_ok-push.ensures.known;
      places = c.in_ok-push.ensures.places;
      busy = c.in_ok-push.ensures.busy;
    })
