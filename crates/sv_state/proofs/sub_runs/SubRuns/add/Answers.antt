use Rattle.std.proofs.Common.{refl}
use Rattle.sv_state.specs.Numbers.{on_sub}
use Rattle.sv_state.proofs.Instances.{sub_adds, union_adds}
use Rattle.sv_state.proofs.sub_runs.SubRuns.add.Goals as goal

pub invariant_of-self : goal.invariant_of-self
invariant_of-self c =
    let p = c.args.self.now in
    record {
      in_turn = c.in-Ok.ensures.in_turn;
      have_numbers = c.in-Ok.ensures.have_numbers;
      is_union = union_adds (on_sub p) p.runs.items c.add_at.new.runs.items p.stages.0 c.args.more
          p.have_numbers c.in-Ok.ensures.have_numbers (c.in-Ok.ensures.adds (on_sub p) c.requires.track)
          p.is_union c.union-self.result.0 c.union-self.ensures;
    }

pub returns-in-Ok : goal.returns-in-Ok
returns-in-Ok c = sub_adds c.args.self.now _ c.args.more refl refl
    (c.in-Ok.ensures.adds (on_sub c.args.self.now) c.requires.track)
