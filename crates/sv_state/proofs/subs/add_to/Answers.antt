use Rattle.std.proofs.lemmas.Result.{on_ok_weaker}
use Rattle.sv_state.proofs.Instances.{subs_set}
use Rattle.sv_state.proofs.subs.add_to.Goals as goal

pub returns : goal.returns
returns c = on_ok_weaker c.add.result (λ a. subs_set c.args.subs.now.items c.args.i c.index_mut.result.now
    c.add.new.self c.args.more c.requires.within c.index_mut.ensures.value a) c.add.ensures
