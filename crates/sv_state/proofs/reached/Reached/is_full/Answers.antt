use Rattle.sv_state.proofs.Fullness.{mask_full}
use Rattle.sv_state.proofs.reached.Reached.is_full.Goals as goal

pub returns-in-None : goal.returns-in-None
returns-in-None c = λ full. mask_full c.args.self.now c.args.d.now c.mask_of.result c.in-None.is
    (λ cell. c.mask_of.ensures cell) (c.cover.ensures full)
