use Rattle.sv_state.proofs.Outlining.{held, quiet_held}
use Rattle.sv_state.proofs.reached.Reached.adds.Goals as goal

pub returns-else-not-cover : goal.returns-else-not-cover
returns-else-not-cover c = λ none cell deps step n is late st.
    quiet_held cell c.args.a.now c.args.d.now n is deps step c.args.self.now c.mask_of.result
    (c.mask_of.ensures cell (held cell c.args.a.now c.args.d.now n is))
    (c.cover.ensures c.if-not-cover.false) st
