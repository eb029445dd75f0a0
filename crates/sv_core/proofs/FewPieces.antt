-- How many pieces the space of a validator has at most.
use Rattle.std.proofs.Common.{ℕ, ◌≡◌, ◌≤◌, ◌+◌, ◌*◌, false, length, subst, sym}
use Rattle.sv_model.specs.Work.{work_steps}
use Rattle.sv_space.specs.Runs.{runs_in}
use Rattle.sv_space.proofs.Fewer.{pieces_are_few}
use Rattle.sv_core.specs.State.{HasItsSpace, State}

pub few_pieces : (v : State) → HasItsSpace v → v.spent ≡ false → v.pieces ≤ length v.trace.resources
    + 2 * runs_in (work_steps v.trace v.history)
few_pieces v has unspent =
    let h = has unspent in
    subst (λ (n : ℕ). n ≤ length v.trace.resources + 2 * runs_in (work_steps v.trace v.history)) (sym h.2)
    (pieces_are_few v.trace (work_steps v.trace v.history) h.0 h.1.resources h.1.stands)
