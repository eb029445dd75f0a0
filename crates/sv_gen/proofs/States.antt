-- States of the generator after draws.
use Rattle.std.proofs.Common.{◌≡◌, ℕ, ◌+◌, ◌-◌, ◌*◌, ◌%◌, ◌^◌, ◌≤◌, min, zero, suc, refl, ap, arith}
use Rattle.std.proofs.Math.Nat.{mod-add-mod, mul_comm}
use Rattle.sv_gen.specs.Draws.{next_state, state_after}

-- the code multiplies and adds modulo 2^64 one after the other
pub next_state_steps : (x : ℕ) → ((x * 6364136223846793005) % 2 ^ 64 + 1442695040888963407) % 2 ^ 64
    ≡ next_state x
unfolding next_state
next_state_steps x = rw (mod-add-mod, mul_comm x 6364136223846793005)

-- draws that go on
pub state_after_sum : (x m n k : ℕ) → k ≡ n + m → state_after (state_after x m) n ≡ state_after x k
unfolding state_after
state_after_sum x m zero k e = let f : m ≡ k = omega arith in ap (λ (i : ℕ). state_after x i) f
state_after_sum x m (suc n) k e = let f : k ≡ suc (n + m) = omega arith in
    rw f (ap next_state (state_after_sum x m n (n + m) refl))

-- the state before the next work of a recording
pub work_state : (x s t n : ℕ) → s ≡ state_after x (3 * n) → t ≡ state_after s 3 → t
    ≡ state_after x (3 * (n + 1))
work_state x s t n e q = rw (q, e) (state_after_sum x (3 * n) 3 (3 * (n + 1)) (omega arith))

-- the state before the next recording
pub recording_state : (seed count rec s t works : ℕ) → works ≡ min 100 (count - 100 * rec) → 100 * (rec + 1)
    ≤ count → s ≡ state_after seed (300 * rec) → t ≡ state_after s (3 * works) → t
    ≡ state_after seed (300 * (rec + 1))
recording_state seed count rec s t works w le e q =
    rw (q, e) (state_after_sum seed (300 * rec) (3 * works) (300 * (rec + 1)) (omega arith))
