-- Draws of a linear congruential generator.
use Rattle.std.specs.Prelude.{ℕ, ◌+◌, ◌*◌, ◌/◌, ◌%◌, ◌^◌, zero, suc}

-- the state after one more draw
unfoldable pub next_state : ℕ → ℕ
next_state x = (6364136223846793005 * x + 1442695040888963407) % 2 ^ 64

-- the state after so many draws from the state x
unfoldable pub state_after : ℕ → ℕ → ℕ
state_after x zero = x
state_after x (suc draws) = next_state (state_after x draws)

-- what a draw of n gives: the state is the one that the draw left
unfoldable pub drawn : ℕ → ℕ → ℕ
drawn state n = (state / 2 ^ 33) % n
