-- The draws of a script.
use Rattle.std.specs.Prelude.{ℕ, zero, suc, ◌+◌, ◌*◌, ◌/◌, ◌%◌, ◌^◌}

-- the state after a draw
unfoldable pub drawn : ℕ → ℕ
drawn x = (x * 6364136223846793005 + 1442695040888963407) % 2 ^ 64

-- what a draw from this state gives
unfoldable pub draw : ℕ → ℕ
draw x = drawn x / 2 ^ 33

-- the state after the two draws of each of so many writes
unfoldable pub after_writes : ℕ → ℕ → ℕ
after_writes zero x = x
after_writes (suc k) x = after_writes k (drawn (drawn x))
