-- Draws, which are made from a number that each of them changes.
use Rattle.std.specs.Prelude.{ℕ, zero, suc, ◌+◌, ◌*◌, ◌/◌, ◌%◌, ◌^◌}

-- the number behind a draw
abbrev pub after : ℕ → ℕ
after x = (x * 6364136223846793005 + 1442695040888963407) % 2 ^ 64

-- the number behind so many draws
abbrev pub number : ℕ → ℕ → ℕ
number x zero = x
number x (suc n) = after (number x n)

-- what the n-th draw from the number x on gives below m, n from 1
abbrev pub draw : ℕ → ℕ → ℕ → ℕ
draw x n m = number x n / 2 ^ 33 % m
