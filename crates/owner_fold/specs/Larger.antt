-- The larger of two numbers.
use Rattle.std.specs.Prelude.{ℕ, cond, nat_lt}

abbrev pub larger : ℕ → ℕ → ℕ
larger a b = cond (nat_lt a b) b a
