-- Names behind references.
use Rattle.std.specs.Prelude.{ℕ, List}
use Rattle.std.specs.Borrow.{Bor}

abbrev pub seen : Bor (List ℕ) → List ℕ
seen name = name.now

abbrev pub seen_pair : Bor (List ℕ) × Bor (List ℕ) → List ℕ × List ℕ
seen_pair p = (p.0.now, p.1.now)
