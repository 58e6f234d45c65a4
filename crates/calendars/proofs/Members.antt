-- Members of a set after one more was put in.
use Rattle.std.proofs.Common.{◌≡◌, ℕ, ◌+◌, ◌<◌, ◌||◌, nat_eq, List, [], ◌∷◌, length, take, get_or, arith}
use Rattle.std.specs.Ordering.{nat_cmp}
use Rattle.std.specs.BTreeSet.{insert_key}
use Rattle.std.proofs.lemmas.Bool.Decides.{nat_tests}
use Rattle.std.proofs.lemmas.Grind.{common_steps}
use Rattle.calendars.specs.Sets.{has}

pub has-put : (xs : List ℕ) (k q : ℕ) → has (insert_key nat_cmp xs k) q ≡ (has xs q || nat_eq q k)
has-put [] k q = grind (arith, nat_tests)
has-put (x ∷ xs) k q = let put = has-put xs k q in grind (arith, nat_tests, put)

pub has-more : (xs : List ℕ) (i q : ℕ) → i < length xs → has (take (i + 1) xs) q ≡ (has (take i xs) q || nat_eq q (get_or xs i 0))
has-more xs i q within = grind (arith, common_steps)
