-- The newest of several results, kept in their order.
use Rattle.std.proofs.Common.{◌≡◌, ◌≤◌, ◌<◌, ◌-◌, ◌+◌, ℕ, Bool, List, [], ◌∷◌, length, take, drop, get_or, reverse}
use Rattle.std.proofs.Common.{ap, sym, ◌∙◌, arith}
use Rattle.std.proofs.lemmas.List.{take_more, reverse-append}

pub without_newest : (xs : List Bool) (n : ℕ) (d : Bool) → 0 < n → n ≤ length xs
    → reverse (take (n - 1) xs) ≡ drop 1 (reverse (take n xs))
without_newest xs n d some fits =
    let one : n - 1 + 1 ≡ n = omega arith in
    sym (ap (λ k. drop 1 (reverse (take k xs))) (sym one)
    ∙ ap (λ ys. drop 1 (reverse ys)) (take_more xs (n - 1) d (omega arith))
    ∙ ap (λ ys. drop 1 ys) (reverse-append (take (n - 1) xs) (get_or xs (n - 1) d ∷ [])))
