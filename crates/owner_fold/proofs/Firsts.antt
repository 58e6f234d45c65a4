-- Of several with one number the first counts: one item further, and whether a number is among those that count.
use Rattle.std.proofs.Common.{[], ℕ, ◌++◌, ◌||◌, ◌∙◌, ◌∷◌, ◌≡◌, Bool, List, ap, cond, false, find, is_some, map, refl}
use Rattle.std.proofs.Common.{Some, true}
use Rattle.std.specs.Prelude.{◌==◌}
use Rattle.model.specs.Words.{firsts, has}

-- one more item is one more that counts where its number is not known, nor that of one that counts
pub firsts_further : {X : Type 0} (number : X → ℕ) (known : List ℕ) (xs : List X) (x : X)
    → firsts number known (xs ++ x ∷ [])
    ≡ cond (has known (number x) || has (map number (firsts number known xs)) (number x)) (firsts number known xs)
    (firsts number known xs ++ x ∷ [])
firsts_further {X} number known [] x = go (has known (number x))
  where
    go : (b : Bool) → cond b [] (x ∷ []) ≡ cond (b || false) [] (x ∷ [])
    go true = refl
    go false = refl
firsts_further {X} number known (y ∷ ys) x =
    go (has known (number y)) (firsts_further number known ys x) (firsts_further number (number y ∷ known) ys x)
  where
    regroup : (F : List X) (a b c : Bool)
        → y ∷ cond ((a || b) || c) F (F ++ x ∷ []) ≡ cond (b || (a || c)) (y ∷ F) (y ∷ (F ++ x ∷ []))
    regroup F true true c = refl
    regroup F true false c = refl
    regroup F false true c = refl
    regroup F false false true = refl
    regroup F false false false = refl

    go : (b : Bool)
        → firsts number known (ys ++ x ∷ [])
        ≡ cond (has known (number x) || has (map number (firsts number known ys)) (number x)) (firsts number known ys)
        (firsts number known ys ++ x ∷ [])
        → firsts number (number y ∷ known) (ys ++ x ∷ [])
        ≡ cond
        ((number y == number x || has known (number x))
        || has (map number (firsts number (number y ∷ known) ys)) (number x))
        (firsts number (number y ∷ known) ys) (firsts number (number y ∷ known) ys ++ x ∷ [])
        → cond b (firsts number known (ys ++ x ∷ [])) (y ∷ firsts number (number y ∷ known) (ys ++ x ∷ []))
        ≡ cond
        (has known (number x)
        || has (map number (cond b (firsts number known ys) (y ∷ firsts number (number y ∷ known) ys))) (number x))
        (cond b (firsts number known ys) (y ∷ firsts number (number y ∷ known) ys))
        (cond b (firsts number known ys) (y ∷ firsts number (number y ∷ known) ys) ++ x ∷ [])
    go true h k = h
    go false h k =
        ap (λ (l : List X). y ∷ l) k
        ∙ regroup (firsts number (number y ∷ known) ys) (number y == number x) (has known (number x))
        (has (map number (firsts number (number y ∷ known) ys)) (number x))

-- there is one of this number where the number is among the numbers
pub has_found : {X : Type 0} (number : X → ℕ) (n : ℕ) (xs : List X)
    → is_some (find (λ (x : X). number x == n) xs) ≡ has (map number xs) n
has_found number n [] = refl
has_found {X} number n (x ∷ xs) = go (number x == n) (has_found number n xs)
  where
    go : (b : Bool) → is_some (find (λ (x : X). number x == n) xs) ≡ has (map number xs) n
        → is_some (cond b (Some x) (find (λ (x : X). number x == n) xs)) ≡ (b || has (map number xs) n)
    go true h = refl
    go false h = h
