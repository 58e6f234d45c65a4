-- What version 2 alone has stands in version 2 alone.
use Rattle.std.proofs.Common.{◌≡◌, Bool, true, false, ◌||◌, List, [], ◌∷◌, refl}
use Rattle.std.specs.List.{AllByRecursion, list_any}

-- where it is there, the version is the second
abbrev pub Allows : Bool → Bool → Type 0
Allows true there = Unit {0}
Allows false there = there ≡ false

pub allows_none : (second : Bool) → Allows second false
allows_none true = tt
allows_none false = refl

pub allows_either : (second a b : Bool) → Allows second a → Allows second b → Allows second (a || b)
allows_either true a b f g = tt
allows_either false false b f g = g
allows_either false true b f g = f

pub allows_both : (second a b : Bool) → Allows second (a || b) → Allows second a × Allows second b
allows_both true a b f = (tt, tt)
allows_both false false b f = (refl, f)
allows_both false true b f = absurd cc

-- of a list, each item and any
pub allows_any : {X : Type 0} (second : Bool) (is : X → Bool) (xs : List X)
    → AllByRecursion (λ x. Allows second (is x)) xs → Allows second (list_any is xs)
allows_any second is [] f = allows_none second
allows_any second is (x ∷ xs) f =
    allows_either second (is x) (list_any is xs) f.0 (allows_any second is xs f.1)

pub allows_each : {X : Type 0} (second : Bool) (is : X → Bool) (xs : List X) → Allows second (list_any is xs)
    → AllByRecursion (λ x. Allows second (is x)) xs
allows_each second is [] f = tt
allows_each second is (x ∷ xs) f =
    let both = allows_both second (is x) (list_any is xs) f in
    (both.0, allows_each second is xs both.1)
