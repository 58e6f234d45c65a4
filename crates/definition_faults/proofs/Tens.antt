-- The first fault of ten lists.
use Rattle.std.proofs.Common.{◌≡◌, List, ◌++◌, ap, ◌∙◌}
use Rattle.definition_faults.specs.Orders.{earlier_of, earliest}
use Rattle.definition_faults.specs.declared.kinds.Fault.{Fault}
use Rattle.definition_faults.proofs.Earliest.{earlier_assoc, earliest-append}

two : (a b : List Fault) → earliest (a ++ b) ≡ earlier_of (earliest a) (earliest b)
two = earliest-append

four : (a b c d : List Fault) → earliest (a ++ b ++ c ++ d)
    ≡ earlier_of (earlier_of (earliest a) (earliest b)) (earlier_of (earliest c) (earliest d))
four a b c d =
    two (a ++ b ++ c) d
    ∙ (ap (λ o. earlier_of o (earliest d)) (two (a ++ b) c ∙ ap (λ o. earlier_of o (earliest c)) (two a b))
    ∙ earlier_assoc (earlier_of (earliest a) (earliest b)) (earliest c) (earliest d))

pub four_in : (a b c d : List Fault) → earliest (a ++ b ++ c ++ d)
    ≡ earlier_of (earlier_of (earliest a) (earliest b)) (earlier_of (earliest c) (earliest d))
four_in = four

-- four more behind some
more : (xs a b c d : List Fault) → earliest (xs ++ a ++ b ++ c ++ d)
    ≡ earlier_of (earliest xs) (earlier_of (earlier_of (earliest a) (earliest b)) (earlier_of (earliest c) (earliest d)))
more xs a b c d =
    four (xs ++ a) b c d
    ∙ (ap (λ o. earlier_of (earlier_of o (earliest b)) (earlier_of (earliest c) (earliest d))) (two xs a)
    ∙ (ap (λ o. earlier_of o (earlier_of (earliest c) (earliest d))) (earlier_assoc (earliest xs) (earliest a) (earliest b))
    ∙ earlier_assoc (earliest xs) (earlier_of (earliest a) (earliest b)) (earlier_of (earliest c) (earliest d))))

pub ten : (a b c d e f g h i j : List Fault) → earliest (a ++ b ++ c ++ d ++ e ++ f ++ g ++ h ++ i ++ j)
    ≡ earlier_of (earlier_of (earlier_of (earliest a) (earliest b)) (earlier_of (earliest c) (earliest d)))
    (earlier_of (earlier_of (earlier_of (earliest e) (earliest f)) (earlier_of (earliest g) (earliest h)))
    (earlier_of (earliest i) (earliest j)))
ten a b c d e f g h i j =
    let first = earlier_of (earlier_of (earliest a) (earliest b)) (earlier_of (earliest c) (earliest d)) in
    let middle = earlier_of (earlier_of (earliest e) (earliest f)) (earlier_of (earliest g) (earliest h)) in
    two (a ++ b ++ c ++ d ++ e ++ f ++ g ++ h ++ i) j
    ∙ (ap (λ o. earlier_of o (earliest j))
    (two (a ++ b ++ c ++ d ++ e ++ f ++ g ++ h) i
    ∙ ap (λ o. earlier_of o (earliest i)) (more (a ++ b ++ c ++ d) e f g h ∙ ap (λ o. earlier_of o middle) (four a b c d)))
    ∙ (earlier_assoc (earlier_of first middle) (earliest i) (earliest j)
    ∙ earlier_assoc first middle (earlier_of (earliest i) (earliest j))))
