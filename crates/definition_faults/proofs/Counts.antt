-- Dependencies that are counted up to 65, one clause further.
use Rattle.std.proofs.Common.{◌≡◌, ℕ, ◌+◌, ◌<◌, Bool, ◌&&◌, List, get_or, length, min, take, ap, arith, sym, ◌∙◌}
use Rattle.std.proofs.lemmas.Bool.Decides.{nat_tests}
use Rattle.std.proofs.lemmas.List.Sums.{sum_by_more}
use Rattle.std.specs.Prelude.{nat_le, nat_lt}
use Rattle.composer_parser.specs.declared.Clause.{Clause}
use Rattle.composer_parser.specs.declared.Lined.{Lined}
use Rattle.definition_faults.specs.Clauses.{dependencies, passes}
use Rattle.definition_faults.specs.Ranges.{dependency_count}

min_twice : (a b : ℕ) → min 65 (min 65 a + b) ≡ min 65 (a + b)
min_twice a b = grind (arith, nat_tests)

is_few : (a : ℕ) → nat_le (min 65 a) 64 ≡ nat_le a 64
is_few a = grind (arith, nat_tests)

is_many : (a : ℕ) → nat_lt 64 (min 65 a) ≡ nat_lt 64 a
is_many a = grind (arith, nat_tests)

pub count_more : (cs : List (Lined Clause)) (i : ℕ) (c : Lined Clause) (before more count : ℕ) → i < length cs
    → c ≡ get_or cs i c → before ≡ min 65 (dependencies (take i cs)) → more ≡ dependency_count c.item
    → count ≡ min 65 (before + more) → count ≡ min 65 (dependencies (take (i + 1) cs))
count_more cs i c before more count low at so_far own is =
    let size : Lined Clause → ℕ = λ x. dependency_count x.item in
    is
    ∙ (ap (λ n. min 65 (n + more)) so_far
    ∙ (min_twice (dependencies (take i cs)) more
    ∙ ap (min 65)
    (ap (λ n. dependencies (take i cs) + n) (own ∙ ap size at) ∙ sym (sum_by_more size cs i c low))))

pub passes_is : (cs : List (Lined Clause)) (i before count : ℕ) (b : Bool) → b ≡ (nat_le before 64 && nat_lt 64 count)
    → before ≡ min 65 (dependencies (take i cs)) → count ≡ min 65 (dependencies (take (i + 1) cs))
    → b ≡ passes cs i
passes_is cs i before count b told low high =
    told
    ∙ (λ j. (ap (λ n. nat_le n 64) low ∙ is_few (dependencies (take i cs))) j
    && (ap (λ n. nat_lt 64 n) high ∙ is_many (dependencies (take (i + 1) cs))) j)
