-- Texts of a list, part by part.
use Rattle.std.proofs.Common.{◌≡◌, ◌<◌, ◌≤◌, ◌+◌, ℕ, Bool, true, false, eqb, List, [], ◌∷◌, ◌++◌, length, get_or, drop, flat_map, map, refl, ap, sym, ◌∙◌, append_assoc, append-nil, codes, Option}
use Rattle.std.proofs.lemmas.List.{drop_all, drop_more}
use Rattle.base_types.specs.declared.network.Carry.{Carry}
use Rattle.composer_print.specs.Groups.{header}
use Rattle.composer_print.specs.Texts.{lead, texts_from, begun_after}
use Rattle.composer_print.specs.Stations.{start_texts, zone_texts, carry_texts, options_of, options_text, ended}

pub from_joined : (separator beginning : List ℕ) (begun : Bool) (xs ys : List (List ℕ))
    → texts_from separator beginning begun (xs ++ ys)
    ≡ texts_from separator beginning begun xs ++ texts_from separator beginning (begun_after begun xs) ys
from_joined s b begun [] ys = refl
from_joined s b begun (x ∷ xs) ys =
    ap (λ t. (lead s b begun ++ x) ++ t) (from_joined s b true xs ys)
    ∙ sym
    (append_assoc (lead s b begun ++ x) (texts_from s b true xs) (texts_from s b (begun_after true xs) ys))

pub begun_joined : (begun : Bool) (xs ys : List (List ℕ)) → begun_after begun (xs ++ ys) ≡ begun_after (begun_after begun xs) ys
begun_joined begun [] ys = refl
begun_joined begun (x ∷ xs) ys = begun_joined true xs ys

-- one part more of a text that is written part by part
pub part_more : {A : Type 0} (whole : List A → List ℕ) (text : A → List ℕ)
    → ((y : A) (ys : List A) → whole (y ∷ ys) ≡ text y ++ whole ys) → (all out new : List ℕ) (xs : List A) (i : ℕ) (x : A)
    → i < length xs → x ≡ get_or xs i x → new ≡ out ++ text x → all ≡ out ++ whole (drop i xs)
    → all ≡ new ++ whole (drop (i + 1) xs)
part_more {A = A} whole text step all out new xs i x low at written sofar =
    let rest : List A = drop (i + 1) xs in
    let cut : drop i xs ≡ x ∷ rest = drop_more xs i x low ∙ ap (λ (y : A). y ∷ rest) (sym at) in
    sofar ∙ ap (λ (ys : List A). out ++ whole ys) cut ∙ ap (λ t. out ++ t) (step x rest)
    ∙ sym (append_assoc out (text x) (whole rest)) ∙ ap (λ t. t ++ whole rest) (sym written)

pub parts_all : {A : Type 0} (whole : List A → List ℕ) → whole [] ≡ [] → (all out : List ℕ) (xs : List A) (i : ℕ)
    → length xs ≤ i → all ≡ out ++ whole (drop i xs) → out ≡ all
parts_all {A = A} whole none all out xs i end sofar =
    sym
    (sofar ∙ ap (λ (ys : List A). out ++ whole ys) (drop_all i xs end) ∙ ap (λ t. out ++ t) none ∙ append-nil out)

-- a group that has something, behind its header
headed : {A B : Type 0} (word : List ℕ) (f : A → B) (xs : List A) → eqb (length xs) 0 ≡ false → header word (map f xs) ≡ word
headed word f [] some = cc
headed word f (x ∷ xs) some = refl

pub group_all : {A B : Type 0} (whole : List A → List ℕ) → whole [] ≡ [] → (f : A → B) (word old begun out : List ℕ)
    (xs : List A) (i : ℕ) → eqb (length xs) 0 ≡ false → begun ≡ old ++ word → length xs ≤ i
    → begun ++ whole xs ≡ out ++ whole (drop i xs) → out ≡ old ++ (header word (map f xs) ++ whole xs)
group_all whole none f word old begun out xs i some begins end sofar =
    parts_all whole none (begun ++ whole xs) out xs i end sofar ∙ ap (λ t. t ++ whole xs) begins
    ∙ append_assoc old word (whole xs) ∙ ap (λ t. old ++ (t ++ whole xs)) (sym (headed word f xs some))

-- one more of the clauses that add to a list
pub joined_more : {A : Type 0} (texts : A → List (List ℕ)) (s b all out new : List ℕ) (begun stands : Bool) (cs : List A)
    (i : ℕ) (x : A) → i < length cs → x ≡ get_or cs i x → new ≡ out ++ texts_from s b begun (texts x)
    → stands ≡ begun_after begun (texts x) → all ≡ out ++ texts_from s b begun (flat_map texts (drop i cs))
    → all ≡ new ++ texts_from s b stands (flat_map texts (drop (i + 1) cs))
joined_more {A = A} texts s b all out new begun stands cs i x low at text begins sofar =
    let rest : List A = drop (i + 1) cs in
    let cut : drop i cs ≡ x ∷ rest = drop_more cs i x low ∙ ap (λ (y : A). y ∷ rest) (sym at) in
    sofar ∙ ap (λ ys. out ++ texts_from s b begun (flat_map texts ys)) cut
    ∙ ap (λ t. out ++ t) (from_joined s b begun (texts x) (flat_map texts rest))
    ∙ sym
    (append_assoc out (texts_from s b begun (texts x)) (texts_from s b (begun_after begun (texts x)) (flat_map texts rest)))
    ∙ (λ j. sym text j ++ texts_from s b (sym begins j) (flat_map texts rest))

pub joined_all : {A : Type 0} (texts : A → List (List ℕ)) (s b all out : List ℕ) (begun : Bool) (cs : List A) (i : ℕ)
    → length cs ≤ i → all ≡ out ++ texts_from s b begun (flat_map texts (drop i cs)) → out ≡ all
joined_all {A = A} texts s b all out begun cs i end sofar =
    sym (sofar ∙ ap (λ (ys : List A). out ++ texts_from s b begun (flat_map texts ys)) (drop_all i cs end) ∙ append-nil out)

-- one option
pub option_line : (out a b c word text : List ℕ) (begun : Bool)
    → a ≡ out ++ lead (codes " ") (codes "$OPTIONS\n") begun → b ≡ a ++ word → c ≡ b ++ text
    → c ≡ out ++ texts_from (codes " ") (codes "$OPTIONS\n") begun ((word ++ text) ∷ [])
option_line out a b c word text begun first second third =
    let start = lead (codes " ") (codes "$OPTIONS\n") begun in
    third ∙ ap (λ t. t ++ text) (second ∙ ap (λ t. t ++ word) first)
    ∙ ap (λ t. t ++ text) (append_assoc out start word) ∙ append_assoc out (start ++ word) text
    ∙ ap (λ t. out ++ t) (append_assoc start word text ∙ sym (append-nil (start ++ (word ++ text))))

-- options one by one
pub options_parts : (start : Option ℕ) (zone : Option (List ℕ)) (carry : Option Carry) (b c e : Bool)
    → b ≡ begun_after false (start_texts start) → c ≡ begun_after b (zone_texts zone) → e ≡ begun_after c (carry_texts carry)
    → options_text start zone carry
    ≡ texts_from (codes " ") (codes "$OPTIONS\n") false (start_texts start)
    ++ texts_from (codes " ") (codes "$OPTIONS\n") b (zone_texts zone)
    ++ texts_from (codes " ") (codes "$OPTIONS\n") c (carry_texts carry) ++ ended e
unfolding options_text options_of
options_parts start zone carry b c e first second third =
    let S = start_texts start in
    let Z = zone_texts zone in
    let C = carry_texts carry in
    let text : List (List ℕ) → Bool → List ℕ = λ xs k. texts_from (codes " ") (codes "$OPTIONS\n") k xs in
    let cut : text (S ++ (Z ++ C)) false ≡ text S false ++ (text Z b ++ text C c) =
    from_joined (codes " ") (codes "$OPTIONS\n") false S (Z ++ C)
    ∙ ap (λ k. text S false ++ text (Z ++ C) k) (sym first)
    ∙ ap (λ t. text S false ++ t) (from_joined (codes " ") (codes "$OPTIONS\n") b Z C ∙ ap (λ k. text Z b ++ text C k) (sym second))
    in
    let all : begun_after false (S ++ (Z ++ C)) ≡ e =
    begun_joined false S (Z ++ C) ∙ ap (λ k. begun_after k (Z ++ C)) (sym first)
    ∙ begun_joined b Z C ∙ ap (λ k. begun_after k C) (sym second) ∙ sym third
    in
    ap (λ k. text (S ++ (Z ++ C)) false ++ ended k) all
    ∙ ap (λ t. t ++ ended e) (cut ∙ sym (append_assoc (text S false) (text Z b) (text C c)))
