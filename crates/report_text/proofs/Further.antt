-- One item more in a walk.
use Rattle.std.proofs.Common.{◌≡◌, ◌<◌, ◌+◌, ℕ, suc, List, ◌∷◌, ◌++◌, codes, length, map, ap, ◌∙◌, refl, sym}
use Rattle.std.proofs.Common.{add-one, append_assoc, drop, drop-cons, get_or}
use Rattle.report_text.specs.Lists.{after_commas}

-- what is left to write, where the text of one item more was written
left : {X : Type 0} (text : List X → List ℕ) (xs : List X) (i : ℕ) (x : X) (one whole now new : List ℕ) → i < length xs
    → x ≡ get_or xs i x → text (x ∷ drop (i + 1) xs) ≡ one ++ text (drop (i + 1) xs)
    → whole ≡ now ++ text (drop i xs) → new ≡ now ++ one → whole ≡ new ++ text (drop (i + 1) xs)
left text xs i x one whole now new low is split before put =
    let cut : drop i xs ≡ x ∷ drop (i + 1) xs =
    drop-cons xs i x low ∙ ap (λ y. y ∷ drop (suc i) xs) (sym is) ∙ ap (λ n. x ∷ drop n xs) (sym (add-one i)) in
    before ∙ ap (λ l. now ++ text l) cut ∙ ap (λ t. now ++ t) split
    ∙ sym (append_assoc now one (text (drop (i + 1) xs))) ∙ ap (λ l. l ++ text (drop (i + 1) xs)) (sym put)

pub commas_further : {X : Type 0} (f : X → List ℕ) (xs : List X) (i : ℕ) (x : X) (whole now new : List ℕ) → i < length xs
    → x ≡ get_or xs i x → whole ≡ now ++ after_commas (map f (drop i xs)) → new ≡ now ++ (codes "," ++ f x)
    → whole ≡ new ++ after_commas (map f (drop (i + 1) xs))
commas_further f xs i x whole now new low is before put =
    left (λ l. after_commas (map f l)) xs i x (codes "," ++ f x) whole now new low is refl before put
