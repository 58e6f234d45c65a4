-- A numbered list, as bytes.
use Rattle.std.proofs.Common.{◌≡◌, ◌++◌, ◌∙◌, ℕ, List, ap, flat_map, length, sym}
use Rattle.std.proofs.lemmas.List.{append_assoc}
use Rattle.std.proofs.lemmas.List.FromFn.{length-enumerate_from}
use Rattle.std.specs.List.{enumerate_from}
use Rattle.model.specs.Fields.{list_bytes, u32_bytes}

-- the count of the items, and then each of them with its number
pub listed : {A : Type 0} (f : ℕ × A → List ℕ) (xs : List A) (start counted after : List ℕ)
    → counted ≡ start ++ u32_bytes (length xs) → after ≡ counted ++ flat_map f (enumerate_from 1 xs)
    → after ≡ start ++ list_bytes f (enumerate_from 1 xs)
listed f xs start counted after h k =
    k ∙ (ap (λ l. l ++ flat_map f (enumerate_from 1 xs)) h
    ∙ (append_assoc start (u32_bytes (length xs)) (flat_map f (enumerate_from 1 xs))
    ∙ ap (λ n. start ++ (u32_bytes n ++ flat_map f (enumerate_from 1 xs))) (sym (length-enumerate_from 1 xs))))
