-- The head of a file, by its first bytes.
use Rattle.std.proofs.Common.{◌≡◌, ◌≢◌, ◌∙◌, ◌+◌, ◌<◌, ◌++◌, [], ℕ, List, None, Option, Some, IfSome, ap, arith, drop, inl, inr}
use Rattle.std.proofs.Common.{length, sym, take, take-append-drop}
use Rattle.std.proofs.lemmas.Bool.{cases_lt}
use Rattle.lemmas.proofs.Lists.{take_less}
use Rattle.message_file.specs.Files.{DiffersAt, head_of}
use Rattle.kept_files.specs.Found.{Differs}
use Rattle.kept_files.specs.Growth.{IsNoFileAt}

-- the first bytes that differ
pub differs_here : (owner place : ℕ) (file window head : List ℕ) → head ≡ head_of owner → window ≡ take 8 file
    → (window ≡ [] → ⊥) → Differs window head place → IsNoFileAt owner place file
differs_here owner place file window head whose is some differs = (
  λ none. some (is ∙ ap (λ (l : List ℕ). take 8 l) none),
  elim (cases_lt place 6) [ inl low ↦ inl (inl (there, low)) | inr high ↦ inr (there, omega (arith, high)) ],
)
  where
    there : DiffersAt owner file place
    there =
        record {
          within = differs.within;
          same = sym (take_less place 8 file (omega (arith, differs.within)))
              ∙ ap (λ (l : List ℕ). take place l) (sym is) ∙ differs.same ∙ ap (λ (l : List ℕ). take place l) whose;
          differs = λ alike. differs.apart
              (ap (λ (l : List ℕ). take (place + 1) l) is ∙ take_less (place + 1) 8 file (omega (arith, differs.within))
              ∙ alike ∙ ap (λ (l : List ℕ). take (place + 1) l) (sym whose));
        }

-- the head and what stands behind it
pub head_first : (owner : ℕ) (file window head : List ℕ) → head ≡ head_of owner → window ≡ take 8 file → window ≡ head
    → file ≡ head_of owner ++ drop 8 file
head_first owner file window head whose is same =
    sym (take-append-drop 8 file) ∙ ap (λ (l : List ℕ). l ++ drop 8 file) (sym is ∙ same ∙ whose)
