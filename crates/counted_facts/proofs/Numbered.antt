-- Numbers that are told one by one.
use Rattle.std.proofs.Common.{[], ℕ, ◌+◌, ◌<◌, ◌∙◌, ◌∷◌, ◌≡◌, ◌≤◌, Bool, List, ap, arith, false, get_or, length, refl}
use Rattle.std.proofs.Common.{subst, suc, sym, take, true, zero}
use Rattle.std.proofs.lemmas.List.{take_more}
use Rattle.std.proofs.lemmas.List.Folds.{list_any-append}
use Rattle.std.specs.List.{list_any}
use Rattle.std.specs.Prelude.{◌==◌, ◌||◌}
use Rattle.lemmas.proofs.Booleans.{or_assoc, or_false, or_made_left, or_made_right}
use Rattle.lemmas.proofs.Numbers.{eq_refused, number_itself}
use Rattle.model.specs.Types.{Body, Entry}
use Rattle.model.specs.Words.{has}
use Rattle.counted_facts.specs.Timelines.{AreHalfTold, HasOneMore, TellsPlace}
use Rattle.counted_facts.specs.declared.timelines.Timelines.{Timelines}
use Rattle.counted_facts.proofs.Steps.{half_same, one_told}

-- one number
pub number_told : (fact : ℕ → List Body → ℕ) (G : List Entry) (e : Entry) (w place n : ℕ) (done : ℕ → Bool)
    (old new : Timelines ℕ) → TellsPlace fact G e w place (λ m. n == m) → AreHalfTold fact G e done old
    → HasOneMore (w, n) place place old new → AreHalfTold fact G e (λ m. done m || (n == m)) new
number_told fact G e w place n done old new at h more =
    one_told fact G e done (λ m. done m || (n == m)) w n place place old new h more at.feed at.next
    (sym (at.value n (number_itself n))) (or_made_right (done n) (n == n) (number_itself n))
    (λ m other. ap (λ (b : Bool). done m || b) (eq_refused n m (λ f. other (sym f))) ∙ or_false (done m))

module _ {X : Type 0} (number : X → ℕ) where
  -- one of them has this number
  abbrev among : List X → ℕ → Bool
  among xs m = list_any (λ (x : X). number x == m) xs

  among_here : (xs : List X) (i : ℕ) (d : X) (m : ℕ) → i < length xs → (number (get_or xs i d) == m) ≡ true
      → among xs m ≡ true
  among_here [] i d m less h = absurd (omega (arith, less))
  among_here (x ∷ xs) zero d m less h = or_made_left (number x == m) (among xs m) h
  among_here (x ∷ xs) (suc i) d m less h =
      or_made_right (number x == m) (among xs m) (among_here xs i d m (omega (arith, less)) h)

  among_more : (xs : List X) (i : ℕ) (d : X) (m : ℕ) → i < length xs
      → among (take (i + 1) xs) m ≡ (among (take i xs) m || (number (get_or xs i d) == m))
  among_more xs i d m less =
      ap (λ (l : List X). among l m) (take_more xs i d less)
      ∙ list_any-append (λ (x : X). number x == m) (take i xs) (get_or xs i d ∷ [])
      ∙ ap (λ (b : Bool). among (take i xs) m || b) (or_false (number (get_or xs i d) == m))

  -- the next of them is one of these
  pub next_tells : (fact : ℕ → List Body → ℕ) (G : List Entry) (e : Entry) (w place : ℕ) (these : ℕ → Bool)
      (xs : List X) (i : ℕ) (d x : X) (n : ℕ) → ((m : ℕ) → among xs m ≡ true → these m ≡ true) → i < length xs
      → x ≡ get_or xs i d → n ≡ number x → TellsPlace fact G e w place these
      → TellsPlace fact G e w place (λ m. n == m)
  next_tells fact G e w place these xs i d x n are less is one at =
      record {
        feed = at.feed;
        next = at.next;
        value = λ m h. at.value m (are m (among_here xs i d m less
            (subst (λ (k : ℕ). (k == m) ≡ true) (one ∙ ap number is) h)));
      }

  -- and is told
  pub next_told : (fact : ℕ → List Body → ℕ) (G : List Entry) (e : Entry) (done : ℕ → Bool) (t : Timelines ℕ)
      (xs : List X) (i : ℕ) (d x : X) (n : ℕ) → i < length xs → x ≡ get_or xs i d → n ≡ number x
      → AreHalfTold fact G e (λ m. (done m || among (take i xs) m) || (n == m)) t
      → AreHalfTold fact G e (λ m. done m || among (take (i + 1) xs) m) t
  next_told fact G e done t xs i d x n less is one h =
      half_same fact G e (λ m. (done m || among (take i xs) m) || (n == m))
      (λ m. done m || among (take (i + 1) xs) m) t
      (λ m. ap (λ (b : Bool). done m || b) (among_more xs i d m less)
      ∙ ap (λ (k : ℕ). done m || (among (take i xs) m || (k == m))) (sym (one ∙ ap number is))
      ∙ sym (or_assoc (done m) (among (take i xs) m) (n == m))) h

  -- before the first, and behind the last
  pub first_half : (fact : ℕ → List Body → ℕ) (G : List Entry) (e : Entry) (done : ℕ → Bool) (t : Timelines ℕ)
      → AreHalfTold fact G e done t → AreHalfTold fact G e (λ m. done m || false) t
  first_half fact G e done t h = half_same fact G e done (λ m. done m || false) t (λ m. or_false (done m)) h

  all_taken : (xs : List X) (i : ℕ) → length xs ≤ i → take i xs ≡ xs
  all_taken [] zero h = refl
  all_taken [] (suc i) h = refl
  all_taken (x ∷ xs) zero h = absurd (omega (arith, h))
  all_taken (x ∷ xs) (suc i) h = ap (λ (l : List X). x ∷ l) (all_taken xs i (omega (arith, h)))

  pub last_half : (fact : ℕ → List Body → ℕ) (G : List Entry) (e : Entry) (done : ℕ → Bool) (t : Timelines ℕ)
      (xs : List X) (i : ℕ) → length xs ≤ i → AreHalfTold fact G e (λ m. done m || among (take i xs) m) t
      → AreHalfTold fact G e (λ m. done m || among xs m) t
  last_half fact G e done t xs i all h =
      half_same fact G e (λ m. done m || among (take i xs) m) (λ m. done m || among xs m) t
      (λ m. ap (λ (l : List X). done m || among l m) (sym (all_taken xs i all))) h

-- numbers among numbers
pub has_as : (ns : List ℕ) (m : ℕ) → has ns m ≡ list_any (λ (n : ℕ). n == m) ns
has_as [] m = refl
has_as (n ∷ ns) m = ap (λ (b : Bool). (n == m) || b) (has_as ns m)
