-- What is asked of timelines, and those of no entries.
use Rattle.std.proofs.Common.{[], ℕ, ◌∙◌, ◌≡◌, ◌≤◌, List, ap, arith, length, refl, subst, suc, sym, take, zero}
use Rattle.model.specs.Types.{Body, Entry, Events}
use Rattle.model.specs.History.{list_of}
use Rattle.counted_facts.specs.Timelines.{AreTimelines, IsValueAt, change_in, count_in}
use Rattle.counted_facts.specs.declared.timelines.Timelines.{Timelines}
use Rattle.counted_facts.proofs.Lines.{value_told}

module _ {X : Type 0} (fact : ℕ → List Body → X) where
  -- the value at a count is the fact there
  pub asked : (G : List Entry) (t : Timelines X) (w n m count : ℕ) (value : X) → m ≡ n
      → ((change_in t (w, (m, 0))).0 ≡ 0 → IsValueAt (count_in t (w, m)) (λ i. change_in t (w, (m, i))) count value)
      → AreTimelines fact G t → count ≤ length (list_of G (Events w))
      → value ≡ fact n (take count (list_of G (Events w)))
  asked G t w n m count value same at h less =
      subst (λ (k : ℕ). value ≡ fact k (take count (list_of G (Events w)))) same
      (value_told (fact m) (count_in t (w, m)) (λ i. change_in t (w, (m, i))) (list_of G (Events w)) count value
      (h w m) (at (h w m).begins) less)

  -- of a workstation that is asked by its number
  pub asked_at : (G : List Entry) (t : Timelines X) (v w n m count : ℕ) (value : X) → v ≡ w → m ≡ n
      → ((change_in t (v, (m, 0))).0 ≡ 0 → IsValueAt (count_in t (v, m)) (λ i. change_in t (v, (m, i))) count value)
      → AreTimelines fact G t → count ≤ length (list_of G (Events w))
      → value ≡ fact n (take count (list_of G (Events w)))
  asked_at G t v w n m count value one same at h less =
      subst (λ (u : ℕ).
      count ≤ length (list_of G (Events u)) → value ≡ fact n (take count (list_of G (Events u)))) one
      (λ few. asked G t v n m count value same at h few) less

  abbrev nobody : List Body
  nobody = []

  take_none : (n : ℕ) → take n nobody ≡ []
  take_none zero = refl
  take_none (suc n) = refl

  -- no entries
  pub nothing_told : (t : Timelines X) (first : X) → ((q : ℕ × ℕ) → count_in t q ≡ 0)
      → ((q : ℕ × (ℕ × ℕ)) → change_in t q ≡ (0, first)) → ((n : ℕ) → first ≡ fact n []) → AreTimelines fact [] t
  unfolding list_of
  nothing_told t first counts changes is w n =
      record {
        begins = ap (λ (p : ℕ × X). p.0) (changes (w, (n, 0)));
        within = λ i less. let e = ap (λ (p : ℕ × X). p.0) (changes (w, (n, i))) in omega (arith, e);
        tells = λ k i less here by next.
            ap (fact n) (take_none k) ∙ sym (is n) ∙ sym (ap (λ (p : ℕ × X). p.1) (changes (w, (n, i))));
      }
