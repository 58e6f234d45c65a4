-- What a plan carries: exactly what the option takes, one member further.
use Rattle.std.proofs.Common.{[], ℕ, ◌+◌, ◌∙◌, ◌∷◌, ◌≡◌, ◌||◌, Bool, List, Some, ap, false, refl, suc}
use Rattle.std.proofs.Common.{inl, inr, subst, sym, take, true, zero}
use Rattle.std.proofs.Math.Bool.{beq}
use Rattle.std.proofs.lemmas.Bool.Decides.{eqb_tells}
use Rattle.std.specs.Prelude.{◌==◌, ◌↔◌, IsTrue, not, slice_get}
use Rattle.model_laws.proofs.Lists.{has_append}
use Rattle.model_laws.proofs.Plans.{unfinished_from, unfinished_to}
use Rattle.lemmas.proofs.Lists.{take_further}
use Rattle.model.specs.Types.{Net}
use Rattle.model.specs.Words.{has}
use Rattle.model.specs.History.{View}
use Rattle.model.specs.NewPlan.{is_carried}
use Rattle.model.specs.Sound.{IsTakenUnfinished}
use Rattle.event_audit.specs.Plans.{AreTheTaken}

-- a member is carried where it is taken
agrees : (net : Net) (V : View) (carried : List ℕ) (s : ℕ) → has carried s ≡ is_carried net V s
    → IsTrue (has carried s) ↔ IsTakenUnfinished net.carry V s
agrees net V carried s e = (λ h. unfinished_from net V s (sym e ∙ h), λ u. e ∙ unfinished_to net V s u)

same_tests : (a b : Bool) → (a ≡ true → b ≡ true) → (b ≡ true → a ≡ true) → a ≡ b
same_tests true b h k = sym (h refl)
same_tests false true h k = k refl
same_tests false false h k = refl

either : (a b : Bool) → (a || b) ≡ true → (a ≡ false → b ≡ true)
either true b h e = cc
either false b h e = h

pub taken_further : (net : Net) (V : View) (carried members : List ℕ) (i : ℕ) (s : ℕ) → slice_get members i ≡ Some s
    → has carried s ≡ is_carried net V s → AreTheTaken net.carry V carried (take i members)
    → AreTheTaken net.carry V carried (take (i + 1) members)
taken_further net V carried members i s there e h t t_in = go (has (take i members) t) refl
  where
    split : (has (take i members) t || has (s ∷ []) t) ≡ true
    split =
        sym (has_append (take i members) (s ∷ []) t)
        ∙ ap (λ (l : List ℕ). has l t) (sym (take_further members i s there)) ∙ t_in

    last : has (s ∷ []) t ≡ true → s ≡ t
    last f = elim (eqb_tells s t) [ inl y ↦ y.1 | inr n ↦ absurd (no_more n.0 f) ]
      where
        no_more : (s == t) ≡ false → ((s == t) || false) ≡ true → ⊥
        no_more x y = nope (s == t) x y
          where
            nope : (b : Bool) → b ≡ false → (b || false) ≡ true → ⊥
            nope true x y = cc
            nope false x y = cc

    go : (b : Bool) → has (take i members) t ≡ b → IsTrue (has carried t) ↔ IsTakenUnfinished net.carry V t
    go true f = h t f
    go false f =
        subst (λ (n : ℕ). IsTrue (has carried n) ↔ IsTakenUnfinished net.carry V n)
        (last (either (has (take i members) t) (has (s ∷ []) t) split f)) (agrees net V carried s e)

-- the test of both tests
pub told_same : (a b : Bool) → not (beq a b) ≡ false → a ≡ b
told_same true true h = refl
told_same true false h = cc
told_same false true h = cc
told_same false false h = refl

pub told_apart : (a b : Bool) → not (beq a b) ≡ true → a ≡ b → ⊥
told_apart true true h e = cc
told_apart true false h e = cc
told_apart false true h e = cc
told_apart false false h e = cc

-- and one that is not shows that they are not the taken ones
pub not_the_taken : (net : Net) (V : View) (carried members : List ℕ) (i : ℕ) (s : ℕ) → slice_get members i ≡ Some s
    → (has carried s ≡ is_carried net V s → ⊥) → AreTheTaken net.carry V carried members → ⊥
not_the_taken net V carried members i s there apart h =
    let both : IsTrue (has carried s) ↔ IsTakenUnfinished net.carry V s = h s (has_at members i there) in
    apart (same_tests (has carried s) (is_carried net V s) (λ f. unfinished_to net V s (both.0 f))
    (λ f. both.1 (unfinished_from net V s f)))
  where
    has_at : (l : List ℕ) (i : ℕ) → slice_get l i ≡ Some s → has l s ≡ true
    has_at [] i e = cc
    has_at (x ∷ l) zero e = first x e
      where
        first : (x : ℕ) → Some x ≡ Some s → ((x == s) || has l s) ≡ true
        first x e = elim (eqb_tells x s) [ inl y ↦ rw y.0 refl | inr n ↦ absurd (n.1 (one e)) ]
          where
            one : {a b : ℕ} → Some a ≡ Some b → a ≡ b
            one e = cc
    has_at (x ∷ l) (suc i) e = or_so (x == s) (has l s) (has_at l i e)
      where
        or_so : (a b : Bool) → b ≡ true → (a || b) ≡ true
        or_so true b h = refl
        or_so false b h = h
