-- Keys, and the rows of a table after one of them is put.
use Rattle.std.proofs.Common.{ℕ, ◌&&◌, ◌∙◌, ◌≡◌, Bool, None, Option, Some, ap, arith, cond, eqb, false}
use Rattle.std.proofs.Common.{is_some, refl, sym, true}
use Rattle.std.specs.Prelude.{unwrap_or}
use Rattle.lemmas.proofs.Booleans.{and_left, and_right}
use Rattle.lemmas.proofs.Numbers.{number_itself, number_tells}
use Rattle.model.specs.Types.{Job, Obj, Stream}
use Rattle.owner_rows.specs.Subjects.{object_number}
use Rattle.owner_rows.specs.Tables.{keys_meet, same_key}

module _ {N : Type 0} (one : N → N → Bool) where
  -- keys that are the same are one
  pub keys_tell : ((a b : N) → one a b ≡ true → a ≡ b) → (p q : ℕ × N) → keys_meet one p q ≡ true → p ≡ q
  keys_tell tells p q h = λ j. (
    number_tells p.0 q.0 (and_left (eqb p.0 q.0) (one p.1 q.1) h) j,
    tells p.1 q.1 (and_right (eqb p.0 q.0) (one p.1 q.1) h) j,
  )

  -- a key is the same as itself
  pub keys_alike : ((a : N) → one a a ≡ true) → (p : ℕ × N) → keys_meet one p p ≡ true
  keys_alike alike p = λ j. number_itself p.0 j && alike p.1 j

  -- a blank row that is put where there is none changes none
  pub blank_put_at : ((a b : N) → one a b ≡ true → a ≡ b) → {R : Type 0} → (f g : ℕ × N → Option R) (k : ℕ × N)
      (blank : R) → f k ≡ None → ((q : ℕ × N) → g q ≡ cond (keys_meet one k q) (Some blank) (f q)) → (q : ℕ × N)
      → unwrap_or (g q) blank ≡ unwrap_or (f q) blank
  blank_put_at tells {R} f g k blank none put q =
      ap (λ (o : Option R). unwrap_or o blank) (put q) ∙ go (keys_meet one k q) refl
    where
      go : (b : Bool) → keys_meet one k q ≡ b → unwrap_or (cond b (Some blank) (f q)) blank ≡ unwrap_or (f q) blank
      go true e = ap (λ (o : Option R). unwrap_or o blank) (sym none ∙ ap f (keys_tell tells k q e))
      go false e = refl

-- the same of numbers
pub key_tells : (p q : ℕ × ℕ) → same_key p q ≡ true → p ≡ q
key_tells = keys_tell eqb number_tells

pub key_is_itself : (p : ℕ × ℕ) → same_key p p ≡ true
key_is_itself = keys_alike eqb number_itself

pub blank_put : {R : Type 0} (f g : ℕ × ℕ → Option R) (k : ℕ × ℕ) (blank : R) → f k ≡ None
    → ((q : ℕ × ℕ) → g q ≡ cond (same_key k q) (Some blank) (f q)) → (q : ℕ × ℕ)
    → unwrap_or (g q) blank ≡ unwrap_or (f q) blank
blank_put {R} f g k blank none put q = blank_put_at eqb number_tells f g k blank none put q

-- what is not there
pub none_there : {R : Type 0} (o : Option R) → false ≡ is_some o → o ≡ None
none_there None h = refl
none_there (Some r) h = cc

-- objects with one number are one
pub one_object : (o p : Obj) → object_number o ≡ object_number p → o ≡ p
one_object (Job j) (Job k) h = let e : j ≡ k = omega (arith, h) in ap Job e
one_object (Stream s) (Stream t) h = let e : s ≡ t = omega (arith, h) in ap Stream e
one_object (Job j) (Stream t) h = absurd (omega (arith, h))
one_object (Stream s) (Job k) h = absurd (omega (arith, h))
