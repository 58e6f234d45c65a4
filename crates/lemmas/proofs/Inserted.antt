-- What a map finds once one more entry was put, where its keys are names, pairs of names, or numbers with names.
use Rattle.std.proofs.Common.{[], ℕ, ◌&&◌, ◌∙◌, ◌∷◌, ◌≡◌, ◌≢◌, ◌⊎◌, Bool, Bor, List, Option, Some}
use Rattle.std.proofs.Common.{ap, bytes_eq, cond, eqb, false, inl, inr, refl, sym, true}
use Rattle.std.proofs.lemmas.Bool.Decides.{eqb_tells}
use Rattle.std.specs.Map.{lookup}
use Rattle.lemmas.proofs.Booleans.{and_left, and_right}
use Rattle.lemmas.proofs.Texts.{text_itself, text_tells}
use Rattle.indexmap.specs.IndexMap.{insert_entry}

-- a query finds what is inserted at its key, and all else that it found before
module _ {K X A : Type 0} (f : K → A) (same : A → A → Bool) (tells : (a b : A) → same a b ≡ true → a ≡ b)
    (itself : (a : A) → same a a ≡ true) where
  collapse : (c : Bool) (x y z : Option X) → cond c z y ≡ cond c z (cond c x y)
  collapse true x y z = refl
  collapse false x y z = refl

  swapped : (a : A) (k l : K) (x y z : Option X) → same (f k) (f l) ≡ false
      → cond (same a (f l)) x (cond (same a (f k)) y z) ≡ cond (same a (f k)) y (cond (same a (f l)) x z)
  swapped a k l x y z apart = go (same a (f k)) (same a (f l)) refl refl
    where
      go : (b c : Bool) → same a (f k) ≡ b → same a (f l) ≡ c → cond c x (cond b y z) ≡ cond b y (cond c x z)
      go true true p q =
          let one : f k ≡ f l = sym (tells a (f k) p) ∙ tells a (f l) q in
          let both : same (f k) (f l) ≡ true = ap (same (f k)) (sym one) ∙ itself (f k) in
          absurd (cc)
      go true false p q = refl
      go false true p q = refl
      go false false p q = refl

  pub inserted : (a : A) (es : List (K × X)) (k : K) (v : X)
      → lookup (λ (l : K). same a (f l)) (insert_entry (λ (p q : K). same (f p) (f q)) es k v)
      ≡ cond (same a (f k)) (Some v) (lookup (λ (l : K). same a (f l)) es)
  inserted a [] k v = refl
  inserted a (e ∷ es) k v = go (same (f k) (f e.0)) refl (inserted a es k v)
    where
      go : (b : Bool) → same (f k) (f e.0) ≡ b
          → lookup (λ (l : K). same a (f l)) (insert_entry (λ (p q : K). same (f p) (f q)) es k v)
          ≡ cond (same a (f k)) (Some v) (lookup (λ (l : K). same a (f l)) es)
          → lookup (λ (l : K). same a (f l))
          (cond b ((e.0, v) ∷ es) (e ∷ insert_entry (λ (p q : K). same (f p) (f q)) es k v))
          ≡ cond (same a (f k)) (Some v)
          (cond (same a (f e.0)) (Some e.1) (lookup (λ (l : K). same a (f l)) es))
      go true q h =
          collapse (same a (f e.0)) (Some e.1) (lookup (λ (l : K). same a (f l)) es) (Some v)
          ∙ ap (λ (t : A). cond (same a t) (Some v)
          (cond (same a (f e.0)) (Some e.1) (lookup (λ (l : K). same a (f l)) es)))
          (sym (tells (f k) (f e.0) q))
      go false q h =
          ap (cond (same a (f e.0)) (Some e.1)) h
          ∙ swapped a k e.0 (Some e.1) (Some v) (lookup (λ (l : K). same a (f l)) es) q

abbrev pub text_of : Bor (List ℕ) → List ℕ
text_of k = k.now

pub name_inserted : {X : Type 0} (es : List (Bor (List ℕ) × X)) (k : Bor (List ℕ)) (v : X) (name : List ℕ)
    → lookup (λ (l : Bor (List ℕ)). bytes_eq name l.now)
    (insert_entry (λ (p q : Bor (List ℕ)). bytes_eq p.now q.now) es k v)
    ≡ cond (bytes_eq name k.now) (Some v) (lookup (λ (l : Bor (List ℕ)). bytes_eq name l.now) es)
name_inserted es k v name = inserted text_of bytes_eq text_tells text_itself name es k v

-- pairs of names
abbrev pub pair_of : Bor (List ℕ) × Bor (List ℕ) → List ℕ × List ℕ
pair_of k = (k.0.now, k.1.now)

abbrev pub are_one_pair : List ℕ × List ℕ → List ℕ × List ℕ → Bool
are_one_pair a b = bytes_eq a.0 b.0 && bytes_eq a.1 b.1

pair_tells : (a b : List ℕ × List ℕ) → are_one_pair a b ≡ true → a ≡ b
pair_tells a b h =
    let one : a.0 ≡ b.0 = text_tells a.0 b.0 (and_left (bytes_eq a.0 b.0) (bytes_eq a.1 b.1) h) in
    let other : a.1 ≡ b.1 = text_tells a.1 b.1 (and_right (bytes_eq a.0 b.0) (bytes_eq a.1 b.1) h) in
    λ j. (one j, other j)

pair_itself : (a : List ℕ × List ℕ) → are_one_pair a a ≡ true
pair_itself a = λ j. text_itself a.0 j && text_itself a.1 j

pub pair_inserted : {X : Type 0} (es : List ((Bor (List ℕ) × Bor (List ℕ)) × X)) (k : Bor (List ℕ) × Bor (List ℕ)) (v : X)
    (a : List ℕ × List ℕ)
    → lookup (λ (l : Bor (List ℕ) × Bor (List ℕ)). are_one_pair a (pair_of l))
    (insert_entry (λ (p q : Bor (List ℕ) × Bor (List ℕ)). are_one_pair (pair_of p) (pair_of q)) es k v)
    ≡ cond (are_one_pair a (pair_of k)) (Some v)
    (lookup (λ (l : Bor (List ℕ) × Bor (List ℕ)). are_one_pair a (pair_of l)) es)
pair_inserted es k v a = inserted pair_of are_one_pair pair_tells pair_itself a es k v

-- numbers with names
abbrev pub key_of : ℕ × Bor (List ℕ) → ℕ × List ℕ
key_of k = (k.0, k.1.now)

abbrev pub are_one_key : ℕ × List ℕ → ℕ × List ℕ → Bool
are_one_key a b = eqb a.0 b.0 && bytes_eq a.1 b.1

key_tells : (a b : ℕ × List ℕ) → are_one_key a b ≡ true → a ≡ b
key_tells a b h = go (eqb_tells a.0 b.0)
  where
    go : ((eqb a.0 b.0 ≡ true) × (a.0 ≡ b.0)) ⊎ ((eqb a.0 b.0 ≡ false) × (a.0 ≢ b.0)) → a ≡ b
    go (inl e) = λ j. (e.1 j, text_tells a.1 b.1 (and_right (eqb a.0 b.0) (bytes_eq a.1 b.1) h) j)
    go (inr e) = absurd (let t : eqb a.0 b.0 ≡ true = and_left (eqb a.0 b.0) (bytes_eq a.1 b.1) h in cc)

key_itself : (a : ℕ × List ℕ) → are_one_key a a ≡ true
key_itself a = go (eqb_tells a.0 a.0)
  where
    go : ((eqb a.0 a.0 ≡ true) × (a.0 ≡ a.0)) ⊎ ((eqb a.0 a.0 ≡ false) × (a.0 ≢ a.0)) → are_one_key a a ≡ true
    go (inl e) = λ j. e.0 j && text_itself a.1 j
    go (inr e) = absurd (e.1 refl)

pub key_inserted : {X : Type 0} (es : List ((ℕ × Bor (List ℕ)) × X)) (k : ℕ × Bor (List ℕ)) (v : X) (a : ℕ × List ℕ)
    → lookup (λ (l : ℕ × Bor (List ℕ)). are_one_key a (key_of l))
    (insert_entry (λ (p q : ℕ × Bor (List ℕ)). are_one_key (key_of p) (key_of q)) es k v)
    ≡ cond (are_one_key a (key_of k)) (Some v) (lookup (λ (l : ℕ × Bor (List ℕ)). are_one_key a (key_of l)) es)
key_inserted es k v a = inserted key_of are_one_key key_tells key_itself a es k v
