-- A walk over a list with a set of the keys that were seen.
use Rattle.std.proofs.Common.{◌≡◌, ◌+◌, ◌<◌, ◌≤◌, ℕ, [], ◌∷◌, ◌++◌, ◌||◌, Bool, List, ap, arith}
use Rattle.std.proofs.Common.{below_more}
use Rattle.std.proofs.Common.{false, get_or, length, map, not, refl, sym, take, true, ◌∙◌, if◌then◌else◌}
use Rattle.std.proofs.lemmas.List.{map-append, take_more}
use Rattle.std.proofs.lemmas.Option.{slice_get_read}
use Rattle.std.proofs.Common.{◌&&◌, Bor, bytes_eq, eqb}
use Rattle.std.specs.List.{list_any}
use Rattle.std.specs.Option.{option_map_or}
use Rattle.model.specs.Types.{PromptDef, Resource}
use Rattle.network_tree.specs.Repeats.{has_repeat, stands_before}
use Rattle.network_tree.proofs.Belows.{any_here, any_nothing}

-- resources are one by workstation and name, prompts by name
abbrev pub key_of : ℕ × Bor (List ℕ) → ℕ × List ℕ
key_of k = (k.0, k.1.now)

abbrev pub resource_key : Resource → ℕ × List ℕ
resource_key r = (r.ws, r.name)

abbrev pub are_one_key : ℕ × List ℕ → ℕ × List ℕ → Bool
are_one_key a b = eqb a.0 b.0 && bytes_eq a.1 b.1

abbrev pub text_of : Bor (List ℕ) → List ℕ
text_of k = k.now

abbrev pub prompt_name : PromptDef → List ℕ
prompt_name p = p.name

list_any-map : {K A : Type 0} (f : K → A) (test : A → Bool) (ks : List K)
    → list_any (λ k. test (f k)) ks ≡ list_any test (map f ks)
list_any-map f test [] = refl
list_any-map f test (k ∷ ks) = ap (λ b. test (f k) || b) (list_any-map f test ks)

-- what a set answers of a key
pub was_there : (b new : Bool) → new ≡ not b → new ≡ false → b ≡ true
was_there true new is h = refl
was_there false new is h = cc

pub was_absent : (b new : Bool) → new ≡ not b → new ≡ true → b ≡ false
was_absent true new is h = cc
was_absent false new is h = refl

-- K are the keys of a set and X the items, and A is what both are compared by
module _ {K X A : Type 0} (f : K → A) (g : X → A) (same : A → A → Bool) where
  -- the keys in the set are those of the first i items
  pub record Seen (ks : List K) (xs : List X) (i : ℕ) : Type 0 where
    pub seen : map f ks ≡ map g (take i xs)
    pub once : (k : ℕ) → k < i → stands_before (λ (x y : X). same (g x) (g y)) xs k ≡ false

  -- the item at place i stands before where its key is in the set
  pub stands : (ks : List K) (xs : List X) (i : ℕ) (k : K) (x : X) (b : Bool) → Seen ks xs i → i < length xs
      → x ≡ get_or xs i x → f k ≡ g x → list_any (λ (l : K). same (f k) (f l)) ks ≡ b
      → stands_before (λ (v w : X). same (g v) (g w)) xs i ≡ b
  stands ks xs i k x b s low at key there =
      ap (λ o. option_map_or (λ (v : X). list_any (λ (w : X). same (g v) (g w)) (take i xs)) o false)
      (slice_get_read xs (length xs) i x refl low at)
      ∙ (list_any-map g (same (g x)) (take i xs)
      ∙ (ap (list_any (same (g x))) (sym s.seen)
      ∙ (ap (λ a. list_any (same a) (map f ks)) (sym key) ∙ (sym (list_any-map f (same (f k)) ks) ∙ there))))

  pub seen_none : (xs : List X) → Seen [] xs 0
  seen_none xs = record { seen = refl; once = λ k low. absurd (omega arith) }

  -- a new key goes to the others
  pub seen_more : (ks new : List K) (xs : List X) (i : ℕ) (k : K) (x : X) → Seen ks xs i → i < length xs
      → x ≡ get_or xs i x → f k ≡ g x → list_any (λ (l : K). same (f k) (f l)) ks ≡ false
      → new ≡ (if list_any (λ (l : K). same (f k) (f l)) ks then ks else ks ++ k ∷ []) → Seen new xs (i + 1)
  seen_more ks new xs i k x s low at key absent grown =
      record {
        seen =
            ap (map f) (grown ∙ ap (λ b. if b then ks else ks ++ k ∷ []) absent)
            ∙ (map-append f ks (k ∷ [])
            ∙ (ap (λ l. l ++ f k ∷ []) s.seen
            ∙ (ap (λ a. map g (take i xs) ++ a ∷ []) (key ∙ ap g at)
            ∙ (sym (map-append g (take i xs) (get_or xs i x ∷ [])) ∙ ap (map g) (sym (take_more xs i x low))))));
        once = below_more _ i s.once (stands ks xs i k x false s low at key absent);
      }

  -- a key that is there is a repeat
  pub seen_twice : (ks : List K) (xs : List X) (i : ℕ) (k : K) (x : X) → Seen ks xs i → i < length xs
      → x ≡ get_or xs i x → f k ≡ g x → list_any (λ (l : K). same (f k) (f l)) ks ≡ true
      → has_repeat (λ (v w : X). same (g v) (g w)) xs ≡ true
  seen_twice ks xs i k x s low at key there =
      any_here (stands_before (λ (v w : X). same (g v) (g w)) xs) 0 (length xs) i (omega arith) (omega arith)
      (stands ks xs i k x true s low at key there)

  -- with all items seen there is no repeat
  pub seen_all : (ks : List K) (xs : List X) (i : ℕ) → Seen ks xs i → length xs ≤ i
      → has_repeat (λ (v w : X). same (g v) (g w)) xs ≡ false
  seen_all ks xs i s all =
      any_nothing (stands_before (λ (v w : X). same (g v) (g w)) xs) 0 (length xs)
      (λ k low high. s.once k (omega arith))
