-- What stands in a list is found there, and what a record names.
use Rattle.std.proofs.Common.{◌≡◌, ℕ, zero, suc, true, ◌||◌, List, [], ◌∷◌, ◌++◌}
use Rattle.std.proofs.Common.{Some, length, refl, ap, ◌∙◌, map}
use Rattle.std.proofs.Common.{bytes_eq}
use Rattle.std.specs.Option.{option_map_or}
use Rattle.lemmas.proofs.Booleans.{or_made_left, or_true}
use Rattle.lemmas.proofs.Texts.{text_itself}
use Rattle.history_laws.proofs.Named.{cut, key_of, title}
use Rattle.model.specs.Types.{Net, PromptDef, Resource}
use Rattle.model.specs.Words.{nth}
use Rattle.plan_listing.specs.Dependencies.{prompt_name, resource_name}
use Rattle.record_faults.specs.Known.{Key, Named, has_key, has_name, key_eq}

abbrev pub title_of : PromptDef → List ℕ
title_of p = p.name

-- What is found in a list.

pub key_there : (keys : List Key) (before behind : List Key) (k : Key) → keys ≡ before ++ k ∷ behind → has_key keys k ≡ true
key_there keys before behind k is = ap (λ l. has_key l k) is ∙ go before
  where
    here : key_eq k k ≡ true
    here = rw (text_itself k.0, text_itself k.1) refl

    go : (before : List Key) → has_key (before ++ k ∷ behind) k ≡ true
    go [] = or_made_left (key_eq k k) (has_key behind k) here
    go (x ∷ xs) = ap (λ b. key_eq k x || b) (go xs) ∙ or_true (key_eq k x)

pub name_among : (before behind : List (List ℕ)) (n : List ℕ) → has_name (before ++ n ∷ behind) n ≡ true
name_among [] behind n = or_made_left (bytes_eq n n) (has_name behind n) (text_itself n)
name_among (x ∷ before) behind n = ap (λ b. bytes_eq n x || b) (name_among before behind n) ∙ or_true (bytes_eq n x)

-- both sides of what stands at a number from 1
pub numbered_cut : {A : Type 0} (xs : List A) (k : ℕ) (x : A) → nth xs k ≡ Some x
    → (before : List A) × (behind : List A) × (xs ≡ before ++ x ∷ behind) × (suc (length before) ≡ k)
numbered_cut xs zero x e = absurd (cc)
numbered_cut xs (suc k) x e = let c = cut xs k x e in (c.0, c.1, c.2, ap suc c.3)

pub resource_named : (net : Net) (r : ℕ) (x : Resource) → nth net.resources r ≡ Some x → resource_name net r ≡ x.name
resource_named net r x there = ap (λ o. option_map_or (λ (y : Resource). y.name) o []) there

pub prompt_named : (net : Net) (p : ℕ) (x : PromptDef) → nth net.prompts p ≡ Some x → prompt_name net p ≡ x.name
prompt_named net p x there = ap (λ o. option_map_or (λ (y : PromptDef). y.name) o []) there

-- what a record names
pub record Names (net : Net) (n : Named) : Type 0 where
  pub stations : n.stations ≡ map (title net) net.nodes
  pub resources : n.resources ≡ map (key_of net) net.resources
  pub prompts : n.prompts ≡ map title_of net.prompts
