-- What is made of the clauses of one kind is made of those of the normal form.
use Rattle.std.proofs.Common.{◌≡◌, ℕ, Bool, true, false, cond, eqb, List, [], ◌∷◌, ◌++◌, map, filter, flat_map, Option}
use Rattle.std.proofs.Common.{refl, ap, sym, ◌∙◌, append-nil}
use Rattle.std.proofs.lemmas.List.Concat.{flat_map-append}
use Rattle.lemmas.proofs.Numbers.{number_tells}
use Rattle.composer_parser.specs.declared.Clause.{Clause}
use Rattle.composer_parser.specs.declared.Clause.TheVariants.{At, Until, Deadline, Priority, Limit, CarryForward}
use Rattle.composer_parser.specs.declared.Clause.TheVariants.{Follows, Needs, Prompt, Opens}
use Rattle.composer_parser.specs.declared.Need.{Need}
use Rattle.composer_parser.specs.declared.Pred.{Pred}
use Rattle.composer_parser.specs.declared.PromptItem.{PromptItem}
use Rattle.composer_parser.specs.Clauses.{is_at, is_until, is_deadline, is_limit, is_carry}
use Rattle.composer_print.specs.Scopes.{is_of, is_own_priority, preds_in, needs_in, prompts_in, files_in, follows_of}
use Rattle.composer_print.specs.Scopes.{needs_of, prompt_of, opens_of, normal_pred, normal_need, normal_clauses}
use Rattle.composer_print.proofs.Chosen.{ten_parts, needs_follows, needs_needs, needs_prompts, needs_opens}
use Rattle.composer_print.proofs.Chosen.{prompts_follows, prompts_needs, prompts_prompts, prompts_opens, files_follows}
use Rattle.composer_print.proofs.Chosen.{files_needs, files_prompts, files_opens}

-- the kinds by numbers
abbrev pub kind : Clause → ℕ
kind (At t days) = 0
kind (Until t days u) = 1
kind (Deadline t days) = 2
kind (Priority n) = 3
kind (Limit n) = 4
kind CarryForward = 5
kind (Follows ps) = 6
kind (Needs ns) = 7
kind (Prompt ps) = 8
kind (Opens fs) = 9

-- tests for a kind: a clause that passes is of it, and one that fails is not
at_yes : (c : Clause) → is_at c ≡ true → kind c ≡ 0
at_yes (At t days) h = refl
at_yes c h = cc

at_no : (c : Clause) → is_at c ≡ false → eqb (kind c) 0 ≡ false
at_no (At t days) h = cc
at_no c h = refl

until_yes : (c : Clause) → is_until c ≡ true → kind c ≡ 1
until_yes (Until t days u) h = refl
until_yes c h = cc

until_no : (c : Clause) → is_until c ≡ false → eqb (kind c) 1 ≡ false
until_no (Until t days u) h = cc
until_no c h = refl

deadline_yes : (c : Clause) → is_deadline c ≡ true → kind c ≡ 2
deadline_yes (Deadline t days) h = refl
deadline_yes c h = cc

deadline_no : (c : Clause) → is_deadline c ≡ false → eqb (kind c) 2 ≡ false
deadline_no (Deadline t days) h = cc
deadline_no c h = refl

priority_yes : (c : Clause) → is_own_priority c ≡ true → kind c ≡ 3
priority_yes (Priority n) h = refl
priority_yes c h = cc

limit_yes : (c : Clause) → is_limit c ≡ true → kind c ≡ 4
limit_yes (Limit n) h = refl
limit_yes c h = cc

limit_no : (c : Clause) → is_limit c ≡ false → eqb (kind c) 4 ≡ false
limit_no (Limit n) h = cc
limit_no c h = refl

carry_yes : (c : Clause) → is_carry c ≡ true → kind c ≡ 5
carry_yes CarryForward h = refl
carry_yes c h = cc

carry_no : (c : Clause) → is_carry c ≡ false → eqb (kind c) 5 ≡ false
carry_no CarryForward h = cc
carry_no c h = refl

-- nothing of a kind but one
abbrev pub IsOnly : {B : Type 0} → (Clause → List B) → ℕ → Type 0
IsOnly h k = (c : Clause) → eqb (kind c) k ≡ false → h c ≡ []

none_chosen : {B : Type 0} (h : Clause → List B) (q : Clause → Bool) → ((c : Clause) → q c ≡ true → h c ≡ [])
    → (cs : List Clause)
    → flat_map h (filter q cs) ≡ []
none_chosen h q none [] = refl
none_chosen h q none (c ∷ cs) = go (q c) refl (none_chosen h q none cs)
  where
    go : (b : Bool) → q c ≡ b → flat_map h (filter q cs) ≡ [] → flat_map h (cond b (c ∷ filter q cs) (filter q cs)) ≡ []
    go true is more = λ i. none c is i ++ more i
    go false is more = more

all_chosen : {B : Type 0} (h : Clause → List B) (q : Clause → Bool) → ((c : Clause) → q c ≡ false → h c ≡ [])
    → (cs : List Clause)
    → flat_map h (filter q cs) ≡ flat_map h cs
all_chosen h q none [] = refl
all_chosen h q none (c ∷ cs) = go (q c) refl (all_chosen h q none cs)
  where
    go : (b : Bool) → q c ≡ b → flat_map h (filter q cs) ≡ flat_map h cs
        → flat_map h (cond b (c ∷ filter q cs) (filter q cs)) ≡ h c ++ flat_map h cs
    go true is more = ap (λ l. h c ++ l) more
    go false is more = more ∙ sym (ap (λ l. l ++ flat_map h cs) (none c is))

module _ {B : Type 0} (h : Clause → List B) (k : ℕ) (only : IsOnly h k) where
  apart : (q : Clause → Bool) (j : ℕ) → ((c : Clause) → q c ≡ true → kind c ≡ j) → eqb j k ≡ false → (cs : List Clause)
      → flat_map h (filter q cs) ≡ []
  apart q j yes_ off cs = none_chosen h q (λ c t. only c (ap (λ n. eqb n k) (yes_ c t) ∙ off)) cs

  block : (q : Clause → Bool) (j : ℕ) → ((c : Clause) → q c ≡ true → kind c ≡ j)
      → ((c : Clause) → q c ≡ false → eqb (kind c) j ≡ false) → (cs : List Clause) (b : Bool) → eqb j k ≡ b
      → flat_map h (filter q cs) ≡ cond b (flat_map h cs) []
  block q j yes_ no_ cs true e =
      all_chosen h q (λ c f. only c (ap (λ n. eqb (kind c) n) (sym (number_tells j k e)) ∙ no_ c f)) cs
  block q j yes_ no_ cs false e = apart q j yes_ e cs

  follows_none : eqb 6 k ≡ false → (ps : List Pred) → flat_map h (follows_of ps) ≡ []
  follows_none off [] = refl
  follows_none off (p ∷ ps) = append-nil (h (Follows (p ∷ ps))) ∙ only (Follows (p ∷ ps)) off

  needs_none : eqb 7 k ≡ false → (ns : List Need) → flat_map h (needs_of ns) ≡ []
  needs_none off [] = refl
  needs_none off (n ∷ ns) = append-nil (h (Needs (n ∷ ns))) ∙ only (Needs (n ∷ ns)) off

  prompts_none : eqb 8 k ≡ false → (ps : List PromptItem) → flat_map h (prompt_of ps) ≡ []
  prompts_none off [] = refl
  prompts_none off (p ∷ ps) = append-nil (h (Prompt (p ∷ ps))) ∙ only (Prompt (p ∷ ps)) off

  opens_none : eqb 9 k ≡ false → (fs : List (List ℕ)) → flat_map h (opens_of fs) ≡ []
  opens_none off [] = refl
  opens_none off (f ∷ fs) = append-nil (h (Opens (f ∷ fs))) ∙ only (Opens (f ∷ fs)) off

  -- of the clauses that stand once, and of no priority
  pub of_kind : eqb 3 k ≡ false → eqb 6 k ≡ false → eqb 7 k ≡ false → eqb 8 k ≡ false → eqb 9 k ≡ false
      → (names : List (List ℕ)) (home own : Option (List ℕ)) (cs : List Clause)
      → flat_map h (normal_clauses names home own cs)
      ≡ cond (eqb 0 k) (flat_map h cs) [] ++ (cond (eqb 1 k) (flat_map h cs) [] ++ (cond (eqb 2 k) (flat_map h cs) []
      ++ ([] ++ (cond (eqb 4 k) (flat_map h cs) [] ++ (cond (eqb 5 k) (flat_map h cs) []
      ++ ([] ++ ([] ++ ([] ++ []))))))))
  unfolding normal_clauses is_of
  of_kind three six seven eight nine names home own cs =
      ten_parts (λ xs. flat_map h xs) (λ xs ys. flat_map-append h xs ys) (filter is_at cs) (filter is_until cs)
      (filter is_deadline cs) (filter is_own_priority cs) (filter is_limit cs) (filter is_carry cs)
      (follows_of (map (normal_pred names home) (flat_map preds_in cs)))
      (needs_of (map (normal_need own) (flat_map needs_in cs)))
      (prompt_of (flat_map prompts_in cs)) (opens_of (flat_map files_in cs)) (cond (eqb 0 k) (flat_map h cs) [])
      (cond (eqb 1 k) (flat_map h cs) []) (cond (eqb 2 k) (flat_map h cs) []) [] (cond (eqb 4 k) (flat_map h cs) [])
      (cond (eqb 5 k) (flat_map h cs) []) [] [] [] [] (block is_at 0 at_yes at_no cs (eqb 0 k) refl)
      (block is_until 1 until_yes until_no cs (eqb 1 k) refl)
      (block is_deadline 2 deadline_yes deadline_no cs (eqb 2 k) refl)
      (apart is_own_priority 3 priority_yes three cs) (block is_limit 4 limit_yes limit_no cs (eqb 4 k) refl)
      (block is_carry 5 carry_yes carry_no cs (eqb 5 k) refl)
      (follows_none six (map (normal_pred names home) (flat_map preds_in cs)))
      (needs_none seven (map (normal_need own) (flat_map needs_in cs))) (prompts_none eight (flat_map prompts_in cs))
      (opens_none nine (flat_map files_in cs))

  -- of what stands in lists
  of_lists : eqb 0 k ≡ false → eqb 1 k ≡ false → eqb 2 k ≡ false → eqb 3 k ≡ false → eqb 4 k ≡ false → eqb 5 k ≡ false
      → (names : List (List ℕ)) (home own : Option (List ℕ)) (cs : List Clause) (G H I J : List B)
      → flat_map h (follows_of (map (normal_pred names home) (flat_map preds_in cs))) ≡ G
      → flat_map h (needs_of (map (normal_need own) (flat_map needs_in cs))) ≡ H
      → flat_map h (prompt_of (flat_map prompts_in cs)) ≡ I → flat_map h (opens_of (flat_map files_in cs)) ≡ J
      → flat_map h (normal_clauses names home own cs) ≡ G ++ (H ++ (I ++ J))
  unfolding normal_clauses is_of
  of_lists zero_ one two three four five names home own cs G H I J g n p f =
      ten_parts (λ xs. flat_map h xs) (λ xs ys. flat_map-append h xs ys) (filter is_at cs) (filter is_until cs)
      (filter is_deadline cs) (filter is_own_priority cs) (filter is_limit cs) (filter is_carry cs)
      (follows_of (map (normal_pred names home) (flat_map preds_in cs)))
      (needs_of (map (normal_need own) (flat_map needs_in cs)))
      (prompt_of (flat_map prompts_in cs)) (opens_of (flat_map files_in cs)) [] [] [] [] [] [] G H I J
      (apart is_at 0 at_yes zero_ cs) (apart is_until 1 until_yes one cs) (apart is_deadline 2 deadline_yes two cs)
      (apart is_own_priority 3 priority_yes three cs) (apart is_limit 4 limit_yes four cs)
      (apart is_carry 5 carry_yes five cs)
      g n p f

  -- of priorities
  pub of_priority : eqb 0 k ≡ false → eqb 1 k ≡ false → eqb 2 k ≡ false → eqb 4 k ≡ false → eqb 5 k ≡ false
      → eqb 6 k ≡ false
      → eqb 7 k ≡ false → eqb 8 k ≡ false → eqb 9 k ≡ false → (names : List (List ℕ)) (home own : Option (List ℕ))
      (cs : List Clause) → flat_map h (normal_clauses names home own cs) ≡ flat_map h (filter is_own_priority cs)
  unfolding normal_clauses is_of
  of_priority zero_ one two four five six seven eight nine names home own cs =
      ten_parts (λ xs. flat_map h xs) (λ xs ys. flat_map-append h xs ys) (filter is_at cs) (filter is_until cs)
      (filter is_deadline cs) (filter is_own_priority cs) (filter is_limit cs) (filter is_carry cs)
      (follows_of (map (normal_pred names home) (flat_map preds_in cs)))
      (needs_of (map (normal_need own) (flat_map needs_in cs)))
      (prompt_of (flat_map prompts_in cs)) (opens_of (flat_map files_in cs)) [] [] []
      (flat_map h (filter is_own_priority cs)) [] [] [] [] [] [] (apart is_at 0 at_yes zero_ cs)
      (apart is_until 1 until_yes one cs) (apart is_deadline 2 deadline_yes two cs) refl
      (apart is_limit 4 limit_yes four cs)
      (apart is_carry 5 carry_yes five cs) (follows_none six (map (normal_pred names home) (flat_map preds_in cs)))
      (needs_none seven (map (normal_need own) (flat_map needs_in cs))) (prompts_none eight (flat_map prompts_in cs))
      (opens_none nine (flat_map files_in cs))
      ∙ append-nil (flat_map h (filter is_own_priority cs))

-- what clauses name
needs_only : IsOnly needs_in 7
unfolding needs_in
needs_only (Needs ns) h = cc
needs_only c h = refl

prompts_only : IsOnly prompts_in 8
unfolding prompts_in
prompts_only (Prompt ps) h = cc
prompts_only c h = refl

files_only : IsOnly files_in 9
unfolding files_in
files_only (Opens fs) h = cc
files_only c h = refl

pub needs_named : (names : List (List ℕ)) (home own : Option (List ℕ)) (cs : List Clause)
    → flat_map needs_in (normal_clauses names home own cs) ≡ map (normal_need own) (flat_map needs_in cs)
needs_named names home own cs =
    let needs : List Need = map (normal_need own) (flat_map needs_in cs) in
    of_lists needs_in 7 needs_only refl refl refl refl refl refl names home own cs [] needs [] []
    (needs_follows (map (normal_pred names home) (flat_map preds_in cs))) (needs_needs needs)
    (needs_prompts (flat_map prompts_in cs)) (needs_opens (flat_map files_in cs))
    ∙ append-nil needs

pub prompts_named : (names : List (List ℕ)) (home own : Option (List ℕ)) (cs : List Clause)
    → flat_map prompts_in (normal_clauses names home own cs) ≡ flat_map prompts_in cs
prompts_named names home own cs =
    of_lists prompts_in 8 prompts_only refl refl refl refl refl refl names home own cs [] [] (flat_map prompts_in cs) []
    (prompts_follows (map (normal_pred names home) (flat_map preds_in cs)))
    (prompts_needs (map (normal_need own) (flat_map needs_in cs))) (prompts_prompts (flat_map prompts_in cs))
    (prompts_opens (flat_map files_in cs))
    ∙ append-nil (flat_map prompts_in cs)

pub files_named : (names : List (List ℕ)) (home own : Option (List ℕ)) (cs : List Clause)
    → flat_map files_in (normal_clauses names home own cs) ≡ flat_map files_in cs
files_named names home own cs =
    of_lists files_in 9 files_only refl refl refl refl refl refl names home own cs [] [] [] (flat_map files_in cs)
    (files_follows (map (normal_pred names home) (flat_map preds_in cs)))
    (files_needs (map (normal_need own) (flat_map needs_in cs))) (files_prompts (flat_map prompts_in cs))
    (files_opens (flat_map files_in cs))
