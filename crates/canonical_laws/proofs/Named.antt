-- What the clauses of a normal form name.
use Rattle.std.proofs.Common.{◌≡◌, ℕ, Bool, true, false, cond, List, [], ◌∷◌, ◌++◌, map, filter, flat_map, Option, refl}
use Rattle.std.proofs.Common.{◌∙◌, append-nil}
use Rattle.std.proofs.lemmas.List.Concat.{flat_map-append}
use Rattle.composer_parser.specs.declared.Clause.{Clause}
use Rattle.composer_parser.specs.declared.Clause.TheVariants.{Follows}
use Rattle.composer_parser.specs.declared.Pred.{Pred}
use Rattle.composer_parser.specs.Clauses.{is_at, is_until, is_deadline, is_limit, is_carry}
use Rattle.composer_print.specs.Scopes.{is_of, is_own_priority, preds_in, needs_in, prompts_in, files_in, follows_of}
use Rattle.composer_print.specs.Scopes.{needs_of, prompt_of, opens_of, normal_pred, normal_need, normal_clauses}
use Rattle.composer_print.proofs.Chosen.{ten_parts, preds_follows, preds_needs, preds_prompts, preds_opens}
use Rattle.canonical_laws.proofs.Weights.{IsSingle, at_single, until_single, deadline_single, own_priority_single}
use Rattle.canonical_laws.proofs.Weights.{limit_single, carry_single}

-- a clause that stands once names nothing of a list
single_follows : (p : Clause → Bool) → IsSingle p → (c : Clause) → p c ≡ true → preds_in c ≡ []
unfolding preds_in
single_follows p single (Follows ps) h = let no_ = single.follows ps in cc
single_follows p single c h = refl

singles_follow : (p : Clause → Bool) → IsSingle p → (cs : List Clause) → flat_map preds_in (filter p cs) ≡ []
singles_follow p single [] = refl
singles_follow p single (c ∷ cs) = go (p c) refl (singles_follow p single cs)
  where
    go : (b : Bool) → p c ≡ b → flat_map preds_in (filter p cs) ≡ []
        → flat_map preds_in (cond b (c ∷ filter p cs) (filter p cs)) ≡ []
    go true is more = λ i. single_follows p single c is i ++ more i
    go false is more = more

pub preds_named : (names : List (List ℕ)) (home own : Option (List ℕ)) (cs : List Clause)
    → flat_map preds_in (normal_clauses names home own cs) ≡ map (normal_pred names home) (flat_map preds_in cs)
unfolding normal_clauses is_of
preds_named names home own cs =
    let preds : List Pred = map (normal_pred names home) (flat_map preds_in cs) in
    ten_parts (λ xs. flat_map preds_in xs) (λ xs ys. flat_map-append preds_in xs ys) (filter is_at cs)
    (filter is_until cs)
    (filter is_deadline cs) (filter is_own_priority cs) (filter is_limit cs) (filter is_carry cs) (follows_of preds)
    (needs_of (map (normal_need own) (flat_map needs_in cs))) (prompt_of (flat_map prompts_in cs))
    (opens_of (flat_map files_in cs)) [] [] [] [] [] [] preds [] [] [] (singles_follow is_at at_single cs)
    (singles_follow is_until until_single cs) (singles_follow is_deadline deadline_single cs)
    (singles_follow is_own_priority own_priority_single cs) (singles_follow is_limit limit_single cs)
    (singles_follow is_carry carry_single cs) (preds_follows preds)
    (preds_needs (map (normal_need own) (flat_map needs_in cs)))
    (preds_prompts (flat_map prompts_in cs)) (preds_opens (flat_map files_in cs))
    ∙ append-nil preds
