-- What the clauses of an object count together, as they are written and in their normal form.
use Rattle.std.proofs.Common.{◌≡◌, ℕ, ◌+◌, Bool, true, false, cond, eqb, not, List, [], ◌∷◌, ◌++◌, map, filter}
use Rattle.std.proofs.Common.{flat_map, Option, refl, ap, sym, ◌∙◌, arith}
use Rattle.lemmas.proofs.Numbers.{number_tells}
use Rattle.composer_parser.specs.declared.Clause.{Clause}
use Rattle.composer_parser.specs.declared.Clause.TheVariants.{At, Until, Deadline, Priority, Limit, CarryForward}
use Rattle.composer_parser.specs.declared.Clause.TheVariants.{Follows, Needs, Prompt, Opens}
use Rattle.composer_parser.specs.declared.Pred.{Pred}
use Rattle.composer_parser.specs.declared.Need.{Need}
use Rattle.composer_parser.specs.declared.PromptItem.{PromptItem}
use Rattle.composer_parser.specs.Clauses.{is_at, is_until, is_deadline, is_limit, is_carry}
use Rattle.composer_print.specs.Scopes.{is_of, is_own_priority, preds_in, needs_in, prompts_in, files_in, follows_of}
use Rattle.composer_print.specs.Scopes.{needs_of, prompt_of, opens_of, normal_pred, normal_need, normal_clauses}

abbrev pub total : {X : Type 0} → (X → ℕ) → List X → ℕ
total g [] = 0
total g (x ∷ xs) = g x + total g xs

total_append : {X : Type 0} (g : X → ℕ) (xs ys : List X) → total g (xs ++ ys) ≡ total g xs + total g ys
total_append g [] ys = omega arith
total_append g (x ∷ xs) ys = omega (arith, total_append g xs ys)

pub total_mapped : {X Y : Type 0} (more : Y → ℕ) (g : X → ℕ) (f : X → Y) → ((x : X) → more (f x) ≡ g x) → (xs : List X)
    → total more (map f xs) ≡ total g xs
total_mapped more g f h [] = refl
total_mapped more g f h (x ∷ xs) = λ i. h x i + total_mapped more g f h xs i

total_agrees : {X : Type 0} (more g : X → ℕ) → ((x : X) → more x ≡ g x) → (xs : List X) → total more xs ≡ total g xs
total_agrees more g h [] = refl
total_agrees more g h (x ∷ xs) = λ i. h x i + total_agrees more g h xs i

-- what a clause that stands once counts, and what each of a list does
pub record Weights : Type 0 where
  pub single : Clause → ℕ
  pub pred : Pred → ℕ
  pub need : Need → ℕ
  pub prompt : PromptItem → ℕ
  pub file : List ℕ → ℕ

abbrev pub weight : Weights → Clause → ℕ
weight w (At t days) = w.single (At t days)
weight w (Until t days u) = w.single (Until t days u)
weight w (Deadline t days) = w.single (Deadline t days)
weight w (Priority n) = w.single (Priority n)
weight w (Limit n) = w.single (Limit n)
weight w CarryForward = w.single CarryForward
weight w (Follows ps) = total w.pred ps
weight w (Needs ns) = total w.need ns
weight w (Prompt ps) = total w.prompt ps
weight w (Opens fs) = total w.file fs

-- the clauses of the kinds that stand once
abbrev singles : (Clause → ℕ) → List Clause → ℕ
singles g cs =
    total g (filter is_at cs) + (total g (filter is_until cs) + (total g (filter is_deadline cs)
    + (total g (filter is_own_priority cs) + (total g (filter is_limit cs) + total g (filter is_carry cs)))))

priority_by : (g : Clause → ℕ) (n : ℕ) (cs : List Clause) (b : Bool) → g (Priority 10) ≡ 0 → eqb n 10 ≡ b
    → total g (cond (not b) (Priority n ∷ cs) cs) ≡ g (Priority n) + total g cs
priority_by g n cs true ten e =
    let none : g (Priority n) ≡ 0 = ap (λ k. g (Priority k)) (number_tells n 10 e) ∙ ten in
    omega (arith, none)
priority_by g n cs false ten e = refl

-- each clause counts by its kind
by_kinds : (w : Weights) → w.single (Priority 10) ≡ 0 → (cs : List Clause)
    → total (weight w) cs
    ≡ singles w.single cs + (total w.pred (flat_map preds_in cs) + (total w.need (flat_map needs_in cs)
    + (total w.prompt (flat_map prompts_in cs) + total w.file (flat_map files_in cs))))
unfolding preds_in needs_in prompts_in files_in
by_kinds w ten [] = refl
by_kinds w ten (At t days ∷ cs) = omega (arith, by_kinds w ten cs)
by_kinds w ten (Until t days u ∷ cs) = omega (arith, by_kinds w ten cs)
by_kinds w ten (Deadline t days ∷ cs) = omega (arith, by_kinds w ten cs)
by_kinds w ten (Priority n ∷ cs) =
    omega (arith, by_kinds w ten cs, priority_by w.single n (filter is_own_priority cs) (eqb n 10) ten refl)
by_kinds w ten (Limit n ∷ cs) = omega (arith, by_kinds w ten cs)
by_kinds w ten (CarryForward ∷ cs) = omega (arith, by_kinds w ten cs)
by_kinds w ten (Follows ps ∷ cs) = omega (arith, by_kinds w ten cs, total_append w.pred ps (flat_map preds_in cs))
by_kinds w ten (Needs ns ∷ cs) = omega (arith, by_kinds w ten cs, total_append w.need ns (flat_map needs_in cs))
by_kinds w ten (Prompt ps ∷ cs) = omega (arith, by_kinds w ten cs, total_append w.prompt ps (flat_map prompts_in cs))
by_kinds w ten (Opens fs ∷ cs) = omega (arith, by_kinds w ten cs, total_append w.file fs (flat_map files_in cs))

-- tests that no clause with a list passes
pub record IsSingle (p : Clause → Bool) : Type 0 where
  pub follows : (ps : List Pred) → p (Follows ps) ≡ false
  pub needs : (ns : List Need) → p (Needs ns) ≡ false
  pub prompts : (ps : List PromptItem) → p (Prompt ps) ≡ false
  pub opens : (fs : List (List ℕ)) → p (Opens fs) ≡ false

pub at_single : IsSingle is_at
at_single = record { follows = λ ps. refl; needs = λ ns. refl; prompts = λ ps. refl; opens = λ fs. refl }

pub until_single : IsSingle is_until
until_single = record { follows = λ ps. refl; needs = λ ns. refl; prompts = λ ps. refl; opens = λ fs. refl }

pub deadline_single : IsSingle is_deadline
deadline_single = record { follows = λ ps. refl; needs = λ ns. refl; prompts = λ ps. refl; opens = λ fs. refl }

pub own_priority_single : IsSingle is_own_priority
own_priority_single = record { follows = λ ps. refl; needs = λ ns. refl; prompts = λ ps. refl; opens = λ fs. refl }

pub limit_single : IsSingle is_limit
limit_single = record { follows = λ ps. refl; needs = λ ns. refl; prompts = λ ps. refl; opens = λ fs. refl }

pub carry_single : IsSingle is_carry
carry_single = record { follows = λ ps. refl; needs = λ ns. refl; prompts = λ ps. refl; opens = λ fs. refl }

single_weight : (w : Weights) (p : Clause → Bool) → IsSingle p → (c : Clause) → p c ≡ true → weight w c ≡ w.single c
single_weight w p single (Follows ps) h = let no_ = single.follows ps in cc
single_weight w p single (Needs ns) h = let no_ = single.needs ns in cc
single_weight w p single (Prompt ps) h = let no_ = single.prompts ps in cc
single_weight w p single (Opens fs) h = let no_ = single.opens fs in cc
single_weight w p single c h = refl

single_total : (w : Weights) (p : Clause → Bool) → IsSingle p → (cs : List Clause)
    → total (weight w) (filter p cs) ≡ total w.single (filter p cs)
single_total w p single [] = refl
single_total w p single (c ∷ cs) = go (p c) refl (single_total w p single cs)
  where
    go : (b : Bool) → p c ≡ b → total (weight w) (filter p cs) ≡ total w.single (filter p cs)
        → total (weight w) (cond b (c ∷ filter p cs) (filter p cs)) ≡ total w.single
        (cond b (c ∷ filter p cs) (filter p cs))
    go true is more = λ i. single_weight w p single c is i + more i
    go false is more = more

-- a clause with all of a kind
follows_total : (w : Weights) (ps : List Pred) → total (weight w) (follows_of ps) ≡ total w.pred ps
follows_total w [] = refl
follows_total w (p ∷ ps) = omega arith

needs_total : (w : Weights) (ns : List Need) → total (weight w) (needs_of ns) ≡ total w.need ns
needs_total w [] = refl
needs_total w (n ∷ ns) = omega arith

prompts_total : (w : Weights) (ps : List PromptItem) → total (weight w) (prompt_of ps) ≡ total w.prompt ps
prompts_total w [] = refl
prompts_total w (p ∷ ps) = omega arith

files_total : (w : Weights) (fs : List (List ℕ)) → total (weight w) (opens_of fs) ≡ total w.file fs
files_total w [] = refl
files_total w (f ∷ fs) = omega arith

-- ten lists one behind the other
in_ten : (g : Clause → ℕ) (a b c d e f p q r s : List Clause)
    → total g (a ++ (b ++ (c ++ (d ++ (e ++ (f ++ (p ++ (q ++ (r ++ s)))))))))
    ≡ (total g a + (total g b + (total g c + (total g d + (total g e + total g f)))))
    + (total g p + (total g q + (total g r + total g s)))
in_ten g a b c d e f p q r s =
    omega (
      arith,
      total_append g a (b ++ (c ++ (d ++ (e ++ (f ++ (p ++ (q ++ (r ++ s)))))))),
      total_append g b (c ++ (d ++ (e ++ (f ++ (p ++ (q ++ (r ++ s))))))),
      total_append g c (d ++ (e ++ (f ++ (p ++ (q ++ (r ++ s)))))),
      total_append g d (e ++ (f ++ (p ++ (q ++ (r ++ s))))),
      total_append g e (f ++ (p ++ (q ++ (r ++ s)))),
      total_append g f (p ++ (q ++ (r ++ s))),
      total_append g p (q ++ (r ++ s)),
      total_append g q (r ++ s),
      total_append g r s,
    )

of_normal : (w : Weights) (names : List (List ℕ)) (home own : Option (List ℕ)) (cs : List Clause)
    → total (weight w) (normal_clauses names home own cs)
    ≡ singles w.single cs + (total w.pred (map (normal_pred names home) (flat_map preds_in cs))
    + (total w.need (map (normal_need own) (flat_map needs_in cs))
    + (total w.prompt (flat_map prompts_in cs) + total w.file (flat_map files_in cs))))
unfolding normal_clauses is_of
of_normal w names home own cs =
    in_ten (weight w) (filter is_at cs) (filter is_until cs) (filter is_deadline cs) (filter is_own_priority cs)
    (filter is_limit cs) (filter is_carry cs) (follows_of (map (normal_pred names home) (flat_map preds_in cs)))
    (needs_of (map (normal_need own) (flat_map needs_in cs))) (prompt_of (flat_map prompts_in cs))
    (opens_of (flat_map files_in cs))
    ∙ (λ i. (single_total w is_at at_single cs i +
    (single_total w is_until until_single cs i + (single_total w is_deadline deadline_single cs i
    + (single_total w is_own_priority own_priority_single cs i +
    (single_total w is_limit limit_single cs i + single_total w is_carry carry_single cs i)))))
    + (follows_total w (map (normal_pred names home) (flat_map preds_in cs)) i
    + (needs_total w (map (normal_need own) (flat_map needs_in cs)) i
    + (prompts_total w (flat_map prompts_in cs) i + files_total w (flat_map files_in cs) i))))

-- The clauses in normal form count the same where what they name does, and a priority of 10 counts nothing.
pub weighed : (single : Clause → ℕ) (p p2 : Pred → ℕ) (n n2 : Need → ℕ) (q q2 : PromptItem → ℕ) (file : List ℕ → ℕ)
    (names : List (List ℕ)) (home own : Option (List ℕ)) → single (Priority 10) ≡ 0
    → ((x : Pred) → p2 (normal_pred names home x) ≡ p x) → ((x : Need) → n2 (normal_need own x) ≡ n x)
    → ((x : PromptItem) → q2 x ≡ q x) → (cs : List Clause)
    → total (weight (record { single = single; pred = p2; need = n2; prompt = q2; file = file }))
    (normal_clauses names home own cs)
    ≡ total (weight (record { single = single; pred = p; need = n; prompt = q; file = file })) cs
weighed single p p2 n n2 q q2 file names home own ten preds needs prompts cs =
    of_normal (record { single = single; pred = p2; need = n2; prompt = q2; file = file }) names home own cs
    ∙ (λ i. singles single cs + (total_mapped p2 p (normal_pred names home) preds (flat_map preds_in cs) i
    + (total_mapped n2 n (normal_need own) needs (flat_map needs_in cs) i
    + (total_agrees q2 q prompts (flat_map prompts_in cs) i + total file (flat_map files_in cs)))))
    ∙ sym (by_kinds (record { single = single; pred = p; need = n; prompt = q; file = file }) ten cs)
