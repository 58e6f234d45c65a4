-- The clauses of a normal form against what is written of each clause.
use Rattle.std.proofs.Common.{◌≡◌, ℕ, Bool, true, false, cond, List, [], ◌∷◌, ◌++◌, Option, Some, None, option_map, map, filter, flat_map, refl, ap, sym, ◌∙◌, append_assoc, append-nil, codes}
use Rattle.std.proofs.lemmas.List.Concat.{flat_map-append}
use Rattle.std.proofs.lemmas.List.{map-append}
use Rattle.composer_parser.specs.declared.definitions.Lined.{Lined}
use Rattle.composer_parser.specs.declared.clauses.Clause.{Clause}
use Rattle.composer_parser.specs.declared.clauses.Clause.TheVariants.{At, Until, Deadline, Priority, Limit, CarryForward}
use Rattle.composer_parser.specs.declared.clauses.Pred.{Pred}
use Rattle.composer_parser.specs.declared.clauses.Need.{Need}
use Rattle.composer_parser.specs.declared.clauses.PromptItem.{PromptItem}
use Rattle.composer_print.specs.declared.kinds.Once.{Once}
use Rattle.composer_print.specs.declared.kinds.Once.TheVariants as once
use Rattle.composer_print.specs.declared.kinds.Joined.TheVariants as joined
use Rattle.composer_print.specs.Texts.{item_of}
use Rattle.syntax.specs.Quotes.{quoted_text}
use Rattle.composer_print.specs.Clauses.{clause_text, clauses_text, list_text, pred_text, need_text, prompt_text}
use Rattle.composer_print.specs.Scopes.{is_of, those, normal_pred, normal_need, normal_clauses, preds_in, needs_in, prompts_in, files_in, follows_of, needs_of, prompt_of, opens_of}
use Rattle.composer_print.specs.Steps.{single_text, kind_text, texts_of, joined_text, all_text}
use Rattle.composer_print.specs.Streams.{items}
use Rattle.composer_print.specs.Normal.{unlined, all_unlined}

pub items_unlined : {A : Type 0} (xs : List A) → items (all_unlined xs) ≡ xs
items_unlined [] = refl
items_unlined (x ∷ xs) = ap (λ l. x ∷ l) (items_unlined xs)

pub item_unlined : {A : Type 0} (o : Option A) → item_of (option_map unlined o) ≡ o
item_unlined None = refl
item_unlined (Some a) = refl

-- a clause of a kind is one that stands once
single_is : (k : Once) (c : Clause) → is_of k c ≡ true → single_text c ≡ clause_text c
unfolding single_text clause_text is_of
single_is once.At (At t d) h = refl
single_is once.Until (Until t d u) h = refl
single_is once.Deadline (Deadline t d) h = refl
single_is once.Priority (Priority n) h = refl
single_is once.Limit (Limit n) h = refl
single_is once.CarryForward CarryForward h = refl
single_is k c h = cc

of_kind : (k : Once) (c : Clause) (cs : List Clause) (b : Bool) → is_of k c ≡ b
    → flat_map clause_text (cond b (c ∷ filter (is_of k) cs) (filter (is_of k) cs))
    ≡ cond b (single_text c) [] ++ flat_map clause_text (filter (is_of k) cs)
of_kind k c cs true h = ap (λ t. t ++ flat_map clause_text (filter (is_of k) cs)) (sym (single_is k c h))
of_kind k c cs false h = refl

kind_is : (k : Once) (cs : List (Lined Clause)) → flat_map clause_text (those k (items cs)) ≡ flat_map (kind_text k) cs
unfolding kind_text
kind_is k [] = refl
kind_is k (c ∷ cs) =
    of_kind k c.item (items cs) (is_of k c.item) refl
    ∙ ap (λ t. cond (is_of k c.item) (single_text c.item) [] ++ t) (kind_is k cs)

-- what all clauses name, put through a function
mapped : {A B : Type 0} (f : A → B) (g : Clause → List A) (cs : List (Lined Clause))
    → map f (flat_map g (items cs)) ≡ flat_map (λ c. map f (g c.item)) cs
mapped f g [] = refl
mapped f g (c ∷ cs) =
    map-append f (g c.item) (flat_map g (items cs)) ∙ ap (λ t. map f (g c.item) ++ t) (mapped f g cs)

follows_is : (ps : List Pred) → flat_map clause_text (follows_of ps) ≡ list_text (codes " FOLLOWS ") (map pred_text ps)
unfolding clause_text
follows_is [] = refl
follows_is (p ∷ ps) = append-nil (list_text (codes " FOLLOWS ") (map pred_text (p ∷ ps)))

needs_is : (ns : List Need) → flat_map clause_text (needs_of ns) ≡ list_text (codes " NEEDS ") (map need_text ns)
unfolding clause_text
needs_is [] = refl
needs_is (n ∷ ns) = append-nil (list_text (codes " NEEDS ") (map need_text (n ∷ ns)))

prompts_is : (ps : List PromptItem) → flat_map clause_text (prompt_of ps) ≡ list_text (codes " PROMPT ") (map prompt_text ps)
unfolding clause_text
prompts_is [] = refl
prompts_is (p ∷ ps) = append-nil (list_text (codes " PROMPT ") (map prompt_text (p ∷ ps)))

opens_is : (fs : List (List ℕ)) → flat_map clause_text (opens_of fs) ≡ list_text (codes " OPENS ") (map quoted_text fs)
unfolding clause_text
opens_is [] = refl
opens_is (f ∷ fs) = append-nil (list_text (codes " OPENS ") (map quoted_text (f ∷ fs)))

map_twice : {A B C : Type 0} (f : B → C) (g : A → B) (xs : List A) → map f (map g xs) ≡ map (λ x. f (g x)) xs
map_twice f g [] = refl
map_twice f g (x ∷ xs) = ap (λ t. f (g x) ∷ t) (map_twice f g xs)

joined_follows : (names : List (List ℕ)) (home own : Option (List ℕ)) (cs : List (Lined Clause))
    → flat_map clause_text (follows_of (map (normal_pred names home) (flat_map preds_in (items cs))))
    ≡ joined_text joined.Follows names home own cs
unfolding joined_text texts_of
joined_follows names home own cs =
    follows_is (map (normal_pred names home) (flat_map preds_in (items cs)))
    ∙ ap (λ xs. list_text (codes " FOLLOWS ") xs)
    (map_twice pred_text (normal_pred names home) (flat_map preds_in (items cs))
    ∙ mapped (λ p. pred_text (normal_pred names home p)) preds_in cs)

joined_needs : (names : List (List ℕ)) (home own : Option (List ℕ)) (cs : List (Lined Clause))
    → flat_map clause_text (needs_of (map (normal_need own) (flat_map needs_in (items cs))))
    ≡ joined_text joined.Needs names home own cs
unfolding joined_text texts_of
joined_needs names home own cs =
    needs_is (map (normal_need own) (flat_map needs_in (items cs)))
    ∙ ap (λ xs. list_text (codes " NEEDS ") xs)
    (map_twice need_text (normal_need own) (flat_map needs_in (items cs))
    ∙ mapped (λ n. need_text (normal_need own n)) needs_in cs)

joined_prompts : (names : List (List ℕ)) (home own : Option (List ℕ)) (cs : List (Lined Clause))
    → flat_map clause_text (prompt_of (flat_map prompts_in (items cs))) ≡ joined_text joined.Prompt names home own cs
unfolding joined_text texts_of
joined_prompts names home own cs =
    prompts_is (flat_map prompts_in (items cs)) ∙ ap (λ xs. list_text (codes " PROMPT ") xs) (mapped prompt_text prompts_in cs)

joined_opens : (names : List (List ℕ)) (home own : Option (List ℕ)) (cs : List (Lined Clause))
    → flat_map clause_text (opens_of (flat_map files_in (items cs))) ≡ joined_text joined.Opens names home own cs
unfolding joined_text texts_of
joined_opens names home own cs =
    opens_is (flat_map files_in (items cs)) ∙ ap (λ xs. list_text (codes " OPENS ") xs) (mapped quoted_text files_in cs)

behind : (f : Clause → List ℕ) (xs ys : List Clause) (a b : List ℕ) → flat_map f xs ≡ a → flat_map f ys ≡ b
    → flat_map f (xs ++ ys) ≡ a ++ b
behind f xs ys a b p q = flat_map-append f xs ys ∙ (λ i. p i ++ q i)

-- ten lists, put together from the left
from_left : (a b c d e f g h i j : List ℕ)
    → a ++ (b ++ (c ++ (d ++ (e ++ (f ++ (g ++ (h ++ (i ++ j))))))))
    ≡ ((((((((a ++ b) ++ c) ++ d) ++ e) ++ f) ++ g) ++ h) ++ i) ++ j
from_left a b c d e f g h i j =
    sym (append_assoc a b (c ++ (d ++ (e ++ (f ++ (g ++ (h ++ (i ++ j))))))))
    ∙ sym (append_assoc (a ++ b) c (d ++ (e ++ (f ++ (g ++ (h ++ (i ++ j)))))))
    ∙ sym (append_assoc ((a ++ b) ++ c) d (e ++ (f ++ (g ++ (h ++ (i ++ j))))))
    ∙ sym (append_assoc (((a ++ b) ++ c) ++ d) e (f ++ (g ++ (h ++ (i ++ j)))))
    ∙ sym (append_assoc ((((a ++ b) ++ c) ++ d) ++ e) f (g ++ (h ++ (i ++ j))))
    ∙ sym (append_assoc (((((a ++ b) ++ c) ++ d) ++ e) ++ f) g (h ++ (i ++ j)))
    ∙ sym (append_assoc ((((((a ++ b) ++ c) ++ d) ++ e) ++ f) ++ g) h (i ++ j))
    ∙ sym (append_assoc (((((((a ++ b) ++ c) ++ d) ++ e) ++ f) ++ g) ++ h) i j)

-- the clauses of the normal form are all that is written
pub all_is_normal : (names : List (List ℕ)) (home own : Option (List ℕ)) (cs : List (Lined Clause))
    → clauses_text (normal_clauses names home own (items cs)) ≡ all_text names home own cs
unfolding clauses_text normal_clauses all_text
all_is_normal names home own cs =
    let all = items cs in
    let ten = opens_of (flat_map files_in all) in
    let nine = prompt_of (flat_map prompts_in all) in
    let eight = needs_of (map (normal_need own) (flat_map needs_in all)) in
    let seven = follows_of (map (normal_pred names home) (flat_map preds_in all)) in
    let from_nine = nine ++ ten in
    let from_eight = eight ++ from_nine in
    let from_seven = seven ++ from_eight in
    let from_six = those once.CarryForward all ++ from_seven in
    let from_five = those once.Limit all ++ from_six in
    let from_four = those once.Priority all ++ from_five in
    let from_three = those once.Deadline all ++ from_four in
    let from_two = those once.Until all ++ from_three in
    let j = joined_text joined.Opens names home own cs in
    let i = joined_text joined.Prompt names home own cs in
    let h = joined_text joined.Needs names home own cs in
    let g = joined_text joined.Follows names home own cs in
    let f = flat_map (kind_text once.CarryForward) cs in
    let e = flat_map (kind_text once.Limit) cs in
    let d = flat_map (kind_text once.Priority) cs in
    let c = flat_map (kind_text once.Deadline) cs in
    let b = flat_map (kind_text once.Until) cs in
    let a = flat_map (kind_text once.At) cs in
    behind clause_text (those once.At all) from_two a (b ++ (c ++ (d ++ (e ++ (f ++ (g ++ (h ++ (i ++ j))))))))
    (kind_is once.At cs)
    (behind clause_text (those once.Until all) from_three b (c ++ (d ++ (e ++ (f ++ (g ++ (h ++ (i ++ j)))))))
    (kind_is once.Until cs)
    (behind clause_text (those once.Deadline all) from_four c (d ++ (e ++ (f ++ (g ++ (h ++ (i ++ j))))))
    (kind_is once.Deadline cs)
    (behind clause_text (those once.Priority all) from_five d (e ++ (f ++ (g ++ (h ++ (i ++ j)))))
    (kind_is once.Priority cs)
    (behind clause_text (those once.Limit all) from_six e (f ++ (g ++ (h ++ (i ++ j)))) (kind_is once.Limit cs)
    (behind clause_text (those once.CarryForward all) from_seven f (g ++ (h ++ (i ++ j)))
    (kind_is once.CarryForward cs)
    (behind clause_text seven from_eight g (h ++ (i ++ j)) (joined_follows names home own cs)
    (behind clause_text eight from_nine h (i ++ j) (joined_needs names home own cs)
    (behind clause_text nine ten i j (joined_prompts names home own cs) (joined_opens names home own cs)))))))))
    ∙ from_left a b c d e f g h i j

-- the same of a list without lines
pub all_is_printed : (names : List (List ℕ)) (home own : Option (List ℕ)) (cs : List (Lined Clause))
    → clauses_text (items (all_unlined (normal_clauses names home own (items cs)))) ≡ all_text names home own cs
all_is_printed names home own cs =
    ap (λ xs. clauses_text xs) (items_unlined (normal_clauses names home own (items cs))) ∙ all_is_normal names home own cs
