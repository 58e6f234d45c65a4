-- What is chosen of clauses that were chosen before.
use Rattle.std.proofs.Common.{◌≡◌, ℕ, Bool, true, false, cond, eqb, not, List, [], ◌∷◌, ◌++◌, filter, flat_map, refl}
use Rattle.std.proofs.Common.{ap, sym, ◌∙◌, append-nil}
use Rattle.lemmas.proofs.Numbers.{number_tells}
use Rattle.composer_parser.specs.declared.clauses.Clause.{Clause}
use Rattle.composer_parser.specs.declared.clauses.Clause.TheVariants.{At, Until, Deadline, Priority, Limit, CarryForward, Follows, Needs, Prompt, Opens}
use Rattle.composer_parser.specs.declared.clauses.Pred.{Pred}
use Rattle.composer_parser.specs.declared.clauses.Need.{Need}
use Rattle.composer_parser.specs.declared.clauses.PromptItem.{PromptItem}
use Rattle.composer_print.specs.declared.kinds.Once.{Once}
use Rattle.composer_print.specs.declared.kinds.Once.TheVariants as once
use Rattle.composer_print.specs.Scopes.{is_of, those, preds_in, needs_in, prompts_in, files_in, follows_of, needs_of, prompt_of, opens_of}

-- the kinds by numbers
abbrev pub number : Once → ℕ
number once.At = 0
number once.Until = 1
number once.Deadline = 2
number once.Priority = 3
number once.Limit = 4
number once.CarryForward = 5

abbrev pub class_no : Clause → ℕ
class_no (At t d) = 0
class_no (Until t d u) = 1
class_no (Deadline t d) = 2
class_no (Priority n) = cond (eqb n 10) 10 3
class_no (Limit n) = 4
class_no CarryForward = 5
class_no (Follows ps) = 6
class_no (Needs ns) = 7
class_no (Prompt ps) = 8
class_no (Opens fs) = 9

default_or : (b : Bool) → not b ≡ eqb (cond b 10 3) 3
default_or true = refl
default_or false = refl

no_default : (b : Bool) (k : ℕ) → eqb 10 k ≡ false → eqb 3 k ≡ false → false ≡ eqb (cond b 10 3) k
no_default true k p q = sym p
no_default false k p q = sym q

is_number : (k : Once) (c : Clause) → is_of k c ≡ eqb (class_no c) (number k)
unfolding is_of
is_number once.Priority (Priority n) = default_or (eqb n 10)
is_number once.At (Priority n) = no_default (eqb n 10) 0 refl refl
is_number once.Until (Priority n) = no_default (eqb n 10) 1 refl refl
is_number once.Deadline (Priority n) = no_default (eqb n 10) 2 refl refl
is_number once.Limit (Priority n) = no_default (eqb n 10) 4 refl refl
is_number once.CarryForward (Priority n) = no_default (eqb n 10) 5 refl refl
is_number k c = refl

-- a clause of one kind is of another where the kinds are one
told : (k j : Once) (c : Clause) → is_of j c ≡ true → is_of k c ≡ eqb (number j) (number k)
told k j c h =
    is_number k c
    ∙ ap (λ n. eqb n (number k)) (number_tells (class_no c) (number j) (sym (is_number j c) ∙ h))

kept_by : (k : Once) (c : Clause) (cs : List Clause) (b : Bool) → is_of k c ≡ b
    → filter (is_of k) (c ∷ cs) ≡ cond b (c ∷ filter (is_of k) cs) (filter (is_of k) cs)
kept_by k c cs b h = rw h refl

pushed : (c : Clause) (b : Bool) (cs : List Clause) → cond b (c ∷ cond b cs []) (cond b cs []) ≡ cond b (c ∷ cs) []
pushed c true cs = refl
pushed c false cs = refl

either_way : (b : Bool) (cs : List Clause) → cs ≡ cond b cs cs
either_way true cs = refl
either_way false cs = refl

pub pick : (k j : Once) (cs : List Clause) → those k (those j cs) ≡ cond (eqb (number j) (number k)) (those j cs) []
pick k j [] = either_way (eqb (number j) (number k)) []
pick k j (c ∷ cs) = by_test (is_of j c) refl (pick k j cs)
  where
    by_test : (b : Bool) → is_of j c ≡ b
        → those k (those j cs) ≡ cond (eqb (number j) (number k)) (those j cs) []
        → those k (those j (c ∷ cs)) ≡ cond (eqb (number j) (number k)) (those j (c ∷ cs)) []
    by_test true h rec =
        ap (λ xs. those k xs) (kept_by j c cs true h)
        ∙ kept_by k c (those j cs) (eqb (number j) (number k)) (told k j c h)
        ∙ ap (λ xs. cond (eqb (number j) (number k)) (c ∷ xs) xs) rec
        ∙ pushed c (eqb (number j) (number k)) (those j cs)
        ∙ ap (λ xs. cond (eqb (number j) (number k)) xs []) (sym (kept_by j c cs true h))
    by_test false h rec =
        ap (λ xs. those k xs) (kept_by j c cs false h) ∙ rec
        ∙ ap (λ xs. cond (eqb (number j) (number k)) xs []) (sym (kept_by j c cs false h))

-- what stands in lists is of no kind that stands once
pub no_follows : (k : Once) (ps : List Pred) → those k (follows_of ps) ≡ []
unfolding is_of
no_follows once.At (p ∷ ps) = refl
no_follows k [] = refl
no_follows k (p ∷ ps) = refl

pub no_needs : (k : Once) (ns : List Need) → those k (needs_of ns) ≡ []
unfolding is_of
no_needs once.At (n ∷ ns) = refl
no_needs k [] = refl
no_needs k (n ∷ ns) = refl

pub no_prompts : (k : Once) (ps : List PromptItem) → those k (prompt_of ps) ≡ []
unfolding is_of
no_prompts once.At (p ∷ ps) = refl
no_prompts k [] = refl
no_prompts k (p ∷ ps) = refl

pub no_opens : (k : Once) (fs : List (List ℕ)) → those k (opens_of fs) ≡ []
unfolding is_of
no_opens once.At (f ∷ fs) = refl
no_opens k [] = refl
no_opens k (f ∷ fs) = refl

-- and what stands once names nothing of a list
nothing_in : {A : Type 0} (g : Clause → List A) (k : Once) → ((c : Clause) → is_of k c ≡ true → g c ≡ [])
    → (cs : List Clause) → flat_map g (those k cs) ≡ []
nothing_in g k none [] = refl
nothing_in {A = A} g k none (c ∷ cs) = by_test (is_of k c) refl (nothing_in g k none cs)
  where
    by_test : (b : Bool) → is_of k c ≡ b → flat_map g (those k cs) ≡ [] → flat_map g (those k (c ∷ cs)) ≡ []
    by_test true h rec =
        ap (λ xs. flat_map g xs) (kept_by k c cs true h) ∙ ap (λ xs. xs ++ flat_map g (those k cs)) (none c h) ∙ rec
    by_test false h rec = ap (λ xs. flat_map g xs) (kept_by k c cs false h) ∙ rec

once_preds : (k : Once) (c : Clause) → is_of k c ≡ true → preds_in c ≡ []
unfolding is_of preds_in
once_preds once.At (Follows ps) h = cc
once_preds k (Follows ps) h = cc
once_preds k c h = refl

once_needs : (k : Once) (c : Clause) → is_of k c ≡ true → needs_in c ≡ []
unfolding is_of needs_in
once_needs once.At (Needs ns) h = cc
once_needs k (Needs ns) h = cc
once_needs k c h = refl

once_prompts : (k : Once) (c : Clause) → is_of k c ≡ true → prompts_in c ≡ []
unfolding is_of prompts_in
once_prompts once.At (Prompt ps) h = cc
once_prompts k (Prompt ps) h = cc
once_prompts k c h = refl

once_files : (k : Once) (c : Clause) → is_of k c ≡ true → files_in c ≡ []
unfolding is_of files_in
once_files once.At (Opens fs) h = cc
once_files k (Opens fs) h = cc
once_files k c h = refl

pub preds_once : (k : Once) (cs : List Clause) → flat_map preds_in (those k cs) ≡ []
preds_once k cs = nothing_in preds_in k (once_preds k) cs

pub needs_once : (k : Once) (cs : List Clause) → flat_map needs_in (those k cs) ≡ []
needs_once k cs = nothing_in needs_in k (once_needs k) cs

pub prompts_once : (k : Once) (cs : List Clause) → flat_map prompts_in (those k cs) ≡ []
prompts_once k cs = nothing_in prompts_in k (once_prompts k) cs

pub files_once : (k : Once) (cs : List Clause) → flat_map files_in (those k cs) ≡ []
files_once k cs = nothing_in files_in k (once_files k) cs

-- what the joined clauses name
pub preds_follows : (ps : List Pred) → flat_map preds_in (follows_of ps) ≡ ps
unfolding preds_in
preds_follows [] = refl
preds_follows (p ∷ ps) = append-nil (p ∷ ps)

pub preds_needs : (ns : List Need) → flat_map preds_in (needs_of ns) ≡ []
unfolding preds_in
preds_needs [] = refl
preds_needs (n ∷ ns) = refl

pub preds_prompts : (ps : List PromptItem) → flat_map preds_in (prompt_of ps) ≡ []
unfolding preds_in
preds_prompts [] = refl
preds_prompts (p ∷ ps) = refl

pub preds_opens : (fs : List (List ℕ)) → flat_map preds_in (opens_of fs) ≡ []
unfolding preds_in
preds_opens [] = refl
preds_opens (f ∷ fs) = refl

pub needs_follows : (ps : List Pred) → flat_map needs_in (follows_of ps) ≡ []
unfolding needs_in
needs_follows [] = refl
needs_follows (p ∷ ps) = refl

pub needs_needs : (ns : List Need) → flat_map needs_in (needs_of ns) ≡ ns
unfolding needs_in
needs_needs [] = refl
needs_needs (n ∷ ns) = append-nil (n ∷ ns)

pub needs_prompts : (ps : List PromptItem) → flat_map needs_in (prompt_of ps) ≡ []
unfolding needs_in
needs_prompts [] = refl
needs_prompts (p ∷ ps) = refl

pub needs_opens : (fs : List (List ℕ)) → flat_map needs_in (opens_of fs) ≡ []
unfolding needs_in
needs_opens [] = refl
needs_opens (f ∷ fs) = refl

pub prompts_follows : (ps : List Pred) → flat_map prompts_in (follows_of ps) ≡ []
unfolding prompts_in
prompts_follows [] = refl
prompts_follows (p ∷ ps) = refl

pub prompts_needs : (ns : List Need) → flat_map prompts_in (needs_of ns) ≡ []
unfolding prompts_in
prompts_needs [] = refl
prompts_needs (n ∷ ns) = refl

pub prompts_prompts : (ps : List PromptItem) → flat_map prompts_in (prompt_of ps) ≡ ps
unfolding prompts_in
prompts_prompts [] = refl
prompts_prompts (p ∷ ps) = append-nil (p ∷ ps)

pub prompts_opens : (fs : List (List ℕ)) → flat_map prompts_in (opens_of fs) ≡ []
unfolding prompts_in
prompts_opens [] = refl
prompts_opens (f ∷ fs) = refl

pub files_follows : (ps : List Pred) → flat_map files_in (follows_of ps) ≡ []
unfolding files_in
files_follows [] = refl
files_follows (p ∷ ps) = refl

pub files_needs : (ns : List Need) → flat_map files_in (needs_of ns) ≡ []
unfolding files_in
files_needs [] = refl
files_needs (n ∷ ns) = refl

pub files_prompts : (ps : List PromptItem) → flat_map files_in (prompt_of ps) ≡ []
unfolding files_in
files_prompts [] = refl
files_prompts (p ∷ ps) = refl

pub files_opens : (fs : List (List ℕ)) → flat_map files_in (opens_of fs) ≡ fs
unfolding files_in
files_opens [] = refl
files_opens (f ∷ fs) = append-nil (f ∷ fs)

-- a choice of ten lists one behind the other
pub ten_parts : {B : Type 0} (choose : List Clause → List B)
    → ((xs ys : List Clause) → choose (xs ++ ys) ≡ choose xs ++ choose ys)
    → (a b c d e f g h i j : List Clause) (A B1 C D E F G H I J : List B)
    → choose a ≡ A → choose b ≡ B1 → choose c ≡ C → choose d ≡ D → choose e ≡ E → choose f ≡ F → choose g ≡ G
    → choose h ≡ H → choose i ≡ I → choose j ≡ J
    → choose (a ++ (b ++ (c ++ (d ++ (e ++ (f ++ (g ++ (h ++ (i ++ j)))))))))
    ≡ A ++ (B1 ++ (C ++ (D ++ (E ++ (F ++ (G ++ (H ++ (I ++ J))))))))
ten_parts choose cuts a b c d e f g h i j A B1 C D E F G H I J pa pb pc pd pe pf pg ph pi pj =
    cuts a (b ++ (c ++ (d ++ (e ++ (f ++ (g ++ (h ++ (i ++ j))))))))
    ∙ (λ x. pa x ++ (cuts b (c ++ (d ++ (e ++ (f ++ (g ++ (h ++ (i ++ j)))))))
    ∙ (λ x. pb x ++ (cuts c (d ++ (e ++ (f ++ (g ++ (h ++ (i ++ j))))))
    ∙ (λ x. pc x ++ (cuts d (e ++ (f ++ (g ++ (h ++ (i ++ j)))))
    ∙ (λ x. pd x ++ (cuts e (f ++ (g ++ (h ++ (i ++ j))))
    ∙ (λ x. pe x ++ (cuts f (g ++ (h ++ (i ++ j)))
    ∙ (λ x. pf x ++ (cuts g (h ++ (i ++ j))
    ∙ (λ x. pg x ++ (cuts h (i ++ j)
    ∙ (λ x. ph x ++ (cuts i j ∙ (λ x. pi x ++ pj x)) x)) x)) x)) x)) x)) x)) x)) x)
