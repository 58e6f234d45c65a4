-- What is known of each value that a grammar gives, by the number of the tokens that it is given to.
use Rattle.std.proofs.Common.{◌≡◌, ◌≤◌, ◌+◌, ℕ, inl, inr, Bool, List, [], ◌∷◌, length, ap, sym, subst, ◌∙◌, arith, length-append}
use Rattle.std.specs.List.{sum_by}
use Rattle.std.proofs.lemmas.List.Sums.{sum_by_push}
use Rattle.composer_parser.specs.Kinds.{Kind, Spelled}
use Rattle.composer_parser.specs.Grammars.{Grammar, nothing, one, left_out, both, either, many, Spells, Pieces}
use Rattle.composer_parser.specs.Parts.{any_number, with_commas}

pub record Sized {C : Type 0} (g : Grammar C) (R : C → ℕ → Type 0) : Type 0 where
  pub holds : (ts : List Spelled) → (x : C) → Spells g ts x → R x (length ts)

pub sized_any : {C : Type 0} {g : Grammar C} → Sized g (λ x n. Unit {0})
sized_any = record { holds = λ ts x s. tt }

pub sized_made : {C : Type 0} {R : C → ℕ → Type 0} {c : C} → R c 0 → Sized (nothing c) R
sized_made {C = C} {R = R} h = record {
  holds = λ ts x s.
      subst (λ (us : List Spelled). R x (length us)) (sym s.0) (subst (λ (y : C). R y 0) (sym s.1) h);
}

pub sized_one : {C : Type 0} {R : C → ℕ → Type 0} {k : Kind} {f : Spelled → C} → ((t : Spelled) → R (f t) 1)
    → Sized (one k f) R
sized_one {C = C} {R = R} {k = k} {f = f} h = record { holds = λ ts x s. single ts x s }
  where
    single : (ts : List Spelled) (x : C) → Spells (one k f) ts x → R x (length ts)
    single ts x (t, all, ok, e) =
        subst (λ (us : List Spelled). R x (length us)) (sym all) (subst (λ (y : C). R y 1) (sym e) (h t))

pub sized_left_out : {C : Type 0} {R : C → ℕ → Type 0} {k : Kind} → Sized (left_out {C = C} k) R
sized_left_out = record { holds = λ ts x s. absurd s }

pub sized_both : {A B C : Type 0} {P : A → ℕ → Type 0} {Q : B → ℕ → Type 0} {R : C → ℕ → Type 0} {f : A → B → C}
    {g : Grammar A} {h : Grammar B} → Sized g P → Sized h Q
    → ((a : A) (m : ℕ) (b : B) (n : ℕ) → P a m → Q b n → R (f a b) (m + n)) → Sized (both f g h) R
sized_both {C = C} {R = R} {f = f} {g = g} {h = h} p q make = record { holds = λ ts x s. by_parts ts x s }
  where
    by_parts : (ts : List Spelled) (x : C) → Spells (both f g h) ts x → R x (length ts)
    by_parts ts x (xs, ys, a, b, cut, first, second, e) =
        let long : length ts ≡ length xs + length ys = ap (λ (us : List Spelled). length us) cut ∙ length-append xs ys in
        subst (λ (n : ℕ). R x n) (sym long)
        (subst (λ (y : C). R y (length xs + length ys)) (sym e)
        (make a (length xs) b (length ys) (p.holds xs a first) (q.holds ys b second)))

pub sized_app : {A B : Type 0} {P : A → ℕ → Type 0} {R : B → ℕ → Type 0} {g : Grammar (A → B)} {h : Grammar A}
    → Sized g (λ p m. (q : A) (n : ℕ) → P q n → R (p q) (m + n)) → Sized h P → Sized (both (λ f v. f v) g h) R
sized_app p q = sized_both p q (λ f m v n k a. k v n a)

pub sized_skip : {A B : Type 0} {P R : A → ℕ → Type 0} {g : Grammar A} {h : Grammar B} → Sized g P
    → ((a : A) (m n : ℕ) → P a m → R a (m + n)) → Sized (both (λ v w. v) g h) R
sized_skip p more = sized_both p sized_any (λ a m b n k u. more a m n k)

pub sized_or : {C : Type 0} {R : C → ℕ → Type 0} {g h : Grammar C} → Sized g R → Sized h R → Sized (either g h) R
sized_or {C = C} {R = R} {g = g} {h = h} p q = record { holds = λ ts x s. by_side ts x s }
  where
    by_side : (ts : List Spelled) (x : C) → Spells (either g h) ts x → R x (length ts)
    by_side ts x (inl s) = p.holds ts x s
    by_side ts x (inr s) = q.holds ts x s

-- a piece has one token at least
sized_pieces : {S A : Type 0} (after : S → A → S) (may : S → Spelled → Bool) (g : Grammar A) (P : A → ℕ → Type 0)
    (I : S → ℕ → Type 0) → Sized g P
    → ((s : S) (m : ℕ) (a : A) (n : ℕ) → I s m → P a n → 1 ≤ n → I (after s a) (m + n))
    → (values : List A) (s last : S) (m : ℕ) (ts : List Spelled) → I s m
    → Pieces after may (λ xs a. Spells g xs a) s ts values last → I last (m + length ts)
sized_pieces {S = S} after may g P I p step [] s last m ts h (none, e) =
    let empty : length ts ≡ 0 = ap (λ (us : List Spelled). length us) none in
    let same : m ≡ m + length ts = omega (arith, empty) in
    subst (λ (n : ℕ). I last n) same (subst (λ (st : S). I st m) (sym e) h)
sized_pieces after may g P I p step (a ∷ values) s last m ts h (t, xs, ys, cut, ok, piece, more) =
    let long : length ts ≡ length (t ∷ xs) + length ys =
    ap (λ (us : List Spelled). length us) cut ∙ length-append (t ∷ xs) ys in
    let same : (m + length (t ∷ xs)) + length ys ≡ m + length ts = omega (arith, long) in
    let some : 1 ≤ length (t ∷ xs) = omega arith in
    let here = step s m a (length (t ∷ xs)) h (p.holds (t ∷ xs) a piece) some in
    subst (λ (n : ℕ). I last n) same
    (sized_pieces after may g P I p step values (after s a) last (m + length (t ∷ xs)) ys here more)

pub sized_many : {S A C : Type 0} {P : A → ℕ → Type 0} {R : C → ℕ → Type 0} {after : S → A → S}
    {may : S → Spelled → Bool} {g : Grammar A} (s : S) (f : S → C) (I : S → ℕ → Type 0) → I s 0 → Sized g P
    → ((st : S) (m : ℕ) (a : A) (n : ℕ) → I st m → P a n → 1 ≤ n → I (after st a) (m + n))
    → ((st : S) (n : ℕ) → I st n → R (f st) n) → Sized (many s after may g f) R
sized_many {C = C} {P = P} {R = R} {after = after} {may = may} {g = g} s f I start p step make =
    record { holds = λ ts x q. by_pieces ts x q }
  where
    by_pieces : (ts : List Spelled) (x : C) → Spells (many s after may g f) ts x → R x (length ts)
    by_pieces ts x (values, last, pieces, e) =
        let all = sized_pieces after may g P I p step values s last 0 ts start pieces in
        let same : 0 + length ts ≡ length ts = omega arith in
        subst (λ (y : C). R y (length ts)) (sym e) (make last (length ts) (subst (λ (n : ℕ). I last n) same all))

-- what the items of a list weigh in all
pub sized_list : {A : Type 0} {g : Grammar A} (w : A → ℕ) → Sized g (λ a n. w a ≤ n)
    → Sized (any_number g) (λ xs n. sum_by w xs ≤ n)
sized_list w p =
    sized_many [] (λ xs. xs) (λ xs n. sum_by w xs ≤ n) (omega arith) p
    (λ xs m a n h k some. omega (arith, h, k, sum_by_push w xs a)) (λ xs n h. h)

-- how many items stand between commas
pub sized_commas : {A : Type 0} {g h : Grammar A} → Sized g (λ a n. 1 ≤ n)
    → Sized (with_commas g h) (λ xs n. length xs ≤ n)
sized_commas {A = A} p =
    sized_app (sized_app (sized_made (λ a m some more n few. omega (arith, some, few))) p) counted
  where
    counted : {h : Grammar A} → Sized (any_number h) (λ xs n. length xs ≤ n)
    counted =
        sized_many [] (λ xs. xs) (λ xs n. length xs ≤ n) (omega arith) sized_any
        (λ xs m a n few u some. omega (arith, few, some, length-append xs (a ∷ []))) (λ xs n few. few)
