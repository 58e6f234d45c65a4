-- What is known of each value that a grammar gives to good tokens.
use Rattle.std.proofs.Common.{◌≡◌, inl, inr, Bool, true, List, [], ◌∷◌, ◌++◌, sym, subst}
use Rattle.composer_parser.specs.Kinds.{Kind, Spelled, is}
use Rattle.composer_parser.specs.Grammars.{Grammar, nothing, one, left_out, both, either, many, Spells, Pieces}
use Rattle.composer_parser.specs.Parts.{any_number, with_commas}
use Rattle.composer_laws.specs.Written.{Each, IsList}
use Rattle.composer_laws.proofs.Good.{Good}

pub record Keeps {C : Type 0} (g : Grammar C) (P : C → Type 0) : Type 0 where
  pub holds : (ts : List Spelled) → Each Good ts → (x : C) → Spells g ts x → P x

pub each_cut : {A : Type 0} (P : A → Type 0) (xs ys : List A) → Each P (xs ++ ys) → Each P xs × Each P ys
each_cut P [] ys h = (tt, h)
each_cut P (x ∷ xs) ys h = let more = each_cut P xs ys h.1 in ((h.0, more.0), more.1)

pub each_put : {A : Type 0} (P : A → Type 0) (xs : List A) (y : A) → Each P xs → P y → Each P (xs ++ y ∷ [])
each_put P [] y h k = (k, tt)
each_put P (x ∷ xs) y h k = (h.0, each_put P xs y h.1 k)

pub kept_made : {C : Type 0} {P : C → Type 0} {c : C} → P c → Keeps (nothing c) P
kept_made {P = P} h = record { holds = λ ts good x s. subst P (sym s.1) h }

pub kept_one : {C : Type 0} {P : C → Type 0} (k : Kind) (f : Spelled → C)
    → ((t : Spelled) → Good t → is k t ≡ true → P (f t)) → Keeps (one k f) P
kept_one {C = C} {P = P} k f h = record { holds = λ ts good x s. single ts good x s }
  where
    single : (ts : List Spelled) → Each Good ts → (x : C) → Spells (one k f) ts x → P x
    single ts good x (t, all, ok, e) =
        let here : Each Good (t ∷ []) = subst (λ (us : List Spelled). Each Good us) all good in
        subst P (sym e) (h t here.0 ok)

pub kept_left_out : {C : Type 0} {P : C → Type 0} {k : Kind} → Keeps (left_out {C = C} k) P
kept_left_out = record { holds = λ ts good x s. absurd s }

pub kept_both : {A B C : Type 0} {P : A → Type 0} {Q : B → Type 0} {R : C → Type 0} {f : A → B → C} {g : Grammar A}
    {h : Grammar B} → Keeps g P → Keeps h Q → ((a : A) (b : B) → P a → Q b → R (f a b)) → Keeps (both f g h) R
kept_both {C = C} {R = R} {f = f} {g = g} {h = h} p q make = record { holds = λ ts good x s. by_parts ts good x s }
  where
    by_parts : (ts : List Spelled) → Each Good ts → (x : C) → Spells (both f g h) ts x → R x
    by_parts ts good x (xs, ys, a, b, cut, first, second, e) =
        let parts = each_cut Good xs ys (subst (λ (us : List Spelled). Each Good us) cut good) in
        subst R (sym e) (make a b (p.holds xs parts.0 a first) (q.holds ys parts.1 b second))

pub kept_app : {A B : Type 0} {P : A → Type 0} {R : B → Type 0} {g : Grammar (A → B)} {h : Grammar A}
    → Keeps g (λ p. (q : A) → P q → R (p q)) → Keeps h P → Keeps (both (λ f v. f v) g h) R
kept_app p q = kept_both p q (λ f v k a. k v a)

pub kept_any : {C : Type 0} {g : Grammar C} → Keeps g (λ x. Unit {0})
kept_any = record { holds = λ ts good x s. tt }

pub kept_skip : {A B : Type 0} {R : A → Type 0} {g : Grammar A} {h : Grammar B} → Keeps g R → Keeps (both (λ v w. v) g h) R
kept_skip p = kept_both p kept_any (λ a b k u. k)

pub kept_or : {C : Type 0} {P : C → Type 0} {g h : Grammar C} → Keeps g P → Keeps h P → Keeps (either g h) P
kept_or {C = C} {P = P} {g = g} {h = h} p q = record { holds = λ ts good x s. by_side ts good x s }
  where
    by_side : (ts : List Spelled) → Each Good ts → (x : C) → Spells (either g h) ts x → P x
    by_side ts good x (inl s) = p.holds ts good x s
    by_side ts good x (inr s) = q.holds ts good x s

pub kept_more : {C : Type 0} {P Q : C → Type 0} {g : Grammar C} → Keeps g P → ((x : C) → P x → Q x) → Keeps g Q
kept_more p h = record { holds = λ ts good x s. h x (p.holds ts good x s) }

kept_pieces : {S A : Type 0} (after : S → A → S) (may : S → Spelled → Bool) (g : Grammar A) (I : S → Type 0)
    → ((s : S) (t : Spelled) (xs : List Spelled) (a : A) → I s → may s t ≡ true → Each Good (t ∷ xs) → Spells g (t ∷ xs) a → I (after s a))
    → (values : List A) (s last : S) (ts : List Spelled) → Each Good ts → I s
    → Pieces after may (λ xs a. Spells g xs a) s ts values last → I last
kept_pieces after may g I step [] s last ts good h (none, e) = subst I (sym e) h
kept_pieces after may g I step (a ∷ values) s last ts good h (t, xs, ys, cut, ok, piece, more) =
    let parts = each_cut Good (t ∷ xs) ys (subst (λ (us : List Spelled). Each Good us) cut good) in
    kept_pieces after may g I step values (after s a) last ys parts.1 (step s t xs a h ok parts.0 piece) more

pub kept_many_by : {S A C : Type 0} {R : C → Type 0} {after : S → A → S} {may : S → Spelled → Bool} {g : Grammar A}
    (s : S) (f : S → C) (I : S → Type 0) → I s
    → ((st : S) (t : Spelled) (xs : List Spelled) (a : A) → I st → may st t ≡ true → Each Good (t ∷ xs) → Spells g (t ∷ xs) a → I (after st a))
    → ((st : S) → I st → R (f st)) → Keeps (many s after may g f) R
kept_many_by {C = C} {R = R} {after = after} {may = may} {g = g} s f I start step make = record { holds = λ ts good x q. by_pieces ts good x q }
  where
    by_pieces : (ts : List Spelled) → Each Good ts → (x : C) → Spells (many s after may g f) ts x → R x
    by_pieces ts good x (values, last, pieces, e) =
        subst R (sym e) (make last (kept_pieces after may g I step values s last ts good start pieces))

pub kept_many : {S A C : Type 0} {P : A → Type 0} {R : C → Type 0} {after : S → A → S} {may : S → Spelled → Bool}
    {g : Grammar A} (s : S) (f : S → C) (I : S → Type 0) → I s → Keeps g P → ((st : S) (a : A) → I st → P a → I (after st a))
    → ((st : S) → I st → R (f st)) → Keeps (many s after may g f) R
kept_many s f I start p step make =
    kept_many_by s f I start (λ st t xs a h ok good piece. step st a h (p.holds (t ∷ xs) good a piece)) make

pub kept_list : {A : Type 0} {g : Grammar A} (P : A → Type 0) → Keeps g P → Keeps (any_number g) (λ xs. Each P xs)
kept_list P p = kept_many [] (λ xs. xs) (λ xs. Each P xs) tt p (λ xs a h k. each_put P xs a h k) (λ xs h. h)

pub kept_commas : {A : Type 0} {g h : Grammar A} (P : A → Type 0) → Keeps g P → Keeps h P → Keeps (with_commas g h) (λ xs. IsList P xs)
kept_commas P p q = kept_app (kept_app (kept_made (λ a k more e. (k, e))) p) (kept_list P q)
