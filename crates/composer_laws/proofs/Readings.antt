-- Bytes that are read by a grammar as a value of which something is known, whatever lines it stands on.
use Rattle.std.proofs.Common.{◌≡◌, inl, inr, ℕ, Bool, true, false, List, [], ◌∷◌, ◌++◌, map, refl, ap, sym, subst, ◌∙◌, append-nil, append_assoc}
use Rattle.composer_parser.specs.Kinds.{Kind, Shape, Spelled, shape_is}
use Rattle.composer_parser.specs.Grammars.{Grammar, nothing, one, both, either, many, Spells, Pieces}
use Rattle.composer_parser.specs.Reading.{empty}
use Rattle.composer_parser.proofs.Firsts.{empty_sentence}
use Rattle.composer_laws.proofs.Phrases.{Phrase, empty_phrase, joined, same_phrase, line_end}

abbrev pub shapes_of : List Spelled → List Shape
shapes_of ts = map (λ t. t.shape) ts

pub record Reads {C : Type 0} (from to : Bool) (g : Grammar C) (bytes : List ℕ) (Is : C → Type 0) : Type 0 where
  pub shapes : List Shape
  pub phrase : Phrase from to bytes shapes
  pub value : (us : List Spelled) → shapes_of us ≡ shapes → (x : C) × Spells g us x × Is x

pub nothing_reads : {C : Type 0} {Is : C → Type 0} (at : Bool) (c : C) → Is c → Reads at at (nothing c) [] Is
nothing_reads at c h = record { shapes = []; phrase = empty_phrase at; value = λ us e. (c, (none us e, refl), h) }
  where
    none : (us : List Spelled) → shapes_of us ≡ [] → us ≡ []
    none [] e = refl
    none (u ∷ us) e = cc

pub one_reads : {C : Type 0} {Is : C → Type 0} {from to : Bool} {bytes : List ℕ} (k : Kind) (f : Spelled → C) (s : Shape)
    → Phrase from to bytes (s ∷ []) → shape_is k s ≡ true → ((line : ℕ) → Is (f (record { line = line; shape = s })))
    → Reads from to (one k f) bytes Is
one_reads {C = C} {Is = Is} k f s p ok h = record { shapes = s ∷ []; phrase = p; value = single }
  where
    at_line : (u : Spelled) → u.shape ≡ s → (x : C) × Spells (one k f) (u ∷ []) x × Is x
    at_line u e =
        let P : Shape → Type 0 = λ z. Is (f (record { line = u.line; shape = z })) in
        (f u, (u, refl, ap (λ z. shape_is k z) e ∙ ok, refl), subst P (sym e) (h u.line))

    single : (us : List Spelled) → shapes_of us ≡ s ∷ [] → (x : C) × Spells (one k f) us x × Is x
    single [] e = cc
    single (u ∷ []) e = let same : u.shape ≡ s = cc in at_line u same
    single (u ∷ v ∷ us) e = cc

-- tokens that are cut where their shapes are
pub parted : (us : List Spelled) (s t : List Shape) → shapes_of us ≡ s ++ t
    → (xs : List Spelled) × (ys : List Spelled) × (us ≡ xs ++ ys) × (shapes_of xs ≡ s) × (shapes_of ys ≡ t)
parted us [] t e = ([], us, refl, refl, e)
parted [] (x ∷ s) t e = cc
parted (u ∷ us) (x ∷ s) t e =
    let head : u.shape ≡ x = cc in
    let tail : shapes_of us ≡ s ++ t = cc in
    let more = parted us s t tail in
    (u ∷ more.0, more.1, ap (λ zs. u ∷ zs) more.2, (λ i. head i ∷ more.3 i), more.4)

pub both_reads : {A B C : Type 0} {P : A → Type 0} {Q : B → Type 0} {R : C → Type 0} {a b c : Bool} {x y : List ℕ}
    {f : A → B → C} {g : Grammar A} {h : Grammar B}
    → Reads a b g x P → Reads b c h y Q → ((p : A) (q : B) → P p → Q q → R (f p q)) → Reads a c (both f g h) (x ++ y) R
both_reads {C = C} {R = R} {f = f} {g = g} {h = h} left right make = record {
  shapes = left.shapes ++ right.shapes;
  phrase = joined left.phrase right.phrase;
  value = λ us e. by_parts us (parted us left.shapes right.shapes e);
}
  where
    by_parts : (us : List Spelled)
        → (xs : List Spelled) × (ys : List Spelled) × (us ≡ xs ++ ys) × (shapes_of xs ≡ left.shapes) × (shapes_of ys ≡ right.shapes)
        → (z : C) × Spells (both f g h) us z × R z
    by_parts us (xs, ys, cut, first, second) =
        let p = left.value xs first in
        let q = right.value ys second in
        (f p.0 q.0, (xs, ys, p.0, q.0, cut, p.1, q.1, refl), make p.0 q.0 p.2 q.2)

pub left_reads : {C : Type 0} {R : C → Type 0} {a b : Bool} {x : List ℕ} {g h : Grammar C} → Reads a b g x R
    → Reads a b (either g h) x R
left_reads p = record {
  shapes = p.shapes;
  phrase = p.phrase;
  value = λ us e. let v = p.value us e in (v.0, inl v.1, v.2);
}

pub right_reads : {C : Type 0} {R : C → Type 0} {a b : Bool} {x : List ℕ} {g h : Grammar C} → Reads a b h x R
    → Reads a b (either g h) x R
right_reads p = record {
  shapes = p.shapes;
  phrase = p.phrase;
  value = λ us e. let v = p.value us e in (v.0, inr v.1, v.2);
}

-- the same bytes, and another fact
pub same_reads : {C : Type 0} {R : C → Type 0} {a b : Bool} {x y : List ℕ} {g : Grammar C} → x ≡ y → Reads a b g x R
    → Reads a b g y R
same_reads e p = record { shapes = p.shapes; phrase = same_phrase e p.phrase; value = p.value }

pub weaker : {C : Type 0} {P Q : C → Type 0} {a b : Bool} {x : List ℕ} {g : Grammar C} → Reads a b g x P
    → ((c : C) → P c → Q c) → Reads a b g x Q
weaker p h = record {
  shapes = p.shapes;
  phrase = p.phrase;
  value = λ us e. let v = p.value us e in (v.0, v.1, h v.0 v.2);
}

-- the same, with the shape of the first token
pub record Opens {C : Type 0} (from to : Bool) (g : Grammar C) (bytes : List ℕ) (first : Shape) (Is : C → Type 0) : Type 0 where
  pub more : List Shape
  pub phrase : Phrase from to bytes (first ∷ more)
  pub value : (us : List Spelled) → shapes_of us ≡ first ∷ more → (x : C) × Spells g us x × Is x

-- one token, behind what is made
pub opens : {A C : Type 0} {Is : C → Type 0} {from to : Bool} {bytes : List ℕ} {c : A → C} (k : Kind) (f : Spelled → A)
    (s : Shape) → Phrase from to bytes (s ∷ []) → shape_is k s ≡ true
    → ((line : ℕ) → Is (c (f (record { line = line; shape = s }))))
    → Opens from to (both (λ g v. g v) (nothing c) (one k f)) bytes s Is
opens {C = C} {Is = Is} {c = c} k f s p ok h = record { more = []; phrase = p; value = single }
  where
    at_line : (u : Spelled) → u.shape ≡ s → (x : C) × Spells (both (λ g v. g v) (nothing c) (one k f)) (u ∷ []) x × Is x
    at_line u e =
        let P : Shape → Type 0 = λ z. Is (c (f (record { line = u.line; shape = z }))) in
        (c (f u), ([], u ∷ [], c, f u, refl, (refl, refl), (u, refl, ap (λ z. shape_is k z) e ∙ ok, refl), refl), subst P (sym e) (h u.line))

    single : (us : List Spelled) → shapes_of us ≡ s ∷ [] → (x : C) × Spells (both (λ g v. g v) (nothing c) (one k f)) us x × Is x
    single [] e = cc
    single (u ∷ []) e = let same : u.shape ≡ s = cc in at_line u same
    single (u ∷ v ∷ us) e = cc

pub app_opens : {A B : Type 0} {P : A → Type 0} {R : B → Type 0} {a b c : Bool} {x y : List ℕ} {g : Grammar (A → B)}
    {h : Grammar A} {s : Shape} → Opens a b g x s (λ p. (q : A) → P q → R (p q)) → Reads b c h y P
    → Opens a c (both (λ f v. f v) g h) (x ++ y) s R
app_opens {A = A} {B = B} {P = P} {R = R} {g = g} {h = h} {s = s} left right = record {
  more = left.more ++ right.shapes;
  phrase = joined left.phrase right.phrase;
  value = λ us e. by_parts us (parted us (s ∷ left.more) right.shapes e);
}
  where
    by_parts : (us : List Spelled)
        → (xs : List Spelled) × (ys : List Spelled) × (us ≡ xs ++ ys) × (shapes_of xs ≡ s ∷ left.more) × (shapes_of ys ≡ right.shapes)
        → (z : B) × Spells (both (λ f v. f v) g h) us z × R z
    by_parts us (xs, ys, cut, first, second) =
        let p = left.value xs first in
        let q = right.value ys second in
        (p.0 q.0, (xs, ys, p.0, q.0, cut, p.1, q.1, refl), p.2 q.0 q.2)

pub skip_opens : {A B : Type 0} {Q : B → Type 0} {R : A → Type 0} {a b c : Bool} {x y : List ℕ} {g : Grammar A}
    {h : Grammar B} {s : Shape} → Opens a b g x s R → Reads b c h y Q → Opens a c (both (λ v w. v) g h) (x ++ y) s R
skip_opens {A = A} {B = B} {R = R} {g = g} {h = h} {s = s} left right = record {
  more = left.more ++ right.shapes;
  phrase = joined left.phrase right.phrase;
  value = λ us e. by_parts us (parted us (s ∷ left.more) right.shapes e);
}
  where
    by_parts : (us : List Spelled)
        → (xs : List Spelled) × (ys : List Spelled) × (us ≡ xs ++ ys) × (shapes_of xs ≡ s ∷ left.more) × (shapes_of ys ≡ right.shapes)
        → (z : A) × Spells (both (λ v w. v) g h) us z × R z
    by_parts us (xs, ys, cut, first, second) =
        let p = left.value xs first in
        let q = right.value ys second in
        (p.0, (xs, ys, p.0, q.0, cut, p.1, q.1, refl), p.2)

pub left_opens : {C : Type 0} {R : C → Type 0} {a b : Bool} {x : List ℕ} {g h : Grammar C} {s : Shape} → Opens a b g x s R
    → Opens a b (either g h) x s R
left_opens p = record {
  more = p.more;
  phrase = p.phrase;
  value = λ us e. let v = p.value us e in (v.0, inl v.1, v.2);
}

pub right_opens : {C : Type 0} {R : C → Type 0} {a b : Bool} {x : List ℕ} {g h : Grammar C} {s : Shape} → Opens a b h x s R
    → Opens a b (either g h) x s R
right_opens p = record {
  more = p.more;
  phrase = p.phrase;
  value = λ us e. let v = p.value us e in (v.0, inr v.1, v.2);
}

-- Pieces that lead from each state of which one thing is known to a state of which another is.
pub record Runs {S A : Type 0} (from to : Bool) (after : S → A → S) (may : S → Spelled → Bool) (g : Grammar A)
    (P : S → Type 0) (bytes : List ℕ) (Q : S → Type 0) : Type 0 where
  pub shapes : List Shape
  pub phrase : Phrase from to bytes shapes
  pub value : (us : List Spelled) → shapes_of us ≡ shapes → (s : S) → P s
      → (values : List A) × (last : S) × Pieces after may (λ xs a. Spells g xs a) s us values last × Q last

pub no_runs : {S A : Type 0} {at : Bool} {after : S → A → S} {may : S → Spelled → Bool} {g : Grammar A} {P : S → Type 0}
    → Runs at at after may g P [] P
no_runs {at = at} = record {
  shapes = [];
  phrase = empty_phrase at;
  value = λ us e s h. ([], s, (none us e, refl), h);
}
  where
    none : (us : List Spelled) → shapes_of us ≡ [] → us ≡ []
    none [] e = refl
    none (u ∷ us) e = cc

-- one piece, whose first token has this shape
pub one_run : {S A : Type 0} {a b : Bool} {x : List ℕ} {after : S → A → S} {may : S → Spelled → Bool} {g : Grammar A}
    {P Q : S → Type 0} {R : A → Type 0} {s : Shape} → Opens a b g x s R
    → ((st : S) (v : A) → P st → R v → Q (after st v))
    → ((st : S) (line : ℕ) → P st → may st (record { line = line; shape = s }) ≡ true)
    → Runs a b after may g P x Q
one_run {S = S} {A = A} {after = after} {may = may} {g = g} {P = P} {Q = Q} {s = s} p next ok = record {
  shapes = s ∷ p.more;
  phrase = p.phrase;
  value = λ us e st h. by_tokens us e st h;
}
  where
    by_tokens : (us : List Spelled) → shapes_of us ≡ s ∷ p.more → (st : S) → P st
        → (values : List A) × (last : S) × Pieces after may (λ xs v. Spells g xs v) st us values last × Q last
    by_tokens [] e st h = cc
    by_tokens (u ∷ us) e st h =
        let same : u.shape ≡ s = cc in
        let v = p.value (u ∷ us) e in
        let T : Shape → Type 0 = λ z. may st (record { line = u.line; shape = z }) ≡ true in (
          v.0 ∷ [],
          after st v.0,
          (u, us, [], sym (append-nil (u ∷ us)), subst T (sym same) (ok st u.line h), v.1, (refl, refl)),
          next st v.0 h v.2,
        )

-- one piece, which may stand anywhere
pub any_run : {S A : Type 0} {a b : Bool} {x : List ℕ} {after : S → A → S} {may : S → Spelled → Bool} {g : Grammar A}
    {P Q : S → Type 0} {R : A → Type 0} → Reads a b g x R → empty g ≡ false
    → ((st : S) (v : A) → P st → R v → Q (after st v)) → ((st : S) (t : Spelled) → may st t ≡ true)
    → Runs a b after may g P x Q
any_run {S = S} {A = A} {after = after} {may = may} {g = g} {P = P} {Q = Q} p some next ok = record {
  shapes = p.shapes;
  phrase = p.phrase;
  value = λ us e st h. by_tokens us e st h;
}
  where
    by_tokens : (us : List Spelled) → shapes_of us ≡ p.shapes → (st : S) → P st
        → (values : List A) × (last : S) × Pieces after may (λ xs v. Spells g xs v) st us values last × Q last
    by_tokens [] e st h =
        let v = p.value [] e in let no : empty g ≡ true = empty_sentence g [] v.0 refl v.1 in cc
    by_tokens (u ∷ us) e st h =
        let v = p.value (u ∷ us) e in (
          v.0 ∷ [],
          after st v.0,
          (u, us, [], sym (append-nil (u ∷ us)), ok st u, v.1, (refl, refl)),
          next st v.0 h v.2,
        )

linked : {S A : Type 0} (after : S → A → S) (may : S → Spelled → Bool) (Piece : List Spelled → A → Type 0)
    (st mid last : S) (xs ys : List Spelled) (vs ws : List A) → Pieces after may Piece st xs vs mid
    → Pieces after may Piece mid ys ws last → Pieces after may Piece st (xs ++ ys) (vs ++ ws) last
linked {S = S} after may Piece st mid last xs ys [] ws (none, same) more =
    let T : S → Type 0 = λ z. Pieces after may Piece z (xs ++ ys) ws last in
    let U : List Spelled → Type 0 = λ zs. Pieces after may Piece mid (zs ++ ys) ws last in
    subst T same (subst U (sym none) more)
linked after may Piece st mid last xs ys (v ∷ vs) ws (t, zs, left, cut, ok, piece, others) more = (
  t,
  zs,
  left ++ ys,
  ap (λ us. us ++ ys) cut ∙ append_assoc (t ∷ zs) left ys,
  ok,
  piece,
  linked after may Piece (after st v) mid last left ys vs ws others more,
)

pub more_runs : {S A : Type 0} {a b c : Bool} {x y : List ℕ} {after : S → A → S} {may : S → Spelled → Bool} {g : Grammar A}
    {P Q R : S → Type 0} → Runs a b after may g P x Q → Runs b c after may g Q y R → Runs a c after may g P (x ++ y) R
more_runs {S = S} {A = A} {after = after} {may = may} {g = g} {P = P} {R = R} p q = record {
  shapes = p.shapes ++ q.shapes;
  phrase = joined p.phrase q.phrase;
  value = λ us e st h. by_parts us st h (parted us p.shapes q.shapes e);
}
  where
    by_parts : (us : List Spelled) (st : S) → P st
        → (xs : List Spelled) × (ys : List Spelled) × (us ≡ xs ++ ys) × (shapes_of xs ≡ p.shapes) × (shapes_of ys ≡ q.shapes)
        → (values : List A) × (last : S) × Pieces after may (λ xs v. Spells g xs v) st us values last × R last
    by_parts us st h (xs, ys, cut, first, second) =
        let v = p.value xs first st h in
        let w = q.value ys second v.1 v.3 in
        let T : List Spelled → Type 0 = λ zs. Pieces after may (λ us1 v1. Spells g us1 v1) st zs (v.0 ++ w.0) w.1 in
        (v.0 ++ w.0, w.1, subst T (sym cut) (linked after may (λ us1 v1. Spells g us1 v1) st v.1 w.1 xs ys v.0 w.0 v.2 w.2), w.3)

pub many_reads : {S A C : Type 0} {a b : Bool} {x : List ℕ} {after : S → A → S} {may : S → Spelled → Bool} {g : Grammar A}
    {P Q : S → Type 0} {R : C → Type 0} (s : S) (f : S → C) → Runs a b after may g P x Q → P s
    → ((last : S) → Q last → R (f last)) → Reads a b (many s after may g f) x R
many_reads s f p h make = record {
  shapes = p.shapes;
  phrase = p.phrase;
  value = λ us e. let v = p.value us e s h in (f v.1, (v.0, v.1, v.2, refl), make v.1 v.3);
}

-- the same, with the end of the line
pub ended : {C : Type 0} {R : C → Type 0} {a : Bool} {x : List ℕ} {g : Grammar C} → Reads a false g x R
    → Reads a true g (x ++ 10 ∷ []) R
ended {a = a} {x = x} p = record {
  shapes = p.shapes;
  phrase =
      let P : List Shape → Type 0 = λ s. Phrase a true (x ++ 10 ∷ []) s in
      subst P (append-nil p.shapes) (joined p.phrase line_end);
  value = p.value;
}

-- a production: what is made is given one value after the other, or passes over what has none
pub made_reads : {C : Type 0} {Is : C → Type 0} (at : Bool) {c : C} → Is c → Reads at at (nothing c) [] Is
made_reads at {c = c} h = nothing_reads at c h

pub app : {A B : Type 0} {P : A → Type 0} {R : B → Type 0} {a b c : Bool} {x y : List ℕ} {g : Grammar (A → B)}
    {h : Grammar A} → Reads a b g x (λ p. (q : A) → P q → R (p q)) → Reads b c h y P
    → Reads a c (both (λ f v. f v) g h) (x ++ y) R
app left right = both_reads left right (λ p q k v. k q v)

pub skip : {A B : Type 0} {Q : B → Type 0} {R : A → Type 0} {a b c : Bool} {x y : List ℕ} {g : Grammar A} {h : Grammar B}
    → Reads a b g x R → Reads b c h y Q → Reads a c (both (λ v w. v) g h) (x ++ y) R
skip left right = both_reads left right (λ p q k v. k)

-- the same, with the bytes written otherwise
pub as_text : {C : Type 0} {R : C → Type 0} {a b : Bool} {x y : List ℕ} {g : Grammar C} → Reads a b g x R → x ≡ y
    → Reads a b g y R
as_text p e = same_reads e p

pub runs_to : {S A : Type 0} {a b : Bool} {x : List ℕ} {after : S → A → S} {may : S → Spelled → Bool} {g : Grammar A}
    {P Q R : S → Type 0} → Runs a b after may g P x Q → ((st : S) → Q st → R st) → Runs a b after may g P x R
runs_to p h = record {
  shapes = p.shapes;
  phrase = p.phrase;
  value = λ us e st k. let v = p.value us e st k in (v.0, v.1, v.2, h v.1 v.3);
}
