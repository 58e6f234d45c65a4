-- Choices: their rows, each of which spells its own number and what stands behind it.
use Rattle.std.proofs.Common.{◌≡◌, ℕ, ◌+◌, ◌<◌, ◌≤◌, Bool, true, false, eqb, List, [], ◌∷◌, ◌++◌, length}
use Rattle.std.proofs.Common.{Option}
use Rattle.std.proofs.Common.{Some, None, Result, Ok, refl, sym, ap, subst, ◌∙◌, arith}
use Rattle.std.proofs.lemmas.Bool.{eqb-true}
use Rattle.std.specs.List.{AllByRecursion}
use Rattle.std.specs.Prelude.{IfSome}
use Rattle.model.specs.Fields.{flag_bytes, option_bytes}
use Rattle.entry_codec.specs.declared.EntryFault.{EntryFault}
use Rattle.entry_codec.specs.Read.{Reader, and_then, gives, one, two, three, four}
use Rattle.entry_codec.specs.Fields.{u8_at, row_of, behind, choice_at, flag_at, option_at, flag_rows}
use Rattle.entry_codec.specs.Fields.{option_rows}
use Rattle.entry_codec.proofs.Readers.{◌&◌, IsBytes, Stands, IsReader, within, starts, nothing, joined, split}
use Rattle.entry_codec.proofs.Readers.{IsSteady, came, step, on, same_value}
use Rattle.entry_codec.proofs.Steady.{RowsSteady, gives_steady, one_steady, choice_steady}
use Rattle.entry_codec.proofs.Pairs.{pair_reader}
use Rattle.entry_codec.proofs.Numbers.{u8_reader}

-- the spelling of a value begins with a number, and the rest of it stands there
pub record Behind {X : Type 0} (P : X → Type 0) (spell : X → List ℕ) (tag : ℕ) (x : X) (bytes : List ℕ) (p q : ℕ)
    : Type 0 where
  pub tail : List ℕ
  pub fits : P x
  pub spelled : spell x ≡ tag ∷ tail
  pub stands : Stands tail bytes p q

-- what a row reads is spelled with the row's number
pub record IsRow {X : Type 0} (P : X → Type 0) (spell : X → List ℕ) (row : ℕ × Reader X) : Type 0 where
  pub found : (bytes : List ℕ) (p : ℕ) (x : X) (q : ℕ) → IsBytes bytes → p ≤ length bytes → row.1 bytes p ≡ Ok (x, q)
      → Behind P spell row.0 x bytes p q
  pub steady : IsSteady row.1

-- rows of values that take no bytes
pub row_0 : {X : Type 0} {P : X → Type 0} {spell : X → List ℕ} (tag : ℕ) (x : X) → P x → spell x ≡ tag ∷ []
    → IsRow P spell (tag, gives x)
row_0 {X} {P} {spell} tag x fits e =
    record {
      found = λ bytes p y q is lt r. subst (λ (z : X × ℕ). Behind P spell tag z.0 bytes p z.1) (same_value r)
          (record { tail = []; fits = fits; spelled = e; stands = starts bytes p lt });
      steady = gives_steady x;
    }

-- and of one part, two, three and four
pub row_1 : {X A : Type 0} {P : X → Type 0} {spell : X → List ℕ} {Q : A → Type 0} {s : A → List ℕ} {a : Reader A}
    → IsReader Q s a → (tag : ℕ) (make : A → X) → ((x : A) → Q x → P (make x))
    → ((x : A) → spell (make x) ≡ tag ∷ s x) → IsRow P spell (tag, one a make)
row_1 {X} {A} {P} {spell} {Q} {s} {a} ra tag make fits spelled =
    record { found = go; steady = one_steady make ra.steady }
  where
    go : (bytes : List ℕ) (p : ℕ) (y : X) (q : ℕ) → IsBytes bytes → p ≤ length bytes → one a make bytes p ≡ Ok (y, q)
        → Behind P spell tag y bytes p q
    go bytes p y q is lt e =
        let u = step ra is (starts bytes p lt) e in
        subst (λ (z : X × ℕ). Behind P spell tag z.0 bytes p z.1) (same_value u.rest)
        (record { tail = s u.value; fits = fits u.value u.fits; spelled = spelled u.value; stands = u.stands })

pub row_2 : {X A B : Type 0} {P : X → Type 0} {spell : X → List ℕ} {Q : A → Type 0} {s : A → List ℕ} {a : Reader A}
    {R : B → Type 0} {t : B → List ℕ} {b : Reader B} → IsReader Q s a → IsReader R t b → (tag : ℕ) (make : A → B → X)
    → ((x : A) (y : B) → Q x → R y → P (make x y)) → ((x : A) (y : B) → spell (make x y) ≡ tag ∷ (s x ++ t y))
    → IsRow P spell (tag, two a b make)
row_2 {X} {A} {B} ra rb tag make fits spelled =
    row_1 (pair_reader ra rb) tag (λ (x : A × B). make x.0 x.1) (λ x f. fits x.0 x.1 f.0 f.1)
    (λ x. spelled x.0 x.1)

pub row_3 : {X A B C : Type 0} {P : X → Type 0} {spell : X → List ℕ} {Q : A → Type 0} {s : A → List ℕ} {a : Reader A}
    {R : B → Type 0} {t : B → List ℕ} {b : Reader B} {S : C → Type 0} {u : C → List ℕ} {c : Reader C}
    → IsReader Q s a → IsReader R t b → IsReader S u c → (tag : ℕ) (make : A → B → C → X)
    → ((x : A) (y : B) (z : C) → Q x → R y → S z → P (make x y z))
    → ((x : A) (y : B) (z : C) → spell (make x y z) ≡ tag ∷ (s x ++ t y ++ u z))
    → IsRow P spell (tag, three a b c make)
row_3 {X} {A} {B} {C} ra rb rc tag make fits spelled =
    row_1 (pair_reader (pair_reader ra rb) rc) tag (λ (x : (A × B) × C). make x.0.0 x.0.1 x.1)
    (λ x f. fits x.0.0 x.0.1 x.1 f.0.0 f.0.1 f.1) (λ x. spelled x.0.0 x.0.1 x.1)

pub row_4 : {X A B C D : Type 0} {P : X → Type 0} {spell : X → List ℕ} {Q : A → Type 0} {s : A → List ℕ}
    {a : Reader A} {R : B → Type 0} {t : B → List ℕ} {b : Reader B} {S : C → Type 0} {u : C → List ℕ} {c : Reader C}
    {T : D → Type 0} {v : D → List ℕ} {d : Reader D} → IsReader Q s a → IsReader R t b → IsReader S u c
    → IsReader T v d → (tag : ℕ) (make : A → B → C → D → X)
    → ((w : A) (x : B) (y : C) (z : D) → Q w → R x → S y → T z → P (make w x y z))
    → ((w : A) (x : B) (y : C) (z : D) → spell (make w x y z) ≡ tag ∷ (s w ++ t x ++ u y ++ v z))
    → IsRow P spell (tag, four a b c d make)
row_4 {X} {A} {B} {C} {D} ra rb rc rd tag make fits spelled =
    row_1 (pair_reader (pair_reader (pair_reader ra rb) rc) rd) tag
    (λ (x : ((A × B) × C) × D). make x.0.0.0 x.0.0.1 x.0.1 x.1)
    (λ x f. fits x.0.0.0 x.0.0.1 x.0.1 x.1 f.0.0.0 f.0.0.1 f.0.1 f.1) (λ x. spelled x.0.0.0 x.0.0.1 x.0.1 x.1)

-- the row that was read
walk : {X : Type 0} (P : X → Type 0) (spell : X → List ℕ) (rows : List (ℕ × Reader X)) (n here : ℕ) (bytes : List ℕ)
    (p : ℕ) (x : X) (q : ℕ) → AllByRecursion (IsRow P spell) rows → IsBytes bytes → p ≤ length bytes
    → behind (row_of n rows) here bytes p ≡ Ok (x, q) → Behind P spell n x bytes p q
walk P spell [] n here bytes p x q h is lt e = absurd cc
walk {X} P spell (row ∷ rows) n here bytes p x q h is lt e =
    go (eqb row.0 n) refl (λ (f : behind (row_of n rows) here bytes p ≡ Ok (x, q)).
    walk P spell rows n here bytes p x q h.1 is lt f)
  where
    go : (b : Bool) → eqb row.0 n ≡ b
        → (behind (row_of n rows) here bytes p ≡ Ok (x, q) → Behind P spell n x bytes p q)
        → Behind P spell n x bytes p q
    go true is_it later =
        let same : row.0 ≡ n = eqb-true row.0 n is_it in
        let read : row.1 bytes p ≡ Ok (x, q) = rw is_it at e in
        subst (λ (m : ℕ). Behind P spell m x bytes p q) same (h.0.found bytes p x q is lt read)
    go false is_it later = later (rw is_it at e)

choice_found : {X : Type 0} (P : X → Type 0) (spell : X → List ℕ) (rows : List (ℕ × Reader X))
    → AllByRecursion (IsRow P spell) rows → (bytes : List ℕ) (p : ℕ) (x : X) (q : ℕ) → IsBytes bytes
    → p ≤ length bytes → choice_at rows bytes p ≡ Ok (x, q) → P x × Stands (spell x) bytes p q
unfolding choice_at
choice_found {X} P spell rows all bytes p x q is lt e =
    let c = came (u8_at bytes p) (λ (n : ℕ × ℕ). behind (row_of n.0 rows) p bytes n.1) (x, q) e in
    let tag = u8_reader.found bytes p c.value.0 c.value.1 is lt c.first in
    let b = walk P spell rows c.value.0 p bytes c.value.1 x q all is (within tag.1) c.then_ in
    (b.fits, subst (λ (l : List ℕ). Stands l bytes p q) (sym b.spelled) (joined tag.1 b.stands))

rows_steady : {X : Type 0} (P : X → Type 0) (spell : X → List ℕ) (rows : List (ℕ × Reader X))
    → AllByRecursion (IsRow P spell) rows → RowsSteady rows
rows_steady P spell [] all = tt
rows_steady P spell (row ∷ rows) all = (all.0.steady, rows_steady P spell rows all.1)

-- a choice whose rows are right, and by which each value is read again
pub choice_reader : {X : Type 0} (P : X → Type 0) (spell : X → List ℕ) (rows : List (ℕ × Reader X))
    → AllByRecursion (IsRow P spell) rows
    → ((bytes : List ℕ) (p : ℕ) (x : X) (q : ℕ) → P x → Stands (spell x) bytes p q → choice_at rows bytes p ≡ Ok (x, q))
    → IsReader P spell (choice_at rows)
choice_reader P spell rows all again =
    record {
      found = choice_found P spell rows all;
      again = again;
      steady = choice_steady rows (rows_steady P spell rows all);
    }

-- the row of a number is read where the number stands
pub chosen : {X : Type 0} (rows : List (ℕ × Reader X)) (tag : ℕ) (row : Reader X) (tail bytes : List ℕ) (p q : ℕ)
    (y : Result (X × ℕ) EntryFault) → row_of tag rows ≡ Some row → tag < 256 → Stands (tag ∷ tail) bytes p q
    → (Stands tail bytes (p + 1) q → row bytes (p + 1) ≡ y) → choice_at rows bytes p ≡ y
unfolding choice_at
chosen {X} rows tag row tail bytes p q y has_row lt s read =
    let parts = split (tag ∷ []) tail s in
    let first : u8_at bytes p ≡ Ok (tag, p + 1) = u8_reader.again bytes p tag (p + 1) lt parts.0 in
    ap (λ (m : Result (ℕ × ℕ) EntryFault). and_then m (λ (n : ℕ × ℕ). behind (row_of n.0 rows) p bytes n.1)) first
    ∙ ap (λ (o : Option (Reader X)). behind o p bytes (p + 1)) has_row ∙ read parts.1

-- values of no part, of one, two, three and four that stand behind their numbers
pub again_0 : {X : Type 0} (rows : List (ℕ × Reader X)) (tag : ℕ) (x : X) {bytes : List ℕ} {p q : ℕ}
    → row_of tag rows ≡ Some (gives x) → tag < 256 → Stands (tag ∷ []) bytes p q
    → choice_at rows bytes p ≡ Ok (x, q)
again_0 {X} rows tag x {bytes} {p} {q} has_row lt s =
    chosen rows tag (gives x) [] bytes p q (Ok (x, q)) has_row lt s
    (λ t. ap (λ (m : ℕ). Ok (x, m)) (sym (nothing t)))

pub again_1 : {X A : Type 0} {Q : A → Type 0} {s : A → List ℕ} {a : Reader A} → IsReader Q s a
    → (rows : List (ℕ × Reader X)) (tag : ℕ) (make : A → X) (x : A) {bytes : List ℕ} {p q : ℕ}
    → row_of tag rows ≡ Some (one a make) → tag < 256 → Q x → Stands (tag ∷ s x) bytes p q
    → choice_at rows bytes p ≡ Ok (make x, q)
again_1 {X} {A} {Q} {s} {a} ra rows tag make x {bytes} {p} {q} has_row lt fits stands =
    chosen rows tag (one a make) (s x) bytes p q (Ok (make x, q)) has_row lt stands (λ t. on ra _ x fits t refl)

pub again_2 : {X A B : Type 0} {Q : A → Type 0} {s : A → List ℕ} {a : Reader A} {R : B → Type 0} {t : B → List ℕ}
    {b : Reader B} → IsReader Q s a → IsReader R t b → (rows : List (ℕ × Reader X)) (tag : ℕ) (make : A → B → X)
    (x : A) (y : B) {bytes : List ℕ} {p q : ℕ} → row_of tag rows ≡ Some (two a b make) → tag < 256 → Q x → R y
    → Stands (tag ∷ (s x ++ t y)) bytes p q → choice_at rows bytes p ≡ Ok (make x y, q)
again_2 {X} {A} {B} ra rb rows tag make x y has_row lt f g stands =
    again_1 (pair_reader ra rb) rows tag (λ (l : A × B). make l.0 l.1) (x, y) has_row lt (f, g) stands

pub again_3 : {X A B C : Type 0} {Q : A → Type 0} {s : A → List ℕ} {a : Reader A} {R : B → Type 0} {t : B → List ℕ}
    {b : Reader B} {S : C → Type 0} {u : C → List ℕ} {c : Reader C} → IsReader Q s a → IsReader R t b
    → IsReader S u c → (rows : List (ℕ × Reader X)) (tag : ℕ) (make : A → B → C → X) (x : A) (y : B) (z : C)
    {bytes : List ℕ} {p q : ℕ} → row_of tag rows ≡ Some (three a b c make) → tag < 256 → Q x → R y → S z
    → Stands (tag ∷ (s x ++ t y ++ u z)) bytes p q → choice_at rows bytes p ≡ Ok (make x y z, q)
again_3 {X} {A} {B} {C} ra rb rc rows tag make x y z has_row lt f g h stands =
    again_1 (pair_reader (pair_reader ra rb) rc) rows tag (λ (l : (A × B) × C). make l.0.0 l.0.1 l.1) ((x, y), z)
    has_row lt ((f, g), h) stands

pub again_4 : {X A B C D : Type 0} {Q : A → Type 0} {s : A → List ℕ} {a : Reader A} {R : B → Type 0}
    {t : B → List ℕ} {b : Reader B} {S : C → Type 0} {u : C → List ℕ} {c : Reader C} {T : D → Type 0}
    {v : D → List ℕ} {d : Reader D} → IsReader Q s a → IsReader R t b → IsReader S u c → IsReader T v d
    → (rows : List (ℕ × Reader X)) (tag : ℕ) (make : A → B → C → D → X) (w : A) (x : B) (y : C) (z : D)
    {bytes : List ℕ} {p q : ℕ} → row_of tag rows ≡ Some (four a b c d make) → tag < 256 → Q w → R x → S y → T z
    → Stands (tag ∷ (s w ++ t x ++ u y ++ v z)) bytes p q → choice_at rows bytes p ≡ Ok (make w x y z, q)
again_4 {X} {A} {B} {C} {D} ra rb rc rd rows tag make w x y z has_row lt f g h k stands =
    again_1 (pair_reader (pair_reader (pair_reader ra rb) rc) rd) rows tag
    (λ (l : ((A × B) × C) × D). make l.0.0.0 l.0.0.1 l.0.1 l.1) (((w, x), y), z) has_row lt (((f, g), h), k) stands

-- flags and options
abbrev pub Any : {X : Type 0} → X → Type 0
Any x = Unit {0}

flag_again : (bytes : List ℕ) (p : ℕ) (b : Bool) (q : ℕ) → Stands (flag_bytes b) bytes p q
    → flag_at bytes p ≡ Ok (b, q)
flag_again bytes p false q s = again_0 flag_rows 0 false refl (omega arith) s
flag_again bytes p true q s = again_0 flag_rows 1 true refl (omega arith) s

pub flag_reader : IsReader Any flag_bytes flag_at
flag_reader =
    choice_reader Any flag_bytes flag_rows (row_0 0 false tt refl & row_0 1 true tt refl & tt)
    (λ bytes p b q fits s. flag_again bytes p b q s)

pub option_reader : {X : Type 0} {P : X → Type 0} {spell : X → List ℕ} {value : Reader X} → IsReader P spell value
    → IsReader (λ (o : Option X). IfSome o P) (option_bytes spell) (option_at value)
option_reader {X} {P} {spell} {value} reader =
    choice_reader (λ (o : Option X). IfSome o P) (option_bytes spell) (option_rows value)
    (row_0 0 None tt refl & row_1 reader 1 Some (λ x fits. fits) (λ x. refl) & tt) go
  where
    go : (bytes : List ℕ) (p : ℕ) (o : Option X) (q : ℕ) → IfSome o P → Stands (option_bytes spell o) bytes p q
        → option_at value bytes p ≡ Ok (o, q)
    go bytes p None q fits s =
        again_0 (option_rows value) 0 None refl (omega arith) s
    go bytes p (Some x) q fits s =
        again_1 reader (option_rows value) 1 Some x refl (omega arith) fits s
