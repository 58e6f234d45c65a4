-- Readers that go by the bytes of their fields alone: what is read, and what is bad, stays so whatever follows.
use Rattle.std.proofs.Common.{◌≡◌, ℕ, zero, suc, ◌+◌, ◌≤◌, ◌⊎◌, inl, inr, Bool, true, false, cond, ltb, List, []}
use Rattle.std.proofs.Common.{◌∷◌, ◌++◌, length, take, drop, Some, Result, Ok, Err, refl, ap}
use Rattle.std.proofs.Common.{subst}
use Rattle.std.proofs.Common.{◌∙◌, arith, length-append}
use Rattle.std.proofs.lemmas.Bool.{ltb-false, le-ltb}
use Rattle.std.proofs.lemmas.List.{drop-append-le, take-append-le, length-drop}
use Rattle.std.specs.List.{AllByRecursion}
use Rattle.std.specs.Prelude.{nat_eq, nat_le, nat_lt}
use Rattle.model.specs.History.{Seen}
use Rattle.std.specs.Str.{is_utf8}
use Rattle.std.specs.Int.{Width, w8, w16, w32, byte_len, from_be_bytes}
use Rattle.entry_codec.specs.declared.EntryFault.{EntryFault}
use Rattle.entry_codec.specs.declared.EntryFault.TheVariants.{Short, BadField}
use Rattle.entry_codec.specs.Read.{Reader, and_then, chain, gives, pair, one}
use Rattle.entry_codec.specs.Fields.{u8_at, number_at, number_with, text_at, row_of, behind, choice_at}
use Rattle.entry_codec.specs.Fields.{items_at}
use Rattle.entry_codec.specs.Fields.{list_at, count_at, counts_at, seen_at}
use Rattle.entry_codec.proofs.Readers.{IsShort, IsBad, Fails, IsSteady, came}

-- where a fault came from
pub record Failed {A B : Type 0} (m : Result A EntryFault) (f : A → Result B EntryFault) (d : EntryFault)
    : Type 0 where
  pub value : A
  pub first : m ≡ Ok value
  pub then_ : f value ≡ Err d

abbrev pub faulty : (A : Type 0) → EntryFault → Result A EntryFault
faulty A f = Err f

pub same_fault : (A : Type 0) (c d : EntryFault) → faulty A c ≡ faulty A d → c ≡ d
same_fault A c d e = cc

pub failed : {A B : Type 0} (m : Result A EntryFault) (f : A → Result B EntryFault) (d : EntryFault)
    → and_then m f ≡ Err d → (m ≡ Err d) ⊎ Failed m f d
failed {A} {B} (Ok x) f d e = inr (record { value = x; first = refl; then_ = e })
failed {A} {B} (Err c) f d e = inl (ap (λ (g : EntryFault). faulty A g) (same_fault B c d e))

-- tests that did fail
guard_short : {A : Type 0} (b : Bool) (p : ℕ) (x : A) (f : EntryFault) → cond b (Err (Short p)) (Ok x) ≡ Err f
    → IsShort f
guard_short {A} true p x f e = subst IsShort (same_fault A (Short p) f e) tt
guard_short false p x f e = absurd cc

guard_bad : {A : Type 0} (b : Bool) (p : ℕ) (x : A) (f : EntryFault) → cond b (Ok x) (Err (BadField p)) ≡ Err f →
    IsBad f
guard_bad true p x f e = absurd cc
guard_bad {A} false p x f e = subst IsBad (same_fault A (BadField p) f e) tt

-- nothing
pub gives_steady : {X : Type 0} (x : X) → IsSteady (gives x)
gives_steady x = record { goes_on = λ bytes more p y e. e; fails = λ bytes more p f e. absurd cc }

-- numbers
longer : (bytes more : List ℕ) (p k : ℕ) → p + k ≤ length bytes
    → take k (drop p (bytes ++ more)) ≡ take k (drop p bytes)
longer bytes more p k lt =
    let inside : p ≤ length bytes = omega arith in
    let enough : k ≤ length (drop p bytes) = omega (arith, length-drop p bytes) in
    ap (take k) (drop-append-le p bytes more inside) ∙ take-append-le k (drop p bytes) more enough

number_goes_on : (w : Width) (bytes more : List ℕ) (p : ℕ) (x : ℕ × ℕ) → number_at w bytes p ≡ Ok x
    → number_at w (bytes ++ more) p ≡ Ok x
unfolding number_at
number_goes_on w bytes more p x e = go (ltb (length bytes) (p + byte_len w)) refl
  where
    go : (b : Bool) → ltb (length bytes) (p + byte_len w) ≡ b
        → cond (ltb (length (bytes ++ more)) (p + byte_len w)) (Err (Short p))
        (Ok (from_be_bytes w (take (byte_len w) (drop p (bytes ++ more))), p + byte_len w)) ≡ Ok x
    go true is_it = absurd (no_value (rw is_it at e))
      where
        no_value : faulty (ℕ × ℕ) (Short p) ≡ Ok x → ⊥
        no_value f = cc
    go false is_it =
        let lt : p + byte_len w ≤ length bytes = ltb-false _ _ is_it in
        let long : ltb (length (bytes ++ more)) (p + byte_len w) ≡ false =
        le-ltb _ _ (omega (arith, length-append bytes more)) in
        let same = longer bytes more p (byte_len w) lt in
        rw (long, same) (rw is_it at e)

pub number_is_short : (w : Width) (bytes : List ℕ) (p : ℕ) (f : EntryFault) → number_at w bytes p ≡ Err f → IsShort f
unfolding number_at
number_is_short w bytes p f e =
    guard_short (ltb (length bytes) (p + byte_len w)) p
    (from_be_bytes w (take (byte_len w) (drop p bytes)), p + byte_len w) f e

pub number_steady : (w : Width) → IsSteady (number_at w)
number_steady w =
    record { goes_on = number_goes_on w; fails = λ bytes more p f e. inl (number_is_short w bytes p f e) }

-- a value for which a test holds, behind a part that is steady
tested_fails : {A B : Type 0} (m later : Result A EntryFault) (f : A → Result B EntryFault) (d : EntryFault)
    → ((x : A) → m ≡ Ok x → later ≡ Ok x) → ((c : EntryFault) → m ≡ Err c → Fails c later)
    → ((x : A) (c : EntryFault) → f x ≡ Err c → Fails c (f x)) → and_then m f ≡ Err d
    → Fails d (and_then later f)
tested_fails {A} {B} m later f d on out here e =
    elim (failed m f d e) [
      | inl first ↦ elim (out d first) [
        | inl short ↦ inl short
        | inr bad ↦ inr (bad.0, ap (λ (r : Result A EntryFault). and_then r f) bad.1)
      ]
      | inr second ↦ elim (here second.value d second.then_) [
        | inl short ↦ inl short
        | inr bad ↦ inr (
          bad.0,
          ap (λ (r : Result A EntryFault). and_then r f) (on second.value second.first)
              ∙ second.then_,
        )
      ]
    ]

number_with_steady_goes_on : (w : Width) (test : ℕ → Bool) (bytes more : List ℕ) (p : ℕ) (x : ℕ × ℕ)
    → number_with w test bytes p ≡ Ok x → number_with w test (bytes ++ more) p ≡ Ok x
unfolding number_with
number_with_steady_goes_on w test bytes more p x e =
    let c = came (number_at w bytes p) (λ (n : ℕ × ℕ). cond (test n.0) (Ok n) (Err (BadField p))) x e in
    ap (λ (r : Result (ℕ × ℕ) EntryFault). and_then r (λ (n : ℕ × ℕ). cond (test n.0) (Ok n) (Err (BadField p))))
    ((number_steady w).goes_on bytes more p c.value c.first) ∙ c.then_

number_with_steady_fails : (w : Width) (test : ℕ → Bool) (bytes more : List ℕ) (p : ℕ) (f : EntryFault)
    → number_with w test bytes p ≡ Err f → Fails f (number_with w test (bytes ++ more) p)
unfolding number_with
number_with_steady_fails w test bytes more p f e =
    tested_fails (number_at w bytes p) (number_at w (bytes ++ more) p)
    (λ (n : ℕ × ℕ). cond (test n.0) (Ok n) (Err (BadField p))) f ((number_steady w).goes_on bytes more p)
    ((number_steady w).fails bytes more p) (λ n c h. inr (guard_bad (test n.0) p n c h, h)) e

pub number_with_steady : (w : Width) (test : ℕ → Bool) → IsSteady (number_with w test)
number_with_steady w test =
    record { goes_on = number_with_steady_goes_on w test; fails = number_with_steady_fails w test }

-- texts: behind the length
abbrev text_behind : List ℕ → ℕ → ℕ × ℕ → Result (List ℕ × ℕ) EntryFault
text_behind bytes p n =
    cond (ltb (length bytes) (n.1 + n.0)) (Err (Short p))
    (cond (is_utf8 (take n.0 (drop n.1 bytes))) (Ok (take n.0 (drop n.1 bytes), n.1 + n.0)) (Err (BadField p)))

behind_goes_on : (bytes more : List ℕ) (p : ℕ) (n : ℕ × ℕ) (x : List ℕ × ℕ) → text_behind bytes p n ≡ Ok x
    → text_behind (bytes ++ more) p n ≡ Ok x
behind_goes_on bytes more p n x e = go (ltb (length bytes) (n.1 + n.0)) refl
  where
    go : (b : Bool) → ltb (length bytes) (n.1 + n.0) ≡ b → text_behind (bytes ++ more) p n ≡ Ok x
    go true is_it = absurd (no_value (rw is_it at e))
      where
        no_value : faulty (List ℕ × ℕ) (Short p) ≡ Ok x → ⊥
        no_value f = cc
    go false is_it =
        let lt : n.1 + n.0 ≤ length bytes = ltb-false _ _ is_it in
        let long : ltb (length (bytes ++ more)) (n.1 + n.0) ≡ false =
        le-ltb _ _ (omega (arith, length-append bytes more)) in
        let same = longer bytes more n.1 n.0 lt in
        rw (long, same) (rw is_it at e)

behind_fails : (bytes more : List ℕ) (p : ℕ) (n : ℕ × ℕ) (f : EntryFault) → text_behind bytes p n ≡ Err f
    → Fails f (text_behind (bytes ++ more) p n)
behind_fails bytes more p n f e = go (ltb (length bytes) (n.1 + n.0)) refl
  where
    go : (b : Bool) → ltb (length bytes) (n.1 + n.0) ≡ b → Fails f (text_behind (bytes ++ more) p n)
    go true is_it = inl (subst IsShort (same_fault (List ℕ × ℕ) (Short p) f (rw is_it at e)) tt)
    go false is_it = inr (guard_bad (is_utf8 (take n.0 (drop n.1 bytes))) p taken_text f (rw is_it at e), stays)
      where
        taken_text : List ℕ × ℕ
        taken_text = (take n.0 (drop n.1 bytes), n.1 + n.0)

        stays : text_behind (bytes ++ more) p n ≡ Err f
        stays =
            let lt : n.1 + n.0 ≤ length bytes = ltb-false _ _ is_it in
            let long : ltb (length (bytes ++ more)) (n.1 + n.0) ≡ false =
            le-ltb _ _ (omega (arith, length-append bytes more)) in
            let same = longer bytes more n.1 n.0 lt in
            rw (long, same) (rw is_it at e)

-- a part, and what comes of its value, which goes by the bytes too
pub then_goes_on : {A B : Type 0} (m later : Result A EntryFault) (f g : A → Result B EntryFault) (y : B)
    → ((x : A) → m ≡ Ok x → later ≡ Ok x) → ((x : A) → f x ≡ Ok y → g x ≡ Ok y) → and_then m f ≡ Ok y
    → and_then later g ≡ Ok y
then_goes_on {A} {B} m later f g y on next e =
    let c = came m f y e in
    ap (λ (r : Result A EntryFault). and_then r g) (on c.value c.first) ∙ next c.value c.then_

pub then_fails : {A B : Type 0} (m later : Result A EntryFault) (f g : A → Result B EntryFault) (d : EntryFault)
    → ((x : A) → m ≡ Ok x → later ≡ Ok x) → ((c : EntryFault) → m ≡ Err c → Fails c later)
    → ((x : A) (c : EntryFault) → f x ≡ Err c → Fails c (g x)) → and_then m f ≡ Err d
    → Fails d (and_then later g)
then_fails {A} {B} m later f g d on out next e =
    elim (failed m f d e) [
      | inl first ↦ elim (out d first) [
        | inl short ↦ inl short
        | inr bad ↦ inr (bad.0, ap (λ (r : Result A EntryFault). and_then r g) bad.1)
      ]
      | inr second ↦ elim (next second.value d second.then_) [
        | inl short ↦ inl short
        | inr bad ↦ inr (bad.0, ap (λ (r : Result A EntryFault). and_then r g) (on second.value second.first) ∙ bad.1)
      ]
    ]

text_goes_on : (bytes more : List ℕ) (p : ℕ) (x : List ℕ × ℕ) → text_at bytes p ≡ Ok x
    → text_at (bytes ++ more) p ≡ Ok x
unfolding text_at
text_goes_on bytes more p x e =
    let size = number_with_steady w16 (λ n. nat_le n 4096) in
    then_goes_on (number_with w16 (λ n. nat_le n 4096) bytes p) (number_with w16 (λ n. nat_le n 4096) (bytes ++ more)
    p)
    (text_behind bytes p) (text_behind (bytes ++ more) p) x (size.goes_on bytes more p)
    (λ n h. behind_goes_on bytes more p n x h) e

text_fails : (bytes more : List ℕ) (p : ℕ) (f : EntryFault) → text_at bytes p ≡ Err f
    → Fails f (text_at (bytes ++ more) p)
unfolding text_at
text_fails bytes more p f e =
    let size = number_with_steady w16 (λ n. nat_le n 4096) in
    then_fails (number_with w16 (λ n. nat_le n 4096) bytes p) (number_with w16 (λ n. nat_le n 4096) (bytes ++ more) p)
    (text_behind bytes p) (text_behind (bytes ++ more) p) f (size.goes_on bytes more p) (size.fails bytes more p)
    (λ n c h. behind_fails bytes more p n c h) e

pub text_steady : IsSteady text_at
text_steady = record { goes_on = text_goes_on; fails = text_fails }

-- parts one behind the other
then_steady_on : {X Y : Type 0} (a : Reader X) (b : X → Reader Y) → IsSteady a → ((x : X) → IsSteady (b x))
    → (bytes more : List ℕ) (p : ℕ) (y : Y × ℕ) → chain a b bytes p ≡ Ok y
    → chain a b (bytes ++ more) p ≡ Ok y
unfolding chain
then_steady_on {X} {Y} a b sa sb bytes more p y e =
    then_goes_on (a bytes p) (a (bytes ++ more) p) (λ (x : X × ℕ). b x.0 bytes x.1)
    (λ (x : X × ℕ). b x.0 (bytes ++ more) x.1) y (sa.goes_on bytes more p)
    (λ x h. (sb x.0).goes_on bytes more x.1 y h) e

then_steady_out : {X Y : Type 0} (a : Reader X) (b : X → Reader Y) → IsSteady a → ((x : X) → IsSteady (b x))
    → (bytes more : List ℕ) (p : ℕ) (f : EntryFault) → chain a b bytes p ≡ Err f
    → Fails f (chain a b (bytes ++ more) p)
unfolding chain
then_steady_out {X} {Y} a b sa sb bytes more p f e =
    then_fails (a bytes p) (a (bytes ++ more) p) (λ (x : X × ℕ). b x.0 bytes x.1)
    (λ (x : X × ℕ). b x.0 (bytes ++ more) x.1) f (sa.goes_on bytes more p) (sa.fails bytes more p)
    (λ x c h. (sb x.0).fails bytes more x.1 c h) e

pub then_steady : {X Y : Type 0} {a : Reader X} (b : X → Reader Y) → IsSteady a → ((x : X) → IsSteady (b x))
    → IsSteady (chain a b)
then_steady {X} {Y} {a} b sa sb =
    record { goes_on = then_steady_on a b sa sb; fails = then_steady_out a b sa sb }

pub one_steady : {A X : Type 0} {a : Reader A} (make : A → X) → IsSteady a → IsSteady (one a make)
one_steady {A} {X} make sa = then_steady (λ (x : A). gives (make x)) sa (λ x. gives_steady (make x))

pub pair_steady : {A B : Type 0} {a : Reader A} {b : Reader B} → IsSteady a → IsSteady b → IsSteady (pair a b)
unfolding pair
pair_steady {A} {B} {a} {b} sa sb =
    then_steady (λ (x : A). one b (λ (y : B). (x, y))) sa (λ x. one_steady (λ (y : B). (x, y)) sb)

-- choices
abbrev pub RowsSteady : {X : Type 0} → List (ℕ × Reader X) → Type 0
RowsSteady rows = AllByRecursion (λ row. IsSteady row.1) rows

row_goes_on : {X : Type 0} (rows : List (ℕ × Reader X)) → RowsSteady rows → (n here : ℕ) (bytes more : List ℕ)
    (p : ℕ) (x : X × ℕ) → behind (row_of n rows) here bytes p ≡ Ok x
    → behind (row_of n rows) here (bytes ++ more) p ≡ Ok x
row_goes_on [] steady n here bytes more p x e = absurd cc
row_goes_on {X} (row ∷ rows) steady n here bytes more p x e =
    go (nat_eq row.0 n) (λ h. row_goes_on rows steady.1 n here bytes more p x h) e
  where
    go : (b : Bool)
        → (behind (row_of n rows) here bytes p ≡ Ok x → behind (row_of n rows) here (bytes ++ more) p ≡ Ok x)
        → behind (cond b (Some row.1) (row_of n rows)) here bytes p ≡ Ok x
        → behind (cond b (Some row.1) (row_of n rows)) here (bytes ++ more) p ≡ Ok x
    go true later h = steady.0.goes_on bytes more p x h
    go false later h = later h

row_fails : {X : Type 0} (rows : List (ℕ × Reader X)) → RowsSteady rows → (n here : ℕ) (bytes more : List ℕ)
    (p : ℕ) (f : EntryFault) → behind (row_of n rows) here bytes p ≡ Err f
    → Fails f (behind (row_of n rows) here (bytes ++ more) p)
row_fails {X} [] steady n here bytes more p f e =
    inr (subst IsBad (same_fault (X × ℕ) (BadField here) f e) tt, e)
row_fails {X} (row ∷ rows) steady n here bytes more p f e =
    go (nat_eq row.0 n) (λ h. row_fails rows steady.1 n here bytes more p f h) e
  where
    go : (b : Bool)
        → (behind (row_of n rows) here bytes p ≡ Err f → Fails f (behind (row_of n rows) here (bytes ++ more) p))
        → behind (cond b (Some row.1) (row_of n rows)) here bytes p ≡ Err f
        → Fails f (behind (cond b (Some row.1) (row_of n rows)) here (bytes ++ more) p)
    go true later h = steady.0.fails bytes more p f h
    go false later h = later h

choice_goes_on : {X : Type 0} (rows : List (ℕ × Reader X)) → RowsSteady rows → (bytes more : List ℕ) (p : ℕ)
    (x : X × ℕ) → choice_at rows bytes p ≡ Ok x → choice_at rows (bytes ++ more) p ≡ Ok x
unfolding choice_at
choice_goes_on rows steady bytes more p x e =
    then_goes_on (u8_at bytes p) (u8_at (bytes ++ more) p) (λ (n : ℕ × ℕ). behind (row_of n.0 rows) p bytes n.1)
    (λ (n : ℕ × ℕ). behind (row_of n.0 rows) p (bytes ++ more) n.1) x ((number_steady w8).goes_on bytes more p)
    (λ n h. row_goes_on rows steady n.0 p bytes more n.1 x h) e

choice_fails : {X : Type 0} (rows : List (ℕ × Reader X)) → RowsSteady rows → (bytes more : List ℕ) (p : ℕ)
    (f : EntryFault) → choice_at rows bytes p ≡ Err f → Fails f (choice_at rows (bytes ++ more) p)
unfolding choice_at
choice_fails rows steady bytes more p f e =
    then_fails (u8_at bytes p) (u8_at (bytes ++ more) p) (λ (n : ℕ × ℕ). behind (row_of n.0 rows) p bytes n.1)
    (λ (n : ℕ × ℕ). behind (row_of n.0 rows) p (bytes ++ more) n.1) f ((number_steady w8).goes_on bytes more p)
    ((number_steady w8).fails bytes more p) (λ n c h. row_fails rows steady n.0 p bytes more n.1 c h) e

pub choice_steady : {X : Type 0} (rows : List (ℕ × Reader X)) → RowsSteady rows → IsSteady (choice_at rows)
choice_steady rows steady = record { goes_on = choice_goes_on rows steady; fails = choice_fails rows steady }

-- lists
pub items_steady : {X : Type 0} {item : Reader X} → IsSteady item → (n : ℕ) → IsSteady (items_at item n)
unfolding items_at
items_steady {X} {item} steady zero = gives_steady []
items_steady {X} {item} steady (suc n) =
    then_steady (λ (x : X). one (items_at item n) (λ (xs : List X). x ∷ xs)) steady
    (λ x. one_steady (λ (xs : List X). x ∷ xs) (items_steady steady n))

pub list_steady : {X : Type 0} {item : Reader X} → IsSteady item → IsSteady (list_at item)
unfolding list_at
list_steady {X} {item} steady = then_steady (items_at item) (number_steady w32) (items_steady steady)

pub count_steady : (least : ℕ) → IsSteady (count_at least)
unfolding count_at
count_steady least =
    pair_steady (number_with_steady w16 (nat_le least)) (number_with_steady w32 (nat_lt 0))

pub counts_steady : (n least : ℕ) → IsSteady (counts_at least n)
unfolding counts_at
counts_steady zero least = gives_steady []
counts_steady (suc n) least =
    then_steady (λ (c : ℕ × ℕ). one (counts_at (c.0 + 1) n) (λ (others : Seen). c ∷ others)) (count_steady least)
    (λ c. one_steady (λ (others : Seen). c ∷ others) (counts_steady n (c.0 + 1)))

pub seen_steady : IsSteady seen_at
unfolding seen_at
seen_steady = then_steady (counts_at 0) (number_steady w32) (λ n. counts_steady n 0)
