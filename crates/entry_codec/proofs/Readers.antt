-- Readers that give exactly what stands at a place, whatever follows it, and how such are put together.
use Rattle.std.proofs.Common.{◌≡◌, ℕ, ◌+◌, ◌<◌, ◌≤◌, ◌⊎◌, List, [], ◌∷◌, ◌++◌, length, get_or}
use Rattle.std.proofs.Common.{drop, Result, Ok, Err, refl, sym, ap, subst, ◌∙◌}
use Rattle.std.proofs.Common.{append_assoc}
use Rattle.std.proofs.Common.{arith, length-append}
use Rattle.std.proofs.lemmas.List.{append-nil, drop-drop, drop_at}
use Rattle.std.specs.Prelude.{flat_map}
use Rattle.byte_fields.specs.Places.{StandsAt}
use Rattle.entry_codec.specs.declared.EntryFault.{EntryFault}
use Rattle.entry_codec.specs.declared.EntryFault.TheVariants.{Short, Version, BadField, TooMuch, NoMemory}
use Rattle.entry_codec.specs.Read.{Reader, and_then, chain}

-- each item is a byte
abbrev pub IsBytes : List ℕ → Type 0
IsBytes bytes = (i : ℕ) → get_or bytes i 0 < 256

-- the bytes of a part stand from p to q
pub record Stands (part bytes : List ℕ) (p q : ℕ) : Type 0 where
  pub it : StandsAt part bytes p q

-- what kind of fault it is
abbrev pub IsShort : EntryFault → Type 0
IsShort (Short q) = Unit {0}
IsShort Version = ⊥
IsShort (BadField q) = ⊥
IsShort (TooMuch q) = ⊥
IsShort NoMemory = ⊥

abbrev pub IsBad : EntryFault → Type 0
IsBad (Short q) = ⊥
IsBad Version = ⊥
IsBad (BadField q) = Unit {0}
IsBad (TooMuch q) = ⊥
IsBad NoMemory = ⊥

-- more bytes may mend what is short, and nothing else
abbrev pub Fails : {X : Type 0} → EntryFault → Result X EntryFault → Type 0
Fails f later = IsShort f ⊎ (IsBad f × (later ≡ Err f))

-- what is read, and what is bad, stays so whatever follows
pub record IsSteady {X : Type 0} (read : Reader X) : Type 0 where
  pub goes_on : (bytes more : List ℕ) (p : ℕ) (x : X × ℕ) → read bytes p ≡ Ok x → read (bytes ++ more) p ≡ Ok x
  pub fails : (bytes more : List ℕ) (p : ℕ) (f : EntryFault) → read bytes p ≡ Err f
      → Fails f (read (bytes ++ more) p)

-- what is read stands there, and what stands there is read
pub record IsReader {X : Type 0} (P : X → Type 0) (spell : X → List ℕ) (read : Reader X) : Type 0 where
  pub found : (bytes : List ℕ) (p : ℕ) (x : X) (q : ℕ) → IsBytes bytes → p ≤ length bytes → read bytes p ≡ Ok (x, q)
      → P x × Stands (spell x) bytes p q
  pub again : (bytes : List ℕ) (p : ℕ) (x : X) (q : ℕ) → P x → Stands (spell x) bytes p q → read bytes p ≡ Ok (x, q)
  pub steady : IsSteady read

pub within : {part bytes : List ℕ} {p q : ℕ} → Stands part bytes p q → q ≤ length bytes
within s = s.it.2

pub starts : (bytes : List ℕ) (p : ℕ) → p ≤ length bytes → Stands [] bytes p p
starts bytes p h = record { it = (refl, omega arith, h) }

-- nothing takes no bytes
pub nothing : {bytes : List ℕ} {p q : ℕ} → Stands [] bytes p q → q ≡ p
nothing s = let e = s.it.1 in omega arith

pub joined : {a b bytes : List ℕ} {p q r : ℕ} → Stands a bytes p q → Stands b bytes q r → Stands (a ++ b) bytes p r
joined {a} {b} {bytes} {p} {q} {r} s t =
    let here : drop p bytes ≡ (a ++ b) ++ drop r bytes = s.it.0 ∙ ap (λ (l : List ℕ). a ++ l) t.it.0
    ∙ sym (append_assoc a b (drop r bytes)) in
    record { it = (here, omega (arith, length-append a b, s.it.1, t.it.1), t.it.2) }

pub split : (a b : List ℕ) {bytes : List ℕ} {p r : ℕ} → Stands (a ++ b) bytes p r
    → Stands a bytes p (p + length a) × Stands b bytes (p + length a) r
split a b {bytes} {p} {r} s =
    let whole : drop p bytes ≡ a ++ (b ++ drop r bytes) = s.it.0 ∙ append_assoc a b (drop r bytes) in
    let later : drop (p + length a) bytes ≡ b ++ drop r bytes = sym (drop-drop (length a) p bytes)
    ∙ ap (drop (length a)) whole ∙ drop_at a (b ++ drop r bytes) (length a) refl in
    let len = length-append a b in (
      record { it = (whole ∙ ap (λ (l : List ℕ). a ++ l) (sym later), refl, omega (arith, len, s.it.1, s.it.2)) },
      record { it = (later, omega (arith, len, s.it.1), s.it.2) },
    )

-- a value or a fault, and what came of the value
pub record Came {A B : Type 0} (m : Result A EntryFault) (f : A → Result B EntryFault) (y : B) : Type 0 where
  pub value : A
  pub first : m ≡ Ok value
  pub then_ : f value ≡ Ok y

pub came : {A B : Type 0} (m : Result A EntryFault) (f : A → Result B EntryFault) (y : B) → and_then m f ≡ Ok y
    → Came m f y
came (Ok x) f y e = record { value = x; first = refl; then_ = e }
came (Err d) f y e = absurd cc

-- one part was read behind a front, and what follows is still to be read
pub record Step {X Y : Type 0} (P : X → Type 0) (spell : X → List ℕ) (next : X → Reader Y) (front bytes : List ℕ)
    (p : ℕ) (y : Y × ℕ) : Type 0 where
  pub value : X
  pub place : ℕ
  pub fits : P value
  pub stands : Stands (front ++ spell value) bytes p place
  pub rest : next value bytes place ≡ Ok y

pub step : {X Y : Type 0} {P : X → Type 0} {spell : X → List ℕ} {read : Reader X} → IsReader P spell read
    → {next : X → Reader Y} {front bytes : List ℕ} {p q : ℕ} {y : Y × ℕ} → IsBytes bytes → Stands front bytes p q
    → chain read next bytes q ≡ Ok y → Step P spell next front bytes p y
unfolding chain
step {X} {Y} {P} {spell} {read} reader {next} {front} {bytes} {p} {q} {y} is front_stands e =
    let c = came (read bytes q) (λ (x : X × ℕ). next x.0 bytes x.1) y e in
    let f = reader.found bytes q c.value.0 c.value.1 is (within front_stands) c.first in
    record {
      value = c.value.0;
      place = c.value.1;
      fits = f.0;
      stands = joined front_stands f.1;
      rest = c.then_;
    }

-- a part that stands there is read, and what follows is read behind it
pub on : {X Y : Type 0} {P : X → Type 0} {spell : X → List ℕ} {read : Reader X} → IsReader P spell read
    → (next : X → Reader Y) {bytes : List ℕ} {p q : ℕ} {y : Result (Y × ℕ) EntryFault} (x : X) → P x
    → Stands (spell x) bytes p q → next x bytes q ≡ y → chain read next bytes p ≡ y
unfolding chain
on {X} {Y} {P} {spell} {read} reader next {bytes} {p} {q} {y} x fits s e =
    ap (λ (m : Result (X × ℕ) EntryFault). and_then m (λ (r : X × ℕ). next r.0 bytes r.1))
    (reader.again bytes p x q fits s) ∙ e

-- the last part
abbrev done : {A : Type 0} → A → Result A EntryFault
done x = Ok x

pub same_value : {A : Type 0} {x y : A} → done x ≡ done y → x ≡ y
same_value e = cc

-- parts that stand one behind the other
pub record InOrder (parts : List (List ℕ)) (bytes : List ℕ) (p q : ℕ) : Type 0 where
  pub it : Stands (flat_map (λ (part : List ℕ). part) parts) bytes p q

pub record Peeled (part : List ℕ) (parts : List (List ℕ)) (bytes : List ℕ) (p q : ℕ) : Type 0 where
  pub first : Stands part bytes p (p + length part)
  pub rest : InOrder parts bytes (p + length part) q

pub peeled : {part : List ℕ} {parts : List (List ℕ)} {bytes : List ℕ} {p q : ℕ} → InOrder (part ∷ parts) bytes p q
    → Peeled part parts bytes p q
peeled {part} {parts} s =
    let parted = split part (flat_map (λ (l : List ℕ). l) parts) s.it in
    record { first = parted.0; rest = record { it = parted.1 } }

-- nothing is left
pub at_end : {bytes : List ℕ} {p q : ℕ} → InOrder [] bytes p q → q ≡ p
at_end s = nothing s.it

-- parts put behind a front, one by one
abbrev pub chained : List ℕ → List (List ℕ) → List ℕ
chained front [] = front
chained front (part ∷ parts) = chained (front ++ part) parts

chained_is : (front : List ℕ) (parts : List (List ℕ)) → chained front parts ≡ front ++ flat_map (λ (l : List ℕ). l)
    parts
chained_is front [] = sym (append-nil front)
chained_is front (part ∷ parts) =
    chained_is (front ++ part) parts ∙ append_assoc front part (flat_map (λ (l : List ℕ). l) parts)

pub in_order : (front : List ℕ) (parts : List (List ℕ)) {bytes : List ℕ} {p q : ℕ}
    → Stands (chained front parts) bytes p q → InOrder (front ∷ parts) bytes p q
in_order front parts {bytes} {p} {q} s =
    record { it = subst (λ (l : List ℕ). Stands l bytes p q) (chained_is front parts) s }

-- a fact of the first of several, and those of the others
infixr 5 ◌&◌
abbrev pub ◌&◌ : {A B : Type 0} → A → B → A × B
a & b = (a, b)
