-- A text by its first byte: which bytes may follow that one.
use Rattle.std.proofs.Common.{◌≡◌, ℕ, ◌+◌, ◌-◌, ◌*◌, ◌/◌, ◌<◌, ◌≤◌, ◌↔◌, ◌⊎◌, true, List, [], ◌∷◌, ◌++◌, refl, sym}
use Rattle.std.proofs.Common.{◌∙◌, subst, ap, inl, inr, arith, lt-ltb, le-ltb, le-leb}
use Rattle.std.proofs.lemmas.Bool.{cases_lt, cases_eq, and_parts}
use Rattle.std.proofs.lemmas.Str.{encode_ascii}
use Rattle.std.specs.Str.{IsUtf8}
use lib.Utf8.{scalar, scalars, encode, encodes, next, low_scalar, scalar_cases}
use Rattle.std.specs.Prelude.{Some, None}
use Rattle.mail_frames.specs.Nexts.{GoesOn, NextAfter}
use Rattle.mail_frames.specs.declared.nexts.Next.TheVariants.{Lead, Within}

-- a byte of a character behind its first
abbrev IsLater : ℕ → Type 0
IsLater c = (128 ≤ c) × (c ≤ 191)

-- the second byte of a character of three or four, behind the first byte b
abbrev IsSecond : ℕ → ℕ → Type 0
IsSecond b c =
    (b ≡ 224 → 160 ≤ c) × (b ≡ 237 → c ≤ 159) × (b ≡ 240 → 144 ≤ c) × (b ≡ 244 → c ≤ 143) × (128 ≤ c) × (c ≤ 191)

-- a text that begins with the byte b, by the length of its first character
data Starts (b : ℕ) (s : List ℕ) : Type 0 where
  single : b < 128 → IsUtf8 s → Starts b s
  double : (c : ℕ) (t : List ℕ) → (194 ≤ b) × (b ≤ 223) → IsLater c → s ≡ c ∷ t → IsUtf8 t → Starts b s
  triple : (c d : ℕ) (t : List ℕ) → (224 ≤ b) × (b ≤ 239) → IsSecond b c → IsLater d → s ≡ c ∷ d ∷ t → IsUtf8 t
      → Starts b s
  fourfold : (c d e : ℕ) (t : List ℕ) → (240 ≤ b) × (b ≤ 244) → IsSecond b c → IsLater d → IsLater e
      → s ≡ c ∷ d ∷ e ∷ t → IsUtf8 t → Starts b s

-- ---- the bytes of a character

two : (c : ℕ) → 128 ≤ c → c < 2048 → encode c ≡ (192 + c / 64) ∷ next c ∷ []
unfolding encode
two c l h = rw (le-ltb c 128 l, lt-ltb c 2048 h)

three : (c : ℕ) → 2048 ≤ c → c < 65536 → encode c ≡ (224 + c / 4096) ∷ next (c / 64) ∷ next c ∷ []
unfolding encode
three c l h = rw (le-ltb c 128 (omega arith), le-ltb c 2048 l, lt-ltb c 65536 h)

four : (c : ℕ) → 65536 ≤ c → encode c ≡ (240 + c / 262144) ∷ next (c / 4096) ∷ next (c / 64) ∷ next c ∷ []
unfolding encode
four c l = rw (le-ltb c 128 (omega arith), le-ltb c 2048 (omega arith), le-ltb c 65536 l)

high_scalar : (c : ℕ) → 57344 ≤ c → c < 1114112 → scalar c ≡ true
high_scalar c l h = rw (le-ltb c 55296 (omega arith), le-leb 57344 c l, lt-ltb c 1114112 h)

heads : (x y : ℕ) (xs ys : List ℕ) → x ∷ xs ≡ y ∷ ys → (x ≡ y) × (xs ≡ ys)
heads x y xs ys e = (cc, cc)

-- ---- from a text to its first bytes

module _ (c b : ℕ) (r s : List ℕ) (u : IsUtf8 r) where
  of_two : 128 ≤ c → c < 2048 → (192 + c / 64) ∷ next c ∷ r ≡ b ∷ s → Starts b s
  of_two l h e =
      let p = heads (192 + c / 64) b (next c ∷ r) s e in
      double (next c) r (omega arith, omega arith) (omega arith, omega arith) (sym p.1) u

  of_three : 2048 ≤ c → c < 65536 → (c < 55296) ⊎ ((57344 ≤ c) × (c < 1114112))
      → (224 + c / 4096) ∷ next (c / 64) ∷ next c ∷ r ≡ b ∷ s → Starts b s
  of_three l h range e =
      let p = heads (224 + c / 4096) b (next (c / 64) ∷ next c ∷ r) s e in
      let f : b ≡ 224 + c / 4096 = sym p.0 in
      triple (next (c / 64)) (next c) r (omega arith, omega arith)
      (λ g. omega arith, λ g. omega arith, λ g. omega arith, λ g. omega arith, omega arith, omega arith)
      (omega arith, omega arith) (sym p.1) u

  of_four : 65536 ≤ c → c < 1114112 → (240 + c / 262144) ∷ next (c / 4096) ∷ next (c / 64) ∷ next c ∷ r ≡ b ∷ s
      → Starts b s
  of_four l h e =
      let p = heads (240 + c / 262144) b (next (c / 4096) ∷ next (c / 64) ∷ next c ∷ r) s e in
      let f : b ≡ 240 + c / 262144 = sym p.0 in
      fourfold (next (c / 4096)) (next (c / 64)) (next c) r (omega arith, omega arith)
      (λ g. omega arith, λ g. omega arith, λ g. omega arith, λ g. omega arith, omega arith, omega arith)
      (omega arith, omega arith) (omega arith, omega arith) (sym p.1) u

  first_char : scalar c ≡ true → encode c ++ r ≡ b ∷ s → Starts b s
  first_char ok e =
      let range = scalar_cases c ok in
      elim (cases_lt c 128) [
        | inl a ↦
            let p = heads c b r s (ap (λ (xs : List ℕ). xs ++ r) (sym (encode_ascii c a)) ∙ e) in
            single (omega arith) (subst IsUtf8 p.1 u)
        | inr a ↦ elim (cases_lt c 2048) [
          | inl h ↦ of_two a h (ap (λ (xs : List ℕ). xs ++ r) (sym (two c a h))
              ∙ e)
          | inr g ↦ elim (cases_lt c 65536) [
            | inl h ↦ of_three g h range (ap (λ (xs : List ℕ). xs ++ r) (sym (three c g h))
                ∙ e)
            | inr h ↦ of_four h (omega arith) (ap (λ (xs : List ℕ). xs ++ r) (sym (four c h))
                ∙ e)
          ]
        ]
      ]

of_chars : (cs : List ℕ) (b : ℕ) (s : List ℕ) → scalars cs ≡ true → encodes cs ≡ b ∷ s → Starts b s
of_chars [] b s ok e = cc
of_chars (c ∷ cs) b s ok e =
    let p = and_parts (scalar c) (scalars cs) ok in
    first_char c b (encodes cs) s (cs, (p.1, refl)) p.0 e

starts : (b : ℕ) (s : List ℕ) → IsUtf8 (b ∷ s) → Starts b s
starts b s u = of_chars u.0 b s u.1.0 u.1.1

-- ---- from the first bytes to a text

cons : (c : ℕ) (front bs : List ℕ) → scalar c ≡ true → encode c ≡ front → IsUtf8 bs → IsUtf8 (front ++ bs)
cons c front bs ok e u = (c ∷ u.0, (rw ok u.1.0, λ i. e i ++ u.1.1 i))

cons_one : (b : ℕ) (bs : List ℕ) → b < 128 → IsUtf8 bs → IsUtf8 (b ∷ bs)
cons_one b bs l u = cons b (b ∷ []) bs (low_scalar b (omega arith)) (encode_ascii b l) u

cons_two : (x y : ℕ) (bs : List ℕ) → 194 ≤ x → x ≤ 223 → 128 ≤ y → y ≤ 191 → IsUtf8 bs → IsUtf8 (x ∷ y ∷ bs)
cons_two x y bs l h f g u =
    let c = (x - 192) * 64 + (y - 128) in
    let p : 192 + c / 64 ≡ x = omega arith in
    let q : next c ≡ y = omega arith in
    cons c (x ∷ y ∷ []) bs (low_scalar c (omega arith)) (two c (omega arith) (omega arith) ∙ (λ k. p k ∷ q k ∷ [])) u

three_bytes : (x y z : ℕ) → 224 ≤ x → IsLater y → IsLater z
    → let c = (x - 224) * 4096 + (y - 128) * 64 + (z - 128) in (224 + c / 4096 ≡ x) × (next (c / 64) ≡ y) × (next c ≡ z)
three_bytes x y z h f g = (omega arith, omega arith, omega arith)

four_bytes : (x y z w : ℕ) → 240 ≤ x → IsLater y → IsLater z → IsLater w
    → let c = (x - 240) * 262144 + (y - 128) * 4096 + (z - 128) * 64 + (w - 128) in (240 + c / 262144 ≡ x)
    × (next (c / 4096) ≡ y) × (next (c / 64) ≡ z) × (next c ≡ w)
four_bytes x y z w h f g j =
    let c = (x - 240) * 262144 + (y - 128) * 4096 + (z - 128) * 64 + (w - 128) in
    let e : c / 64 ≡ (x - 240) * 4096 + (y - 128) * 64 + (z - 128) = omega arith in
    (omega arith, omega arith, rw e (omega arith), omega arith)

either : (b n : ℕ) (P : Type 0) → (b ≡ n → P) → (b ≡ n → ⊥) ⊎ P
either b n P h = elim (cases_eq b n) [ inl e ↦ inr (h e) | inr g ↦ inl g ]

cons_three : (x y z : ℕ) (bs : List ℕ) → 224 ≤ x → x ≤ 239 → IsSecond x y → IsLater z → IsUtf8 bs
    → IsUtf8 (x ∷ y ∷ z ∷ bs)
cons_three x y z bs l h f g u =
    let c = (x - 224) * 4096 + (y - 128) * 64 + (z - 128) in
    let bytes = three_bytes x y z l (f.4, f.5) g in
    let p = bytes.0 in
    let q = bytes.1 in
    let r = bytes.2 in
    let low = either x 224 (160 ≤ y) f.0 in
    let high = either x 237 (y ≤ 159) f.1 in
    let ok : scalar c ≡ true = elim (cases_lt c 55296)
    [ inl a ↦ low_scalar c a | inr a ↦ high_scalar c (omega arith) (omega arith) ] in
    cons c (x ∷ y ∷ z ∷ []) bs ok (three c (omega arith) (omega arith) ∙ (λ k. p k ∷ q k ∷ r k ∷ [])) u

cons_four : (x y z w : ℕ) (bs : List ℕ) → 240 ≤ x → x ≤ 244 → IsSecond x y → IsLater z → IsLater w → IsUtf8 bs
    → IsUtf8 (x ∷ y ∷ z ∷ w ∷ bs)
cons_four x y z w bs l h f g j u =
    let c = (x - 240) * 262144 + (y - 128) * 4096 + (z - 128) * 64 + (w - 128) in
    let bytes = four_bytes x y z w l (f.4, f.5) g j in
    let p = bytes.0 in
    let q = bytes.1 in
    let r = bytes.2 in
    let t = bytes.3 in
    let low = either x 240 (144 ≤ y) f.2 in
    let high = either x 244 (y ≤ 143) f.3 in
    cons c (x ∷ y ∷ z ∷ w ∷ []) bs (high_scalar c (omega arith) (omega arith))
    (four c (omega arith) ∙ (λ k. p k ∷ q k ∷ r k ∷ t k ∷ [])) u

-- ---- what comes after the first byte

to_one : (b : ℕ) (s : List ℕ) → b < 128 → Starts b s → IsUtf8 s
to_one b s l (single h u) = u
to_one b s l (double c t h f e u) = absurd (omega arith)
to_one b s l (triple c d t h f g e u) = absurd (omega arith)
to_one b s l (fourfold c d x t h f g j e u) = absurd (omega arith)

pub after_ascii : (b : ℕ) → b < 128 → NextAfter (λ bytes. IsUtf8 (b ∷ bytes)) (Some Lead)
after_ascii b l = (tt, λ s. (λ u. to_one b s l (starts b s u), λ u. cons_one b s l u))

to_two : (b : ℕ) (s : List ℕ) → 194 ≤ b → b ≤ 223 → Starts b s → GoesOn 128 191 0 s
to_two b s l m (single h u) = absurd (omega arith)
to_two b s l m (double c t h f e u) = subst (GoesOn 128 191 0) (sym e) (f.0, f.1, u)
to_two b s l m (triple c d t h f g e u) = absurd (omega arith)
to_two b s l m (fourfold c d x t h f g j e u) = absurd (omega arith)

from_two : (b : ℕ) (s : List ℕ) → 194 ≤ b → b ≤ 223 → GoesOn 128 191 0 s → IsUtf8 (b ∷ s)
from_two b [] l m g = absurd g
from_two b (c ∷ s) l m g = cons_two b c s l m g.0 g.1 g.2

pub after_two : (b : ℕ) → 194 ≤ b → b ≤ 223 → NextAfter (λ bytes. IsUtf8 (b ∷ bytes)) (Some (Within 128 191 0))
after_two b l m = ((omega arith, omega arith), λ s. (λ u. to_two b s l m (starts b s u), λ g. from_two b s l m g))

-- the bounds are those of the second byte
abbrev AreBounds : ℕ → ℕ → ℕ → Type 0
AreBounds b low high = (c : ℕ) → ((low ≤ c) × (c ≤ high)) ↔ IsSecond b c

to_three : (b low high : ℕ) (s : List ℕ) → AreBounds b low high → 224 ≤ b → b ≤ 239 → Starts b s → GoesOn low high 1 s
to_three b low high s w l m (single h u) = absurd (omega arith)
to_three b low high s w l m (double c t h f e u) = absurd (omega arith)
to_three b low high s w l m (triple c d t h f g e u) =
    let p = (w c).1 f in subst (GoesOn low high 1) (sym e) (p.0, p.1, (g.0, g.1, u))
to_three b low high s w l m (fourfold c d x t h f g j e u) = absurd (omega arith)

from_three : (b low high : ℕ) (s : List ℕ) → AreBounds b low high → 224 ≤ b → b ≤ 239 → GoesOn low high 1 s
    → IsUtf8 (b ∷ s)
from_three b low high [] w l m g = absurd g
from_three b low high (c ∷ []) w l m g = absurd g.2
from_three b low high (c ∷ d ∷ s) w l m g = cons_three b c d s l m ((w c).0 (g.0, g.1)) (g.2.0, g.2.1) g.2.2

after_three : (b low high : ℕ) → low ≤ high → AreBounds b low high → 224 ≤ b → b ≤ 239
    → NextAfter (λ bytes. IsUtf8 (b ∷ bytes)) (Some (Within low high 1))
after_three b low high o w l m =
    ((o, omega arith), λ s. (λ u. to_three b low high s w l m (starts b s u), λ g. from_three b low high s w l m g))

to_four : (b low high : ℕ) (s : List ℕ) → AreBounds b low high → 240 ≤ b → b ≤ 244 → Starts b s → GoesOn low high 2 s
to_four b low high s w l m (single h u) = absurd (omega arith)
to_four b low high s w l m (double c t h f e u) = absurd (omega arith)
to_four b low high s w l m (triple c d t h f g e u) = absurd (omega arith)
to_four b low high s w l m (fourfold c d x t h f g j e u) =
    let p = (w c).1 f in subst (GoesOn low high 2) (sym e) (p.0, p.1, (g.0, g.1, (j.0, j.1, u)))

from_four : (b low high : ℕ) (s : List ℕ) → AreBounds b low high → 240 ≤ b → b ≤ 244 → GoesOn low high 2 s
    → IsUtf8 (b ∷ s)
from_four b low high [] w l m g = absurd g
from_four b low high (c ∷ []) w l m g = absurd g.2
from_four b low high (c ∷ d ∷ []) w l m g = absurd g.2.2
from_four b low high (c ∷ d ∷ e ∷ s) w l m g =
    cons_four b c d e s l m ((w c).0 (g.0, g.1)) (g.2.0, g.2.1) (g.2.2.0, g.2.2.1) g.2.2.2

after_four : (b low high : ℕ) → low ≤ high → AreBounds b low high → 240 ≤ b → b ≤ 244
    → NextAfter (λ bytes. IsUtf8 (b ∷ bytes)) (Some (Within low high 2))
after_four b low high o w l m =
    ((o, omega arith), λ s. (λ u. to_four b low high s w l m (starts b s u), λ g. from_four b low high s w l m g))

no_text : (b : ℕ) (s : List ℕ) → 128 ≤ b → (193 < b → 245 ≤ b) → Starts b s → ⊥
no_text b s l m (single h u) = omega arith
no_text b s l m (double c t h f e u) = omega arith
no_text b s l m (triple c d t h f g e u) = omega arith
no_text b s l m (fourfold c d x t h f g j e u) = omega arith

pub after_no_lead : (b : ℕ) → 128 ≤ b → (193 < b → 245 ≤ b) → NextAfter (λ bytes. IsUtf8 (b ∷ bytes)) None
after_no_lead b l m = λ s u. no_text b s l m (starts b s u)

-- ---- the first bytes that bound the second

bounds_224 : AreBounds 224 160 191
bounds_224 c = (
  λ h. (λ e. h.0, λ e. absurd (omega arith), λ e. absurd (omega arith), λ e. absurd (omega arith), omega arith, h.1),
  λ s. (s.0 refl, s.5),
)

bounds_237 : AreBounds 237 128 159
bounds_237 c = (
  λ h. (λ e. absurd (omega arith), λ e. h.1, λ e. absurd (omega arith), λ e. absurd (omega arith), h.0, omega arith),
  λ s. (s.4, s.1 refl),
)

bounds_240 : AreBounds 240 144 191
bounds_240 c = (
  λ h. (λ e. absurd (omega arith), λ e. absurd (omega arith), λ e. h.0, λ e. absurd (omega arith), omega arith, h.1),
  λ s. (s.2 refl, s.5),
)

bounds_244 : AreBounds 244 128 143
bounds_244 c = (
  λ h. (λ e. absurd (omega arith), λ e. absurd (omega arith), λ e. absurd (omega arith), λ e. h.1, h.0, omega arith),
  λ s. (s.4, s.3 refl),
)

bounds_other : (b : ℕ) → (b ≡ 224 → ⊥) → (b ≡ 237 → ⊥) → (b ≡ 240 → ⊥) → (b ≡ 244 → ⊥) → AreBounds b 128 191
bounds_other b k l m n c =
    (λ h. (λ e. absurd (k e), λ e. absurd (l e), λ e. absurd (m e), λ e. absurd (n e), h.0, h.1), λ s. (s.4, s.5))

module _ (b : ℕ) where
  pub after_224 : b ≡ 224 → NextAfter (λ bytes. IsUtf8 (b ∷ bytes)) (Some (Within 160 191 1))
  after_224 e = after_three b 160 191 (omega arith) (subst (λ (k : ℕ). AreBounds k 160 191) (sym e) bounds_224)
      (omega arith) (omega arith)

  pub after_237 : b ≡ 237 → NextAfter (λ bytes. IsUtf8 (b ∷ bytes)) (Some (Within 128 159 1))
  after_237 e = after_three b 128 159 (omega arith) (subst (λ (k : ℕ). AreBounds k 128 159) (sym e) bounds_237)
      (omega arith) (omega arith)

  pub after_other_three : 224 ≤ b → b ≤ 239 → (b ≡ 224 → ⊥) → (b ≡ 237 → ⊥)
      → NextAfter (λ bytes. IsUtf8 (b ∷ bytes)) (Some (Within 128 191 1))
  after_other_three l m n o = after_three b 128 191 (omega arith)
      (bounds_other b n o (λ e. omega arith) (λ e. omega arith)) l m

  pub after_240 : b ≡ 240 → NextAfter (λ bytes. IsUtf8 (b ∷ bytes)) (Some (Within 144 191 2))
  after_240 e = after_four b 144 191 (omega arith) (subst (λ (k : ℕ). AreBounds k 144 191) (sym e) bounds_240)
      (omega arith) (omega arith)

  pub after_244 : b ≡ 244 → NextAfter (λ bytes. IsUtf8 (b ∷ bytes)) (Some (Within 128 143 2))
  after_244 e = after_four b 128 143 (omega arith) (subst (λ (k : ℕ). AreBounds k 128 143) (sym e) bounds_244)
      (omega arith) (omega arith)

  pub after_other_four : 241 ≤ b → b ≤ 243 → NextAfter (λ bytes. IsUtf8 (b ∷ bytes)) (Some (Within 128 191 2))
  after_other_four l m =
      after_four b 128 191 (omega arith)
      (bounds_other b (λ e. omega arith) (λ e. omega arith) (λ e. omega arith) (λ e. omega arith))
      (omega arith) (omega arith)
