-- The one spelling of a frame, taken apart.
use Rattle.std.proofs.Common.{◌≡◌, ℕ, zero, suc, ◌+◌, ◌/◌, ◌%◌, ◌^◌, ◌<◌, ◌≤◌, ◌↔◌, ◌⊎◌, List, [], ◌∷◌}
use Rattle.std.proofs.Common.{◌++◌, length, drop, get_or, refl, sym, ◌∙◌, subst, ap, inl, inr, arith}
use Rattle.std.proofs.lemmas.Nat.{from_be_bytes-to_be_bytes_2, from_be_bytes-to_be_bytes_4, be_bytes_2, be_bytes_4}
use Rattle.std.specs.Int.{w16, w32, from_be_bytes}
use Rattle.std.specs.List.{AllByRecursion}
use Rattle.std.specs.Str.{IsUtf8}
use Rattle.model.specs.Fields.{u16_bytes, u32_bytes}
use Rattle.model.specs.Ranges.{IsU8, FeedInRange}
use Rattle.model.specs.Spelling.{feed_bytes}
use Rattle.model.specs.Types.{Feed, Events, Orders}
use Rattle.mail_frames.specs.Nexts.{BeginsWith}
use Rattle.mail_frames.specs.Spelling.{kind_of, content_of, frame_bytes, IsFrame}
use Rattle.mail_frames.specs.Spelling.{IsSpelled}
use Rattle.mail_frames.specs.declared.frames.Frame.{Frame}
use Rattle.mail_frames.specs.declared.frames.Frame.TheVariants.{Mail, Ack, Command, Reply}

-- ---- numbers

pub same_u32 : (a b : ℕ) (x y : List ℕ) → a < 2 ^ 32 → b < 2 ^ 32 → u32_bytes a ++ x ≡ u32_bytes b ++ y
    → (a ≡ b) × (x ≡ y)
same_u32 a b x y f g e = (
  sym (from_be_bytes-to_be_bytes_4 a f) ∙ ap (λ (l : List ℕ). from_be_bytes w32 l) e ∙ from_be_bytes-to_be_bytes_4 b g,
  ap (λ (l : List ℕ). drop 4 l) e,
)

pub same_u16 : (a b : ℕ) (x y : List ℕ) → a < 2 ^ 16 → b < 2 ^ 16 → u16_bytes a ++ x ≡ u16_bytes b ++ y → (a ≡ b) × (x ≡ y)
same_u16 a b x y f g e = (
  sym (from_be_bytes-to_be_bytes_2 a f) ∙ ap (λ (l : List ℕ). from_be_bytes w16 l) e ∙ from_be_bytes-to_be_bytes_2 b g,
  ap (λ (l : List ℕ). drop 2 l) e,
)

-- ---- lengths

pub feed_ack_length : (feed : Feed) (count : ℕ)
    → (length (feed_bytes feed ++ u32_bytes count) ≡ 7) ⊎ (length (feed_bytes feed ++ u32_bytes count) ≡ 9)
feed_ack_length (Events w) count = inl refl
feed_ack_length (Orders a w) count = inr refl

pub content_short : (f : Frame) → IsFrame f → length (content_of f) ≤ 4194304
content_short (Mail entry) h = h.1
content_short (Ack feed count) h = let l = feed_ack_length feed count in omega arith
content_short (Command text) h = let l = h.1 in omega arith
content_short (Reply text) h = let l = h.1 in omega arith

-- what a frame's bytes are, with its length at the front
pub opened : (n k : ℕ) (c : List ℕ) (f : Frame) → n < 2 ^ 32 → IsFrame f → u32_bytes n ++ k ∷ c ≡ frame_bytes f
    → (n ≡ 1 + length (content_of f)) × (k ≡ kind_of f) × (c ≡ content_of f)
opened n k c f l h e =
    let short = content_short f h in
    let p = same_u32 n (1 + length (content_of f)) (k ∷ c) (kind_of f ∷ content_of f) l (omega arith) e in
    let same : k ∷ c ≡ kind_of f ∷ content_of f = p.1 in
    (p.0, cc, cc)

-- ---- one frame for one content

pub same_feed : (f g : Feed) (c d : ℕ) → FeedInRange f → FeedInRange g → c < 2 ^ 32 → d < 2 ^ 32
    → feed_bytes f ++ u32_bytes c ≡ feed_bytes g ++ u32_bytes d → Ack f c ≡ Ack g d
same_feed (Events w) (Events v) c d i j k l e =
    let p = same_u16 w v (u32_bytes c) (u32_bytes d) i j (ap (λ (l : List ℕ). drop 1 l) e) in
    let q = same_u32 c d [] [] k l (ap (λ (l : List ℕ). l ++ []) p.1) in
    let r = p.0 in
    let s = q.0 in
    cc
same_feed (Orders a w) (Orders b v) c d i j k l e =
    let p = same_u16 a b (u16_bytes w ++ u32_bytes c) (u16_bytes v ++ u32_bytes d) i.0 j.0
    (ap (λ (l : List ℕ). drop 1 l) e) in
    let q = same_u16 w v (u32_bytes c) (u32_bytes d) i.1 j.1 p.1 in
    let t = same_u32 c d [] [] k l (ap (λ (l : List ℕ). l ++ []) q.1) in
    let r = p.0 in
    let s = q.0 in
    let u = t.0 in
    cc
same_feed (Events w) (Orders b v) c d i j k l e = absurd (omega (arith, ap (λ (l : List ℕ). length l) e))
same_feed (Orders a w) (Events v) c d i j k l e = absurd (omega (arith, ap (λ (l : List ℕ). length l) e))

pub same_frame : (f g : Frame) → IsFrame f → IsFrame g → kind_of f ≡ kind_of g → content_of f ≡ content_of g → f ≡ g
same_frame (Mail x) (Mail y) h i k e = ap Mail e
same_frame (Mail x) (Ack y z) h i k e = absurd (omega arith)
same_frame (Mail x) (Command y) h i k e = absurd (omega arith)
same_frame (Mail x) (Reply y) h i k e = absurd (omega arith)
same_frame (Ack x c) (Mail y) h i k e = absurd (omega arith)
same_frame (Ack x c) (Ack y d) h i k e = same_feed x y c d h.0.0 i.0.0 h.0.1 i.0.1 e
same_frame (Ack x c) (Command y) h i k e = absurd (omega arith)
same_frame (Ack x c) (Reply y) h i k e = absurd (omega arith)
same_frame (Command x) (Mail y) h i k e = absurd (omega arith)
same_frame (Command x) (Ack y d) h i k e = absurd (omega arith)
same_frame (Command x) (Command y) h i k e = ap Command e
same_frame (Command x) (Reply y) h i k e = absurd (omega arith)
same_frame (Reply x) (Mail y) h i k e = absurd (omega arith)
same_frame (Reply x) (Ack y d) h i k e = absurd (omega arith)
same_frame (Reply x) (Command y) h i k e = absurd (omega arith)
same_frame (Reply x) (Reply y) h i k e = ap Reply e

-- lists of one length at the front of one list
pub same_front : (a b x y : List ℕ) → length a ≡ length b → a ++ x ≡ b ++ y → (a ≡ b) × (x ≡ y)
same_front [] [] x y l e = (refl, e)
same_front [] (d ∷ b) x y l e = absurd (omega arith)
same_front (c ∷ a) [] x y l e = absurd (omega arith)
same_front (c ∷ a) (d ∷ b) x y l e =
    let heads : (c ≡ d) × (a ++ x ≡ b ++ y) = (cc, cc) in
    let p = same_front a b x y (omega arith) heads.1 in
    let q = heads.0 in
    let r = p.0 in
    (cc, p.1)

-- No frame begins another: of two lists of bytes that are one, and that begin with a frame, it is the same frame.
pub no_frame_begins_another : (f g : Frame) (x y : List ℕ) → IsFrame f → IsFrame g
    → frame_bytes f ++ x ≡ frame_bytes g ++ y → (f ≡ g) × (x ≡ y)
no_frame_begins_another f g x y h i e =
    let s = content_short f h in
    let t = content_short g i in
    let p = same_u32 (1 + length (content_of f)) (1 + length (content_of g)) (kind_of f ∷ content_of f ++ x)
    (kind_of g ∷ content_of g ++ y) (omega arith) (omega arith) e in
    let heads : (kind_of f ≡ kind_of g) × (content_of f ++ x ≡ content_of g ++ y) = (let q = p.1 in (cc, cc)) in
    let r = same_front (content_of f) (content_of g) x y (omega (arith, p.0)) heads.1 in
    (same_frame f g h i heads.0 r.0, r.1)

pub frame_length : (f : Frame) → length (frame_bytes f) ≡ 5 + length (content_of f)
frame_length f = omega arith

-- ---- what stands behind a kind

pub by_mail : (n : ℕ) (s : List ℕ) (f : Frame) → n < 2 ^ 32 → IsFrame f → u32_bytes n ++ 1 ∷ s ≡ frame_bytes f
    → (length s + 1 ≡ n) × AllByRecursion IsU8 s
by_mail n s (Mail entry) l h e =
    let p = opened n 1 s (Mail entry) l h e in
    (omega (arith, p.0, ap (λ (b : List ℕ). length b) p.2), subst (AllByRecursion IsU8) (sym p.2) h.0)
by_mail n s (Ack feed count) l h e = let p = opened n 1 s (Ack feed count) l h e in absurd (omega (arith, p.1))
by_mail n s (Command text) l h e = let p = opened n 1 s (Command text) l h e in absurd (omega (arith, p.1))
by_mail n s (Reply text) l h e = let p = opened n 1 s (Reply text) l h e in absurd (omega (arith, p.1))

pub behind_mail : (n : ℕ) (s : List ℕ) → n ≤ 4194305
    → IsSpelled (u32_bytes n ++ 1 ∷ s) ↔ ((length s + 1 ≡ n) × AllByRecursion IsU8 s)
behind_mail n s l = (
  λ h. by_mail n s h.0 (omega arith) h.1.0 h.1.1,
  λ h. (Mail s, ((h.1, omega (arith, h.0)), ap (λ (k : ℕ). u32_bytes k ++ 1 ∷ s) (omega (arith, h.0)))),
)

by_command : (n : ℕ) (s : List ℕ) (f : Frame) → n < 2 ^ 32 → IsFrame f → u32_bytes n ++ 3 ∷ s ≡ frame_bytes f
    → (length s + 1 ≡ n) × IsUtf8 s × (length s ≤ 4096)
by_command n s (Mail entry) l h e = let p = opened n 3 s (Mail entry) l h e in absurd (omega (arith, p.1))
by_command n s (Ack feed count) l h e = let p = opened n 3 s (Ack feed count) l h e in absurd (omega (arith, p.1))
by_command n s (Command text) l h e =
    let p = opened n 3 s (Command text) l h e in
    let q = ap (λ (b : List ℕ). length b) p.2 in
    (omega (arith, p.0, q), subst IsUtf8 (sym p.2) h.0, omega (arith, q, h.1))
by_command n s (Reply text) l h e = let p = opened n 3 s (Reply text) l h e in absurd (omega (arith, p.1))

pub behind_command : (n : ℕ) (s : List ℕ) → n ≤ 4097
    → IsSpelled (u32_bytes n ++ 3 ∷ s) ↔ ((length s + 1 ≡ n) × IsUtf8 s)
behind_command n s l = (
  λ h. (let p = by_command n s h.0 (omega arith) h.1.0 h.1.1 in (p.0, p.1)),
  λ h. (Command s, ((h.1, omega (arith, h.0)), ap (λ (k : ℕ). u32_bytes k ++ 3 ∷ s) (omega (arith, h.0)))),
)

by_reply : (n : ℕ) (s : List ℕ) (f : Frame) → n < 2 ^ 32 → IsFrame f → u32_bytes n ++ 4 ∷ s ≡ frame_bytes f
    → (length s + 1 ≡ n) × IsUtf8 s × (length s ≤ 1048576)
by_reply n s (Mail entry) l h e = let p = opened n 4 s (Mail entry) l h e in absurd (omega (arith, p.1))
by_reply n s (Ack feed count) l h e = let p = opened n 4 s (Ack feed count) l h e in absurd (omega (arith, p.1))
by_reply n s (Command text) l h e = let p = opened n 4 s (Command text) l h e in absurd (omega (arith, p.1))
by_reply n s (Reply text) l h e =
    let p = opened n 4 s (Reply text) l h e in
    let q = ap (λ (b : List ℕ). length b) p.2 in
    (omega (arith, p.0, q), subst IsUtf8 (sym p.2) h.0, omega (arith, q, h.1))

pub behind_reply : (n : ℕ) (s : List ℕ) → n ≤ 1048577
    → IsSpelled (u32_bytes n ++ 4 ∷ s) ↔ ((length s + 1 ≡ n) × IsUtf8 s)
behind_reply n s l = (
  λ h. (let p = by_reply n s h.0 (omega arith) h.1.0 h.1.1 in (p.0, p.1)),
  λ h. (Reply s, ((h.1, omega (arith, h.0)), ap (λ (k : ℕ). u32_bytes k ++ 4 ∷ s) (omega (arith, h.0)))),
)

pub no_reply : (n : ℕ) (s : List ℕ) → 1048577 < n → n ≤ 4194305 → IsSpelled (u32_bytes n ++ 4 ∷ s) → ⊥
no_reply n s l m h = let p = by_reply n s h.0 (omega arith) h.1.0 h.1.1 in omega (arith, p.0, p.2)

byte : (i n : ℕ) → n / 256 ^ i % 256 < 256
byte i n = omega arith

events_tail : (w c : ℕ) → BeginsWith 0 (feed_bytes (Events w) ++ u32_bytes c)
events_tail w c = (refl, (omega arith, (omega arith, (omega arith, (omega arith, (omega arith, (omega arith, tt)))))))

orders_tail : (a w c : ℕ) → BeginsWith 1 (feed_bytes (Orders a w) ++ u32_bytes c)
orders_tail a w c = (
  refl,
  (
    omega arith,
    (omega arith, (omega arith, (omega arith, (omega arith, (omega arith, (omega arith, (omega arith, tt))))))),
  ),
)

-- what an acknowledgement of this length has
Tagged : ℕ → List ℕ → Type 0
Tagged n s = ((n ≡ 8) × (length s ≡ 7) × BeginsWith 0 s) ⊎ ((n ≡ 10) × (length s ≡ 9) × BeginsWith 1 s)

by_feed : (n : ℕ) (s : List ℕ) (feed : Feed) (count : ℕ) → n ≡ 1 + length (feed_bytes feed ++ u32_bytes count)
    → s ≡ feed_bytes feed ++ u32_bytes count → Tagged n s
unfolding Tagged
by_feed n s (Events w) count l e =
    inl (omega arith, ap (λ (b : List ℕ). length b) e, subst (BeginsWith 0) (sym e) (events_tail w count))
by_feed n s (Orders a w) count l e =
    inr (omega arith, ap (λ (b : List ℕ). length b) e, subst (BeginsWith 1) (sym e) (orders_tail a w count))

by_ack : (n : ℕ) (s : List ℕ) (f : Frame) → n < 2 ^ 32 → IsFrame f → u32_bytes n ++ 2 ∷ s ≡ frame_bytes f → Tagged n s
by_ack n s (Mail entry) l h e = let p = opened n 2 s (Mail entry) l h e in absurd (omega (arith, p.1))
by_ack n s (Ack feed count) l h e = let p = opened n 2 s (Ack feed count) l h e in by_feed n s feed count p.0 p.2
by_ack n s (Command text) l h e = let p = opened n 2 s (Command text) l h e in absurd (omega (arith, p.1))
by_ack n s (Reply text) l h e = let p = opened n 2 s (Reply text) l h e in absurd (omega (arith, p.1))

bytes_of : (l : List ℕ) → AllByRecursion IsU8 l → (i : ℕ) → get_or l i 0 < 256
bytes_of [] h i = omega arith
bytes_of (x ∷ l) h zero = h.0
bytes_of (x ∷ l) h (suc i) = bytes_of l h.1 i

number_u16 : (a b : ℕ) → a < 256 → b < 256 → let n = from_be_bytes w16 (a ∷ b ∷ []) in (n < 2 ^ 16)
    × (a ∷ b ∷ [] ≡ u16_bytes n)
number_u16 a b l m = (
  omega arith,
  sym
      (be_bytes_2 (a ∷ b ∷ []) (from_be_bytes w16 (a ∷ b ∷ [])) refl (bytes_of (a ∷ b ∷ []) (l, (m, tt))) refl),
)

number_u32 : (a b c d : ℕ) → a < 256 → b < 256 → c < 256 → d < 256 → let n = from_be_bytes w32 (a ∷ b ∷ c ∷ d ∷ [])
    in (n < 2 ^ 32) × (a ∷ b ∷ c ∷ d ∷ [] ≡ u32_bytes n)
number_u32 a b c d i j k l = (
  omega arith,
  sym (be_bytes_4 (a ∷ b ∷ c ∷ d ∷ []) (from_be_bytes w32 (a ∷ b ∷ c ∷ d ∷ [])) refl
      (bytes_of (a ∷ b ∷ c ∷ d ∷ []) (i, (j, (k, (l, tt))))) refl),
)

events_from : (s : List ℕ) → length s ≡ 7 → BeginsWith 0 s
    → (w n : ℕ) × (w < 2 ^ 16) × (n < 2 ^ 32) × (s ≡ feed_bytes (Events w) ++ u32_bytes n)
events_from [] l m = absurd (omega arith)
events_from (t ∷ []) l m = absurd (omega arith)
events_from (t ∷ a ∷ []) l m = absurd (omega arith)
events_from (t ∷ a ∷ b ∷ []) l m = absurd (omega arith)
events_from (t ∷ a ∷ b ∷ c ∷ []) l m = absurd (omega arith)
events_from (t ∷ a ∷ b ∷ c ∷ d ∷ []) l m = absurd (omega arith)
events_from (t ∷ a ∷ b ∷ c ∷ d ∷ e ∷ []) l m = absurd (omega arith)
events_from (t ∷ a ∷ b ∷ c ∷ d ∷ e ∷ f ∷ []) l m =
    let p = number_u16 a b m.1.0 m.1.1.0 in
    let rest = m.1.1.1 in
    let q = number_u32 c d e f rest.0 rest.1.0 rest.1.1.0 rest.1.1.1.0 in
    (from_be_bytes w16 (a ∷ b ∷ []), from_be_bytes w32 (c ∷ d ∷ e ∷ f ∷ []), p.0, q.0, λ i. m.0 i ∷ (p.1 i ++ q.1 i))
events_from (t ∷ a ∷ b ∷ c ∷ d ∷ e ∷ f ∷ j ∷ r) l m = absurd (omega arith)

orders_from : (s : List ℕ) → length s ≡ 9 → BeginsWith 1 s
    → (v w n : ℕ) × (v < 2 ^ 16) × (w < 2 ^ 16) × (n < 2 ^ 32) × (s ≡ feed_bytes (Orders v w) ++ u32_bytes n)
orders_from [] l m = absurd (omega arith)
orders_from (t ∷ []) l m = absurd (omega arith)
orders_from (t ∷ a ∷ []) l m = absurd (omega arith)
orders_from (t ∷ a ∷ b ∷ []) l m = absurd (omega arith)
orders_from (t ∷ a ∷ b ∷ c ∷ []) l m = absurd (omega arith)
orders_from (t ∷ a ∷ b ∷ c ∷ d ∷ []) l m = absurd (omega arith)
orders_from (t ∷ a ∷ b ∷ c ∷ d ∷ e ∷ []) l m = absurd (omega arith)
orders_from (t ∷ a ∷ b ∷ c ∷ d ∷ e ∷ f ∷ []) l m = absurd (omega arith)
orders_from (t ∷ a ∷ b ∷ c ∷ d ∷ e ∷ f ∷ g ∷ []) l m = absurd (omega arith)
orders_from (t ∷ a ∷ b ∷ c ∷ d ∷ e ∷ f ∷ g ∷ h ∷ []) l m =
    let p = number_u16 a b m.1.0 m.1.1.0 in
    let second = m.1.1.1 in
    let o = number_u16 c d second.0 second.1.0 in
    let rest = second.1.1 in
    let q = number_u32 e f g h rest.0 rest.1.0 rest.1.1.0 rest.1.1.1.0 in (
      from_be_bytes w16 (a ∷ b ∷ []),
      from_be_bytes w16 (c ∷ d ∷ []),
      from_be_bytes w32 (e ∷ f ∷ g ∷ h ∷ []),
      p.0,
      o.0,
      q.0,
      λ i. m.0 i ∷ (p.1 i ++ (o.1 i ++ q.1 i)),
    )
orders_from (t ∷ a ∷ b ∷ c ∷ d ∷ e ∷ f ∷ g ∷ h ∷ j ∷ r) l m = absurd (omega arith)

pub behind_events : (s : List ℕ) → IsSpelled (u32_bytes 8 ++ 2 ∷ s) ↔ ((length s ≡ 7) × BeginsWith 0 s)
unfolding Tagged
behind_events s = (
  λ h. elim (by_ack 8 s h.0 (omega arith) h.1.0 h.1.1) [ inl p ↦ (p.1, p.2) | inr p ↦ absurd (omega arith) ],
  λ h. (
      let p = events_from s h.0 h.1 in
      (Ack (Events p.0) p.1, (((p.2, p.3), tt), ap (λ (r : List ℕ). u32_bytes 8 ++ 2 ∷ r) p.4))
      ),
)

pub behind_orders : (s : List ℕ) → IsSpelled (u32_bytes 10 ++ 2 ∷ s) ↔ ((length s ≡ 9) × BeginsWith 1 s)
unfolding Tagged
behind_orders s = (
  λ h. elim (by_ack 10 s h.0 (omega arith) h.1.0 h.1.1) [ inl p ↦ absurd (omega arith) | inr p ↦ (p.1, p.2) ],
  λ h. (
      let p = orders_from s h.0 h.1 in
      (Ack (Orders p.0 p.1) p.2, ((((p.3, p.4), p.5), tt), ap (λ (r : List ℕ). u32_bytes 10 ++ 2 ∷ r) p.6))
      ),
)
