-- A frame from its bytes: the kind is the fifth of them, and the content what follows.
use Rattle.std.proofs.Common.{◌≡◌, ℕ, zero, suc, ◌+◌, ◌-◌, ◌<◌, ◌≤◌, List, [], ◌∷◌, ◌++◌, length, take, drop}
use Rattle.std.proofs.Common.{get_or, sym, ◌∙◌, subst, ap, arith}
use Rattle.std.proofs.lemmas.List.{take_rest}
use Rattle.std.specs.List.{AllByRecursion}
use Rattle.model.specs.Fields.{u32_bytes}
use Rattle.model.specs.Ranges.{IsU8, IsU32, FeedInRange}
use Rattle.model.specs.Spelling.{feed_bytes}
use Rattle.model.specs.Types.{Feed}
use Rattle.mail_frames.specs.Spelling.{kind_of, content_of, frame_bytes, IsSendable, FrameBytes, IsSpelled}
use Rattle.mail_frames.specs.Spelling.{IsAckContent}
use Rattle.mail_frames.specs.declared.frames.Frame.{Frame}
use Rattle.mail_frames.specs.declared.frames.Frame.TheVariants.{Mail, Ack, Command, Reply}
use Rattle.mail_frames.proofs.Spelled.{frame_length}

-- ---- the content of bytes in two parts

drop_past : (xs ys : List ℕ) (n : ℕ) → drop (length xs + n) (xs ++ ys) ≡ drop n ys
drop_past [] ys n = ap (λ (k : ℕ). drop k ys) (omega arith)
drop_past (x ∷ xs) ys n =
    let e : length (x ∷ xs) + n ≡ suc (length xs + n) = omega arith in
    ap (λ (k : ℕ). drop k (x ∷ (xs ++ ys))) e ∙ drop_past xs ys n

pub content_behind : (front back : List ℕ) → length front < 5
    → take (length back - (5 - length front)) (drop (5 - length front) back) ≡ drop 5 (front ++ back)
content_behind front back l =
    let n = 5 - length front in
    let e : length front + n ≡ 5 = omega arith in
    take_rest back n ∙ sym (drop_past front back n) ∙ ap (λ (k : ℕ). drop k (front ++ back)) e

-- ---- what the bytes of a frame have

pub spelled_long : (bytes : List ℕ) → IsSpelled bytes → 5 ≤ length bytes
spelled_long bytes h = omega (arith, ap (λ (b : List ℕ). length b) h.1.1, frame_length h.0)

kind_is : (bytes : List ℕ) (f : Frame) → bytes ≡ frame_bytes f → get_or bytes 4 0 ≡ kind_of f
kind_is bytes f e = ap (λ (b : List ℕ). get_or b 4 0) e

content_is : (bytes : List ℕ) (f : Frame) → bytes ≡ frame_bytes f → drop 5 bytes ≡ content_of f
content_is bytes f e = ap (λ (b : List ℕ). drop 5 b) e

ack_by : (bytes : List ℕ) (f : Frame) → FrameBytes f bytes → get_or bytes 4 0 ≡ 2 → IsAckContent (drop 5 bytes)
ack_by bytes (Mail entry) h k = absurd (omega (arith, kind_is bytes (Mail entry) h.1))
ack_by bytes (Ack feed count) h k = (feed, count, h.0.0.0, h.0.0.1, content_is bytes (Ack feed count) h.1)
ack_by bytes (Command text) h k = absurd (omega (arith, kind_is bytes (Command text) h.1))
ack_by bytes (Reply text) h k = absurd (omega (arith, kind_is bytes (Reply text) h.1))

pub ack_content : (bytes content : List ℕ) → IsSpelled bytes → get_or bytes 4 0 ≡ 2 → content ≡ drop 5 bytes
    → IsAckContent content
ack_content bytes content h k e = subst IsAckContent (sym e) (ack_by bytes h.0 h.1 k)

-- the bytes, by their fifth and what follows it
shape : (bytes : List ℕ) (f : Frame) → bytes ≡ frame_bytes f
    → bytes ≡ u32_bytes (1 + length (drop 5 bytes)) ++ get_or bytes 4 0 ∷ drop 5 bytes
shape bytes f e =
    let k = kind_is bytes f e in
    let c = content_is bytes f e in
    e ∙ sym (λ i. u32_bytes (1 + length (c i)) ++ k i ∷ c i)

pub all_bytes : (l : List ℕ) → ((i : ℕ) → get_or l i 0 < 256) → AllByRecursion IsU8 l
all_bytes [] h = tt
all_bytes (x ∷ l) h = (h zero, all_bytes l (λ i. h (suc i)))

pub mail_written : (f : Frame) (entry content bytes : List ℕ) → f ≡ Mail entry → content ≡ entry
    → AllByRecursion IsU8 content → IsSendable f
    → bytes ≡ u32_bytes (1 + length content) ++ 1 ∷ content → FrameBytes f bytes
mail_written f entry content bytes is same range short e =
    let whole : FrameBytes (Mail content) bytes =
    ((range, subst IsSendable (is ∙ ap Mail (sym same)) short), e) in
    subst (λ (g : Frame). FrameBytes g bytes) (ap Mail same ∙ sym is) whole

pub ack_written : (f : Frame) (feed : Feed) (count : ℕ) (content bytes : List ℕ) → f ≡ Ack feed count
    → content ≡ feed_bytes feed ++ u32_bytes count → FeedInRange feed × IsU32 count
    → bytes ≡ u32_bytes (1 + length content) ++ 2 ∷ content → FrameBytes f bytes
ack_written f feed count content bytes is same range e =
    let whole : FrameBytes (Ack feed count) bytes =
    ((range, tt), e ∙ ap (λ (c : List ℕ). u32_bytes (1 + length c) ++ 2 ∷ c) same) in
    subst (λ (g : Frame). FrameBytes g bytes) (sym is) whole
