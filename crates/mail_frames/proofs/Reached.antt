-- Places of a frame: what brings one to the next, and that a frame can be completed from each.
use Rattle.std.proofs.Common.{◌≡◌, ℕ, suc, ◌+◌, ◌-◌, ◌*◌, ◌/◌, ◌%◌, ◌<◌, ◌≤◌, ◌↔◌, List, [], ◌∷◌, ◌++◌}
use Rattle.std.proofs.Common.{length, replicate, take, refl, sym, ◌∙◌, subst, ap, arith}
use Rattle.std.proofs.Common.{length-append, append_assoc, add-one, slice_index_or}
use Rattle.std.proofs.Math.Seq.{take-suc}
use Rattle.std.proofs.lemmas.List.{append-nil, length-replicate}
use Rattle.std.specs.Prelude.{Some}
use Rattle.model.specs.Fields.{u32_bytes}
use Rattle.mail_frames.specs.Spelling.{IsSpelled}
use Rattle.mail_frames.specs.Streams.{IsFront}
use Rattle.mail_frames.specs.Nexts.{Follows, due, NextAfter}
use Rattle.mail_frames.specs.Places.{Completes, IsReached, ScannedAfter, Scans}
use Rattle.mail_frames.specs.Pieces.{IsAt, Breaks}
use Rattle.mail_frames.specs.declared.nexts.Next.{Next}
use Rattle.mail_frames.specs.declared.nexts.Next.TheVariants.{Any, Exactly, Lead}
use Rattle.mail_frames.specs.declared.places.Place.{Place}
use Rattle.mail_frames.specs.declared.places.Place.TheVariants.{Start, One, Two, Three, Kind, Content}
use Rattle.mail_frames.specs.declared.places.Scanned.{Scanned}
use Rattle.mail_frames.specs.declared.places.Scanned.TheVariants.{Open, Whole, Bad}
use Rattle.mail_frames.proofs.Contents.{can_come, follows_long, zeros}
use Rattle.mail_frames.proofs.Spelled.{behind_mail, behind_command, behind_reply}
use Rattle.mail_frames.proofs.Spelled.{behind_events, behind_orders, content_short, frame_length}

-- ---- the same rests have the same places

pub seen_alike : (P Q : List ℕ → Type 0) (seen : Scanned) → ((bytes : List ℕ) → P bytes ↔ Q bytes) → ScannedAfter Q seen
    → ScannedAfter P seen
seen_alike P Q (Open place) w h = (h.0, λ b. (λ p. (h.1 b).0 ((w b).0 p), λ q. (w b).1 ((h.1 b).1 q)))
seen_alike P Q Whole w h = λ b. (λ p. (h b).0 ((w b).0 p), λ q. (w b).1 ((h b).1 q))
seen_alike P Q Bad w h = λ b p. h b ((w b).0 p)

-- ---- one byte further

pub one_further : (start place : Place) (bytes : List ℕ) (i d : ℕ) (seen : Scanned) → i < length bytes
    → ((rest : List ℕ) → Completes start (take i bytes ++ rest) ↔ Completes place rest)
    → ScannedAfter (λ rest. Completes place (slice_index_or bytes i d ∷ rest)) seen
    → ScannedAfter (λ rest. Completes start (take (i + 1) bytes ++ rest)) seen
one_further start place bytes i d seen low so_far h =
    let x = slice_index_or bytes i d in
    let more : take (i + 1) bytes ≡ take i bytes ++ x ∷ [] = ap (λ n. take n bytes) (add-one i) ∙ take-suc bytes i d low in
    seen_alike (λ rest. Completes start (take (i + 1) bytes ++ rest)) (λ rest. Completes place (x ∷ rest)) seen
    (λ rest. (let e : take (i + 1) bytes ++ rest ≡ take i bytes ++ (x ∷ rest) =
    ap (λ (l : List ℕ). l ++ rest) more ∙ append_assoc (take i bytes) (x ∷ []) rest in
    subst (λ (l : List ℕ). Completes start l ↔ Completes place (x ∷ rest)) (sym e) (so_far (x ∷ rest)))) h

-- ---- behind a kind

pub mail_seen : (n : ℕ) (seen : Scanned) → 1 ≤ n → n ≤ 4194305
    → ScannedAfter (λ bytes. Completes (Content (n - 1) Any) bytes) seen
    → ScannedAfter (λ bytes. Completes (Kind n) (1 ∷ bytes)) seen
mail_seen n seen l m h =
    seen_alike (λ b. Completes (Kind n) (1 ∷ b)) (λ b. Completes (Content (n - 1) Any) b) seen
    (λ b. (let w = behind_mail n b m in
    (λ p. (let q = w.0 p in (omega (arith, q.0), q.1)), λ p. w.1 (omega (arith, p.0), p.1)))) h

pub command_seen : (n : ℕ) (seen : Scanned) → 1 ≤ n → n ≤ 4097
    → ScannedAfter (λ bytes. Completes (Content (n - 1) Lead) bytes) seen
    → ScannedAfter (λ bytes. Completes (Kind n) (3 ∷ bytes)) seen
command_seen n seen l m h =
    seen_alike (λ b. Completes (Kind n) (3 ∷ b)) (λ b. Completes (Content (n - 1) Lead) b) seen
    (λ b. (let w = behind_command n b m in
    (λ p. (let q = w.0 p in (omega (arith, q.0), q.1)), λ p. w.1 (omega (arith, p.0), p.1)))) h

pub reply_seen : (n : ℕ) (seen : Scanned) → 1 ≤ n → n ≤ 1048577
    → ScannedAfter (λ bytes. Completes (Content (n - 1) Lead) bytes) seen
    → ScannedAfter (λ bytes. Completes (Kind n) (4 ∷ bytes)) seen
reply_seen n seen l m h =
    seen_alike (λ b. Completes (Kind n) (4 ∷ b)) (λ b. Completes (Content (n - 1) Lead) b) seen
    (λ b. (let w = behind_reply n b m in
    (λ p. (let q = w.0 p in (omega (arith, q.0), q.1)), λ p. w.1 (omega (arith, p.0), p.1)))) h

pub events_seen : (n : ℕ) (seen : Scanned) → n ≡ 8
    → ScannedAfter (λ bytes. Completes (Content (n - 1) (Exactly 0)) bytes) seen
    → ScannedAfter (λ bytes. Completes (Kind n) (2 ∷ bytes)) seen
events_seen n seen e =
    let P : ℕ → Type 0 = λ k. ScannedAfter (λ b. Completes (Content (k - 1) (Exactly 0)) b) seen → ScannedAfter
    (λ b. Completes (Kind k) (2 ∷ b)) seen in
    subst P (sym e) (λ h. seen_alike (λ b. Completes (Kind 8) (2 ∷ b)) (λ b. Completes (Content 7 (Exactly 0)) b)
    seen behind_events h)

pub orders_seen : (n : ℕ) (seen : Scanned) → n ≡ 10
    → ScannedAfter (λ bytes. Completes (Content (n - 1) (Exactly 1)) bytes) seen
    → ScannedAfter (λ bytes. Completes (Kind n) (2 ∷ bytes)) seen
orders_seen n seen e =
    let P : ℕ → Type 0 = λ k. ScannedAfter (λ b. Completes (Content (k - 1) (Exactly 1)) b) seen → ScannedAfter
    (λ b. Completes (Kind k) (2 ∷ b)) seen in
    subst P (sym e) (λ h. seen_alike (λ b. Completes (Kind 10) (2 ∷ b)) (λ b. Completes (Content 9 (Exactly 1)) b)
    seen behind_orders h)

-- ---- in a content

pub no_room : (left b : ℕ) (now next : Next) → left - 1 < due next
    → NextAfter (λ bytes. Follows now (b ∷ bytes)) (Some next)
    → ScannedAfter (λ bytes. Completes (Content left now) (b ∷ bytes)) Bad
no_room left b now next l h = λ s p. (let q = follows_long next s ((h.1 s).0 p.1) in omega (arith, p.0, q))

module _ (n : ℕ) (low : 1 ≤ n) (high : n ≤ 4194305) where
  mail_of : IsSpelled (u32_bytes n ++ 1 ∷ replicate (n - 1) 0)
  mail_of = (behind_mail n (replicate (n - 1) 0) high).1
      (omega (arith, length-replicate {A = ℕ} (n - 1) 0), zeros (n - 1))

completed_two : (a : ℕ) → a ≤ 64 → (bytes : List ℕ) × (0 < length bytes) × Completes (Two a) bytes
completed_two a l =
    let n = 65536 * a + 1 in
    let rest = n / 256 % 256 ∷ n % 256 ∷ 1 ∷ replicate (n - 1) 0 in
    let p : n / 16777216 % 256 ≡ 0 = omega arith in
    let q : n / 65536 % 256 ≡ a = omega arith in
    (rest, omega arith, subst IsSpelled (λ i. p i ∷ q i ∷ rest) (mail_of n (omega arith) (omega arith)))

completed_three : (a b : ℕ) → 256 * a + b ≤ 16384 → b < 256
    → (bytes : List ℕ) × (0 < length bytes) × Completes (Three a b) bytes
completed_three a b l m =
    let n = 65536 * a + 256 * b + 1 in
    let rest = n % 256 ∷ 1 ∷ replicate (n - 1) 0 in
    let p : n / 16777216 % 256 ≡ 0 = omega arith in
    let q : n / 65536 % 256 ≡ a = omega arith in
    let r : n / 256 % 256 ≡ b = omega arith in
    (rest, omega arith, subst IsSpelled (λ i. p i ∷ q i ∷ r i ∷ rest) (mail_of n (omega arith) (omega arith)))

pub completed : (place : Place) → IsReached place → (bytes : List ℕ) × (0 < length bytes) × Completes place bytes
completed Start h = (0 ∷ 0 ∷ 0 ∷ 1 ∷ 1 ∷ [], omega arith, mail_of 1 (omega arith) (omega arith))
completed One h = (0 ∷ 0 ∷ 1 ∷ 1 ∷ [], omega arith, mail_of 1 (omega arith) (omega arith))
completed (Two a) h = completed_two a h
completed (Three a b) h = completed_three a b h.0 h.1
completed (Kind n) h = (1 ∷ replicate (n - 1) 0, omega arith, mail_of n h.0 h.1)
completed (Content left next) h =
    let p = can_come next left h.2 h.1 in (p.0, omega (arith, p.1, h.0), (p.1, p.2))

-- ---- the unfinished frame

pub at_front : (place : Place) (kept : List ℕ) → IsAt place kept → IsFront kept
at_front place kept h =
    let p = completed place h.0 in
    let q = (h.1 p.0).1 p.2 in
    (q.0, p.0, p.1, q.1)

pub front_short : (kept : List ℕ) → IsFront kept → length kept ≤ 4194309
front_short kept h =
    let f = h.0 in
    let short = content_short f h.3.0 in
    let e = ap (λ (b : List ℕ). length b) h.3.1 in
    omega (arith, short, e, frame_length f, length-append kept h.1)

pub start_at : IsAt Start []
start_at = (tt, λ b. (λ p. p, λ p. p))

-- ---- one byte further, and so many

pub carry : (place : Place) (kept bytes : List ℕ) (seen : Scanned) → IsAt place kept
    → ScannedAfter (λ rest. Completes place (bytes ++ rest)) seen
    → ScannedAfter (λ rest. IsSpelled ((kept ++ bytes) ++ rest)) seen
carry place kept bytes seen h k =
    seen_alike (λ rest. IsSpelled ((kept ++ bytes) ++ rest)) (λ rest. Completes place (bytes ++ rest)) seen
    (λ rest. (
      λ p. (h.1 (bytes ++ rest)).0 (subst IsSpelled (append_assoc kept bytes rest) p),
      λ p. subst IsSpelled (sym (append_assoc kept bytes rest)) ((h.1 (bytes ++ rest)).1 p),
    )) k

pub is_whole : (bytes : List ℕ) → ScannedAfter (λ rest. IsSpelled (bytes ++ rest)) Whole → IsSpelled bytes
is_whole bytes h = subst IsSpelled (append-nil bytes) ((h []).1 refl)

pub take_past : (xs ys : List ℕ) (n : ℕ) → take (length xs + n) (xs ++ ys) ≡ xs ++ take n ys
take_past [] ys n = ap (λ (k : ℕ). take k ys) (omega arith)
take_past (x ∷ xs) ys n =
    let e : length (x ∷ xs) + n ≡ suc (length xs + n) = omega arith in
    ap (λ (k : ℕ). take k (x ∷ (xs ++ ys))) e ∙ ap (λ (l : List ℕ). x ∷ l) (take_past xs ys n)

pub scan_breaks : (place : Place) (kept piece : List ℕ) (count : ℕ) → IsAt place kept → Scans place piece count Bad
    → Breaks (kept ++ piece) (length kept + count)
scan_breaks place kept piece count h s =
    let next = s.1.0 in
    let front : IsFront (kept ++ take count piece) = at_front next (kept ++ take count piece)
    (carry place kept (take count piece) (Open next) h s.1.1) in
    let more : length kept + count + 1 ≡ length kept + (count + 1) = omega arith in
    let bad = carry place kept (take (count + 1) piece) Bad h s.2 in
    record {
      within = omega (arith, s.0, length-append kept piece);
      good = subst IsFront (sym (take_past kept piece count)) front;
      broken = λ rest p. bad rest
          (subst (λ (x : List ℕ). IsSpelled (x ++ rest))
          (ap (λ (k : ℕ). take k (kept ++ piece)) more ∙ take_past kept piece (count + 1)) p);
    }

-- ---- a frame from its beginning on

pub scan_open : (bytes : List ℕ) (count : ℕ) (seen : Scanned) (place : Place) → Scans Start bytes count seen
    → seen ≡ Open place → IsAt place bytes
scan_open bytes count seen place h e =
    (let s : Scans Start bytes count (Open place) = subst (Scans Start bytes count) e h in s.1)

pub scan_whole : (bytes : List ℕ) (count : ℕ) (seen : Scanned) → Scans Start bytes count seen → seen ≡ Whole
    → IsSpelled (take count bytes)
scan_whole bytes count seen h e =
    (let s : Scans Start bytes count Whole = subst (Scans Start bytes count) e h in is_whole (take count bytes) s.2)

pub scan_broken : (bytes : List ℕ) (count : ℕ) (seen : Scanned) → Scans Start bytes count seen → seen ≡ Bad
    → Breaks bytes count
scan_broken bytes count seen h e =
    let none : length (let xs : List ℕ = [] in xs) + count ≡ count = omega arith in
    subst (Breaks bytes) none (scan_breaks Start [] bytes count start_at (subst (Scans Start bytes count) e h))

-- ---- a piece behind an unfinished frame

pub piece_whole : (place : Place) (kept piece : List ℕ) (count : ℕ) (seen : Scanned) → IsAt place kept
    → Scans place piece count seen → seen ≡ Whole → IsSpelled (kept ++ take count piece)
piece_whole place kept piece count seen h s e =
    (
    let t : Scans place piece count Whole = subst (Scans place piece count) e s in
    is_whole (kept ++ take count piece) (carry place kept (take count piece) Whole h t.2)
    )

pub piece_broken : (place : Place) (kept piece : List ℕ) (count : ℕ) (seen : Scanned) → IsAt place kept
    → Scans place piece count seen → seen ≡ Bad → Breaks (kept ++ piece) (length kept + count)
piece_broken place kept piece count seen h s e = scan_breaks place kept piece count h
    (subst (Scans place piece count) e s)
