-- Streams: what a list of frames and an unfinished one say of all the bytes.
use Rattle.std.proofs.Common.{◌≡◌, ℕ, ◌+◌, ◌<◌, ◌≤◌, List, [], ◌∷◌, ◌++◌, length, take, drop}
use Rattle.std.proofs.Common.{get_or, refl, sym, ◌∙◌, subst, ap, inl, inr, arith, length-append, append_assoc}
use Rattle.std.proofs.Common.{take-append-drop}
use Rattle.std.proofs.lemmas.Bool.{cases_lt}
use Rattle.std.proofs.lemmas.List.{append-nil, take_more, length-take-le}
use Rattle.std.proofs.lemmas.List.Concat.{flat_map-append}
use Rattle.std.specs.Prelude.{Some}
use Rattle.mail_frames.specs.Spelling.{frame_bytes, IsFrame, IsSpelled}
use Rattle.mail_frames.specs.Streams.{AreFrames, spelling, Begins, IsLongest, AreAllWhole, AreFramesOf, told}
use Rattle.mail_frames.specs.Streams.{IsBadAt, IsFront}
use Rattle.mail_frames.specs.Pieces.{Breaks}
use Rattle.mail_frames.specs.declared.frames.Frame.{Frame}
use Rattle.mail_frames.specs.declared.frames.Frame.TheVariants.{Mail}
use Rattle.mail_frames.proofs.Spelled.{no_frame_begins_another, same_front}

-- ---- lists of frames

pub AreFrames-append : (fs gs : List Frame) → AreFrames fs → AreFrames gs → AreFrames (fs ++ gs)
AreFrames-append [] gs h i = i
AreFrames-append (f ∷ fs) gs h i = (h.0, AreFrames-append fs gs h.1 i)

pub spelling-append : (fs gs : List Frame) → spelling (fs ++ gs) ≡ spelling fs ++ spelling gs
spelling-append fs gs = flat_map-append frame_bytes fs gs

-- the longer of two fronts of one list goes on behind the shorter
pub split_front : (us xs vs ys : List ℕ) → length us ≤ length xs → xs ++ ys ≡ us ++ vs
    → (z : List ℕ) × (xs ≡ us ++ z) × (z ++ ys ≡ vs)
split_front [] xs vs ys l e = (xs, refl, e)
split_front (u ∷ us) [] vs ys l e = absurd (omega arith)
split_front (u ∷ us) (x ∷ xs) vs ys l e =
    let heads : (x ≡ u) × (xs ++ ys ≡ us ++ vs) = (cc, cc) in
    let p = split_front us xs vs ys (omega arith) heads.1 in
    (p.0, λ i. heads.0 i ∷ p.1 i, p.2)

-- ---- less than a frame

pub front_no_frame : (front : List ℕ) → IsFront front → (f : Frame) (more : List ℕ) → IsFrame f
    → front ≡ frame_bytes f ++ more → ⊥
front_no_frame front h f more i e =
    let g = h.0 in
    let rest = h.1 in
    let same : frame_bytes f ++ (more ++ rest) ≡ frame_bytes g ++ [] =
    sym (append_assoc (frame_bytes f) more rest) ∙ ap (λ (x : List ℕ). x ++ rest) (sym e) ∙ h.3.1
    ∙ sym (append-nil (frame_bytes g)) in
    let p = no_frame_begins_another f g (more ++ rest) [] i h.3.0 same in
    let none = ap (λ (x : List ℕ). length x) p.1 in
    omega (arith, h.2, none, length-append more rest)

pub nothing_is_front : IsFront []
nothing_is_front = (Mail [], frame_bytes (Mail []), omega arith, ((tt, omega arith), refl))

pub all_whole : (fs : List Frame) (rest : List ℕ) → AreFrames fs → IsFront rest → AreAllWhole (spelling fs ++ rest) fs
all_whole fs rest h i = record { rest = rest; each = h; stand = refl; last = front_no_frame rest i }

pub begins : (fs : List Frame) (rest : List ℕ) → AreFrames fs → IsFront rest → Begins (spelling fs ++ rest)
begins fs rest h i =
    let f = i.0 in
    let more = i.1 in (
      fs ++ f ∷ [],
      more,
      AreFrames-append fs (f ∷ []) h (i.3.0, tt),
      append_assoc (spelling fs) rest more ∙ ap (λ (x : List ℕ). spelling fs ++ x)
          (i.3.1 ∙ sym (append-nil (frame_bytes f)))
          ∙ sym (spelling-append fs (f ∷ [])),
    )

longest_self : (good : List ℕ) → Begins good → IsLongest good good
longest_self good h = record {
  rest = [];
  stands = sym (append-nil good);
  begins = h;
  longest = λ longer more e b. omega (arith, length-append longer more, ap (λ (x : List ℕ). length x) e);
}

pub frames_of_good : (fs : List Frame) (rest : List ℕ) → AreFrames fs → IsFront rest
    → AreFramesOf (spelling fs ++ rest) fs
frames_of_good fs rest h i =
    (spelling fs ++ rest, longest_self (spelling fs ++ rest) (begins fs rest h i), all_whole fs rest h i)

-- ---- a broken frame

-- bytes that no frame begins with, and that are a front without their last one, begin no list of frames
no_frames_begin : (front bad : List ℕ) (gs : List Frame) (y : List ℕ) → IsFront front
    → length bad ≡ length front + 1 → ((more : List ℕ) → IsSpelled (bad ++ more) → ⊥) → (z : List ℕ)
    → front ++ z ≡ bad → AreFrames gs → bad ++ y ≡ spelling gs → ⊥
no_frames_begin front bad [] y i l broken z e h w = omega (arith, ap (λ (x : List ℕ). length x) w, length-append bad y)
no_frames_begin front bad (g ∷ gs) y i l broken z e h w =
    elim (cases_lt (length front) (length (frame_bytes g))) [
      | inl short ↦ (
          let p = split_front bad (frame_bytes g) y (spelling gs) (omega arith) (sym w) in
          broken p.0 (g, (h.0, sym p.1))
          )
      | inr long ↦ (
          let same : front ++ (z ++ y) ≡ frame_bytes g ++ spelling gs = sym (append_assoc front z y)
          ∙ ap (λ (x : List ℕ). x ++ y) e ∙ w in
          let p = split_front (frame_bytes g) front (spelling gs) (z ++ y) long same in
          front_no_frame front i g p.0 h.0 p.1
          )
    ]

no_list_begins : (fs : List Frame) (front bad : List ℕ) (gs : List Frame) (y : List ℕ) → AreFrames fs
    → IsFront front → length bad ≡ length front + 1 → ((more : List ℕ) → IsSpelled (bad ++ more) → ⊥) → (z : List ℕ)
    → front ++ z ≡ bad → AreFrames gs → (spelling fs ++ bad) ++ y ≡ spelling gs → ⊥
no_list_begins [] front bad gs y k i l broken z e h w = no_frames_begin front bad gs y i l broken z e h w
no_list_begins (f ∷ fs) front bad [] y k i l broken z e h w =
    omega (
      arith,
      ap (λ (x : List ℕ). length x) w,
      length-append ((frame_bytes f ++ spelling fs) ++ bad) y,
      length-append (frame_bytes f ++ spelling fs) bad,
      l,
    )
no_list_begins (f ∷ fs) front bad (g ∷ gs) y k i l broken z e h w =
    let regrouped : frame_bytes f ++ ((spelling fs ++ bad) ++ y) ≡ frame_bytes g ++ spelling gs =
    sym (append_assoc (frame_bytes f) (spelling fs ++ bad) y) ∙ ap (λ (x : List ℕ). x ++ y)
    (sym (append_assoc (frame_bytes f) (spelling fs) bad)) ∙ w in
    let p = no_frame_begins_another f g ((spelling fs ++ bad) ++ y) (spelling gs) k.0 h.0 regrouped in
    no_list_begins fs front bad gs y k.1 i l broken z e h.1 p.1

module _ (fs : List Frame) (rest : List ℕ) (count : ℕ) (each : AreFrames fs) (b : Breaks rest count) where
  good : List ℕ
  good = spelling fs ++ take count rest

  bad : List ℕ
  bad = take (count + 1) rest

  none_begins : (gs : List Frame) (y : List ℕ) → AreFrames gs → (spelling fs ++ bad) ++ y ≡ spelling gs → ⊥
  unfolding bad
  none_begins gs y h w =
      no_list_begins fs (take count rest) bad gs y each b.good
      (omega (
        arith,
        length-take-le count rest (omega (arith, b.within)),
        length-take-le (count + 1) rest
            (omega (arith, b.within)),
      ))
      b.broken (get_or rest count 0 ∷ []) (sym (take_more rest count 0 b.within)) h w

  -- what is longer than the good bytes goes through the bad one
  longer_bad : (longer more : List ℕ) → spelling fs ++ rest ≡ longer ++ more → length good < length longer
      → Begins longer → ⊥
  unfolding good bad
  longer_bad longer more e l h =
      let whole : (spelling fs ++ bad) ++ drop (count + 1) rest ≡ spelling fs ++ rest =
      append_assoc (spelling fs) bad (drop (count + 1) rest) ∙ ap (λ (x : List ℕ). spelling fs ++ x)
      (take-append-drop (count + 1) rest) in
      let size : length (spelling fs ++ bad) ≤ length longer =
      omega (
        arith,
        length-append (spelling fs) bad,
        length-append (spelling fs) (take count rest),
        length-take-le
            count rest (omega (arith, b.within)),
        length-take-le (count + 1) rest (omega (arith, b.within)),
        l,
      ) in
      let p = split_front (spelling fs ++ bad) longer (drop (count + 1) rest) more size (sym e ∙ sym whole) in
      none_begins h.0 (p.0 ++ h.1) h.2 (
      sym (append_assoc (spelling fs ++ bad) p.0 h.1) ∙ ap (λ (x : List ℕ). x ++ h.1) (sym p.1)
      ∙ h.3)

  good_longest : IsLongest (spelling fs ++ rest) good
  unfolding good
  good_longest = record {
    rest = drop count rest;
    stands =
        ap (λ (x : List ℕ). spelling fs ++ x) (sym (take-append-drop count rest))
        ∙ sym (append_assoc (spelling fs) (take count rest) (drop count rest));
    begins = begins fs (take count rest) each b.good;
    longest = λ longer more e h. elim (cases_lt (length good) (length longer))
        [ inl l ↦ absurd (longer_bad longer more e l h) | inr l ↦ l ];
  }

  pub frames_of_broken : AreFramesOf (spelling fs ++ rest) fs
  unfolding good
  frames_of_broken = (good, good_longest, all_whole fs (take count rest) each b.good)

  pub bad_at_broken : IsBadAt (spelling fs ++ rest) (Some (told (length (spelling fs) + count)))
  unfolding good
  bad_at_broken =
      let size : length good ≡ length (spelling fs) + count =
      length-append (spelling fs) (take count rest) ∙ ap (λ (n : ℕ). length (spelling fs) + n)
      (length-take-le count rest (omega (arith, b.within))) in (
        λ h. longer_bad (spelling fs ++ rest) [] (sym (append-nil (spelling fs ++ rest)))
            (omega (arith, size, length-append (spelling fs) rest, b.within)) h,
        good,
        good_longest,
        ap told (sym size),
      )

-- ---- further bytes after a fault

shorter_begins : (shorter more : List ℕ) → Begins (shorter ++ more) → Begins shorter
shorter_begins shorter more h = (h.0, more ++ h.1, h.2, sym (append_assoc shorter more h.1) ∙ h.3)

longest_more : (stream good more : List ℕ) → IsLongest stream good → (Begins stream → ⊥)
    → IsLongest (stream ++ more) good
longest_more stream good more h no_list = record {
  rest = h.rest ++ more;
  stands = ap (λ (x : List ℕ). x ++ more) h.stands ∙ append_assoc good h.rest more;
  begins = h.begins;
  longest = λ longer rest e b. elim (cases_lt (length longer) (length stream)) [
    | inl l ↦ (let p = split_front longer stream rest more (omega arith) e in h.longest longer p.0 p.1 b)
    | inr l ↦ (
        let p = split_front stream longer more rest l (sym e) in
        absurd (no_list (shorter_begins stream p.0 (subst Begins p.1 b)))
        )
  ];
}

pub frames_stay : (stream more : List ℕ) (given : List Frame) → AreFramesOf stream given → (Begins stream → ⊥)
    → AreFramesOf (stream ++ more) given
frames_stay stream more given h no_list = (h.0, longest_more stream h.0 more h.1 no_list, h.2)

pub fault_stays : (stream more : List ℕ) (place : ℕ) → IsBadAt stream (Some place)
    → IsBadAt (stream ++ more) (Some place)
fault_stays stream more place h =
    (λ b. h.0 (shorter_begins stream more b), h.1, longest_more stream h.1 more h.2 h.0, h.3)

-- ---- one reading of a stream

same_whole : (fs gs : List Frame) (x y : List ℕ) → AreFrames fs → AreFrames gs
    → ((f : Frame) (more : List ℕ) → IsFrame f → x ≡ frame_bytes f ++ more → ⊥)
    → ((f : Frame) (more : List ℕ) → IsFrame f → y ≡ frame_bytes f ++ more → ⊥)
    → spelling fs ++ x ≡ spelling gs ++ y → fs ≡ gs
same_whole [] [] x y h i k l e = refl
same_whole [] (g ∷ gs) x y h i k l e = absurd
    (k g (spelling gs ++ y) i.0 (e ∙ append_assoc (frame_bytes g) (spelling gs) y))
same_whole (f ∷ fs) [] x y h i k l e = absurd
    (l f (spelling fs ++ x) h.0 (sym e ∙ append_assoc (frame_bytes f) (spelling fs) x))
same_whole (f ∷ fs) (g ∷ gs) x y h i k l e =
    let p = no_frame_begins_another f g (spelling fs ++ x) (spelling gs ++ y) h.0 i.0
    (sym (append_assoc (frame_bytes f) (spelling fs) x) ∙ e ∙ append_assoc (frame_bytes g) (spelling gs) y) in
    let q = same_whole fs gs x y h.1 i.1 k l p.1 in
    λ i. p.0 i ∷ q i

pub one_reading : (stream : List ℕ) (fs gs : List Frame) → AreFramesOf stream fs → AreFramesOf stream gs → fs ≡ gs
one_reading stream fs gs h i =
    let a = h.1.longest i.0 i.1.rest i.1.stands i.1.begins in
    let b = i.1.longest h.0 h.1.rest h.1.stands h.1.begins in
    let good = same_front h.0 i.0 h.1.rest i.1.rest (omega arith) (sym h.1.stands ∙ i.1.stands) in
    same_whole fs gs h.2.rest i.2.rest h.2.each i.2.each h.2.last i.2.last (sym h.2.stand ∙ good.0 ∙ i.2.stand)
