-- What a piece does to all that was taken before it.
use Rattle.std.proofs.Common.{◌≡◌, ℕ, ◌+◌, ◌≤◌, List, [], ◌∷◌, ◌++◌, length, take, drop, refl, sym, ◌∙◌}
use Rattle.std.proofs.Common.{subst, ap, arith, length-append, append_assoc, length-drop, take-append-drop}
use Rattle.std.proofs.lemmas.List.{append-nil}
use Rattle.std.specs.Prelude.{Option, Some, None}
use Rattle.mail_frames.specs.Spelling.{frame_bytes, FrameBytes}
use Rattle.mail_frames.specs.Streams.{AreFrames, spelling, AreFramesOf, told, IsBadAt, IsFront}
use Rattle.mail_frames.specs.Decoding.{Decoding, TookBy, Took}
use Rattle.mail_frames.specs.Pieces.{EndsAs, Feeds, Breaks, IsAt, Reads, TailIs, told_behind}
use Rattle.mail_frames.specs.declared.frames.Frame.{Frame}
use Rattle.mail_frames.specs.declared.places.Place.{Place}
use Rattle.mail_frames.specs.declared.places.Place.TheVariants.{Start}
use Rattle.mail_frames.proofs.Reached.{at_front, start_at}
use Rattle.mail_frames.proofs.Streams.{AreFrames-append, spelling-append, frames_of_good, begins, frames_of_broken}
use Rattle.mail_frames.proofs.Streams.{bad_at_broken, frames_stay, fault_stays, nothing_is_front}

-- ---- what was taken has these frames and that fault

took_by_frames : (bad : Option ℕ) (d : Decoding) (stream : List ℕ) (given : List Frame) → TookBy bad d stream given
    → AreFramesOf stream given
took_by_frames None d stream given h = subst (λ (s : List ℕ). AreFramesOf s given) (sym h.1)
    (frames_of_good given d.rest h.0 h.2)
took_by_frames (Some place) d stream given h = h.0

took_by_fault : (bad : Option ℕ) (d : Decoding) (stream : List ℕ) (given : List Frame) → TookBy bad d stream given
    → IsBadAt stream bad
took_by_fault None d stream given h = subst (λ (s : List ℕ). IsBadAt s None) (sym h.1) (begins given d.rest h.0 h.2)
took_by_fault (Some place) d stream given h = h.1

pub took_frames : (d : Decoding) (stream : List ℕ) (given : List Frame) → Took d stream given → AreFramesOf stream given
took_frames d stream given h = took_by_frames d.bad d stream given h

pub took_fault : (d : Decoding) (stream : List ℕ) (given : List Frame) → Took d stream given → IsBadAt stream d.bad
took_fault d stream given h = took_by_fault d.bad d stream given h

-- ---- a piece of a good stream

told_more : (n k : ℕ) → told (told n + k) ≡ told (n + k)
told_more n k = omega arith

module _ (old new : Decoding) (piece stream : List ℕ) (frames given : List Frame) (bad : Option ℕ)
    (fed : Feeds old piece frames bad new) (took : TookBy None old stream given) where
  whole : stream ++ piece ≡ spelling (given ++ frames) ++ fed.rest
  whole =
      ap (λ (s : List ℕ). s ++ piece) took.1 ∙ append_assoc (spelling given) old.rest piece
      ∙ ap (λ (s : List ℕ). spelling given ++ s) fed.stand
      ∙ sym (append_assoc (spelling given) (spelling frames) fed.rest)
      ∙ ap (λ (s : List ℕ). s ++ fed.rest) (sym (spelling-append given frames))

  each : AreFrames (given ++ frames)
  each = AreFrames-append given frames took.0 fed.each

  taken : new.taken ≡ told (length (stream ++ piece))
  taken =
      fed.taken ∙ ap (λ (n : ℕ). told (n + length piece)) took.3 ∙ told_more (length stream) (length piece)
      ∙ ap told (sym (length-append stream piece))

  ended : (fault : Option ℕ) → EndsAs old.taken piece fed.rest fault new.rest
      → TookBy fault new (stream ++ piece) (given ++ frames)
  ended None h = (
    each,
    whole ∙ ap (λ (s : List ℕ). spelling (given ++ frames) ++ s) (sym h.0),
    subst IsFront
        (sym h.0) h.1,
    taken,
  )
  ended (Some place) h =
      let count = h.0 in
      let size = ap (λ (s : List ℕ). length s) whole in
      let at_place : place ≡ told (length (spelling (given ++ frames)) + count) =
      h.4 ∙ ap (λ (n : ℕ). told (n + h.1)) took.3 ∙ told_more (length stream) h.1
      ∙ ap told (omega (
        arith,
        h.3,
        size,
        length-append stream piece,
        length-append (spelling (given ++ frames))
            fed.rest,
      )) in (
        subst (λ (s : List ℕ). AreFramesOf s (given ++ frames)) (sym whole)
            (frames_of_broken (given ++ frames) fed.rest count each h.2),
        subst (λ (s : List ℕ). IsBadAt s (Some place)) (sym whole)
            (subst (λ (n : ℕ). IsBadAt (spelling (given ++ frames) ++ fed.rest) (Some n)) (sym at_place)
            (bad_at_broken (given ++ frames) fed.rest count each h.2)),
      )

pub took_more : (old new : Decoding) (piece stream : List ℕ) (frames given : List Frame) (bad : Option ℕ)
    → old.bad ≡ None → Feeds old piece frames bad new → Took old stream given
    → Took new (stream ++ piece) (given ++ frames)
took_more old new piece stream frames given bad e fed took =
    ended old new piece stream frames given bad fed (subst (λ (b : Option ℕ). TookBy b old stream given) e took)
    new.bad fed.ends

module _ (old new : Decoding) (piece : List ℕ) (frames : List Frame) (bad : Option ℕ) (e : old.bad ≡ None)
    (fed : Feeds old piece frames bad new) where
  pub frames_more : (stream : List ℕ) → (given : List Frame) → Took old stream given
      → AreFramesOf (stream ++ piece) (given ++ frames)
  frames_more stream given took =
      took_frames new (stream ++ piece) (given ++ frames) (took_more old new piece stream frames given bad e fed took)

  pub fault_more : (stream : List ℕ) → (given : List Frame) → Took old stream given → IsBadAt (stream ++ piece) bad
  fault_more stream given took =
      subst (λ (o : Option ℕ). IsBadAt (stream ++ piece) o) (sym fed.says)
      (took_fault new (stream ++ piece) (given ++ frames) (took_more old new piece stream frames given bad e fed took))

-- ---- a piece after a fault

spent_by : (bad : Option ℕ) (place : ℕ) (d : Decoding) (piece stream : List ℕ) (given : List Frame)
    → bad ≡ Some place → TookBy bad d stream given → TookBy bad d (stream ++ piece) (given ++ [])
spent_by None place d piece stream given e h = cc
spent_by (Some at_byte) place d piece stream given e h = (
  subst (λ (g : List Frame). AreFramesOf (stream ++ piece) g) (sym (append-nil given))
      (frames_stay stream piece given h.0 h.1.0),
  fault_stays stream piece at_byte h.1,
)

pub took_spent : (d : Decoding) (place : ℕ) (piece stream : List ℕ) (given : List Frame) → d.bad ≡ Some place
    → Took d stream given → Took d (stream ++ piece) (given ++ [])
took_spent d place piece stream given e h = spent_by d.bad place d piece stream given e h

pub took_nothing : (d : Decoding) → d.rest ≡ [] → d.taken ≡ 0 → d.bad ≡ None → Took d [] []
took_nothing d r t b =
    subst (λ (o : Option ℕ). TookBy o d [] []) (sym b)
    (tt, sym r, subst IsFront (sym r) nothing_is_front, t)

-- ---- the three ends of a piece

pub feeds_open : (old new : Decoding) (piece : List ℕ) (frames : List Frame) (bad : Option ℕ) → frames ≡ []
    → bad ≡ None → new.bad ≡ None → new.rest ≡ old.rest ++ piece → IsFront (old.rest ++ piece)
    → new.taken ≡ told (old.taken + length piece) → Feeds old piece frames bad new
feeds_open old new piece frames bad none no_fault good rest front taken =
    subst (λ (fs : List Frame). Feeds old piece fs bad new) (sym none) record {
      says = no_fault ∙ sym good;
      rest = old.rest ++ piece;
      each = tt;
      stand = refl;
      taken = taken;
      ends = subst (λ (o : Option ℕ). EndsAs old.taken piece (old.rest ++ piece) o new.rest) (sym good) (rest, front);
    }

pub feeds_broken : (old new : Decoding) (piece : List ℕ) (count : ℕ) (frames : List Frame) (bad : Option ℕ)
    → frames ≡ [] → Breaks (old.rest ++ piece) (length old.rest + count) → bad ≡ new.bad
    → new.bad ≡ Some (told (old.taken + count)) → new.taken ≡ told (old.taken + length piece)
    → Feeds old piece frames bad new
feeds_broken old new piece count frames bad none breaks says fault taken =
    subst (λ (fs : List Frame). Feeds old piece fs bad new) (sym none) record {
      says = says;
      rest = old.rest ++ piece;
      each = tt;
      stand = refl;
      taken = taken;
      ends =
          subst (λ (o : Option ℕ). EndsAs old.taken piece (old.rest ++ piece) o new.rest) (sym fault)
          (length old.rest + count, count, breaks, omega (arith, length-append old.rest piece), refl);
    }

end_behind : (from count : ℕ) (piece rest kept : List ℕ) (place : Place) (bad : Option ℕ) → count ≤ length piece
    → TailIs (drop count piece) rest place kept bad → EndsAs from piece rest (told_behind from count bad) kept
end_behind from count piece rest kept place None l h = (h.0, at_front place rest h.1)
end_behind from count piece rest kept place (Some at_byte) l h =
    (h.2.0, count + at_byte, h.2.1, omega (arith, h.2.2, length-drop count piece, l), refl)

pub feeds_whole : (old new : Decoding) (piece : List ℕ) (count : ℕ) (f : Frame) (first frames : List Frame)
    (place : Place) (kept : List ℕ) (tail_bad bad : Option ℕ)
    → count ≤ length piece → FrameBytes f (old.rest ++ take count piece) → first ≡ f ∷ []
    → Reads (drop count piece) first frames place kept tail_bad → new.rest ≡ kept → bad ≡ new.bad
    → new.bad ≡ told_behind old.taken count tail_bad → new.taken ≡ told (old.taken + length piece)
    → Feeds old piece frames bad new
feeds_whole old new piece count f first frames place kept tail_bad bad l whole one reads rest says fault taken =
    let added : frames ≡ f ∷ reads.frames = reads.added ∙ ap (λ (fs : List Frame). fs ++ reads.frames) one in
    let stand : old.rest ++ piece ≡ spelling (f ∷ reads.frames) ++ reads.rest =
    ap (λ (b : List ℕ). old.rest ++ b) (sym (take-append-drop count piece))
    ∙ sym (append_assoc old.rest (take count piece) (drop count piece))
    ∙ (λ i. whole.1 i ++ reads.stand i) ∙ sym (append_assoc (frame_bytes f) (spelling reads.frames) reads.rest) in
    subst (λ (fs : List Frame). Feeds old piece fs bad new) (sym added) record {
      says = says;
      rest = reads.rest;
      each = (whole.0, reads.each);
      stand = stand;
      taken = taken;
      ends =
          subst (λ (o : Option ℕ). EndsAs old.taken piece reads.rest o new.rest) (sym fault)
          (subst (λ (k : List ℕ). EndsAs old.taken piece reads.rest (told_behind old.taken count tail_bad) k) (sym rest)
          (end_behind old.taken count piece reads.rest kept place tail_bad l reads.ends));
    }

-- ---- frames from the beginning of one on

abbrev pub ReadSoFar : List ℕ → List Frame → List Frame → List ℕ → Type 0
ReadSoFar bytes old new rest =
    (frames : List Frame) × AreFrames frames × (new ≡ old ++ frames) × (bytes ≡ spelling frames ++ rest)

pub read_none : (bytes : List ℕ) (old : List Frame) → ReadSoFar bytes old old bytes
read_none bytes old = ([], tt, sym (append-nil old), refl)

pub read_more : (bytes rest whole more : List ℕ) (old now new : List Frame) (f : Frame)
    → ReadSoFar bytes old now rest → rest ≡ whole ++ more → FrameBytes f whole → new ≡ now ++ f ∷ []
    → ReadSoFar bytes old new more
read_more bytes rest whole more old now new f h split w e = (
  h.0 ++ f ∷ [],
  AreFrames-append h.0 (f ∷ []) h.1 (w.0, tt),
  e ∙ ap (λ (fs : List Frame). fs ++ f ∷ []) h.2 ∙ append_assoc old h.0 (f ∷ []),
  h.3 ∙ ap (λ (b : List ℕ). spelling h.0 ++ b)
      (split ∙ ap (λ (b : List ℕ). b ++ more) (w.1 ∙ sym (append-nil (frame_bytes f))))
      ∙ sym (append_assoc (spelling h.0) (frame_bytes f ++ []) more) ∙ ap (λ (b : List ℕ). b ++ more)
      (sym (spelling-append h.0 (f ∷ []))),
)

pub read_bad : (bytes rest kept : List ℕ) (old now : List Frame) (count at_byte : ℕ) → ReadSoFar bytes old now rest
    → kept ≡ [] → Breaks rest count → at_byte + length rest ≡ length bytes + count
    → Reads bytes old now Start kept (Some at_byte)
read_bad bytes rest kept old now count at_byte h e b l =
    record { frames = h.0; rest = rest; each = h.1; added = h.2; stand = h.3; ends = (e, refl, (count, b, l)) }

pub read_left : (bytes rest : List ℕ) (old now : List Frame) → ReadSoFar bytes old now rest → length rest ≤ length bytes
read_left bytes rest old now h = omega (arith, ap (λ (b : List ℕ). length b) h.3, length-append (spelling h.0) rest)

ends_at : (bytes rest kept : List ℕ) (place : Place) (bad : Option ℕ) → TailIs bytes rest place kept bad
    → IsAt place kept
ends_at bytes rest kept place None h = subst (IsAt place) (sym h.0) h.1
ends_at bytes rest kept place (Some at_byte) h =
    subst (λ (p : Place). IsAt p kept) (sym h.1) (subst (IsAt Start) (sym h.0) start_at)

pub reads_at : (bytes kept : List ℕ) (old new : List Frame) (place : Place) (bad : Option ℕ)
    → Reads bytes old new place kept bad → IsAt place kept
reads_at bytes kept old new place bad h = ends_at bytes h.rest kept place bad h.ends
