-- What is heard of each workstation once the stream of one of them has changed.
use Rattle.std.proofs.Common.{[], ap, ℕ, ◌∙◌, ◌==◌, ◌≡◌, ◌≢◌, ◌++◌, ◌∷◌, inl, inr, Bool, List, None, Option, Some, cond, false, get_or}
use Rattle.std.proofs.Common.{length, refl, subst, subst₂, sym, true}
use Rattle.std.proofs.Math.Seq.{take-append_seam}
use Rattle.std.proofs.lemmas.Bool.{eq-eqb}
use Rattle.std.proofs.lemmas.Bool.Decides.{eqb_tells}
use Rattle.std.proofs.lemmas.List.Folds.{find-append}
use Rattle.std.proofs.lemmas.Option.{get_or_from_slice_get}
use Rattle.std.specs.List.{list_any}
use Rattle.std.specs.Option.{option_or}
use Rattle.std.specs.Prelude.{slice_set}
use Rattle.lemmas.proofs.Numbers.{eq_apart}
use Rattle.lemmas.proofs.Lists.{get_last}
use Rattle.model.specs.Words.{with_at}
use Rattle.mail_frames.specs.declared.decoders.Fed.{Fed}
use Rattle.mail_frames.specs.declared.frames.Frame.{Frame}
use Rattle.mail_frames.specs.Decoding.{Decoding, Took}
use Rattle.mail_frames.specs.Streams.{AreFramesOf, IsBadAt}
use Rattle.node_loop.specs.declared.streams.Stream.{Stream}
use Rattle.node_loop.specs.Heard.{AreHeard, Completes, Heard, IsHeardBy, heard_more, nothing_heard, stream_of}
use Rattle.node_loop.specs.Placed.{IsFirst}
use Rattle.node_loop.proofs.Finding.{found_first, found_past, found_put, none_passes}

-- its stream has taken this, and those of the others what was heard of them
heard_with : (streams : List Stream) (x : ℕ) (more : Heard) (heard : ℕ → Heard) → IsHeardBy (stream_of streams x) more
    → ((v : ℕ) → v ≢ x → IsHeardBy (stream_of streams v) (heard v)) → AreHeard streams (with_at x more heard)
heard_with streams x more heard its others v = elim (eqb_tells v x) [
  | inl e ↦
      subst₂ IsHeardBy (ap (stream_of streams) (sym e.1)) (sym (ap (λ (b : Bool). cond b more (heard v)) e.0)) its
  | inr e ↦
      subst (IsHeardBy (stream_of streams v)) (sym (ap (λ (b : Bool). cond b more (heard v)) e.0)) (others v e.1)
]

-- the stream of a workstation is another one now
pub heard_at : (streams : List Stream) (x i : ℕ) (s : Stream) (more : Heard) (heard : ℕ → Heard) → IsFirst streams x i
    → s.ws ≡ x → Took s.decoder more.bytes more.frames → AreHeard streams heard
    → AreHeard (slice_set streams i s) (with_at x more heard)
heard_at streams x i s more heard first its took are =
    heard_with (slice_set streams i s) x more heard
    (subst (λ (o : Option Stream). IsHeardBy o more)
    (sym (found_put (λ (t : Stream). t.ws == x) streams i first.stream s first.there (eq-eqb s.ws x its) first.none_before))
    took)
    (λ v apart.
    subst (λ (o : Option Stream). IsHeardBy o (heard v))
    (sym (found_past (λ (t : Stream). t.ws == v) streams i first.stream s first.there
    (eq_apart first.stream.ws v (λ e. apart (sym e ∙ first.its))) (eq_apart s.ws v (λ e. apart (sym e ∙ its)))))
    (are v))

-- the first stream of a workstation took what was heard of it
took_at : (streams : List Stream) (x i : ℕ) (heard : ℕ → Heard) → (first : IsFirst streams x i)
    → AreHeard streams heard → Took first.stream.decoder (heard x).bytes (heard x).frames
took_at streams x i heard first are =
    subst (λ (o : Option Stream). IsHeardBy o (heard x))
    (found_first (λ (t : Stream). t.ws == x) streams i first.stream first.there (eq-eqb first.stream.ws x first.its)
    first.none_before)
    (are x)

-- a new stream stands behind the others
pub new_first : (streams : List Stream) (x : ℕ) (s : Stream) → stream_of streams x ≡ None → s.ws ≡ x
    → IsFirst (streams ++ s ∷ []) x (length streams)
new_first streams x s none its =
    let p = λ (t : Stream). t.ws == x in
    record {
      stream = s;
      there = get_last streams s;
      its = its;
      none_before =
          subst (λ (l : List Stream). list_any p l ≡ false) (sym (take-append_seam streams (s ∷ [])))
          (none_passes p streams none);
    }

-- a stream behind the others is found where none of them is
found_new : (streams : List Stream) (s : Stream) (v : ℕ) → stream_of (streams ++ s ∷ []) v
    ≡ option_or (stream_of streams v) (cond (s.ws == v) (Some s) None)
found_new streams s v = find-append (λ (t : Stream). t.ws == v) streams (s ∷ [])

or_none : (o : Option Stream) → option_or o None ≡ o
or_none None = refl
or_none (Some s) = refl

-- nothing was heard of whom the new stream is, and what was heard of the others stays
heard_behind : (streams : List Stream) (s : Stream) (heard : ℕ → Heard) (v : ℕ) (b : Bool) → (s.ws == v) ≡ b
    → (b ≡ true → stream_of streams v ≡ None) → Took s.decoder [] [] → IsHeardBy (stream_of streams v) (heard v)
    → IsHeardBy (stream_of (streams ++ s ∷ []) v) (heard v)
heard_behind streams s heard v true its missing took was =
    let none = missing refl in
    let nothing : heard v ≡ nothing_heard = subst (λ (o : Option Stream). IsHeardBy o (heard v)) none was in
    subst₂ IsHeardBy
    (sym (found_new streams s v ∙ ap (λ (o : Option Stream). option_or o (cond (s.ws == v) (Some s) None)) none
    ∙ ap (λ (b : Bool). cond b (Some s) None) its))
    (sym nothing) took
heard_behind streams s heard v false its missing took was =
    subst (λ (o : Option Stream). IsHeardBy o (heard v))
    (sym (found_new streams s v ∙ ap (λ (b : Bool). option_or (stream_of streams v) (cond b (Some s) None)) its
    ∙ or_none (stream_of streams v)))
    was

pub heard_new : (streams : List Stream) (x : ℕ) (s : Stream) (heard : ℕ → Heard) → stream_of streams x ≡ None
    → s.ws ≡ x → Took s.decoder [] [] → AreHeard streams heard → AreHeard (streams ++ s ∷ []) heard
heard_new streams x s heard none its took are v =
    heard_behind streams s heard v (s.ws == v) refl (λ e. subst (λ (w : ℕ). stream_of streams w ≡ None) (same e) none) took
    (are v)
  where
    same : (s.ws == v) ≡ true → x ≡ v
    same e = elim (eqb_tells s.ws v) [ inl t ↦ sym its ∙ t.1 | inr t ↦ cc ]

-- the first stream of a workstation took more, and nothing else changed
pub heard_fed : (streams : List Stream) (x i : ℕ) (old : Stream) (new : Decoding) (bytes : List ℕ) (fed : Fed)
    → IsFirst streams x i → old ≡ get_or streams i old
    → ((stream : List ℕ) → (given : List Frame) → Took old.decoder stream given
    → AreFramesOf (stream ++ bytes) (given ++ fed.frames))
    → ((stream : List ℕ) → (given : List Frame) → Took old.decoder stream given → IsBadAt (stream ++ bytes) fed.bad)
    → ((stream : List ℕ) → (given : List Frame) → Took old.decoder stream given
    → Took new (stream ++ bytes) (given ++ fed.frames))
    → (heard : ℕ → Heard) → AreHeard streams heard
    → Completes (heard x) bytes fed.frames fed.bad
    × AreHeard (slice_set streams i (record { ws = old.ws; decoder = new }))
    (with_at x (heard_more (heard x) bytes fed.frames) heard)
heard_fed streams x i old new bytes fed first there frames bad takes heard are =
    let same : first.stream ≡ old = sym (there ∙ get_or_from_slice_get streams i first.stream old first.there) in
    let took : Took old.decoder (heard x).bytes (heard x).frames =
    subst (λ (s : Stream). Took s.decoder (heard x).bytes (heard x).frames) same (took_at streams x i heard first are)
    in
    let its : old.ws ≡ x = ap (λ (s : Stream). s.ws) (sym same) ∙ first.its in (
      record {
        whole = frames (heard x).bytes (heard x).frames took;
        wrong = bad (heard x).bytes (heard x).frames took;
      },
      heard_at streams x i (record { ws = old.ws; decoder = new }) (heard_more (heard x) bytes fed.frames) heard first its
          (takes (heard x).bytes (heard x).frames took) are,
    )

-- and where it took nothing, all is as it was
pub heard_still : (streams : List Stream) (x i : ℕ) (old : Stream) (new : Decoding) (heard : ℕ → Heard)
    → IsFirst streams x i → old ≡ get_or streams i old → new ≡ old.decoder → AreHeard streams heard
    → AreHeard (slice_set streams i (record { ws = old.ws; decoder = new })) heard
heard_still streams x i old new heard first there still are v =
    subst (IsHeardBy (stream_of (slice_set streams i (record { ws = old.ws; decoder = new })) v)) (kept v)
    (heard_at streams x i (record { ws = old.ws; decoder = new }) (heard x) heard first its took are v)
  where
    same : first.stream ≡ old
    same = sym (there ∙ get_or_from_slice_get streams i first.stream old first.there)

    its : old.ws ≡ x
    its = ap (λ (s : Stream). s.ws) (sym same) ∙ first.its

    took : Took new (heard x).bytes (heard x).frames
    took =
        subst (λ (d : Decoding). Took d (heard x).bytes (heard x).frames)
        (ap (λ (s : Stream). s.decoder) same ∙ sym still) (took_at streams x i heard first are)

    kept : (v : ℕ) → with_at x (heard x) heard v ≡ heard v
    kept v = elim (eqb_tells v x) [
      | inl e ↦ ap (λ (b : Bool). cond b (heard x) (heard v)) e.0 ∙ ap heard (sym e.1)
      | inr e ↦ ap (λ (b : Bool). cond b (heard x) (heard v)) e.0
    ]
