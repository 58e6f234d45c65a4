-- What was sent is read: the bytes of a packet's frame are of no other input.
use Rattle.std.proofs.Common.{[], ◌++◌, ◌+◌, ◌^◌, ◌<◌, ◌≡◌, ◌≢◌, ◌≤◌, ◌∙◌, ◌∷◌, ◌⊎◌, ℕ, List, Some, ap, arith, false, inl, inr, length-append, refl, subst, suc, sym, true, zero}
use Rattle.std.specs.List.{AllByRecursion}
use Rattle.std.specs.Prelude.{Ok, Result, length, slice_get}
use Rattle.model.specs.Types.{Ack, Body, Entry, Feed, Input, Mail, Net, Packet}
use Rattle.model.specs.Words.{nth}
use Rattle.model.specs.Equalities.{feed_eq}
use Rattle.model.specs.Fields.{u32_bytes}
use Rattle.model.specs.History.{list_of}
use Rattle.model.specs.Invariant.{IsBacked}
use Rattle.model.specs.Network.{node_count}
use Rattle.model.specs.Sound.{Each, EachFrom, HasItsPlace}
use Rattle.model.specs.Spelling.{entry_bytes}
use Rattle.model.specs.World.{World, packet_input}
use Rattle.model_laws.proofs.Feeds.{feed_cases, pushed_cases}
use Rattle.model_laws.proofs.Keeps.{none_yet}
use Rattle.entry_codec.specs.declared.EntryFault.{EntryFault}
use Rattle.entry_codec.specs.Entries.{entry_in}
use Rattle.entry_codec.proofs.Whole.{whole_again}
use Rattle.mail_frames.specs.declared.frames.Frame.{Frame}
use Rattle.mail_frames.specs.declared.frames.Frame.TheVariants as frame
use Rattle.mail_frames.specs.Spelling.{IsFrame, content_of, frame_bytes, kind_of}
use Rattle.mail_frames.proofs.Spelled.{frame_length, same_frame, same_front}
use Rattle.network_runs.specs.Nights.{IsWritten, StandsIn}
use Rattle.network_runs.proofs.Carrying.{AreWritten, IsFrameIn, ReadLaw}
use Rattle.network_runs.proofs.Worlds.{IsReached, invariant}
use Rattle.network_runs.proofs.Members.{IsIn, in_of}

-- frames of the same bytes have the same kind and content
same_content : (f g : Frame) → frame_bytes f ≡ frame_bytes g → (kind_of f ≡ kind_of g) × (content_of f ≡ content_of g)
same_content f g e =
    let l : length (content_of f) ≡ length (content_of g) =
    omega (arith, frame_length f, frame_length g, ap (λ (b : List ℕ). length b) e) in
    let p = same_front (u32_bytes (1 + length (content_of f))) (u32_bytes (1 + length (content_of g)))
    (kind_of f ∷ content_of f) (kind_of g ∷ content_of g) (omega arith) e in
    let q = p.1 in
    (cc, cc)

pub entry_is : (e : Entry) (f : Feed) (n : ℕ) (b : Body) → e.feed ≡ f → e.place ≡ n → e.body ≡ b → e ≡ record { feed = f; place = n; body = b }
entry_is e f n b p q r = λ i. record { feed = p i; place = q i; body = r i }

list_here : (e : Entry) (G : List Entry) (f : Feed) → feed_eq f e.feed ≡ true → list_of (e ∷ G) f ≡ e.body ∷ list_of G f
unfolding list_of
list_here e G f same = rw same refl

list_there : (e : Entry) (G : List Entry) (f : Feed) → feed_eq f e.feed ≡ false → list_of (e ∷ G) f ≡ list_of G f
unfolding list_of
list_there e G f other = rw other refl

longer : (before : List Entry) (e : Entry) (f : Feed) → f ≡ e.feed → length (list_of (before ++ e ∷ []) f) ≡ 1 + length (list_of before f)
longer before e f same = go (pushed_cases before e f)
  where
    go : ((f ≡ e.feed) × (list_of (before ++ e ∷ []) f ≡ list_of before f ++ e.body ∷ []))
        ⊎ ((f ≢ e.feed) × (list_of (before ++ e ∷ []) f ≡ list_of before f))
        → length (list_of (before ++ e ∷ []) f) ≡ 1 + length (list_of before f)
    go (inl t) = rw (t.1, length-append) (omega arith)
    go (inr t) = absurd (t.0 same)

as_long : (before : List Entry) (e : Entry) (f : Feed) → f ≢ e.feed → length (list_of (before ++ e ∷ []) f) ≡ length (list_of before f)
as_long before e f other = go (pushed_cases before e f)
  where
    go : ((f ≡ e.feed) × (list_of (before ++ e ∷ []) f ≡ list_of before f ++ e.body ∷ []))
        ⊎ ((f ≢ e.feed) × (list_of (before ++ e ∷ []) f ≡ list_of before f))
        → length (list_of (before ++ e ∷ []) f) ≡ length (list_of before f)
    go (inl t) = absurd (other t.0)
    go (inr t) = ap length t.1

none_got : {X : Type 0} (xs : List X) (i : ℕ) (b : X) (P : Type 0) → xs ≡ [] → slice_get xs i ≡ Some b → P
none_got [] i b P none e = cc
none_got (x ∷ xs) i b P none e = cc

body_same : {b c : Body} → Some b ≡ Some c → b ≡ c
body_same q = cc

-- what stands at a place of a feed is an entry with that place
place_from : (before G : List Entry) (f : Feed) (i n : ℕ) (b : Body) → EachFrom HasItsPlace before G
    → slice_get (list_of G f) i ≡ Some b → n ≡ 1 + length (list_of before f) + i → IsIn (record { feed = f; place = n; body = b }) G
place_from before [] f i n b each there at = none_got (list_of [] f) i b _ (none_yet f) there
place_from before (e ∷ G) f zero n b each there at =
    elim (feed_cases f e.feed) [
      | inl t ↦ inl (entry_is e f n b (sym t.1)
          (each.0 ∙ ap (λ (g : Feed). 1 + length (list_of before g)) (sym t.1) ∙ omega (arith, at))
          (body_same (ap (λ (l : List Body). slice_get l 0) (sym (list_here e G f t.0)) ∙ there)))
      | inr t ↦ inr (place_from (before ++ e ∷ []) G f zero n b each.1
          (ap (λ (l : List Body). slice_get l 0) (sym (list_there e G f t.0)) ∙ there)
          (omega (arith, at, as_long before e f t.1)))
    ]
place_from before (e ∷ G) f (suc i) n b each there at =
    elim (feed_cases f e.feed) [
      | inl t ↦ inr (place_from (before ++ e ∷ []) G f i n b each.1
          (ap (λ (l : List Body). slice_get l (suc i)) (sym (list_here e G f t.0)) ∙ there)
          (omega (arith, at, longer before e f t.1)))
      | inr t ↦ inr (place_from (before ++ e ∷ []) G f (suc i) n b each.1
          (ap (λ (l : List Body). slice_get l (suc i)) (sym (list_there e G f t.0)) ∙ there)
          (omega (arith, at, as_long before e f t.1)))
    ]

pub placed_in : (G : List Entry) (f : Feed) (k : ℕ) (b : Body) → Each HasItsPlace G → nth (list_of G f) k ≡ Some b
    → IsIn (record { feed = f; place = k; body = b }) G
placed_in G f zero b each there = cc
placed_in G f (suc i) b each there =
    place_from [] G f i (suc i) b each there (omega (arith, ap length (none_yet f)))

last_there : {X : Type 0} (xs : List X) (l : ℕ) → length xs ≡ suc l → (b : X) × (slice_get xs l ≡ Some b)
last_there [] l e = absurd (omega (arith, e))
last_there (x ∷ xs) zero e = (x, refl)
last_there (x ∷ xs) (suc l) e = last_there xs l (omega (arith, e))

all_of : {X : Type 0} (P : X → Type 0) (xs : List X) (x : X) → AllByRecursion P xs → IsIn x xs → P x
all_of P [] x h k = absurd k
all_of P (y ∷ xs) x h (inl e) = subst P e h.0
all_of P (y ∷ xs) x h (inr k) = all_of P xs x h.1 k

one_entry : (r : Result Entry EntryFault) (c d : Entry) → r ≡ Ok c → r ≡ Ok d → c ≡ d
one_entry r c d p q = cc

input_same : {i j : Input} → i ≡ j → Some i ≡ Some j
input_same e = ap Some e

module _ (net : Net) (x : World) (r : IsReached net x) (written : AreWritten x.history) where
  mail_read : (a b : ℕ) (p : Packet) (g : Frame) (bytes : List ℕ) (e : Entry) → IsIn p (x.packets a b) → IsFrameIn x.history p g
      → frame_bytes (frame.Mail bytes) ≡ frame_bytes g → entry_in bytes ≡ Ok e → packet_input x a p ≡ Some (Input.Mail a e)
  unfolding packet_input
  mail_read a b (Mail f k) g bytes e sent its same read =
      let d : Entry = record { feed = f; place = k; body = its.0 } in
      let w : IsWritten d = written d (placed_in x.history f k its.0 (invariant net x r).sound.places its.1) in
      let of_it : bytes ≡ entry_bytes d = (same_content (frame.Mail bytes) (frame.Mail (entry_bytes d)) (same ∙ ap frame_bytes its.2)).1 in
      let is : d ≡ e = one_entry (entry_in bytes) d e (whole_again bytes d w.fit w.in_range of_it) read in
      rw its.1 (ap (λ (m : Entry). Some (Input.Mail a m)) is)
  mail_read a b (Ack f n) g bytes e sent its same read =
      absurd (clash (same_content (frame.Mail bytes) (frame.Ack f n) (same ∙ ap frame_bytes its.0)).0)
    where
      clash : ◌≡◌ {A = ℕ} 1 2 → ⊥
      clash q = omega (arith, q)

  length_in_range : (f : Feed) (m n : ℕ) → length (list_of x.history f) ≡ m → n ≤ m → n < 2 ^ 32
  length_in_range f zero n is less = omega (arith, less)
  length_in_range f (suc l) n is less =
      let last = last_there (list_of x.history f) l is in
      let w : IsWritten (record { feed = f; place = suc l; body = last.0 }) =
      written _ (placed_in x.history f (suc l) last.0 (invariant net x r).sound.places last.1) in
      omega (arith, less, w.in_range.place_)

  ack_read : (a b : ℕ) (p : Packet) (g : Frame) (f : Feed) (n : ℕ) (heard : List ℕ) → IsIn p (x.packets a b)
      → IsFrameIn x.history p g → StandsIn heard (frame.Ack f n) → frame_bytes (frame.Ack f n) ≡ frame_bytes g
      → packet_input x a p ≡ Some (Input.Ack a f n)
  unfolding packet_input
  ack_read a b (Mail h k) g f n heard sent its stands same =
      absurd (clash (same_content (frame.Ack f n) (frame.Mail (entry_bytes (record { feed = h; place = k; body = its.0 }))) (same ∙ ap frame_bytes its.2)).0)
    where
      clash : ◌≡◌ {A = ℕ} 2 1 → ⊥
      clash q = omega (arith, q)
  ack_read a b (Ack h m) g f n heard sent its stands same =
      let backed : m ≤ x.holdings a h = all_of (IsBacked (x.holdings a)) (x.packets a b) (Ack h m) ((invariant net x r).backed a b) sent in
      let small : m < 2 ^ 32 =
      length_in_range h (length (list_of x.history h)) m refl (omega (arith, backed, (invariant net x r).within a h)) in
      let one : IsFrame (frame.Ack f n) = all_of IsFrame stands.frames (frame.Ack f n) stands.are.2.each (in_of (frame.Ack f n) stands.frames stands.among) in
      let other : IsFrame (frame.Ack h m) = ((its.1, small), tt) in
      let c = same_content (frame.Ack f n) (frame.Ack h m) (same ∙ ap frame_bytes its.0) in
      ap Some (turned (same_frame (frame.Ack f n) (frame.Ack h m) one other c.0 c.1))
    where
      turned : frame.Ack f n ≡ frame.Ack h m → Input.Ack a h m ≡ Input.Ack a f n
      turned q = cc

-- so what was sent is read
pub read_law : (net : Net) → node_count net ≤ 65536 → ReadLaw net
read_law net few = record {
  few = few;
  reads = λ x r written. record { mail = mail_read net x r written; ack = ack_read net x r written };
}
