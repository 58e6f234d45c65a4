-- Each pass is told where its arrival comes.
use Rattle.std.proofs.Common.{[], ◌++◌, ◌≡◌, ◌≢◌, ◌∙◌, ◌∷◌, ◌⊎◌, ℕ, zero, suc, Bool, List, None, Some, ap, append_assoc, inl, inr, refl, subst, sym, true, false}
use Rattle.std.proofs.lemmas.Bool.{eq-eqb}
use Rattle.std.proofs.lemmas.Bool.Decides.{eqb_tells}
use Rattle.std.proofs.lemmas.Grind.{flat_map-append}
use Rattle.std.proofs.lemmas.List.{append-nil}
use Rattle.std.proofs.lemmas.List.Elements.{filter_map-append}
use Rattle.std.specs.Prelude.{if◌then◌else◌, ◌==◌, map}
use Rattle.lemmas.proofs.Options.{some_is}
use Rattle.composer_parser.specs.declared.Defs.{Defs}
use Rattle.model.specs.Words.{with_at}
use Rattle.model_laws.proofs.Feeds.{with_at-all}
use Rattle.outside.specs.Calls.{Sent}
use Rattle.mail_frames.specs.declared.frames.Frame.{Frame}
use Rattle.mail_frames.specs.Spelling.{frame_bytes}
use Rattle.node_inputs.specs.Traces.{Event, Trace}
use Rattle.network_runs.specs.Happenings.{Does, Happening, Night}
use Rattle.network_runs.specs.Nights.{IsSent}
use Rattle.network_runs.proofs.Members.{IsIn, contains_of, in_either, in_left, in_mapped, in_of, in_right, mapped_in}
use Rattle.nights_at_rest.specs.Passes.{ArePasses, Pass, Passes, happened, happened_in}
use Rattle.nights_at_rest.specs.Still.{Nodes}
use Rattle.overlapping_passes.specs.Overlaps.{AreBetween, AreMoments, Goes, Hears, IsNext, Left, Moment, Place, Reads, Waits, did, event_of}
use Rattle.overlapping_passes.specs.Overlaps.{from_here}

-- what is left of the pass, and the reading of one that is not told yet
abbrev still : Place → Trace
still (Waits t) = []
still (Left rest) = rest

abbrev read : Place → Trace
read (Waits t) = Event.Reads t ∷ []
read (Left rest) = []

-- one more event
did_more : (w : ℕ) (night back : Night) → did w (night ++ back) ≡ did w night ++ did w back
did_more w night back = filter_map-append (event_of w) night back

did_one : (w : ℕ) (event : Event) → did w (Does w event ∷ []) ≡ event ∷ []
did_one w event = rw (eq-eqb w w refl) refl

did_none : (w v : ℕ) (event : Event) → w ≢ v → did w (Does v event ∷ []) ≡ []
did_none w v event other = go (eqb_tells v w)
  where
    go : (((v == w) ≡ true) × (v ≡ w)) ⊎ (((v == w) ≡ false) × (v ≢ w)) → did w (Does v event ∷ []) ≡ []
    go (inl e) = absurd (other (sym e.1))
    go (inr e) = rw e.0 refl

-- a pass is its trace
did_its : (w : ℕ) (trace : Trace) → did w (map (Does w) trace) ≡ trace
did_its w [] = refl
did_its w (event ∷ trace) = rw (eq-eqb w w refl) (ap (λ (t : Trace). event ∷ t) (did_its w trace))

did_not : (w v : ℕ) (trace : Trace) → w ≢ v → did w (map (Does v) trace) ≡ []
did_not w v [] other = refl
did_not w v (event ∷ trace) other = go (eqb_tells v w) (did_not w v trace other)
  where
    go : (((v == w) ≡ true) × (v ≡ w)) ⊎ (((v == w) ≡ false) × (v ≢ w)) → did w (map (Does v) trace) ≡ []
        → did w (map (Does v) (event ∷ trace)) ≡ []
    go (inl e) more = absurd (other (sym e.1))
    go (inr e) more = rw e.0 more

happened_more : (ps : List Pass) (p : Pass) → happened (ps ++ p ∷ []) ≡ happened ps ++ happened_in p
happened_more ps p =
    flat_map-append happened_in ps (p ∷ []) ∙ ap (λ (l : Night). happened ps ++ l) (append-nil (happened_in p))

passes_push : (defs : Defs) (ps : List Pass) (night : Night) (p : Pass) (old middle new : Nodes) → ArePasses defs night ps old middle
    → Passes defs (night ++ happened ps) p middle new → ArePasses defs night (ps ++ p ∷ []) old new
passes_push defs [] night p old middle new h k = (
  new,
  subst (λ (n : Nodes). Passes defs night p n new) h
      (subst (λ (l : Night). Passes defs l p middle new) (append-nil night) k),
  refl,
)
passes_push defs (q ∷ ps) night p old middle new h k = (
  h.0,
  h.1,
  passes_push defs ps (night ++ happened_in q) p h.0 middle new h.2
      (subst (λ (l : Night). Passes defs l p middle new) (sym (append_assoc night (happened_in q) (happened ps))) k),
)

-- what has happened by now, told in whole passes, one behind the other
record Told (defs : Defs) (before : Night) (old : Nodes) (m : Moment) : Type 0 where
  ps : List Pass
  passes_ : ArePasses defs before ps old m.nodes
  same : (w : ℕ) → did w m.night ++ still (m.place w) ≡ did w (happened ps) ++ read (m.place w)

module _ (defs : Defs) (before : Night) (old : Nodes) (m : Moment) (told : Told defs before old m) where
  -- at w, where it stands here
  same_at : (w : ℕ) (q : Place) → m.place w ≡ q → did w m.night ++ still q ≡ did w (happened told.ps) ++ read q
  same_at w q e =
      subst (λ (q : Place). did w m.night ++ still q ≡ did w (happened told.ps) ++ read q) e (told.same w)

  -- what was sent is sent in the passes that were told
  not_read : {P : Type 0} (call : Sent) (q : Place) → IsIn (Event.Sends call) (read q) → P
  not_read call (Waits t) (inl e) = cc
  not_read call (Waits t) (inr k) = absurd k
  not_read call (Left rest) k = absurd k

  its_own : (a : ℕ) (call : Sent) (h : Happening) → event_of a h ≡ Some (Event.Sends call) → h ≡ Does a (Event.Sends call)
  its_own a call (Does v event) e = go (eqb_tells v a) e
    where
      go : (((v == a) ≡ true) × (v ≡ a)) ⊎ (((v == a) ≡ false) × (v ≢ a)) → event_of a (Does v event) ≡ Some (Event.Sends call)
          → Does v event ≡ Does a (Event.Sends call)
      go (inl k) f =
          let same : event ≡ Event.Sends call = some_is (subst (λ (b : Bool). (if b then Some event else None) ≡ Some (Event.Sends call)) k.0 f) in
          λ i. Does (k.1 i) (same i)
      go (inr k) f = absurd (clash (subst (λ (b : Bool). (if b then Some event else None) ≡ Some (Event.Sends call)) k.0 f))
        where
          clash : None ≡ Some (Event.Sends call) → ⊥
          clash q = cc
  its_own a call _ e = cc

  sent_there : (a : ℕ) (call : Sent) → IsIn (Does a (Event.Sends call)) m.night
      → IsIn (Does a (Event.Sends call)) (happened told.ps)
  sent_there a call k =
      elim (in_either (Event.Sends call) (did a (happened told.ps)) (read (m.place a))
      (subst (IsIn (Event.Sends call)) (told.same a)
      (in_left (Event.Sends call) (did a m.night) (still (m.place a))
      (in_mapped (event_of a) (Does a (Event.Sends call)) (Event.Sends call) m.night k (rw (eq-eqb a a refl) refl))))) [
        | inl i ↦ (let it = mapped_in (event_of a) (Event.Sends call) (happened told.ps) i in
            subst (λ (h : Happening). IsIn h (happened told.ps)) (its_own a call it.0 it.2) it.1)
        | inr i ↦ not_read call (m.place a) i
      ]

  -- so what was sent by now was sent in what was told
  sent_before : (a w : ℕ) (f : Frame) → IsSent (before ++ m.night) a w f → IsSent (before ++ happened told.ps) a w f
  sent_before a w f s = (
    s.0,
    contains_of _ (before ++ happened told.ps) (go (in_either _ before m.night (in_of _ (before ++ m.night) s.1))),
  )
    where
      its_call : Sent
      its_call = record { to = w; bytes = frame_bytes f; ok = s.0 }

      go : IsIn (Does a (Event.Sends its_call)) before ⊎ IsIn (Does a (Event.Sends its_call)) m.night
          → IsIn (Does a (Event.Sends its_call)) (before ++ happened told.ps)
      go (inl i) = in_left (Does a (Event.Sends its_call)) before (happened told.ps) i
      go (inr i) = in_right (Does a (Event.Sends its_call)) before (happened told.ps) (sent_there a its_call i)

  -- where w does one thing more and stands there then, and more may have been told of it
  module _ (w : ℕ) (event : Event) (q : Place) (ps : List Pass)
      (here : (did w m.night ++ event ∷ []) ++ still q ≡ did w (happened ps) ++ read q)
      (others : (v : ℕ) → v ≢ w → did v (happened ps) ≡ did v (happened told.ps)) where
    same_after : (v : ℕ) → did v (m.night ++ Does w event ∷ []) ++ still (with_at w q m.place v)
        ≡ did v (happened ps) ++ read (with_at w q m.place v)
    same_after v =
        with_at-all
        (λ (v : ℕ). λ (q : Place). did v (m.night ++ Does w event ∷ []) ++ still q ≡ did v (happened ps) ++ read q) w q m.place
        (ap (λ (t : Trace). t ++ still q) (did_more w m.night (Does w event ∷ []) ∙ ap (λ (t : Trace). did w m.night ++ t) (did_one w event))
        ∙ here)
        (λ v other.
        ap (λ (t : Trace). t ++ still (m.place v))
        (did_more v m.night (Does w event ∷ []) ∙ ap (λ (t : Trace). did v m.night ++ t) (did_none v w event other)
        ∙ append-nil (did v m.night))
        ∙ told.same v ∙ ap (λ (t : Trace). t ++ read (m.place v)) (sym (others v other))) v

  by_reading : (w t : ℕ) (new : Moment) → Reads w t m new → Told defs before old new
  by_reading w t new r =
      subst (Told defs before old) (sym r.then_) (record {
        ps = told.ps;
        passes_ = told.passes_;
        same = same_after w (Event.Reads t) (Waits t) told.ps here (λ v other. refl);
      })
    where
      plain : did w m.night ≡ did w (happened told.ps)
      plain =
          sym (append-nil (did w m.night)) ∙ same_at w (Left []) r.between ∙ append-nil (did w (happened told.ps))

      here : (did w m.night ++ Event.Reads t ∷ []) ++ [] ≡ did w (happened told.ps) ++ Event.Reads t ∷ []
      here = append-nil (did w m.night ++ Event.Reads t ∷ []) ∙ ap (λ (s : Trace). s ++ Event.Reads t ∷ []) plain

  by_event : (w : ℕ) (event : Event) (new : Moment) → Goes w event m new → Told defs before old new
  by_event w event new r =
      subst (Told defs before old) (sym r.then_) (record {
        ps = told.ps;
        passes_ = told.passes_;
        same = same_after w event (Left r.rest) told.ps here (λ v other. refl);
      })
    where
      here : (did w m.night ++ event ∷ []) ++ r.rest ≡ did w (happened told.ps) ++ []
      here = append_assoc (did w m.night) (event ∷ []) r.rest ∙ same_at w (Left (event ∷ r.rest)) r.left

  by_hearing : (p : Pass) (new : Moment) → Hears defs before p m new → Told defs before old new
  by_hearing p new r =
      subst (Told defs before old) (sym r.then_) (record {
        ps = told.ps ++ p ∷ [];
        passes_ = passes_push defs told.ps before p old m.nodes r.nodes told.passes_ placed;
        same = same_after p.ws (Event.Comes r.arrived) (Left r.rest) (told.ps ++ p ∷ []) here others;
      })
    where
      placed : Passes defs (before ++ happened told.ps) p m.nodes r.nodes
      placed = record {
        ws_in = r.passes.ws_in;
        after = r.passes.after;
        turn = r.passes.turn;
        then_ = r.passes.then_;
        hears = λ a f k for. sent_before a p.ws f (r.passes.hears a f k for);
        written = r.passes.written;
      }

      whole : (v : ℕ) → did v (happened (told.ps ++ p ∷ [])) ≡ did v (happened told.ps) ++ did v (happened_in p)
      whole v = ap (did v) (happened_more told.ps p) ∙ did_more v (happened told.ps) (happened_in p)

      others : (v : ℕ) → v ≢ p.ws → did v (happened (told.ps ++ p ∷ [])) ≡ did v (happened told.ps)
      others v other =
          whole v ∙ ap (λ (t : Trace). did v (happened told.ps) ++ t) (did_not v p.ws p.trace other)
          ∙ append-nil (did v (happened told.ps))

      plain : did p.ws m.night ≡ did p.ws (happened told.ps) ++ Event.Reads r.reading ∷ []
      plain = sym (append-nil (did p.ws m.night)) ∙ same_at p.ws (Waits r.reading) r.waits

      here : (did p.ws m.night ++ Event.Comes r.arrived ∷ []) ++ r.rest ≡ did p.ws (happened (told.ps ++ p ∷ [])) ++ []
      here =
          append_assoc (did p.ws m.night) (Event.Comes r.arrived ∷ []) r.rest
          ∙ ap (λ (t : Trace). t ++ (Event.Comes r.arrived ∷ r.rest)) plain
          ∙ append_assoc (did p.ws (happened told.ps)) (Event.Reads r.reading ∷ []) (Event.Comes r.arrived ∷ r.rest)
          ∙ ap (λ (t : Trace). did p.ws (happened told.ps) ++ t) (sym r.split)
          ∙ ap (λ (t : Trace). did p.ws (happened told.ps) ++ t) (sym (did_its p.ws p.trace))
          ∙ sym (whole p.ws)
          ∙ sym (append-nil (did p.ws (happened (told.ps ++ p ∷ []))))

  by_next : (new : Moment) → IsNext defs before m new → Told defs before old new
  by_next new (IsNext.reads w t r) = by_reading w t new r
  by_next new (IsNext.hears p r) = by_hearing p new r
  by_next new (IsNext.goes w event r) = by_event w event new r

all_told : (defs : Defs) (before : Night) (old : Nodes) (k : ℕ) (m new : Moment) → Told defs before old m
    → AreMoments defs before k m new → Told defs before old new
all_told defs before old zero m new told moments = subst (Told defs before old) (sym moments) told
all_told defs before old (suc k) m new told moments =
    all_told defs before old k moments.0 new (by_next defs before old m told moments.0 moments.1) moments.2

pub one_behind_the_other : (defs : Defs) (before : Night) (k : ℕ) (old : Nodes) (new : Moment)
    → AreMoments defs before k (from_here old) new → AreBetween new
    → (ps : List Pass) × ArePasses defs before ps old new.nodes × ((w : ℕ) → did w (happened ps) ≡ did w new.night)
one_behind_the_other defs before k old new moments between = (
  told.ps,
  told.passes_,
  λ w. sym (append-nil (did w (happened told.ps))) ∙ sym (same_at defs before old new told w (Left []) (between w))
      ∙ append-nil (did w new.night),
)
  where
    told : Told defs before old new
    told =
        all_told defs before old k (from_here old) new (record { ps = []; passes_ = refl; same = λ w. refl }) moments
