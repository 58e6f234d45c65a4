-- What a node does is a stretch of the world, and stretches are joined.
use Rattle.std.proofs.Common.{[], ◌++◌, ◌≡◌, ◌≢◌, ◌∙◌, ◌∷◌, ◌⊎◌, ℕ, Bool, List, None, Option, Some, ap, append_assoc, false, inl, inr, refl, subst, sym, true}
use Rattle.std.proofs.lemmas.Bool.{eq-eqb}
use Rattle.std.proofs.lemmas.List.{append-nil}
use Rattle.std.proofs.lemmas.List.Elements.{filter_map-append}
use Rattle.std.specs.List.{cons_option}
use Rattle.std.specs.Prelude.{◌==◌, Ok, filter_map, if◌then◌else◌, map}
use Rattle.lemmas.proofs.Lists.{all_append}
use Rattle.model.specs.Types.{Entry, Net, Packet, WorldStep}
use Rattle.model.specs.History.{maker}
use Rattle.model.specs.FreeSteps.{free_step}
use Rattle.model.specs.World.{World}
use Rattle.outside.specs.Calls.{Sent}
use Rattle.mail_frames.specs.declared.frames.Frame.{Frame}
use Rattle.mail_frames.specs.Spelling.{frame_bytes}
use Rattle.agent_core.specs.Nodes.{NodeState}
use Rattle.node_inputs.specs.Traces.{Event, Trace, kept, kept_by}
use Rattle.node_inputs.proofs.Fronts.{kept-append}
use Rattle.network_world.specs.Standing.{NodeStandsFor}
use Rattle.network_runs.specs.Happenings.{Does, kept_at, kept_in, made, of_its_maker, of_workstation}
use Rattle.network_runs.specs.Nights.{IsWritten}
use Rattle.network_runs.proofs.Carrying.{AreWritten, IsCarried, IsFrameIn, carried_on, frame_grows}
use Rattle.network_runs.proofs.Growing.{Grows, grows_not, grows_on}
use Rattle.network_runs.proofs.Members.{IsIn, in_either, in_left, in_right}
use Rattle.rest_laws.specs.Left.{keeps_to}
use Rattle.rest_laws.specs.Rounds.{AreTaken, IsAmong, is_of_round}
use Rattle.nights_at_rest.specs.Frames.{Comes, ComesIn, Stretch}
use Rattle.nights_at_rest.proofs.Doing.{Outputs}

-- one stretch of steps and another
record TakenOn (net : Net) (ss ts : List WorldStep) (x y z : World) (h : AreTaken net x ss y) (k : AreTaken net y ts z) : Type 0 where
  pub all : AreTaken net x (ss ++ ts) z
  pub first : (a b : ℕ) (p : Packet) → Comes net ss x y h a b p → Comes net (ss ++ ts) x z all a b p
  pub then_ : (a b : ℕ) (p : Packet) → Comes net ts y z k a b p → Comes net (ss ++ ts) x z all a b p

taken_on : (net : Net) (ss ts : List WorldStep) (x y z : World) (h : AreTaken net x ss y) (k : AreTaken net y ts z)
    → TakenOn net ss ts x y z h k
taken_on net [] ts x y z h k =
    let it = subst (λ (u : World). (l : AreTaken net u ts z) → (m : AreTaken net x ts z)
    × ((a b : ℕ) (p : Packet) → Comes net ts u z l a b p → Comes net ts x z m a b p)) h (λ l. (l, λ a b p c. c)) k in
    record { all = it.0; first = λ a b p c. absurd c; then_ = it.1 }
taken_on net (s ∷ ss) ts x y z h k =
    let rest = taken_on net ss ts h.0 y z h.2 k in
    record {
      all = (h.0, h.1, rest.all);
      first = λ a b p c. elim c [ inl i ↦ inl i | inr l ↦ inr (rest.first a b p l) ];
      then_ = λ a b p c. inr (rest.then_ a b p c);
    }

module _ (u : WorldStep) where
  among_left : (xs ys : List WorldStep) → IsAmong u xs → IsAmong u (xs ++ ys)
  among_left [] ys h = absurd h
  among_left (x ∷ xs) ys (inl e) = inl e
  among_left (x ∷ xs) ys (inr h) = inr (among_left xs ys h)

  among_right : (xs ys : List WorldStep) → IsAmong u ys → IsAmong u (xs ++ ys)
  among_right [] ys h = h
  among_right (x ∷ xs) ys h = inr (among_right xs ys h)

pub record JoinedStretch (net : Net) (reads : ℕ → ℕ) (x y z : World) (s : Stretch net reads x y) (t : Stretch net reads y z) : Type 0 where
  pub whole : Stretch net reads x z
  pub first : (a b : ℕ) (p : Packet) → ComesIn net reads x y s a b p → ComesIn net reads x z whole a b p
  pub then_ : (a b : ℕ) (p : Packet) → ComesIn net reads y z t a b p → ComesIn net reads x z whole a b p
  pub among_first : (u : WorldStep) → IsAmong u s.steps → IsAmong u whole.steps
  pub among_then : (u : WorldStep) → IsAmong u t.steps → IsAmong u whole.steps

pub stretch_on : (net : Net) (reads : ℕ → ℕ) (x y z : World) (s : Stretch net reads x y) (t : Stretch net reads y z)
    → JoinedStretch net reads x y z s t
stretch_on net reads x y z s t =
    let it = taken_on net s.steps t.steps x y z s.taken t.taken in
    record {
      whole = record {
        steps = s.steps ++ t.steps;
        taken = it.all;
        each = all_append (λ s. is_of_round s ≡ true) s.steps t.steps s.each t.each;
        keep = all_append (λ s. keeps_to (λ w. reads w ∷ []) s ≡ true) s.steps t.steps s.keep t.keep;
      };
      first = it.first;
      then_ = it.then_;
      among_first = λ u h. among_left u s.steps t.steps h;
      among_then = λ u h. among_right u s.steps t.steps h;
    }

pub stretch_none : (net : Net) (reads : ℕ → ℕ) (x : World) → Stretch net reads x x
stretch_none net reads x = record { steps = []; taken = refl; each = tt; keep = tt }

abbrev pub stretch_one : (net : Net) (reads : ℕ → ℕ) (x y : World) (s : WorldStep) → is_of_round s ≡ true
    → keeps_to (λ w. reads w ∷ []) s ≡ true → free_step net x s ≡ Ok y → Stretch net reads x y
stretch_one net reads x y s of keep e = record { steps = s ∷ []; taken = (y, e, refl); each = (of, tt); keep = (keep, tt) }

-- two lists that are the same, each in two parts
pub parts_same : {X : Type 0} {a b c d : List X} → a ≡ b → c ≡ d → a ++ c ≡ b ++ d
parts_same p q = λ i. p i ++ q i

-- an entry with the workstation that keeps it
abbrev pub pair_of : ℕ → Entry → ℕ × Entry
pair_of w e = (w, e)

-- the entries among these that w makes
abbrev pub own_of : ℕ → List Entry → List Entry
own_of w es = filter_map of_its_maker (map (pair_of w) es)

-- what a trace of w keeps, in a night
module _ (w : ℕ) where
  pub kept_pairs : (trace : Trace) → filter_map kept_in (map (Does w) trace) ≡ map (pair_of w) (kept trace)
  kept_pairs [] = refl
  kept_pairs (event ∷ trace) = go (kept_by event) refl (kept_pairs trace)
    where
      go : (o : Option Entry) → kept_by event ≡ o → filter_map kept_in (map (Does w) trace) ≡ map (pair_of w) (kept trace)
          → filter_map kept_in (map (Does w) (event ∷ trace)) ≡ map (pair_of w) (kept (event ∷ trace))
      go None is same = rw is same
      go (Some e) is same = rw is (ap (λ l. pair_of w e ∷ l) same)

  pub made_is : (trace : Trace) → made (map (Does w) trace) ≡ own_of w (kept trace)
  made_is trace = ap (filter_map of_its_maker) (kept_pairs trace)

  here_all : (es : List Entry) → filter_map (of_workstation w) (map (pair_of w) es) ≡ es
  here_all [] = refl
  here_all (e ∷ es) = rw (itself w) (ap (λ l. e ∷ l) (here_all es))
    where
      itself : (n : ℕ) → (n == n) ≡ true
      itself n = eq-eqb n n refl

  there_none : (v : ℕ) → (w == v) ≡ false → (es : List Entry) → filter_map (of_workstation v) (map (pair_of w) es) ≡ []
  there_none v other [] = refl
  there_none v other (e ∷ es) = rw other (there_none v other es)

  pub kept_at_here : (trace : Trace) → kept_at w (map (Does w) trace) ≡ kept trace
  kept_at_here trace = ap (filter_map (of_workstation w)) (kept_pairs trace) ∙ here_all (kept trace)

  pub kept_at_there : (v : ℕ) (trace : Trace) → (w == v) ≡ false → kept_at v (map (Does w) trace) ≡ []
  kept_at_there v trace other = ap (filter_map (of_workstation v)) (kept_pairs trace) ∙ there_none v other (kept trace)

  pair_on : (es fs : List Entry) → map (pair_of w) (es ++ fs) ≡ map (pair_of w) es ++ map (pair_of w) fs
  pair_on [] fs = refl
  pair_on (e ∷ es) fs = ap (λ l. pair_of w e ∷ l) (pair_on es fs)

  pub own_on : (es fs : List Entry) → own_of w (es ++ fs) ≡ own_of w es ++ own_of w fs
  own_on es fs =
      ap (filter_map of_its_maker) (pair_on es fs)
      ∙ filter_map-append of_its_maker (map (pair_of w) es) (map (pair_of w) fs)

  pub in_own : (e : Entry) (es : List Entry) → IsIn e (own_of w es) → IsIn e es
  in_own e [] h = absurd h
  in_own e (d ∷ es) h = go (maker d.feed == w) (in_own e es) h
    where
      go : (c : Bool) → (IsIn e (own_of w es) → IsIn e es) → IsIn e (cons_option (if c then Some d else None) (own_of w es))
          → IsIn e (d ∷ es)
      go true later (inl q) = inl q
      go true later (inr k) = inr (later k)
      go false later k = inr (later k)

-- what w sent to b since: each packet with a frame that went out in the trace
pub record PostedBy (y : World) (b : ℕ) (old new : List Packet) (trace : Trace) : Type 0 where
  pub rest : List Packet
  pub more : new ≡ old ++ rest
  pub each : (p : Packet) → IsIn p rest
      → (f : Frame) × IsFrameIn y.history p f × IsIn (Event.Sends (record { to = b; bytes = frame_bytes f; ok = true })) trace

-- The trace of w is a stretch from x to y: its node stands there again, all others stand as they did, and what is new in the
-- world is what the trace keeps and sends.
pub record Way (net : Net) (reads : ℕ → ℕ) (w : ℕ) (x y : World) (old new : NodeState) (trace : Trace) : Type 0 where
  pub stretch : Stretch net reads x y
  pub grows : Grows net x y w
  pub here : NodeStandsFor net y w new
  pub history_ : y.history ≡ x.history ++ own_of w (kept trace)
  pub disk : new.kept ≡ old.kept ++ kept trace
  pub lanes : (a b : ℕ) → a ≢ w → y.packets a b ≡ x.packets a b
  pub posts : (b : ℕ) → PostedBy y b (x.packets w b) (y.packets w b) trace
  pub sent_ : (call : Sent) → IsIn (Event.Sends call) trace
      → (g : Frame) × IsCarried y w call.to g × (call.bytes ≡ frame_bytes g)

-- one way and another
pub record JoinedWay (net : Net) (reads : ℕ → ℕ) (w : ℕ) (x y z : World) (a b c : NodeState) (front back : Trace)
    (s : Stretch net reads x y) (t : Stretch net reads y z) : Type 0 where
  pub way : Way net reads w x z a c (front ++ back)
  pub first : (a b : ℕ) (p : Packet) → ComesIn net reads x y s a b p → ComesIn net reads x z way.stretch a b p
  pub then_ : (a b : ℕ) (p : Packet) → ComesIn net reads y z t a b p → ComesIn net reads x z way.stretch a b p
  pub among_first : (u : WorldStep) → IsAmong u s.steps → IsAmong u way.stretch.steps
  pub among_then : (u : WorldStep) → IsAmong u t.steps → IsAmong u way.stretch.steps

module _ (net : Net) (reads : ℕ → ℕ) (w : ℕ) where
  posted_on : (y z : World) (b : ℕ) (l m n : List Packet) (front back : Trace) (more : List Entry)
      → z.history ≡ y.history ++ more → PostedBy y b l m front → PostedBy z b m n back → PostedBy z b l n (front ++ back)
  posted_on y z b l m n front back more history g h = record {
    rest = g.rest ++ h.rest;
    more = h.more ∙ ap (λ k. k ++ h.rest) g.more ∙ append_assoc l g.rest h.rest;
    each = λ p k.
        elim (in_either p g.rest h.rest k) [
          | inl i ↦ early p (g.each p i)
          | inr i ↦ late p (h.each p i)
        ];
  }
    where
      early : (p : Packet)
          → (f : Frame) × IsFrameIn y.history p f × IsIn (Event.Sends (record { to = b; bytes = frame_bytes f; ok = true })) front
          → (f : Frame) × IsFrameIn z.history p f
          × IsIn (Event.Sends (record { to = b; bytes = frame_bytes f; ok = true })) (front ++ back)
      early p it = (
        it.0,
        subst (λ (G : List Entry). IsFrameIn G p it.0) (sym history) (frame_grows y.history more p it.0 it.1),
        in_left _ front back it.2,
      )

      late : (p : Packet)
          → (f : Frame) × IsFrameIn z.history p f × IsIn (Event.Sends (record { to = b; bytes = frame_bytes f; ok = true })) back
          → (f : Frame) × IsFrameIn z.history p f
          × IsIn (Event.Sends (record { to = b; bytes = frame_bytes f; ok = true })) (front ++ back)
      late p it = (it.0, it.1, in_right _ front back it.2)

  pub way_on : (x y z : World) (a b c : NodeState) (front back : Trace) (g : Way net reads w x y a b front)
      (h : Way net reads w y z b c back) → JoinedWay net reads w x y z a b c front back g.stretch h.stretch
  way_on x y z a b c front back g h =
      let s = stretch_on net reads x y z g.stretch h.stretch in
      record {
        way = record {
          stretch = s.whole;
          grows = grows_on net x y z w g.grows h.grows;
          here = h.here;
          history_ =
              h.history_ ∙ ap (λ l. l ++ own_of w (kept back)) g.history_
              ∙ append_assoc x.history (own_of w (kept front)) (own_of w (kept back))
              ∙ ap (λ l. x.history ++ l) (sym (own_on w (kept front) (kept back)) ∙ ap (own_of w) (sym (kept-append front back)));
          disk =
              h.disk ∙ ap (λ l. l ++ kept back) g.disk ∙ append_assoc a.kept (kept front) (kept back)
              ∙ ap (λ l. a.kept ++ l) (sym (kept-append front back));
          lanes = λ v u other. h.lanes v u other ∙ g.lanes v u other;
          posts = λ u.
              posted_on y z u (x.packets w u) (y.packets w u) (z.packets w u) front back (own_of w (kept back)) h.history_ (g.posts u)
              (h.posts u);
          sent_ = λ call k. sent call (in_either (Event.Sends call) front back k);
        };
        first = s.first;
        then_ = s.then_;
        among_first = s.among_first;
        among_then = s.among_then;
      }
    where
      sent : (call : Sent) → IsIn (Event.Sends call) front ⊎ IsIn (Event.Sends call) back
          → (f : Frame) × IsCarried z w call.to f × (call.bytes ≡ frame_bytes f)
      sent call (inl k) =
          let it = g.sent_ call k in (it.0, carried_on net y z w w call.to it.0 h.grows it.1, it.2)
      sent call (inr k) = h.sent_ call k

  -- events that keep nothing and send nothing
  pub way_plain : (x : World) (node : NodeState) (trace : Trace) → NodeStandsFor net x w node → Outputs node [] trace
      → Way net reads w x x node node trace
  way_plain x node trace at out = record {
    stretch = stretch_none net reads x;
    grows = grows_not net x w;
    here = at;
    history_ = sym (append-nil x.history) ∙ ap (λ l. x.history ++ own_of w l) (sym out.keeps_none);
    disk = sym (append-nil node.kept) ∙ ap (λ l. node.kept ++ l) (sym out.keeps_none);
    lanes = λ a b other. refl;
    posts = λ b. record { rest = []; more = sym (append-nil (x.packets w b)); each = λ p k. absurd k };
    sent_ = λ call k. absurd ((out.sends.only call k).given);
  }

  -- what is kept on the way can be written down
  pub written_on : (x y : World) (old new : NodeState) (trace : Trace) → Way net reads w x y old new trace → AreWritten x.history
      → ((e : Entry) → IsIn e (kept trace) → IsWritten e) → AreWritten y.history
  written_on x y old new trace g written more e k =
      elim (in_either e x.history (own_of w (kept trace)) (subst (IsIn e) g.history_ k)) [
        | inl i ↦ written e i
        | inr i ↦ more e (in_own w e (kept trace) i)
      ]
