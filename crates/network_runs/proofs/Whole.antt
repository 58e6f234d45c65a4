-- A night of the premises is a world, happening by happening.
use Rattle.std.proofs.Common.{[], ◌++◌, ◌<◌, ◌≤◌, ◌≡◌, ◌≢◌, ◌∙◌, ◌∷◌, ◌⊎◌, ℕ, Bool, List, None, Option, Some, ap, append_assoc, arith, false, inl, inr, refl, subst, sym, true}
use Rattle.std.proofs.lemmas.Bool.Decides.{eqb_tells, leb_tells}
use Rattle.std.proofs.lemmas.List.{append-nil}
use Rattle.std.specs.Prelude.{nat_le}
use Rattle.lemmas.proofs.Options.{none_some}
use Rattle.composer_parser.specs.declared.Defs.{Defs}
use Rattle.model.specs.Types.{Entry, Input, Net, Out, Start}
use Rattle.model.specs.Kept.{HasKept}
use Rattle.model.specs.Network.{node_count}
use Rattle.model.specs.Sessions.{restarted}
use Rattle.model.specs.Sound.{IsSound}
use Rattle.model.specs.World.{World, empty_world}
use Rattle.mail_frames.specs.declared.frames.Frame.{Frame}
use Rattle.mail_frames.specs.Spelling.{frame_bytes}
use Rattle.workload_defs.specs.Nets.{net_of}
use Rattle.agent_core.specs.Nodes.{NodeState}
use Rattle.agent_core.specs.Steps.{IsTaken}
use Rattle.agent_core.specs.declared.faults.Step.{Step}
use Rattle.node_inputs.specs.Traces.{Event, Trace, refusals}
use Rattle.node_inputs.specs.declared.ends.NodeEnd.{NodeEnd}
use Rattle.node_loop.specs.Runs.{running}
use Rattle.network_runs.specs.Happenings.{Begins, Does, Happening, Night, Stops, heard_from, kept_at, left_at_stop, made, since, started, until_stop}
use Rattle.network_runs.specs.Nights.{IsLeftAtStop, IsLife, IsNight, IsSent}
use Rattle.network_runs.proofs.Worlds.{IsReached, empty_reached, invariant, kept_first}
use Rattle.network_runs.proofs.Growing.{Grows, NodeIn, grows_not}
use Rattle.network_runs.proofs.Carrying.{AreWritten, IsCarried, Links, OutsIn, ReadLaw, carried_on, outs_none, outs_on}
use Rattle.network_runs.proofs.Advancing.{Advanced, Shows, Stopped, advance, cut_off, stopped_in, stopped_plain}
use Rattle.network_runs.proofs.Members.{IsIn, in_either, in_of}
use Rattle.network_runs.proofs.Counting.{kept_next, kept_other, left_other, left_stops, made_next, place_of, refusals_next, since_begins}
use Rattle.network_runs.proofs.Counting.{since_does, since_other, since_stops, started_next, until_does, until_other, until_stops}
use Rattle.network_runs.proofs.Telling.{heard_stays}
use Rattle.network_runs.proofs.Reading.{read_law}
use Rattle.network_runs.proofs.Stories.{CameBy, Story}
use Rattle.network_runs.proofs.Runs.{run_tells}
use Rattle.network_runs.proofs.KeptIn.{found_in}

-- how a workstation stands in a world between what happened and what comes
pub data Station (net : Net) (x : World) (before behind : Night) (w : ℕ) : Type 0 where
  outside : (w < node_count net → ⊥) → since w before ≡ None → Station net x before behind w
  down : since w before ≡ None → HasKept net x w (kept_at w before) → x.sessions w ≡ restarted → Station net x before behind w
  up : (past : Trace) (node : NodeState) (outs : List Out) (rest : Trace) (end : Option NodeEnd) (new : NodeState)
      → since w before ≡ Some past → node.kept ≡ kept_at w before → NodeIn net x w node → OutsIn x w node outs
      → refusals past ≡ [] → Story past node outs (until_stop w behind ++ rest) end new
      → IsLeftAtStop (past ++ until_stop w behind) rest (left_at_stop w behind) → Station net x before behind w
  hand : (past : Trace) (node middle : NodeState) (input : Input) (step : Step) (e : Entry) (why : NodeEnd) (rest : Trace)
      → since w before ≡ Some past → node.kept ≡ kept_at w before → NodeIn net x w node
      → CameBy (λ a. heard_from a past) input → IsTaken node input step middle → step.kept ≡ Some e
      → refusals past ≡ (e, why) ∷ [] → until_stop w behind ++ rest ≡ []
      → IsLeftAtStop (past ++ until_stop w behind) rest (left_at_stop w behind) → Station net x before behind w

-- the world that a night is so far
pub record Stands (net : Net) (x : World) (before behind : Night) : Type 0 where
  pub reached : IsReached net x
  pub history_ : x.history ≡ made before
  pub started_ : (s : Start) → IsIn s (started before) → IsIn s x.starts
  pub sent_ : (a b : ℕ) (bytes : List ℕ) (ok : Bool) → IsIn (Does a (Event.Sends (record { to = b; bytes = bytes; ok = ok }))) before
      → (g : Frame) × IsCarried x a b g × (bytes ≡ frame_bytes g)
  pub stations : (w : ℕ) → Station net x before behind w

-- a workstation at which nothing happened
node_on : (net : Net) (x y : World) (v w : ℕ) (node : NodeState) → IsReached net x → Grows net x y v → w ≢ v → NodeIn net x w node
    → NodeIn net y w node
node_on net x y v w node r g other at = record {
  net_ = at.net_;
  me_ = at.me_;
  kept_ = g.others r w other node.kept at.kept_;
  session_ = at.session_ ∙ sym (g.sessions_ w other);
}

in_hand_same : (a b rest : Trace) (l m : Option Entry) → a ≡ b → l ≡ m → IsLeftAtStop a rest l → IsLeftAtStop b rest m
in_hand_same a b rest l m p q h =
    subst (λ (t : Trace). IsLeftAtStop t rest m) p (subst (λ (o : Option Entry). IsLeftAtStop a rest o) q h)

station_on : (net : Net) (x y : World) (before behind : Night) (h : Happening) (w : ℕ) → IsReached net x
    → Grows net x y (place_of h) → w ≢ place_of h → Station net x before (h ∷ behind) w → Station net y (before ++ h ∷ []) behind w
station_on net x y before behind h w r g other (Station.outside out is) =
    Station.outside out (since_other w before h other ∙ is)
station_on net x y before behind h w r g other (Station.down is kept session) =
    Station.down (since_other w before h other ∙ is)
    (subst (λ (k : List Entry). HasKept net y w k) (sym (kept_other w before h other)) (g.others r w other (kept_at w before) kept))
    (g.sessions_ w other ∙ session)
station_on net x y before behind h w r g other (Station.up past node outs rest end new is same at o none story left) =
    Station.up past node outs rest end new (since_other w before h other ∙ is) (same ∙ sym (kept_other w before h other))
    (node_on net x y (place_of h) w node r g other at) (outs_on net x y (place_of h) w node outs g o) none
    (subst (λ (t : Trace). Story past node outs (t ++ rest) end new) (until_other w h behind other) story)
    (in_hand_same (past ++ until_stop w (h ∷ behind)) (past ++ until_stop w behind) rest (left_at_stop w (h ∷ behind))
    (left_at_stop w behind) (ap (λ (t : Trace). past ++ t) (until_other w h behind other)) (left_other w h behind other) left)
station_on net x y before behind h w r g other (Station.hand past node middle input step e why rest is same at came taken some refused none left) =
    Station.hand past node middle input step e why rest (since_other w before h other ∙ is) (same ∙ sym (kept_other w before h other))
    (node_on net x y (place_of h) w node r g other at) came taken some refused
    (ap (λ (t : Trace). t ++ rest) (sym (until_other w h behind other)) ∙ none)
    (in_hand_same (past ++ until_stop w (h ∷ behind)) (past ++ until_stop w behind) rest (left_at_stop w (h ∷ behind))
    (left_at_stop w behind) (ap (λ (t : Trace). past ++ t) (until_other w h behind other)) (left_other w h behind other) left)

-- the world one happening further
stands_on : (net : Net) (x y : World) (before behind : Night) (h : Happening) → Stands net x before (h ∷ behind)
    → Grows net x y (place_of h) → y.history ≡ x.history ++ made (h ∷ [])
    → ((s : Start) → IsIn s (started (h ∷ [])) → IsIn s y.starts)
    → ((a b : ℕ) (bytes : List ℕ) (ok : Bool) → h ≡ Does a (Event.Sends (record { to = b; bytes = bytes; ok = ok }))
    → (g : Frame) × IsCarried y a b g × (bytes ≡ frame_bytes g))
    → Station net y (before ++ h ∷ []) behind (place_of h) → Stands net y (before ++ h ∷ []) behind
stands_on net x y before behind h s g history starts sends here = record {
  reached = g.reached s.reached;
  history_ = history ∙ ap (λ (G : List Entry). G ++ made (h ∷ [])) s.history_ ∙ sym (made_next before h);
  started_ = λ t k.
      elim (in_either t (started before) (started (h ∷ [])) (subst (IsIn t) (started_next before h) k)) [
        | inl old ↦ g.started t (s.started_ t old)
        | inr new ↦ starts t new
      ];
  sent_ = λ a b bytes ok k. sent a b bytes ok (in_either _ before (h ∷ []) k);
  stations = λ w.
      elim (eqb_tells w (place_of h)) [
        | inl same ↦ subst (λ (v : ℕ). Station net y (before ++ h ∷ []) behind v) (sym same.1) here
        | inr other ↦ station_on net x y before behind h w s.reached g other.1 (s.stations w)
      ];
}
  where
    sent : (a b : ℕ) (bytes : List ℕ) (ok : Bool)
        → IsIn (Does a (Event.Sends (record { to = b; bytes = bytes; ok = ok }))) before
        ⊎ IsIn (Does a (Event.Sends (record { to = b; bytes = bytes; ok = ok }))) (h ∷ [])
        → (f : Frame) × IsCarried y a b f × (bytes ≡ frame_bytes f)
    sent a b bytes ok (inl old) =
        let it = s.sent_ a b bytes ok old in (it.0, carried_on net x y (place_of h) a b it.0 g it.1, it.2)
    sent a b bytes ok (inr (inl new)) = sends a b bytes ok new
    sent a b bytes ok (inr (inr none)) = absurd none

no_started : (w : ℕ) (left : Option Entry) (s : Start) (P : Type 0) → IsIn s (started (Stops w left ∷ [])) → P
no_started w left s P h = absurd h

clash_none : {X : Type 0} {a : X} {o : Option X} → o ≡ None → o ≡ Some a → ⊥
clash_none none some = none_some (sym none ∙ some)

-- what was heard was sent
links_of : (defs : Defs) (night before behind : Night) (x : World) (w : ℕ) (past : Trace) → IsNight defs night
    → night ≡ before ++ behind → Stands (net_of defs) x before behind → since w before ≡ Some past → Links x w past
links_of defs night before behind x w past n is s running_ = λ a f stands is_for.
    let sent : IsSent before a w f = n.links before behind w a past f is running_ stands is_for in
    s.sent_ a w (frame_bytes f) sent.0 (in_of _ before sent.1)

-- what is kept can be written
written_of : (defs : Defs) (night before behind : Night) (x : World) → IsNight defs night → night ≡ before ++ behind
    → Stands (net_of defs) x before behind → AreWritten x.history
written_of defs night before behind x n is s = λ e k.
    let it = found_in before e (subst (IsIn e) s.history_ k) in
    n.written it.front (it.back ++ behind) it.h it.v e
    (is ∙ ap (λ (l : Night). l ++ behind) it.split ∙ append_assoc it.front (it.h ∷ it.back) behind) it.its

-- the world behind a happening
pub record Next (net : Net) (before behind : Night) (h : Happening) : Type 0 where
  pub world : World
  pub stands : Stands net world (before ++ h ∷ []) behind

pub not_up : {X : Type 0} {a : X} {o : Option X} {P : Type 0} → o ≡ None → o ≡ Some a → P
not_up none some = absurd (none_some (sym none ∙ some))

-- a workstation begins
begins_on : (defs : Defs) (night before behind : Night) (w : ℕ) (entries : List Entry) (x : World) → IsNight defs night
    → night ≡ before ++ Begins w entries ∷ behind → Stands (net_of defs) x before (Begins w entries ∷ behind)
    → Station (net_of defs) x before (Begins w entries ∷ behind) w → Next (net_of defs) before behind (Begins w entries)
begins_on defs night before behind w entries x n is s (Station.outside out none) =
    absurd (out (n.inside before behind w entries is))
begins_on defs night before behind w entries x n is s (Station.up past node outs rest end new some same at o none story left) =
    not_up (n.stood before behind w entries is) some
begins_on defs night before behind w entries x n is s (Station.hand past node middle input step e why rest some same at came taken kept refused none left) =
    not_up (n.stood before behind w entries is) some
begins_on defs night before behind w entries x n is s (Station.down none kept session) =
    let net : Net = net_of defs in
    let life : IsLife defs w entries (until_stop w behind) (left_at_stop w behind) = n.runs before behind w entries is in
    let files : entries ≡ kept_at w before = n.files before behind w entries is in
    let same : kept_at w (before ++ Begins w entries ∷ []) ≡ kept_at w before =
    kept_next w before (Begins w entries) ∙ append-nil (kept_at w before) in
    let at : NodeIn net x w life.start = record {
      net_ = life.begun.net_;
      me_ = life.begun.me_;
      kept_ = subst (λ (k : List Entry). HasKept net x w k) (sym (life.begun.kept_ ∙ files)) kept;
      session_ = life.begun.session_ ∙ sym session;
    } in
    record {
      world = x;
      stands =
          stands_on net x x before behind (Begins w entries) s (grows_not net x w) (sym (append-nil x.history))
          (λ t k. absurd k) (λ a b bytes ok k. absurd (differ a b bytes ok k))
          (Station.up [] life.start [] life.rest life.end life.new.node (since_begins w before entries)
          (life.begun.kept_ ∙ files ∙ sym same) at (outs_none x w life.start) refl
          ((run_tells defs life.turns (running life.start) (until_stop w behind ++ life.rest) life.end life.new life.runs).story []
          (λ y. refl) [])
          life.left_);
    }
  where
    differ : (a b : ℕ) (bytes : List ℕ) (ok : Bool)
        → Begins w entries ≡ Does a (Event.Sends (record { to = b; bytes = bytes; ok = ok })) → ⊥
    differ a b bytes ok k = cc

shown_starts : (x : World) (w : ℕ) (event : Event) → Shows x w event → (s : Start) → IsIn s (started (Does w event ∷ [])) → IsIn s x.starts
shown_starts x w (Event.Starts call) shows s (inl same) = subst (λ (t : Start). IsIn t x.starts) same shows
shown_starts x w (Event.Starts call) shows s (inr none) = absurd none
shown_starts x w (Event.Sends call) shows s h = absurd h
shown_starts x w (Event.Keeps e) shows s h = absurd h
shown_starts x w (Event.Refuses e why) shows s h = absurd h
shown_starts x w (Event.Reads t) shows s h = absurd h
shown_starts x w (Event.Comes a) shows s h = absurd h
shown_starts x w (Event.Reports a) shows s h = absurd h
shown_starts x w (Event.Looks p a) shows s h = absurd h
shown_starts x w (Event.Kills j n) shows s h = absurd h
shown_starts x w (Event.Replies c) shows s h = absurd h
shown_starts x w (Event.Asks c) shows s h = absurd h

same_happening : {v w : ℕ} {a b : Event} → Does v a ≡ Does w b → (v ≡ w) × (a ≡ b)
same_happening q = (cc, cc)

shown_sends : (x : World) (w : ℕ) (event : Event) → Shows x w event → (a b : ℕ) (bytes : List ℕ) (ok : Bool)
    → Does w event ≡ Does a (Event.Sends (record { to = b; bytes = bytes; ok = ok }))
    → (g : Frame) × IsCarried x a b g × (bytes ≡ frame_bytes g)
shown_sends x w event shows a b bytes ok k =
    let same : (w ≡ a) × (event ≡ Event.Sends (record { to = b; bytes = bytes; ok = ok })) = same_happening k in
    subst (λ (v : ℕ). Shows x v (Event.Sends (record { to = b; bytes = bytes; ok = ok }))) same.0
    (subst (λ (d : Event). Shows x w d) same.1 shows)

no_rest : {X : Type 0} (P : Type 0) (x : X) (xs ys : List X) → x ∷ xs ≡ [] → P
no_rest P x xs ys q = cc

pub last_first : (past later : Trace) (event : Event) → past ++ event ∷ later ≡ (past ++ event ∷ []) ++ later
last_first past later event = sym (append_assoc past (event ∷ []) later)

-- an event
advanced : (defs : Defs) (before behind : Night) (w : ℕ) (event : Event) (x : World) → (past : Trace) (rest : Trace) (end : Option NodeEnd)
    (new node : NodeState) → Stands (net_of defs) x before (Does w event ∷ behind) → since w before ≡ Some past
    → node.kept ≡ kept_at w before → refusals past ≡ []
    → IsLeftAtStop (past ++ until_stop w (Does w event ∷ behind)) rest (left_at_stop w (Does w event ∷ behind))
    → Advanced (net_of defs) x w past event (until_stop w behind ++ rest) end new node
    → Next (net_of defs) before behind (Does w event)
advanced defs before behind w event x past rest end new node s some same none left
    (Advanced.went y after outs g at o story history kept quiet shows) = record {
      world = y;
      stands =
          stands_on (net_of defs) x y before behind (Does w event) s g history (shown_starts y w event shows) (shown_sends y w event shows)
          (Station.up (past ++ event ∷ []) after outs rest end new (since_does w before event past some)
          (kept ∙ ap (λ (l : List Entry). l ++ kept_at w (Does w event ∷ [])) same ∙ sym (kept_next w before (Does w event))) at o
          (refusals_next past event ∙ ap (λ l. l ++ refusals (event ∷ [])) none ∙ quiet) story
          (in_hand_same (past ++ until_stop w (Does w event ∷ behind)) ((past ++ event ∷ []) ++ until_stop w behind) rest
          (left_at_stop w behind) (left_at_stop w behind)
          (ap (λ (t : Trace). past ++ t) (until_does w event behind) ∙ last_first past (until_stop w behind) event) refl left));
    }
advanced defs before behind w event x past rest end new node s some same none left
    (Advanced.stuck y after middle input step e why g at kept history came taken its ev later) =
    subst (λ (d : Event). IsLeftAtStop (past ++ until_stop w (Does w d ∷ behind)) rest (left_at_stop w behind) → Next (net_of defs) before behind (Does w d)) (sym ev) (λ hand.
    record {
      world = y;
      stands =
          stands_on (net_of defs) x y before behind (Does w (Event.Refuses e why))
          (subst (λ (d : Event). Stands (net_of defs) x before (Does w d ∷ behind)) ev s) g
          (history ∙ sym (append-nil x.history)) (λ t k. absurd k)
          (λ a b bytes ok k. absurd (differ a b bytes ok k))
          (Station.hand (past ++ Event.Refuses e why ∷ []) after middle input step e why rest
          (since_does w before (Event.Refuses e why) past some)
          (kept ∙ same ∙ sym (kept_next w before (Does w (Event.Refuses e why)) ∙ append-nil (kept_at w before))) at
          (subst (λ (f : ℕ → List ℕ). CameBy f input) (λ i a. sym (heard_stays a past (Event.Refuses e why ∷ []) (tt, tt)) i) came)
          taken its (refusals_next past (Event.Refuses e why) ∙ ap (λ l. l ++ (e, why) ∷ []) none) later
          (in_hand_same (past ++ until_stop w (Does w (Event.Refuses e why) ∷ behind)) ((past ++ Event.Refuses e why ∷ []) ++ until_stop w behind) rest
          (left_at_stop w behind) (left_at_stop w behind)
          (ap (λ (t : Trace). past ++ t) (until_does w (Event.Refuses e why) behind)
          ∙ last_first past (until_stop w behind) (Event.Refuses e why)) refl hand));
    }) left
  where
    differ : (a b : ℕ) (bytes : List ℕ) (ok : Bool)
        → Does w (Event.Refuses e why) ≡ Does a (Event.Sends (record { to = b; bytes = bytes; ok = ok })) → ⊥
    differ a b bytes ok k = clash ((same_happening k).1)
      where
        clash : Event.Refuses e why ≡ Event.Sends (record { to = b; bytes = bytes; ok = ok }) → ⊥
        clash q = cc

does_on : (defs : Defs) (law : ReadLaw (net_of defs)) (night before behind : Night) (w : ℕ) (event : Event) (x : World) → IsNight defs night
    → night ≡ before ++ Does w event ∷ behind → Stands (net_of defs) x before (Does w event ∷ behind)
    → Station (net_of defs) x before (Does w event ∷ behind) w → Next (net_of defs) before behind (Does w event)
does_on defs law night before behind w event x n is s (Station.outside out none) =
    let it = n.acts before behind w event is in not_up none it.1
does_on defs law night before behind w event x n is s (Station.down none kept session) =
    let it = n.acts before behind w event is in not_up none it.1
does_on defs law night before behind w event x n is s (Station.up past node outs rest end new some same at o none story left) =
    advanced defs before behind w event x past rest end new node s some same none left
    (advance (net_of defs) law w event (until_stop w behind ++ rest) past node outs (until_stop w (Does w event ∷ behind) ++ rest) end new story
    x s.reached (written_of defs night before (Does w event ∷ behind) x n is s) at o
    (links_of defs night before (Does w event ∷ behind) x w past n is s some)
    (ap (λ (t : Trace). t ++ rest) (until_does w event behind)))
does_on defs law night before behind w event x n is s (Station.hand past node middle input step e why rest some same at came taken kept refused none left) =
    no_rest (Next (net_of defs) before behind (Does w event)) event (until_stop w behind ++ rest) []
    (sym (ap (λ (t : Trace). t ++ rest) (until_does w event behind)) ∙ none)

-- a stop
stopped : (net : Net) (before behind : Night) (w : ℕ) (left : Option Entry) (x : World) (kept : List Entry)
    → Stands net x before (Stops w left ∷ behind) → kept ≡ kept_at w before → Stopped net x w left kept
    → Next net before behind (Stops w left)
stopped net before behind w left x kept s same it = record {
  world = it.world;
  stands =
      stands_on net x it.world before behind (Stops w left) s it.grows it.history_ (λ t k. absurd k)
      (λ a b bytes ok k. absurd (differ a b bytes ok k))
      (Station.down (since_stops w before left)
      (subst (λ (k : List Entry). HasKept net it.world w k)
      (ap (λ (l : List Entry). l ++ kept_at w (Stops w left ∷ [])) same ∙ sym (kept_next w before (Stops w left))) it.kept_)
      it.session_);
}
  where
    differ : (a b : ℕ) (bytes : List ℕ) (ok : Bool)
        → Stops w left ≡ Does a (Event.Sends (record { to = b; bytes = bytes; ok = ok })) → ⊥
    differ a b bytes ok k = cc

same_pair : (p q : Entry × NodeEnd) → p ∷ [] ≡ q ∷ [] → p.0 ≡ q.0
same_pair p q same = ap first same
  where
    first : List (Entry × NodeEnd) → Entry
    first [] = p.0
    first (r ∷ rs) = r.0

no_pair : {P : Type 0} {p : Entry × NodeEnd} → [] ≡ p ∷ [] → P
no_pair q = cc

stops_up : (net : Net) (law : ReadLaw net) (w : ℕ) (left : Option Entry) (x : World) (past : Trace) (node : NodeState) (outs : List Out)
    (rest : Trace) (end : Option NodeEnd) (new : NodeState) → IsReached net x → AreWritten x.history → Links x w past
    → NodeIn net x w node → refusals past ≡ [] → Story past node outs rest end new → IsLeftAtStop past rest left
    → Stopped net x w left node.kept
stops_up net law w None x past node outs rest end new r written links at none story h =
    stopped_plain net x w node.kept r at.kept_
stops_up net law w (Some e) x past node outs rest end new r written links at none story (inl h) =
    cut_off net law w e h.0 h.1 past node outs rest end new story x r written at links h.2 h.3
stops_up net law w (Some e) x past node outs rest end new r written links at none story (inr h) =
    no_pair (sym none ∙ h.1)

stops_hand : (net : Net) (law : ReadLaw net) (w : ℕ) (left : Option Entry) (x : World) (past : Trace) (node middle : NodeState)
    (input : Input) (step : Step) (e : Entry) (why : NodeEnd) (rest : Trace) → IsReached net x → AreWritten x.history
    → Links x w past → NodeIn net x w node → CameBy (λ a. heard_from a past) input → IsTaken node input step middle
    → step.kept ≡ Some e → refusals past ≡ (e, why) ∷ [] → rest ≡ [] → IsLeftAtStop past rest left
    → Stopped net x w left node.kept
stops_hand net law w None x past node middle input step e why rest r written links at came taken its refused none h =
    stopped_plain net x w node.kept r at.kept_
stops_hand net law w (Some d) x past node middle input step e why rest r written links at came taken its refused none (inl h) =
    no_rest (Stopped net x w (Some d) node.kept) h.0 h.1 [] (sym h.2 ∙ none)
stops_hand net law w (Some d) x past node middle input step e why rest r written links at came taken its refused none (inr h) =
    stopped_in net x w node middle input step d law r written past links at came taken (its ∙ ap Some (same_pair (e, why) (d, h.0) (sym refused ∙ h.1)))

stops_on : (defs : Defs) (law : ReadLaw (net_of defs)) (night before behind : Night) (w : ℕ) (left : Option Entry) (x : World) → IsNight defs night
    → night ≡ before ++ Stops w left ∷ behind → Stands (net_of defs) x before (Stops w left ∷ behind)
    → Station (net_of defs) x before (Stops w left ∷ behind) w → Next (net_of defs) before behind (Stops w left)
stops_on defs law night before behind w left x n is s (Station.outside out none) =
    let it = n.stops before behind w left is in not_up none it.1
stops_on defs law night before behind w left x n is s (Station.down none kept session) =
    let it = n.stops before behind w left is in not_up none it.1
stops_on defs law night before behind w left x n is s (Station.up past node outs rest end new some same at o none story h) =
    stopped (net_of defs) before behind w left x node.kept s same
    (stops_up (net_of defs) law w left x past node outs rest end new s.reached
    (written_of defs night before (Stops w left ∷ behind) x n is s)
    (links_of defs night before (Stops w left ∷ behind) x w past n is s some) at none
    (subst (λ (t : Trace). Story past node outs (t ++ rest) end new) (until_stops w left behind) story)
    (in_hand_same (past ++ until_stop w (Stops w left ∷ behind)) past rest (left_at_stop w (Stops w left ∷ behind)) left
    (ap (λ (t : Trace). past ++ t) (until_stops w left behind) ∙ append-nil past) (left_stops w left behind) h))
stops_on defs law night before behind w left x n is s (Station.hand past node middle input step e why rest some same at came taken kept refused none h) =
    stopped (net_of defs) before behind w left x node.kept s same
    (stops_hand (net_of defs) law w left x past node middle input step e why rest s.reached
    (written_of defs night before (Stops w left ∷ behind) x n is s)
    (links_of defs night before (Stops w left ∷ behind) x w past n is s some) at came taken kept refused
    (sym (ap (λ (t : Trace). t ++ rest) (until_stops w left behind)) ∙ none)
    (in_hand_same (past ++ until_stop w (Stops w left ∷ behind)) past rest (left_at_stop w (Stops w left ∷ behind)) left
    (ap (λ (t : Trace). past ++ t) (until_stops w left behind) ∙ append-nil past) (left_stops w left behind) h))

-- any happening
happens_on : (defs : Defs) (law : ReadLaw (net_of defs)) (night before behind : Night) (h : Happening) (x : World) → IsNight defs night
    → night ≡ before ++ h ∷ behind → Stands (net_of defs) x before (h ∷ behind) → Next (net_of defs) before behind h
happens_on defs law night before behind (Begins w entries) x n is s =
    begins_on defs night before behind w entries x n is s (s.stations w)
happens_on defs law night before behind (Does w event) x n is s =
    does_on defs law night before behind w event x n is s (s.stations w)
happens_on defs law night before behind (Stops w left) x n is s =
    stops_on defs law night before behind w left x n is s (s.stations w)

-- all that is still to come
pub all_on : (defs : Defs) (law : ReadLaw (net_of defs)) (night behind before : Night) (x : World) → IsNight defs night
    → night ≡ before ++ behind → Stands (net_of defs) x before behind → (y : World) × Stands (net_of defs) y night []
all_on defs law night [] before x n is s =
    (x, subst (λ (l : Night). Stands (net_of defs) x l []) (sym (is ∙ append-nil before)) s)
all_on defs law night (h ∷ behind) before x n is s =
    let next : Next (net_of defs) before behind h = happens_on defs law night before behind h x n is s in
    all_on defs law night behind (before ++ h ∷ []) next.world n
    (is ∙ sym (append_assoc before (h ∷ []) behind)) next.stands

-- at the beginning
first_station : (net : Net) (night : Night) (w : ℕ) → Station net empty_world [] night w
first_station net night w = go (leb_tells (node_count net) w)
  where
    go : ((nat_le (node_count net) w ≡ true) × (node_count net ≤ w))
        ⊎ ((nat_le (node_count net) w ≡ false) × (w < node_count net)) → Station net empty_world [] night w
    go (inl beyond) = Station.outside (λ inside. omega (arith, beyond.1, inside)) refl
    go (inr inside) = Station.down refl (kept_first net w inside.1) refl

first_stands : (net : Net) (night : Night) → Stands net empty_world [] night
first_stands net night = record {
  reached = empty_reached net;
  history_ = refl;
  started_ = λ s k. absurd k;
  sent_ = λ a b bytes ok k. absurd k;
  stations = λ w. first_station net night w;
}

kept_of : (net : Net) (x : World) (night : Night) (w : ℕ) → w < node_count net → Station net x night [] w
    → HasKept net x w (kept_at w night)
kept_of net x night w inside (Station.outside out none) = absurd (out inside)
kept_of net x night w inside (Station.down none kept session) = kept
kept_of net x night w inside (Station.up past node outs rest end new some same at o none story left) =
    subst (λ (k : List Entry). HasKept net x w k) same at.kept_
kept_of net x night w inside (Station.hand past node middle input step e why rest some same at came taken kept refused none left) =
    subst (λ (k : List Entry). HasKept net x w k) same at.kept_

session_of : (net : Net) (x : World) (night : Night) (w : ℕ) → w < node_count net → since w night ≡ None → Station net x night [] w
    → x.sessions w ≡ restarted
session_of net x night w inside idle (Station.outside out none) = absurd (out inside)
session_of net x night w inside idle (Station.down none kept session) = session
session_of net x night w inside idle (Station.up past node outs rest end new some same at o none story left) = not_up idle some
session_of net x night w inside idle (Station.hand past node middle input step e why rest some same at came taken kept refused none left) =
    not_up idle some

-- what is known of the world that a night is, but for the order of its starts
pub record IsSoFar (net : Net) (night : Night) : Type 0 where
  pub world : World
  pub reached : IsReached net world
  pub history_ : world.history ≡ made night
  pub kept_ : (w : ℕ) → w < node_count net → HasKept net world w (kept_at w night)
  pub idle_ : (w : ℕ) → w < node_count net → since w night ≡ None → world.sessions w ≡ restarted
  pub members : (s : Start) → IsIn s (started night) → IsIn s world.starts
  pub sent_ : (a b : ℕ) (bytes : List ℕ) (ok : Bool) → IsIn (Does a (Event.Sends (record { to = b; bytes = bytes; ok = ok }))) night
      → (g : Frame) × IsCarried world a b g × (bytes ≡ frame_bytes g)
  pub sound : IsSound net (made night) world.starts

so_far : (net : Net) (night : Night) (x : World) → Stands net x night [] → IsSoFar net night
so_far net night x s = record {
  world = x;
  reached = s.reached;
  history_ = s.history_;
  kept_ = λ w inside. kept_of net x night w inside (s.stations w);
  idle_ = λ w inside idle. session_of net x night w inside idle (s.stations w);
  members = s.started_;
  sent_ = s.sent_;
  sound = subst (λ (G : List Entry). IsSound net G x.starts) s.history_ (invariant net x s.reached).sound;
}

-- the first happening of a night is a begin
first_begins : (defs : Defs) (h : Happening) (night : Night) → IsNight defs (h ∷ night) → ReadLaw (net_of defs)
first_begins defs (Begins w entries) night n = read_law (net_of defs) (n.few [] night w entries refl)
first_begins defs (Does w event) night n = let it = n.acts [] night w event refl in not_up refl it.1
first_begins defs (Stops w left) night n = let it = n.stops [] night w left refl in not_up refl it.1

-- each night of the premises is a world, and its history is sound
pub night_is_world : (defs : Defs) (night : Night) → IsNight defs night → IsSoFar (net_of defs) night
night_is_world defs [] n = so_far (net_of defs) [] empty_world (first_stands (net_of defs) [])
night_is_world defs (h ∷ night) n =
    let it = all_on defs (first_begins defs h night n) (h ∷ night) (h ∷ night) [] empty_world n refl (first_stands (net_of defs) (h ∷ night)) in
    so_far (net_of defs) (h ∷ night) it.0 it.1
