-- One event of a run, or a stop, in the world.
use Rattle.std.proofs.Common.{[], ◌++◌, ◌≡◌, ◌≢◌, ◌∙◌, ◌∷◌, ◌⊎◌, ℕ, List, None, Option, Some, ap, false, inl, inr, refl, subst, sym, true}
use Rattle.std.proofs.lemmas.Bool.Decides.{eqb_tells}
use Rattle.std.proofs.lemmas.List.{append-nil}
use Rattle.std.specs.Option.{option_to_list}
use Rattle.std.specs.Prelude.{◌==◌}
use Rattle.lemmas.proofs.Options.{none_some, some_is}
use Rattle.lemmas.proofs.Lists.{same_head, same_tail}
use Rattle.model.specs.Types.{Entry, Input, Net, Out}
use Rattle.model.specs.Kept.{HasKept}
use Rattle.model.specs.Sessions.{restarted}
use Rattle.model.specs.World.{Origin, World, history_with}
use Rattle.model_laws.proofs.Holdings.{IsKept}
use Rattle.mail_frames.specs.declared.frames.Frame.{Frame}
use Rattle.mail_frames.specs.Spelling.{frame_bytes}
use Rattle.agent_core.specs.Nodes.{NodeState}
use Rattle.agent_core.specs.Steps.{IsTaken, effect_in}
use Rattle.agent_core.specs.declared.faults.Step.{Step}
use Rattle.node_inputs.specs.Traces.{Event, Trace, refusals, tried_by}
use Rattle.node_inputs.specs.declared.ends.NodeEnd.{NodeEnd}
use Rattle.network_runs.specs.Happenings.{Does, Stops, heard_from, kept_at, made}
use Rattle.network_runs.proofs.Worlds.{IsReached, invariant, stop_moves}
use Rattle.network_runs.proofs.Growing.{Grows, NodeIn, Took, cut_of, grows_not, grows_on, history_next, kept_here, moves_grow, node_cut, node_takes, stands_again}
use Rattle.network_runs.proofs.Carrying.{AreWritten, IsCarried, Links, OutsIn, ReadLaw, came_there, links_on, outs_in}
use Rattle.network_runs.proofs.Stories.{CameBy, IsMinor, Story}
use Rattle.network_runs.proofs.Members.{IsIn}

-- what an event shows is in the world
abbrev pub Shows : World → ℕ → Event → Type 0
Shows x w (Event.Starts call) = IsIn (record { ws = w; job = call.job; number = call.number }) x.starts
Shows x w (Event.Sends call) = (g : Frame) × IsCarried x w call.to g × (call.bytes ≡ frame_bytes g)
Shows x w _ = Unit {0}

pub data Advanced (net : Net) (x : World) (w : ℕ) (past : Trace) (event : Event) (later : Trace) (end : Option NodeEnd) (new old : NodeState) : Type 0 where
  went : (y : World) (node : NodeState) (outs : List Out) → Grows net x y w → NodeIn net y w node → OutsIn y w node outs
      → Story (past ++ event ∷ []) node outs later end new → y.history ≡ x.history ++ made (Does w event ∷ [])
      → node.kept ≡ old.kept ++ kept_at w (Does w event ∷ []) → refusals (event ∷ []) ≡ [] → Shows y w event
      → Advanced net x w past event later end new old
  stuck : (y : World) (node middle : NodeState) (input : Input) (step : Step) (e : Entry) (why : NodeEnd) → Grows net x y w
      → NodeIn net y w node → node.kept ≡ old.kept → y.history ≡ x.history → CameBy (λ a. heard_from a past) input
      → IsTaken node input step middle → step.kept ≡ Some e → event ≡ Event.Refuses e why → later ≡ []
      → Advanced net x w past event later end new old

kept_one : (w : ℕ) (e : Entry) → kept_at w (Does w (Event.Keeps e) ∷ []) ≡ e ∷ []
kept_one w e = go (eqb_tells w w)
  where
    go : ((w == w) ≡ true) × (w ≡ w) ⊎ ((w == w) ≡ false) × (w ≢ w) → kept_at w (Does w (Event.Keeps e) ∷ []) ≡ e ∷ []
    go (inl t) = rw t.0 refl
    go (inr t) = absurd (t.1 refl)

-- a minor event keeps nothing and refuses nothing
record IsPlain (w : ℕ) (event : Event) : Type 0 where
  pub makes_none : made (Does w event ∷ []) ≡ []
  pub keeps_none : kept_at w (Does w event ∷ []) ≡ []
  pub refuses_none : refusals (event ∷ []) ≡ []

minor_plain : (w : ℕ) (s : NodeState) (outs : List Out) (event : Event) → IsMinor s outs event → IsPlain w event
minor_plain w s outs (Event.Keeps e) h = absurd h
minor_plain w s outs (Event.Refuses e why) h = absurd h
minor_plain w s outs (Event.Reads t) h = record { makes_none = refl; keeps_none = refl; refuses_none = refl }
minor_plain w s outs (Event.Comes a) h = record { makes_none = refl; keeps_none = refl; refuses_none = refl }
minor_plain w s outs (Event.Reports a) h = record { makes_none = refl; keeps_none = refl; refuses_none = refl }
minor_plain w s outs (Event.Looks p a) h = record { makes_none = refl; keeps_none = refl; refuses_none = refl }
minor_plain w s outs (Event.Starts c) h = record { makes_none = refl; keeps_none = refl; refuses_none = refl }
minor_plain w s outs (Event.Kills j n) h = record { makes_none = refl; keeps_none = refl; refuses_none = refl }
minor_plain w s outs (Event.Sends c) h = record { makes_none = refl; keeps_none = refl; refuses_none = refl }
minor_plain w s outs (Event.Replies c) h = record { makes_none = refl; keeps_none = refl; refuses_none = refl }
minor_plain w s outs (Event.Asks c) h = record { makes_none = refl; keeps_none = refl; refuses_none = refl }

minor_shows : (x : World) (w : ℕ) (s : NodeState) (outs : List Out) (event : Event) → OutsIn x w s outs → IsMinor s outs event
    → Shows x w event
minor_shows x w s outs (Event.Starts c) o h = o.starts c.job c.number c.work h
minor_shows x w s outs (Event.Sends c) o h = (h.frame_, o.sends c.to h.packet h.frame_ h.given h.is, h.bytes_)
minor_shows x w s outs (Event.Keeps e) o h = absurd h
minor_shows x w s outs (Event.Refuses e why) o h = absurd h
minor_shows x w s outs (Event.Reads t) o h = tt
minor_shows x w s outs (Event.Comes a) o h = tt
minor_shows x w s outs (Event.Reports a) o h = tt
minor_shows x w s outs (Event.Looks p a) o h = tt
minor_shows x w s outs (Event.Kills j n) o h = tt
minor_shows x w s outs (Event.Replies c) o h = tt
minor_shows x w s outs (Event.Asks c) o h = tt

-- where some quiet steps were made before
advanced_on : (net : Net) (x y : World) (w : ℕ) (past : Trace) (event : Event) (later : Trace) (end : Option NodeEnd)
    (new old middle : NodeState) → Grows net x y w → y.history ≡ x.history → middle.kept ≡ old.kept
    → Advanced net y w past event later end new middle → Advanced net x w past event later end new old
advanced_on net x y w past event later end new old middle g same kept (Advanced.went z node outs h at o story history its none shows) =
    Advanced.went z node outs (grows_on net x y z w g h) at o story
    (history ∙ ap (λ (G : List Entry). G ++ made (Does w event ∷ [])) same)
    (its ∙ ap (λ (K : List Entry). K ++ kept_at w (Does w event ∷ [])) kept) none shows
advanced_on net x y w past event later end new old middle g same kept (Advanced.stuck z node after input step e why h at its history came taken is ev le) =
    Advanced.stuck z node after input step e why (grows_on net x y z w g h) at (its ∙ kept) (history ∙ same) came taken is ev le

no_history : (o : Origin) (G : List Entry) (m : Option Entry) → m ≡ None → history_with o G m ≡ G
no_history o G m is = ap (history_with o G) is ∙ go o
  where
    go : (o : Origin) → history_with o G None ≡ G
    go Origin.Own = refl
    go Origin.Mailed = refl

history_kept : (w : ℕ) (x : World) (o : Origin) (m : Option Entry) (e : Entry) → m ≡ Some e → IsKept x.history (x.holdings w) w o m
    → history_with o x.history m ≡ x.history ++ made (Does w (Event.Keeps e) ∷ [])
history_kept w x o m e is k =
    ap (history_with o x.history) is
    ∙ history_next w o x.history (x.holdings w) e (subst (λ (n : Option Entry). IsKept x.history (x.holdings w) w o n) is k)

-- the next event of a story is taken in the world
pub advance : (net : Net) (law : ReadLaw net) (w : ℕ) (event : Event) (later : Trace) (past : Trace) (node : NodeState) (outs : List Out)
    (trace : Trace) (end : Option NodeEnd) (new : NodeState) → Story past node outs trace end new → (x : World) → IsReached net x
    → AreWritten x.history → NodeIn net x w node → OutsIn x w node outs → Links x w past → trace ≡ event ∷ later
    → Advanced net x w past event later end new node
advance net law w event later past node outs trace end new (Story.rests _ _ _ _ _ _ none same) x r written at o links is = cc
advance net law w event later past node outs trace end new (Story.spent _ _ _ _ _ _ none why) x r written at o links is = cc
advance net law w event later past node outs trace end new (Story.passes _ _ _ _ _ _ other rest split minor h) x r written at o links is =
    let same : other ≡ event = same_head (sym split ∙ is) in
    let behind : rest ≡ later = same_tail (sym split ∙ is) in
    let its : IsMinor node outs event = subst (IsMinor node outs) same minor in
    let plain : IsPlain w event = minor_plain w node outs event its in
    Advanced.went x node outs (grows_not net x w) at o
    (subst (λ (t : Trace). Story (past ++ event ∷ []) node outs t end new) behind
    (subst (λ (d : Event). Story (past ++ d ∷ []) node outs rest end new) same h))
    (sym (append-nil x.history) ∙ ap (λ (l : List Entry). x.history ++ l) (sym plain.makes_none))
    (sym (append-nil node.kept) ∙ ap (λ (l : List Entry). node.kept ++ l) (sym plain.keeps_none)) plain.refuses_none
    (minor_shows x w node outs event o its)
advance net law w event later past node outs trace end new (Story.quiet _ _ _ _ _ _ input step middle came taken none h) x r written at o links is =
    let it : Took net x w (effect_in step middle) (effect_in step middle) =
    node_takes net x w node middle input step at (came_there x w past input (law.reads x r written) links came) taken in
    let y : World = it.world in
    let g : Grows net x y w = moves_grow net x y w it.origin (effect_in step middle) it.moves in
    let same : y.history ≡ x.history = it.moves.history_ ∙ no_history it.origin x.history step.kept none in
    let stands : NodeIn net y w middle = stands_again net x y w it.origin node middle input step r at taken it.moves in
    advanced_on net x y w past event later end new node middle g same
    (taken.kept ∙ ap (λ (m : Option Entry). node.kept ++ option_to_list m) none ∙ append-nil node.kept)
    (advance net law w event later past middle step.outs trace end new h y (g.reached r)
    (subst AreWritten (sym same) written) stands (outs_in net x y w it.origin node input step middle law.few at taken it.moves stands)
    (links_on net x y w w past g links) is)
advance net law w event later past node outs trace end new (Story.keeps _ _ _ _ _ _ input step middle e rest split came taken some h) x r written at o links is =
    let same : Event.Keeps e ≡ event = same_head (sym split ∙ is) in
    let behind : rest ≡ later = same_tail (sym split ∙ is) in
    let it : Took net x w (effect_in step middle) (effect_in step middle) =
    node_takes net x w node middle input step at (came_there x w past input (law.reads x r written) links came) taken in
    let y : World = it.world in
    let stands : NodeIn net y w middle = stands_again net x y w it.origin node middle input step r at taken it.moves in
    subst (λ (d : Event). Advanced net x w past d later end new node) same
    (Advanced.went y middle step.outs (moves_grow net x y w it.origin (effect_in step middle) it.moves) stands
    (outs_in net x y w it.origin node input step middle law.few at taken it.moves stands)
    (subst (λ (t : Trace). Story (past ++ Event.Keeps e ∷ []) middle step.outs t end new) behind h)
    (it.moves.history_ ∙ history_kept w x it.origin step.kept e some it.keeps)
    (taken.kept ∙ ap (λ (m : Option Entry). node.kept ++ option_to_list m) some
    ∙ ap (λ (l : List Entry). node.kept ++ l) (sym (kept_one w e))) refl tt)
advance net law w event later past node outs trace end new (Story.refused _ _ _ _ _ _ input step middle e why split ends came taken some) x r written at o links is =
    Advanced.stuck x node middle input step e why (grows_not net x w) at refl refl came taken some
    (sym (same_head (sym split ∙ is))) (sym (same_tail (sym split ∙ is)))

-- w stops, with this entry left
pub record Stopped (net : Net) (x : World) (w : ℕ) (left : Option Entry) (old : List Entry) : Type 0 where
  pub world : World
  pub grows : Grows net x world w
  pub kept_ : HasKept net world w (old ++ kept_at w (Stops w left ∷ []))
  pub session_ : world.sessions w ≡ restarted
  pub history_ : world.history ≡ x.history ++ made (Stops w left ∷ [])

pub stopped_plain : (net : Net) (x : World) (w : ℕ) (kept : List Entry) → IsReached net x → HasKept net x w kept
    → Stopped net x w None kept
stopped_plain net x w kept r h =
    let it = stop_moves net x w in
    record {
      world = it.0;
      grows = moves_grow net x it.0 w Origin.Own (record { made = None; outs = []; session = restarted }) it.1;
      kept_ =
          subst (λ (k : List Entry). HasKept net it.0 w k) (kept_here w None kept) (it.1.kept_ w kept (invariant net x r) h);
      session_ = it.1.here;
      history_ = it.1.history_ ∙ sym (append-nil x.history);
    }

-- in the step of an input, whose entry is left
pub stopped_in : (net : Net) (x : World) (w : ℕ) (node middle : NodeState) (input : Input) (step : Step) (e : Entry)
    → ReadLaw net → IsReached net x → AreWritten x.history → (past : Trace) → Links x w past → NodeIn net x w node
    → CameBy (λ a. heard_from a past) input → IsTaken node input step middle → step.kept ≡ Some e
    → Stopped net x w (Some e) node.kept
stopped_in net x w node middle input step e law r written past links at came taken some =
    let it : Took net x w (cut_of (effect_in step middle)) (effect_in step middle) =
    node_cut net x w node middle input step at (came_there x w past input (law.reads x r written) links came) taken in
    let y : World = it.world in
    record {
      world = y;
      grows = moves_grow net x y w it.origin (cut_of (effect_in step middle)) it.moves;
      kept_ =
          subst (λ (k : List Entry). HasKept net y w k)
          (kept_here w step.kept node.kept ∙ ap (λ (m : Option Entry). node.kept ++ option_to_list m) some
          ∙ ap (λ (l : List Entry). node.kept ++ l) (sym (kept_one w e)))
          (it.moves.kept_ w node.kept (invariant net x r) at.kept_);
      session_ = it.moves.here;
      history_ = it.moves.history_ ∙ history_kept w x it.origin step.kept e some it.keeps;
    }

minor_untried : (s : NodeState) (outs : List Out) (event : Event) → IsMinor s outs event → tried_by event ≡ None
minor_untried s outs (Event.Keeps e) h = absurd h
minor_untried s outs (Event.Refuses e why) h = absurd h
minor_untried s outs (Event.Reads t) h = refl
minor_untried s outs (Event.Comes a) h = refl
minor_untried s outs (Event.Reports a) h = refl
minor_untried s outs (Event.Looks p a) h = refl
minor_untried s outs (Event.Starts c) h = refl
minor_untried s outs (Event.Kills j n) h = refl
minor_untried s outs (Event.Sends c) h = refl
minor_untried s outs (Event.Replies c) h = refl
minor_untried s outs (Event.Asks c) h = refl

-- where the next event was to keep an entry, it is left by a stop
pub cut_off : (net : Net) (law : ReadLaw net) (w : ℕ) (e : Entry) (event : Event) (later : Trace) (past : Trace) (node : NodeState) (outs : List Out)
    (trace : Trace) (end : Option NodeEnd) (new : NodeState) → Story past node outs trace end new → (x : World) → IsReached net x
    → AreWritten x.history → NodeIn net x w node → Links x w past → trace ≡ event ∷ later → tried_by event ≡ Some e
    → Stopped net x w (Some e) node.kept
cut_off net law w e event later past node outs trace end new (Story.rests _ _ _ _ _ _ none same) x r written at links is tried = cc
cut_off net law w e event later past node outs trace end new (Story.spent _ _ _ _ _ _ none why) x r written at links is tried = cc
cut_off net law w e event later past node outs trace end new (Story.passes _ _ _ _ _ _ other rest split minor h) x r written at links is tried =
    absurd (none_some (sym (minor_untried node outs event (subst (IsMinor node outs) (same_head (sym split ∙ is)) minor)) ∙ tried))
cut_off net law w e event later past node outs trace end new (Story.quiet _ _ _ _ _ _ input step middle came taken none h) x r written at links is tried =
    let it : Took net x w (effect_in step middle) (effect_in step middle) =
    node_takes net x w node middle input step at (came_there x w past input (law.reads x r written) links came) taken in
    let y : World = it.world in
    let g : Grows net x y w = moves_grow net x y w it.origin (effect_in step middle) it.moves in
    let same : y.history ≡ x.history = it.moves.history_ ∙ no_history it.origin x.history step.kept none in
    let stands : NodeIn net y w middle = stands_again net x y w it.origin node middle input step r at taken it.moves in
    let kept : middle.kept ≡ node.kept =
    taken.kept ∙ ap (λ (m : Option Entry). node.kept ++ option_to_list m) none ∙ append-nil node.kept in
    let s : Stopped net y w (Some e) middle.kept =
    cut_off net law w e event later past middle step.outs trace end new h y (g.reached r) (subst AreWritten (sym same) written)
    stands (links_on net x y w w past g links) is tried in
    record {
      world = s.world;
      grows = grows_on net x y s.world w g s.grows;
      kept_ = subst (λ (k : List Entry). HasKept net s.world w (k ++ kept_at w (Stops w (Some e) ∷ []))) kept s.kept_;
      session_ = s.session_;
      history_ = s.history_ ∙ ap (λ (G : List Entry). G ++ made (Stops w (Some e) ∷ [])) same;
    }
cut_off net law w e event later past node outs trace end new (Story.keeps _ _ _ _ _ _ input step middle d rest split came taken some h) x r written at links is tried =
    let same : d ≡ e = some_is (ap tried_by (same_head (sym split ∙ is)) ∙ tried) in
    stopped_in net x w node middle input step e law r written past links at came taken (some ∙ ap Some same)
cut_off net law w e event later past node outs trace end new (Story.refused _ _ _ _ _ _ input step middle d why split ends came taken some) x r written at links is tried =
    let same : d ≡ e = some_is (ap tried_by (same_head (sym split ∙ is)) ∙ tried) in
    stopped_in net x w node middle input step e law r written past links at came taken (some ∙ ap Some same)
