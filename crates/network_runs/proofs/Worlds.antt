-- Steps of the world without limits, and what they do.
use Rattle.std.proofs.Common.{[], ◌++◌, ◌≡◌, ◌≢◌, ◌∙◌, ◌∷◌, ◌⊎◌, ℕ, Bool, List, None, Option, Some, ap, false, inl, inr, refl, subst, sym, true}
use Rattle.std.proofs.lemmas.Bool.Decides.{eqb_tells}
use Rattle.std.specs.Option.{option_to_list}
use Rattle.std.specs.Prelude.{if◌then◌else◌, ◌<◌, ◌==◌, Ok, filter_map}
use Rattle.model.specs.Types.{Crash, CrashDeliver, CrashTake, Deliver, Entry, Input, Launch, Local, Net, Out, Packet, Send, Start, Take, WorldStep}
use Rattle.model.specs.Words.{with_at}
use Rattle.model.specs.FreeSteps.{free_run, free_step, recounted}
use Rattle.model.specs.Invariant.{Invariant}
use Rattle.model.specs.Kept.{AreHeld, HasKept, kept_in, kept_over, made_by, only_if}
use Rattle.model.specs.Sessions.{Session, restarted}
use Rattle.model.specs.Step.{Effect, node_step}
use Rattle.model.specs.World.{Origin, World, apply_effect, cut_short, delivery, empty_world, history_with, mark_delivered, node_effect, or_as_before, packets_to, start_in, step, view_at}
use Rattle.model.specs.Network.{node_count}
use Rattle.model.specs.World.{run}
use Rattle.model_laws.proofs.Feeds.{with_at-all}
use Rattle.model_laws.proofs.FreeRuns.{free_always, nothing_reached}
use Rattle.model_laws.proofs.Keeps.{at_start}
use Rattle.model_laws.proofs.KeptLists.{always_restored, step_kept}
use Rattle.network_runs.proofs.Counting.{apart, together}
use Rattle.network_runs.proofs.Members.{IsIn, in_left, in_mapped, in_right}

-- steps lead there from the empty world
pub record IsReached (net : Net) (x : World) : Type 0 where
  pub steps : List WorldStep
  pub by_them : x ≡ free_run net steps empty_world

run_more : (net : Net) (steps : List WorldStep) (s : WorldStep) (x : World)
    → free_run net (steps ++ s ∷ []) x ≡ or_as_before (free_run net steps x) (free_step net (free_run net steps x) s)
unfolding free_run
run_more net [] s x = refl
run_more net (t ∷ steps) s x = run_more net steps s (or_as_before x (free_step net x t))

pub reached_next : (net : Net) (x y : World) (s : WorldStep) → IsReached net x → free_step net x s ≡ Ok y → IsReached net y
reached_next net x y s r e = record {
  steps = r.steps ++ s ∷ [];
  by_them =
      sym (run_more net r.steps s empty_world ∙ ap (λ (z : World). or_as_before z (free_step net z s)) (sym r.by_them)
      ∙ ap (or_as_before x) e);
}

pub empty_reached : (net : Net) → IsReached net empty_world
unfolding free_run
empty_reached net = record { steps = []; by_them = refl }

pub invariant : (net : Net) (x : World) → IsReached net x → Invariant net x
invariant net x r =
    subst (λ (z : World). Invariant net z) (sym r.by_them) (free_always net r.steps empty_world (at_start net))

effect_free : (net : Net) (x : World) (w : ℕ) (i : Input) (d : Effect)
    → node_step net w (view_at x w) (x.sessions w) i ≡ Ok d → node_effect net (recounted x) w (Some i) ≡ Ok d
unfolding node_effect
effect_free net x w i d e = rw (nothing_reached x, e) refl

-- what a step at w did: which entry w kept, with this origin, what w gave out, and its session then
pub record Moves (net : Net) (x y : World) (w : ℕ) (o : Origin) (d : Effect) : Type 0 where
  pub reached : IsReached net x → IsReached net y
  pub kept_ : (v : ℕ) (kept : List Entry) → Invariant net x → HasKept net x v kept
      → HasKept net y v (kept ++ option_to_list (only_if (v == w) d.made))
  pub history_ : y.history ≡ history_with o x.history d.made
  pub here : y.sessions w ≡ d.session
  pub there : (v : ℕ) → v ≢ w → y.sessions v ≡ x.sessions v
  pub sent : (a b : ℕ) (p : Packet) → IsIn p (x.packets a b) → IsIn p (y.packets a b)
  pub sends : (b : ℕ) (p : Packet) → IsIn (Send b p) d.outs → IsIn p (y.packets w b)
  pub started : (s : Start) → IsIn s x.starts → IsIn s y.starts
  pub starts : (s : Start) (out : Out) → IsIn out d.outs → start_in w out ≡ Some s → IsIn s y.starts

-- what a step wrote of it
record Applied (x y : World) (w : ℕ) (o : Origin) (d : Effect) : Type 0 where
  pub history_ : y.history ≡ history_with o x.history d.made
  pub sessions_ : y.sessions ≡ with_at w d.session x.sessions
  pub packets_ : y.packets ≡ with_at w (λ b. x.packets w b ++ packets_to b d.outs) x.packets
  pub starts_ : y.starts ≡ x.starts ++ filter_map (start_in w) d.outs

applied : (x : World) (w : ℕ) (o : Origin) (d : Effect) → Applied x (apply_effect (recounted x) w o d) w o d
unfolding apply_effect
applied x w o d = record { history_ = refl; sessions_ = refl; packets_ = refl; starts_ = refl }

marked : (x : World) (a b k : ℕ) (o : Origin) (d : Effect)
    → Applied x (mark_delivered (apply_effect (recounted x) b o d) a b k) b o d
unfolding apply_effect mark_delivered
marked x a b k o d = record { history_ = refl; sessions_ = refl; packets_ = refl; starts_ = refl }

sent_to : (b : ℕ) (p : Packet) (outs : List Out) → IsIn (Send b p) outs → IsIn p (packets_to b outs)
sent_to b p [] h = absurd h
sent_to b p (Send to q ∷ outs) (inl e) = go (eqb_tells to b)
  where
    same : (to ≡ b) × (q ≡ p)
    same = (cc, cc)

    go : ((to == b) ≡ true) × (to ≡ b) ⊎ ((to == b) ≡ false) × (to ≢ b) → IsIn p (packets_to b (Send to q ∷ outs))
    go (inl t) = rw t.0 (inl same.1)
    go (inr t) = absurd (t.1 same.0)
sent_to b p (Send to q ∷ outs) (inr h) = go (to == b) (sent_to b p outs h)
  where
    go : (c : Bool) → IsIn p (packets_to b outs) → IsIn p (if c then q ∷ packets_to b outs else packets_to b outs)
    go true later = inr later
    go false later = later
sent_to b p (Launch j n work ∷ outs) (inl e) = cc
sent_to b p (Launch j n work ∷ outs) (inr h) = sent_to b p outs h
sent_to b p (Out.Kill j n ∷ outs) (inl e) = cc
sent_to b p (Out.Kill j n ∷ outs) (inr h) = sent_to b p outs h

held : (net : Net) (x : World) → Invariant net x → AreHeld (recounted x)
held net x i = record { within = i.within; own = λ f. i.own _ f refl }

moves_of : (net : Net) (x y : World) (s : WorldStep) (w : ℕ) (o : Origin) (d : Effect) → free_step net x s ≡ Ok y
    → Applied x y w o d → ((v : ℕ) → kept_in net (recounted x) v s ≡ only_if (v == w) d.made) → Moves net x y w o d
unfolding free_step
moves_of net x y s w o d stepped a made = record {
  reached = λ r. reached_next net x y s r stepped;
  kept_ = λ v kept i h.
      subst (λ (m : Option Entry). HasKept net y v (kept ++ option_to_list m)) (made v)
      (step_kept net (recounted x) y s v kept (held net x i)
      (record { holds_them = h.holds_them; is_restored = h.is_restored }) stepped);
  history_ = a.history_;
  here = ap (λ (f : ℕ → Session). f w) a.sessions_ ∙ together w d.session (x.sessions w);
  there = λ v other. ap (λ (f : ℕ → Session). f v) a.sessions_ ∙ apart v w d.session (x.sessions v) (λ e. other (sym e));
  sent = λ a_ b p h.
      subst (λ (f : ℕ → ℕ → List Packet). IsIn p (f a_ b)) (sym a.packets_)
      (with_at-all (λ (v : ℕ) (lane : ℕ → List Packet). IsIn p (x.packets v b) → IsIn p (lane b)) w
      (λ c. x.packets w c ++ packets_to c d.outs) x.packets (λ g. in_left p (x.packets w b) (packets_to b d.outs) g)
      (λ v other g. g) a_ h);
  sends = λ b p h.
      subst (λ (f : ℕ → ℕ → List Packet). IsIn p (f w b)) (sym a.packets_)
      (subst (λ (lane : ℕ → List Packet). IsIn p (lane b)) (sym (together w (λ c. x.packets w c ++ packets_to c d.outs) (x.packets w)))
      (in_right p (x.packets w b) (packets_to b d.outs) (sent_to b p d.outs h)));
  started = λ t h. subst (IsIn t) (sym a.starts_) (in_left t x.starts (filter_map (start_in w) d.outs) h);
  starts = λ t out h e.
      subst (IsIn t) (sym a.starts_) (in_right t x.starts (filter_map (start_in w) d.outs) (in_mapped (start_in w) out t d.outs h e));
}

-- a node of w takes what happens there
pub take_moves : (net : Net) (x : World) (w : ℕ) (l : Local) (d : Effect)
    → node_step net w (view_at x w) (x.sessions w) (Input.Local l) ≡ Ok d → (y : World) × Moves net x y w Origin.Own d
unfolding free_step step kept_in
take_moves net x w l d e =
    let done : node_effect net (recounted x) w (Some (Input.Local l)) ≡ Ok d = effect_free net x w (Input.Local l) d e in
    let stepped : free_step net x (Take w l) ≡ Ok (apply_effect (recounted x) w Origin.Own d) = rw done refl in (
      apply_effect (recounted x) w Origin.Own d,
      moves_of net x (apply_effect (recounted x) w Origin.Own d) (Take w l) w Origin.Own d stepped
          (applied x w Origin.Own d) (λ v. ap (λ r. only_if (v == w) (made_by r)) done),
    )

-- or stops in that step, with its entry kept
pub take_cut : (net : Net) (x : World) (w : ℕ) (l : Local) (d : Effect)
    → node_step net w (view_at x w) (x.sessions w) (Input.Local l) ≡ Ok d
    → (y : World) × Moves net x y w Origin.Own (record { made = d.made; outs = []; session = restarted })
unfolding free_step step kept_in cut_short
take_cut net x w l d e =
    let done : node_effect net (recounted x) w (Some (Input.Local l)) ≡ Ok d = effect_free net x w (Input.Local l) d e in
    let cut : Effect = record { made = d.made; outs = []; session = restarted } in
    let stepped : free_step net x (CrashTake w l true) ≡ Ok (apply_effect (recounted x) w Origin.Own cut) = rw done refl in (
      apply_effect (recounted x) w Origin.Own cut,
      moves_of net x (apply_effect (recounted x) w Origin.Own cut) (CrashTake w l true) w Origin.Own cut stepped
          (applied x w Origin.Own cut) (λ v. ap (λ r. only_if (v == w) (made_by r)) done),
    )

-- or stops between its steps
pub stop_moves : (net : Net) (x : World) (w : ℕ)
    → (y : World) × Moves net x y w Origin.Own (record { made = None; outs = []; session = restarted })
unfolding free_step step kept_in
stop_moves net x w =
    let cut : Effect = record { made = None; outs = []; session = restarted } in
    let stepped : free_step net x (Crash w) ≡ Ok (apply_effect (recounted x) w Origin.Own cut) = rw (nothing_reached x) refl in (
      apply_effect (recounted x) w Origin.Own cut,
      moves_of net x (apply_effect (recounted x) w Origin.Own cut) (Crash w) w Origin.Own cut stepped
          (applied x w Origin.Own cut) (λ v. sym (only_none (v == w))),
    )
  where
    only_none : (b : Bool) → only_if b None ≡ None
    only_none true = refl
    only_none false = refl

-- a packet is delivered
pub deliver_moves : (net : Net) (x : World) (a b k : ℕ) (i : Input) (d : Effect) → delivery (recounted x) a b k ≡ Some i
    → node_step net b (view_at x b) (x.sessions b) i ≡ Ok d → (y : World) × Moves net x y b Origin.Mailed d
unfolding free_step step kept_in
deliver_moves net x a b k i d there e =
    let done : node_effect net (recounted x) b (delivery (recounted x) a b k) ≡ Ok d =
    ap (node_effect net (recounted x) b) there ∙ effect_free net x b i d e in
    let stepped : free_step net x (Deliver a b k) ≡ Ok (mark_delivered (apply_effect (recounted x) b Origin.Mailed d) a b k) =
    rw done refl in (
      mark_delivered (apply_effect (recounted x) b Origin.Mailed d) a b k,
      moves_of net x (mark_delivered (apply_effect (recounted x) b Origin.Mailed d) a b k) (Deliver a b k) b Origin.Mailed d
          stepped (marked x a b k Origin.Mailed d) (λ v. ap (λ r. only_if (v == b) (made_by r)) done),
    )

pub deliver_cut : (net : Net) (x : World) (a b k : ℕ) (i : Input) (d : Effect) → delivery (recounted x) a b k ≡ Some i
    → node_step net b (view_at x b) (x.sessions b) i ≡ Ok d
    → (y : World) × Moves net x y b Origin.Mailed (record { made = d.made; outs = []; session = restarted })
unfolding free_step step kept_in cut_short
deliver_cut net x a b k i d there e =
    let cut : Effect = record { made = d.made; outs = []; session = restarted } in
    let done : node_effect net (recounted x) b (delivery (recounted x) a b k) ≡ Ok d =
    ap (node_effect net (recounted x) b) there ∙ effect_free net x b i d e in
    let stepped : free_step net x (CrashDeliver a b k true) ≡ Ok (mark_delivered (apply_effect (recounted x) b Origin.Mailed cut) a b k) =
    rw done refl in (
      mark_delivered (apply_effect (recounted x) b Origin.Mailed cut) a b k,
      moves_of net x (mark_delivered (apply_effect (recounted x) b Origin.Mailed cut) a b k) (CrashDeliver a b k true) b Origin.Mailed cut
          stepped (marked x a b k Origin.Mailed cut) (λ v. ap (λ r. only_if (v == b) (made_by r)) done),
    )

pub kept_first : (net : Net) (w : ℕ) → w < node_count net → HasKept net empty_world w []
unfolding run kept_over
kept_first net w inside = always_restored net [] w inside
