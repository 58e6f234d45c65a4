-- A turn or a delivery that a node takes is a step of the world for which it stands.
use Rattle.std.proofs.Common.{◌≡◌, ◌≢◌, ◌∙◌, ◌⊎◌, ℕ, true, false, inl, inr, List, [], ◌∷◌, ◌++◌, refl, ap, sym, subst, Option, Some, None}
use Rattle.std.proofs.lemmas.Bool.Decides.{eqb_tells}
use Rattle.std.specs.Option.{option_to_list}
use Rattle.std.specs.Prelude.{◌==◌, Err, Ok, filter_map}
use Rattle.model.specs.Types.{Deliver, Entry, Input, Launch, Net, Out, Packet, Send, Take, Turn, WorldStep}
use Rattle.model.specs.Words.{with_at}
use Rattle.model.specs.FreeSteps.{free_step, recounted}
use Rattle.model.specs.Kept.{HasKept, kept_in, made_by, only_if}
use Rattle.model.specs.Sessions.{Session}
use Rattle.model.specs.Step.{Effect, node_step, unless_fault}
use Rattle.model.specs.StepFaults.{StepFault, step_fault}
use Rattle.model.specs.World.{Origin, StepRefused, World, apply_effect, delivery, history_with, mark_delivered, node_effect, packet_input, packets_to, start_in, step, view_at}
use Rattle.model_laws.proofs.FreeRuns.{nothing_reached}
use Rattle.model_laws.proofs.Holdings.{IsKept}
use Rattle.model_laws.proofs.KeptLists.{arrives, step_kept}
use Rattle.model_laws.proofs.Sends.{same_done}
use Rattle.model_laws.proofs.Steps.{MailDone, OwnDone, here, kept_mailed, kept_own, step_of}
use Rattle.network_runs.proofs.Counting.{apart, together}
use Rattle.network_runs.proofs.Members.{IsIn, in_left, in_mapped, in_right}
use Rattle.network_runs.proofs.Worlds.{Moves, reached_next}

-- a step at w in the world: what it did there, what it sent, and what it kept
pub record Stepped (net : Net) (x y : World) (w : ℕ) (s : WorldStep) (o : Origin) (d : Effect) : Type 0 where
  pub step_ : free_step net x s ≡ Ok y
  pub moves : Moves net x y w o d
  pub packets_ : y.packets ≡ with_at w (λ b. x.packets w b ++ packets_to b d.outs) x.packets
  pub keeps : IsKept x.history (x.holdings w) w o d.made

-- the step of a fault that is not there has that effect
module _ (net : Net) (x : World) (w : ℕ) (i : Input) (d : Effect) (e : node_step net w (view_at x w) (x.sessions w) i ≡ Ok d) where
  pub its_fault : (step_fault (here net x w) w (view_at x w) (x.sessions w) i ≡ None) × (step_of net x w i ≡ d)
  unfolding node_step
  its_fault = go (step_fault (here net x w) w (view_at x w) (x.sessions w) i) refl e
    where
      go : (f : Option StepFault) → step_fault (here net x w) w (view_at x w) (x.sessions w) i ≡ f
          → unless_fault f (step_of net x w i) ≡ Ok d
          → (step_fault (here net x w) w (view_at x w) (x.sessions w) i ≡ None) × (step_of net x w i ≡ d)
      go None none same = (none, same_done (step_of net x w i) d same)
      go (Some f) none same = cc

  pub its_effect : node_effect net (recounted x) w (Some i) ≡ Ok d
  unfolding node_effect
  its_effect = rw (nothing_reached x, e) refl

-- what such a step is to the world, by what it wrote there
module _ (net : Net) (x y : World) (s : WorldStep) (w : ℕ) (o : Origin) (d : Effect) (taken : free_step net x s ≡ Ok y)
    (history : y.history ≡ history_with o x.history d.made) (sessions : y.sessions ≡ with_at w d.session x.sessions)
    (packets : y.packets ≡ with_at w (λ b. x.packets w b ++ packets_to b d.outs) x.packets)
    (starts : y.starts ≡ x.starts ++ filter_map (start_in w) d.outs)
    (made : (v : ℕ) → kept_in net (recounted x) v s ≡ only_if (v == w) d.made) where
  lane_here : (b : ℕ) → y.packets w b ≡ x.packets w b ++ packets_to b d.outs
  lane_here b =
      ap (λ (f : ℕ → ℕ → List Packet). f w b) packets
      ∙ ap (λ (l : ℕ → List Packet). l b) (together w (λ c. x.packets w c ++ packets_to c d.outs) (x.packets w))

  lane_there : (a b : ℕ) → a ≢ w → y.packets a b ≡ x.packets a b
  lane_there a b other =
      ap (λ (f : ℕ → ℕ → List Packet). f a b) packets
      ∙ ap (λ (l : ℕ → List Packet). l b)
      (apart a w (λ c. x.packets w c ++ packets_to c d.outs) (x.packets a) (λ e. other (sym e)))

  sent_to : (b : ℕ) (p : Packet) (outs : List Out) → IsIn (Send b p) outs → IsIn p (packets_to b outs)
  sent_to b p [] h = absurd h
  sent_to b p (Send to q ∷ outs) (inl e) = go (eqb_tells to b)
    where
      same : (to ≡ b) × (q ≡ p)
      same = (cc, cc)

      go : ((to == b) ≡ true) × (to ≡ b) ⊎ ((to == b) ≡ false) × (to ≢ b) → IsIn p (packets_to b (Send to q ∷ outs))
      go (inl t) = rw t.0 (inl same.1)
      go (inr t) = absurd (t.1 same.0)
  sent_to b p (Send to q ∷ outs) (inr h) = elim (eqb_tells to b) [
    | inl t ↦ rw t.0 (inr (sent_to b p outs h))
    | inr t ↦ rw t.0 (sent_to b p outs h)
  ]
  sent_to b p (Launch j n work ∷ outs) (inl e) = cc
  sent_to b p (Launch j n work ∷ outs) (inr h) = sent_to b p outs h
  sent_to b p (Out.Kill j n ∷ outs) (inl e) = cc
  sent_to b p (Out.Kill j n ∷ outs) (inr h) = sent_to b p outs h

  pub moved : Moves net x y w o d
  unfolding free_step
  moved = record {
    reached = λ r. reached_next net x y s r taken;
    kept_ = λ v kept i h.
        subst (λ (m : Option Entry). HasKept net y v (kept ++ option_to_list m)) (made v)
        (step_kept net (recounted x) y s v kept
        (record { within = i.within; own = λ f. i.own _ f refl })
        (record { holds_them = h.holds_them; is_restored = h.is_restored }) taken);
    history_ = history;
    here = ap (λ (f : ℕ → Session). f w) sessions ∙ together w d.session (x.sessions w);
    there = λ v other. ap (λ (f : ℕ → Session). f v) sessions ∙ apart v w d.session (x.sessions v) (λ e. other (sym e));
    sent = λ a b p h.
        elim (eqb_tells a w) [
          | inl t ↦ subst (λ (v : ℕ). IsIn p (y.packets v b)) (sym t.1)
              (subst (IsIn p) (sym (lane_here b))
              (in_left p (x.packets w b) (packets_to b d.outs) (subst (λ (v : ℕ). IsIn p (x.packets v b)) t.1 h)))
          | inr t ↦ subst (IsIn p) (sym (lane_there a b t.1)) h
        ];
    sends = λ b p h.
        subst (IsIn p) (sym (lane_here b)) (in_right p (x.packets w b) (packets_to b d.outs) (sent_to b p d.outs h));
    started = λ t h. subst (IsIn t) (sym starts) (in_left t x.starts (filter_map (start_in w) d.outs) h);
    starts = λ t out h e.
        subst (IsIn t) (sym starts) (in_right t x.starts (filter_map (start_in w) d.outs) (in_mapped (start_in w) out t d.outs h e));
  }

-- a turn
pub turned : (net : Net) (x : World) (w t : ℕ) (d : Effect)
    → node_step net w (view_at x w) (x.sessions w) (Input.Local (Turn t)) ≡ Ok d
    → (y : World) × Stepped net x y w (Take w (Turn t)) Origin.Own d
unfolding free_step step kept_in apply_effect
turned net x w t d e =
    let its : (step_fault (here net x w) w (view_at x w) (x.sessions w) (Input.Local (Turn t)) ≡ None)
    × (step_of net x w (Input.Local (Turn t)) ≡ d) = its_fault net x w (Input.Local (Turn t)) d e in
    let done : node_effect net (recounted x) w (Some (Input.Local (Turn t))) ≡ Ok d =
    its_effect net x w (Input.Local (Turn t)) d e in
    let stepped : free_step net x (Take w (Turn t)) ≡ Ok (apply_effect (recounted x) w Origin.Own d) = rw done refl in (
      apply_effect (recounted x) w Origin.Own d,
      record {
        step_ = stepped;
        moves =
            moved net x (apply_effect (recounted x) w Origin.Own d) (Take w (Turn t)) w Origin.Own d stepped refl refl refl refl
            (λ v. ap (λ r. only_if (v == w) (made_by r)) done);
        packets_ = refl;
        keeps = kept_own net x w d (subst (λ (c : Effect). OwnDone net x w c) its.1 (OwnDone.whole (Turn t) its.0));
      },
    )

-- a delivery
pub delivered : (net : Net) (x : World) (a b k : ℕ) (i : Input) (d : Effect) → delivery x a b k ≡ Some i
    → node_step net b (view_at x b) (x.sessions b) i ≡ Ok d
    → (y : World) × Stepped net x y b (Deliver a b k) Origin.Mailed d
unfolding free_step step kept_in apply_effect mark_delivered packet_input
delivered net x a b k i d there e =
    let its : (step_fault (here net x b) b (view_at x b) (x.sessions b) i ≡ None) × (step_of net x b i ≡ d) =
    its_fault net x b i d e in
    let same : delivery (recounted x) a b k ≡ Some i = there in
    let done : node_effect net (recounted x) b (delivery (recounted x) a b k) ≡ Ok d =
    ap (node_effect net (recounted x) b) same ∙ its_effect net x b i d e in
    let stepped : free_step net x (Deliver a b k) ≡ Ok (mark_delivered (apply_effect (recounted x) b Origin.Mailed d) a b k) =
    rw done refl in (
      mark_delivered (apply_effect (recounted x) b Origin.Mailed d) a b k,
      record {
        step_ = stepped;
        moves =
            moved net x (mark_delivered (apply_effect (recounted x) b Origin.Mailed d) a b k) (Deliver a b k) b Origin.Mailed d
            stepped refl refl refl refl (λ v. ap (λ r. only_if (v == b) (made_by r)) done);
        packets_ = refl;
        keeps =
            kept_mailed net x b d
            (subst (λ (c : Effect). MailDone net x b c) its.1
            (MailDone.whole i (arrives x a b k i there).0 (arrives x a b k i there).1 its.0));
      },
    )

-- where it is refused, it is not taken
pub not_taken : (net : Net) (x z : World) (a b k : ℕ) (i : Input) (f : StepFault) → delivery x a b k ≡ Some i
    → node_step net b (view_at x b) (x.sessions b) i ≡ Err f → free_step net x (Deliver a b k) ≡ Ok z → ⊥
unfolding free_step step node_effect packet_input
not_taken net x z a b k i f there e taken =
    let same : delivery (recounted x) a b k ≡ Some i = there in
    let none : node_effect net (recounted x) b (Some i) ≡ Err (StepRefused.Step f) = rw (nothing_reached x, e) refl in
    let done : node_effect net (recounted x) b (delivery (recounted x) a b k) ≡ Err (StepRefused.Step f) =
    ap (node_effect net (recounted x) b) same ∙ none in
    let refused : free_step net x (Deliver a b k) ≡ Err (StepRefused.Step f) = rw done refl in
    clash (sym refused ∙ taken)
  where
    clash : Err (StepRefused.Step f) ≡ Ok z → ⊥
    clash q = cc
