-- A still pass is a quiet turn.
use Rattle.std.proofs.Common.{[], ◌++◌, ◌<◌, ◌≡◌, ◌∙◌, ◌∷◌, ◌⊎◌, ℕ, Bool, List, None, Option, Some, ap, arith, false, inl, inr, length, refl, subst, suc, sym, true, zero}
use Rattle.std.proofs.lemmas.Bool.{eq-eqb}
use Rattle.std.proofs.lemmas.List.{append-nil, length-take}
use Rattle.std.specs.List.{AllByRecursion, list_all}
use Rattle.std.specs.Option.{option_to_list}
use Rattle.std.specs.Prelude.{◌&&◌, Err, nat_lt, Ok, Result, option_map, slice_get}
use Rattle.lemmas.proofs.Lists.{same_head}
use Rattle.composer_parser.specs.declared.Defs.{Defs}
use Rattle.model.specs.Types.{Ack, Body, Entry, Feed, Input, Mail, Net, Out, Packet, Send, Take, Turn}
use Rattle.model.specs.Words.{nth, some_is}
use Rattle.model.specs.FreeSteps.{free_step, recounted}
use Rattle.model.specs.History.{Holding, View, list_of, view_of}
use Rattle.model.specs.Invariant.{Invariant, IsBacked}
use Rattle.model.specs.Kept.{HasKept}
use Rattle.model.specs.Network.{IsTree, are_neighbours, node_count}
use Rattle.model.specs.NewEntry.{makes}
use Rattle.model.specs.PresentNet.{present_net}
use Rattle.model.specs.Sessions.{Session}
use Rattle.model.specs.StepFaults as faults
use Rattle.model.specs.StepFaults.{is_next, is_place_spent, is_too_long, lacks_dep, lacks_process, step_fault}
use Rattle.model.specs.Workstations.{peer_of, ws_in}
use Rattle.model.specs.Step.{Effect, effect, node_step}
use Rattle.model.specs.World.{Origin, StepRefused, World, apply_effect, empty_world, node_effect, result_map, step, view_at}
use Rattle.model_laws.proofs.FreeRuns.{free_always, free_kept, nothing_reached}
use Rattle.model_laws.proofs.Keeps.{at_start}
use Rattle.model_laws.proofs.NoPackets.{there_within}
use Rattle.model_laws.proofs.Options.{slice_get_all, there_if}
use Rattle.workload_defs.specs.Nets.{net_of}
use Rattle.file_watch.specs.Probes.{next_probe}
use Rattle.recovery_watch.specs.Advice.{advice}
use Rattle.mail_frames.specs.declared.frames.Frame.TheVariants as frame
use Rattle.model.specs.Spelling.{entry_bytes}
use Rattle.agent_core.specs.Nodes.{NodeState, view_in}
use Rattle.agent_core.specs.Steps.{effect_in, step_at}
use Rattle.agent_core.specs.declared.faults.Step.{Step}
use Rattle.agent_core.specs.declared.faults.StepFault.{StepFault}
use Rattle.node_inputs.specs.Actions.{Both, Then}
use Rattle.node_inputs.specs.Inputs.{Take as TakeIt, frame_of}
use Rattle.node_inputs.specs.Traces.{Trace, readings}
use Rattle.node_loop.specs.Runs.{Advise, Come, On, Probing, Reports, Running}
use Rattle.network_world.specs.Standing.{NodeStandsFor}
use Rattle.network_runs.specs.Happenings.{Night, kept_at, since}
use Rattle.network_runs.specs.Nights.{IsBegun, IsWorldOf}
use Rattle.rest_laws.specs.Leads.{next_packet}
use Rattle.rest_laws.specs.Rest.{IsAtRest, IsQuiet, leaves, net_at}
use Rattle.rest_laws.specs.Short.{are_answers_short, can_count, has_short_answer}
use Rattle.rest_laws.specs.ToRest.{AlwaysShort, names_inside, would_keep}
use Rattle.rest_laws.proofs.Done as works
use Rattle.rest_laws.proofs.KeptWhole.{kept_whole}
use Rattle.rest_laws.proofs.Leads.{sent_first}
use Rattle.rest_laws.proofs.Named.{named_free}
use Rattle.rest_laws.proofs.Shorts.{always_short}
use Rattle.rest_laws.proofs.Taken.{all_low, count_at, turn_taken}
use Rattle.nights_at_rest.specs.Still.{IsStill, Nodes, NodesStandFor, RestsIn, StandStill, have_short_answers}
use Rattle.nights_at_rest.proofs.StillParts.{AreStill, PassedOver, TookStill, advises, back_still, both_of, comes, front_still, probes, reports, some_none, takes_still}

-- what a still pass says of the turn in it
turn_of : (defs : Defs) (t : ℕ) (now : Running) → IsStill defs t now
    → TookStill (Input.Local (Turn t)) now.node ⊎ ((new : NodeState) × PassedOver (Input.Local (Turn t)) now.node new)
turn_of defs t now s = go (both_of (Come defs) _ now s.turn.rest s.after s.turn.acts)
  where
    still : AreStill s.turn.rest
    still = (subst AreStill s.turn.split s.each).1

    reading : s.turn.reading ≡ t
    reading = same_head (sym (ap readings s.turn.split) ∙ s.reads)

    ends : (c : Running) (trace : Trace) → c.node ≡ now.node → AreStill trace
        → On (TakeIt (Input.Local (Turn s.turn.reading))) c trace None s.after
        → TookStill (Input.Local (Turn t)) now.node ⊎ ((new : NodeState) × PassedOver (Input.Local (Turn t)) now.node new)
    ends c trace same each h =
        subst (λ (n : NodeState). TookStill (Input.Local (Turn t)) n ⊎ ((new : NodeState) × PassedOver (Input.Local (Turn t)) n new))
        same
        (subst (λ (r : ℕ). TookStill (Input.Local (Turn r)) c.node ⊎ ((new : NodeState) × PassedOver (Input.Local (Turn r)) c.node new))
        reading (sort (takes_still (Input.Local (Turn s.turn.reading)) c.node trace s.after.node each h.acts)))
      where
        sort : TookStill (Input.Local (Turn s.turn.reading)) c.node
            ⊎ PassedOver (Input.Local (Turn s.turn.reading)) c.node s.after.node
            → TookStill (Input.Local (Turn s.turn.reading)) c.node
            ⊎ ((new : NodeState) × PassedOver (Input.Local (Turn s.turn.reading)) c.node new)
        sort (inl k) = inl k
        sort (inr k) = inr (s.after.node, k)

    advised : (c : Running) (trace : Trace) → c.node ≡ now.node → AreStill trace
        → Then (On Advise) (On (TakeIt (Input.Local (Turn s.turn.reading)))) c trace None s.after
        → TookStill (Input.Local (Turn t)) now.node ⊎ ((new : NodeState) × PassedOver (Input.Local (Turn t)) now.node new)
    advised c trace same each h =
        let b = both_of (On Advise) (On (TakeIt (Input.Local (Turn s.turn.reading)))) c trace s.after h in
        ends b.middle b.back
        (advises (advice (view_in c.node) c.node.me) c.node b.front b.middle.node (front_still trace b.front b.back b.split each)
        b.begins.acts ∙ same) (back_still trace b.front b.back b.split each) b.goes_on

    probed : (c : Running) (trace : Trace) → c.node ≡ now.node → AreStill trace
        → Then Probing (Then (On Advise) (On (TakeIt (Input.Local (Turn s.turn.reading))))) c trace None s.after
        → TookStill (Input.Local (Turn t)) now.node ⊎ ((new : NodeState) × PassedOver (Input.Local (Turn t)) now.node new)
    probed c trace same each h =
        let b = both_of Probing (Then (On Advise) (On (TakeIt (Input.Local (Turn s.turn.reading))))) c trace s.after h in
        advised b.middle b.back
        (probes (next_probe (view_in c.node) c.node.me c.asked) c b.front b.middle (front_still trace b.front b.back b.split each)
        b.begins ∙ same) (back_still trace b.front b.back b.split each) b.goes_on

    reported : (c : Running) (trace : Trace) → c.node ≡ now.node → AreStill trace
        → Then (On (λ o t e n. Reports o t e n))
        (Then Probing (Then (On Advise) (On (TakeIt (Input.Local (Turn s.turn.reading)))))) c trace None s.after
        → TookStill (Input.Local (Turn t)) now.node ⊎ ((new : NodeState) × PassedOver (Input.Local (Turn t)) now.node new)
    reported c trace same each h =
        let b = both_of (On (λ o t e n. Reports o t e n))
        (Then Probing (Then (On Advise) (On (TakeIt (Input.Local (Turn s.turn.reading)))))) c trace s.after h in
        probed b.middle b.back
        (reports c.node b.front b.middle.node (front_still trace b.front b.back b.split each) b.begins.acts ∙ same)
        (back_still trace b.front b.back b.split each) b.goes_on

    go : Both (Come defs) (Then (On (λ o t e n. Reports o t e n))
        (Then Probing (Then (On Advise) (On (TakeIt (Input.Local (Turn s.turn.reading))))))) now s.turn.rest None s.after
        → TookStill (Input.Local (Turn t)) now.node ⊎ ((new : NodeState) × PassedOver (Input.Local (Turn t)) now.node new)
    go b =
        reported b.middle b.back
        (ap (λ (r : Running). r.node) (comes defs now b.front b.middle (front_still s.turn.rest b.front b.back b.split still) b.begins))
        (back_still s.turn.rest b.front b.back b.split still) b.goes_on

-- the node of a workstation in the world
at_node : (net : Net) (x : World) (w : ℕ) (n : NodeState) (input : Input) → NodeStandsFor net x w n
    → step_at n input ≡ node_step net w (view_at x w) (x.sessions w) input
at_node net x w n input h = λ i. node_step (h.net_ i) (h.me_ i) (same i) (h.session_ i) input
  where
    same : view_in n ≡ view_at x w
    same = λ i f. h.kept_.holds_them f i

backed_at : (held : Holding) (ps : List Packet) (p : Packet) (k : ℕ) → nth ps k ≡ Some p → AllByRecursion (IsBacked held) ps
    → IsBacked held p
backed_at held ps p zero e h = cc
backed_at held ps p (suc k) e h = there_if (IsBacked held) (slice_get ps k) p (slice_get_all (IsBacked held) ps k h) e

place_fault : (N : Net) (me : ℕ) (V : View) (s : Session) (i : Input)
    → list_all (λ w. nat_lt w (node_count N)) (me ∷ ws_in i) ≡ true → some_is (peer_of i) me ≡ false → is_next i ≡ false
    → lacks_process s.live i ≡ false → lacks_dep me V i ≡ false → is_place_spent V (makes N me V s i) ≡ true
    → step_fault N me V s i ≡ Some faults.StepFault.PlaceSpent
unfolding step_fault
place_fault N me V s i inside peer next process dep place = rw (inside, peer, next, process, dep, place) refl

refused_then : (net : Net) (x : World) (w t : ℕ) → w < node_count net
    → is_place_spent (view_at x w) (would_keep net x w t) ≡ true
    → node_step net w (view_at x w) (x.sessions w) (Input.Local (Turn t)) ≡ Err faults.StepFault.PlaceSpent
unfolding node_step
refused_then net x w t w_in spent = rw spent_there refl
  where
    spent_there : step_fault (net_at net x w) w (view_at x w) (x.sessions w) (Input.Local (Turn t)) ≡ Some faults.StepFault.PlaceSpent
    spent_there =
        place_fault (net_at net x w) w (view_at x w) (x.sessions w) (Input.Local (Turn t))
        (all_low (node_count (net_at net x w)) (w ∷ []) (subst (λ n. w < n) (sym (count_at net x w)) w_in, tt)) refl refl refl refl
        spent

cause_of : Result Effect faults.StepFault → faults.StepFault
cause_of (Ok d) = faults.StepFault.NotInNetwork
cause_of (Err f) = f

taken_then : (net : Net) (x z : World) (w t : ℕ) (g : faults.StepFault)
    → node_step net w (view_at x w) (x.sessions w) (Input.Local (Turn t)) ≡ Err g
    → free_step net x (Take w (Turn t)) ≡ Ok z → ⊥
unfolding free_step step node_effect
taken_then net x z w t g e k = clash (sym refused ∙ k)
  where
    refused : free_step net x (Take w (Turn t)) ≡ Err (StepRefused.Step g)
    refused = rw (nothing_reached x, e) refl

    clash : Err (StepRefused.Step g) ≡ Ok z → ⊥
    clash q = cc

module _ (net : Net) (x : World) (w t : ℕ) (inv : Invariant net x) (w_in : w < node_count net)
    (old : NodeState) (stands : NodeStandsFor net x w old) where
  -- with nothing kept, it holds what it held
  holds : (d : Effect) → d.made ≡ None → (f : Feed) → (apply_effect (recounted x) w Origin.Own d).holdings w f ≡ x.holdings w f
  unfolding apply_effect
  holds d none f = rw (eq-eqb w w refl, none) refl

  stepped : (d : Effect) → node_step net w (view_at x w) (x.sessions w) (Input.Local (Turn t)) ≡ Ok d
      → free_step net x (Take w (Turn t)) ≡ Ok (apply_effect (recounted x) w Origin.Own d)
  unfolding free_step step node_effect
  stepped d e = rw (nothing_reached x, e) refl

  -- what it sends it has
  has_it : (d : Effect) (after : NodeState) → node_step net w (view_at x w) (x.sessions w) (Input.Local (Turn t)) ≡ Ok d
      → d.made ≡ None → view_in after ≡ view_at x w → (to : ℕ) (p : Packet) (os : List Out) → d.outs ≡ Send to p ∷ os
      → frame_of after p ≡ None → ⊥
  has_it d after e none same to p os outs lacks =
      go p
      (backed_at (y.holdings w) (y.packets w to) p (next_packet (recounted x) w to)
      (sent_first (recounted x) w Origin.Own d to p os outs)
      ((free_kept net x y (Take w (Turn t)) inv (stepped d e)).backed w to)) lacks
    where
      y : World
      y = apply_effect (recounted x) w Origin.Own d

      absent : {X Y : Type 0} (f : X → Y) (o : Option X) (a : X) → o ≡ Some a → option_map f o ≡ None → ⊥
      absent f o a is none = some_none (sym (ap (option_map f) is) ∙ none)

      go : (p : Packet) → IsBacked ((apply_effect (recounted x) w Origin.Own d).holdings w) p → frame_of after p ≡ None → ⊥
      go (Mail f k) backed lacks =
          let few : length (view_at x w f) ≡ x.holdings w f =
          (let l = length-take (x.holdings w f) (list_of x.history f) in omega (arith, l, inv.within w f)) in
          let there = there_within (view_at x w f) k backed.0 (omega (arith, backed.1, holds d none f, few)) in
          absent (λ (body : Body). frame.Mail (entry_bytes (record { feed = f; place = k; body = body }))) (nth (view_in after f) k) there.0 (ap (λ (V : View). nth (V f) k) same ∙ there.1) lacks
      go (Ack f n) backed lacks = some_none lacks

  -- where the turn is taken
  quiet_taken : TookStill (Input.Local (Turn t)) old → IsQuiet net x w t
  quiet_taken k = go k.step_.outs refl
    where
      e : node_step net w (view_at x w) (x.sessions w) (Input.Local (Turn t)) ≡ Ok (effect_in k.step_ k.after)
      e = sym (at_node net x w old (Input.Local (Turn t)) stands) ∙ k.taken.effect

      kept : k.after.kept ≡ old.kept
      kept =
          k.taken.kept ∙ ap (λ (m : Option Entry). old.kept ++ option_to_list m) k.none
          ∙ append-nil old.kept

      same : view_in k.after ≡ view_at x w
      same = ap (λ (l : List Entry). view_of l) kept ∙ (λ i f. stands.kept_.holds_them f i)

      go : (outs : List Out) → k.step_.outs ≡ outs → IsQuiet net x w t
      go [] is = ap (result_map leaves) e ∙ (λ i. Ok (k.none i, is i))
      go (o ∷ os) is =
          let h = k.outs o os is in
          absurd (has_it (effect_in k.step_ k.after) k.after e k.none same h.0 h.1 os (is ∙ ap (λ (p : Out). p ∷ os) h.2) h.3)

  -- it is not refused for another cause than a spent place
  pub not_refused : is_too_long (would_keep net x w t) ≡ false → (new : NodeState) → PassedOver (Input.Local (Turn t)) old new → ⊥
  unfolding cause_of
  not_refused short new p = go (is_place_spent (view_at x w) (would_keep net x w t)) refl
    where
      e : node_step net w (view_at x w) (x.sessions w) (Input.Local (Turn t)) ≡ Err p.cause
      e = sym (at_node net x w old (Input.Local (Turn t)) stands) ∙ p.due

      go : (c : Bool) → is_place_spent (view_at x w) (would_keep net x w t) ≡ c → ⊥
      go true spent = p.other (ap cause_of (sym e ∙ refused_then net x w t w_in spent))
      go false room =
          taken_then net x _ w t p.cause e
          (turn_taken net x w t w_in (record { place = room; length_ = short }))

-- the network of the night
pub rests : (defs : Defs) (night : Night) (x : World) (reads : ℕ → ℕ) (nodes : Nodes) → IsTree (net_of defs)
    → IsWorldOf defs night x → have_short_answers defs night ≡ true → NodesStandFor defs nodes x
    → StandStill defs reads nodes → RestsIn defs reads night x
unfolding are_answers_short
rests defs night x reads nodes tree is short stands still = record {
  rest = rest;
  work = works.done (net_of defs) reads x tree inv rest;
  disks = kept_whole (net_of defs) x (λ w. kept_at w night) is.kept_ reads tree inv rest;
}
  where
    inv : Invariant (net_of defs) x
    inv =
        subst (λ (y : World). Invariant (net_of defs) y) (sym is.by_them)
        (free_always (net_of defs) is.steps empty_world (at_start (net_of defs)))

    names : names_inside (net_of defs) x ≡ true
    names =
        subst (λ (y : World). names_inside (net_of defs) y ≡ true) (sym is.by_them) (named_free (net_of defs) is.steps)

    shorts : are_answers_short (net_of defs) x ≡ true
    shorts =
        subst
        (λ (G : List Entry). (can_count (node_count (net_of defs)) && list_all (λ (e : Entry). has_short_answer e.body) G) ≡ true)
        (sym is.history_) short

    always : AlwaysShort (net_of defs) (λ w. reads w ∷ []) x
    always = always_short (net_of defs) (λ w. reads w ∷ []) x inv names shorts

    short_at : (w : ℕ) → w < node_count (net_of defs) → is_too_long (would_keep (net_of defs) x w (reads w)) ≡ false
    short_at w w_in = always x (record { steps = []; keep = tt; taken = refl }) w (reads w) w_in (rw (eq-eqb (reads w) (reads w) refl) refl)

    quiet : (w : ℕ) → w < node_count (net_of defs) → IsQuiet (net_of defs) x w (reads w)
    quiet w w_in = go (turn_of defs (reads w) (nodes w) (still.still w w_in))
      where
        go : TookStill (Input.Local (Turn (reads w))) (nodes w).node
            ⊎ ((new : NodeState) × PassedOver (Input.Local (Turn (reads w))) (nodes w).node new)
            → IsQuiet (net_of defs) x w (reads w)
        go (inl k) = quiet_taken (net_of defs) x w (reads w) inv w_in (nodes w).node (stands w w_in) k
        go (inr k) =
            absurd (not_refused (net_of defs) x w (reads w) inv w_in (nodes w).node (stands w w_in) (short_at w w_in) k.0 k.1)

    rest : IsAtRest (net_of defs) reads x
    rest = record {
      linked = λ n m n_in m_in near.
          let h : NodeStandsFor (net_of defs) x n (nodes n).node = stands n n_in in
          let same : view_in (nodes n).node ≡ view_at x n = (λ i f. h.kept_.holds_them f i) in
          subst (λ (s : Session). s.links m ≡ true) h.session_
          (still.linked n n_in m m_in ((λ i. are_neighbours (present_net (h.net_ i) (same i)) (h.me_ i) m) ∙ near));
      quiet = quiet;
    }

-- a node that has just begun
pub begun_stands : (defs : Defs) (night : Night) (x : World) (w : ℕ) (node : NodeState) → IsWorldOf defs night x
    → w < node_count (net_of defs) → since w night ≡ None → IsBegun (net_of defs) w (kept_at w night) node
    → NodeStandsFor (net_of defs) x w node
begun_stands defs night x w node is w_in idle begun = record {
  net_ = begun.net_;
  me_ = begun.me_;
  kept_ = subst (λ (k : List Entry). HasKept (net_of defs) x w k) (sym begun.kept_) (is.kept_ w w_in);
  session_ = begun.session_ ∙ sym (is.idle_ w w_in idle);
}
