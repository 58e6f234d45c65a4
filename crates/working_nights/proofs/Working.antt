-- A pass in which nobody types leads on in the world by turns, deliveries, what is told, and what is advised.
use Rattle.std.proofs.Common.{[], ◌++◌, ◌≤◌, ◌≡◌, ◌∙◌, ◌∷◌, ◌⊎◌, ℕ, Bool, List, None, Option, Some, ap, false, inl, inr, refl, subst, sym, true}
use Rattle.std.proofs.lemmas.Bool.{eq-eqb}
use Rattle.std.proofs.lemmas.List.{append-nil}
use Rattle.std.specs.List.{AllByRecursion}
use Rattle.std.specs.Option.{option_to_list}
use Rattle.std.specs.Prelude.{◌==◌, ◌||◌, Ok, is_some, not, option_map}
use Rattle.recovery_watch.specs.Advice.{advice}
use Rattle.lemmas.proofs.Booleans.{not_holds}
use Rattle.lemmas.proofs.Lists.{all_left, all_right}
use Rattle.lemmas.proofs.Options.{some_is}
use Rattle.composer_parser.specs.declared.Defs.{Defs}
use Rattle.model.specs.Types.{Cmd, Deliver, Entry, Feed, Input, Local, Net, Take, Turn, Typed, WorldStep}
use Rattle.model.specs.FreeSteps.{free_step, recounted}
use Rattle.model.specs.Kept.{kept_in, made_by, only_if}
use Rattle.model.specs.Network.{IsTree, node_count}
use Rattle.model.specs.Step.{Effect, node_step}
use Rattle.model.specs.World.{Origin, World, apply_effect, node_effect, step, view_at}
use Rattle.model_laws.proofs.Steps.{OwnDone, kept_own}
use Rattle.outside.specs.Calls.{Sent}
use Rattle.outside.specs.declared.links.Arrival.{Arrival}
use Rattle.outside.specs.declared.links.Arrival.TheVariants as arrival
use Rattle.mail_frames.specs.declared.frames.Frame.{Frame}
use Rattle.mail_frames.specs.declared.frames.Frame.TheVariants as frame
use Rattle.mail_frames.specs.Spelling.{frame_bytes}
use Rattle.agent_core.specs.Nodes.{NodeState, session_in, view_in}
use Rattle.agent_core.specs.Steps.{IsTaken, effect_in}
use Rattle.agent_core.specs.declared.faults.Step.{Step}
use Rattle.file_watch.specs.Circle.{DepPlace}
use Rattle.file_watch.specs.Probes.{next_probe}
use Rattle.node_inputs.specs.Actions.{Action, Both, IfThere, Nothing, Then}
use Rattle.node_inputs.specs.Inputs.{IsKeeping, Keep, Lose, PassOver, Take as TakeIt}
use Rattle.node_inputs.specs.Traces.{Event, Trace, kept, readings}
use Rattle.node_inputs.specs.declared.ends.NodeEnd.{NodeEnd}
use Rattle.node_inputs.proofs.Fronts.{kept-append}
use Rattle.node_loop.specs.Frames.{Frames, entry_of, input_of}
use Rattle.entry_codec.specs.Entries.{entry_in}
use Rattle.node_loop.specs.Heard.{Heard, heard_more}
use Rattle.node_loop.specs.Runs.{Advise, Arrive, Come, Comes, Hear, Hears, Looks, On, Probing, Reports, Running, TurnOf}
use Rattle.lemmas.proofs.Lists.{same_head}
use Rattle.run_laws.proofs.Rules.{Gives, IsJoined, if_gives, nothing_gives, then_gives, wants_gives}
use Rattle.run_laws.proofs.Taking.{GivesOut, IsRule, IsTold, Steps, StepsOrParts, lose_gives, pass_over_gives, refused_gives, take_gives}
use Rattle.run_laws.proofs.Taking.{takes_parts, telling_gives}
use Rattle.run_laws.proofs.Turning.{found_gives, reports_gives}
use Rattle.network_world.specs.Standing.{NodeStandsFor}
use Rattle.network_runs.specs.Nights.{IsForNodes}
use Rattle.network_runs.proofs.Carrying.{AreWritten, IsCarried, ReadLaw, outs_in}
use Rattle.network_runs.proofs.Counting.{together}
use Rattle.network_runs.proofs.Growing.{Grows, grows_not, grows_on, moves_grow, stands_again}
use Rattle.network_runs.proofs.Members.{IsIn, contains_of, in_either, in_right}
use Rattle.network_runs.proofs.Telling.{IsOutput, given_out}
use Rattle.network_runs.proofs.Worlds.{IsReached}
use Rattle.nights_at_rest.specs.NodeRounds.{is_given_by}
use Rattle.nights_at_rest.specs.Passes.{HearsFrom}
use Rattle.nights_at_rest.proofs.Arriving.{for_nodes, no_arrival}
use Rattle.nights_at_rest.proofs.Doing.{Outputs, no_ask, outputs_none, plain}
use Rattle.nights_at_rest.proofs.Hearing.{brings_it, history_told, node_effect_is, node_for, node_in}
use Rattle.nights_at_rest.proofs.Passing.{no_look, no_reading, no_report, rest_heard, typed_own}
use Rattle.nights_at_rest.proofs.Staying.{CameAt, Stays, came_at, is_output, no_reply, outputs_keep_none, stays_on, stays_plain, there_at}
use Rattle.nights_at_rest.proofs.StillParts.{both_of, no_end, not_still, wanted}
use Rattle.nights_at_rest.proofs.Taken.{Stepped, delivered, its_effect, its_fault, moved}
use Rattle.nights_at_rest.proofs.Ways.{parts_same}
use Rattle.working_nights.specs.Passes.{is_working}
use Rattle.working_nights.proofs.Breaks.{MayPass, PassesTo, passes_none, passes_on, passes_one}

-- what happens at a node is a step of the world for which it stands
took_local : (net : Net) (x : World) (w : ℕ) (l : Local) (d : Effect)
    → node_step net w (view_at x w) (x.sessions w) (Input.Local l) ≡ Ok d
    → (y : World) × Stepped net x y w (Take w l) Origin.Own d
unfolding free_step step kept_in apply_effect
took_local net x w l d e =
    let its = its_fault net x w (Input.Local l) d e in
    let done : node_effect net (recounted x) w (Some (Input.Local l)) ≡ Ok d = its_effect net x w (Input.Local l) d e in
    let stepped : free_step net x (Take w l) ≡ Ok (apply_effect (recounted x) w Origin.Own d) = rw done refl in (
      apply_effect (recounted x) w Origin.Own d,
      record {
        step_ = stepped;
        moves =
            moved net x (apply_effect (recounted x) w Origin.Own d) (Take w l) w Origin.Own d stepped refl refl refl refl
            (λ v. ap (λ r. only_if (v == w) (made_by r)) done);
        packets_ = refl;
        keeps = kept_own net x w d (subst (λ (c : Effect). OwnDone net x w c) its.1 (OwnDone.whole l its.0));
      },
    )

abbrev pub AreWorking : Bool → ℕ → Trace → Type 0
AreWorking adv w trace = AllByRecursion (λ event. is_working adv w event ≡ true) trace

pub front_works : (adv : Bool) (w : ℕ) (trace front back : Trace) → trace ≡ front ++ back → AreWorking adv w trace → AreWorking adv w front
front_works adv w trace front back split each =
    all_left (λ event. is_working adv w event ≡ true) front back (subst (AreWorking adv w) split each)

pub back_works : (adv : Bool) (w : ℕ) (trace front back : Trace) → trace ≡ front ++ back → AreWorking adv w trace → AreWorking adv w back
back_works adv w trace front back split each =
    all_right (λ event. is_working adv w event ≡ true) front back (subst (AreWorking adv w) split each)

-- the trace of w leads from x to y by such steps
pub record Worked (adv : Bool) (net : Net) (reads : ℕ → ℕ) (w : ℕ) (x y : World) (old new : NodeState) (trace : Trace) : Type 0 where
  pub stays : Stays net w x y old new trace
  pub to_ : PassesTo adv net reads x y

module _ (adv : Bool) (net : Net) (tree : IsTree net) (few : node_count net ≤ 65536) (reads : ℕ → ℕ) (w : ℕ) (first : World) where
  -- a turn is at the standing clock, a packet is there, no plan is made, and nobody types
  abbrev CameWork : Input → Type 0
  CameWork (Input.Local (Turn t)) = t ≡ reads w
  CameWork (Input.Local (Local.Next drafts)) = ⊥
  CameWork (Input.Local (Typed to c)) = ⊥
  CameWork (Input.Local l) = Unit {0}
  CameWork (Input.Mail a e) = CameAt net tree few w first (Input.Mail a e)
  CameWork (Input.Ack a f n) = CameAt net tree few w first (Input.Ack a f n)

  abbrev WorksOn : Action NodeState
  WorksOn old trace end new =
      end ≡ None → AreWorking adv w trace → (x : World) → Grows net first x w → IsReached net x → NodeStandsFor net x w old
      → (y : World) × Worked adv net reads w x y old new trace

  works_joined : IsJoined WorksOn
  works_joined = record {
    rests = λ s end free none each x g r at.
        (x, record { stays = stays_plain net w x s [] at (outputs_none s [] refl); to_ = passes_none adv net reads x });
    joins = λ a b c front back end h k none each x g r at.
        let one = h refl (front_works adv w (front ++ back) front back refl each) x g r at in
        let two = k none (back_works adv w (front ++ back) front back refl each) one.0
        (grows_on net first x one.0 w g one.1.stays.grows) (one.1.stays.grows.reached r) one.1.stays.here in (
          two.0,
          record {
            stays = stays_on net w x one.0 two.0 a b c front back one.1.stays two.1.stays;
            to_ = passes_on adv net reads x one.0 two.0 one.1.to_ two.1.to_;
          },
        );
  }

  works_event : (event : Event) (s : NodeState) → Outputs s [] (event ∷ []) → WorksOn s (event ∷ []) None s
  works_event event s out none each x g r at =
      (x, record { stays = stays_plain net w x s (event ∷ []) at out; to_ = passes_none adv net reads x })

  -- what is kept of such a trace may be
  kept_works : (m : Option Entry) (front : Trace) → AreWorking adv w front → IsKeeping m front None → (e : Entry) → m ≡ Some e
      → is_working adv w (Event.Keeps e) ≡ true
  kept_works None front each h e is = cc
  kept_works (Some d) front each (inl h) e is =
      subst (λ (c : Entry). is_working adv w (Event.Keeps c) ≡ true) (some_is is) (subst (AreWorking adv w) h.0 each).0
  kept_works (Some d) front each (inr (inl h)) e is = no_end h.3
  kept_works (Some d) front each (inr (inr h)) e is = no_end h.1

  -- so an order of w's is kept where it may be
  not_typed : {P : Type 0} (old new : NodeState) (step_ : Step) → old.me ≡ w
      → ((e : Entry) → step_.kept ≡ Some e → is_working adv w (Event.Keeps e) ≡ true) → adv ≡ false → (to : ℕ) (c : Cmd)
      → IsTaken old (Input.Local (Typed to c)) step_ new → P
  not_typed old new step_ me works never to c taken =
      let it = typed_own old.net old.me (view_in old) (session_in old) to c (effect_in step_ new) taken.effect in
      let may : (adv || not (is_given_by w it.0.feed)) ≡ true = works it.0 it.1 in
      let given : is_given_by w it.0.feed ≡ false =
      not_holds (is_given_by w it.0.feed) (subst (λ (b : Bool). (b || not (is_given_by w it.0.feed)) ≡ true) never may) in
      not_still (sym (subst (λ (f : Feed). is_given_by w f ≡ false) it.2 given) ∙ eq-eqb old.me w me)

  kind_of : (x : World) (l : Local) → CameWork (Input.Local l) → MayPass adv reads x (Take w l)
  kind_of x (Turn t) came = inl (rw (eq-eqb (reads w) t (sym came)) refl)
  kind_of x (Local.Linked v) came = inl refl
  kind_of x (Local.Unlinked v) came = inl refl
  kind_of x (Local.Typed to c) came = absurd came
  kind_of x (Local.Started j) came = inl refl
  kind_of x (Local.StartFailed j) came = inl refl
  kind_of x (Local.Ended j rc) came = inl refl
  kind_of x (Local.Fulfil o i) came = inl refl
  kind_of x (Local.Next drafts) came = absurd came

  -- the step of an input
  record StepOf (x : World) (d : Effect) : Type 0 where
    world : World
    step_ : WorldStep
    origin : Origin
    stepped : Stepped net x world w step_ origin d
    kind : MayPass adv reads x step_

  step_of_input : (x : World) (old new : NodeState) (step_ : Step) → Grows net first x w → NodeStandsFor net x w old
      → IsReached net x → (input : Input) → CameWork input → IsTaken old input step_ new → StepOf x (effect_in step_ new)
  step_of_input x old new step_ g at r (Input.Local l) came taken =
      let it = took_local net x w l (effect_in step_ new)
      (node_effect_is net tree few reads w x r old at (Input.Local l) step_ new taken) in
      record {
        world = it.0;
        step_ = Take w l;
        origin = Origin.Own;
        stepped = it.1;
        kind = kind_of x l came;
      }
  step_of_input x old new step_ g at r (Input.Mail a e) came taken =
      let place = there_at net tree few w first x g (Input.Mail a e) came in
      let it = delivered net x a w place.0 (Input.Mail a e) (effect_in step_ new) place.1
      (node_effect_is net tree few reads w x r old at (Input.Mail a e) step_ new taken) in
      record { world = it.0; step_ = Deliver a w place.0; origin = Origin.Mailed; stepped = it.1; kind = inl refl }
  step_of_input x old new step_ g at r (Input.Ack a f n) came taken =
      let place = there_at net tree few w first x g (Input.Ack a f n) came in
      let it = delivered net x a w place.0 (Input.Ack a f n) (effect_in step_ new) place.1
      (node_effect_is net tree few reads w x r old at (Input.Ack a f n) step_ new taken) in
      record { world = it.0; step_ = Deliver a w place.0; origin = Origin.Mailed; stepped = it.1; kind = inl refl }

  -- an advised order
  step_of_advice : (x : World) (old new : NodeState) (step_ : Step) → NodeStandsFor net x w old → IsReached net x
      → ((e : Entry) → step_.kept ≡ Some e → is_working adv w (Event.Keeps e) ≡ true) → (c : Cmd)
      → advice (view_in old) old.me ≡ Some c → IsTaken old (Input.Local (Typed old.me c)) step_ new → StepOf x (effect_in step_ new)
  step_of_advice x old new step_ at r works c advised taken =
      let it = took_local net x w (Typed old.me c) (effect_in step_ new)
      (node_effect_is net tree few reads w x r old at (Input.Local (Typed old.me c)) step_ new taken) in
      record {
        world = it.0;
        step_ = Take w (Typed old.me c);
        origin = Origin.Own;
        stepped = it.1;
        kind = inr (may adv refl, (at.me_, seen));
      }
    where
      same : view_in old ≡ view_at x w
      same = λ i f. at.kept_.holds_them f i

      seen : advice (view_at x w) w ≡ Some c
      seen = sym (λ i. advice (same i) (at.me_ i)) ∙ advised

      may : (b : Bool) → adv ≡ b → adv ≡ true
      may true is = is
      may false is = not_typed old new step_ at.me_ works is old.me c taken

  -- a step of the node leads on by a step of the world
  works_by : (input : Input) (old : NodeState) (trace : Trace) (end : Option NodeEnd) (new : NodeState)
      → (h : Steps input old trace end new) → end ≡ None → AreWorking adv w trace → (x : World) → Grows net first x w
      → IsReached net x → NodeStandsFor net x w old
      → (((e : Entry) → h.step.kept ≡ Some e → is_working adv w (Event.Keeps e) ≡ true) → StepOf x (effect_in h.step new))
      → (y : World) × Worked adv net reads w x y old new trace
  works_by input old trace end new h none each x g r at steps = (
    it.world,
    record {
      stays = record {
        grows = moves_grow net x it.world w it.origin (effect_in h.step new) it.stepped.moves;
        here = here;
        history_ =
            history_told w x it.world it.origin h.step.kept trace it.stepped.moves.history_ it.stepped.keeps keeps;
        disk = h.taken.kept ∙ ap (λ l. old.kept ++ l) (sym keeps);
        sent_ = λ call k. sent call (in_either (Event.Sends call) b.front b.back (subst (IsIn (Event.Sends call)) b.split k));
      };
      to_ = passes_one adv net reads x it.world it.step_ it.kind it.stepped.step_;
    },
  )
    where
      b : Both (Keep h.step.kept) (λ o t e n. GivesOut h.step.outs o t e n) new trace None new
      b =
          both_of (Keep h.step.kept) (λ o t e n. GivesOut h.step.outs o t e n) new trace new
          (subst (λ (e : Option NodeEnd). Then (Keep h.step.kept) (λ o t e n. GivesOut h.step.outs o t e n) new trace e new) none
          h.acts)

      it : StepOf x (effect_in h.step new)
      it = steps (kept_works h.step.kept b.front (front_works adv w trace b.front b.back b.split each) b.begins.0)

      here : NodeStandsFor net it.world w new
      here =
          node_for net it.world w new
          (stands_again net x it.world w it.origin old new input h.step r (node_in net x w old at) h.taken it.stepped.moves)

      outputs : AllByRecursion (IsOutput new h.step.outs) b.back
      outputs =
          subst (λ (n : NodeState). AllByRecursion (IsOutput n h.step.outs) b.back) b.begins.1
          (given_out b.middle h.step.outs b.back None new b.goes_on)

      kept_first : (m : Option Entry) (front : Trace) → IsKeeping m front None → kept front ≡ option_to_list m
      kept_first None front k = ap kept k.0
      kept_first (Some e) front (inl k) = ap kept k.0
      kept_first (Some e) front (inr (inl k)) = no_end k.3
      kept_first (Some e) front (inr (inr k)) = no_end k.1

      keeps : kept trace ≡ option_to_list h.step.kept
      keeps =
          ap kept b.split ∙ kept-append b.front b.back
          ∙ parts_same (kept_first h.step.kept b.front b.begins.0) (outputs_keep_none new h.step.outs b.back outputs)
          ∙ append-nil (option_to_list h.step.kept)

      none_first : {P : Type 0} (m : Option Entry) (front : Trace) (call : Sent) → IsKeeping m front None
          → IsIn (Event.Sends call) front → P
      none_first None front call k i = absurd (subst (IsIn (Event.Sends call)) k.0 i)
      none_first (Some e) front call (inl k) i = other (subst (IsIn (Event.Sends call)) k.0 i)
        where
          other : {P : Type 0} → IsIn (Event.Sends call) (Event.Keeps e ∷ []) → P
          other (inl q) = cc
          other (inr none) = absurd none
      none_first (Some e) front call (inr (inl k)) i = no_end k.3
      none_first (Some e) front call (inr (inr k)) i = no_end k.1

      sent : (call : Sent) → IsIn (Event.Sends call) b.front ⊎ IsIn (Event.Sends call) b.back
          → (f : Frame) × IsCarried it.world w call.to f × (call.bytes ≡ frame_bytes f)
      sent call (inl k) = none_first h.step.kept b.front call b.begins.0 k
      sent call (inr k) =
          let out = (is_output new h.step.outs b.back (Event.Sends call) outputs k).0 in (
            out.frame_,
            (outs_in net x it.world w it.origin old input h.step new few (node_in net x w old at) h.taken it.stepped.moves
                (node_in net it.world w new here)).sends call.to out.packet out.frame_ out.given out.is,
            out.bytes_,
          )

  works_step : (input : Input) → CameWork input → Gives (λ o t e n. Steps input o t e n) WorksOn
  works_step input came old trace end new h none each x g r at =
      works_by input old trace end new h none each x g r at (λ works. step_of_input x old new h.step g at r input came h.taken)

  told_came : (input : Input) → IsTold input → CameWork input
  told_came (Input.Local (Local.Started j)) h = tt
  told_came (Input.Local (Local.StartFailed j)) h = tt
  told_came (Input.Local (Local.Unlinked v)) h = tt
  told_came _ h = absurd h

  works_rule : IsRule CameWork WorksOn
  works_rule = record {
    joined = works_joined;
    spent = λ s end input due is none. no_end (sym none ∙ is);
    asks = λ s call. works_event (Event.Asks call) s (plain s (Event.Asks call) refl (no_ask call));
    replies = λ s call. works_event (Event.Replies call) s (plain s (Event.Replies call) refl (no_reply call));
    steps = λ input came. works_step input came;
    told = λ input h. told_came input h;
  }

  -- the frames of a workstation
  frame_works : (a : ℕ) (bad : Bool) (rest : List Frame) (o : Option Input) → ((i : Input) → o ≡ Some i → CameWork i)
      → Gives (Frames a bad rest) WorksOn
      → Gives (IfThere o (λ (i : Input). Then (TakeIt i) (Frames a bad rest)) (Lose a)) WorksOn
  frame_works a bad rest None came others = lose_gives CameWork WorksOn works_rule a
  frame_works a bad rest (Some i) came others =
      then_gives WorksOn works_joined (TakeIt i) (Frames a bad rest) (take_gives CameWork WorksOn works_rule i (came i refl)) others

  frames_work : (a : ℕ) (bad : Bool) (frames : List Frame)
      → AllByRecursion (λ (f : Frame). (i : Input) → input_of a f ≡ Some i → CameWork i) frames → Gives (Frames a bad frames) WorksOn
  frames_work a bad [] came =
      if_gives WorksOn works_joined bad (Lose a) Nothing (lose_gives CameWork WorksOn works_rule a) (nothing_gives WorksOn works_joined)
  frames_work a bad (f ∷ rest) came =
      wants_gives WorksOn works_joined (IfThere (input_of a f) (λ (i : Input). Then (TakeIt i) (Frames a bad rest)) (Lose a))
      (frame_works a bad rest (input_of a f) came.0 (frames_work a bad rest came.1))

  -- an event and what follows it
  after_event : (event : Event) (old new : NodeState) (rest trace : Trace) → Outputs old [] (event ∷ []) → trace ≡ event ∷ rest
      → WorksOn old rest None new → WorksOn old trace None new
  after_event event old new rest trace out split h =
      subst (λ (t : Trace). WorksOn old t None new) (sym split)
      (works_joined.joins old old new (event ∷ []) rest None (works_event event old out) h)

  report_works : (old : Running) (trace : Trace) (new : Running) → On (λ o t e n. Reports o t e n) old trace None new
      → WorksOn old.node trace None new.node
  report_works old trace new h =
      reports_gives CameWork WorksOn works_rule
      (λ s answer. works_event (Event.Reports answer) s (plain s (Event.Reports answer) refl (no_report answer)))
      (λ j rc. tt) old.node trace None new.node h.acts

  probing_works : (old : Running) (trace : Trace) (new : Running) → Probing old trace None new
      → WorksOn old.node trace None new.node
  probing_works old trace new h = go (next_probe (view_in old.node) old.node.me old.asked) h
    where
      go : (o : Option DepPlace) → IfThere o (λ (place : DepPlace). λ o t e n. Looks place o t e n) Nothing old trace None new
          → WorksOn old.node trace None new.node
      go None k =
          subst (λ (n : NodeState). WorksOn old.node trace None n) (sym (ap (λ (s : Running). s.node) k.2))
          (subst (λ (t : Trace). WorksOn old.node t None old.node) (sym k.0)
          (λ none each x g r at. (
            x,
            record {
              stays = stays_plain net w x old.node [] at (outputs_none old.node [] refl);
              to_ = passes_none adv net reads x;
            },
          )))
      go (Some place) k =
          after_event (Event.Looks k.path k.answer) old.node new.node k.rest trace
          (plain old.node (Event.Looks k.path k.answer) refl (no_look k.path k.answer)) k.split
          (found_gives CameWork WorksOn works_rule
          (λ s path answer. works_event (Event.Looks path answer) s (plain s (Event.Looks path answer) refl (no_look path answer)))
          place tt k.answer old.node k.rest None new.node k.acts.acts)

  advise_works : (old : Running) (trace : Trace) (new : Running) → On Advise old trace None new
      → WorksOn old.node trace None new.node
  advise_works old trace new h = go (advice (view_in old.node) old.node.me) refl h.acts
    where
      typed : (c : Cmd) → advice (view_in old.node) old.node.me ≡ Some c → (trace : Trace) (node : NodeState)
          → Steps (Input.Local (Typed old.node.me c)) old.node trace None node → WorksOn old.node trace None node
      typed c advised trace node s none each x g r at =
          works_by (Input.Local (Typed old.node.me c)) old.node trace None node s none each x g r at
          (λ works. step_of_advice x old.node node s.step at r works c advised s.taken)

      parts : (c : Cmd) → advice (view_in old.node) old.node.me ≡ Some c
          → StepsOrParts (Input.Local (Typed old.node.me c)) old.node trace None new.node → WorksOn old.node trace None new.node
      parts c advised (inl p) =
          subst (λ (t : Trace). WorksOn old.node t None new.node) (sym p.split)
          (works_joined.joins old.node p.middle new.node p.front p.back None (typed c advised p.front p.middle p.begins)
          (telling_gives CameWork WorksOn works_rule p.became p.middle p.back None new.node p.goes_on))
      parts c advised (inr s) = typed c advised trace new.node s

      taken : (c : Cmd) → advice (view_in old.node) old.node.me ≡ Some c
          → TakeIt (Input.Local (Typed old.node.me c)) old.node trace None new.node → WorksOn old.node trace None new.node
      taken c advised (inr stop) = no_end stop.1
      taken c advised (inl (inl t)) =
          parts c advised (takes_parts (Input.Local (Typed old.node.me c)) old.node trace None new.node t)
      taken c advised (inl (inr r)) =
          refused_gives CameWork WorksOn works_rule PassOver (Input.Local (Typed old.node.me c))
          (pass_over_gives CameWork WorksOn works_rule (Input.Local (Typed old.node.me c))) old.node trace None new.node r

      go : (o : Option Cmd) → advice (view_in old.node) old.node.me ≡ o
          → IfThere o (λ (c : Cmd). TakeIt (Input.Local (Typed old.node.me c))) Nothing old.node trace None new.node
          → WorksOn old.node trace None new.node
      go None is k = nothing_gives WorksOn works_joined old.node trace None new.node k
      go (Some c) is k = taken c is k

  turn_works : (t : ℕ) → t ≡ reads w → (old : Running) (trace : Trace) (new : Running)
      → On (TakeIt (Input.Local (Turn t))) old trace None new → WorksOn old.node trace None new.node
  turn_works t same old trace new h =
      take_gives CameWork WorksOn works_rule (Input.Local (Turn t)) same old.node trace None new.node h.acts

-- a pass
module _ (adv : Bool) (defs : Defs) (net : Net) (tree : IsTree net) (few : node_count net ≤ 65536) (law : ReadLaw net) (reads : ℕ → ℕ)
    (w : ℕ) (x : World) (r : IsReached net x) (written : AreWritten x.history) (old : Running)
    (at : NodeStandsFor net x w old.node) where
  abbrev HeardThere : Running → Type 0
  HeardThere new =
      (a : ℕ) (f : Frame) → HearsFrom old new a f → IsForNodes f
      → (g : Frame) × IsCarried x a w g × (frame_bytes f ≡ frame_bytes g)

  -- frames bring packets alone
  no_local : {P : Type 0} (a : ℕ) (f : Frame) (l : Local) → input_of a f ≡ Some (Input.Local l) → P
  no_local a (frame.Mail bytes) l is = go (entry_of (entry_in bytes)) is
    where
      go : {P : Type 0} (o : Option Entry) → option_map (λ (e : Entry). Input.Mail a e) o ≡ Some (Input.Local l) → P
      go None h = cc
      go (Some e) h = cc
  no_local a (frame.Ack f n) l is = cc
  no_local a (frame.Command text) l is = cc
  no_local a (frame.Reply text) l is = cc

  packet_came : (a : ℕ) (f : Frame) (i : Input) → input_of a f ≡ Some i → CameAt net tree few w x i
      → CameWork adv net tree few reads w x i
  packet_came a f (Input.Mail b e) is c = c
  packet_came a f (Input.Ack b g n) is c = c
  packet_came a f (Input.Local l) is c = no_local a f l is

  bytes_work : (a : ℕ) (bytes : List ℕ) (trace : Trace) (new : Running) → HeardThere new → Hear a bytes old trace None new
      → WorksOn adv net tree few reads w x old.node trace None new.node
  bytes_work a bytes trace new sent (inr stop) = no_end stop.1
  bytes_work a bytes trace new sent (inl h) =
      subst (λ (t : Trace). WorksOn adv net tree few reads w x old.node t None new.node)
      (sym (b.split ∙ ap (λ (t : Trace). t ++ b.back) b.begins.0))
      (frames_work adv net tree few reads w x a (is_some h.1) h.0 (all h.0 (λ f k. k)) old.node b.back None new.node acts)
    where
      b : Both (Hears a (heard_more (old.heard a) bytes h.0)) (On (Frames a (is_some h.1) h.0)) old trace None new
      b = both_of (Hears a (heard_more (old.heard a) bytes h.0)) (On (Frames a (is_some h.1) h.0)) old trace new h.3

      acts : Frames a (is_some h.1) h.0 old.node b.back None new.node
      acts =
          subst (λ (n : NodeState). Frames a (is_some h.1) h.0 n b.back None new.node) (ap (λ (s : Running). s.node) b.begins.2)
          b.goes_on.acts

      heard_is : new.heard a ≡ heard_more (old.heard a) bytes h.0
      heard_is =
          ap (λ (g : ℕ → Heard). g a) (b.goes_on.heard_ ∙ ap (λ (s : Running). s.heard) b.begins.2)
          ∙ together a (heard_more (old.heard a) bytes h.0) (old.heard a)

      came : (f : Frame) → IsIn f h.0 → (i : Input) → input_of a f ≡ Some i → CameWork adv net tree few reads w x i
      came f k i is =
          let c = sent a f (record {
            more = h.0;
            grows = ap (λ (g : Heard). g.frames) heard_is;
            among = contains_of f h.0 k;
          }) (for_nodes a f i is) in
          packet_came a f i is
          (came_at net tree few w x a c.1.packet i c.1.sent
          (brings_it x a w (law.reads x r written) c.1.packet c.0 f ((old.heard a).bytes ++ bytes) i c.1.sent c.1.its c.2 (record {
            frames = (old.heard a).frames ++ h.0;
            are = h.2.whole;
            among = contains_of f ((old.heard a).frames ++ h.0) (in_right f (old.heard a).frames h.0 k);
          }) is))

      all : (frames : List Frame) → ((f : Frame) → IsIn f frames → IsIn f h.0)
          → AllByRecursion (λ (f : Frame). (i : Input) → input_of a f ≡ Some i → CameWork adv net tree few reads w x i) frames
      all [] within = tt
      all (f ∷ frames) within = (λ i is. came f (within f (inl refl)) i is, all frames (λ g k. within g (inr k)))

  arrival_works : (a : Arrival) (trace : Trace) (new : Running) → is_working adv w (Event.Comes a) ≡ true → HeardThere new
      → Arrive defs a old trace None new → WorksOn adv net tree few reads w x old.node trace None new.node
  arrival_works (arrival.Bytes a bytes) trace new may sent h = bytes_work a bytes trace new sent h
  arrival_works (arrival.Up a) trace new may sent h = not_still may
  arrival_works (arrival.Down a) trace new may sent h = not_still may
  arrival_works (arrival.Client bytes) trace new may sent h = not_still may
  arrival_works arrival.Nothing trace new may sent h =
      subst (λ (n : NodeState). WorksOn adv net tree few reads w x old.node trace None n) (sym (ap (λ (s : Running). s.node) h.2))
      (subst (λ (t : Trace). WorksOn adv net tree few reads w x old.node t None old.node) (sym h.0)
      (λ none each y g s stands. (
        y,
        record {
          stays = stays_plain net w y old.node [] stands (outputs_none old.node [] refl);
          to_ = passes_none adv net reads y;
        },
      )))
  arrival_works arrival.NoMemory trace new may sent h = no_end h.1

  come_works : (trace : Trace) (new : Running) → AreWorking adv w trace → HeardThere new → Come defs old trace None new
      → WorksOn adv net tree few reads w x old.node trace None new.node
  come_works trace new each sent h =
      let c : Comes defs old trace None new = wanted (λ o t e n. Comes defs o t e n) old trace new h in
      after_event adv net tree few reads w x (Event.Comes c.arrived) old.node new.node c.rest trace
      (plain old.node (Event.Comes c.arrived) refl (no_arrival c.arrived)) c.split
      (arrival_works c.arrived c.rest new (subst (AreWorking adv w) c.split each).0 sent c.arrives)

  pub pass_works : (trace : Trace) (new : Running) → AreWorking adv w trace → readings trace ≡ reads w ∷ [] → HeardThere new
      → TurnOf defs old trace None new → (y : World) × Worked adv net reads w x y old.node new.node trace
  pass_works trace new each stands sent h = whole refl each x (grows_not net x w) r at
    where
      reading : h.reading ≡ reads w
      reading = same_head (sym (ap readings h.split) ∙ stands)

      inside : AreWorking adv w h.rest
      inside = (subst (AreWorking adv w) h.split each).1

      b : Both (Come defs) (Then (On (λ o t e n. Reports o t e n))
          (Then Probing (Then (On Advise) (On (TakeIt (Input.Local (Turn h.reading))))))) old h.rest None new
      b = both_of (Come defs) (Then (On (λ o t e n. Reports o t e n))
          (Then Probing (Then (On Advise) (On (TakeIt (Input.Local (Turn h.reading))))))) old h.rest new h.acts

      c : Both (On (λ o t e n. Reports o t e n)) (Then Probing (Then (On Advise) (On (TakeIt (Input.Local (Turn h.reading))))))
          b.middle b.back None new
      c = both_of (On (λ o t e n. Reports o t e n)) (Then Probing (Then (On Advise) (On (TakeIt (Input.Local (Turn h.reading))))))
          b.middle b.back new b.goes_on

      d : Both Probing (Then (On Advise) (On (TakeIt (Input.Local (Turn h.reading))))) c.middle c.back None new
      d = both_of Probing (Then (On Advise) (On (TakeIt (Input.Local (Turn h.reading))))) c.middle c.back new c.goes_on

      e : Both (On Advise) (On (TakeIt (Input.Local (Turn h.reading)))) d.middle d.back None new
      e = both_of (On Advise) (On (TakeIt (Input.Local (Turn h.reading)))) d.middle d.back new d.goes_on

      joins : (f g k : NodeState) (front back trace : Trace) → trace ≡ front ++ back
          → WorksOn adv net tree few reads w x f front None g → WorksOn adv net tree few reads w x g back None k
          → WorksOn adv net tree few reads w x f trace None k
      joins f g k front back trace split i j =
          subst (λ (t : Trace). WorksOn adv net tree few reads w x f t None k) (sym split)
          ((works_joined adv net tree few reads w x).joins f g k front back None i j)

      same_heard : new.heard ≡ b.middle.heard
      same_heard = rest_heard h.reading b.middle b.back new b.goes_on

      come : WorksOn adv net tree few reads w x old.node b.front None b.middle.node
      come =
          come_works b.front b.middle (front_works adv w h.rest b.front b.back b.split inside)
          (λ a f k for. sent a f (record {
            more = k.more;
            grows = ap (λ (g : ℕ → Heard). (g a).frames) same_heard ∙ k.grows;
            among = k.among;
          }) for) b.begins

      whole : WorksOn adv net tree few reads w x old.node trace None new.node
      whole =
          after_event adv net tree few reads w x (Event.Reads h.reading) old.node new.node h.rest trace
          (plain old.node (Event.Reads h.reading) refl (no_reading h.reading)) h.split
          (joins old.node b.middle.node new.node b.front b.back h.rest b.split come
          (joins b.middle.node c.middle.node new.node c.front c.back b.back c.split
          (report_works adv net tree few reads w x b.middle c.front c.middle c.begins)
          (joins c.middle.node d.middle.node new.node d.front d.back c.back d.split
          (probing_works adv net tree few reads w x c.middle d.front d.middle d.begins)
          (joins d.middle.node e.middle.node new.node e.front e.back d.back e.split
          (advise_works adv net tree few reads w x d.middle e.front e.middle e.begins)
          (turn_works adv net tree few reads w x h.reading reading e.middle e.back new e.goes_on)))))
