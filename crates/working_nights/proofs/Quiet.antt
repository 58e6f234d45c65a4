-- An end or a file that is told, of which nothing is kept, changes nothing: the pass could have been one without it.
use Rattle.std.proofs.Common.{[], ◌++◌, ◌≡◌, ◌∙◌, ◌∷◌, ℕ, Bool, None, Option, Some, ap, false, inl, inr, refl, subst, sym, true, ℤ}
use Rattle.std.specs.Prelude.{Err, Ok, Result, is_none, option_map}
use Rattle.lemmas.proofs.Lists.{all_append}
use Rattle.composer_parser.specs.declared.Defs.{Defs}
use Rattle.model.specs.Types.{Ended, Entry, Events, Fulfil, Fulfilled, Input, LiveJob, Local, Obj, Turn}
use Rattle.model.specs.History.{maker}
use Rattle.model.specs.NewEntry.{ends_well, event_of, makes, next_entry, own_entry}
use Rattle.model.specs.PresentNet.{present_net}
use Rattle.model.specs.Sessions.{live_launch}
use Rattle.model.specs.Step.{Effect, effect}
use Rattle.model_laws.proofs.Faults.{clear}
use Rattle.outside.specs.declared.Failed.{Failed}
use Rattle.outside.specs.declared.spawners.End.{End}
use Rattle.agent_core.specs.Nodes.{NodeState, session_in, view_in}
use Rattle.agent_core.specs.Steps.{IsTaken, effect_in}
use Rattle.agent_core.specs.declared.faults.Step.{Step}
use Rattle.file_watch.specs.Circle.{DepPlace}
use Rattle.file_watch.specs.Probes.{next_probe}
use Rattle.node_inputs.specs.Actions.{Action, Both, If, IfThere, Nothing, Then}
use Rattle.node_inputs.specs.Inputs.{Follow, Keep, Take as TakeIt}
use Rattle.node_inputs.specs.Traces.{Event, Trace, kept}
use Rattle.node_loop.specs.Runs.{Advise, Come, EndOf, Found, Looks, On, Probing, Reports, Running, TurnOf, is_live, running_with}
use Rattle.run_laws.proofs.Taking.{IsEffect, its_effect, take_gives}
use Rattle.run_laws.proofs.Turning.{advise_gives, come_gives}
use Rattle.nights_at_rest.specs.NodeRounds.{is_inside}
use Rattle.nights_at_rest.proofs.Doing.{AreInside, silently}
use Rattle.nights_at_rest.proofs.StillParts.{both_of, no_end, passes_over}
use Rattle.working_nights.proofs.Calm.{CalmOn, NoOwn, Whatever, back_none, calm_event, calm_rule, come_inside, front_none, kept_there}
use Rattle.working_nights.proofs.Likes.{Like, like_on, like_self}
use Rattle.working_nights.proofs.Working.{AreWorking, back_works, front_works}

-- an end or a file that is told, of which nothing is kept, changes nothing
module _ (adv : Bool) (w : ℕ) (l : Local)
    (keeps : (old new : NodeState) (step_ : Step) → IsTaken old (Input.Local l) step_ new
    → (e : Entry) × (step_.kept ≡ Some e) × (e.feed ≡ Events old.me)) where
  told_quiet : (old : NodeState) (trace : Trace) (new : NodeState) → old.me ≡ w → NoOwn w (kept trace)
      → TakeIt (Input.Local l) old trace None new → (trace ≡ []) × (new ≡ old)
  told_quiet old trace new me own (inr stop) = no_end stop.1
  told_quiet old trace new me own (inl (inr r)) =
      (silently r.0 old trace new r.3, (passes_over (Input.Local l) r.0 old trace new r.1 r.2 r.3).same)
  told_quiet old trace new me own (inl (inl t)) =
      let b = both_of (Keep t.step.kept) (Follow old t.step) t.after trace new t.acts in
      let it = keeps old t.after t.step t.taken in
      absurd (front_none w trace b.front b.back b.split own it.0 (kept_there adv w t.step.kept b.front b.begins.0 it.0 it.1)
      (ap maker it.2 ∙ me))

end_kept : (j : ℕ) (rc : ℤ) (old new : NodeState) (step_ : Step) → IsTaken old (Input.Local (Local.Ended j rc)) step_ new
    → (e : Entry) × (step_.kept ≡ Some e) × (e.feed ≡ Events old.me)
unfolding effect makes own_entry event_of
end_kept j rc old new step_ taken =
    let f : IsEffect old (Input.Local (Local.Ended j rc)) (effect_in step_ new) =
    its_effect old new (Input.Local (Local.Ended j rc)) step_ taken in
    go (live_launch (session_in old).live j)
    (clear (present_net old.net (view_in old)) old.me (view_in old) (session_in old) (Input.Local (Local.Ended j rc)) f.faultless).process
    (ap (λ (d : Effect). d.made) f.is)
  where
    go : (o : Option LiveJob) → is_none o ≡ false
        → option_map (next_entry (view_in old) (Events old.me))
        (option_map (λ (l : LiveJob). Ended j l.number rc (ends_well (view_in old) j rc)) o) ≡ step_.kept
        → (e : Entry) × (step_.kept ≡ Some e) × (e.feed ≡ Events old.me)
    go None h is = cc
    go (Some l) h is =
        (next_entry (view_in old) (Events old.me) (Ended j l.number rc (ends_well (view_in old) j rc)), sym is, refl)

file_kept : (o : Obj) (i : ℕ) (old new : NodeState) (step_ : Step) → IsTaken old (Input.Local (Fulfil o i)) step_ new
    → (e : Entry) × (step_.kept ≡ Some e) × (e.feed ≡ Events old.me)
unfolding effect makes own_entry event_of
file_kept o i old new step_ taken =
    let f : IsEffect old (Input.Local (Fulfil o i)) (effect_in step_ new) =
    its_effect old new (Input.Local (Fulfil o i)) step_ taken in (
      next_entry (view_in old) (Events old.me) (Fulfilled o i),
      sym (ap (λ (d : Effect). d.made) f.is),
      refl,
    )

-- so the end could have been none, and the file not there
record QuietPart (old new : Running) (trace : Trace) (part : Action Running) (w : ℕ) : Type 0 where
  pub calm : Trace
  pub acts : part old calm None new
  pub inside : AreInside w calm
  pub like : Like calm trace
  pub me_ : new.node.me ≡ w

reports_calm : (adv : Bool) (w : ℕ) (old : Running) (trace : Trace) (new : Running) → old.node.me ≡ w → NoOwn w (kept trace)
    → On (λ o t e n. Reports o t e n) old trace None new
    → QuietPart old new trace (On (λ o t e n. Reports o t e n)) w
reports_calm adv w old trace new me own h = go h.acts.answer h.acts.split h.acts.acts
  where
    quiet : (answer : Result (Option End) Failed) → trace ≡ Event.Reports answer ∷ h.acts.rest
        → (h.acts.rest ≡ []) × (new.node ≡ old.node) → QuietPart old new trace (On (λ o t e n. Reports o t e n)) w
    quiet answer split still = record {
      calm = Event.Reports (Ok None) ∷ [];
      acts = record {
        acts = record { answer = Ok None; rest = []; split = refl; acts = (refl, refl, still.1) };
        heard_ = h.heard_;
        asked_ = h.asked_;
      };
      inside = (refl, tt);
      like =
          subst (Like (Event.Reports (Ok None) ∷ [])) (sym (split ∙ ap (λ (t : Trace). Event.Reports answer ∷ t) still.0))
          (inr (tt, tt), tt);
      me_ = ap (λ (n : NodeState). n.me) still.1 ∙ me;
    }

    rest_none : (answer : Result (Option End) Failed) → trace ≡ Event.Reports answer ∷ h.acts.rest
        → NoOwn w (kept h.acts.rest)
    rest_none answer split = back_none w trace (Event.Reports answer ∷ []) h.acts.rest split own

    ended : (e : End) (b : Bool)
        → If b (TakeIt (Input.Local (Local.Ended e.job e.rc))) Nothing old.node h.acts.rest None new.node
        → NoOwn w (kept h.acts.rest) → (h.acts.rest ≡ []) × (new.node ≡ old.node)
    ended e true k none =
        told_quiet adv w (Local.Ended e.job e.rc) (end_kept e.job e.rc) old.node h.acts.rest new.node me none k
    ended e false k none = (k.0, k.2)

    go : (answer : Result (Option End) Failed) → trace ≡ Event.Reports answer ∷ h.acts.rest
        → EndOf answer old.node h.acts.rest None new.node → QuietPart old new trace (On (λ o t e n. Reports o t e n)) w
    go (Ok None) split k = quiet (Ok None) split (k.0, k.2)
    go (Ok (Some e)) split k =
        quiet (Ok (Some e)) split (ended e (is_live old.node e) k (rest_none (Ok (Some e)) split))
    go (Err failed) split k = quiet (Err failed) split (k.0, k.2)

looks_calm : (adv : Bool) (w : ℕ) (place : DepPlace) (old : Running) (trace : Trace) (new : Running) → old.node.me ≡ w
    → NoOwn w (kept trace) → Looks place old trace None new
    → QuietPart old new trace (λ o t e n. Looks place o t e n) w
looks_calm adv w place old trace new me own h = go h.answer h.split h.acts
  where
    quiet : (answer : Result Bool Failed) → trace ≡ Event.Looks h.path answer ∷ h.rest
        → (new.heard ≡ old.heard) × (new.asked ≡ Some place) → (h.rest ≡ []) × (new.node ≡ old.node)
        → QuietPart old new trace (λ o t e n. Looks place o t e n) w
    quiet answer split same still = record {
      calm = Event.Looks h.path (Ok false) ∷ [];
      acts = record {
        path = h.path;
        answer = Ok false;
        rest = [];
        its_path = h.its_path;
        split = refl;
        acts = record { acts = (refl, refl, still.1); heard_ = same.0; asked_ = same.1 };
      };
      inside = (refl, tt);
      like =
          subst (Like (Event.Looks h.path (Ok false) ∷ []))
          (sym (split ∙ ap (λ (t : Trace). Event.Looks h.path answer ∷ t) still.0)) (inr (tt, tt), tt);
      me_ = ap (λ (n : NodeState). n.me) still.1 ∙ me;
    }

    go : (answer : Result Bool Failed) → trace ≡ Event.Looks h.path answer ∷ h.rest
        → On (Found place answer) (running_with old.node old.heard (Some place)) h.rest None new
        → QuietPart old new trace (λ o t e n. Looks place o t e n) w
    go (Ok true) split k =
        quiet (Ok true) split (k.heard_, k.asked_)
        (told_quiet adv w (Fulfil place.0 place.1) (file_kept place.0 place.1) old.node h.rest new.node me
        (back_none w trace (Event.Looks h.path (Ok true) ∷ []) h.rest split own) k.acts)
    go (Ok false) split k = quiet (Ok false) split (k.heard_, k.asked_) (k.acts.0, k.acts.2)
    go (Err failed) split k = quiet (Err failed) split (k.heard_, k.asked_) (k.acts.0, k.acts.2)

probing_calm : (adv : Bool) (w : ℕ) (old : Running) (trace : Trace) (new : Running) → old.node.me ≡ w
    → NoOwn w (kept trace) → Probing old trace None new → QuietPart old new trace Probing w
probing_calm adv w old trace new me own h =
    let q = go (next_probe (view_in old.node) old.node.me old.asked) h in
    record { calm = q.calm; acts = q.acts; inside = q.inside; like = q.like; me_ = q.me_ }
  where
    go : (o : Option DepPlace) → IfThere o (λ (place : DepPlace). λ o t e n. Looks place o t e n) Nothing old trace None new
        → QuietPart old new trace (IfThere o (λ (place : DepPlace). λ o t e n. Looks place o t e n) Nothing) w
    go None k = record {
      calm = trace;
      acts = k;
      inside = subst (AreInside w) (sym k.0) tt;
      like = like_self trace;
      me_ = ap (λ (s : Running). s.node.me) k.2 ∙ me;
    }
    go (Some place) k = looks_calm adv w place old trace new me own k

-- the whole pass
pub record CalmPass (defs : Defs) (w : ℕ) (old : Running) (trace : Trace) (new : Running) : Type 0 where
  pub calm : Trace
  pub turn : TurnOf defs old calm None new
  pub inside : AreInside w calm
  pub like : Like calm trace
  pub me_ : new.node.me ≡ w

pub calm_pass : (adv : Bool) (defs : Defs) (w : ℕ) (old : Running) (trace : Trace) (new : Running) → old.node.me ≡ w → AreWorking adv w trace
    → NoOwn w (kept trace) → TurnOf defs old trace None new → CalmPass defs w old trace new
calm_pass adv defs w old trace new me each own h = record {
  calm = event ∷ (b.front ++ (told.calm ++ (found.calm ++ (e.front ++ e.back))));
  turn = record {
    reading = h.reading;
    rest = b.front ++ (told.calm ++ (found.calm ++ (e.front ++ e.back)));
    split = refl;
    acts = inl (record {
      front = b.front;
      back = told.calm ++ (found.calm ++ (e.front ++ e.back));
      middle = b.middle;
      split = refl;
      begins = b.begins;
      goes_on = inl (record {
        front = told.calm;
        back = found.calm ++ (e.front ++ e.back);
        middle = c.middle;
        split = refl;
        begins = told.acts;
        goes_on = inl (record {
          front = found.calm;
          back = e.front ++ e.back;
          middle = d.middle;
          split = refl;
          begins = found.acts;
          goes_on = inl (record {
            front = e.front;
            back = e.back;
            middle = e.middle;
            split = refl;
            begins = e.begins;
            goes_on = e.goes_on;
          });
        });
      });
    });
  };
  inside = (
    refl,
    all_append (λ v. is_inside w v ≡ true) b.front (told.calm ++ (found.calm ++ (e.front ++ e.back))) come.0
        (all_append (λ v. is_inside w v ≡ true) told.calm (found.calm ++ (e.front ++ e.back)) told.inside
        (all_append (λ v. is_inside w v ≡ true) found.calm (e.front ++ e.back) found.inside
        (all_append (λ v. is_inside w v ≡ true) e.front e.back advised.0 turned.0))),
  );
  like = subst (Like (event ∷ (b.front ++ (told.calm ++ (found.calm ++ (e.front ++ e.back)))))) (sym whole_is) (
    inl refl,
    like_on b.front b.front (told.calm ++ (found.calm ++ (e.front ++ e.back))) (c.front ++ (d.front ++ (e.front ++ e.back)))
        (like_self b.front)
        (like_on told.calm c.front (found.calm ++ (e.front ++ e.back)) (d.front ++ (e.front ++ e.back)) told.like
        (like_on found.calm d.front (e.front ++ e.back) (e.front ++ e.back) found.like (like_self (e.front ++ e.back)))),
  );
  me_ = turned.1;
}
  where
    event : Event
    event = Event.Reads h.reading

    inside : AreWorking adv w h.rest
    inside = (subst (AreWorking adv w) h.split each).1

    rest_own : NoOwn w (kept h.rest)
    rest_own = back_none w trace (event ∷ []) h.rest h.split own

    b : Both (Come defs) (Then (On (λ o t e n. Reports o t e n))
        (Then Probing (Then (On Advise) (On (TakeIt (Input.Local (Turn h.reading))))))) old h.rest None new
    b = both_of (Come defs) (Then (On (λ o t e n. Reports o t e n))
        (Then Probing (Then (On Advise) (On (TakeIt (Input.Local (Turn h.reading))))))) old h.rest new h.acts

    c : Both (On (λ o t e n. Reports o t e n)) (Then Probing (Then (On Advise) (On (TakeIt (Input.Local (Turn h.reading))))))
        b.middle b.back None new
    c = both_of (On (λ o t e n. Reports o t e n)) (Then Probing (Then (On Advise) (On (TakeIt (Input.Local (Turn h.reading))))))
        b.middle b.back new b.goes_on

    d : Both Probing (Then (On Advise) (On (TakeIt (Input.Local (Turn h.reading))))) c.middle c.back None new
    d = both_of Probing (Then (On Advise) (On (TakeIt (Input.Local (Turn h.reading))))) c.middle c.back new c.goes_on

    e : Both (On Advise) (On (TakeIt (Input.Local (Turn h.reading)))) d.middle d.back None new
    e = both_of (On Advise) (On (TakeIt (Input.Local (Turn h.reading)))) d.middle d.back new d.goes_on

    whole_is : trace ≡ event ∷ (b.front ++ (c.front ++ (d.front ++ (e.front ++ e.back))))
    whole_is =
        h.split
        ∙ ap (λ (t : Trace). event ∷ t)
        (b.split ∙ ap (λ (t : Trace). b.front ++ t) (c.split ∙ ap (λ (t : Trace). c.front ++ t)
        (d.split ∙ ap (λ (t : Trace). d.front ++ t) e.split)))

    works_b : AreWorking adv w b.back
    works_b = back_works adv w h.rest b.front b.back b.split inside

    works_c : AreWorking adv w c.back
    works_c = back_works adv w b.back c.front c.back c.split works_b

    works_d : AreWorking adv w d.back
    works_d = back_works adv w c.back d.front d.back d.split works_c

    own_b : NoOwn w (kept b.back)
    own_b = back_none w h.rest b.front b.back b.split rest_own

    own_c : NoOwn w (kept c.back)
    own_c = back_none w b.back c.front c.back c.split own_b

    own_d : NoOwn w (kept d.back)
    own_d = back_none w c.back d.front d.back d.split own_c

    come : AreInside w b.front × (b.middle.node.me ≡ w)
    come =
        come_gives (Whatever adv w) (CalmOn adv w) (calm_rule adv w) (λ input is. tt) (λ x f input is. tt)
        (λ s a. calm_event adv w (Event.Comes a) (come_inside adv w a) s) defs old b.front None b.middle b.begins refl me
        (front_works adv w h.rest b.front b.back b.split inside) (front_none w h.rest b.front b.back b.split rest_own)

    told : QuietPart b.middle c.middle c.front (On (λ o t e n. Reports o t e n)) w
    told =
        reports_calm adv w b.middle c.front c.middle come.1 (front_none w b.back c.front c.back c.split own_b) c.begins

    found : QuietPart c.middle d.middle d.front Probing w
    found =
        probing_calm adv w c.middle d.front d.middle told.me_ (front_none w c.back d.front d.back d.split own_c) d.begins

    advised : AreInside w e.front × (e.middle.node.me ≡ w)
    advised =
        advise_gives (Whatever adv w) (CalmOn adv w) (calm_rule adv w) (λ to c. tt) d.middle.node e.front None e.middle.node e.begins.acts refl
        found.me_ (front_works adv w d.back e.front e.back e.split works_d) (front_none w d.back e.front e.back e.split own_d)

    turned : AreInside w e.back × (new.node.me ≡ w)
    turned =
        take_gives (Whatever adv w) (CalmOn adv w) (calm_rule adv w) (Input.Local (Turn h.reading)) tt e.middle.node e.back None new.node
        e.goes_on.acts refl advised.1 (back_works adv w d.back e.front e.back e.split works_d)
        (back_none w d.back e.front e.back e.split own_d)
