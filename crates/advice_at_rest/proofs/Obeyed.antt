-- An order to confirm or to rerun a job that is over badly is obeyed.
use Rattle.std.proofs.Common.{◌≡◌, ℕ, ◌+◌, true, false, ◌&&◌, List, refl, sym, subst, ◌∙◌, Option, Some, None}
use Rattle.std.specs.Option.{option_map_or}
use Rattle.std.specs.Prelude.{◌==◌, option_map}
use Rattle.lemmas.proofs.Booleans.{and_left, and_right}
use Rattle.lemmas.proofs.Options.{map_some}
use Rattle.model.specs.Types.{Cmd, Confirm, Declined, Events, Job, LiveJob, Lost, Net, Obj, Rerun, StreamDoc, Submit}
use Rattle.model.specs.Types.{UntilPassed, Why}
use Rattle.model.specs.Words.{some_is}
use Rattle.model.specs.History.{View}
use Rattle.model.specs.Catalogue.{StreamJob, catalogue, is_member, job, jobs, members, named_members, owner, stream, stream_of}
use Rattle.model.specs.Choices.{Choice}
use Rattle.model.specs.Dependencies.{dep}
use Rattle.model.specs.Facts.{answered, open_launch}
use Rattle.model.specs.OwnMembers.{UntilTime, until_in}
use Rattle.model.specs.Turn.{answer, body_of, next_order, obeyed_as, turn_body, turn_choice}
use Rattle.model.specs.Verdicts.{reasons, verdict}
use Rattle.std.specs.Prelude.{option_and_then}
use Rattle.advice_at_rest.specs.Advices.{is_over_badly, is_own_member}
use Rattle.advice_at_rest.proofs.Over.{Over, over_parts}

module _ (V : View) (w j : ℕ) where
  pub own_member_is : is_own_member (V (Events 0)) w j
      ≡ option_map_or (λ (p : StreamJob). (p.doc.ws == w) && is_member V p.parent.no) (job V j) false
  unfolding is_own_member job jobs catalogue is_member members named_members stream
  own_member_is = refl

  module _ (mine : is_own_member (V (Events 0)) w j ≡ true) where
    there : option_map_or (λ (d : StreamDoc). is_member V d.no) (stream_of V (Job j)) false ≡ true
    unfolding stream_of
    there = go (job V j) (sym own_member_is ∙ mine)
      where
        go : (o : Option StreamJob)
            → option_map_or (λ (p : StreamJob). (p.doc.ws == w) && is_member V p.parent.no) o false ≡ true
            → option_map_or (λ (d : StreamDoc). is_member V d.no) (option_map (λ (p : StreamJob). p.parent) o) false ≡ true
        go None h = cc
        go (Some p) h = and_right (p.doc.ws == w) (is_member V p.parent.no) h

    pub owned : some_is (owner V (Job j)) w ≡ true
    unfolding owner
    owned = go (job V j) (sym own_member_is ∙ mine)
      where
        go : (o : Option StreamJob)
            → option_map_or (λ (p : StreamJob). (p.doc.ws == w) && is_member V p.parent.no) o false ≡ true
            → some_is (option_map (λ (p : StreamJob). p.doc.ws) o) w ≡ true
        go None h = cc
        go (Some p) h = and_left (p.doc.ws == w) (is_member V p.parent.no) h

    pub confirm_obeyed : (net : Net) → is_over_badly j (V (Events w)) ≡ true → verdict net V w (Confirm j) ≡ None
    unfolding verdict reasons
    confirm_obeyed net over =
        let o : Over j (V (Events w)) = over_parts j (V (Events w)) over in rw (there, owned, o.open_, o.due, o.good) refl

    pub rerun_obeyed : (net : Net) → is_over_badly j (V (Events w)) ≡ true → verdict net V w (Rerun j) ≡ None
    unfolding verdict reasons
    rerun_obeyed net over =
        let o : Over j (V (Events w)) = over_parts j (V (Events w)) over in
        rw (there, owned, o.open_, o.due, o.cancelled) refl

-- an order that a turn declines has a reason
pub record DeclinedBy (net : Net) (V : View) (w a : ℕ) : Type 0 where
  pub command : Cmd
  pub why : Why
  pub next : next_order V w a ≡ Some command
  pub reason : verdict net V w command ≡ Some why

module _ (net : Net) (V : View) (w : ℕ) (live : List LiveJob) (t a k : ℕ) (why : Why) where
  obeyed_not : {P : Type 0} (i m : ℕ) (c : Cmd) → obeyed_as V i m c ≡ Declined a k why → P
  obeyed_not i m (Submit draft) e = cc
  obeyed_not i m c e = cc

  by_answer : (i : ℕ) (c : Cmd) → next_order V w i ≡ Some c → answer net V w i c ≡ Declined a k why → DeclinedBy net V w a
  unfolding answer
  by_answer i c next e = go (verdict net V w c) refl e
    where
      go : (v : Option Why) → verdict net V w c ≡ v
          → option_map_or (Declined i (1 + answered i (V (Events w)))) v (obeyed_as V i (1 + answered i (V (Events w))) c)
          ≡ Declined a k why
          → DeclinedBy net V w a
      go None is f = obeyed_not i (1 + answered i (V (Events w))) c f
      go (Some y) is f =
          let same : i ≡ a = cc in
          record { command = c; why = y; next = subst (λ (u : ℕ). next_order V w u ≡ Some c) same next; reason = is }

  lost_not : {P : Type 0} (j n : ℕ) → Lost j n ≡ Declined a k why → P
  lost_not j n e = cc

  until_not : {P : Type 0} (o : Obj) (i : ℕ) (u : UntilTime) → UntilPassed o i u.mark ≡ Declined a k why → P
  until_not o i u e = cc

  by_choice : (c : Choice) → body_of net V w t c ≡ Some (Declined a k why) → DeclinedBy net V w a
  unfolding body_of
  by_choice Choice.Clock e = cc
  by_choice (Choice.Lost j) e =
      let it = map_some (Lost j) (open_launch j (V (Events w))) (Declined a k why) e in lost_not j it.0 it.2
  by_choice (Choice.Answer i) e =
      let it = map_some (answer net V w i) (next_order V w i) (Declined a k why) e in by_answer i it.0 it.1 it.2
  by_choice (Choice.Until o i) e =
      let it = map_some (λ (u : UntilTime). UntilPassed o i u.mark) (option_and_then until_in (dep V o i)) (Declined a k why) e in
      until_not o i it.0 it.2
  by_choice (Choice.Late o i) e = cc
  by_choice (Choice.Release s) e = cc
  by_choice (Choice.End s) e = cc
  by_choice (Choice.Launch j) e = cc
  by_choice Choice.Nothing e = cc

  pub declined_by : turn_body net V w live t ≡ Some (Declined a k why) → DeclinedBy net V w a
  unfolding turn_body
  declined_by e = by_choice (turn_choice net V w live t) e
