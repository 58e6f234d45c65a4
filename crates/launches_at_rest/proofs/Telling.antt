-- What a step in which something is told makes.
use Rattle.std.proofs.Common.{◌≡◌, ℕ, suc, ◌<◌, ◌≤◌, Bool, true, false, ◌&&◌, not, ℤ}
use Rattle.std.proofs.Common.{List, [], ◌∷◌, ◌++◌, refl, ap, sym, subst, ◌∙◌, arith, Option, Some, None}
use Rattle.std.specs.Option.{option_map_or}
use Rattle.std.specs.Prelude.{Ok, is_none, option_map}
use Rattle.lemmas.proofs.Booleans.{and_left, and_right, not_fails, not_holds}
use Rattle.model.specs.Types.{Body, Dep, Ended, Entry, Events, Failed, Feed, Fulfil, Fulfilled, Input, LiveJob, Local, Net, Obj}
use Rattle.model.specs.Types.{Started, StartFailed, Take, WorldStep}
use Rattle.model.specs.Equalities.{obj_among}
use Rattle.model.specs.Network.{node_count}
use Rattle.model.specs.History.{View}
use Rattle.model.specs.Dependencies.{dep}
use Rattle.model.specs.Facts.{is_fulfilled}
use Rattle.model.specs.FreeSteps.{free_step, recounted}
use Rattle.model.specs.NewEntry.{ends_well, event_of, makes, next_entry, own_entry}
use Rattle.model.specs.OwnMembers.{own_objects}
use Rattle.model.specs.Sessions.{live_launch, next_session}
use Rattle.model.specs.Step.{Effect, effect}
use Rattle.model.specs.StepFaults.{is_outside, step_fault}
use Rattle.model.specs.World.{Origin, World, apply_effect, history_with, view_at}
use Rattle.model_laws.proofs.Faults.{IsClear, clear}
use Rattle.model_laws.proofs.Steps.{step_of}
use Rattle.rest_laws.specs.Rest.{net_at}
use Rattle.rest_laws.proofs.Gains.{are_inside, first_in}
use Rattle.rest_laws.proofs.Leads.{raised_here, took}
use Rattle.rest_laws.proofs.Rises.{Rises, rises_after, rises_counted}
use Rattle.launches_at_rest.specs.Told.{is_told}

-- what can be told where this is seen and these launches live
pub data Tells (V : View) (w : ℕ) (live : List LiveJob) : Body → Type 0 where
  started : (j : ℕ) (l : LiveJob) → live_launch live j ≡ Some l → l.started ≡ false → Tells V w live (Started j l.number)
  failed : (j : ℕ) (l : LiveJob) → live_launch live j ≡ Some l → Tells V w live (Failed j l.number)
  ended : (j : ℕ) (l : LiveJob) (rc : ℤ) (good : Bool) → live_launch live j ≡ Some l
      → Tells V w live (Ended j l.number rc good)
  found : (o : Obj) (i : ℕ) (d : Dep) → obj_among (own_objects V w) o ≡ true → dep V o i ≡ Some d
      → is_fulfilled o i (V (Events w)) ≡ false → Tells V w live (Fulfilled o i)

-- a step of w that keeps this event of its own
pub record Makes (net : Net) (x z : World) (w : ℕ) (b : Body) : Type 0 where
  pub inside : w < node_count net
  pub history : z.history ≡ x.history ++ next_entry (view_at x w) (Events w) b ∷ []
  pub rises : Rises x z
  pub held : z.holdings w (Events w) ≡ suc (x.holdings w (Events w))

pub record ToldAt (net : Net) (x z : World) (w : ℕ) : Type 0 where
  pub body : Body
  pub tells : Tells (view_at x w) w (x.sessions w).live body
  pub makes_ : Makes net x z w body

module _ (net : Net) (x z : World) (w : ℕ) (l : Local) (e : free_step net x (Take w l) ≡ Ok z) where
  faultless : step_fault (net_at net x w) w (view_at x w) (x.sessions w) (Input.Local l) ≡ None
  unfolding free_step
  faultless = (took net (recounted x) z w l e).0

  clear_of : IsClear (net_at net x w) w (view_at x w) (x.sessions w) (Input.Local l)
  clear_of = clear (net_at net x w) w (view_at x w) (x.sessions w) (Input.Local l) faultless

  done : Effect
  done = step_of net (recounted x) w (Input.Local l)

  made_of : (b : Body) → own_entry (net_at net x w) w (view_at x w) (x.sessions w) l ≡ Some (next_entry (view_at x w) (Events w) b)
      → ((made : Option Entry) (u : ℕ) (f : Feed)
      → (next_session (view_at x w) (x.sessions w) (Input.Local l) made).acked u f ≡ (x.sessions w).acked u f)
      → Makes net x z w b
  unfolding free_step apply_effect effect makes done
  made_of b own same =
      let p = took net (recounted x) z w l e in
      record {
        inside = first_in net x w _ (are_inside net x w (Input.Local l) faultless);
        history =
            sym (ap (λ (y : World). y.history) p.1)
            ∙ ap (history_with Origin.Own x.history) own;
        rises =
            rises_counted x z
            (subst (Rises (recounted x)) p.1
            (rises_after (recounted x) w Origin.Own (step_of net (recounted x) w (Input.Local l)) more));
        held =
            subst (λ (y : World). y.holdings w (Events w) ≡ suc (x.holdings w (Events w))) p.1
            (raised_here (recounted x) w Origin.Own (step_of net (recounted x) w (Input.Local l))
            (next_entry (view_at x w) (Events w) b) own);
      }
    where
      more : (u : ℕ) (f : Feed) → (x.sessions w).acked u f ≤ (step_of net (recounted x) w (Input.Local l)).session.acked u f
      more u f =
          let k : (step_of net (recounted x) w (Input.Local l)).session.acked u f ≡ (x.sessions w).acked u f =
          same (own_entry (net_at net x w) w (view_at x w) (x.sessions w) l) u f in
          omega (arith, k)

module _ (net : Net) (x z : World) (w : ℕ) where
  abbrev live_of : List LiveJob
  live_of = (x.sessions w).live

  started_at : (j : ℕ) → free_step net x (Take w (Local.Started j)) ≡ Ok z → ToldAt net x z w
  unfolding own_entry event_of next_session
  started_at j e = go (live_launch live_of j) refl (clear_of net x z w (Local.Started j) e).process
    where
      go : (o : Option LiveJob) → live_launch live_of j ≡ o → option_map_or (λ (l : LiveJob). l.started) o true ≡ false
          → ToldAt net x z w
      go None is h = cc
      go (Some l) is h =
          record {
            body = Started j l.number;
            tells = Tells.started j l is h;
            makes_ =
                made_of net x z w (Local.Started j) e (Started j l.number)
                (ap (λ (o : Option LiveJob). option_map (next_entry (view_at x w) (Events w))
                (option_map (λ (l : LiveJob). Started j l.number) o)) is) (λ made u f. refl);
          }

  failed_at : (j : ℕ) → free_step net x (Take w (StartFailed j)) ≡ Ok z → ToldAt net x z w
  unfolding own_entry event_of next_session
  failed_at j e = go (live_launch live_of j) refl (clear_of net x z w (StartFailed j) e).process
    where
      go : (o : Option LiveJob) → live_launch live_of j ≡ o → option_map_or (λ (l : LiveJob). l.started) o true ≡ false
          → ToldAt net x z w
      go None is h = cc
      go (Some l) is h =
          record {
            body = Failed j l.number;
            tells = Tells.failed j l is;
            makes_ =
                made_of net x z w (StartFailed j) e (Failed j l.number)
                (ap (λ (o : Option LiveJob). option_map (next_entry (view_at x w) (Events w))
                (option_map (λ (l : LiveJob). Failed j l.number) o)) is) (λ made u f. refl);
          }

  ended_at : (j : ℕ) (rc : ℤ) → free_step net x (Take w (Local.Ended j rc)) ≡ Ok z → ToldAt net x z w
  unfolding own_entry event_of next_session
  ended_at j rc e = go (live_launch live_of j) refl (clear_of net x z w (Local.Ended j rc) e).process
    where
      go : (o : Option LiveJob) → live_launch live_of j ≡ o → is_none o ≡ false → ToldAt net x z w
      go None is h = cc
      go (Some l) is h =
          record {
            body = Ended j l.number rc (ends_well (view_at x w) j rc);
            tells = Tells.ended j l rc (ends_well (view_at x w) j rc) is;
            makes_ =
                made_of net x z w (Local.Ended j rc) e (Ended j l.number rc (ends_well (view_at x w) j rc))
                (ap (λ (o : Option LiveJob). option_map (next_entry (view_at x w) (Events w))
                (option_map (λ (l : LiveJob). Ended j l.number rc (ends_well (view_at x w) j rc)) o)) is) (λ made u f. refl);
          }

  found_at : (o : Obj) (i : ℕ) → free_step net x (Take w (Fulfil o i)) ≡ Ok z → ToldAt net x z w
  unfolding own_entry event_of next_session
  found_at o i e =
      go (dep (view_at x w) o i) refl
      (and_left (obj_among (own_objects (view_at x w) w) o) _ (not_fails _ (clear_of net x z w (Fulfil o i) e).dep))
      (and_right (obj_among (own_objects (view_at x w) w) o) _ (not_fails _ (clear_of net x z w (Fulfil o i) e).dep))
    where
      go : (d : Option Dep) → dep (view_at x w) o i ≡ d → obj_among (own_objects (view_at x w) w) o ≡ true
          → (option_map_or is_outside d false && not (is_fulfilled o i (view_at x w (Events w)))) ≡ true → ToldAt net x z w
      go None is mine h = cc
      go (Some d) is mine h =
          record {
            body = Fulfilled o i;
            tells = Tells.found o i d mine is (not_holds _ (and_right (is_outside d) _ h));
            makes_ = made_of net x z w (Fulfil o i) e (Fulfilled o i) refl (λ made u f. refl);
          }

-- each step in which something is told makes such an event
pub record ToldBy (net : Net) (x z : World) : Type 0 where
  pub ws : ℕ
  pub told : ToldAt net x z ws

pub told_by : (net : Net) (x z : World) (s : WorldStep) → is_told s ≡ true → free_step net x s ≡ Ok z → ToldBy net x z
told_by net x z (Take w (Local.Started j)) h e = record { ws = w; told = started_at net x z w j e }
told_by net x z (Take w (StartFailed j)) h e = record { ws = w; told = failed_at net x z w j e }
told_by net x z (Take w (Local.Ended j rc)) h e = record { ws = w; told = ended_at net x z w j rc e }
told_by net x z (Take w (Fulfil o i)) h e = record { ws = w; told = found_at net x z w o i e }
told_by net x z _ h e = cc
