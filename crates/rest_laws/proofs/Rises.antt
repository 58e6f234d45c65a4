-- Each step of a round loses nothing, and brings more or leaves all as it was.
use Rattle.std.proofs.Common.{◌≡◌, ◌≢◌, ℕ, suc, ◌<◌, ◌≤◌, max, min, Bool, true, false, ◌⊎◌, inl, inr}
use Rattle.std.proofs.Common.{List, [], ◌∷◌, ◌++◌, length, refl, ap, sym, subst, ◌∙◌, arith, Option, Some, None, cond}
use Rattle.std.proofs.Common.{MatchOption, append-nil, append_assoc}
use Rattle.std.proofs.lemmas.Bool.{eq-eqb}
use Rattle.std.proofs.lemmas.Bool.Decides.{eqb_tells}
use Rattle.std.specs.List.{AllByRecursion}
use Rattle.std.specs.Prelude.{Ok}
use Rattle.model.specs.Types.{Deliver, Entry, Feed, Input, Net}
use Rattle.model.specs.Types.{Packet, Take, Turn, WorldStep}
use Rattle.model.specs.Words.{with_at}
use Rattle.model.specs.Equalities.{feed_eq}
use Rattle.model.specs.History.{Holding, View}
use Rattle.model.specs.Sessions.{next_session, raise_acked}
use Rattle.model.specs.NewEntry.{makes}
use Rattle.model.specs.Step.{Effect, effect}
use Rattle.model.specs.World.{Origin, World, apply_effect, holding_with, mark_delivered, packets_to}
use Rattle.model.specs.World.{view_at}
use Rattle.model.specs.FreeSteps.{free_step, recounted}
use Rattle.model_laws.proofs.Feeds.{feed_cases}
use Rattle.model_laws.proofs.Steps.{Arrives, delivered_is, step_of}
use Rattle.model_laws.proofs.LiveEntries.{raised_more}
use Rattle.rest_laws.specs.Leads.{HasMore}
use Rattle.rest_laws.specs.Rounds.{AreTaken, is_of_round}
use Rattle.rest_laws.proofs.Leads.{Stays, came}
use Rattle.rest_laws.proofs.Leads.{raised_here, stays_after, took}

-- what each step of a round keeps: nothing is lost
pub record Rises (x y : World) : Type 0 where
  pub held : (w : ℕ) (f : Feed) → x.holdings w f ≤ y.holdings w f
  pub acked : (n m : ℕ) (f : Feed) → (x.sessions n).acked m f ≤ (y.sessions n).acked m f
  pub packets : (a b : ℕ) → (rest : List Packet) × (y.packets a b ≡ x.packets a b ++ rest)

pub rises_self : (x y : World) → x ≡ y → Rises x y
rises_self x y e =
    subst (Rises x) e
    (record {
      held = λ w f. omega arith;
      acked = λ n m f. omega arith;
      packets = λ a b. ([], sym (append-nil (x.packets a b)));
    })

pub rises_on : (x y z : World) → Rises x y → Rises y z → Rises x z
rises_on x y z h k =
    record {
      held = λ w f. omega (arith, h.held w f, k.held w f);
      acked = λ n m f. omega (arith, h.acked n m f, k.acked n m f);
      packets =
          λ a b. let p = h.packets a b in let q = k.packets a b in
          (p.0 ++ q.0, q.1 ∙ ap (λ ps. ps ++ q.0) p.1 ∙ append_assoc (x.packets a b) p.0 q.0);
    }

pub with_low : (held : Holding) (made : Option Entry) (g : Feed) → held g ≤ holding_with held made g
with_low held None g = omega arith
with_low held (Some e) g = raised_more e.feed held g

pub rises_after : (x : World) (w : ℕ) (o : Origin) (d : Effect)
    → ((u : ℕ) (f : Feed) → (x.sessions w).acked u f ≤ d.session.acked u f) → Rises x (apply_effect x w o d)
unfolding apply_effect
rises_after x w o d more =
    record { held = held; acked = acked; packets = packets }
  where
    held : (v : ℕ) (f : Feed) → x.holdings v f ≤ with_at w (holding_with (x.holdings w) d.made) x.holdings v f
    held v f =
        elim (eqb_tells v w) [
          | inl e ↦ rw e.0
              (subst (λ i. x.holdings i f ≤ holding_with (x.holdings w) d.made f) (sym e.1)
              (with_low (x.holdings w) d.made f))
          | inr e ↦ rw e.0 (omega arith)
        ]

    acked : (v u : ℕ) (f : Feed) → (x.sessions v).acked u f ≤ (with_at w d.session x.sessions v).acked u f
    acked v u f =
        elim (eqb_tells v w) [
          | inl e ↦ rw e.0 (subst (λ i. (x.sessions i).acked u f ≤ d.session.acked u f) (sym e.1) (more u f))
          | inr e ↦ rw e.0 (omega arith)
        ]

    packets : (a b : ℕ) → (rest : List Packet)
        × (with_at w (λ b. x.packets w b ++ packets_to b d.outs) x.packets a b ≡ x.packets a b ++ rest)
    packets a b =
        elim (eqb_tells a w) [
          | inl e ↦ (packets_to b d.outs, rw e.0 (ap (λ i. x.packets i b ++ packets_to b d.outs) (sym e.1)))
          | inr e ↦ ([], rw e.0 (sym (append-nil (x.packets a b))))
        ]

pub rises_marked : (x z : World) (a b k : ℕ) → Rises x z → Rises x (mark_delivered z a b k)
unfolding mark_delivered
rises_marked x z a b k h = record { held = h.held; acked = h.acked; packets = h.packets }

-- and where there is no more, all stays
pub record Same (x y : World) : Type 0 where
  pub stays : Stays x y
  pub live : (v : ℕ) → (y.sessions v).live ≡ (x.sessions v).live

pub same_on : (x y z : World) → Same x y → Same y z → Same x z
same_on x y z h k =
    record {
      stays =
          record {
            history = k.stays.history ∙ h.stays.history;
            holdings = λ v f. k.stays.holdings v f ∙ h.stays.holdings v f;
            acked = λ v u f. k.stays.acked v u f ∙ h.stays.acked v u f;
            links = λ v u. k.stays.links v u ∙ h.stays.links v u;
          };
      live = λ v. k.live v ∙ h.live v;
    }

pub same_self : (x : World) → Same x x
same_self x =
    record {
      stays = record { history = refl; holdings = λ v f. refl; acked = λ v u f. refl; links = λ v u. refl };
      live = λ v. refl;
    }

pub same_after : (x : World) (w : ℕ) (o : Origin) (d : Effect) → d.made ≡ None
    → ((u : ℕ) (f : Feed) → d.session.acked u f ≡ (x.sessions w).acked u f)
    → ((u : ℕ) → d.session.links u ≡ (x.sessions w).links u) → d.session.live ≡ (x.sessions w).live
    → Same x (apply_effect x w o d)
unfolding apply_effect
same_after x w o d none same_acked same_links same_live =
    record { stays = stays_after x w o d none same_acked same_links; live = live }
  where
    live : (v : ℕ) → (with_at w d.session x.sessions v).live ≡ (x.sessions v).live
    live v =
        elim (eqb_tells v w) [
          | inl e ↦ rw e.0 (same_live ∙ ap (λ i. (x.sessions i).live) (sym e.1))
          | inr e ↦ rw e.0 refl
        ]

pub same_marked : (x z : World) (a b k : ℕ) → Same x z → Same x (mark_delivered z a b k)
unfolding mark_delivered
same_marked x z a b k h =
    record {
      stays =
          record {
            history = h.stays.history;
            holdings = h.stays.holdings;
            acked = h.stays.acked;
            links = h.stays.links;
          };
      live = h.live;
    }

pub record Moves (x z : World) : Type 0 where
  pub rises : Rises x z
  pub change : HasMore x z ⊎ Same x z

-- a turn
pub turn_moves : (net : Net) (x : World) (w t : ℕ)
    → Moves x (apply_effect x w Origin.Own (step_of net x w (Input.Local (Turn t))))
unfolding effect next_session
turn_moves net x w t =
    record {
      rises = rises_after x w Origin.Own done (λ u f. omega arith);
      change = go done.made refl;
    }
  where
    done : Effect
    done = step_of net x w (Input.Local (Turn t))

    go : (o : Option Entry) → done.made ≡ o
        → HasMore x (apply_effect x w Origin.Own done) ⊎ Same x (apply_effect x w Origin.Own done)
    go (Some e) h =
        inl (HasMore.held w e.feed
        (let r : (apply_effect x w Origin.Own done).holdings w e.feed ≡ suc (x.holdings w e.feed) =
        raised_here x w Origin.Own done e h in omega (arith, r)))
    go None h =
        inr (same_after x w Origin.Own done h (λ u f. refl) (λ u. refl)
        (rw h (append-nil (x.sessions w).live)))

-- an acknowledgement
pub acked_low : (old : Holding) (V : View) (f : Feed) (n : ℕ) (g : Feed) → old g ≤ raise_acked old V f n g
acked_low old V f n g = go (feed_eq f g)
  where
    go : (b : Bool) → old g ≤ cond b (max (old g) (min n (length (V g)))) (old g)
    go true = omega arith
    go false = omega arith

pub acked_same : (old : Holding) (V : View) (f : Feed) (n : ℕ) (g : Feed) → raise_acked old V f n f ≤ old f
    → raise_acked old V f n g ≡ old g
acked_same old V f n g low = go (feed_cases f g)
  where
    go : (((feed_eq f g ≡ true) × (f ≡ g)) ⊎ ((feed_eq f g ≡ false) × (f ≢ g)))
        → raise_acked old V f n g ≡ old g
    go (inl k) =
        let l : raise_acked old V f n g ≤ old g = subst (λ h. raise_acked old V f n h ≤ old h) k.1 low in
        omega (arith, l, acked_low old V f n g)
    go (inr k) = rw k.0 refl

pub mail_moves : (net : Net) (x : World) (a b k : ℕ) (i : Input) → Arrives x b i
    → Moves x (mark_delivered (apply_effect x b Origin.Mailed (step_of net x b i)) a b k)
unfolding effect next_session makes mark_delivered apply_effect
mail_moves net x a b k (Input.Local l) there = absurd there.0
mail_moves net x a b k (Input.Mail from e) there =
    record {
      rises = rises_marked x (apply_effect x b Origin.Mailed done) a b k
          (rises_after x b Origin.Mailed done (λ u f. omega arith));
      change = go done.made refl;
    }
  where
    done : Effect
    done = step_of net x b (Input.Mail from e)

    go : (o : Option Entry) → done.made ≡ o
        → HasMore x (mark_delivered (apply_effect x b Origin.Mailed done) a b k)
        ⊎ Same x (mark_delivered (apply_effect x b Origin.Mailed done) a b k)
    go (Some g) h =
        inl (HasMore.held b g.feed
        (let r : (apply_effect x b Origin.Mailed done).holdings b g.feed ≡ suc (x.holdings b g.feed) =
        raised_here x b Origin.Mailed done g h in omega (arith, r)))
    go None h =
        inr (same_marked x (apply_effect x b Origin.Mailed done) a b k
        (same_after x b Origin.Mailed done h (λ u f. refl) (λ u. refl) refl))
mail_moves net x a b k (Input.Ack from f n) there =
    record {
      rises = rises_marked x (apply_effect x b Origin.Mailed done) a b k (rises_after x b Origin.Mailed done more);
      change = go (above ((x.sessions b).acked from f) (raise_acked ((x.sessions b).acked from) (view_at x b) f n f));
    }
  where
    done : Effect
    done = step_of net x b (Input.Ack from f n)

    more : (u : ℕ) (g : Feed) → (x.sessions b).acked u g
        ≤ with_at from (raise_acked ((x.sessions b).acked from) (view_at x b) f n) (x.sessions b).acked u g
    more u g =
        elim (eqb_tells u from) [
          | inl e ↦ rw e.0
              (subst (λ i. (x.sessions b).acked i g ≤ raise_acked ((x.sessions b).acked from) (view_at x b) f n g)
              (sym e.1) (acked_low ((x.sessions b).acked from) (view_at x b) f n g))
          | inr e ↦ rw e.0 (omega arith)
        ]

    above : (m n : ℕ) → (m < n) ⊎ (n ≤ m)
    above m n = grind arith

    same : raise_acked ((x.sessions b).acked from) (view_at x b) f n f ≤ (x.sessions b).acked from f → (u : ℕ) (g : Feed)
        → with_at from (raise_acked ((x.sessions b).acked from) (view_at x b) f n) (x.sessions b).acked u g
        ≡ (x.sessions b).acked u g
    same low u g =
        elim (eqb_tells u from) [
          | inl e ↦ rw e.0
              (acked_same ((x.sessions b).acked from) (view_at x b) f n g low
              ∙ ap (λ i. (x.sessions b).acked i g) (sym e.1))
          | inr e ↦ rw e.0 refl
        ]

    go : (((x.sessions b).acked from f < raise_acked ((x.sessions b).acked from) (view_at x b) f n f)
        ⊎ (raise_acked ((x.sessions b).acked from) (view_at x b) f n f ≤ (x.sessions b).acked from f))
        → HasMore x (mark_delivered (apply_effect x b Origin.Mailed done) a b k)
        ⊎ Same x (mark_delivered (apply_effect x b Origin.Mailed done) a b k)
    go (inl lt) = inl (HasMore.acked b from f (rw (eq-eqb b b refl, eq-eqb from from refl) lt))
    go (inr low) =
        inr (same_marked x (apply_effect x b Origin.Mailed done) a b k
        (same_after x b Origin.Mailed done refl (same low) (λ u. refl) refl))

-- what is counted is no part of this
pub rises_counted : (x z : World) → Rises (recounted x) z → Rises x z
rises_counted x z h = record { held = h.held; acked = h.acked; packets = h.packets }

pub rises_recounted : (x z : World) → Rises x z → Rises (recounted x) z
rises_recounted x z h = record { held = h.held; acked = h.acked; packets = h.packets }

pub more_counted : (x z : World) → HasMore (recounted x) z → HasMore x z
more_counted x z (HasMore.held w f h) = HasMore.held w f h
more_counted x z (HasMore.acked n m f h) = HasMore.acked n m f h

pub same_counted : (x z : World) → Same (recounted x) z → Same x z
same_counted x z h =
    record {
      stays =
          record {
            history = h.stays.history;
            holdings = h.stays.holdings;
            acked = h.stays.acked;
            links = h.stays.links;
          };
      live = h.live;
    }

pub same_recounted : (x z : World) → Same x z → Same x (recounted z)
same_recounted x z h =
    record {
      stays =
          record {
            history = h.stays.history;
            holdings = h.stays.holdings;
            acked = h.stays.acked;
            links = h.stays.links;
          };
      live = h.live;
    }

pub stays_recounted : (x z : World) → Stays x z → Stays x (recounted z)
stays_recounted x z h =
    record { history = h.history; holdings = h.holdings; acked = h.acked; links = h.links }

pub moves_counted : (x z : World) → Moves (recounted x) z → Moves x z
moves_counted x z h = record { rises = rises_counted x z h.rises; change = go h.change }
  where
    go : (HasMore (recounted x) z ⊎ Same (recounted x) z) → HasMore x z ⊎ Same x z
    go (inl k) = inl (more_counted x z k)
    go (inr k) = inr (same_counted x z k)

pub step_moves : (net : Net) (x z : World) (s : WorldStep) → is_of_round s ≡ true → free_step net x s ≡ Ok z → Moves x z
unfolding free_step
step_moves net x z (Take w (Turn t)) h e =
    moves_counted x z
    (subst (Moves (recounted x)) (took net (recounted x) z w (Turn t) e).1 (turn_moves net (recounted x) w t))
step_moves net x z (Deliver a b k) h e =
    let c = came net (recounted x) z a b k e in
    moves_counted x z
    (subst (Moves (recounted x)) c.2
    (mail_moves net (recounted x) a b k c.0
    (subst (λ o. MatchOption o (Unit {0}) (Arrives (recounted x) b)) c.1 (delivered_is (recounted x) a b k))))
step_moves net x z _ h e = cc

pub run_rises : (net : Net) (steps : List WorldStep) (x y : World) → AllByRecursion (λ s. is_of_round s ≡ true) steps
    → AreTaken net x steps y → Rises x y
run_rises net [] x y each taken = rises_self x y taken
run_rises net (s ∷ steps) x y each taken =
    rises_on x taken.0 y (step_moves net x taken.0 s each.0 taken.1).rises
    (run_rises net steps taken.0 y each.1 taken.2)
