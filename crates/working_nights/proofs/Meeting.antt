-- Of rounds of running nodes in which things may be told, all but a few begin at rest.
use Rattle.std.proofs.Common.{[], ◌++◌, ◌+◌, ◌<◌, ◌≤◌, ◌≡◌, ◌∙◌, ◌∷◌, ◌⊎◌, ℕ, Bool, List, ap, arith, inl, inr, refl, subst, suc, sym, true, zero}
use Rattle.std.proofs.lemmas.Bool.{eq-eqb}
use Rattle.std.specs.List.{AllByRecursion, list_all}
use Rattle.std.specs.Prelude.{◌&&◌, filter_map}
use Rattle.std.proofs.lemmas.List.Elements.{filter_map-append}
use Rattle.lemmas.proofs.Booleans.{or_made_left}
use Rattle.lemmas.proofs.Lists.{all_append, all_left, all_right, all_such}
use Rattle.composer_parser.specs.declared.Defs.{Defs}
use Rattle.model.specs.Types.{Entry}
use Rattle.model.specs.Invariant.{Invariant}
use Rattle.model.specs.Network.{IsTree, node_count}
use Rattle.model.specs.World.{World}
use Rattle.workload_defs.specs.Nets.{net_of}
use Rattle.mail_frames.specs.declared.frames.Frame.{Frame}
use Rattle.network_runs.specs.Happenings.{Night, kept_in, of_its_maker, of_workstation}
use Rattle.network_runs.proofs.Members.{contains_of, in_of}
use Rattle.network_runs.proofs.Carrying.{ReadLaw}
use Rattle.network_runs.proofs.Worlds.{invariant}
use Rattle.rest_laws.specs.Gains.{gained}
use Rattle.rest_laws.specs.Left.{keeps_to}
use Rattle.rest_laws.specs.Rest.{IsAtRest}
use Rattle.rest_laws.specs.Short.{are_answers_short, can_count, has_short_answer}
use Rattle.rest_laws.specs.ToRest.{AlwaysShort}
use Rattle.rest_laws.proofs.Busy.{gained_more}
use Rattle.rest_laws.proofs.Done as works
use Rattle.rest_laws.proofs.Shorts.{always_short}
use Rattle.nights_at_rest.specs.Frames.{Stretch}
use Rattle.nights_at_rest.specs.NodeRounds.{IsInside, IsNodeRound, IsSentIn, RestsBy, behind_round}
use Rattle.nights_at_rest.specs.Passes.{Pass, StandBetween, happened}
use Rattle.nights_at_rest.specs.Still.{Nodes, have_short_answers}
use Rattle.nights_at_rest.proofs.Few.{round_gains}
use Rattle.nights_at_rest.proofs.Going.{IsShortFrom, StandsAt, at_of}
use Rattle.nights_at_rest.proofs.Hearing.{named}
use Rattle.nights_at_rest.proofs.Ways.{parts_same}
use Rattle.nights_at_rest.proofs.Meeting.{end_of, is_round, law, rests_by, round_went, stands_behind}
use Rattle.launches_at_rest.specs.Told.{is_told, works_at}
use Rattle.working_nights.specs.Passes.{AreNodeWorks, IsNodeWork, IsWorkingPass, NodesWorkBut, behind_work}
use Rattle.advice_at_rest.specs.Advised.{goes_on, is_unlinking}
use Rattle.working_nights.proofs.Breaks.{PassesTo, pass_bound, passes_few, passes_none, passes_on, passes_plain, passes_rise}
use Rattle.working_nights.proofs.Breaks.{passes_short}
use Rattle.working_nights.proofs.Calming.{CalmPasses, IsUntold, LikePasses, SendsAll, calm_passes, keeps_in, like_has, like_more, passes_turned}
use Rattle.working_nights.proofs.Calming.{sends_in, sends_on}
use Rattle.working_nights.proofs.Going.{WorkWent, passes_work, work_more}

module _ (adv : Bool) (defs : Defs) (tree : IsTree (net_of defs)) (few : node_count (net_of defs) ≤ 65536) (reads : ℕ → ℕ) where
  abbrev its_law : ReadLaw (net_of defs)
  its_law = law defs tree few reads

  -- one round: it leads to a world for which the nodes stand behind it, and it gains, or finds the network at rest
  record RoundWork (night : Night) (old new : Nodes) (x : World) (r : IsNodeWork adv defs reads night old new) : Type 0 where
    world : World
    at : StandsAt defs (behind_work adv defs reads night old new r) new world
    to_ : PassesTo adv (net_of defs) reads x world
    gains : (gained (net_of defs) x < gained (net_of defs) world) ⊎ IsAtRest (net_of defs) reads x

  -- nothing that turns make is too long from here on
  short_from : (x : World) (night : Night) (nodes : Nodes) → StandsAt defs night nodes x
      → are_answers_short (net_of defs) x ≡ true → IsShortFrom defs tree few its_law reads x
  short_from x night nodes at short y s w w_in =
      always y (record { steps = s.steps; keep = s.keep; taken = s.taken }) w (reads w) w_in
      (rw (eq-eqb (reads w) (reads w) refl) refl)
    where
      always : AlwaysShort (net_of defs) (λ w. reads w ∷ []) x
      always =
          always_short (net_of defs) (λ w. reads w ∷ []) x (invariant (net_of defs) x at.reached) (named (net_of defs) x at.reached)
          short

  stretch_passes : (x y : World) → Stretch (net_of defs) reads x y → PassesTo adv (net_of defs) reads x y
  stretch_passes x y s =
      passes_plain adv (net_of defs) reads s.steps x y s.taken
      (all_such (λ st. keeps_to (λ w. reads w ∷ []) st ≡ true) (λ st. goes_on (λ w. reads w ∷ []) st ≡ true) s.steps
      (λ st k. or_made_left (works_at (λ w. reads w ∷ []) st) (is_unlinking st)
      (or_made_left (keeps_to (λ w. reads w ∷ []) st) (is_told st) k)) s.keep)

  module _ (night : Night) (old new : Nodes) (x : World) (at : StandsAt defs night old x)
      (short : are_answers_short (net_of defs) x ≡ true) (r : IsNodeWork adv defs reads night old new) where
    front_works : AllByRecursion (IsWorkingPass adv reads) (r.turning ++ r.arriving)
    front_works = all_left (IsWorkingPass adv reads) (r.turning ++ r.arriving) r.answering r.each

    one : WorkWent adv defs tree few its_law reads night (happened r.turning) r.turning r.turned x
    one =
        passes_work adv defs tree few its_law reads r.turning night old r.turned x at
        (all_left (IsWorkingPass adv reads) r.turning r.arriving front_works) r.to_turned

    two : WorkWent adv defs tree few its_law reads (night ++ happened r.turning) (happened r.arriving) r.arriving r.arrived one.world
    two =
        passes_work adv defs tree few its_law reads r.arriving (night ++ happened r.turning) r.turned r.arrived one.world one.at
        (all_right (IsWorkingPass adv reads) r.turning r.arriving front_works) r.to_arrived

    three : WorkWent adv defs tree few its_law reads ((night ++ happened r.turning) ++ happened r.arriving) (happened r.answering)
        r.answering new two.world
    three =
        passes_work adv defs tree few its_law reads r.answering ((night ++ happened r.turning) ++ happened r.arriving) r.arrived new
        two.world two.at (all_right (IsWorkingPass adv reads) (r.turning ++ r.arriving) r.answering r.each) r.to_end

    inv_of : (y : World) (part : Night) (nodes : Nodes) → StandsAt defs part nodes y → Invariant (net_of defs) y
    inv_of y part nodes there = invariant (net_of defs) y there.reached

    more_one : gained (net_of defs) x ≤ gained (net_of defs) one.world
    more_one = work_more adv defs tree few its_law reads x one.world (inv_of x _ old at) one.to_

    more_two : gained (net_of defs) one.world ≤ gained (net_of defs) two.world
    more_two = work_more adv defs tree few its_law reads one.world two.world (inv_of one.world _ r.turned one.at) two.to_

    more_three : gained (net_of defs) two.world ≤ gained (net_of defs) three.world
    more_three = work_more adv defs tree few its_law reads two.world three.world (inv_of two.world _ r.arrived two.at) three.to_

    told : gained (net_of defs) x < gained (net_of defs) three.world → RoundWork night old new x r
    told more = record {
      world = three.world;
      at = three.at;
      to_ =
          passes_on adv (net_of defs) reads x two.world three.world
          (passes_on adv (net_of defs) reads x one.world two.world one.to_ two.to_) three.to_;
      gains = inl more;
    }

    -- where no node keeps an event of its own the round could have been one in which nothing was told
    module _ (none_first : AllByRecursion (IsUntold adv defs reads) r.turning)
        (none_second : AllByRecursion (IsUntold adv defs reads) r.arriving)
        (none_third : AllByRecursion (IsUntold adv defs reads) r.answering) where
      calm_first : CalmPasses adv defs reads night r.turning old r.turned
      calm_first =
          calm_passes adv defs reads r.turning night night old r.turned (λ a call i. i) (λ w w_in. (at.nodes_ w w_in).me_)
          (all_left (IsWorkingPass adv reads) r.turning r.arriving front_works) none_first r.to_turned

      sends_first : SendsAll (night ++ happened r.turning) (night ++ happened calm_first.calm)
      sends_first =
          sends_on night night (happened r.turning) (happened calm_first.calm) (λ a call i. i)
          (λ a call i. sends_in a call r.turning calm_first.calm (passes_turned calm_first.calm r.turning calm_first.like) i)

      calm_second : CalmPasses adv defs reads (night ++ happened calm_first.calm) r.arriving r.turned r.arrived
      calm_second =
          calm_passes adv defs reads r.arriving (night ++ happened r.turning) (night ++ happened calm_first.calm) r.turned r.arrived
          sends_first calm_first.named (all_right (IsWorkingPass adv reads) r.turning r.arriving front_works) none_second r.to_arrived

      sends_second : SendsAll ((night ++ happened r.turning) ++ happened r.arriving)
          ((night ++ happened calm_first.calm) ++ happened calm_second.calm)
      sends_second =
          sends_on (night ++ happened r.turning) (night ++ happened calm_first.calm) (happened r.arriving)
          (happened calm_second.calm) sends_first
          (λ a call i. sends_in a call r.arriving calm_second.calm (passes_turned calm_second.calm r.arriving calm_second.like) i)

      calm_third : CalmPasses adv defs reads ((night ++ happened calm_first.calm) ++ happened calm_second.calm) r.answering r.arrived new
      calm_third =
          calm_passes adv defs reads r.answering ((night ++ happened r.turning) ++ happened r.arriving)
          ((night ++ happened calm_first.calm) ++ happened calm_second.calm) r.arrived new sends_second calm_second.named
          (all_right (IsWorkingPass adv reads) (r.turning ++ r.arriving) r.answering r.each) none_third r.to_end

      sent_back : (a b : ℕ) (f : Frame) (ps qs : List Pass) → LikePasses ps qs → IsSentIn ps a b f → IsSentIn qs a b f
      sent_back a b f ps qs like s = contains_of _ (happened qs) (sends_in a _ ps qs like (in_of _ (happened ps) s))

      abbrev plain_round : IsNodeRound defs reads night old new
      plain_round = record {
        turning = calm_first.calm;
        arriving = calm_second.calm;
        answering = calm_third.calm;
        turned = r.turned;
        arrived = r.arrived;
        to_turned = calm_first.passes;
        to_arrived = calm_second.passes;
        to_end = calm_third.passes;
        linked = r.linked;
        each =
            all_append (IsInside reads) (calm_first.calm ++ calm_second.calm) calm_third.calm
            (all_append (IsInside reads) calm_first.calm calm_second.calm calm_first.inside calm_second.inside) calm_third.inside;
        turns = λ w w_in.
            let p = r.turns w w_in in
            let q = like_has calm_first.calm r.turning calm_first.like p.0 (in_of p.0 r.turning p.1) in
            (q.0, contains_of q.0 calm_first.calm q.1, q.2 ∙ p.2);
        sent = λ a b f s. r.sent a b f (sent_back a b f calm_first.calm r.turning calm_first.like s);
        answers = λ a b f s.
            r.answers a b f
            (sent_back a b f (calm_first.calm ++ calm_second.calm) (r.turning ++ r.arriving)
            (like_more calm_first.calm r.turning calm_second.calm r.arriving calm_first.like calm_second.like) s);
      }

      keeps_same : (a b c d : Night) → filter_map kept_in a ≡ filter_map kept_in c → filter_map kept_in b ≡ filter_map kept_in d
          → filter_map kept_in (a ++ b) ≡ filter_map kept_in (c ++ d)
      keeps_same a b c d g h = filter_map-append kept_in a b ∙ parts_same g h ∙ sym (filter_map-append kept_in c d)

      keeps : filter_map kept_in (behind_round defs reads night old new plain_round)
          ≡ filter_map kept_in (behind_work adv defs reads night old new r)
      keeps =
          keeps_same ((night ++ happened calm_first.calm) ++ happened calm_second.calm) (happened calm_third.calm)
          ((night ++ happened r.turning) ++ happened r.arriving) (happened r.answering)
          (keeps_same (night ++ happened calm_first.calm) (happened calm_second.calm) (night ++ happened r.turning)
          (happened r.arriving)
          (keeps_same night (happened calm_first.calm) night (happened r.turning) refl
          (keeps_in calm_first.calm r.turning calm_first.like)) (keeps_in calm_second.calm r.arriving calm_second.like))
          (keeps_in calm_third.calm r.answering calm_third.like)

      sends_third : SendsAll (behind_work adv defs reads night old new r) (behind_round defs reads night old new plain_round)
      sends_third =
          sends_on ((night ++ happened r.turning) ++ happened r.arriving)
          ((night ++ happened calm_first.calm) ++ happened calm_second.calm) (happened r.answering) (happened calm_third.calm)
          sends_second
          (λ a call i. sends_in a call r.answering calm_third.calm (passes_turned calm_third.calm r.answering calm_third.like) i)

      as_told : (z : World) → StandsAt defs (behind_round defs reads night old new plain_round) new z
          → StandsAt defs (behind_work adv defs reads night old new r) new z
      as_told z s = record {
        reached = s.reached;
        history_ = s.history_ ∙ ap (filter_map of_its_maker) keeps;
        written = s.written;
        sent_ = λ a b bytes ok k. s.sent_ a b bytes ok (sends_third a (record { to = b; bytes = bytes; ok = ok }) k);
        nodes_ = s.nodes_;
        disks = λ w w_in. s.disks w w_in ∙ ap (filter_map (of_workstation w)) keeps;
      }

    untold : (q : IsNodeRound defs reads night old new)
        → ((z : World) → StandsAt defs (behind_round defs reads night old new q) new z
        → StandsAt defs (behind_work adv defs reads night old new r) new z) → RoundWork night old new x r
    untold q told_as = record {
      world = end_of defs tree few reads night old new x at shorts q;
      at =
          told_as (end_of defs tree few reads night old new x at shorts q)
          (stands_behind defs tree few reads night old new x at shorts q);
      to_ =
          stretch_passes x (end_of defs tree few reads night old new x at shorts q)
          (round_went defs tree few reads night old new x at shorts q);
      gains =
          round_gains (net_of defs) reads x (end_of defs tree few reads night old new x at shorts q)
          (is_round defs tree few reads night old new x at shorts q) tree (inv_of x _ old at);
    }
      where
        shorts : IsShortFrom defs tree few its_law reads x
        shorts = short_from x night old at short

    round_work : RoundWork night old new x r
    round_work =
        elim one.told [
          | inr more ↦ told (omega (arith, more, more_two, more_three))
          | inl first ↦ elim two.told [
            | inr more ↦ told (omega (arith, more, more_one, more_three))
            | inl second ↦ elim three.told [
              | inr more ↦ told (omega (arith, more, more_one, more_two))
              | inl third ↦ untold (plain_round first second third) (as_told first second third)
            ]
          ]
        ]

  -- from the world in which they are counted passes have led here
  rest_from : (first : World) → Invariant (net_of defs) first → are_answers_short (net_of defs) first ≡ true → (k n : ℕ)
      (night : Night) (old new : Nodes) (x : World) → StandsAt defs night old x → PassesTo adv (net_of defs) reads first x
      → pass_bound adv (net_of defs) reads first ≤ gained (net_of defs) x + n
      → (r : AreNodeWorks adv defs reads k night old new) → NodesWorkBut n adv defs reads k night old new r
  rest_from first inv short zero n night old new x at to_ low r = tt
  rest_from first inv short (suc k) n night old new x at to_ low r =
      go (λ n low. rest_from first inv short k n (behind_work adv defs reads night old r.0 r.1) r.0 new one.world one.at there low r.2)
      n low one.gains
    where
      one : RoundWork night old r.0 x r.1
      one = round_work night old r.0 x at (passes_short adv (net_of defs) reads first x inv to_ short) r.1

      there : PassesTo adv (net_of defs) reads first one.world
      there = passes_on adv (net_of defs) reads first x one.world to_ one.to_

      here : Invariant (net_of defs) x
      here = invariant (net_of defs) x at.reached

      more : gained (net_of defs) x ≤ gained (net_of defs) one.world
      more = gained_more (net_of defs) x one.world (passes_rise adv (net_of defs) reads x one.world here one.to_)

      most : gained (net_of defs) one.world ≤ pass_bound adv (net_of defs) reads first
      most = passes_few adv (net_of defs) reads first one.world inv there

      rested : IsAtRest (net_of defs) reads x → RestsBy defs reads night old
      rested rest = rests_by defs tree few reads night old x at (rest, works.done (net_of defs) reads x tree here rest)

      go : ((n : ℕ) → pass_bound adv (net_of defs) reads first ≤ gained (net_of defs) one.world + n
          → NodesWorkBut n adv defs reads k (behind_work adv defs reads night old r.0 r.1) r.0 new r.2)
          → (n : ℕ) → pass_bound adv (net_of defs) reads first ≤ gained (net_of defs) x + n
          → (gained (net_of defs) x < gained (net_of defs) one.world) ⊎ IsAtRest (net_of defs) reads x
          → NodesWorkBut n adv defs reads (suc k) night old new r
      go later zero low (inl gain) = absurd (omega (arith, low, gain, most))
      go later (suc n) low (inl gain) = inr (later n (omega (arith, low, gain)))
      go later zero low (inr rest) = (rested rest, later zero (omega (arith, low, more)))
      go later (suc n) low (inr rest) = inl (rested rest, later (suc n) (omega (arith, low, more)))

  pub nodes_work : (k n : ℕ) (night : Night) (old new : Nodes) (x : World) → StandBetween defs night old x
      → have_short_answers defs night ≡ true
      → pass_bound adv (net_of defs) reads x ≤ gained (net_of defs) x + n
      → (r : AreNodeWorks adv defs reads k night old new) → NodesWorkBut n adv defs reads k night old new r
  unfolding are_answers_short
  nodes_work k n night old new x s short low r =
      rest_from x (invariant (net_of defs) x at.reached) shorts k n night old new x at (passes_none adv (net_of defs) reads x) low r
    where
      at : StandsAt defs night old x
      at = at_of defs night old x tree few s

      shorts : are_answers_short (net_of defs) x ≡ true
      shorts =
          subst
          (λ (G : List Entry). (can_count (node_count (net_of defs)) && list_all (λ (e : Entry). has_short_answer e.body) G) ≡ true)
          (sym at.history_) short
