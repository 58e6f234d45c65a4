-- Passes in which nobody types, one behind the other, lead on in the world of their night.
use Rattle.std.proofs.Common.{[], ◌++◌, ◌+◌, ◌<◌, ◌≤◌, ◌≡◌, ◌≢◌, ◌∙◌, ◌∷◌, ◌⊎◌, ℕ, Bool, List, ap, append_assoc, arith, false, inl, inr, length, refl, subst, sym, true}
use Rattle.std.proofs.Common.{length-append}
use Rattle.std.proofs.lemmas.Bool.Decides.{eqb_tells}
use Rattle.std.proofs.lemmas.List.{append-nil}
use Rattle.std.specs.List.{AllByRecursion}
use Rattle.std.specs.Prelude.{◌==◌}
use Rattle.composer_parser.specs.declared.Defs.{Defs}
use Rattle.model.specs.Types.{Entry, Feed}
use Rattle.model.specs.Equalities.{feed_eq}
use Rattle.model.specs.History.{list_of, maker}
use Rattle.model.specs.Invariant.{Invariant}
use Rattle.model.specs.Network.{IsTree, node_count}
use Rattle.model.specs.World.{World}
use Rattle.model_laws.proofs.Feeds.{feed_cases, list_of-append, list_of_here}
use Rattle.workload_defs.specs.Nets.{net_of}
use Rattle.node_inputs.specs.Traces.{kept}
use Rattle.network_runs.specs.Happenings.{Night}
use Rattle.network_runs.proofs.Carrying.{ReadLaw}
use Rattle.network_runs.proofs.Members.{IsIn}
use Rattle.network_runs.proofs.Worlds.{invariant}
use Rattle.rest_laws.specs.Gains.{gained}
use Rattle.rest_laws.proofs.Busy.{gained_more}
use Rattle.rest_laws.proofs.Rises.{Rises}
use Rattle.nights_at_rest.specs.Passes.{ArePasses, Pass, Passes, happened, happened_in}
use Rattle.nights_at_rest.specs.Still.{Nodes}
use Rattle.nights_at_rest.proofs.Going.{StandsAt, heard_sent, stands_next}
use Rattle.nights_at_rest.proofs.Ways.{own_of}
use Rattle.rest_laws.specs.Rest.{count_of}
use Rattle.rest_laws.proofs.Gains.{feed_or_none}
use Rattle.rest_laws.proofs.Quiets.{IsFeed}
use Rattle.advice_at_rest.proofs.Gaining.{feed_gains}
use Rattle.working_nights.specs.Passes.{IsWorkingPass}
use Rattle.working_nights.proofs.Breaks.{PassesTo, passes_none, passes_on, passes_rise}
use Rattle.working_nights.proofs.Calm.{NoOwn}
use Rattle.working_nights.proofs.Calming.{IsUntold}
use Rattle.working_nights.proofs.Working.{Worked, pass_works}

-- an entry of a feed is counted there
some_of : (e : Entry) (es : List Entry) (f : Feed) → IsIn e es → e.feed ≡ f → 1 ≤ length (list_of es f)
some_of e [] f h is = absurd h
some_of e (d ∷ es) f (inl q) is =
    let whole : length (list_of (d ∷ es) f) ≡ length (list_of (d ∷ []) f) + length (list_of es f) =
    ap length (list_of-append (d ∷ []) es f) ∙ length-append (list_of (d ∷ []) f) (list_of es f) in
    omega (arith, whole, ap length (list_of_here d f (told (feed_cases f d.feed))))
  where
    told : (((feed_eq f d.feed ≡ true) × (f ≡ d.feed)) ⊎ ((feed_eq f d.feed ≡ false) × (f ≢ d.feed))) → feed_eq f d.feed ≡ true
    told (inl k) = k.0
    told (inr k) = absurd (k.1 (sym is ∙ ap (λ (c : Entry). c.feed) (sym q)))
some_of e (d ∷ es) f (inr k) is =
    let whole : length (list_of (d ∷ es) f) ≡ length (list_of (d ∷ []) f) + length (list_of es f) =
    ap length (list_of-append (d ∷ []) es f) ∙ length-append (list_of (d ∷ []) f) (list_of es f) in
    omega (arith, whole, some_of e es f k is)

-- an entry that w makes is among its own
own_has : (w : ℕ) (e : Entry) (es : List Entry) → maker e.feed ≡ w → IsIn e es → IsIn e (own_of w es)
own_has w e [] mine h = absurd h
own_has w e (d ∷ es) mine h = go (eqb_tells (maker d.feed) w) h (own_has w e es mine)
  where
    go : (((maker d.feed == w) ≡ true) × (maker d.feed ≡ w)) ⊎ (((maker d.feed == w) ≡ false) × (maker d.feed ≢ w))
        → ((d ≡ e) ⊎ IsIn e es) → (IsIn e es → IsIn e (own_of w es)) → IsIn e (own_of w (d ∷ es))
    go (inl t) (inl q) later = rw t.0 (inl q)
    go (inl t) (inr k) later = rw t.0 (inr (later k))
    go (inr t) (inl q) later = absurd (t.1 (ap (λ (c : Entry). maker c.feed) q ∙ mine))
    go (inr t) (inr k) later = rw t.0 (later k)

-- one of these is of w's making, or none
keeps_own : (w : ℕ) (es : List Entry) → ((e : Entry) × IsIn e es × (maker e.feed ≡ w)) ⊎ NoOwn w es
keeps_own w [] = inr (λ e k is. k)
keeps_own w (d ∷ es) = go (eqb_tells (maker d.feed) w) (keeps_own w es)
  where
    none : (maker d.feed ≢ w) → NoOwn w es → NoOwn w (d ∷ es)
    none other more e (inl q) is = other (ap (λ (c : Entry). maker c.feed) q ∙ is)
    none other more e (inr k) is = more e k is

    go : (((maker d.feed == w) ≡ true) × (maker d.feed ≡ w)) ⊎ (((maker d.feed == w) ≡ false) × (maker d.feed ≢ w))
        → ((e : Entry) × IsIn e es × (maker e.feed ≡ w)) ⊎ NoOwn w es
        → ((e : Entry) × IsIn e (d ∷ es) × (maker e.feed ≡ w)) ⊎ NoOwn w (d ∷ es)
    go (inl k) later = inl (d, inl refl, k.1)
    go (inr k) (inl it) = inl (it.0, inr it.1, it.2)
    go (inr k) (inr more) = inr (none k.1 more)

module _ (adv : Bool) (defs : Defs) (tree : IsTree (net_of defs)) (few : node_count (net_of defs) ≤ 65536) (law : ReadLaw (net_of defs))
    (reads : ℕ → ℕ) where
  -- passes have led from x here; no node kept an event of its own in them, or more is gained
  pub record WorkWent (night part : Night) (ps : List Pass) (new : Nodes) (x : World) : Type 0 where
    pub world : World
    pub at : StandsAt defs (night ++ part) new world
    pub to_ : PassesTo adv (net_of defs) reads x world
    pub told : AllByRecursion (IsUntold adv defs reads) ps ⊎ (gained (net_of defs) x < gained (net_of defs) world)

  -- one pass
  module _ (night : Night) (p : Pass) (old new : Nodes) (x : World) (at : StandsAt defs night old x)
      (works : IsWorkingPass adv reads p) (h : Passes defs night p old new) where
    it : (y : World) × Worked adv (net_of defs) reads p.ws x y (old p.ws).node h.after.node p.trace
    it =
        pass_works adv defs (net_of defs) tree few law reads p.ws x at.reached at.written (old p.ws) (at.nodes_ p.ws h.ws_in) p.trace
        h.after works.each works.stands (λ a f hears for. heard_sent defs tree few law reads night p old new x at h a f hears for)
        h.turn

    inv_x : Invariant (net_of defs) x
    inv_x = invariant (net_of defs) x at.reached

    rises : Rises x it.0
    rises = passes_rise adv (net_of defs) reads x it.0 inv_x it.1.to_

    behind : StandsAt defs (night ++ happened_in p) new it.0
    behind =
        stands_next defs tree few law reads night p old new x it.0 h.after at h.ws_in it.1.stays h.then_ h.written

    inv_behind : Invariant (net_of defs) it.0
    inv_behind = invariant (net_of defs) it.0 behind.reached

    held_more : (e : Entry) → IsIn e (kept p.trace) → maker e.feed ≡ p.ws → x.holdings p.ws e.feed < it.0.holdings p.ws e.feed
    held_more e k is =
        omega (
          arith,
          inv_x.own p.ws e.feed is,
          inv_behind.own p.ws e.feed is,
          ap (λ (G : List Entry). length (list_of G e.feed)) it.1.stays.history_,
          ap length (list_of-append x.history (own_of p.ws (kept p.trace)) e.feed),
          length-append (list_of x.history e.feed) (list_of (own_of p.ws (kept p.trace)) e.feed),
          some_of e (own_of p.ws (kept p.trace)) e.feed (own_has p.ws e (kept p.trace) is k) refl,
        )

    gains_by : (e : Entry) → IsIn e (kept p.trace) → maker e.feed ≡ p.ws → gained (net_of defs) x < gained (net_of defs) it.0
    gains_by e k is = go (feed_or_none (net_of defs) it.0 inv_behind e.feed)
      where
        more : x.holdings p.ws e.feed < it.0.holdings p.ws e.feed
        more = held_more e k is

        go : IsFeed (net_of defs) e.feed ⊎ (count_of it.0 e.feed ≡ 0) → gained (net_of defs) x < gained (net_of defs) it.0
        go (inl f_in) = feed_gains (net_of defs) x it.0 rises p.ws e.feed h.ws_in f_in more
        go (inr none) = absurd (omega (arith, none, more, inv_behind.within p.ws e.feed))

    pub pass_work : WorkWent night (happened_in p) (p ∷ []) new x
    pass_work = record {
      world = it.0;
      at = behind;
      to_ = it.1.to_;
      told =
          elim (keeps_own p.ws (kept p.trace)) [
            | inl own ↦ inr (gains_by own.0 own.1 own.2)
            | inr none ↦ inl (none, tt)
          ];
    }

  pub work_more : (x y : World) → Invariant (net_of defs) x → PassesTo adv (net_of defs) reads x y
      → gained (net_of defs) x ≤ gained (net_of defs) y
  work_more x y inv to_ = gained_more (net_of defs) x y (passes_rise adv (net_of defs) reads x y inv to_)

  pub passes_work : (ps : List Pass) (night : Night) (old new : Nodes) (x : World) → StandsAt defs night old x
      → AllByRecursion (IsWorkingPass adv reads) ps → ArePasses defs night ps old new → WorkWent night (happened ps) ps new x
  passes_work [] night old new x at works h = record {
    world = x;
    at =
        subst (λ (n : Nodes). StandsAt defs (night ++ []) n x) (sym h)
        (subst (λ (l : Night). StandsAt defs l old x) (sym (append-nil night)) at);
    to_ = passes_none adv (net_of defs) reads x;
    told = inl tt;
  }
  passes_work (p ∷ ps) night old new x at works h =
      let first : WorkWent night (happened_in p) (p ∷ []) h.0 x = pass_work night p old h.0 x at works.0 h.1 in
      let rest : WorkWent (night ++ happened_in p) (happened ps) ps new first.world =
      passes_work ps (night ++ happened_in p) h.0 new first.world first.at works.1 h.2 in
      record {
        world = rest.world;
        at = subst (λ (l : Night). StandsAt defs l new rest.world) (append_assoc night (happened_in p) (happened ps)) rest.at;
        to_ = passes_on adv (net_of defs) reads x first.world rest.world first.to_ rest.to_;
        told = both first rest;
      }
    where
      both : (first : WorkWent night (happened_in p) (p ∷ []) h.0 x)
          → (rest : WorkWent (night ++ happened_in p) (happened ps) ps new first.world)
          → AllByRecursion (IsUntold adv defs reads) (p ∷ ps) ⊎ (gained (net_of defs) x < gained (net_of defs) rest.world)
      both first rest =
          elim first.told [
            | inl one ↦ elim rest.told [
              | inl others ↦ inl (one.0, others)
              | inr more ↦ inr (omega (arith, more, work_more x first.world (invariant (net_of defs) x at.reached) first.to_))
            ]
            | inr more ↦ inr (omega (
              arith,
              more,
              work_more first.world rest.world (invariant (net_of defs) first.world first.at.reached) rest.to_,
            ))
          ]
