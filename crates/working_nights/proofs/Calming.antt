-- Passes in which no node keeps an entry of its own could have been passes in which nothing was told.
use Rattle.std.proofs.Common.{[], ◌++◌, ◌<◌, ◌≡◌, ◌∙◌, ◌∷◌, ℕ, Bool, List, ap, inl, inr, refl, subst, sym}
use Rattle.std.proofs.lemmas.Bool.Decides.{eqb_tells}
use Rattle.std.proofs.lemmas.List.Elements.{filter_map-append}
use Rattle.std.specs.List.{AllByRecursion}
use Rattle.std.specs.Prelude.{Contains, filter_map, map}
use Rattle.composer_parser.specs.declared.Defs.{Defs}
use Rattle.model.specs.Types.{Entry}
use Rattle.model.specs.Network.{node_count}
use Rattle.outside.specs.Calls.{Sent}
use Rattle.workload_defs.specs.Nets.{net_of}
use Rattle.node_inputs.specs.Traces.{Event, kept}
use Rattle.node_loop.specs.Runs.{Running}
use Rattle.network_runs.specs.Happenings.{Does, Night, kept_in}
use Rattle.network_runs.proofs.Counting.{apart, together}
use Rattle.network_runs.proofs.Members.{IsIn, contains_of, in_either, in_left, in_of, in_right}
use Rattle.nights_at_rest.specs.NodeRounds.{IsInside}
use Rattle.nights_at_rest.specs.Passes.{ArePasses, Pass, Passes, happened, happened_in}
use Rattle.nights_at_rest.specs.Still.{Nodes}
use Rattle.nights_at_rest.proofs.Going.{in_pass, pass_has}
use Rattle.nights_at_rest.proofs.Ways.{kept_pairs, pair_of, parts_same}
use Rattle.working_nights.specs.Passes.{IsWorkingPass}
use Rattle.working_nights.proofs.Calm.{NoOwn}
use Rattle.working_nights.proofs.Quiet.{CalmPass, calm_pass}
use Rattle.working_nights.proofs.Likes.{Like, like_kept, like_readings, like_sends, like_turned}

-- passes of the same workstations with such traces
abbrev pub LikePasses : List Pass → List Pass → Type 0
LikePasses [] [] = Unit {0}
LikePasses (p ∷ ps) (q ∷ qs) = ((p.ws ≡ q.ws) × Like p.trace q.trace) × LikePasses ps qs
LikePasses _ _ = ⊥

pub like_more : (ps qs rs ss : List Pass) → LikePasses ps qs → LikePasses rs ss → LikePasses (ps ++ rs) (qs ++ ss)
like_more [] [] rs ss h k = k
like_more (p ∷ ps) (q ∷ qs) rs ss h k = (h.0, like_more ps qs rs ss h.1 k)
like_more [] (q ∷ qs) rs ss h k = absurd h
like_more (p ∷ ps) [] rs ss h k = absurd h

pub like_has : (ps qs : List Pass) → LikePasses ps qs → (q : Pass) → IsIn q qs → (p : Pass) × IsIn p ps × (p.ws ≡ q.ws)
like_has [] [] h q k = absurd k
like_has (p ∷ ps) (q ∷ qs) h r (inl e) = (p, inl refl, h.0.0 ∙ ap (λ (s : Pass). s.ws) e)
like_has (p ∷ ps) (q ∷ qs) h r (inr k) = let it = like_has ps qs h.1 r k in (it.0, inr it.1, it.2)
like_has [] (q ∷ qs) h r k = absurd h
like_has (p ∷ ps) [] h r k = absurd h

-- they send the same
pub sends_here : (a : ℕ) (call : Sent) (p q : Pass) → p.ws ≡ q.ws → Like p.trace q.trace
    → IsIn (Does a (Event.Sends call)) (happened_in p) → IsIn (Does a (Event.Sends call)) (happened_in q)
sends_here a call p q same like k =
    let it = in_pass p.ws a (Event.Sends call) p.trace k in
    subst (λ (v : ℕ). IsIn (Does v (Event.Sends call)) (happened_in q)) (sym same ∙ it.0)
    (pass_has q.ws (Event.Sends call) q.trace (like_sends p.trace q.trace like call it.1))

pub sends_in : (a : ℕ) (call : Sent) (ps qs : List Pass) → LikePasses ps qs → IsIn (Does a (Event.Sends call)) (happened ps)
    → IsIn (Does a (Event.Sends call)) (happened qs)
sends_in a call [] [] h k = k
sends_in a call (p ∷ ps) (q ∷ qs) h k =
    elim (in_either (Does a (Event.Sends call)) (happened_in p) (happened ps) k) [
      | inl i ↦ in_left (Does a (Event.Sends call)) (happened_in q) (happened qs) (sends_here a call p q h.0.0 h.0.1 i)
      | inr i ↦ in_right (Does a (Event.Sends call)) (happened_in q) (happened qs) (sends_in a call ps qs h.1 i)
    ]
sends_in a call [] (q ∷ qs) h k = absurd h
sends_in a call (p ∷ ps) [] h k = absurd h

pub passes_turned : (ps qs : List Pass) → LikePasses ps qs → LikePasses qs ps
passes_turned [] [] h = tt
passes_turned (p ∷ ps) (q ∷ qs) h = ((sym h.0.0, like_turned p.trace q.trace h.0.1), passes_turned ps qs h.1)
passes_turned [] (q ∷ qs) h = absurd h
passes_turned (p ∷ ps) [] h = absurd h

-- and keep the same
pub keeps_in : (ps qs : List Pass) → LikePasses ps qs → filter_map kept_in (happened ps) ≡ filter_map kept_in (happened qs)
keeps_in [] [] h = refl
keeps_in (p ∷ ps) (q ∷ qs) h =
    filter_map-append kept_in (happened_in p) (happened ps)
    ∙ parts_same (kept_pairs p.ws p.trace ∙ same ∙ sym (kept_pairs q.ws q.trace)) (keeps_in ps qs h.1)
    ∙ sym (filter_map-append kept_in (happened_in q) (happened qs))
  where
    same : map (pair_of p.ws) (kept p.trace) ≡ map (pair_of q.ws) (kept q.trace)
    same = λ i. map (pair_of (h.0.0 i)) (like_kept p.trace q.trace h.0.1 i)
keeps_in [] (q ∷ qs) h = absurd h
keeps_in (p ∷ ps) [] h = absurd h

-- all that was sent in the first night was sent in the second
abbrev pub SendsAll : Night → Night → Type 0
SendsAll night other =
    (a : ℕ) (call : Sent) → IsIn (Does a (Event.Sends call)) night → IsIn (Does a (Event.Sends call)) other

pub sends_on : (night other front back : Night) → SendsAll night other → SendsAll front back → SendsAll (night ++ front) (other ++ back)
sends_on night other front back h k a call i =
    elim (in_either (Does a (Event.Sends call)) night front i) [
      | inl l ↦ in_left (Does a (Event.Sends call)) other back (h a call l)
      | inr r ↦ in_right (Does a (Event.Sends call)) other back (k a call r)
    ]

module _ (adv : Bool) (defs : Defs) (reads : ℕ → ℕ) where
  abbrev pub AreNamed : Nodes → Type 0
  AreNamed nodes = (w : ℕ) → w < node_count (net_of defs) → (nodes w).node.me ≡ w

  abbrev pub IsUntold : Pass → Type 0
  IsUntold p = NoOwn p.ws (kept p.trace)

  pub record CalmPasses (night : Night) (ps : List Pass) (old new : Nodes) : Type 0 where
    pub calm : List Pass
    pub passes : ArePasses defs night calm old new
    pub like : LikePasses calm ps
    pub inside : AllByRecursion (IsInside reads) calm
    pub named : AreNamed new

  -- one of them, and those behind it
  module _ (p : Pass) (night other : Night) (old middle : Nodes) (sends : SendsAll night other) (names : AreNamed old)
      (works : IsWorkingPass adv reads p) (none : IsUntold p) (h : Passes defs night p old middle) where
    first : CalmPass defs p.ws (old p.ws) p.trace h.after
    first = calm_pass adv defs p.ws (old p.ws) p.trace h.after (names p.ws h.ws_in) works.each none h.turn

    abbrev calm_one : Pass
    calm_one = record { ws = p.ws; trace = first.calm }

    one : Passes defs other calm_one old middle
    one = record {
      ws_in = h.ws_in;
      after = h.after;
      turn = first.turn;
      then_ = h.then_;
      hears = λ a f k for.
          let s = h.hears a f k for in (s.0, contains_of _ other (sends a _ (in_of _ night s.1)));
      written = λ e k.
          h.written e (subst (λ (l : List Entry). Contains l e) (like_kept first.calm p.trace first.like) k);
    }

    later_sends : SendsAll (night ++ happened_in p) (other ++ happened_in calm_one)
    later_sends =
        sends_on night other (happened_in p) (happened_in calm_one) sends
        (λ a call i. sends_here a call p calm_one refl (like_turned first.calm p.trace first.like) i)

    later_names : AreNamed middle
    later_names v v_in =
        elim (eqb_tells v p.ws) [
          | inl t ↦ subst (λ (u : ℕ). (middle u).node.me ≡ u) (sym t.1)
              (ap (λ (n : Running). n.node.me) (ap (λ (m : Nodes). m p.ws) h.then_ ∙ together p.ws h.after (old p.ws)) ∙ first.me_)
          | inr t ↦ ap (λ (n : Running). n.node.me)
              (ap (λ (m : Nodes). m v) h.then_ ∙ apart v p.ws h.after (old v) (λ e. t.1 (sym e))) ∙ names v v_in
        ]

    with_rest : (ps : List Pass) (new : Nodes) → CalmPasses (other ++ happened_in calm_one) ps middle new
        → CalmPasses other (p ∷ ps) old new
    with_rest ps new rest = record {
      calm = calm_one ∷ rest.calm;
      passes = (middle, one, rest.passes);
      like = ((refl, first.like), rest.like);
      inside = (
        record {
          each = first.inside;
          stands = like_readings first.calm p.trace first.like ∙ works.stands;
        },
        rest.inside,
      );
      named = rest.named;
    }

  pub calm_passes : (ps : List Pass) (night other : Night) (old new : Nodes) → SendsAll night other → AreNamed old
      → AllByRecursion (IsWorkingPass adv reads) ps → AllByRecursion IsUntold ps → ArePasses defs night ps old new
      → CalmPasses other ps old new
  calm_passes [] night other old new sends names works none h = record {
    calm = [];
    passes = h;
    like = tt;
    inside = tt;
    named = subst AreNamed (sym h) names;
  }
  calm_passes (p ∷ ps) night other old new sends names works none h =
      with_rest p night other old h.0 sends names works.0 none.0 h.1 ps new
      (calm_passes ps (night ++ happened_in p)
      (other ++ happened_in (calm_one p night other old h.0 sends names works.0 none.0 h.1)) h.0 new
      (later_sends p night other old h.0 sends names works.0 none.0 h.1)
      (later_names p night other old h.0 sends names works.0 none.0 h.1) works.1 none.1 h.2)
