-- Nodes that stand still, with their links up at both ends, make rounds.
use Rattle.std.proofs.Common.{[], ◌++◌, ◌<◌, ◌≤◌, ◌≡◌, ◌∙◌, ◌∷◌, ◌⊎◌, ℕ, List, None, Some, ap, append_assoc, arith, false, inl, inr, refl, subst, suc, sym, true, zero}
use Rattle.std.proofs.lemmas.List.{append-nil, append_cancel_left}
use Rattle.std.proofs.lemmas.List.Concat.{flat_map-append}
use Rattle.std.specs.List.{AllByRecursion}
use Rattle.std.specs.Prelude.{Contains, Err, Ok}
use Rattle.lemmas.proofs.Lists.{all_append}
use Rattle.lemmas.proofs.Numbers.{below_or_last}
use Rattle.composer_parser.specs.declared.Defs.{Defs}
use Rattle.model.specs.Types.{Input, Turn}
use Rattle.model.specs.Network.{node_count}
use Rattle.model.specs.Words.{with_at}
use Rattle.mail_frames.specs.declared.frames.Frame.{Frame}
use Rattle.outside.specs.Calls.{Sent}
use Rattle.outside.specs.declared.links.Arrival.TheVariants as arrival
use Rattle.workload_defs.specs.Nets.{net_of}
use Rattle.node_inputs.specs.Actions.{Both, Then}
use Rattle.node_inputs.specs.Inputs.{Take as TakeIt}
use Rattle.node_inputs.specs.Traces.{Event, Trace, kept}
use Rattle.node_loop.specs.Heard.{Heard}
use Rattle.node_loop.specs.Runs.{Advise, Come, On, Probing, Reports, Running, TurnOf}
use Rattle.network_runs.specs.Happenings.{Does, Night}
use Rattle.network_runs.proofs.Counting.{apart}
use Rattle.network_runs.proofs.Members.{IsIn, contains_of, in_either, in_left, in_of, in_right}
use Rattle.nights_at_rest.specs.NodeRounds.{AreNodesLinked, IsInside, IsNodeRound, IsSentIn, is_inside}
use Rattle.nights_at_rest.specs.Passes.{ArePasses, HearsFrom, Pass, Passes, happened, happened_in}
use Rattle.nights_at_rest.specs.Still.{IsStill, Nodes, StandStill, is_still}
use Rattle.nights_at_rest.proofs.Going.{in_pass}
use Rattle.nights_at_rest.proofs.Passing.{rest_heard}
use Rattle.nights_at_rest.proofs.StillParts.{AreStill, both_of, comes, front_still, not_still}

-- what is still may happen, keeps nothing and sends nothing
still_inside : (w : ℕ) (event : Event) → is_still event ≡ true → is_inside w event ≡ true
still_inside w (Event.Reads t) h = refl
still_inside w (Event.Comes arrival.Nothing) h = refl
still_inside w (Event.Comes (arrival.Bytes a bytes)) h = not_still h
still_inside w (Event.Comes (arrival.Up a)) h = not_still h
still_inside w (Event.Comes (arrival.Down a)) h = not_still h
still_inside w (Event.Comes (arrival.Client bytes)) h = not_still h
still_inside w (Event.Comes arrival.NoMemory) h = not_still h
still_inside w (Event.Reports (Ok None)) h = refl
still_inside w (Event.Reports (Ok (Some e))) h = not_still h
still_inside w (Event.Reports (Err f)) h = not_still h
still_inside w (Event.Looks path (Ok false)) h = refl
still_inside w (Event.Looks path (Ok true)) h = not_still h
still_inside w (Event.Looks path (Err f)) h = not_still h
still_inside w (Event.Keeps e) h = not_still h
still_inside w (Event.Refuses e why) h = not_still h
still_inside w (Event.Starts c) h = not_still h
still_inside w (Event.Kills j n) h = not_still h
still_inside w (Event.Sends c) h = not_still h
still_inside w (Event.Replies c) h = not_still h
still_inside w (Event.Asks c) h = not_still h

all_inside : (w : ℕ) (trace : Trace) → AreStill trace → AllByRecursion (λ event. is_inside w event ≡ true) trace
all_inside w [] h = tt
all_inside w (event ∷ trace) h = (still_inside w event h.0, all_inside w trace h.1)

is_still_in : (trace : Trace) (event : Event) → AreStill trace → IsIn event trace → is_still event ≡ true
is_still_in [] event h k = absurd k
is_still_in (e ∷ trace) event h (inl q) = subst (λ (d : Event). is_still d ≡ true) q h.0
is_still_in (e ∷ trace) event h (inr k) = is_still_in trace event h.1 k

keeps_none : (trace : Trace) → AreStill trace → kept trace ≡ []
keeps_none [] h = refl
keeps_none (Event.Keeps e ∷ trace) h = not_still h.0
keeps_none (Event.Refuses e why ∷ trace) h = not_still h.0
keeps_none (Event.Reads t ∷ trace) h = keeps_none trace h.1
keeps_none (Event.Comes a ∷ trace) h = keeps_none trace h.1
keeps_none (Event.Reports r ∷ trace) h = keeps_none trace h.1
keeps_none (Event.Looks p a ∷ trace) h = keeps_none trace h.1
keeps_none (Event.Starts c ∷ trace) h = keeps_none trace h.1
keeps_none (Event.Kills j n ∷ trace) h = keeps_none trace h.1
keeps_none (Event.Sends c ∷ trace) h = keeps_none trace h.1
keeps_none (Event.Replies c ∷ trace) h = keeps_none trace h.1
keeps_none (Event.Asks c ∷ trace) h = keeps_none trace h.1

-- and nothing is heard in a still pass
still_heard : (defs : Defs) (t : ℕ) (old : Running) (s : IsStill defs t old) → s.after.heard ≡ old.heard
still_heard defs t old s = rest_heard s.turn.reading b.middle b.back s.after b.goes_on ∙ ap (λ (r : Running). r.heard) come
  where
    still : AreStill s.turn.rest
    still = (subst AreStill s.turn.split s.each).1

    b : Both (Come defs) (Then (On (λ o t e n. Reports o t e n))
        (Then Probing (Then (On Advise) (On (TakeIt (Input.Local (Turn s.turn.reading))))))) old s.turn.rest None s.after
    b = both_of (Come defs) (Then (On (λ o t e n. Reports o t e n))
        (Then Probing (Then (On Advise) (On (TakeIt (Input.Local (Turn s.turn.reading))))))) old s.turn.rest s.after s.turn.acts

    come : b.middle ≡ old
    come = comes defs old b.front b.middle (front_still s.turn.rest b.front b.back b.split still) b.begins

-- passes and then passes
passes_on : (defs : Defs) (night : Night) (ps qs : List Pass) (old middle new : Nodes) → ArePasses defs night ps old middle
    → ArePasses defs (night ++ happened ps) qs middle new → ArePasses defs night (ps ++ qs) old new
passes_on defs night [] qs old middle new h k =
    subst (λ (n : Nodes). ArePasses defs night qs n new) h
    (subst (λ (l : Night). ArePasses defs l qs middle new) (append-nil night) k)
passes_on defs night (p ∷ ps) qs old middle new h k = (
  h.0,
  h.1,
  passes_on defs (night ++ happened_in p) ps qs h.0 middle new h.2
      (subst (λ (l : Night). ArePasses defs l qs middle new) (sym (append_assoc night (happened_in p) (happened ps))) k),
)

-- so many have made a pass
record HavePassed (defs : Defs) (reads : ℕ → ℕ) (night : Night) (old : Nodes) (k : ℕ) : Type 0 where
  pub passes : List Pass
  pub new : Nodes
  pub are : ArePasses defs night passes old new
  pub inside : AllByRecursion (IsInside reads) passes
  pub others : (w : ℕ) → k ≤ w → new w ≡ old w
  pub each : (w : ℕ) → w < k → (p : Pass) × Contains passes p × (p.ws ≡ w)
  pub none_sent : (a : ℕ) (call : Sent) → IsIn (Does a (Event.Sends call)) (happened passes) → ⊥

module _ (defs : Defs) (reads : ℕ → ℕ) (night : Night) (old : Nodes) (still : StandStill defs reads old) where
  one_more : (k : ℕ) → k < node_count (net_of defs) → HavePassed defs reads night old k → HavePassed defs reads night old (suc k)
  one_more k k_in h = record {
    passes = h.passes ++ p ∷ [];
    new = new;
    are = passes_on defs night h.passes (p ∷ []) old h.new new h.are (new, passed, refl);
    inside =
        all_append (IsInside reads) h.passes (p ∷ []) h.inside
        (record { each = all_inside k s.trace s.each; stands = s.reads }, tt);
    others = λ w low. apart w k s.after (h.new w) (λ e. omega (arith, low, e)) ∙ h.others w (omega (arith, low));
    each = λ w low. found w (less w low);
    none_sent = λ a call i.
        none a call (in_either (Does a (Event.Sends call)) (happened h.passes) (happened (p ∷ []))
        (subst (IsIn (Does a (Event.Sends call))) (flat_map-append happened_in h.passes (p ∷ [])) i));
  }
    where
      s : IsStill defs (reads k) (old k)
      s = still.still k k_in

      p : Pass
      p = record { ws = k; trace = s.trace }

      new : Nodes
      new = with_at k s.after h.new

      here : h.new k ≡ old k
      here = h.others k (omega arith)

      none_heard : (a : ℕ) (f : Frame) → HearsFrom (h.new k) s.after a f → ⊥
      none_heard a f hears = nothing (subst (IsIn f) none (in_of f hears.more hears.among))
        where
          none : hears.more ≡ []
          none =
              append_cancel_left ((h.new k).heard a).frames hears.more []
              (sym hears.grows ∙ ap (λ (g : ℕ → Heard). (g a).frames) (still_heard defs (reads k) (old k) s)
              ∙ ap (λ (r : Running). (r.heard a).frames) (sym here) ∙ sym (append-nil ((h.new k).heard a).frames))

          nothing : IsIn f [] → ⊥
          nothing i = i

      passed : Passes defs (night ++ happened h.passes) p h.new new
      passed = record {
        ws_in = k_in;
        after = s.after;
        turn = subst (λ (r : Running). TurnOf defs r s.trace None s.after) (sym here) s.turn;
        then_ = refl;
        hears = λ a f hears for. absurd (none_heard a f hears);
        written = λ e i. absurd (subst (IsIn e) (keeps_none s.trace s.each) (in_of e (kept s.trace) i));
      }

      less : (w : ℕ) → w < suc k → (w < k) ⊎ (w ≡ k)
      less w low = below_or_last w k (omega (arith, low))

      found : (w : ℕ) → (w < k) ⊎ (w ≡ k) → (q : Pass) × Contains (h.passes ++ p ∷ []) q × (q.ws ≡ w)
      found w (inl low) =
          let it = h.each w low in
          (it.0, contains_of it.0 (h.passes ++ p ∷ []) (in_left it.0 h.passes (p ∷ []) (in_of it.0 h.passes it.1)), it.2)
      found w (inr same) =
          (p, contains_of p (h.passes ++ p ∷ []) (in_right p h.passes (p ∷ []) (inl refl)), sym same)

      none : (a : ℕ) (call : Sent) → IsIn (Does a (Event.Sends call)) (happened h.passes)
          ⊎ IsIn (Does a (Event.Sends call)) (happened (p ∷ [])) → ⊥
      none a call (inl i) = h.none_sent a call i
      none a call (inr i) =
          not_still (is_still_in s.trace (Event.Sends call) s.each
          (in_pass k a (Event.Sends call) s.trace (subst (IsIn (Does a (Event.Sends call))) (append-nil (happened_in p)) i)).1)

  so_many : (k : ℕ) → k ≤ node_count (net_of defs) → HavePassed defs reads night old k
  so_many zero low = record {
    passes = [];
    new = old;
    are = refl;
    inside = tt;
    others = λ w h. refl;
    each = λ w h. absurd (omega (arith, h));
    none_sent = λ a call i. i;
  }
  so_many (suc k) low = one_more k (omega (arith, low)) (so_many k (omega (arith, low)))

  pub still_round : AreNodesLinked defs old → (new : Nodes) × IsNodeRound defs reads night old new
  still_round linked =
      let all = so_many (node_count (net_of defs)) (omega arith) in (
        all.new,
        record {
          turning = all.passes;
          arriving = [];
          answering = [];
          turned = all.new;
          arrived = all.new;
          to_turned = all.are;
          to_arrived = refl;
          to_end = refl;
          linked = linked;
          each =
              all_append (IsInside reads) (all.passes ++ []) []
              (all_append (IsInside reads) all.passes [] all.inside tt) tt;
          turns = all.each;
          sent = λ a b f sent. absurd (all.none_sent a _ (in_of _ (happened all.passes) sent));
          answers = λ a b f sent.
              absurd (all.none_sent a _ (in_of _ (happened all.passes)
              (subst (λ (ps : List Pass). IsSentIn ps a b f) (append-nil all.passes) sent)));
        },
      )
