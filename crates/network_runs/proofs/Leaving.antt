-- What the end of a run leaves on a disk is what a night's stop leaves.
use Rattle.std.proofs.Common.{[], ◌++◌, ◌<◌, ◌≡◌, ◌≤◌, ◌∙◌, ◌∷◌, ◌⊎◌, ℕ, List, None, Option, Some, ap, arith, false, inl, inr, length-append, refl, subst, suc, sym, true, zero}
use Rattle.std.proofs.lemmas.Bool.Decides.{leb_tells}
use Rattle.std.proofs.lemmas.List.{append-nil, map-append}
use Rattle.std.specs.Option.{option_to_list}
use Rattle.std.specs.Prelude.{length, nat_le, take}
use Rattle.lemmas.proofs.Lists.{take_whole}
use Rattle.composer_parser.specs.declared.Defs.{Defs}
use Rattle.model.specs.Types.{Entry}
use Rattle.model.specs.Spelling.{entry_bytes}
use Rattle.outside.specs.Kept.{Bodies}
use Rattle.workload_defs.specs.Nets.{net_of}
use Rattle.agent_core.specs.Nodes.{NodeState}
use Rattle.node_inputs.specs.Keeping.{IsLeftAtEnd, bodies}
use Rattle.node_inputs.specs.Traces.{Event, Trace, kept, refusals, tried}
use Rattle.node_inputs.specs.declared.ends.NodeEnd.{NodeEnd}
use Rattle.node_loop.specs.Runs.{Run, Running, running}
use Rattle.network_runs.specs.Nights.{IsBegun, IsLeftAtStop, IsLife}
use Rattle.network_runs.specs.Leaving.{EndsAs}

-- a refusal is the last event
abbrev pub IsLastRefusal : Trace → Type 0
IsLastRefusal trace = (front back : Trace) (e : Entry) (why : NodeEnd) → trace ≡ front ++ Event.Refuses e why ∷ back → back ≡ []

further : (event : Event) (trace : Trace) → IsLastRefusal (event ∷ trace) → IsLastRefusal trace
further event trace h = λ front back e why split. h (event ∷ front) back e why (ap (λ (t : Trace). event ∷ t) split)

-- all that was tried was kept, or the last was refused
data Tried (trace : Trace) : Type 0 where
  all_kept : tried trace ≡ kept trace → Tried trace
  one_refused : (e : Entry) (why : NodeEnd) → tried trace ≡ kept trace ++ e ∷ [] → refusals trace ≡ (e, why) ∷ [] → Tried trace

one_more : (e : Entry) (trace : Trace) → Tried trace → Tried (Event.Keeps e ∷ trace)
one_more e trace (Tried.all_kept same) = Tried.all_kept (ap (λ (l : List Entry). e ∷ l) same)
one_more e trace (Tried.one_refused d why same refused) = Tried.one_refused d why (ap (λ (l : List Entry). e ∷ l) same) refused

refused_last : (e : Entry) (why : NodeEnd) (rest : Trace) → rest ≡ [] → Tried (Event.Refuses e why ∷ rest)
refused_last e why rest none =
    subst (λ (t : Trace). Tried (Event.Refuses e why ∷ t)) (sym none) (Tried.one_refused e why refl refl)

none_more : (event : Event) (trace : Trace) → tried (event ∷ trace) ≡ tried trace → kept (event ∷ trace) ≡ kept trace
    → refusals (event ∷ trace) ≡ refusals trace → Tried trace → Tried (event ∷ trace)
none_more event trace p q r (Tried.all_kept same) = Tried.all_kept (p ∙ same ∙ sym q)
none_more event trace p q r (Tried.one_refused e why same refused) =
    Tried.one_refused e why (p ∙ same ∙ ap (λ (l : List Entry). l ++ e ∷ []) (sym q)) (r ∙ refused)

tried_of : (trace : Trace) → IsLastRefusal trace → Tried trace
tried_of [] h = Tried.all_kept refl
tried_of (Event.Keeps e ∷ trace) h = one_more e trace (tried_of trace (further (Event.Keeps e) trace h))
tried_of (Event.Refuses e why ∷ trace) h = refused_last e why trace (h [] trace e why refl)
tried_of (Event.Reads t ∷ trace) h = none_more (Event.Reads t) trace refl refl refl (tried_of trace (further (Event.Reads t) trace h))
tried_of (Event.Comes a ∷ trace) h = none_more (Event.Comes a) trace refl refl refl (tried_of trace (further (Event.Comes a) trace h))
tried_of (Event.Reports r ∷ trace) h = none_more (Event.Reports r) trace refl refl refl (tried_of trace (further (Event.Reports r) trace h))
tried_of (Event.Looks p a ∷ trace) h = none_more (Event.Looks p a) trace refl refl refl (tried_of trace (further (Event.Looks p a) trace h))
tried_of (Event.Starts c ∷ trace) h = none_more (Event.Starts c) trace refl refl refl (tried_of trace (further (Event.Starts c) trace h))
tried_of (Event.Kills j n ∷ trace) h = none_more (Event.Kills j n) trace refl refl refl (tried_of trace (further (Event.Kills j n) trace h))
tried_of (Event.Sends c ∷ trace) h = none_more (Event.Sends c) trace refl refl refl (tried_of trace (further (Event.Sends c) trace h))
tried_of (Event.Replies c ∷ trace) h = none_more (Event.Replies c) trace refl refl refl (tried_of trace (further (Event.Replies c) trace h))
tried_of (Event.Asks c ∷ trace) h = none_more (Event.Asks c) trace refl refl refl (tried_of trace (further (Event.Asks c) trace h))

take_front : (xs ys : List Entry) (n : ℕ) → n ≡ length xs → take n (xs ++ ys) ≡ xs
take_front [] ys zero e = refl
take_front [] ys (suc n) e = absurd (omega (arith, e))
take_front (x ∷ xs) ys zero e = absurd (omega (arith, e))
take_front (x ∷ xs) ys (suc n) e = ap (λ (l : List Entry). x ∷ l) (take_front xs ys n (omega (arith, e)))

bodies-append : (xs ys : List Entry) → bodies (xs ++ ys) ≡ bodies xs ++ bodies ys
bodies-append xs ys = map-append entry_bytes xs ys

module _ (defs : Defs) (w turns : ℕ) (entries : List Entry) (start : NodeState) (trace : Trace) (why : NodeEnd) (after : Running)
    (begun : IsBegun (net_of defs) w entries start) (runs : Run defs turns (running start) trace (Some why) after) (left : Bodies) where
  life : (in_hand : Option Entry) → IsLeftAtStop trace [] in_hand → IsLife defs w entries trace in_hand
  life in_hand is = record {
    start = start;
    begun = begun;
    turns = turns;
    rest = [];
    end = Some why;
    new = after;
    runs = subst (λ (t : Trace). Run defs turns (running start) t (Some why) after) (sym (append-nil trace)) runs;
    left_ = is;
  }

  ends : (in_hand : Option Entry) → IsLeftAtStop trace [] in_hand → (some : List Entry) → some ≡ kept trace ++ option_to_list in_hand
      → left ≡ bodies entries ++ bodies some → EndsAs defs w entries trace left
  ends in_hand is some same leaves = record {
    in_hand = in_hand;
    life = life in_hand is;
    leaves = leaves ∙ ap (λ (l : List Entry). bodies entries ++ bodies l) same ∙ sym (bodies-append entries (kept trace ++ option_to_list in_hand));
  }

  pub run_ends : IsLastRefusal trace → IsLeftAtEnd trace (Some (bodies entries)) left → EndsAs defs w entries trace left
  run_ends last h = go (tried_of trace last)
    where
      n : ℕ
      n = h.0

      go : Tried trace → EndsAs defs w entries trace left
      go (Tried.all_kept same) =
          ends None tt (take n (tried trace))
          (ap (take n) same ∙ take_whole (kept trace) n h.1 ∙ sym (append-nil (kept trace))) h.3
      go (Tried.one_refused e other same refused) = at (leb_tells n (length (kept trace)))
        where
          at : ((nat_le n (length (kept trace)) ≡ true) × (n ≤ length (kept trace)))
              ⊎ ((nat_le n (length (kept trace)) ≡ false) × (length (kept trace) < n)) → EndsAs defs w entries trace left
          at (inl t) =
              ends None tt (take n (tried trace))
              (ap (take n) same ∙ take_front (kept trace) (e ∷ []) n (omega (arith, t.1, h.1)) ∙ sym (append-nil (kept trace))) h.3
          at (inr t) =
              ends (Some e) (inr (other, refused)) (take n (tried trace))
              (ap (take n) same ∙ take_whole (kept trace ++ e ∷ []) n (rw length-append (omega (arith, t.1)))) h.3
