-- Of two reruns of a job that were advised the earlier is never obeyed.
use Rattle.std.proofs.Common.{[], ◌+◌, ◌++◌, ◌≡◌, ◌≢◌, ◌≤◌, ◌∙◌, ◌∷◌, ℕ, Bool, List, None, Option, Some, ap, append_assoc, arith, false, length, length-append, refl, subst, sym, true}
use Rattle.std.proofs.lemmas.Bool.{eq-eqb, ltb-false}
use Rattle.std.proofs.lemmas.List.Elements.{All-from_recursion, filter_map-append}
use Rattle.std.proofs.lemmas.List.Sums.{sum_by-append}
use Rattle.std.specs.List.{All, AllByRecursion}
use Rattle.std.specs.Prelude.{filter, if◌then◌else◌, nat_lt, option_and_then}
use Rattle.lemmas.proofs.Lists.{all_append}
use Rattle.model.specs.Types.{Body, Cmd, Entry, Events, Obeyed, Orders, Rerun}
use Rattle.model.specs.Equalities.{feed_eq}
use Rattle.model.specs.Facts.{answered, commands, reruns}
use Rattle.model.specs.History.{View, list_of}
use Rattle.model.specs.OwnMembers.{own_job_numbers}
use Rattle.model.specs.Words.{least}
use Rattle.model_laws.proofs.Feeds.{list_of_elsewhere, list_of_here}
use Rattle.recovery_watch.specs.Advice.{advice, advised_at, needs_advice}
use Rattle.agent_core.specs.Nodes.{NodeState}
use Rattle.node_inputs.specs.Traces.{Event, Trace, kept}
use Rattle.node_inputs.specs.declared.ends.NodeEnd.{NodeEnd}
use Rattle.run_laws.specs.Held.{held_after}
use Rattle.run_laws.proofs.Marks.{Marks}
use Rattle.run_laws.proofs.Keeping.{OfKept}
use Rattle.run_laws.proofs.Made.{HasNextPlace, IsNextAnswer}
use Rattle.run_laws.proofs.Growing.{answered_grows, held_more, kept_all, list_all}

reruns-append : (j : ℕ) (xs ys : List Body) → reruns j (xs ++ ys) ≡ reruns j xs + reruns j ys
unfolding reruns commands
reruns-append j xs ys = rw filter_map-append (sum_by-append _ (commands xs) (commands ys))

rerun_counts : (j a k : ℕ) → reruns j (Obeyed a k (Rerun j) ∷ []) ≡ 1
unfolding reruns commands
rerun_counts j a k = rw (eq-eqb j j refl) refl

-- where no rerun was obeyed none stands
none_obeyed : (j a k : ℕ) (bs : List Body) → reruns j bs ≡ 0 → AllByRecursion (λ b. b ≢ Obeyed a k (Rerun j)) bs
none_obeyed j a k [] h = tt
none_obeyed j a k (b ∷ bs) h =
    let sum : reruns j (b ∷ []) + reruns j bs ≡ 0 = sym (reruns-append j (b ∷ []) bs) ∙ h in
    (other sum, none_obeyed j a k bs (omega (arith, sum)))
  where
    other : reruns j (b ∷ []) + reruns j bs ≡ 0 → b ≢ Obeyed a k (Rerun j)
    other sum same =
        let one : reruns j (b ∷ []) ≡ 1 = ap (λ (c : Body). reruns j (c ∷ [])) same ∙ rerun_counts j a k in
        omega (arith, sum, one)

-- where something is advised each order of the node to itself was answered
all_answered : (V : View) (w : ℕ) (c : Cmd) → advice V w ≡ Some c → length (V (Orders w w)) ≤ answered w (V (Events w))
unfolding advice
all_answered V w c h = go (nat_lt (answered w (V (Events w))) (length (V (Orders w w)))) refl h
  where
    go : (b : Bool) → nat_lt (answered w (V (Events w))) (length (V (Orders w w))) ≡ b → advice V w ≡ Some c
        → length (V (Orders w w)) ≤ answered w (V (Events w))
    go false is k = ltb-false (answered w (V (Events w))) (length (V (Orders w w))) is
    go true is k = absurd (clash (subst (λ (b : Bool). (if b then None else option_and_then (advised_at V) (least (filter (needs_advice V w) (own_job_numbers V w)))) ≡ Some c) is k))
      where
        clash : None ≡ Some c → ⊥
        clash q = cc

module _ (node new : NodeState) (trace : Trace) (end : Option NodeEnd) (places : Marks (OfKept HasNextPlace) node trace end new)
    (answers : Marks (OfKept IsNextAnswer) node trace end new) (front middle back : Trace) (e d : Entry) (j : ℕ)
    (split : trace ≡ front ++ Event.Keeps e ∷ (middle ++ Event.Keeps d ∷ back)) (own : e.feed ≡ Orders node.me node.me)
    (other : d.feed ≡ Orders node.me node.me) (c : Cmd)
    (due : advice (held_after node (front ++ Event.Keeps e ∷ middle)) node.me ≡ Some c)
    (none : reruns j (held_after node (front ++ Event.Keeps e ∷ middle) (Events node.me)) ≡ 0) where
  till_then : Trace
  till_then = front ++ Event.Keeps e ∷ middle

  whole : trace ≡ till_then ++ Event.Keeps d ∷ back
  unfolding till_then
  whole = split ∙ sym (append_assoc front (Event.Keeps e ∷ middle) (Event.Keeps d ∷ back))

  -- the order is in its feed by then, at its place
  place_is : e.place ≤ length (held_after node till_then (Orders node.me node.me))
  unfolding till_then
  place_is =
      let at : e.place ≡ 1 + length (held_after node front (Orders node.me node.me)) =
      places.each front (Event.Keeps e) (middle ++ Event.Keeps d ∷ back) split own in
      let it : list_of (e ∷ []) (Orders node.me node.me) ≡ e.body ∷ [] = list_of_here e (Orders node.me node.me) its_feed in
      rw (held_more node front middle e (Orders node.me node.me), length-append, length-append, it) (omega (arith, at))
    where
      its_feed : feed_eq (Orders node.me node.me) e.feed ≡ true
      its_feed = rw (own, eq-eqb node.me node.me refl) refl

  answered_by_then : e.place ≤ answered node.me (held_after node till_then (Events node.me))
  unfolding till_then
  answered_by_then = omega (arith, place_is, all_answered (held_after node till_then) node.me c due)

  -- a later answer is to a later order
  later_answer : (more rest : Trace) (x : Entry) → back ≡ more ++ Event.Keeps x ∷ rest → Events node.me ≡ x.feed
      → x.body ≢ Obeyed node.me e.place (Rerun j)
  later_answer more rest x there mine body =
      let at : trace ≡ (till_then ++ Event.Keeps d ∷ more) ++ Event.Keeps x ∷ rest =
      whole ∙ ap (λ (t : Trace). till_then ++ Event.Keeps d ∷ t) there
      ∙ sym (append_assoc till_then (Event.Keeps d ∷ more) (Event.Keeps x ∷ rest)) in
      let next : e.place ≡ 1 + answered node.me (held_after node (till_then ++ Event.Keeps d ∷ more) (Events node.me)) =
      answers.each (till_then ++ Event.Keeps d ∷ more) (Event.Keeps x) rest at node.me e.place (Rerun j) (sym mine) body in
      omega (arith, next, answered_by_then, answered_grows node till_then more d (Events node.me) node.me)

  earlier : AllByRecursion (λ b. b ≢ Obeyed node.me e.place (Rerun j)) (held_after node till_then (Events node.me))
  unfolding till_then
  earlier = none_obeyed j node.me e.place (held_after node (front ++ Event.Keeps e ∷ middle) (Events node.me)) none

  no_event : list_of (d ∷ []) (Events node.me) ≡ []
  no_event = list_of_elsewhere d (Events node.me) (rw other refl)

  pub never_obeyed : All (λ b. b ≢ Obeyed node.me e.place (Rerun j)) (held_after node trace (Events node.me))
  never_obeyed =
      let P : Body → Type 0 = λ b. b ≢ Obeyed node.me e.place (Rerun j) in
      let is : held_after node trace (Events node.me)
      ≡ held_after node till_then (Events node.me) ++ (list_of (d ∷ []) (Events node.me) ++ list_of (kept back) (Events node.me)) =
      ap (λ (t : Trace). held_after node t (Events node.me)) whole ∙ held_more node till_then back d (Events node.me) in
      let later : AllByRecursion P (list_of (kept back) (Events node.me)) =
      list_all P (kept back) (Events node.me)
      (kept_all (λ x. Events node.me ≡ x.feed → P x.body) back (λ more rest x there. later_answer more rest x there)) in
      All-from_recursion P (held_after node trace (Events node.me))
      (subst (AllByRecursion P) (sym is)
      (all_append P (held_after node till_then (Events node.me)) _ earlier
      (subst (λ (l : List Body). AllByRecursion P (l ++ list_of (kept back) (Events node.me))) (sym no_event) later)))
