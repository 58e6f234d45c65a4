-- The present network, one entry further.
use Rattle.std.proofs.Common.{◌≡◌, ◌∷◌, [], ℕ, Bool, List, Option, Some, ap, cond, eqb, false, map, refl, sym, true}
use Rattle.std.proofs.Common.{◌∙◌, ◌+◌, ◌<◌, ◌≤◌, add-one, arith, drop, drop-cons, get_or, length, suc}
use Rattle.std.proofs.lemmas.List.{at_drop_all}
use Rattle.std.proofs.lemmas.Bool.Decides.{nat_tests}
use Rattle.std.proofs.lemmas.List.Sums.{fold-append}
use Rattle.std.proofs.lemmas.List.Elements.{filter_map-append}
use Rattle.std.specs.Prelude.{◌++◌, Err, IfOk, Ok, Result, filter, filter_map, fold, unwrap_or}
use Rattle.model.specs.Types.{Body, Entry, Events, Feed, Net, Orders}
use Rattle.model.specs.Equalities.{feed_eq}
use Rattle.model.specs.History.{View, list_of, view_with}
use Rattle.model.specs.Facts.{commands, obeyed_command}
use Rattle.model.specs.PresentNet.{net_by, present_net, switch_in, switched}
use Rattle.manager_switch.specs.Switches.{switches_in}

same_way : (f : Feed) → feed_eq f (Events 0) ≡ feed_eq (Events 0) f
same_way (Events w) = turned w 0
  where
    turned : (a b : ℕ) → eqb a b ≡ eqb b a
    turned a b = grind (arith, nat_tests)
same_way (Orders a w) = refl

-- no body switches nothing
no_switch : (net : Net) (ws : List ℕ) → fold switched net ws ≡ fold switched (fold switched net (switches_in [])) ws
unfolding commands
no_switch net ws = refl

more : (events : List Body) (b : Body) → switches_in (events ++ b ∷ []) ≡ switches_in events ++ switches_in (b ∷ [])
unfolding commands
more events b =
    ap (filter_map switch_in) (filter_map-append obeyed_command events (b ∷ []))
    ∙ filter_map-append switch_in (filter_map obeyed_command events) (filter_map obeyed_command (b ∷ []))

first : (b : Body) (bs : List Body) (net : Net)
    → fold switched net (switches_in (b ∷ bs))
    ≡ fold switched (fold switched net (switches_in (b ∷ []))) (switches_in bs)
unfolding commands
first b bs net =
    ap (fold switched net)
    (ap (filter_map switch_in) (filter_map-append obeyed_command (b ∷ []) bs)
    ∙ filter_map-append switch_in (filter_map obeyed_command (b ∷ [])) (filter_map obeyed_command bs))
    ∙ fold-append switched net (switches_in (b ∷ [])) (switches_in bs)

by_more : (net : Net) (events : List Body) (b : Body)
    → net_by net (events ++ b ∷ []) ≡ fold switched (net_by net events) (switches_in (b ∷ []))
unfolding net_by
by_more net events b =
    ap (fold switched net) (more events b)
    ∙ fold-append switched net (switches_in events) (switches_in (b ∷ []))

-- what an entry switches, the master's next network has switched
pub one_further : (net : Net) (V : View) (e : Entry)
    → present_net net (view_with V (Some e))
    ≡ fold switched (present_net net V) (switches_in (list_of (e ∷ []) (Events 0)))
unfolding view_with list_of
one_further net V e =
    ap (λ (b : Bool). net_by net (cond b (V (Events 0) ++ e.body ∷ []) (V (Events 0)))) (same_way e.feed)
    ∙ go (feed_eq (Events 0) e.feed)
  where
    go : (b : Bool)
        → net_by net (cond b (V (Events 0) ++ e.body ∷ []) (V (Events 0)))
        ≡ fold switched (net_by net (V (Events 0)))
        (switches_in (map (λ (x : Entry). x.body) (cond b (e ∷ []) [])))
    go true = by_more net (V (Events 0)) e.body
    go false = no_switch (net_by net (V (Events 0))) []

-- with the network that was kept
pub kept_further : (net : Net) (V : View) (e : Entry) (present : Net) → present ≡ present_net net V
    → fold switched present (switches_in (list_of (e ∷ []) (Events 0))) ≡ present_net net (view_with V (Some e))
kept_further net V e present is =
    ap (λ (u : Net). fold switched u (switches_in (list_of (e ∷ []) (Events 0)))) is ∙ sym (one_further net V e)

-- what is made of the network that was kept
pub followed : {E : Type 0} (present : Net) (e : Entry) (r : Result (Option Net) E)
    → IfOk r (λ after. unwrap_or after present ≡ fold switched present (switches_in (list_of (e ∷ []) (Events 0))))
    → IfOk r (λ after. (net : Net) (V : View) → present ≡ present_net net V
    → unwrap_or after present ≡ present_net net (view_with V (Some e)))
followed present e (Ok after) h = λ net V is. h ∙ kept_further net V e present is
followed present e (Err fault) h = tt

-- what the first entry switches is switched first
pub front : (net : Net) (e : Entry) (es : List Entry)
    → fold switched net (switches_in (list_of (e ∷ es) (Events 0)))
    ≡ fold switched (fold switched net (switches_in (list_of (e ∷ []) (Events 0))))
    (switches_in (list_of es (Events 0)))
unfolding list_of
front net e es = go (feed_eq (Events 0) e.feed)
  where
    go : (b : Bool)
        → fold switched net
        (switches_in (map (λ (x : Entry). x.body) (cond b (e ∷ filter (λ (x : Entry). feed_eq (Events 0) x.feed) es)
        (filter (λ (x : Entry). feed_eq (Events 0) x.feed) es))))
        ≡ fold switched (fold switched net (switches_in (map (λ (x : Entry). x.body) (cond b (e ∷ []) []))))
        (switches_in (map (λ (x : Entry). x.body) (filter (λ (x : Entry). feed_eq (Events 0) x.feed) es)))
    go true = first e.body (map (λ (x : Entry). x.body) (filter (λ (x : Entry). feed_eq (Events 0) x.feed) es)) net
    go false =
        no_switch net (switches_in (map (λ (x : Entry). x.body) (filter (λ (x : Entry). feed_eq (Events 0) x.feed) es)))

-- one entry on
pub one_on : (net next : Net) (kept : List Entry) (i : ℕ) (e : Entry) → i < length kept → e ≡ get_or kept i e
    → next ≡ fold switched net (switches_in (list_of (e ∷ []) (Events 0)))
    → fold switched net (switches_in (list_of (drop i kept) (Events 0)))
    ≡ fold switched next (switches_in (list_of (drop (i + 1) kept) (Events 0)))
one_on net next kept i e low is at =
    rw (add-one i, drop-cons kept i e low, ← is)
    (front net e (drop (suc i) kept)
    ∙ ap (λ (u : Net). fold switched u (switches_in (list_of (drop (suc i) kept) (Events 0)))) (sym at))

none_on : (net : Net) → fold switched net (switches_in (list_of [] (Events 0))) ≡ net
unfolding list_of commands
none_on net = refl

-- no entry is left
pub end_on : (net : Net) (kept : List Entry) (i : ℕ) → length kept ≤ i
    → fold switched net (switches_in (list_of (drop i kept) (Events 0))) ≡ net
end_on net kept i high =
    at_drop_all (λ (es : List Entry). fold switched net (switches_in (list_of es (Events 0)))) kept i high ∙ none_on net
