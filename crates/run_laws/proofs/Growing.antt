-- What a node holds grows by what it keeps.
use Rattle.std.proofs.Common.{[], ◌++◌, ◌≡◌, ◌≤◌, ◌∙◌, ◌∷◌, ℕ, List, ap, append_assoc, arith, inl, inr, refl, sym}
use Rattle.std.specs.List.{AllByRecursion}
use Rattle.model_laws.proofs.Answered.{answered-append}
use Rattle.node_inputs.proofs.Fronts.{kept-append}
use Rattle.model.specs.Types.{Body, Entry, Feed}
use Rattle.model.specs.Facts.{answered}
use Rattle.model.specs.History.{list_of}
use Rattle.model_laws.proofs.Feeds.{feed_cases, list_of-append}
use Rattle.agent_core.specs.Nodes.{NodeState}
use Rattle.node_inputs.specs.Traces.{Event, Trace, kept}
use Rattle.run_laws.specs.Held.{held_after}

-- one more entry, and what was kept behind it
pub held_more : (node : NodeState) (front more : Trace) (e : Entry) (f : Feed)
    → held_after node (front ++ Event.Keeps e ∷ more) f ≡ held_after node front f ++ (list_of (e ∷ []) f ++ list_of (kept more) f)
held_more node front more e f =
    ap (λ (l : List Entry). list_of (node.kept ++ l) f) (kept-append front (Event.Keeps e ∷ more))
    ∙ ap (λ (l : List Entry). list_of l f) (sym (append_assoc node.kept (kept front) (e ∷ kept more)))
    ∙ list_of-append (node.kept ++ kept front) (e ∷ kept more) f
    ∙ ap (λ (l : List Body). held_after node front f ++ l) (list_of-append (e ∷ []) (kept more) f)

pub answered_grows : (node : NodeState) (front more : Trace) (e : Entry) (f : Feed) (a : ℕ)
    → answered a (held_after node front f) ≤ answered a (held_after node (front ++ Event.Keeps e ∷ more) f)
answered_grows node front more e f a =
    rw (held_more node front more e f, answered-append) (omega arith)

-- what holds of each entry that is kept, by its place in the trace
pub kept_all : (P : Entry → Type 0) (trace : Trace)
    → ((front back : Trace) (e : Entry) → trace ≡ front ++ Event.Keeps e ∷ back → P e) → AllByRecursion P (kept trace)
kept_all P [] h = tt
kept_all P (Event.Keeps e ∷ rest) h =
    (h [] rest e refl, kept_all P rest (λ front back d split. h (Event.Keeps e ∷ front) back d (ap (λ (t : Trace). Event.Keeps e ∷ t) split)))
kept_all P (event ∷ rest) h =
    kept_all P rest (λ front back d split. h (event ∷ front) back d (ap (λ (t : Trace). event ∷ t) split))

-- of one feed
pub list_all : (P : Body → Type 0) (K : List Entry) (f : Feed) → AllByRecursion (λ e. f ≡ e.feed → P e.body) K
    → AllByRecursion P (list_of K f)
unfolding list_of
list_all P [] f h = tt
list_all P (e ∷ K) f h =
    let later : AllByRecursion P (list_of K f) = list_all P K f h.1 in
    elim (feed_cases f e.feed) [ inl c ↦ rw c.0 (h.0 c.1, later) | inr c ↦ rw c.0 later ]
