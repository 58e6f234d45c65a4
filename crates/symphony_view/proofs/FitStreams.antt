-- The streams of fit entries are fit.
use Rattle.std.proofs.Common.{◌≡◌, ◌++◌, ◌∷◌, [], ℕ, Bool, List, Some, cond, false, true}
use Rattle.std.proofs.lemmas.List.Elements.{All-from_recursion, recursion_from_All}
use Rattle.std.specs.List.{AllByRecursion}
use Rattle.std.specs.Prelude.{◌==◌, filter, flat_map, map}
use Rattle.model_laws.proofs.Inside.{firsts_all}
use Rattle.lemmas.proofs.Lists.{all_append, flat_all}
use Rattle.model.specs.Types.{Added, Body, Clock, Declined, Ended, Entry, Events, Failed, Feed, Fulfilled, Launched}
use Rattle.model.specs.Types.{Late, Lost, NewPlan, Obeyed, Order, Released, Started, StreamDoc, StreamEnded, UntilPassed}
use Rattle.model.specs.Equalities.{feed_eq}
use Rattle.model.specs.History.{list_of, view_of}
use Rattle.model.specs.Catalogue.{catalogue, docs_in, stream}
use Rattle.model.specs.Fit.{AreFitEntries, IsFit, IsFitBody, IsFitStream}
use Rattle.model_laws.proofs.Options.{there_if}
use Rattle.dependencies.proofs.Lists.{all_found}

bodies_fit : (kept : List Entry) (f : Feed) → AllByRecursion IsFit kept → AllByRecursion IsFitBody (list_of kept f)
unfolding list_of
bodies_fit [] f h = tt
bodies_fit (e ∷ kept) f h = go (feed_eq f e.feed) (bodies_fit kept f h.1)
  where
    left : List Entry
    left = filter (λ (e : Entry). feed_eq f e.feed) kept

    go : (b : Bool) → AllByRecursion IsFitBody (map (λ (e : Entry). e.body) left)
        → AllByRecursion IsFitBody (map (λ (e : Entry). e.body) (cond b (e ∷ left) left))
    go true k = (h.0.bounded, k)
    go false k = k

docs_fit : (b : Body) → IsFitBody b → AllByRecursion IsFitStream (docs_in b)
docs_fit (NewPlan run cut carried docs) h = recursion_from_All IsFitStream docs h.2.1
docs_fit (Added a k doc) h = (h, tt)
docs_fit (Clock t) h = tt
docs_fit (Released s seen) h = tt
docs_fit (StreamEnded s seen) h = tt
docs_fit (UntilPassed o i then_) h = tt
docs_fit (Launched j n seen) h = tt
docs_fit (Started j n) h = tt
docs_fit (Failed j n) h = tt
docs_fit (Ended j n rc good) h = tt
docs_fit (Lost j n) h = tt
docs_fit (Fulfilled o i) h = tt
docs_fit (Obeyed a k c) h = tt
docs_fit (Declined a k why) h = tt
docs_fit (Order c) h = tt
docs_fit (Late o i) h = tt

each_docs_fit : (bs : List Body) → AllByRecursion IsFitBody bs
    → AllByRecursion (λ (b : Body). AllByRecursion IsFitStream (docs_in b)) bs
each_docs_fit [] h = tt
each_docs_fit (b ∷ bs) h = (docs_fit b h.0, each_docs_fit bs h.1)

pub stream_fit : (kept : List Entry) (s : ℕ) (d : StreamDoc) → AreFitEntries kept
    → stream (view_of kept) s ≡ Some d → IsFitStream d
unfolding stream catalogue
stream_fit kept s d h e =
    (there_if (λ (d : StreamDoc). IsFitStream d × ((d.no == s) ≡ true)) (stream (view_of kept) s) d
    (all_found IsFitStream (λ (d : StreamDoc). d.no == s) (catalogue (view_of kept))
    (firsts_all IsFitStream (λ (d : StreamDoc). d.no) [] (flat_map docs_in (list_of kept (Events 0)))
    (flat_all IsFitStream docs_in (list_of kept (Events 0))
    (each_docs_fit (list_of kept (Events 0)) (bodies_fit kept (Events 0) (recursion_from_All IsFit kept h)))))) e).0

-- fit entries and one more
pub one_more_fit : (kept : List Entry) (e : Entry) → AreFitEntries kept → IsFit e → AreFitEntries (kept ++ e ∷ [])
one_more_fit kept e h k =
    All-from_recursion IsFit (kept ++ e ∷ [])
    (all_append IsFit kept (e ∷ []) (recursion_from_All IsFit kept h) (k, tt))
