-- Lists of one feed, one entry further.
use Rattle.std.proofs.Common.{[], ◌+◌, ◌++◌, ◌<◌, ◌∙◌, ◌∷◌, ◌≡◌, ◌^◌, ◌⊎◌, List, ap, arith, false, inl, inr, length}
use Rattle.std.proofs.Common.{length-append, refl, true}
use Rattle.owner_rows.specs.Told.{AreShort}
use Rattle.std.proofs.lemmas.Bool.Decides.{eqb_tells}
use Rattle.std.proofs.lemmas.List.{append-nil}
use Rattle.model_laws.proofs.Feeds.{list_of-append, list_of_elsewhere, list_of_here}
use Rattle.model.specs.Types.{Body, Entry, Events, Feed, Orders}
use Rattle.model.specs.Equalities.{feed_eq}
use Rattle.model.specs.History.{list_of}

-- an entry of a feed is at the end of its list
pub list_with : (kept : List Entry) (e : Entry) (f : Feed) → feed_eq f e.feed ≡ true
    → list_of (kept ++ e ∷ []) f ≡ list_of kept f ++ e.body ∷ []
list_with kept e f same =
    list_of-append kept (e ∷ []) f ∙ ap (λ (l : List Body). list_of kept f ++ l) (list_of_here e f same)

-- and in no other
pub list_without : (kept : List Entry) (e : Entry) (f : Feed) → feed_eq f e.feed ≡ false
    → list_of (kept ++ e ∷ []) f ≡ list_of kept f
list_without kept e f other =
    list_of-append kept (e ∷ []) f
    ∙ ap (λ (l : List Body). list_of kept f ++ l) (list_of_elsewhere e f other) ∙ append-nil (list_of kept f)

-- two feeds are one or not
pub feed_cases : (f g : Feed) → ((feed_eq f g ≡ true) × (f ≡ g)) ⊎ (feed_eq f g ≡ false)
feed_cases (Events w) (Events v) = elim (eqb_tells w v) [ inl e ↦ inl (e.0, ap Events e.1) | inr e ↦ inr e.0 ]
feed_cases (Orders a w) (Orders b v) = grind (arith, eqb_tells a b, eqb_tells w v)
feed_cases (Events w) (Orders b v) = inr refl
feed_cases (Orders a w) (Events v) = inr refl

-- no feed is too long with the entry, where its own is not
pub short_with : (kept : List Entry) (e : Entry) → AreShort kept → length (list_of kept e.feed) + 1 < 2 ^ 32
    → AreShort (kept ++ e ∷ [])
short_with kept e short room f =
    elim (feed_cases f e.feed) [
      | inl c ↦ (
          let l : length (list_of kept f)
          ≡ length (list_of kept e.feed) = ap (λ (g : Feed). length (list_of kept g)) c.1 in
          rw (list_with kept e f c.0, length-append (list_of kept f) (e.body ∷ [])) (omega (arith, l, room)))
      | inr c ↦ rw (list_without kept e f c) (short f)
    ]
