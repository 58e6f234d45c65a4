-- What is kept, one entry further.
use Rattle.std.proofs.Common.{[], ℕ, ◌+◌, ◌++◌, ◌<◌, ◌∷◌, ◌≡◌, ◌^◌, List, Option, ap, arith, length, subst, sym}
use Rattle.model.specs.Types.{Entry}
use Rattle.model.specs.History.{list_of}
use Rattle.owner_rows.specs.Standing.{ArePlaces, addition_in}
use Rattle.owner_rows.specs.Told.{AreKept, AreTold}
use Rattle.owner_rows.specs.declared.places.Places.{Places}
use Rattle.owner_rows.specs.declared.told.Told.{Told}
use Rattle.owner_rows.proofs.Feeds.{short_with}

-- rows for which the memory was taken tell nothing
pub kept_prepared : (kept new : List Entry) (t u : Told) (p q : Places) → AreKept kept t p → new ≡ kept
    → ((kept : List Entry) → AreTold kept t → AreTold kept u)
    → ((kept : List Entry) → ArePlaces kept p → ArePlaces kept q) → AreKept new u q
kept_prepared kept new t u p q h e same still =
    subst (λ (l : List Entry). AreKept l u q) (sym e)
    (record { short = h.short; told = same kept h.told; places = still kept h.places })

pub kept_with : (kept view new : List Entry) (e : Entry) (place end : ℕ) (addition : Option (ℕ × (ℕ × ℕ)))
    (t u v : Told) (p q r : Places) → AreKept kept t p → kept ≡ view
    → place ≡ length (list_of view e.feed) + 1 → place < 2 ^ 32 → e.place ≡ place → length kept ≡ end
    → new ≡ kept ++ e ∷ []
    → ((kept : List Entry) → AreTold kept t → addition ≡ addition_in kept e)
    → ((kept : List Entry) → AreTold kept t → AreTold kept u)
    → ((kept : List Entry) → ArePlaces kept p → ArePlaces kept q)
    → ((kept : List Entry) → length (list_of kept e.feed) + 1 < 2 ^ 32 → AreTold kept u → AreTold (kept ++ e ∷ []) v)
    → ((kept : List Entry) → length kept ≡ end → e.place ≡ length (list_of kept e.feed) + 1
    → addition ≡ addition_in kept e → ArePlaces kept q → ArePlaces (kept ++ e ∷ []) r)
    → AreKept new v r
kept_with kept view new e place end addition t u v p q r h seen next fits one at_end grown key same still told stand =
    let n : length (list_of kept e.feed) ≡ length (list_of view e.feed) =
    ap (λ (l : List Entry). length (list_of l e.feed)) seen in
    let room : length (list_of kept e.feed) + 1 < 2 ^ 32 = omega (arith, n, next, fits) in
    let after : AreKept (kept ++ e ∷ []) v r =
    record {
      short = short_with kept e h.short room;
      told = told kept room (same kept h.told);
      places = stand kept at_end (omega (arith, n, next, one)) (key kept h.told) (still kept h.places);
    } in
    rw grown after
