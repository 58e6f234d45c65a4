-- Whether any order was taken, one entry further.
use Rattle.std.proofs.Common.{[], ℕ, ◌&&◌, ◌++◌, ◌∙◌, ◌∷◌, ◌≡◌, ◌||◌, Bool, List, ap, cond, false, filter, map, refl, true}
use Rattle.std.proofs.lemmas.List.Folds.{list_any-append}
use Rattle.lemmas.proofs.Booleans.{neither}
use Rattle.model.specs.Types.{Body, Entry, Events, Feed, Orders}
use Rattle.model.specs.Equalities.{feed_eq}
use Rattle.model.specs.History.{list_of}
use Rattle.owner_fold.specs.Ordered.{has_orders, is_of_orders}
use Rattle.owner_fold.specs.Plans.{is_planning, is_planning_body}

or_last : (a b : Bool) → (a || (b || false)) ≡ (b || a)
or_last true true = refl
or_last true false = refl
or_last false true = refl
or_last false false = refl

pub orders_with : (kept : List Entry) (e : Entry) → has_orders (kept ++ e ∷ []) ≡ (is_of_orders e.feed || has_orders kept)
unfolding has_orders
orders_with kept e =
    list_any-append (λ (x : Entry). is_of_orders x.feed) kept (e ∷ [])
    ∙ or_last (has_orders kept) (is_of_orders e.feed)

-- a plan or an added stream is no order
no_order : (f : Feed) (b : Body) → (feed_eq (Events 0) f && is_planning_body b) ≡ true → is_of_orders f ≡ false
no_order (Events w) b h = refl
no_order (Orders a w) b h = cc

pub orders_planned : (kept : List Entry) (e : Entry) → is_planning e ≡ true
    → has_orders (kept ++ e ∷ []) ≡ has_orders kept
orders_planned kept e h =
    orders_with kept e ∙ ap (λ (b : Bool). b || has_orders kept) (no_order e.feed e.body h)

pub orders_of_none : false ≡ has_orders []
unfolding has_orders
orders_of_none = refl

not_there : (a w : ℕ) (f : Feed) → is_of_orders f ≡ false → feed_eq (Orders a w) f ≡ false
not_there a w (Events v) h = refl
not_there a w (Orders b v) h = cc

-- where there is none, no feed of orders has an entry
pub no_orders : (kept : List Entry) → has_orders kept ≡ false → (a w : ℕ) → list_of kept (Orders a w) ≡ []
unfolding has_orders list_of
no_orders [] h a w = refl
no_orders (e ∷ kept) h a w =
    let t : (is_of_orders e.feed ≡ false) × (has_orders kept ≡ false) =
    neither (is_of_orders e.feed) (has_orders kept) h in
    ap
    (λ (b : Bool).
    map (λ (x : Entry). x.body)
    (cond b (e ∷ filter (λ (x : Entry). feed_eq (Orders a w) x.feed) kept)
    (filter (λ (x : Entry). feed_eq (Orders a w) x.feed) kept)))
    (not_there a w e.feed t.0)
    ∙ no_orders kept t.1 a w
