-- Where workstations stand among the rows of a record: the master first, and no second one.
use Rattle.std.proofs.Common.{◌≡◌, ◌⊎◌, ℕ, Bool, true, false, ◌||◌, List, [], ◌∷◌, ◌++◌, Option, Some, None, inl, inr, refl, ap, sym, subst, ◌∙◌}
use Rattle.std.specs.Prelude.{filter_map}
use Rattle.std.specs.List.{cons_option, list_any}
use Rattle.lemmas.proofs.Booleans.{neither}
use Rattle.lemmas.proofs.Lists.{no_middle}
use Rattle.record_rows.specs.declared.rows.Row.{Row}
use Rattle.record_rows.specs.declared.rows.Row.TheVariants as row
use Rattle.record_faults.specs.declared.places.Place.{Place}
use Rattle.record_faults.specs.declared.places.Place.TheVariants as place
use Rattle.record_faults.specs.declared.places.Fate.{Fate}
use Rattle.record_faults.specs.declared.places.Fate.TheVariants as fate
use Rattle.record_faults.specs.Places.{fate_of, settled, row_at, below_row, placed_from, may_stand}
use Rattle.record_faults.specs.Known.{station_name, is_steps}
use Rattle.record_script.specs.Scripts.{is_definitions}

-- a place above which there is no workstation, and no definitions
abbrev pub early : Place → Bool
early place.Nothing = true
early place.Header = true
early p = false

-- a place above which there is no workstation
abbrev pub lean : Place → Bool
lean place.Nothing = true
lean place.Definitions = true
lean place.Header = true
lean place.DaySteps = true
lean p = false

-- Rows that stand.

master_place : (p : Place) (m : List ℕ) → fate_of p (row.Master m) ≡ fate.Stands → early p ≡ true
unfolding fate_of may_stand
master_place place.Header m is = refl
master_place p m is = absurd (cc)

stands_back : (p : Place) (r : Row) → fate_of p r ≡ fate.Stands → early (below_row p r) ≡ true
    → (early p ≡ true) × (station_name r ≡ None)
unfolding fate_of may_stand below_row
stands_back place.Nothing row.Network is e = (refl, refl)
stands_back place.Nothing r is e = absurd (cc)
stands_back place.Header (row.Master m) is e = absurd (let wrong : false ≡ true = e in cc)
stands_back place.Header r is e = absurd (cc)
stands_back place.Definitions row.Network is e = absurd (cc)
stands_back place.Definitions r is e = absurd (let wrong : false ≡ true = e in cc)
stands_back place.Network row.Network is e = absurd (cc)
stands_back place.Network r is e = absurd (let wrong : false ≡ true = e in cc)
stands_back place.Plan row.Network is e = absurd (cc)
stands_back place.Plan r is e = absurd (let wrong : false ≡ true = e in cc)
stands_back place.Stream row.Network is e = absurd (cc)
stands_back place.Stream r is e = absurd (let wrong : false ≡ true = e in cc)
stands_back (place.Job last) row.Network is e = absurd (cc)
stands_back (place.Job last) r is e = absurd (let wrong : false ≡ true = e in cc)
stands_back place.Steps row.Network is e = absurd (cc)
stands_back place.Steps r is e = absurd (let wrong : false ≡ true = e in cc)
stands_back place.DaySteps row.Network is e = absurd (cc)
stands_back place.DaySteps r is e = absurd (let wrong : false ≡ true = e in cc)

stands_on : (p : Place) (r : Row) → lean p ≡ true → fate_of p r ≡ fate.Stands
    → ((lean (below_row p r) ≡ true) × (station_name r ≡ None)) ⊎ ((m : List ℕ) × (r ≡ row.Master m))
unfolding fate_of may_stand below_row
stands_on place.Header (row.Master m) l is = inr (m, refl)
stands_on place.Nothing row.Network l is = inl (refl, refl)
stands_on place.Nothing row.Definitions l is = inl (refl, refl)
stands_on place.Definitions row.Steps l is = inl (refl, refl)
stands_on place.DaySteps (row.Step s) l is = inl (refl, refl)
stands_on p r l is = absurd (cc)

stands_early : (p : Place) (r : Row) → early p ≡ true → fate_of p r ≡ fate.Stands → station_name r ≡ None
    → is_definitions r ≡ false → (early (below_row p r) ≡ true) × (is_steps r ≡ false)
unfolding fate_of may_stand below_row
stands_early place.Nothing row.Network l is none d = (refl, refl)
stands_early place.Header (row.Master m) l is none d =
    absurd (let wrong : Some m ≡ None = none in cc)
stands_early p r l is none d = absurd (cc)

-- Rows as they are where they stand.

same_below : (p : Place) → (below_row p row.Skipped ≡ p) × (below_row p row.NoForm ≡ p)
unfolding below_row
same_below p = (refl, refl)

row_back : (p : Place) (r : Row) (f : Fate) → fate_of p r ≡ f → early (below_row p (settled f r)) ≡ true
    → (early p ≡ true) × (station_name (settled f r) ≡ None)
row_back p r fate.Skipped is e = (ap early (sym (same_below p).0) ∙ e, refl)
row_back p r fate.NoForm is e = (ap early (sym (same_below p).1) ∙ e, refl)
row_back p r fate.Stands is e = stands_back p r is e

row_on : (p : Place) (r : Row) (f : Fate) → lean p ≡ true → fate_of p r ≡ f
    → ((lean (below_row p (settled f r)) ≡ true) × (station_name (settled f r) ≡ None))
    ⊎ ((m : List ℕ) × (settled f r ≡ row.Master m))
row_on p r fate.Skipped l is = inl (ap lean (same_below p).0 ∙ l, refl)
row_on p r fate.NoForm l is = inl (ap lean (same_below p).1 ∙ l, refl)
row_on p r fate.Stands l is = stands_on p r l is

row_early : (p : Place) (r : Row) (f : Fate) → early p ≡ true → fate_of p r ≡ f → station_name (settled f r) ≡ None
    → is_definitions (settled f r) ≡ false
    → (early (below_row p (settled f r)) ≡ true) × (is_steps (settled f r) ≡ false)
row_early p r fate.Skipped l is none d = (ap early (same_below p).0 ∙ l, refl)
row_early p r fate.NoForm l is none d = (ap early (same_below p).1 ∙ l, refl)
row_early p r fate.Stands l is none d = stands_early p r l is none d

row_master : (p : Place) (r : Row) (m : List ℕ) (f : Fate) → fate_of p r ≡ f → settled f r ≡ row.Master m → early p ≡ true
row_master p r m fate.Skipped is e = absurd (cc)
row_master p r m fate.NoForm is e = absurd (cc)
row_master p r m fate.Stands is e = master_place p m (subst (λ x. fate_of p x ≡ fate.Stands) e is)

-- Lists of rows.

heads : {A : Type 0} (a b : A) (xs ys : List A) → a ∷ xs ≡ b ∷ ys → a ≡ b
heads a b xs ys e = cc

tails : {A : Type 0} (a b : A) (xs ys : List A) → a ∷ xs ≡ b ∷ ys → xs ≡ ys
tails a b xs ys e = cc

none_more : (o : Option (List ℕ)) (xs : List (List ℕ)) → o ≡ None → xs ≡ [] → cons_option o xs ≡ []
none_more o xs e h = ap (λ q. cons_option q xs) e ∙ h

none_less : (o : Option (List ℕ)) (xs : List (List ℕ)) → cons_option o xs ≡ [] → (o ≡ None) × (xs ≡ [])
none_less None xs e = (refl, e)
none_less (Some a) xs e = absurd (cc)

-- no workstation stands above the master
master_from : (p : Place) (raw above below : List Row) (m : List ℕ)
    → placed_from p raw ≡ above ++ row.Master m ∷ below → (early p ≡ true) × (filter_map station_name above ≡ [])
unfolding placed_from
master_from p [] above below m e = absurd (no_middle above below (row.Master m) e)
master_from p (r ∷ raw) [] below m e = (
  row_master p r m (fate_of p r) refl (heads (row_at p r) (row.Master m) (placed_from (below_row p (row_at p r)) raw) below e),
  refl,
)
master_from p (r ∷ raw) (y ∷ above) below m e =
    let here : row_at p r ≡ y = heads (row_at p r) y (placed_from (below_row p (row_at p r)) raw) (above ++ row.Master m ∷ below) e in
    let rest = tails (row_at p r) y (placed_from (below_row p (row_at p r)) raw) (above ++ row.Master m ∷ below) e in
    let more = master_from (below_row p (row_at p r)) raw above below m rest in
    let back = row_back p r (fate_of p r) refl more.0 in
    (back.0, none_more (station_name y) (filter_map station_name above) (ap station_name (sym here) ∙ back.1) more.1)

pub above_master : (raw above below : List Row) (m : List ℕ)
    → placed_from place.Nothing raw ≡ above ++ row.Master m ∷ below → filter_map station_name above ≡ []
above_master raw above below m e = (master_from place.Nothing raw above below m e).1

-- the first workstation is the master
first_from : (p : Place) (raw above below : List Row) (here : Row) (n : List ℕ) → lean p ≡ true
    → placed_from p raw ≡ above ++ here ∷ below → filter_map station_name above ≡ [] → station_name here ≡ Some n
    → here ≡ row.Master n
unfolding placed_from
first_from p [] above below here n l e none is = absurd (no_middle above below here e)
first_from p (r ∷ raw) [] below here n l e none is =
    let same : row_at p r ≡ here = heads (row_at p r) here (placed_from (below_row p (row_at p r)) raw) below e in
    go same (row_on p r (fate_of p r) l refl)
  where
    go : row_at p r ≡ here
        → ((lean (below_row p (row_at p r)) ≡ true) × (station_name (row_at p r) ≡ None))
        ⊎ ((m : List ℕ) × (row_at p r ≡ row.Master m)) → here ≡ row.Master n
    go same (inl s) = absurd (let other : station_name here ≡ None = ap station_name (sym same) ∙ s.1 in cc)
    go same (inr s) =
        let master : here ≡ row.Master s.0 = sym same ∙ s.1 in
        let named : Some s.0 ≡ Some n = sym (ap station_name master) ∙ is in
        let one : s.0 ≡ n = cc in
        master ∙ ap row.Master one
first_from p (r ∷ raw) (y ∷ above) below here n l e none is =
    let same : row_at p r ≡ y = heads (row_at p r) y (placed_from (below_row p (row_at p r)) raw) (above ++ here ∷ below) e in
    let rest = tails (row_at p r) y (placed_from (below_row p (row_at p r)) raw) (above ++ here ∷ below) e in
    let less = none_less (station_name y) (filter_map station_name above) none in
    go same less.0 (λ k. first_from (below_row p (row_at p r)) raw above below here n k rest less.1 is)
    (row_on p r (fate_of p r) l refl)
  where
    go : row_at p r ≡ y → station_name y ≡ None → (lean (below_row p (row_at p r)) ≡ true → here ≡ row.Master n)
        → ((lean (below_row p (row_at p r)) ≡ true) × (station_name (row_at p r) ≡ None))
        ⊎ ((m : List ℕ) × (row_at p r ≡ row.Master m)) → here ≡ row.Master n
    go same no_name more (inl s) = more s.0
    go same no_name more (inr s) =
        absurd (let named : station_name y ≡ Some s.0 = ap station_name (sym same ∙ s.1) in cc)

pub first_is_master : (raw above below : List Row) (here : Row) (n : List ℕ)
    → placed_from place.Nothing raw ≡ above ++ here ∷ below → filter_map station_name above ≡ []
    → station_name here ≡ Some n → here ≡ row.Master n
first_is_master raw above below here n e none is = first_from place.Nothing raw above below here n refl e none is

-- without a workstation and without definitions there are no steps
steps_from : (p : Place) (raw : List Row) → early p ≡ true → filter_map station_name (placed_from p raw) ≡ []
    → list_any is_definitions (placed_from p raw) ≡ false → list_any is_steps (placed_from p raw) ≡ false
unfolding placed_from
steps_from p [] l none d = refl
steps_from p (r ∷ raw) l none d =
    let next : Place = below_row p (row_at p r) in
    let less = none_less (station_name (row_at p r)) (filter_map station_name (placed_from next raw)) none in
    let other = neither (is_definitions (row_at p r)) (list_any is_definitions (placed_from next raw)) d in
    let here = row_early p r (fate_of p r) l refl less.0 other.0 in
    let more = steps_from next raw here.0 less.1 other.1 in
    ap (λ b. b || list_any is_steps (placed_from next raw)) here.1 ∙ more

pub no_steps : (raw : List Row) → filter_map station_name (placed_from place.Nothing raw) ≡ []
    → list_any is_definitions (placed_from place.Nothing raw) ≡ false
    → list_any is_steps (placed_from place.Nothing raw) ≡ false
no_steps raw none d = steps_from place.Nothing raw refl none d
