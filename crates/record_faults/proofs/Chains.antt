-- Chains of hops, walked from place to place.
use Rattle.std.proofs.Common.{◌≡◌, ◌<◌, ◌≤◌, ◌+◌, ℕ, zero, suc, Bool, true, false, Bor, List, [], ◌∷◌, Option, Some, None}
use Rattle.std.proofs.Common.{arith, length, nat_lt, refl, ap, sym, ◌∙◌, bytes_eq, cond, drop, get_or}
use Rattle.std.proofs.Common.{option_and_then, option_map, unwrap_or, slice_get, is_none}
use Rattle.std.specs.Option.{option_map_or}
use Rattle.std.proofs.lemmas.Bool.Decides.{nat_tests}
use Rattle.std.proofs.lemmas.List.{at_drop_all, at_drop_more, drop_more}
use Rattle.std.proofs.lemmas.Option.{slice_get-map, slice_get_past, slice_get_read}
use Rattle.indexmap.specs.IndexMap.{insert_entry}
use Rattle.lemmas.proofs.Inserted.{name_inserted}
use Rattle.lemmas.proofs.Texts.{bytes_turned}
use Rattle.record_faults.specs.Known.{Station, station_at, reaches}
use Rattle.record_faults.specs.Hops.{AreHops, hop_of, place_in}

-- the chain from a workstation on ends at the master, within so many places
abbrev pub chain : List Station → ℕ → Option Station → Bool
chain all zero o = false
chain all (suc n) o = option_map_or (λ (s : Station). option_map_or (reaches all n) s.hop true) o false

pub as_chain : (all : List Station) (n : ℕ) (name : List ℕ) → reaches all n name ≡ chain all n (station_at all name)
as_chain all zero name = refl
as_chain all (suc n) name = refl

-- it goes on at the hop
pub chain_on : (all : List Station) (n left : ℕ) (o next : Option Station) (s : Station) (top : Bool) → n ≡ suc left
    → o ≡ Some s → top ≡ is_none s.hop → top ≡ false → next ≡ hop_of all s → chain all n o ≡ chain all left next
chain_on all n left o next s top e is told below there = go s.hop refl
  where
    go : (h : Option (List ℕ)) → s.hop ≡ h → chain all n o ≡ chain all left next
    go None h = let apart : true ≡ false = ap is_none (sym h) ∙ sym told ∙ below in cc
    go (Some hop) h =
        ap (λ k. chain all k o) e
        ∙ ap (chain all (suc left)) is
        ∙ ap (λ x. option_map_or (reaches all left) x true) h
        ∙ as_chain all left hop
        ∙ ap (chain all left) (sym (there ∙ ap (option_and_then (station_at all)) h))

-- what stands at the place of a hop
pub hop_at : (all : List Station) (hops : List ℕ) (i : ℕ) (s : Station) → AreHops all hops → slice_get all i ≡ Some s
    → option_map (slice_get all) (slice_get hops i) ≡ Some (hop_of all s)
hop_at all hops i s are at =
    sym (slice_get-map (slice_get all) hops i)
    ∙ ap (λ (l : List (Option Station)). slice_get l i) are
    ∙ slice_get-map (hop_of all) all i
    ∙ ap (option_map (hop_of all)) at

pub hop_next : (all : List Station) (hops : List ℕ) (i : ℕ) (s : Station) (next : ℕ) → AreHops all hops
    → slice_get all i ≡ Some s → slice_get hops i ≡ Some next → slice_get all next ≡ hop_of all s
hop_next all hops i s next are at is =
    some_same (sym (ap (option_map (slice_get all)) is) ∙ hop_at all hops i s are at)
  where
    some_same : {A : Type 0} {a b : A} → Some a ≡ Some b → a ≡ b
    some_same e = cc

-- An index of places, from the last workstation on.

pub place_put : (es new : List (Bor (List ℕ) × ℕ)) (k : Bor (List ℕ)) (place : ℕ)
    → new ≡ insert_entry (λ (p q : Bor (List ℕ)). bytes_eq p.now q.now) es k place
    → (name : List ℕ) → place_in new name ≡ cond (bytes_eq name k.now) (Some place) (place_in es name)
place_put es new k place grown name =
    ap (λ (l : List (Bor (List ℕ) × ℕ)). place_in l name) grown ∙ name_inserted es k place name

-- the workstation of a name, with one more before the others
pub place_more : (all : List Station) (i n : ℕ) (s : Station) (old new : Option ℕ) (name : List ℕ)
    → i + 1 ≡ n → i < length all → s ≡ get_or all i s
    → new ≡ cond (bytes_eq name s.name) (Some i) old
    → station_at (drop n all) name ≡ slice_get all (unwrap_or old (length all))
    → station_at (drop i all) name ≡ slice_get all (unwrap_or new (length all))
place_more all i n s old new name next low at put before = go (bytes_eq name s.name) refl
  where
    front : drop i all ≡ s ∷ drop n all
    front = drop_more all i s low ∙ (λ p. sym at p ∷ drop (next p) all)

    go : (b : Bool) → bytes_eq name s.name ≡ b → station_at (drop i all) name ≡ slice_get all (unwrap_or new (length all))
    go true is =
        ap (λ l. station_at l name) front
        ∙ ap (λ c. cond c (Some s) (station_at (drop n all) name)) (bytes_turned s.name name ∙ is)
        ∙ sym (slice_get_read all (length all) i s refl low at)
        ∙ ap (λ o. slice_get all (unwrap_or o (length all))) (sym (put ∙ ap (λ c. cond c (Some i) old) is))
    go false is =
        ap (λ l. station_at l name) front
        ∙ ap (λ c. cond c (Some s) (station_at (drop n all) name)) (bytes_turned s.name name ∙ is)
        ∙ before
        ∙ ap (λ o. slice_get all (unwrap_or o (length all))) (sym (put ∙ ap (λ c. cond c (Some i) old) is))

-- behind the last there is none
pub nowhere : (all : List Station) (i : ℕ) (index : List (Bor (List ℕ) × ℕ)) (name : List ℕ) → i ≡ length all
    → index ≡ []
    → station_at (drop i all) name ≡ slice_get all (unwrap_or (place_in index name) (length all))
nowhere all i index name at_end empty =
    at_drop_all (λ (l : List Station). station_at l name) all i (omega (arith, at_end))
    ∙ sym (slice_get_past all (length all) (omega arith))
    ∙ ap (λ (l : List (Bor (List ℕ) × ℕ)). slice_get all (unwrap_or (place_in l name) (length all))) (sym empty)

-- The first workstation of a name, searched from the front.

pub found_here : (all : List Station) (i : ℕ) (s : Station) (name : List ℕ) (here : Bool) → i < length all
    → s ≡ get_or all i s → station_at all name ≡ station_at (drop i all) name → here ≡ bytes_eq s.name name
    → here ≡ true → station_at all name ≡ slice_get all i
found_here all i s name here low at so_far told yes_ =
    so_far
    ∙ at_drop_more (λ (l : List Station). station_at l name) all i s low
    ∙ ap (λ (x : Station). station_at (x ∷ drop (i + 1) all) name) (sym at)
    ∙ ap (λ c. cond c (Some s) (station_at (drop (i + 1) all) name)) (sym told ∙ yes_)
    ∙ sym (slice_get_read all (length all) i s refl low at)

pub passed_here : (all : List Station) (i : ℕ) (s : Station) (name : List ℕ) (here : Bool) → i < length all
    → s ≡ get_or all i s → station_at all name ≡ station_at (drop i all) name → here ≡ bytes_eq s.name name
    → here ≡ false → station_at all name ≡ station_at (drop (i + 1) all) name
passed_here all i s name here low at so_far told not_ =
    so_far
    ∙ at_drop_more (λ (l : List Station). station_at l name) all i s low
    ∙ ap (λ (x : Station). station_at (x ∷ drop (i + 1) all) name) (sym at)
    ∙ ap (λ c. cond c (Some s) (station_at (drop (i + 1) all) name)) (sym told ∙ not_)

pub none_here : (all : List Station) (i : ℕ) (name : List ℕ) → length all ≤ i
    → station_at all name ≡ station_at (drop i all) name → station_at all name ≡ slice_get all (length all)
none_here all i name past so_far =
    so_far
    ∙ at_drop_all (λ (l : List Station). station_at l name) all i past
    ∙ sym (slice_get_past all (length all) (omega arith))

-- what stands at a place that is within
pub stands_there : {X : Type 0} (xs : List X) (i : ℕ) (x : X) → true ≡ nat_lt i (length xs) → x ≡ get_or xs i x
    → slice_get xs i ≡ Some x
stands_there xs i x low at =
    let within : i < length xs = grind (arith, nat_tests) in
    slice_get_read xs (length xs) i x refl within at
