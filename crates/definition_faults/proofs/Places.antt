-- The places of streams and entries, and what they follow.
use Rattle.std.proofs.Common.{◌≡◌, ◌⊎◌, ℕ, ◌+◌, ◌<◌, Bool, true, false, ◌&&◌, cond, List, [], ◌∷◌, ◌++◌, map, length, drop, get_or}
use Rattle.std.proofs.Common.{Option, Some, None, option_map, option_and_then, slice_get, filter_map, flat_map, refl, sym, ap, subst, ◌∙◌, arith, inl, inr}
use Rattle.std.proofs.lemmas.List.{drop_more, append_assoc}
use Rattle.std.proofs.lemmas.List.Elements.{filter_map-append}
use Rattle.std.proofs.lemmas.List.Sums.{sum_by_more}
use Rattle.std.proofs.lemmas.Option.{slice_get_within}
use Rattle.std.specs.List.{position_from}
use Rattle.std.specs.Option.{option_or, option_to_list}
use Rattle.lemmas.proofs.Options.{map_some, some_same}
use Rattle.composer_parser.specs.declared.Lined.{Lined}
use Rattle.composer_parser.specs.declared.Clause.{Clause}
use Rattle.composer_parser.specs.declared.Defs.{Defs}
use Rattle.composer_parser.specs.declared.Pred.{Pred}
use Rattle.composer_parser.specs.declared.PredPart.{PredPart}
use Rattle.composer_parser.specs.declared.PredPart.TheVariants as part
use Rattle.composer_parser.specs.declared.ScheduleDef.{ScheduleDef}
use Rattle.model.specs.Words.{below}
use Rattle.definition_names.specs.Stations.{master_of}
use Rattle.definition_names.specs.Streams.{entry_at, entry_of, is_stream, stream_at}
use Rattle.definition_names.specs.Targets.{is_bare, of_own, of_stream, part_at, target_of, ws_of_pred}
use Rattle.definition_names.specs.declared.Target.{Target}
use Rattle.definition_names.specs.declared.Target.TheVariants.{Stream, Job}
use Rattle.definition_faults.specs.Graphs.{behind, begin_of, place_in, place_of, preds_of, followed, followed_by}
use Rattle.definition_faults.proofs.Belows.{map_below_at}

-- the next stream stands behind the entries of the one before
pub begin_more : (d : Defs) (i : ℕ) (s : Lined ScheduleDef) → i < length d.schedules → s ≡ get_or d.schedules i s
    → begin_of d (i + 1) ≡ behind (begin_of d i) s.item
begin_more d i s low at =
    let size : Lined ScheduleDef → ℕ = λ x. length x.item.entries + 1 in
    let more = sum_by_more size d.schedules i s low in
    let same : size (get_or d.schedules i s) ≡ size s = ap size (sym at) in
    omega (arith, more, same)

-- the stream of a target is one
abbrev pub IsInside : Defs → Target → Type 0
IsInside d (Stream n) = n < length d.schedules
IsInside d (Job n i) = n < length d.schedules

pub placed_in_table : (d : Defs) (t : Target) (table : List ℕ) → table ≡ map (begin_of d) (below (length d.schedules))
    → IsInside d t → place_in table t ≡ place_of d t
placed_in_table d (Stream n) table is low =
    ap (λ (l : List ℕ). get_or l n 0) is ∙ map_below_at (begin_of d) (length d.schedules) n 0 low
placed_in_table d (Job n i) table is low =
    ap (λ (k : ℕ). k + i + 1)
    (ap (λ (l : List ℕ). get_or l n 0) is ∙ map_below_at (begin_of d) (length d.schedules) n 0 low)

-- what options say that are there
of_two : {X : Type 0} (a b : Option X) (t : X) → option_or a b ≡ Some t → (a ≡ Some t) ⊎ (b ≡ Some t)
of_two None b t h = inr h
of_two (Some x) b t h = inl h

of_then : {X Y : Type 0} (f : X → Option Y) (o : Option X) (t : Y) → option_and_then f o ≡ Some t
    → (x : X) × (o ≡ Some x) × (f x ≡ Some t)
of_then f None t h = cc
of_then f (Some x) t h = (x, refl, h)

where_so : {X : Type 0} (b : Bool) (o : Option X) (t : X) → cond b o None ≡ Some t → o ≡ Some t
where_so true o t h = h
where_so false o t h = cc

position_within : {X : Type 0} (test : X → Bool) (from : ℕ) (xs : List X) (k : ℕ) → position_from test from xs ≡ Some k
    → k < from + length xs
position_within test from [] k h = cc
position_within test from (x ∷ xs) k h = go (test x) h (λ e. position_within test (from + 1) xs k e)
  where
    go : (b : Bool) → cond b (Some from) (position_from test (from + 1) xs) ≡ Some k
        → (position_from test (from + 1) xs ≡ Some k → k < (from + 1) + length xs) → k < from + length (x ∷ xs)
    go true e later = let same : from ≡ k = cc in omega (arith, same)
    go false e later = let low = later e in omega (arith, low)

part_inside : (d : Defs) (p : PredPart) (k : ℕ) (t : Target) → k < length d.schedules → part_at d p k ≡ Some t → IsInside d t
part_inside d part.Plain k t low h = subst (IsInside d) (some_same (Stream k) t h) low
part_inside d part.All k t low h = subst (IsInside d) (some_same (Stream k) t h) low
part_inside d (part.Job name) k t low h =
    subst (IsInside d) (map_some (Job k) (entry_of d k name) t h).2 low

-- what a FOLLOWS stands for is one of the streams, or in one
pub target_inside : (d : Defs) (n : ℕ) (inside : Bool) (p : Pred) (t : Target) → target_of d n inside p ≡ Some t → IsInside d t
target_inside d n inside p t h =
    elim (of_two (of_own d n inside p) (of_stream d n p) t h) [
      | inl own ↦
          let found = map_some (Job n) (entry_of d n p.name) t (where_so (inside && is_bare p) (option_map (Job n) (entry_of d n p.name)) t own) in
          let there = of_then (λ (s : Lined ScheduleDef). entry_at s.item p.name) (slice_get d.schedules n) found.0 found.1 in
          subst (IsInside d) found.2 (slice_get_within d.schedules n there.0 there.1)
      | inr other ↦
          let there = of_then (part_at d p.part) (stream_at d (ws_of_pred d n p) p.name) t other in
          part_inside d p.part there.0 t
          (let low = position_within (is_stream (master_of d) (ws_of_pred d n p) p.name) 0 d.schedules there.0 there.1 in omega (arith, low))
          there.2
    ]

-- the place of what one FOLLOWS stands for
pub followed_is : (d : Defs) (n : ℕ) (inside : Bool) (p : Pred) (t : Target) (table : List ℕ) (place : ℕ)
    → table ≡ map (begin_of d) (below (length d.schedules)) → target_of d n inside p ≡ Some t → place ≡ place_in table t
    → place ∷ [] ≡ option_to_list (followed_by d n inside p)
followed_is d n inside p t table place is there at =
    ap (λ k. k ∷ []) (at ∙ placed_in_table d t table is (target_inside d n inside p t there))
    ∙ ap (λ o. option_to_list (option_map (place_of d) o)) (sym there)

-- one clause further
pub followed_more : (d : Defs) (n : ℕ) (inside : Bool) (cs : List (Lined Clause)) (i : ℕ) (c : Lined Clause) (all now new : List ℕ)
    → i < length cs → c ≡ get_or cs i c → new ≡ now ++ filter_map (followed_by d n inside) (preds_of c.item)
    → all ≡ now ++ followed d n inside (drop i cs) → all ≡ new ++ followed d n inside (drop (i + 1) cs)
followed_more d n inside cs i c all now new low at is before =
    let f = followed_by d n inside in
    let here = preds_of c.item in
    let rest = flat_map (λ (c : Lined Clause). preds_of c.item) (drop (i + 1) cs) in
    before
    ∙ (ap (λ l. now ++ followed d n inside l)
    (drop_more cs i c low ∙ ap (λ y. y ∷ drop (i + 1) cs) (sym at))
    ∙ (ap (λ l. now ++ l) (filter_map-append f here rest)
    ∙ (sym (append_assoc now (filter_map f here) (filter_map f rest)) ∙ ap (λ l. l ++ filter_map f rest) (sym is))))
