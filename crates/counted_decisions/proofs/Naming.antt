-- Workstations that are named one by one.
use Rattle.std.proofs.Common.{[], ℕ, ◌+◌, ◌++◌, ◌∙◌, ◌∷◌, ◌≡◌, ◌≤◌, Bool, List, None, Option, Some, add-one, ap, drop, false}
use Rattle.std.proofs.Common.{flat_map, length, nat_eq, option_map, refl, subst, sym, true}
use Rattle.std.specs.List.{list_all, list_any}
use Rattle.std.specs.Option.{option_map_or}
use Rattle.std.specs.Prelude.{◌==◌, ◌||◌, slice_get}
use Rattle.lemmas.proofs.Booleans.{or_false}
use Rattle.lemmas.proofs.Lists.{drop_at_end, drop_none, drop_past, drop_some}
use Rattle.model_laws.proofs.Lists.{has_append}
use Rattle.indexmap.specs.IndexSet.{IndexSet, contains}
use Rattle.model.specs.Types.{Dep, Obj, StreamDoc}
use Rattle.model.specs.Words.{has, nth}
use Rattle.model.specs.History.{Seen, View}
use Rattle.model.specs.Dependencies.{dep, dep_cites, deps}
use Rattle.counted_decisions.specs.Named.{AddsAll, may_name}
use Rattle.counted_decisions.specs.Sights.{counts_only}

or_turned : (a b c : Bool) → ((a || b) || c) ≡ (b || (a || c))
or_turned true true c = refl
or_turned true false c = refl
or_turned false b c = refl

module _ {S : Type 0} where
  -- all that are to be named are among those that are left, or are named already
  abbrev pub AreLeft : List ℕ → List ℕ → IndexSet ℕ S → IndexSet ℕ S → Type 0
  AreLeft all left old now = (v : ℕ) → (has all v || contains nat_eq old v) ≡ (has left v || contains nat_eq now v)

  -- some of them are added
  pub some_added : (all here rest left : List ℕ) (old now next : IndexSet ℕ S) → left ≡ here ++ rest
      → AddsAll here now next → AreLeft all left old now → AreLeft all rest old next
  some_added all here rest left old now next e added h v =
      h v ∙ ap (λ (l : List ℕ). has l v || contains nat_eq now v) e
      ∙ ap (λ (b : Bool). b || contains nat_eq now v) (has_append here rest v)
      ∙ or_turned (has here v) (has rest v) (contains nat_eq now v)
      ∙ sym (ap (λ (b : Bool). has rest v || b) (added v))

  -- nobody is left
  pub all_added : (all left : List ℕ) (old now : IndexSet ℕ S) → left ≡ [] → AreLeft all left old now
      → AddsAll all old now
  all_added all left old now e h v =
      sym (h v ∙ ap (λ (l : List ℕ). has l v || contains nat_eq now v) e)

  -- one after others
  pub both_added : (w : ℕ) (ws : List ℕ) (old now next : IndexSet ℕ S) → AddsAll (w ∷ []) old now → AddsAll ws now next
      → AddsAll (w ∷ ws) old next
  both_added w ws old now next first then_ v =
      then_ v ∙ ap (λ (b : Bool). has ws v || b) (first v)
      ∙ ap (λ (b : Bool). has ws v || (b || contains nat_eq old v)) (or_false (w == v))
      ∙ sym (or_turned (w == v) (has ws v) (contains nat_eq old v))

  -- whoever may be named
  named_as : (w : ℕ) (ws : List ℕ) (old now : IndexSet ℕ S) → old.keys ≡ [] → AddsAll ws old now → (v : ℕ)
      → may_name now w v ≡ has (w ∷ 0 ∷ ws) v
  named_as w ws old now none added v =
      ap (λ (b : Bool). (w == v) || ((0 == v) || b))
      (added v ∙ ap (λ (l : List ℕ). has ws v || list_any (nat_eq v) l) none ∙ or_false (has ws v))

  pub only_named : (w : ℕ) (ws : List ℕ) (old now : IndexSet ℕ S) (seen : Seen) → old.keys ≡ [] → AddsAll ws old now
      → list_all (λ (p : ℕ × ℕ). may_name now w p.0) seen ≡ counts_only (w ∷ 0 ∷ ws) seen
  only_named w ws old now [] none added = refl
  only_named w ws old now (p ∷ ps) none added =
      rw (named_as w ws old now none added p.0, only_named w ws old now ps none added) refl

-- the dependencies behind the first n
pub next_cited : (U V : View) (o : Obj) (n : ℕ) (d : Dep) → dep V o (n + 1) ≡ Some d
    → flat_map (dep_cites U) (drop n (deps V o)) ≡ dep_cites U d ++ flat_map (dep_cites U) (drop (n + 1) (deps V o))
next_cited U V o n d e =
    let at_n : slice_get (deps V o) n ≡ Some d = subst (λ i. nth (deps V o) i ≡ Some d) (add-one n) e in
    let next : drop n (deps V o) ≡ d ∷ drop (n + 1) (deps V o) = rw add-one (drop_some (deps V o) n d at_n) in
    ap (flat_map (dep_cites U)) next

pub none_cited : (U V : View) (o : Obj) (n : ℕ) → dep V o (n + 1) ≡ None
    → flat_map (dep_cites U) (drop n (deps V o)) ≡ [] ++ flat_map (dep_cites U) (drop (n + 1) (deps V o))
none_cited U V o n e =
    let at_n : slice_get (deps V o) n ≡ None = subst (λ i. nth (deps V o) i ≡ None) (add-one n) e in
    let here : drop n (deps V o) ≡ [] = drop_none (deps V o) n at_n in
    let next : drop (n + 1) (deps V o) ≡ [] = rw add-one (drop_past (deps V o) n at_n) in
    ap (flat_map (dep_cites U)) (here ∙ sym next)

pub all_cited : (U V : View) (o : Obj) (n : ℕ) → length (deps V o) ≤ n
    → flat_map (dep_cites U) (drop n (deps V o)) ≡ []
all_cited U V o n h = ap (flat_map (dep_cites U)) (drop_at_end (deps V o) n h)

-- the stream's owner
pub owner_found : (o : Option StreamDoc) (w : ℕ) (ws : List ℕ) → Some w ≡ option_map (λ (d : StreamDoc). d.ws) o
    → option_map_or (λ (d : StreamDoc). d.ws ∷ ws) o [] ≡ w ∷ ws
owner_found None w ws e = cc
owner_found (Some d) w ws e = let k : w ≡ d.ws = cc in ap (λ (v : ℕ). v ∷ ws) (sym k)

pub no_owner : (o : Option StreamDoc) (ws : List ℕ) → None ≡ option_map (λ (d : StreamDoc). d.ws) o
    → option_map_or (λ (d : StreamDoc). d.ws ∷ ws) o [] ≡ []
no_owner None ws e = refl
no_owner (Some d) ws e = cc
