-- Whom the dependencies of an object cite, one dependency further.
use Rattle.std.proofs.Common.{◌≡◌, ◌∙◌, ◌∷◌, ◌+◌, [], ℕ, List, None, Option, Some, add-one, ap, drop}
use Rattle.std.proofs.Common.{refl, subst, sym}
use Rattle.std.specs.Option.{option_map_or}
use Rattle.std.specs.Prelude.{flat_map, option_map, slice_get}
use Rattle.lemmas.proofs.Lists.{drop_none, drop_past, drop_some}
use Rattle.model.specs.Types.{Dep, Obj, StreamDoc}
use Rattle.model.specs.Words.{ascending, nth}
use Rattle.model.specs.History.{View}
use Rattle.model.specs.Catalogue.{stream_of}
use Rattle.model.specs.Dependencies.{cites, dep, dep_cites, deps}
use Rattle.batchman_core.specs.Gathered.{with_all}
use Rattle.batchman_core.proofs.Gatherings.{all_gathered, gathered_some}

-- what the dependencies behind the first n cite, among others
abbrev pub cited_behind : View → Obj → ℕ → List ℕ → List ℕ
cited_behind V o n among = with_all (flat_map (dep_cites V) (drop n (deps V o))) among

-- before the walk
pub cited_at_first : (V : View) (o : Obj) → cited_behind V o 0 [] ≡ ascending (cites V o)
unfolding cites
cited_at_first V o = all_gathered (flat_map (dep_cites V) (deps V o))

-- the next dependency
pub cited_next : (V : View) (o : Obj) (n : ℕ) (d : Dep) (among : List ℕ) → dep V o (n + 1) ≡ Some d
    → cited_behind V o n among ≡ cited_behind V o (n + 1) (with_all (dep_cites V d) among)
cited_next V o n d among e =
    let at_n : slice_get (deps V o) n ≡ Some d = subst (λ i. nth (deps V o) i ≡ Some d) (add-one n) e in
    let next : drop n (deps V o) ≡ d ∷ drop (n + 1) (deps V o) = rw add-one (drop_some (deps V o) n d at_n) in
    ap (λ (l : List Dep). with_all (flat_map (dep_cites V) l) among) next
    ∙ gathered_some (dep_cites V) d (drop (n + 1) (deps V o)) among

-- there is none
pub cited_none : (V : View) (o : Obj) (n : ℕ) (among : List ℕ) → dep V o (n + 1) ≡ None
    → cited_behind V o n among ≡ cited_behind V o (n + 1) among
cited_none V o n among e =
    let at_n : slice_get (deps V o) n ≡ None = subst (λ i. nth (deps V o) i ≡ None) (add-one n) e in
    let here : drop n (deps V o) ≡ [] = drop_none (deps V o) n at_n in
    let past : drop (n + 1) (deps V o) ≡ [] = rw add-one (drop_past (deps V o) n at_n) in
    ap (λ (l : List Dep). with_all (flat_map (dep_cites V) l) among) (here ∙ sym past)

-- nobody outside the catalogue
pub nobody_gathered : (V : View) (o : Obj) → None ≡ option_map (λ (d : StreamDoc). d.ws) (stream_of V o)
    → [] ≡ ascending (option_map_or (λ (d : StreamDoc). d.ws ∷ cites V o) (stream_of V o) [])
nobody_gathered V o e = go (stream_of V o) e
  where
    go : (s : Option StreamDoc) → None ≡ option_map (λ (d : StreamDoc). d.ws) s
        → [] ≡ ascending (option_map_or (λ (d : StreamDoc). d.ws ∷ cites V o) s [])
    go None e = refl
    go (Some d) e = cc
