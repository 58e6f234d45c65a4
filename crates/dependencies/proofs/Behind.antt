-- The walk over the dependencies that are not waived, one further.
use Rattle.std.proofs.Common.{◌≡◌, ◌∷◌, ◌+◌, ◌≤◌, [], ℕ, List, None, Some, add-one, drop}
use Rattle.std.proofs.Common.{length, refl, subst}
use Rattle.std.specs.Prelude.{◌++◌, false, filter, flat_map, not, slice_get, true}
use Rattle.lemmas.proofs.Lists.{drop_at_end, drop_none, drop_some, take_length}
use Rattle.model.specs.Types.{Dep, Obj}
use Rattle.model.specs.Words.{nth}
use Rattle.model.specs.History.{View}
use Rattle.model.specs.Facts.{commands}
use Rattle.model.specs.Dependencies.{NumberedDep, dep, deps, deps_added_by, document_deps, is_waived, numbered_deps}
use Rattle.model.specs.Dependencies.{owner_events}
use Rattle.dependencies.specs.Left.{numbered}

-- what is left of an object's dependencies behind the first n
abbrev pub left_behind : View → Obj → ℕ → List NumberedDep
left_behind V o n =
    filter (λ (p : NumberedDep). not (is_waived V o p.number)) (numbered_deps (n + 1) (drop n (deps V o)))

-- nothing is left where there is no next one
pub none_left : (V : View) (o : Obj) (n : ℕ) → dep V o (n + 1) ≡ None → left_behind V o n ≡ []
none_left V o n e =
    let at_n : slice_get (deps V o) n ≡ None = subst (λ i. nth (deps V o) i ≡ None) (add-one n) e in
    rw (drop_none (deps V o) n at_n) refl

next_is : (V : View) (o : Obj) (n : ℕ) (d : Dep) → dep V o (n + 1) ≡ Some d
    → drop n (deps V o) ≡ d ∷ drop (n + 1) (deps V o)
next_is V o n d e =
    let at_n : slice_get (deps V o) n ≡ Some d = subst (λ i. nth (deps V o) i ≡ Some d) (add-one n) e in
    rw add-one (drop_some (deps V o) n d at_n)

-- the next one is left where it is not waived
pub next_left : (V : View) (o : Obj) (n : ℕ) (d : Dep) → dep V o (n + 1) ≡ Some d → is_waived V o (n + 1) ≡ false
    → left_behind V o n ≡ numbered (n + 1) d ∷ left_behind V o (n + 1)
next_left V o n d e h = rw (next_is V o n d e, h) refl

-- and is passed over where it is waived
pub next_waived : (V : View) (o : Obj) (n : ℕ) (d : Dep) → dep V o (n + 1) ≡ Some d → is_waived V o (n + 1) ≡ true
    → left_behind V o n ≡ left_behind V o (n + 1)
next_waived V o n d e h = rw (next_is V o n d e, h) refl

-- no more count
pub few : (V : View) (o : Obj) → length (deps V o) ≤ 65535
unfolding deps
few V o = take_length 65535 (document_deps V o ++ flat_map (deps_added_by o) (commands (owner_events V o)))

-- nothing is left behind all of them
pub all_behind : (V : View) (o : Obj) (n : ℕ) → length (deps V o) ≤ n → left_behind V o n ≡ []
all_behind V o n h = rw (drop_at_end (deps V o) n h) refl
