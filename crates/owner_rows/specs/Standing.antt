-- Where among the entries the items of a list stand: the bodies of a feed, and the dependencies that were added.
use Rattle.std.specs.Option.{IfSome, IsSome}
use Rattle.std.specs.List.{list_any}
use Rattle.std.specs.Prelude.{ℕ, ◌-◌, ◌<◌, ◌==◌, ◌≡◌, Bool, List, None, Option, Some, false, flat_map, length}
use Rattle.std.specs.Prelude.{option_and_then, option_map, slice_get}
use Rattle.model.specs.Types.{AddDep, Body, Cmd, Dep, Entry, Events, Feed, Obj, Orders}
use Rattle.model.specs.History.{list_of}
use Rattle.model.specs.Facts.{commands, obeyed_command}
use Rattle.model.specs.Dependencies.{deps_added_by}
use Rattle.owner_rows.specs.Counts.{feed_key}
use Rattle.owner_rows.specs.Subjects.{object_number}
use Rattle.owner_rows.specs.Tables.{has_pair_row, has_row, pair_row_in, row_in}
use Rattle.owner_rows.specs.declared.places.Places.{Places}
use Rattle.owner_rows.specs.declared.tables.PairTable.{PairTable}
use Rattle.owner_rows.specs.declared.tables.Table.{Table}

-- what is found in the entry that stands there
abbrev pub found_at : {X : Type 0} → (Entry → Option X) → List Entry → ℕ → Option X
found_at found kept at_ = option_and_then found (slice_get kept at_)

-- a row tells where item i of a list stands, and that it stands among the entries
abbrev pub StandsAt : {X : Type 0} → (Entry → Option X) → List Entry → List X → ℕ → Option ℕ → Type 0
StandsAt found kept items i row =
    (slice_get items i ≡ option_and_then (found_at found kept) row) × IfSome row (λ at_. at_ < length kept)

-- the body of an entry
abbrev pub body_in : Entry → Option Body
body_in e = Some e.body

-- the object to which a command adds a dependency, and the dependency
abbrev pub object_given : Cmd → Option Obj
object_given (AddDep o d) = Some o
object_given _ = None

abbrev pub dep_given : Cmd → Option Dep
dep_given (AddDep o d) = Some d
dep_given _ = None

-- those of a body
abbrev pub added_to : Body → Option Obj
added_to b = option_and_then object_given (obeyed_command b)

abbrev pub added_by : Body → Option Dep
added_by b = option_and_then dep_given (obeyed_command b)

abbrev pub dep_in : Entry → Option Dep
dep_in e = added_by e.body

-- the dependencies that commands of w added to an object
abbrev pub additions : List Entry → ℕ → Obj → List Dep
additions kept w o = flat_map (deps_added_by o) (commands (list_of kept (Events w)))

-- the key of place i, from 0, of a feed
abbrev pub place_key : Feed → ℕ → ℕ × (ℕ × ℕ)
place_key f i = ((feed_key f).0, ((feed_key f).1, i))

-- the key of the dependency that an entry adds
abbrev pub addition_at : List Entry → Option Obj → Feed → Option (ℕ × (ℕ × ℕ))
addition_at kept given (Events w) =
    option_map (λ (o : Obj). (w, (object_number o, length (additions kept w o)))) given
addition_at kept given (Orders a w) = None

abbrev pub addition_in : List Entry → Entry → Option (ℕ × (ℕ × ℕ))
addition_in kept e = addition_at kept (added_to e.body) e.feed

-- each body of each feed stands where its row tells
abbrev pub AreEntryRows : List Entry → PairTable (Option ℕ) → Type 0
AreEntryRows kept t =
    (f : Feed) (i : ℕ) → StandsAt body_in kept (list_of kept f) i (pair_row_in t (place_key f i))

-- and each added dependency
abbrev pub AreAddedRows : List Entry → PairTable (Option ℕ) → Type 0
AreAddedRows kept t =
    (w : ℕ) (o : Obj) (i : ℕ)
    → StandsAt dep_in kept (additions kept w o) i (pair_row_in t (w, (object_number o, i)))

-- an order of workstation a
abbrev pub is_issued_by : ℕ → Feed → Bool
is_issued_by a (Events w) = false
is_issued_by a (Orders b w) = a == b

-- workstation a issued orders
abbrev pub has_issued : List Entry → ℕ → Bool
has_issued kept a = list_any (λ (e : Entry). is_issued_by a e.feed) kept

-- the key of an order's issuer
abbrev pub issuer_of : Feed → Option (ℕ × ℕ)
issuer_of (Events w) = None
issuer_of (Orders a w) = Some (a, 0)

abbrev pub AreIssuers : List Entry → Table Bool → Type 0
AreIssuers kept t = (a : ℕ) → row_in t (a, 0) ≡ has_issued kept a

-- all these rows tell the entries
pub record ArePlaces (kept : List Entry) (p : Places) : Type 0 where
  pub entries : AreEntryRows kept p.entries
  pub added : AreAddedRows kept p.added
  pub issuers : AreIssuers kept p.issuers

-- the rows that an entry changes are there, where its dependency has this key
pub record HasPlaces (p : Places) (e : Entry) (addition : Option (ℕ × (ℕ × ℕ))) : Type 0 where
  pub entry : IfSome (Some (place_key e.feed (e.place - 1))) (λ k. IsSome (has_pair_row p.entries k))
  pub added : IfSome addition (λ k. IsSome (has_pair_row p.added k))
  pub issuer : IfSome (issuer_of e.feed) (λ k. IsSome (has_row p.issuers k))
