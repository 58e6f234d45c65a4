-- Where items stand, one entry further.
use Rattle.std.proofs.Common.{[], ℕ, ◌&&◌, ◌+◌, ◌++◌, ◌-◌, ◌<◌, ◌||◌, ◌∙◌, ◌∷◌, ◌≡◌, ◌≢◌, ◌⊎◌, Bool, List, None, Option, Some, ap}
use Rattle.std.proofs.Common.{arith, cond, eqb, false, filter_map, flat_map, inl, inr, length, length-append, option_and_then}
use Rattle.std.proofs.Common.{refl, slice_get, subst, suc, sym, true, zero}
use Rattle.std.proofs.lemmas.Bool.Decides.{eqb_tells}
use Rattle.std.proofs.lemmas.List.{append-nil}
use Rattle.std.proofs.lemmas.Grind.{flat_map-append}
use Rattle.std.specs.Option.{IfSome}
use Rattle.lemmas.proofs.Lists.{any_with, get_last}
use Rattle.lemmas.proofs.Numbers.{number_itself, number_tells}
use Rattle.model.specs.Types.{AddDep, Body, Cmd, Dep, Entry, Events, Feed, Job, Obj, Orders, Stream}
use Rattle.model.specs.Equalities.{feed_eq, obj_eq}
use Rattle.model.specs.History.{list_of}
use Rattle.model.specs.Words.{nth}
use Rattle.model.specs.Facts.{commands, obeyed_command}
use Rattle.model.specs.Dependencies.{deps_added_by}
use Rattle.owner_rows.specs.Standing.{AreAddedRows, AreEntryRows, AreIssuers, StandsAt, added_by, added_to, addition_at}
use Rattle.owner_rows.specs.Standing.{addition_in, additions, body_in, dep_given, dep_in, found_at, has_issued}
use Rattle.owner_rows.specs.Standing.{is_issued_by, issuer_of, object_given, place_key}
use Rattle.owner_rows.specs.Subjects.{object_number}
use Rattle.owner_rows.specs.Tables.{keys_meet, pair_row_in, row_in, same_key}
use Rattle.owner_rows.specs.Told.{AreTold}
use Rattle.owner_rows.specs.declared.objects.ObjectRow.{ObjectRow}
use Rattle.owner_rows.specs.declared.tables.PairTable.{PairTable}
use Rattle.owner_rows.specs.declared.tables.Table.{Table}
use Rattle.owner_rows.specs.declared.told.Told.{Told}
use Rattle.owner_rows.proofs.Counting.{itself, one_feed}
use Rattle.owner_rows.proofs.Feeds.{feed_cases, list_with, list_without}
use Rattle.owner_rows.proofs.Further.{commands_with}
use Rattle.owner_rows.proofs.Keys.{key_is_itself, key_tells, keys_alike, keys_tell, one_object}

-- lists, one item further
stays_there : {X : Type 0} (xs : List X) (x : X) (i : ℕ) → i ≢ length xs
    → slice_get (xs ++ x ∷ []) i ≡ slice_get xs i
stays_there [] x zero h = absurd (h refl)
stays_there [] x (suc i) h = refl
stays_there (z ∷ zs) x zero h = refl
stays_there (z ∷ zs) x (suc i) h = stays_there zs x i (λ e. h (ap suc e))

-- what stands among the entries is found there still
found_later : {X : Type 0} (found : Entry → Option X) (kept : List Entry) (e : Entry) (row : Option ℕ)
    → IfSome row (λ i. i < length kept)
    → option_and_then (found_at found (kept ++ e ∷ [])) row ≡ option_and_then (found_at found kept) row
found_later found kept e None h = refl
found_later found kept e (Some i) h =
    ap (option_and_then found) (stays_there kept e i (λ q. absurd (omega (arith, h, q))))

within_later : (kept : List Entry) (e : Entry) (row : Option ℕ) → IfSome row (λ i. i < length kept)
    → IfSome row (λ i. i < length (kept ++ e ∷ []))
within_later kept e None h = h
within_later kept e (Some i) h = omega (arith, h, length-append kept (e ∷ []))

module _ {X : Type 0} (found : Entry → Option X) (kept : List Entry) (e : Entry) (items new : List X) where
  -- a list that stays
  pub stands_quiet : (i : ℕ) (row : Option ℕ) → new ≡ items → StandsAt found kept items i row
      → StandsAt found (kept ++ e ∷ []) new i row
  stands_quiet i row same h = (
    ap (λ (l : List X). slice_get l i) same ∙ h.0 ∙ sym (found_later found kept e row h.1),
    within_later kept e row h.1,
  )

  -- another place of a list that has one more
  pub stands_other : (x : X) (i : ℕ) (row : Option ℕ) → new ≡ items ++ x ∷ [] → i ≢ length items
      → StandsAt found kept items i row → StandsAt found (kept ++ e ∷ []) new i row
  stands_other x i row grown apart h = (
    ap (λ (l : List X). slice_get l i) grown ∙ stays_there items x i apart
        ∙ h.0 ∙ sym (found_later found kept e row h.1),
    within_later kept e row h.1,
  )

  -- its last place
  pub stands_last : (x : X) (i end : ℕ) → new ≡ items ++ x ∷ [] → found e ≡ Some x → length kept ≡ end
      → i ≡ length items → StandsAt found (kept ++ e ∷ []) new i (Some end)
  stands_last x i end grown here e_ l = (
    (λ j. slice_get (grown j) (l j)) ∙ get_last items x ∙ sym here
        ∙ ap (option_and_then found) (sym (get_last kept e) ∙ ap (slice_get (kept ++ e ∷ [])) e_),
    omega (arith, e_, length-append kept (e ∷ [])),
  )

-- places of feeds
pub entries_with : (kept : List Entry) (e : Entry) (end i : ℕ) (old new : PairTable (Option ℕ)) → length kept ≡ end
    → e.place ≡ length (list_of kept e.feed) + 1 → i ≡ e.place - 1 → AreEntryRows kept old
    → ((q : ℕ × (ℕ × ℕ))
    → pair_row_in new q ≡ cond (keys_meet same_key (place_key e.feed i) q) (Some end) (pair_row_in old q))
    → AreEntryRows (kept ++ e ∷ []) new
entries_with kept e end i old new at_end next one h put f k =
    subst (StandsAt body_in (kept ++ e ∷ []) (list_of (kept ++ e ∷ []) f) k) (sym (put (place_key f k)))
    (go (keys_meet same_key (place_key e.feed i) (place_key f k)) refl)
  where
    last : i ≡ length (list_of kept e.feed)
    last = omega (arith, next, one)

    told : e.feed ≡ f → i ≡ k → StandsAt body_in (kept ++ e ∷ []) (list_of (kept ++ e ∷ []) f) k (Some end)
    told s t =
        subst (λ (g : Feed). StandsAt body_in (kept ++ e ∷ []) (list_of (kept ++ e ∷ []) g) k (Some end)) s
        (stands_last body_in kept e (list_of kept e.feed) (list_of (kept ++ e ∷ []) e.feed) e.body k end
        (list_with kept e e.feed (itself e.feed)) refl at_end (sym t ∙ last))

    another : f ≡ e.feed → k ≡ length (list_of kept f) → keys_meet same_key (place_key e.feed i) (place_key f k) ≡ true
    another s q =
        let t : k ≡ i = q ∙ ap (λ (g : Feed). length (list_of kept g)) s ∙ sym last in
        (λ j. keys_meet same_key (place_key e.feed i) (place_key (s j) (t j)))
        ∙ keys_alike same_key key_is_itself (place_key e.feed i)

    go : (b : Bool) → keys_meet same_key (place_key e.feed i) (place_key f k) ≡ b
        → StandsAt body_in (kept ++ e ∷ []) (list_of (kept ++ e ∷ []) f) k
        (cond b (Some end) (pair_row_in old (place_key f k)))
    go true c =
        let keys : place_key e.feed i ≡ place_key f k =
        keys_tell same_key key_tells (place_key e.feed i) (place_key f k) c in
        told (one_feed e.feed f (λ j. ((keys j).0, (keys j).1.0))) (λ j. (keys j).1.1)
    go false c =
        elim (feed_cases f e.feed) [
          | inl d ↦ stands_other body_in kept e (list_of kept f) (list_of (kept ++ e ∷ []) f) e.body k
              (pair_row_in old (place_key f k)) (list_with kept e f d.0)
              (λ q. absurd (let r : true ≡ false = sym (another d.1 q) ∙ c in cc)) (h f k)
          | inr d ↦ stands_quiet body_in kept e (list_of kept f) (list_of (kept ++ e ∷ []) f) k
              (pair_row_in old (place_key f k)) (list_without kept e f d) (h f k)
        ]

-- two objects are one or not
object_cases : (p q : Obj) → ((obj_eq p q ≡ true) × (p ≡ q)) ⊎ (obj_eq p q ≡ false)
object_cases (Job j) (Job k) = elim (eqb_tells j k) [ inl e ↦ inl (e.0, ap Job e.1) | inr e ↦ inr e.0 ]
object_cases (Stream s) (Stream t) = elim (eqb_tells s t) [ inl e ↦ inl (e.0, ap Stream e.1) | inr e ↦ inr e.0 ]
object_cases (Job j) (Stream t) = inr refl
object_cases (Stream s) (Job k) = inr refl

-- what a body adds to an object
abbrev given : Obj → Body → List Dep
given p b = flat_map (deps_added_by p) (filter_map obeyed_command (b ∷ []))

given_to : (b : Body) (p : Obj) → added_to b ≡ Some p → (d : Dep) × ((added_by b ≡ Some d) × (given p b ≡ d ∷ []))
given_to b p h = go (obeyed_command b) h
  where
    same : (q : Obj) (d : Dep) → q ≡ p → deps_added_by p (AddDep q d) ++ [] ≡ d ∷ []
    same q d s =
        elim (object_cases p q) [
          | inl c ↦ (rw c.0 refl)
          | inr c ↦ absurd (
              let t : obj_eq q q ≡ false = ap (λ (x : Obj). obj_eq x q) s ∙ c in
              let u : obj_eq q q ≡ true = object_itself q in cc)
        ]
      where
        object_itself : (x : Obj) → obj_eq x x ≡ true
        object_itself (Job j) = number_itself j
        object_itself (Stream s) = number_itself s

    go : (c : Option Cmd) → option_and_then object_given c ≡ Some p
        → (d : Dep) × ((option_and_then dep_given c ≡ Some d)
        × (flat_map (deps_added_by p) (filter_map (λ (x : Option Cmd). x) (c ∷ [])) ≡ d ∷ []))
    go None k = absurd (cc)
    go (Some (AddDep q d)) k = (d, (refl, same q d (let s : q ≡ p = cc in s)))
    go (Some c) k = absurd (cc)

given_nothing : (b : Body) (p : Obj) → added_to b ≢ Some p → given p b ≡ []
given_nothing b p h = go (obeyed_command b) h
  where
    go : (c : Option Cmd) → option_and_then object_given c ≢ Some p
        → flat_map (deps_added_by p) (filter_map (λ (x : Option Cmd). x) (c ∷ [])) ≡ []
    go None k = refl
    go (Some (AddDep q d)) k =
        elim (object_cases p q) [ inl c ↦ absurd (k (ap Some (sym c.1))) | inr c ↦ (rw c refl) ]
    go (Some c) k = refl

module _ (kept : List Entry) (e : Entry) where
  additions_here : (v : ℕ) (p : Obj) → feed_eq (Events v) e.feed ≡ true
      → additions (kept ++ e ∷ []) v p ≡ additions kept v p ++ given p e.body
  additions_here v p same =
      ap (λ (l : List Body). flat_map (deps_added_by p) (commands l)) (list_with kept e (Events v) same)
      ∙ ap (λ (l : List Cmd). flat_map (deps_added_by p) l) (commands_with (list_of kept (Events v)) e.body)
      ∙ flat_map-append (deps_added_by p) (commands (list_of kept (Events v))) (filter_map obeyed_command (e.body ∷ []))

  -- an object to which nothing is added
  additions_stay : (v : ℕ) (p : Obj) → added_to e.body ≢ Some p → additions (kept ++ e ∷ []) v p ≡ additions kept v p
  additions_stay v p h =
      elim (feed_cases (Events v) e.feed) [
        | inl c ↦ (additions_here v p c.0
            ∙ ap (λ (l : List Dep). additions kept v p ++ l) (given_nothing e.body p h) ∙ append-nil (additions kept v p))
        | inr c ↦ ap (λ (l : List Body). flat_map (deps_added_by p) (commands l)) (list_without kept e (Events v) c)
      ]

  module _ (end : ℕ) (old new : PairTable (Option ℕ)) (at_end : length kept ≡ end) (h : AreAddedRows kept old) where
    -- a dependency is added
    added_told : (w : ℕ) (p : Obj) (d : Dep) → e.feed ≡ Events w → added_to e.body ≡ Some p → added_by e.body ≡ Some d
        → given p e.body ≡ d ∷ []
        → ((q : ℕ × (ℕ × ℕ))
        → pair_row_in new q
        ≡ cond (keys_meet same_key (w, (object_number p, length (additions kept w p))) q) (Some end) (pair_row_in old q))
        → AreAddedRows (kept ++ e ∷ []) new
    added_told w p d feed whose which what put v o i =
        subst (StandsAt dep_in (kept ++ e ∷ []) (additions (kept ++ e ∷ []) v o) i)
        (sym (put (v, (object_number o, i))))
        (go (keys_meet same_key (w, (object_number p, length (additions kept w p))) (v, (object_number o, i))) refl)
      where
        grown : w ≡ v → p ≡ o → additions (kept ++ e ∷ []) v o ≡ additions kept v o ++ d ∷ []
        grown s t =
            additions_here v o (ap (feed_eq (Events v)) (feed ∙ ap Events s) ∙ itself (Events v))
            ∙ ap (λ (l : List Dep). additions kept v o ++ l) (ap (λ (x : Obj). given x e.body) (sym t) ∙ what)

        told : w ≡ v → p ≡ o → length (additions kept w p) ≡ i
            → StandsAt dep_in (kept ++ e ∷ []) (additions (kept ++ e ∷ []) v o) i (Some end)
        told s t l =
            stands_last dep_in kept e (additions kept v o) (additions (kept ++ e ∷ []) v o) d i end (grown s t) which at_end
            (sym l ∙ λ j. length (additions kept (s j) (t j)))

        meet : w ≡ v → p ≡ o → i ≡ length (additions kept v o)
            → keys_meet same_key (w, (object_number p, length (additions kept w p))) (v, (object_number o, i)) ≡ true
        meet s t l =
            let x : i ≡ length (additions kept w p) = l ∙ sym (λ j. length (additions kept (s j) (t j))) in
            (λ j. keys_meet same_key (w, (object_number p, length (additions kept w p)))
            ((sym s) j, (object_number ((sym t) j), x j)))
            ∙ keys_alike same_key key_is_itself (w, (object_number p, length (additions kept w p)))

        quiet : additions (kept ++ e ∷ []) v o ≡ additions kept v o
            → StandsAt dep_in (kept ++ e ∷ []) (additions (kept ++ e ∷ []) v o) i (pair_row_in old (v, (object_number o, i)))
        quiet same =
            stands_quiet dep_in kept e (additions kept v o) (additions (kept ++ e ∷ []) v o) i
            (pair_row_in old (v, (object_number o, i))) same (h v o i)

        other : w ≡ v → p ≡ o
            → keys_meet same_key (w, (object_number p, length (additions kept w p))) (v, (object_number o, i)) ≡ false
            → StandsAt dep_in (kept ++ e ∷ []) (additions (kept ++ e ∷ []) v o) i (pair_row_in old (v, (object_number o, i)))
        other s t c =
            stands_other dep_in kept e (additions kept v o) (additions (kept ++ e ∷ []) v o) d i
            (pair_row_in old (v, (object_number o, i))) (grown s t)
            (λ l. absurd (let r : true ≡ false = sym (meet s t l) ∙ c in cc)) (h v o i)

        go : (b : Bool)
            → keys_meet same_key (w, (object_number p, length (additions kept w p))) (v, (object_number o, i)) ≡ b
            → StandsAt dep_in (kept ++ e ∷ []) (additions (kept ++ e ∷ []) v o) i
            (cond b (Some end) (pair_row_in old (v, (object_number o, i))))
        go true c =
            let keys : (w, (object_number p, length (additions kept w p))) ≡ (v, (object_number o, i)) =
            keys_tell same_key key_tells (w, (object_number p, length (additions kept w p))) (v, (object_number o, i)) c in
            told (λ j. (keys j).0) (one_object p o (λ j. (keys j).1.0)) (λ j. (keys j).1.1)
        go false c =
            elim (feed_cases (Events v) e.feed) [
              | inl a ↦ elim (object_cases p o) [
                | inl t ↦ other (one_station w v (sym feed ∙ sym a.1)) t.1 c
                | inr t ↦ quiet (additions_stay v o (λ x. absurd (apart (let y : Some p ≡ Some o = sym whose ∙ x in y) t)))
              ]
              | inr a ↦ quiet (ap (λ (l : List Body). flat_map (deps_added_by o) (commands l)) (list_without kept e (Events v) a))
            ]
          where
            one_station : (a b : ℕ) → Events a ≡ Events b → a ≡ b
            one_station a b s = cc

            apart : Some p ≡ Some o → obj_eq p o ≡ false → ⊥
            apart y t =
                let z : p ≡ o = cc in
                elim (object_cases o o) [
                  | inl u ↦ (let r : true ≡ false = sym u.0 ∙ ap (λ (x : Obj). obj_eq x o) (sym z) ∙ t in cc)
                  | inr u ↦ absurd (never o u)
                ]
              where
                never : (x : Obj) → obj_eq x x ≡ false → ⊥
                never (Job j) u = let r : true ≡ false = sym (number_itself j) ∙ u in cc
                never (Stream s) u = let r : true ≡ false = sym (number_itself s) ∙ u in cc

    who : (o : Option Obj) (f : Feed) (k : ℕ × (ℕ × ℕ)) → addition_at kept o f ≡ Some k
        → (w : ℕ) × ((p : Obj) × ((f ≡ Events w) × ((o ≡ Some p) × (k ≡ (w, (object_number p, length (additions kept w p)))))))
    who o (Orders a w) k g = absurd (cc)
    who None (Events w) k g = absurd (cc)
    who (Some p) (Events w) k g = (w, (p, (refl, (refl, (let t : Some k ≡ Some (w, (object_number p, length (additions kept w p))) = sym g in cc)))))

    pub added_with : (k : ℕ × (ℕ × ℕ)) → addition_in kept e ≡ Some k
        → ((q : ℕ × (ℕ × ℕ)) → pair_row_in new q ≡ cond (keys_meet same_key k q) (Some end) (pair_row_in old q))
        → AreAddedRows (kept ++ e ∷ []) new
    added_with k g put =
        let a : (w : ℕ) × ((p : Obj) × ((e.feed ≡ Events w) × ((added_to e.body ≡ Some p)
        × (k ≡ (w, (object_number p, length (additions kept w p))))))) = who (added_to e.body) e.feed k g in
        let b : (d : Dep) × ((added_by e.body ≡ Some d) × (given a.1.0 e.body ≡ d ∷ [])) =
        given_to e.body a.1.0 a.1.1.1.0 in
        added_told a.0 a.1.0 b.0 a.1.1.0 a.1.1.1.0 b.1.0 b.1.1
        (subst (λ (k : ℕ × (ℕ × ℕ)). (q : ℕ × (ℕ × ℕ))
        → pair_row_in new q ≡ cond (keys_meet same_key k q) (Some end) (pair_row_in old q)) a.1.1.1.1 put)

    -- none is
    pub added_without : addition_in kept e ≡ None → AreAddedRows (kept ++ e ∷ []) old
    added_without g v o i =
        stands_quiet dep_in kept e (additions kept v o) (additions (kept ++ e ∷ []) v o) i
        (pair_row_in old (v, (object_number o, i))) same (h v o i)
      where
        none_added : (x : Option Obj) (f : Feed) → f ≡ Events v → addition_at kept x f ≡ None → x ≡ None
        none_added x (Orders a w) s t = cc
        none_added None (Events w) s t = refl
        none_added (Some p) (Events w) s t = cc

        same : additions (kept ++ e ∷ []) v o ≡ additions kept v o
        same =
            elim (feed_cases (Events v) e.feed) [
              | inl c ↦ additions_stay v o (λ x. absurd (
                  let y : added_to e.body ≡ None = none_added (added_to e.body) e.feed (sym c.1) g in
                  let z : None ≡ Some o = sym y ∙ x in cc))
              | inr c ↦ ap (λ (l : List Body). flat_map (deps_added_by o) (commands l)) (list_without kept e (Events v) c)
            ]

-- the key of a dependency that an entry adds: as many stand before it as the object's row counts
pub key_told : (kept : List Entry) (e : Entry) (t : Told) (w n : ℕ) (o : Obj) (row : ObjectRow) → AreTold kept t
    → e.feed ≡ Events w → added_to e.body ≡ Some o → n ≡ object_number o → row ≡ row_in t.work.objects (w, n)
    → Some (w, (n, row.added)) ≡ addition_in kept e
key_told kept e t w n o row h feed whose number got =
    let count : row.added ≡ length (additions kept w o) =
    ap (λ (r : ObjectRow). r.added) got ∙ (h.work.objects w n o (sym number)).added in
    (λ j. Some (w, (number j, count j))) ∙ (λ j. addition_at kept (sym whose j) (sym feed j))

-- issuers
pub issuers_with : (kept : List Entry) (e : Entry) (old new : Table Bool) (k : ℕ × ℕ) → issuer_of e.feed ≡ Some k
    → AreIssuers kept old → ((q : ℕ × ℕ) → row_in new q ≡ cond (same_key k q) true (row_in old q))
    → AreIssuers (kept ++ e ∷ []) new
issuers_with kept e old new k g h put a =
    put (a, 0) ∙ ap (λ (t : Bool). cond (same_key k (a, 0)) true t) (h a)
    ∙ (go e.feed g) ∙ sym (any_with (λ (x : Entry). is_issued_by a x.feed) kept e)
  where
    one : (a b w : ℕ) (p t : Bool) → eqb b a ≡ p → cond (p && eqb 0 0) true t ≡ (t || eqb a b)
    one a b w true true s = refl
    one a b w true false s =
        elim (eqb_tells a b) [
          | inl c ↦ sym c.0
          | inr c ↦ absurd (let x : a ≡ b = sym (number_tells b a s) in c.1 x)
        ]
    one a b w false true s = refl
    one a b w false false s =
        elim (eqb_tells a b) [
          | inl c ↦ absurd (let x : eqb b b ≡ false = ap (eqb b) (sym c.1) ∙ s in let y : eqb b b ≡ true = number_itself b in cc)
          | inr c ↦ sym c.0
        ]

    go : (f : Feed) → issuer_of f ≡ Some k
        → cond (same_key k (a, 0)) true (has_issued kept a) ≡ (has_issued kept a || is_issued_by a f)
    go (Events w) s = cc
    go (Orders b w) s =
        let t : (b, 0) ≡ k = cc in
        ap (λ (q : ℕ × ℕ). cond (same_key q (a, 0)) true (has_issued kept a)) (sym t)
        ∙ one a b w (eqb b a) (has_issued kept a) refl

pub issuers_without : (kept : List Entry) (e : Entry) (old : Table Bool) → issuer_of e.feed ≡ None
    → AreIssuers kept old → AreIssuers (kept ++ e ∷ []) old
issuers_without kept e old g h a =
    h a ∙ go e.feed g (has_issued kept a) ∙ sym (any_with (λ (x : Entry). is_issued_by a x.feed) kept e)
  where
    go : (f : Feed) → issuer_of f ≡ None → (t : Bool) → t ≡ (t || is_issued_by a f)
    go (Orders b w) s t = cc
    go (Events w) s true = refl
    go (Events w) s false = refl

-- rows that are read as before
pub entries_same : (kept : List Entry) (old new : PairTable (Option ℕ))
    → ((q : ℕ × (ℕ × ℕ)) → pair_row_in new q ≡ pair_row_in old q) → AreEntryRows kept old → AreEntryRows kept new
entries_same kept old new same h f i =
    subst (StandsAt body_in kept (list_of kept f) i) (sym (same (place_key f i))) (h f i)

pub added_same : (kept : List Entry) (old new : PairTable (Option ℕ))
    → ((q : ℕ × (ℕ × ℕ)) → pair_row_in new q ≡ pair_row_in old q) → AreAddedRows kept old → AreAddedRows kept new
added_same kept old new same h w o i =
    subst (StandsAt dep_in kept (additions kept w o) i) (sym (same (w, (object_number o, i)))) (h w o i)

pub issuers_same : (kept : List Entry) (old new : Table Bool) → ((q : ℕ × ℕ) → row_in new q ≡ row_in old q)
    → AreIssuers kept old → AreIssuers kept new
issuers_same kept old new same h a = same (a, 0) ∙ h a

-- what is read by a row
pub nth_found : (kept view : List Entry) (f : Feed) (place : ℕ) (row got : Option ℕ) → kept ≡ view → 0 < place
    → StandsAt body_in kept (list_of kept f) (place - 1) row → got ≡ row
    → nth (list_of view f) place ≡ option_and_then (found_at body_in view) got
nth_found kept view f zero row got e k h s = absurd (omega (arith, k))
nth_found kept view f (suc n) row got e k h s =
    let m : suc n - 1 ≡ n = omega arith in
    ap (λ (l : List Entry). slice_get (list_of l f) n) (sym e)
    ∙ ap (λ (i : ℕ). slice_get (list_of kept f) i) (sym m) ∙ h.0
    ∙ (λ j. option_and_then (found_at body_in (e j)) ((sym s) j))

pub addition_found : (kept view : List Entry) (w : ℕ) (o : Obj) (place : ℕ) (row got : Option ℕ) → kept ≡ view
    → StandsAt dep_in kept (additions kept w o) place row → got ≡ row
    → slice_get (additions view w o) place ≡ option_and_then (found_at dep_in view) got
addition_found kept view w o place row got e h s =
    ap (λ (l : List Entry). slice_get (additions l w o) place) (sym e) ∙ h.0
    ∙ (λ j. option_and_then (found_at dep_in (e j)) ((sym s) j))

-- one who issued none
pub none_issued : (kept : List Entry) (a w : ℕ) → has_issued kept a ≡ false → list_of kept (Orders a w) ≡ []
unfolding list_of
none_issued [] a w h = refl
none_issued (e ∷ es) a w h = go (is_issued_by a e.feed) refl h (none_issued es a w)
  where
    other : (f : Feed) → is_issued_by a f ≡ false → feed_eq (Orders a w) f ≡ false
    other (Events v) k = refl
    other (Orders b v) k = rw k refl

    go : (t : Bool) → is_issued_by a e.feed ≡ t → (t || has_issued es a) ≡ false
        → (has_issued es a ≡ false → list_of es (Orders a w) ≡ []) → list_of (e ∷ es) (Orders a w) ≡ []
    go true s k ih = cc
    go false s k ih = rw (other e.feed s) (ih k)
