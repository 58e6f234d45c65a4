-- The free days of streams, and a number for each kind of them.
use Rattle.std.proofs.Common.{◌≡◌, ◌⊎◌, ℕ, zero, suc, ◌+◌, ◌*◌, ◌<◌, Bool, true, false, cond, List, [], ◌∷◌, ◌++◌, bytes_eq, get_or, length, map}
use Rattle.std.proofs.Common.{Option, Some, None, ap, arith, inl, inr, option_map, refl, slice_get, slice_index, sym, ◌∙◌, eqb}
use Rattle.std.proofs.Common.{Result, Ok, Err, IfOk, OnOk}
use Rattle.std.proofs.lemmas.Bool.{cases_lt}
use Rattle.std.proofs.lemmas.Bool.Decides.{eqb_tells}
use Rattle.std.proofs.lemmas.List.{get_or_append_left}
use Rattle.std.proofs.lemmas.Option.{slice_get-get_or, slice_get_read}
use Rattle.std.specs.List.{position_from}
use Rattle.std.specs.Option.{option_map_or}
use Rattle.lemmas.proofs.Texts.{bytes_turned}
use Rattle.lemmas.proofs.Lists.{get_last, index_last}
use Rattle.calendars.specs.declared.FreeDays.{FreeDays}
use Rattle.composer_parser.specs.declared.CalendarDef.{CalendarDef}
use Rattle.composer_parser.specs.declared.Defs.{Defs}
use Rattle.composer_parser.specs.declared.Lined.{Lined}
use Rattle.composer_parser.specs.declared.ScheduleDef.{ScheduleDef}
use Rattle.model.specs.Words.{ascending}
use Rattle.workload_defs.specs.Days.{IsKindOf, days_at, free_of, free_of_kind, free_of_stream, key_of, one_if}
use Rattle.workload_defs.specs.Tables.{AreMade, StaysIn, number_at}
use Rattle.workload_defs.specs.declared.days.FreeKind.{FreeKind}

place_number : Option ℕ → ℕ
place_number o = option_map_or (λ p. p + 1) o 0

digits : (m n : ℕ) (s t u v : Bool) → m * 4 + (2 * one_if s + one_if t) ≡ n * 4 + (2 * one_if u + one_if v)
    → (m ≡ n) × (s ≡ u) × (t ≡ v)
digits m n true true true true h = (omega (arith, h), refl, refl)
digits m n true false true false h = (omega (arith, h), refl, refl)
digits m n false true false true h = (omega (arith, h), refl, refl)
digits m n false false false false h = (omega (arith, h), refl, refl)
digits m n true true true false h = absurd (omega (arith, h))
digits m n true true false true h = absurd (omega (arith, h))
digits m n true true false false h = absurd (omega (arith, h))
digits m n true false true true h = absurd (omega (arith, h))
digits m n true false false true h = absurd (omega (arith, h))
digits m n true false false false h = absurd (omega (arith, h))
digits m n false true true true h = absurd (omega (arith, h))
digits m n false true true false h = absurd (omega (arith, h))
digits m n false true false false h = absurd (omega (arith, h))
digits m n false false true true h = absurd (omega (arith, h))
digits m n false false true false h = absurd (omega (arith, h))
digits m n false false false true h = absurd (omega (arith, h))

places : (a b : Option ℕ) → option_map_or (λ p. p + 1) a 0 ≡ option_map_or (λ p. p + 1) b 0 → a ≡ b
places None None h = refl
places None (Some n) h = absurd (omega (arith, h))
places (Some m) None h = absurd (omega (arith, h))
places (Some m) (Some n) h = let e : m ≡ n = omega (arith, h) in ap Some e

-- kinds of one number have the same free days
pub one_key : (d : Defs) (k l : FreeKind) → key_of k ≡ key_of l → free_of_kind d k ≡ free_of_kind d l
one_key d k l h =
    let parts =
    digits (option_map_or (λ p. p + 1) k.calendar 0) (option_map_or (λ p. p + 1) l.calendar 0) k.sa k.su l.sa l.su h in
    let calendars = places k.calendar l.calendar parts.0 in
    λ j. record { dates = ascending (days_at d (calendars j)); sa = parts.1 j; su = parts.2 j }

stays_behind : {X : Type 0} (xs : List X) (y : X) (i : ℕ) (x : X) → slice_get xs i ≡ Some x → slice_get (xs ++ y ∷ []) i ≡ Some x
stays_behind [] y i x h = cc
stays_behind (z ∷ zs) y zero x h = h
stays_behind (z ∷ zs) y (suc i) x h = stays_behind zs y i x h

-- a kind that is added
pub stays_added : (old new : List FreeDays) (free : FreeDays) → new ≡ old ++ free ∷ [] → StaysIn old new
stays_added old new free is = λ place x there.
    ap (λ (l : List FreeDays). slice_get l place) is ∙ stays_behind old free place x there

pub there_added : (old new : List FreeDays) (free : FreeDays) (place : ℕ) → new ≡ old ++ free ∷ [] → place ≡ length old
    → slice_get new place ≡ Some free
there_added old new free place is at =
    ap (λ (l : List FreeDays). slice_get l place) is
    ∙ (ap (λ n. slice_get (old ++ free ∷ []) n) at ∙ get_last old free)

pub made_added : (d : Defs) (old new : List FreeDays) (was is : List (ℕ × ℕ)) (kind : FreeKind) (key place : ℕ)
    → AreMade d old was → new ≡ old ++ free_of_kind d kind ∷ [] → place ≡ length old → key ≡ key_of kind
    → ((other : ℕ) → number_at is other ≡ cond (eqb other key) (Some place) (number_at was other))
    → AreMade d new is
made_added d old new was is kind key place made grown at own put = λ other found there. go other found (eqb_tells (key_of other) key) (sym (put (key_of other)) ∙ there)
  where
    go : (other : FreeKind) (found : ℕ)
        → ((eqb (key_of other) key ≡ true) × (key_of other ≡ key)) ⊎ ((eqb (key_of other) key ≡ false) × (key_of other ≡ key → ⊥))
        → cond (eqb (key_of other) key) (Some place) (number_at was (key_of other)) ≡ Some found
        → slice_get new found ≡ Some (free_of_kind d other)
    go other found (inl e) there =
        let here : Some place ≡ Some found =
        sym (ap (λ b. cond b (Some place) (number_at was (key_of other))) e.0) ∙ there in
        let same : place ≡ found = cc in
        ap (slice_get new) (sym same)
        ∙ (there_added old new (free_of_kind d kind) place grown at
        ∙ ap Some (one_key d kind other (sym own ∙ sym e.1)))
    go other found (inr e) there =
        stays_added old new (free_of_kind d kind) grown found (free_of_kind d other)
        (made other found (sym (ap (λ b. cond b (Some place) (number_at was (key_of other))) e.0) ∙ there))

-- a stream has the free days of its kind
pub kind_gives : (d : Defs) (s : ScheduleDef) (kind : FreeKind) → IsKindOf d s kind → free_of_kind d kind ≡ free_of_stream d s
kind_gives d s kind is =
    λ j. record { dates = ascending (days_at d (is.calendar_ j)); sa = is.sa_ j; su = is.su_ j }

get_before : (xs : List ℕ) (y i : ℕ) → i < length xs → slice_index (xs ++ y ∷ []) i ≡ slice_index xs i
get_before xs y i low = get_or_append_left xs (y ∷ []) 0 i low

-- the free days of the streams, one stream further
pub days_more : (d : Defs) (i : ℕ) (s : Lined ScheduleDef) (kind : FreeKind) (old new : List FreeDays)
    (was is : List ℕ) (place : ℕ)
    → i < length d.schedules → s ≡ get_or d.schedules i s → IsKindOf d s.item kind
    → StaysIn old new → slice_get new place ≡ Some (free_of_kind d kind)
    → is ≡ was ++ place ∷ [] → length was ≡ i
    → ((n : ℕ) → n < i → slice_get old (slice_index was n) ≡ free_of d n)
    → (n : ℕ) → n < i + 1 → slice_get new (slice_index is n) ≡ free_of d n
days_more d i s kind old new was is place low at of_kind stay there put each before n less =
    elim (cases_lt n i) [
      | inl lower ↦
          let inside : n < length d.schedules = omega (arith, lower, low) in
          let s' = get_or d.schedules n s in
          let own : free_of d n ≡ Some (free_of_stream d s'.item) =
          ap (λ o. option_map (λ (x : Lined ScheduleDef). free_of_stream d x.item) o) (slice_get-get_or d.schedules n s inside) in
          ap (slice_get new)
          (ap (λ (l : List ℕ). slice_index l n) put ∙ get_before was place n (omega (arith, each, lower)))
          ∙ (stay (slice_index was n) (free_of_stream d s'.item) (before n lower ∙ own) ∙ sym own)
      | inr past ↦
          let here : n ≡ length was = omega (arith, each, less, past) in
          let index : n ≡ i = omega (arith, less, past) in
          let own : free_of d i ≡ Some (free_of_stream d s.item) =
          ap (λ o. option_map (λ (x : Lined ScheduleDef). free_of_stream d x.item) o)
          (slice_get_read d.schedules (length d.schedules) i s refl low at) in
          ap (slice_get new) (ap (λ (l : List ℕ). slice_index l n) put ∙ (ap (slice_index (was ++ place ∷ [])) here ∙ index_last was place))
          ∙ (there ∙ (ap Some (kind_gives d s.item kind of_kind) ∙ (sym own ∙ ap (free_of d) (sym index))))
    ]

pub holidays_named : (name : List ℕ) (i : ℕ) (calendars : List (Lined CalendarDef))
    → position_from (λ (c : Lined CalendarDef). bytes_eq c.item.name name) i calendars
    ≡ position_from (bytes_eq name) i (map (λ (c : Lined CalendarDef). c.item.name) calendars)
holidays_named name i [] = refl
holidays_named name i (c ∷ cs) =
    ap (λ b. cond b (Some i) (position_from (λ (k : Lined CalendarDef). bytes_eq k.item.name name) (i + 1) cs))
    (bytes_turned c.item.name name)
    ∙ ap (cond (bytes_eq name c.item.name) (Some i)) (holidays_named name (i + 1) cs)

-- what holds where a call succeeded, by several of its clauses
pub if_ok : {T E P : Type 0} {Q R : T → Type 0} (r : Result T E) → OnOk r P → IfOk r Q → ((t : T) → P → Q t → R t) → IfOk r R
if_ok (Ok t) h g f = f t h g
if_ok (Err e) h g f = tt

pub on_both : {T E P S : Type 0} {Q R : T → Type 0} (r : Result T E) → OnOk r P → IfOk r Q → IfOk r R
    → ((t : T) → P → Q t → R t → S) → OnOk r S
on_both (Ok t) h g k f = f t h g k
on_both (Err e) h g k f = tt
