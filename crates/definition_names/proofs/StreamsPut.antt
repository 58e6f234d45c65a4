-- One stream more in the tables of streams, and one stream's entries more in that of entries.
use Rattle.std.proofs.Common.{◌≡◌, ◌≢◌, ℕ, ◌+◌, ◌<◌, ◌≤◌, ◌∙◌, ◌==◌, ◌&&◌, Bool, true, false, List, Bor, Option, Some, None, ap, arith, bytes_eq, cond, get_or, inl, inr}
use Rattle.std.proofs.Common.{length, nat_lt, option_and_then, refl, slice_get, subst, sym}
use Rattle.std.proofs.lemmas.Bool.Decides.{eqb_tells, nat_tests}
use Rattle.std.proofs.lemmas.Option.{slice_get_past, slice_get_read}
use Rattle.lemmas.proofs.Numbers.{lt_itself, lt_told}
use Rattle.composer_parser.specs.declared.Lined.{Lined}
use Rattle.composer_parser.specs.declared.ScheduleDef.{ScheduleDef}
use Rattle.definition_names.specs.Streams.{is_one_ws, entry_at, entry_among}
use Rattle.definition_names.specs.Indexes.{name_in, pair_in, entry_in, stream_in}
use Rattle.definition_names.specs.declared.streams.StreamIndex.{StreamIndex}

pub put_placed : (old new : StreamIndex) (ws name : List ℕ) (place : Option ℕ)
    → ((on other : List ℕ) → pair_in new.placed.entries on other
    ≡ cond (bytes_eq on ws && bytes_eq other name) place (pair_in old.placed.entries on other))
    → new.nameless.entries ≡ old.nameless.entries → (on_ws : Option (List ℕ)) (n : List ℕ)
    → stream_in new on_ws n ≡ cond (is_one_ws on_ws (Some ws) && bytes_eq n name) place (stream_in old on_ws n)
put_placed old new ws name place put same None n = ap (λ (l : List (Bor (List ℕ) × ℕ)). name_in l n) same
put_placed old new ws name place put same (Some a) n = put a n

pub put_nameless : (old new : StreamIndex) (name : List ℕ) (place : Option ℕ)
    → ((other : List ℕ) → name_in new.nameless.entries other
    ≡ cond (bytes_eq other name) place (name_in old.nameless.entries other))
    → new.placed.entries ≡ old.placed.entries → (on_ws : Option (List ℕ)) (n : List ℕ)
    → stream_in new on_ws n ≡ cond (is_one_ws on_ws None && bytes_eq n name) place (stream_in old on_ws n)
put_nameless old new name place put same None n = put n
put_nameless old new name place put same (Some a) n =
    ap (λ (l : List ((Bor (List ℕ) × Bor (List ℕ)) × ℕ)). pair_in l a n) same

-- the entries of the streams before a place
abbrev pub before_place : List (Lined ScheduleDef) → ℕ → ℕ → List ℕ → Option ℕ
before_place schedules n m name = cond (nat_lt m n) (entry_among schedules m name) None

same_below : (m n : ℕ) → m ≢ n → nat_lt m (n + 1) ≡ nat_lt m n
same_below m n apart = grind (arith, nat_tests)

pub entries_more : (schedules : List (Lined ScheduleDef)) (n : ℕ) (s : Lined ScheduleDef)
    (old new : List ((ℕ × Bor (List ℕ)) × ℕ)) → slice_get schedules n ≡ Some s
    → ((m : ℕ) (name : List ℕ) → entry_in old m name ≡ before_place schedules n m name)
    → ((m : ℕ) (name : List ℕ) → (m == n) ≡ false → entry_in new m name ≡ entry_in old m name)
    → (it : ScheduleDef)
    → ((name : List ℕ) → entry_in old n name ≡ None → entry_in new n name ≡ entry_at it name)
    → it ≡ s.item
    → (m : ℕ) (name : List ℕ) → entry_in new m name ≡ before_place schedules (n + 1) m name
entries_more schedules n s old new got before others it own same m name =
    elim (eqb_tells m n) [
      | inl e ↦
          let here : n < n + 1 = omega arith in
          subst (λ (k : ℕ). entry_in new k name ≡ before_place schedules (n + 1) k name) (sym e.1)
          (own name
          (before n name ∙ ap (λ (b : Bool). cond b (entry_among schedules n name) None) (lt_itself n))
          ∙ (ap (λ (x : ScheduleDef). entry_at x name) same
          ∙ (sym (ap (option_and_then (λ (x : Lined ScheduleDef). entry_at x.item name)) got)
          ∙ sym (ap (λ (b : Bool). cond b (entry_among schedules n name) None) (lt_told n (n + 1) here)))))
      | inr o ↦
          others m name o.0
          ∙ (before m name ∙ sym (ap (λ (b : Bool). cond b (entry_among schedules m name) None) (same_below m n o.1)))
    ]

-- and of all streams
pub entries_all : (schedules : List (Lined ScheduleDef)) (n : ℕ) (index : List ((ℕ × Bor (List ℕ)) × ℕ))
    → length schedules ≤ n → ((m : ℕ) (name : List ℕ) → entry_in index m name ≡ before_place schedules n m name)
    → (m : ℕ) (name : List ℕ) → entry_in index m name ≡ entry_among schedules m name
entries_all schedules n index all before m name = before m name ∙ go (nat_lt m n) refl
  where
    go : (b : Bool) → nat_lt m n ≡ b → cond b (entry_among schedules m name) None ≡ entry_among schedules m name
    go true h = refl
    go false h =
        let far : length schedules ≤ m = grind (arith, nat_tests) in
        sym (ap (option_and_then (λ (x : Lined ScheduleDef). entry_at x.item name)) (slice_get_past schedules m far))
