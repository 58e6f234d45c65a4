-- What is picked of rows, where some of them are passed over.
use Rattle.std.proofs.Common.{◌≡◌, ◌+◌, ℕ, Bool, true, false, List, [], ◌∷◌, ◌++◌, Option, None, length, refl, ap, sym, ◌∙◌, arith}
use Rattle.std.proofs.Common.{flat_map, map, append-nil, append_assoc, unwrap_or, if◌then◌else◌}
use Rattle.std.specs.Prelude.{filter_map}
use Rattle.std.specs.List.{cons_option, list_all}
use Rattle.std.specs.Option.{option_map_or}
use Rattle.lemmas.proofs.Booleans.{and_parts}
use Rattle.record_faults.specs.Known.{until}
use Rattle.record_rows.specs.declared.rows.Row.{Row}
use Rattle.record_script.specs.Networks.{first_or}
use Rattle.record_script.specs.Numbers.{Numbered}
use Rattle.record_script.specs.Plans.{each}
use Rattle.record_script.specs.Steps.{step_at, steps_from}
use Rattle.record_script.specs.declared.ScriptStep.{ScriptStep}

-- Rows that all are of a kind, whatever of that kind stands behind them.
abbrev pub All : (Row → Bool) → List Row → Type 0
All q rows = (rest : List Row) → list_all q rest ≡ true → list_all q (rows ++ rest) ≡ true

pub all_none : (q : Row → Bool) → All q []
all_none q = λ rest e. e

pub all_row : (q : Row → Bool) (r : Row) → q r ≡ true → All q (r ∷ [])
all_row q r is = λ rest e. rw (is, e) refl

pub all_both : (q : Row → Bool) (xs ys : List Row) → All q xs → All q ys → All q (xs ++ ys)
all_both q xs ys h k = λ rest e. ap (list_all q) (append_assoc xs ys rest) ∙ h (ys ++ rest) (k rest e)

pub all_map : {A : Type 0} (q : Row → Bool) (g : A → Row) → ((x : A) → q (g x) ≡ true) → (xs : List A) → All q (map g xs)
all_map q g each [] = all_none q
all_map q g each (x ∷ xs) = all_both q (g x ∷ []) (map g xs) (all_row q (g x) (each x)) (all_map q g each xs)

pub all_each : {A : Type 0} (q : Row → Bool) (g : A → List Row) → ((x : A) → All q (g x)) → (xs : List A) → All q (flat_map g xs)
all_each q g each [] = all_none q
all_each q g each (x ∷ xs) = all_both q (g x) (flat_map g xs) (each x) (all_each q g each xs)

pub listed : (q : Row → Bool) (rows : List Row) → All q rows → list_all q rows ≡ true
listed q rows h = ap (list_all q) (sym (append-nil rows)) ∙ h [] refl

-- Rows of which nothing is picked.
module _ (q : Row → Bool) where
  step_down : (r : Row) (rows : List Row) → list_all q (r ∷ rows) ≡ true → (q r ≡ true) × (list_all q rows ≡ true)
  step_down r rows e = and_parts (q r) (list_all q rows) e

  pub filter_past : {B : Type 0} (f : Row → Option B) → ((r : Row) → q r ≡ true → f r ≡ None) → (rows rest : List Row)
      → list_all q rows ≡ true → filter_map f (rows ++ rest) ≡ filter_map f rest
  filter_past f none [] rest e = refl
  filter_past f none (r ∷ rows) rest e =
      let parts = step_down r rows e in
      ap (λ o. cons_option o (filter_map f (rows ++ rest))) (none r parts.0) ∙ filter_past f none rows rest parts.1

  pub each_past : {B : Type 0} (f : Row → Option B) → ((r : Row) → q r ≡ true → f r ≡ None) → (rows rest : List Row)
      → list_all q rows ≡ true → each f (rows ++ rest) ≡ each f rest
  each_past {B = B} f none [] rest e = refl
  each_past {B = B} f none (r ∷ rows) rest e =
      let parts = step_down r rows e in
      ap (λ (o : Option B). option_map_or (λ (b : B). (b, rows ++ rest) ∷ each f (rows ++ rest)) o (each f (rows ++ rest)))
      (none r parts.0)
      ∙ each_past f none rows rest parts.1

  pub first_past : {B : Type 0} (other : B) (f : Row → Option B) → ((r : Row) → q r ≡ true → f r ≡ None) → (rows rest : List Row)
      → list_all q rows ≡ true → first_or other f (rows ++ rest) ≡ first_or other f rest
  first_past other f none [] rest e = refl
  first_past other f none (r ∷ rows) rest e =
      let parts = step_down r rows e in
      ap (λ o. unwrap_or o (first_or other f (rows ++ rest))) (none r parts.0) ∙ first_past other f none rows rest parts.1

  pub until_past : (p : Row → Bool) → ((r : Row) → q r ≡ true → p r ≡ false) → (rows rest : List Row)
      → list_all q rows ≡ true → until p (rows ++ rest) ≡ rows ++ until p rest
  until_past p other [] rest e = refl
  until_past p other (r ∷ rows) rest e =
      let parts = step_down r rows e in
      ap (λ b. if b then [] else r ∷ until p (rows ++ rest)) (other r parts.0)
      ∙ ap (λ l. r ∷ l) (until_past p other rows rest parts.1)

  pub steps_past : (n : Numbered) → ((line : ℕ) (r : Row) → q r ≡ true → step_at n (line, r) ≡ None) → (rows rest : List Row)
      (line : ℕ) → list_all q rows ≡ true → steps_from n line (rows ++ rest) ≡ steps_from n (line + length rows) rest
  steps_past n none [] rest line e = ap (λ k. steps_from n k rest) (omega arith)
  steps_past n none (r ∷ rows) rest line e =
      let parts = step_down r rows e in
      ap (λ (o : Option ScriptStep). cons_option o (steps_from n (line + 1) (rows ++ rest))) (none line r parts.0)
      ∙ steps_past n none rows rest (line + 1) parts.1
      ∙ ap (λ k. steps_from n k rest) (omega arith)
