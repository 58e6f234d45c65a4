-- The rows of a text are fit.
use Rattle.std.proofs.Common.{[], ℕ, ◌∷◌, Bool, codes, if◌then◌else◌, IfSome, List, map, None}
use Rattle.std.proofs.Common.{option_map, Option, Some, true, false, unwrap_or}
use Rattle.std.proofs.lemmas.List.Elements.{All-cons, All-head, All-nil, All-tail}
use Rattle.std.specs.List.{All}
use Rattle.lemmas.proofs.Options.{some_mapped}
use Rattle.syntax.specs.Names.{name_of}
use Rattle.syntax.specs.Splits.{after_word, first_word, lines_of, words_of}
use Rattle.model.specs.Fit.{IsFitText}
use Rattle.record_rows.specs.Plans.{dep_of, job_of, part_of, stream_of}
use Rattle.record_rows.specs.Rows.{◌else_◌, carry_of, flags_of, form_below, form_of, header_of, is_skipped, network_row, plan_row}
use Rattle.record_rows.specs.Rows.{prompt_of, resource_of, row_of, station_of}
use Rattle.record_rows.specs.Steps.{step_of}
use Rattle.record_rows.specs.Words.{◌is◌, text_of, up_to}
use Rattle.record_rows.specs.declared.rows.JobRow.{JobRow}
use Rattle.record_rows.specs.declared.rows.Row.{Row}
use Rattle.record_rows.specs.declared.rows.Row.TheVariants as row
use Rattle.record_rows.specs.declared.rows.StreamRow.{StreamRow}
use Rattle.record_faults.specs.Places.{below_row, fate_of, placed_from, row_at, settled}
use Rattle.record_faults.specs.declared.places.Place.{Place}
use Rattle.record_faults.specs.declared.places.Place.TheVariants as place
use Rattle.record_faults.specs.declared.places.Fate.{Fate}
use Rattle.record_faults.specs.declared.places.Fate.TheVariants as fate
use Rattle.record_script.specs.Scripts.{placed}
use Rattle.record_laws.proofs.FitRows.{IsFitDepRow, IsFitPart, IsFitRow, IsFitStepRow}
use Rattle.record_laws.proofs.Options.{always, chained}
use Rattle.record_laws.proofs.PlanRows.{dep_fit, job_named, part_fit, stream_named}
use Rattle.record_laws.proofs.StepRows.{step_fit}

-- the first of two answers
first_of_two : (o p : Option Row) → IfSome o IsFitRow → IfSome p IsFitRow → IfSome (o else_ p) IsFitRow
first_of_two None p h k = k
first_of_two (Some r) p h k = h

header_fit : (text : List ℕ) → IfSome (header_of text) IsFitRow
header_fit text =
    go (text is codes "$NETWORK") (text is codes "$DEFINITIONS") (text is codes "$PLAN") (text is codes "$STEPS")
  where
    go : (a b c d : Bool) → IfSome (
        if a then Some row.Network else
        if b then Some row.Definitions else
        if c then Some row.Plan else
        if d then Some row.Steps else None) IsFitRow
    go true b c d = tt
    go false true c d = tt
    go false false true d = tt
    go false false false true = tt
    go false false false false = tt

station_fit : (words : List (List ℕ)) → IfSome (station_of words) IsFitRow
unfolding station_of
station_fit [] = tt
station_fit (name ∷ []) = always IsFitRow (name_of name) row.Master (λ n. tt)
station_fit (name ∷ hop ∷ rest) =
    chained IsFitRow (name_of name) _ (λ n.
    chained IsFitRow (name_of hop) _ (λ h.
    chained IsFitRow (flags_of rest) _ (λ f. tt)))

resource_fit : (words : List (List ℕ)) → IfSome (resource_of words) IsFitRow
unfolding resource_of
resource_fit [] = tt
resource_fit (ws ∷ []) = tt
resource_fit (ws ∷ name ∷ []) = tt
resource_fit (ws ∷ name ∷ total ∷ []) =
    chained IsFitRow (name_of ws) _ (λ w.
    chained IsFitRow (name_of name) _ (λ n.
    chained IsFitRow (up_to 1024 total) _ (λ t. tt)))
resource_fit (ws ∷ name ∷ total ∷ more ∷ words) = tt

prompt_fit : (rest : List ℕ) → IfSome (prompt_of rest) IsFitRow
unfolding prompt_of
prompt_fit rest =
    chained IsFitRow (name_of (first_word rest)) (λ n. option_map (row.Prompt n) (text_of (after_word rest)))
    (λ n. always IsFitRow (text_of (after_word rest)) (row.Prompt n) (λ t. tt))

network_fit : (word rest : List ℕ) → IfSome (network_row word rest) IsFitRow
unfolding network_row
network_fit word rest =
    go (word is codes "ws") (word is codes "res") (word is codes "prompt") (word is codes "carryforward")
  where
    go : (a b c d : Bool) → IfSome (
        if a then station_of (words_of rest) else
        if b then resource_of (words_of rest) else
        if c then prompt_of rest else
        if d then option_map row.CarryForward (carry_of rest) else None) IsFitRow
    go true b c d = station_fit (words_of rest)
    go false true c d = resource_fit (words_of rest)
    go false false true d = prompt_fit rest
    go false false false true = always IsFitRow (carry_of rest) row.CarryForward (λ c. tt)
    go false false false false = tt

plan_fit : (word rest : List ℕ) → IfSome (plan_row word rest) IsFitRow
unfolding plan_row
plan_fit word rest = go (word is codes "stream") (word is codes "job")
  where
    go : (a b : Bool) → IfSome (
        if a then option_map row.Stream (stream_of (words_of rest)) else
        if b then option_map row.Job (job_of (words_of rest)) else None) IsFitRow
    go true b =
        some_mapped (λ (s : StreamRow). IsFitText s.name) IsFitRow (stream_of (words_of rest)) row.Stream
        (stream_named (words_of rest)) (λ s h. h)
    go false true =
        some_mapped (λ (j : JobRow). IsFitText j.name) IsFitRow (job_of (words_of rest)) row.Job
        (job_named (words_of rest)) (λ j h. h)
    go false false = tt

below_fit : (text : List ℕ) → IfSome (form_below text) IsFitRow
unfolding form_below
below_fit text =
    first_of_two (network_row (first_word text) (after_word text)) _ (network_fit (first_word text) (after_word text))
    (first_of_two (plan_row (first_word text) (after_word text)) _ (plan_fit (first_word text) (after_word text))
    (first_of_two (option_map row.Part (part_of (first_word text) (after_word text))) _
    (some_mapped IsFitPart IsFitRow (part_of (first_word text) (after_word text)) row.Part
    (part_fit (first_word text) (after_word text)) (λ p h. h))
    (first_of_two (option_map row.Dep (dep_of (first_word text) (after_word text))) _
    (some_mapped IsFitDepRow IsFitRow (dep_of (first_word text) (after_word text)) row.Dep
    (dep_fit (first_word text) (after_word text)) (λ d h. h))
    (some_mapped IsFitStepRow IsFitRow (step_of text) row.Step (step_fit text) (λ s h. h)))))

or_none : (o : Option Row) → IfSome o IsFitRow → IsFitRow (unwrap_or o row.NoForm)
or_none None h = tt
or_none (Some r) h = h

row_fit : (text : List ℕ) → IsFitRow (row_of text)
unfolding row_of form_of
row_fit text = go (is_skipped text)
  where
    go : (b : Bool) → IsFitRow (if b then row.Skipped else unwrap_or (header_of text else_ form_below text) row.NoForm)
    go true = tt
    go false =
        or_none (header_of text else_ form_below text)
        (first_of_two (header_of text) (form_below text) (header_fit text) (below_fit text))

rows_fit : (lines : List (List ℕ)) → All IsFitRow (map row_of lines)
rows_fit [] = All-nil IsFitRow
rows_fit (line ∷ lines) = All-cons IsFitRow (row_of line) (map row_of lines) (row_fit line) (rows_fit lines)

-- rows as they stand
settled_fit : (f : Fate) (r : Row) → IsFitRow r → IsFitRow (settled f r)
settled_fit fate.Stands r h = h
settled_fit fate.Skipped r h = tt
settled_fit fate.NoForm r h = tt

placed_fit : (rows : List Row) (above : Place) → All IsFitRow rows → All IsFitRow (placed_from above rows)
unfolding placed_from
placed_fit [] above h = All-nil IsFitRow
placed_fit (r ∷ rows) above h =
    All-cons IsFitRow (row_at above r) (placed_from (below_row above (row_at above r)) rows)
    (settled_fit (fate_of above r) r (All-head IsFitRow r rows h))
    (placed_fit rows (below_row above (row_at above r)) (All-tail IsFitRow r rows h))

pub text_fit : (text : List ℕ) → All IsFitRow (placed text)
text_fit text = placed_fit (map row_of (lines_of text)) place.Nothing (rows_fit (lines_of text))
