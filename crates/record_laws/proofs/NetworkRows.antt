-- The rows of lines: names are kept, and texts stand on one line.
use Rattle.std.proofs.Common.{◌≡◌, ℕ, Bool, true, false, List, [], ◌∷◌, map, Option, Some, None, option_map, IfSome, IsUtf8, codes, refl}
use Rattle.std.proofs.Common.{if◌then◌else◌}
use Rattle.std.specs.Prelude.{unwrap_or}
use Rattle.std.specs.List.{AllByRecursion}
use Rattle.base_types.specs.declared.network.Carry.{Carry}
use Rattle.syntax.specs.Names.{name_of}
use Rattle.syntax.specs.Splits.{after_word, first_word, lines_of, words_of}
use Rattle.record_rows.specs.Plans.{dep_of, job_of, part_of, stream_of}
use Rattle.record_rows.specs.Rows.{carry_of, flags_of, form_below, form_of, header_of, is_skipped, network_row, plan_row}
use Rattle.record_rows.specs.Rows.{prompt_of, resource_of, row_of, rows_of, station_of, ◌else_◌}
use Rattle.record_rows.specs.Steps.{step_of}
use Rattle.record_rows.specs.Words.{◌>>=◌, ◌is◌, text_of, up_to}
use Rattle.record_rows.specs.declared.rows.DepRow.{DepRow}
use Rattle.record_rows.specs.declared.rows.JobRow.{JobRow}
use Rattle.record_rows.specs.declared.rows.PartRow.{PartRow}
use Rattle.record_rows.specs.declared.rows.Ranged.{Ranged}
use Rattle.record_rows.specs.declared.rows.Row.{Row}
use Rattle.record_rows.specs.declared.rows.Row.TheVariants as row
use Rattle.record_rows.specs.declared.rows.StepRow.{StepRow}
use Rattle.record_rows.specs.declared.rows.StreamRow.{StreamRow}
use Rattle.history_laws.specs.Printables.{IsKeptName}
use Rattle.history_laws.proofs.Kept.{name_kept}
use Rattle.record_laws.proofs.NetworkTexts.{IsLine, IsPiece, after_piece, lines_are, text_is}

abbrev pub IsKept : Row → Type 0
IsKept (row.Master n) = IsKeptName n
IsKept (row.Station s) = IsKeptName s.name
IsKept (row.Resource w n t) = IsKeptName n
IsKept (row.Prompt n t) = IsKeptName n × IsLine t
IsKept r = Unit {0}

abbrev MayKeep : Option Row → Type 0
MayKeep o = IfSome o IsKept

either : (b : Bool) (x y : Option Row) → MayKeep x → MayKeep y → MayKeep (if b then x else y)
either true x y h k = h
either false x y h k = k

else_kept : (a b : Option Row) → MayKeep a → MayKeep b → MayKeep (a else_ b)
else_kept None b h k = k
else_kept (Some r) b h k = h

-- rows that are none of the network
free : {A : Type 0} (f : A → Row) → ((a : A) → IsKept (f a)) → (o : Option A) → MayKeep (option_map f o)
free f each None = tt
free f each (Some a) = each a

-- what a name begins
named : (w : List ℕ) (f : List ℕ → Option Row) → ((n : List ℕ) → IsKeptName n → MayKeep (f n)) → MayKeep (name_of w >>= f)
named w f each = go (name_of w) refl
  where
    go : (o : Option (List ℕ)) → name_of w ≡ o → MayKeep (o >>= f)
    go None e = tt
    go (Some n) e = each n (name_kept w n e)

given : {A : Type 0} (o : Option A) (f : A → Option Row) → ((a : A) → MayKeep (f a)) → MayKeep (o >>= f)
given None f each = tt
given (Some a) f each = each a

-- The lines of a network.

master_kept : (o : Option (List ℕ)) → IfSome o IsKeptName → MayKeep (option_map row.Master o)
master_kept None h = tt
master_kept (Some n) h = h

kept_name : (w : List ℕ) → IfSome (name_of w) IsKeptName
kept_name w = go (name_of w) refl
  where
    go : (o : Option (List ℕ)) → name_of w ≡ o → IfSome o IsKeptName
    go None e = tt
    go (Some n) e = name_kept w n e

station_kept : (words : List (List ℕ)) → MayKeep (station_of words)
unfolding station_of
station_kept [] = tt
station_kept (name ∷ []) = master_kept (name_of name) (kept_name name)
station_kept (name ∷ hop ∷ rest) =
    named name _
    (λ n kept. given (name_of hop) _
    (λ h. given (flags_of rest) (λ (f : Bool × Bool). Some (row.Station (record { name = n; hop = h; manager = f.0; full = f.1 })))
    (λ f. kept)))

resource_kept : (words : List (List ℕ)) → MayKeep (resource_of words)
unfolding resource_of
resource_kept [] = tt
resource_kept (ws ∷ []) = tt
resource_kept (ws ∷ name ∷ []) = tt
resource_kept (ws ∷ name ∷ total ∷ []) =
    given (name_of ws) _
    (λ w. named name _
    (λ n kept. given (up_to 1024 total) (λ (t : Ranged ℕ). Some (row.Resource w n t)) (λ t. kept)))
resource_kept (ws ∷ name ∷ total ∷ more ∷ rest) = tt

prompt_with : (n : List ℕ) → IsKeptName n → (o : Option (Ranged (List ℕ))) → IfSome o IsLine
    → MayKeep (option_map (row.Prompt n) o)
prompt_with n kept None h = tt
prompt_with n kept (Some t) h = (kept, h)

prompt_kept : (rest : List ℕ) → IsPiece rest → MayKeep (prompt_of rest)
unfolding prompt_of
prompt_kept rest h =
    named (first_word rest) (λ n. option_map (row.Prompt n) (text_of (after_word rest)))
    (λ n kept. prompt_with n kept (text_of (after_word rest))
    (text_is (after_word rest) (after_piece rest h)))

network_kept : (word rest : List ℕ) → IsPiece rest → MayKeep (network_row word rest)
unfolding network_row
network_kept word rest h =
    either (word is codes "ws") (station_of (words_of rest)) _ (station_kept (words_of rest))
    (either (word is codes "res") (resource_of (words_of rest)) _ (resource_kept (words_of rest))
    (either (word is codes "prompt") (prompt_of rest) _ (prompt_kept rest h)
    (either (word is codes "carryforward") (option_map row.CarryForward (carry_of rest)) None
    (free row.CarryForward (λ (c : Carry). tt) (carry_of rest)) tt)))

-- All lines.

header_kept : (text : List ℕ) → MayKeep (header_of text)
header_kept text =
    either (text is codes "$NETWORK") (Some row.Network) _ tt
    (either (text is codes "$DEFINITIONS") (Some row.Definitions) _ tt
    (either (text is codes "$PLAN") (Some row.Plan) _ tt (either (text is codes "$STEPS") (Some row.Steps) None tt tt)))

plan_kept : (word rest : List ℕ) → MayKeep (plan_row word rest)
unfolding plan_row
plan_kept word rest =
    either (word is codes "stream") (option_map row.Stream (stream_of (words_of rest))) _
    (free row.Stream (λ (s : StreamRow). tt) (stream_of (words_of rest)))
    (either (word is codes "job") (option_map row.Job (job_of (words_of rest))) None
    (free row.Job (λ (j : JobRow). tt) (job_of (words_of rest))) tt)

below_kept : (text : List ℕ) → IsPiece text → MayKeep (form_below text)
unfolding form_below
below_kept text h =
    else_kept (network_row (first_word text) (after_word text)) _
    (network_kept (first_word text) (after_word text) (after_piece text h))
    (else_kept (plan_row (first_word text) (after_word text)) _ (plan_kept (first_word text) (after_word text))
    (else_kept (option_map row.Part (part_of (first_word text) (after_word text))) _
    (free row.Part (λ (p : PartRow). tt) (part_of (first_word text) (after_word text)))
    (else_kept (option_map row.Dep (dep_of (first_word text) (after_word text))) (option_map row.Step (step_of text))
    (free row.Dep (λ (d : DepRow). tt) (dep_of (first_word text) (after_word text)))
    (free row.Step (λ (s : StepRow). tt) (step_of text)))))

form_kept : (text : List ℕ) → IsPiece text → MayKeep (form_of text)
unfolding form_of
form_kept text h = else_kept (header_of text) (form_below text) (header_kept text) (below_kept text h)

or_none : (o : Option Row) → MayKeep o → IsKept (unwrap_or o row.NoForm)
or_none None h = tt
or_none (Some r) h = h

row_kept : (line : List ℕ) → IsPiece line → IsKept (row_of line)
unfolding row_of
row_kept line h = go (is_skipped line)
  where
    go : (b : Bool) → IsKept (if b then row.Skipped else unwrap_or (form_of line) row.NoForm)
    go true = tt
    go false = or_none (form_of line) (form_kept line h)

each_kept : (lines : List (List ℕ)) → AllByRecursion IsPiece lines → AllByRecursion IsKept (map row_of lines)
each_kept [] all = tt
each_kept (line ∷ lines) all = (row_kept line all.0, each_kept lines all.1)

pub rows_kept : (text : List ℕ) → IsUtf8 text → AllByRecursion IsKept (rows_of text)
rows_kept text u = each_kept (lines_of text) (lines_are text u)
