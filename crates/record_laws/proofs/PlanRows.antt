-- The names and texts in the lines of a plan are no longer than an entry may have.
use Rattle.std.proofs.Common.{[], ℕ, ◌==◌, ◌∷◌, arith, Bool, codes, if◌then◌else◌, IfSome, length, List, nat_le, refl}
use Rattle.std.proofs.Common.{◌≡◌}
use Rattle.std.proofs.Common.{None, option_and_then, option_map, Option, Some, true, false, slice_index}
use Rattle.lemmas.proofs.Numbers.{le_true_turned}
use Rattle.lemmas.proofs.Options.{some_followed, some_mapped}
use Rattle.syntax.specs.Names.{name_of}
use Rattle.syntax.specs.Quotes.{unquoted}
use Rattle.syntax.specs.Splits.{after_word, first_word}
use Rattle.model.specs.Fit.{IsFitText}
use Rattle.conman_syntax.specs.Fit.{IsFitName}
use Rattle.conman_syntax.proofs.PartFits.{found, name_fits}
use Rattle.conman_syntax.specs.Values.{passed_of}
use Rattle.record_rows.specs.Plans.{after_byte, ask_of, before_byte, carry_of, dep_of, follows_of, follows_on, job_of, limit_of}
use Rattle.record_rows.specs.Plans.{needs_of, part_of, priority_of, recovery_of, stream_of, until_of}
use Rattle.record_rows.specs.Words.{◌is◌, limited, sized, text_of, up_to}
use Rattle.record_rows.specs.declared.rows.Ranged.TheVariants.{Within, OutOfRange}
use Rattle.record_rows.specs.declared.rows.StreamRow.{StreamRow}
use Rattle.record_rows.specs.declared.rows.JobRow.{JobRow}
use Rattle.record_rows.specs.declared.rows.PartRow.TheVariants as part
use Rattle.record_rows.specs.declared.rows.DepRow.TheVariants as dep
use Rattle.record_laws.proofs.FitRows.{IsFitDepRow, IsFitPart, IsFitRanged}
use Rattle.record_laws.proofs.Options.{always, chained}

name_short : (word : List ℕ) → IfSome (name_of word) IsFitText
name_short word = go (name_of word) (name_fits word)
  where
    go : (o : Option (List ℕ)) → IfSome o IsFitName → IfSome o IsFitText
    go None h = tt
    go (Some name) h = omega (arith, h)

limited_fit : (value : List ℕ) → IsFitRanged (limited value)
limited_fit value = go (nat_le (length value) 4096) refl
  where
    go : (b : Bool) → nat_le (length value) 4096 ≡ b → IsFitRanged (if b then Within value else OutOfRange)
    go true h = le_true_turned 4096 (length value) h
    go false h = tt

text_fit : (rest : List ℕ) → IfSome (text_of rest) IsFitRanged
unfolding text_of
text_fit [] = tt
text_fit (c ∷ cs) =
    found IsFitRanged (c == 34) (option_map limited (unquoted cs)) None
    (always IsFitRanged (unquoted cs) limited limited_fit) tt

pub part_fit : (word rest : List ℕ) → IfSome (part_of word rest) IsFitPart
unfolding part_of
part_fit word rest =
    go (word is codes "do") (word is codes "script") (word is codes "logon") (word is codes "succ")
    (word is codes "recovery")
  where
    go : (a b c d e : Bool) → IfSome (
        if a then option_map part.Command (text_of rest) else
        if b then option_map part.Script (text_of rest) else
        if c then option_map part.Logon (text_of rest) else
        if d then option_map part.Cond (text_of rest) else
        if e then option_map part.Recovery (recovery_of rest) else None) IsFitPart
    go true b c d e = some_mapped IsFitRanged IsFitPart (text_of rest) part.Command (text_fit rest) (λ t h. h)
    go false true c d e = some_mapped IsFitRanged IsFitPart (text_of rest) part.Script (text_fit rest) (λ t h. h)
    go false false true d e = some_mapped IsFitRanged IsFitPart (text_of rest) part.Logon (text_fit rest) (λ t h. h)
    go false false false true e = always IsFitPart (text_of rest) part.Cond (λ t. tt)
    go false false false false true = always IsFitPart (recovery_of rest) part.Recovery (λ r. tt)
    go false false false false false = tt

follows_on_fit : (ws word : List ℕ) → IfSome (follows_on ws word) IsFitDepRow
follows_on_fit ws word =
    some_followed IsFitText IsFitDepRow (name_of (before_byte 46 word)) _ (name_short (before_byte 46 word))
    (λ s h.
    found IsFitDepRow (before_byte 46 word is word) (Some (dep.FollowsStream ws s))
    (option_map (dep.FollowsJob ws s) (name_of (after_byte 46 word))) h
    (some_mapped IsFitText IsFitDepRow (name_of (after_byte 46 word)) (dep.FollowsJob ws s)
    (name_short (after_byte 46 word)) (λ j k. (h, k))))

follows_fit : (word : List ℕ) → IfSome (follows_of word) IsFitDepRow
unfolding follows_of
follows_fit word =
    found IsFitDepRow (before_byte 35 word is word) (option_map dep.FollowsOwn (name_of word))
    (option_and_then (λ w. follows_on w (after_byte 35 word)) (name_of (before_byte 35 word)))
    (some_mapped IsFitText IsFitDepRow (name_of word) dep.FollowsOwn (name_short word) (λ j h. h))
    (chained IsFitDepRow (name_of (before_byte 35 word)) (λ w. follows_on w (after_byte 35 word))
    (λ w. follows_on_fit w (after_byte 35 word)))

ask_fit : (rest : List ℕ) → IfSome (ask_of rest) IsFitDepRow
unfolding ask_of
ask_fit rest =
    found IsFitDepRow (slice_index rest 0 == 34) (option_map dep.AskOwn (text_of rest))
    (option_map dep.AskGlobal (name_of rest))
    (some_mapped IsFitRanged IsFitDepRow (text_of rest) dep.AskOwn (text_fit rest) (λ t h. h))
    (always IsFitDepRow (name_of rest) dep.AskGlobal (λ p. tt))

until_fit : (rest : List ℕ) → IfSome (until_of rest) IsFitDepRow
unfolding until_of
until_fit rest =
    chained IsFitDepRow (sized 64 (first_word rest)) _
    (λ t. always IsFitDepRow (passed_of (after_word rest)) (dep.Until t) (λ p. tt))

needs_fit : (rest : List ℕ) → IfSome (needs_of rest) IsFitDepRow
unfolding needs_of
needs_fit rest =
    chained IsFitDepRow (up_to 1024 (first_word rest)) _
    (λ n. always IsFitDepRow (name_of (after_word rest)) (dep.Needs n) (λ r. tt))

pub dep_fit : (word rest : List ℕ) → IfSome (dep_of word rest) IsFitDepRow
unfolding dep_of
dep_fit word rest =
    go (word is codes "at") (word is codes "until") (word is codes "deadline") (word is codes "follows")
    (word is codes "needs") (word is codes "ask") (word is codes "opens")
  where
    go : (a b c d e f g : Bool) → IfSome (
        if a then option_map dep.At (sized 64 rest) else
        if b then until_of rest else
        if c then option_map dep.Deadline (sized 64 rest) else
        if d then follows_of rest else
        if e then needs_of rest else
        if f then ask_of rest else
        if g then option_map dep.Opens (text_of rest) else None) IsFitDepRow
    go true b c d e f g = always IsFitDepRow (sized 64 rest) dep.At (λ t. tt)
    go false true c d e f g = until_fit rest
    go false false true d e f g = always IsFitDepRow (sized 64 rest) dep.Deadline (λ t. tt)
    go false false false true e f g = follows_fit rest
    go false false false false true f g = needs_fit rest
    go false false false false false true g = ask_fit rest
    go false false false false false false true =
        some_mapped IsFitRanged IsFitDepRow (text_of rest) dep.Opens (text_fit rest) (λ t h. h)
    go false false false false false false false = tt

pub stream_named : (words : List (List ℕ)) → IfSome (stream_of words) (λ (s : StreamRow). IsFitText s.name)
unfolding stream_of
stream_named [] = tt
stream_named (ws ∷ []) = tt
stream_named (ws ∷ name ∷ rest) =
    let Q : StreamRow → Type 0 = λ s. IsFitText s.name in
    chained Q (name_of ws) _ (λ w.
    some_followed IsFitText Q (name_of name) _ (name_short name) (λ n h.
    chained Q (priority_of rest) _ (λ p.
    chained Q (limit_of p.1) _ (λ l.
    chained Q (carry_of l.1) _ (λ c. h)))))

pub job_named : (words : List (List ℕ)) → IfSome (job_of words) (λ (j : JobRow). IsFitText j.name)
unfolding job_of
job_named [] = tt
job_named (ws ∷ []) = tt
job_named (ws ∷ name ∷ rest) =
    let Q : JobRow → Type 0 = λ j. IsFitText j.name in
    chained Q (name_of ws) _ (λ w.
    some_followed IsFitText Q (name_of name) _ (name_short name) (λ n h.
    chained Q (priority_of rest) _ (λ p. found Q (length p.1 == 0) (Some (record { ws = w; name = n; priority = p.0 })) None h tt)))
