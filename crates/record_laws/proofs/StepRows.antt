-- The lines that are typed in steps are fit.
use Rattle.std.proofs.Common.{[], ℕ, ◌∷◌, Bool, codes, Err, if◌then◌else◌, IfOk, IfSome, length, List}
use Rattle.std.proofs.Common.{None, Ok, option_map, refl, Result, Some, true, false}
use Rattle.lemmas.proofs.Options.{some_mapped}
use Rattle.syntax.specs.Names.{name_of}
use Rattle.syntax.specs.Splits.{after_word, first_word, words_of}
use Rattle.calendars.specs.Written.{date_of}
use Rattle.conman_syntax.specs.Fit.{IsFitLine}
use Rattle.conman_syntax.specs.Rows.{due_line}
use Rattle.conman_syntax.specs.declared.lines.Line.{Line}
use Rattle.conman_syntax.specs.declared.faults.CommandFault.{CommandFault}
use Rattle.conman_syntax.proofs.Fits.{answer_fits}
use Rattle.conman_syntax.proofs.PartFits.{found}
use Rattle.record_rows.specs.Steps.{command_of, crash_in, crash_of, cut_of, ended_of, fulfil_of, gives_command, kept_of, object_of, own_cut, own_of}
use Rattle.record_rows.specs.Steps.{own_step, packet_cut, packet_of, pair_of, reap_of, step_of, step_of_word}
use Rattle.record_rows.specs.Words.{◌is◌, code_of, sized}
use Rattle.record_rows.specs.declared.rows.OwnRow.TheVariants as own
use Rattle.record_rows.specs.declared.rows.CutRow.TheVariants as cut
use Rattle.record_rows.specs.declared.rows.StepRow.TheVariants as step
use Rattle.record_laws.proofs.Fits.{IsFitTyped}
use Rattle.record_laws.proofs.FitRows.{IsFitCut, IsFitOwn, IsFitStepRow}
use Rattle.record_laws.proofs.Options.{always, chained}

command_fit : (most : ℕ) (r : Result Line CommandFault) → IfOk r (IsFitLine most) → IfSome (command_of r) IsFitTyped
command_fit most (Ok line) h = found IsFitTyped (gives_command line) (Some line) None (most, h) tt
command_fit most (Err fault) h = tt

own_fit : (word rest : List ℕ) → IfSome (own_of word rest) IsFitOwn
unfolding own_of
own_fit word rest =
    go (word is codes "turn") (word is codes "started") (word is codes "failed") (word is codes "ended")
    (word is codes "type")
  where
    go : (a b c d e : Bool) → IfSome (
        if a then option_map own.Turn (sized 64 rest) else
        if b then option_map own.Started (sized 32 rest) else
        if c then option_map own.Failed (sized 32 rest) else
        if d then ended_of rest else
        if e then option_map own.Typed (command_of (due_line rest)) else None) IsFitOwn
    go true b c d e = always IsFitOwn (sized 64 rest) own.Turn (λ t. tt)
    go false true c d e = always IsFitOwn (sized 32 rest) own.Started (λ t. tt)
    go false false true d e = always IsFitOwn (sized 32 rest) own.Failed (λ t. tt)
    go false false false true e =
        chained IsFitOwn (sized 32 (first_word rest)) _ (λ j. always IsFitOwn _ (own.Ended j) (λ t. tt))
    go false false false false true =
        some_mapped IsFitTyped IsFitOwn (command_of (due_line rest)) own.Typed
        (command_fit (length rest) (due_line rest) (answer_fits rest (due_line rest) (λ m. refl))) (λ line h. h)
    go false false false false false = tt

own_step_fit : (word rest : List ℕ) → IfSome (own_step word rest) IsFitStepRow
unfolding own_step
own_step_fit word rest =
    chained IsFitStepRow (name_of (first_word rest)) (λ w. option_map (step.Own w) (own_of word (after_word rest)))
    (λ w. some_mapped IsFitOwn IsFitStepRow (own_of word (after_word rest)) (step.Own w) (own_fit word (after_word rest))
    (λ o h. h))

own_cut_fit : (w word rest : List ℕ) → IfSome (own_cut w word rest) IsFitCut
unfolding own_cut
own_cut_fit w word rest =
    chained IsFitCut (name_of (first_word rest))
    (λ v. if v is w then option_map cut.Own (own_of word (after_word rest)) else None)
    (λ v.
    found IsFitCut (v is w) (option_map cut.Own (own_of word (after_word rest))) None
    (some_mapped IsFitOwn IsFitCut (own_of word (after_word rest)) cut.Own (own_fit word (after_word rest)) (λ o h. h)) tt)

packet_cut_fit : (w rest : List ℕ) → IfSome (packet_cut w rest) IsFitCut
unfolding packet_cut
packet_cut_fit w rest =
    chained IsFitCut (packet_of (words_of rest)) (λ p. if p.1 is w then Some (cut.Deliver p.0 p.2) else None)
    (λ p. found IsFitCut (p.1 is w) (Some (cut.Deliver p.0 p.2)) None tt tt)

cut_fit : (w text : List ℕ) → IfSome (cut_of w text) IsFitCut
unfolding cut_of
cut_fit w text =
    go (text is codes "next") (first_word text is codes "next") (first_word text is codes "deliver")
  where
    go : (a b c : Bool) → IfSome (
        if a then Some cut.Next else
        if b then option_map cut.NextDay (date_of (after_word text)) else
        if c then packet_cut w (after_word text) else own_cut w (first_word text) (after_word text)) IsFitCut
    go true b c = tt
    go false true c = always IsFitCut (date_of (after_word text)) cut.NextDay (λ d. tt)
    go false false true = packet_cut_fit w (after_word text)
    go false false false = own_cut_fit w (first_word text) (after_word text)

crash_fit : (rest : List ℕ) → IfSome (crash_of rest) IsFitStepRow
unfolding crash_of crash_in
crash_fit rest =
    chained IsFitStepRow (name_of (first_word rest))
    (λ w. if first_word rest is rest then Some (step.Crash w) else crash_in w (after_word rest))
    (λ w.
    found IsFitStepRow (first_word rest is rest) (Some (step.Crash w)) (crash_in w (after_word rest)) tt
    (chained IsFitStepRow (kept_of (first_word (after_word rest)))
    (λ k. option_map (step.CrashIn w k) (cut_of w (after_word (after_word rest))))
    (λ k.
    some_mapped IsFitCut IsFitStepRow (cut_of w (after_word (after_word rest))) (step.CrashIn w k)
    (cut_fit w (after_word (after_word rest))) (λ c h. h))))

fulfil_fit : (words : List (List ℕ)) → IfSome (fulfil_of words) IsFitStepRow
unfolding fulfil_of
fulfil_fit [] = tt
fulfil_fit (w ∷ []) = tt
fulfil_fit (w ∷ kind ∷ []) = tt
fulfil_fit (w ∷ kind ∷ n ∷ []) = tt
fulfil_fit (w ∷ kind ∷ n ∷ i ∷ []) =
    chained IsFitStepRow (name_of w) _ (λ place.
    chained IsFitStepRow (object_of kind n) _ (λ o.
    chained IsFitStepRow (sized 16 i) _ (λ d. tt)))
fulfil_fit (w ∷ kind ∷ n ∷ i ∷ more ∷ words) = tt

reap_fit : (rest : List ℕ) → IfSome (reap_of rest) IsFitStepRow
unfolding reap_of
reap_fit rest =
    chained IsFitStepRow (name_of (first_word rest)) (λ w. option_map (step.Reap w) (code_of (after_word rest)))
    (λ w. always IsFitStepRow (code_of (after_word rest)) (step.Reap w) (λ rc. tt))

step_word_fit : (word rest : List ℕ) → IfSome (step_of_word word rest) IsFitStepRow
unfolding step_of_word
step_word_fit word rest =
    go (word is codes "next") (word is codes "link") (word is codes "unlink") (word is codes "deliver")
    (word is codes "flow") (word is codes "reap") (word is codes "crash") (word is codes "fulfil")
    (word is codes "recover")
  where
    go : (a b c d e f g h i : Bool) → IfSome (
        if a then option_map step.NextDay (date_of rest) else
        if b then option_map (λ p. step.Link p.0 p.1) (pair_of rest) else
        if c then option_map (λ p. step.Unlink p.0 p.1) (pair_of rest) else
        if d then option_map (λ p. step.Deliver p.0 p.1 p.2) (packet_of (words_of rest)) else
        if e then option_map (λ p. step.Flow p.0 p.1) (pair_of rest) else
        if f then reap_of rest else
        if g then crash_of rest else
        if h then fulfil_of (words_of rest) else
        if i then option_map step.Recover (name_of rest) else own_step word rest) IsFitStepRow
    go true b c d e f g h i = always IsFitStepRow (date_of rest) step.NextDay (λ day. tt)
    go false true c d e f g h i = always IsFitStepRow (pair_of rest) (λ p. step.Link p.0 p.1) (λ p. tt)
    go false false true d e f g h i = always IsFitStepRow (pair_of rest) (λ p. step.Unlink p.0 p.1) (λ p. tt)
    go false false false true e f g h i =
        always IsFitStepRow (packet_of (words_of rest)) (λ p. step.Deliver p.0 p.1 p.2) (λ p. tt)
    go false false false false true f g h i = always IsFitStepRow (pair_of rest) (λ p. step.Flow p.0 p.1) (λ p. tt)
    go false false false false false true g h i = reap_fit rest
    go false false false false false false true h i = crash_fit rest
    go false false false false false false false true i = fulfil_fit (words_of rest)
    go false false false false false false false false true =
        always IsFitStepRow (name_of rest) step.Recover (λ w. tt)
    go false false false false false false false false false = own_step_fit word rest

pub step_fit : (text : List ℕ) → IfSome (step_of text) IsFitStepRow
unfolding step_of
step_fit text =
    found IsFitStepRow (text is codes "next") (Some step.Next) (step_of_word (first_word text) (after_word text)) tt
    (step_word_fit (first_word text) (after_word text))
