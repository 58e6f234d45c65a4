-- What a service came to, by the number of its status.
use Rattle.std.proofs.Common.{◌==◌, ◌≡◌, ◌≢◌, ◌⊎◌, ℕ, Bool, Err, List, None, Ok, Option, arith, false, inl, inr, refl, true}
use Rattle.std.proofs.lemmas.Bool.Decides.{Decides-eqb}
use Rattle.std.specs.Io.KnownBytes.{Appends, Keeps}
use Rattle.base_types.specs.Limits.{limit_number}
use Rattle.base_types.specs.declared.LimitName.{LimitName}
use Rattle.base_types.specs.declared.LimitName.TheVariants as limits
use Rattle.composer_parser.specs.declared.Defs.{Defs}
use Rattle.conman_client.specs.declared.ends.AskEnd.TheVariants as ask
use Rattle.definition_texts.specs.Kinds.{word_of}
use Rattle.definition_texts.specs.declared.refusals.Refusal.{Refusal}
use Rattle.replies.specs.Statuses.{number_of as number_of_status}
use Rattle.replies.specs.Texts.{definitions_line, limit_line, limit_word}
use Rattle.replies.specs.declared.statuses.Status.{Status}
use Rattle.node_inputs.specs.declared.ends.NodeEnd.TheVariants as run
use Rattle.node_restart.specs.declared.faults.RestartFault.TheVariants as made
use Rattle.node_service.specs.declared.services.ServiceEnd.TheVariants.{Ran, Unmade}
use Rattle.outside.specs.Causes.{Rose}
use Rattle.outside.specs.Streams.{Stream}
use Rattle.whole_io.specs.Whole.{TakesCount}
use Rattle.workload_defs.specs.Stations.{number_of}
use Rattle.node_commands.specs.Ends.{IsTold, other_file_line}
use Rattle.node_commands.specs.Forms.{Request, name_in}
use Rattle.node_commands.specs.Services.{Asking, IsAsked, IsServed, IsService, ReadsDefs, RefusesDefs, Serving, UnservedCallsFor}

module _ (S : Serving) (A : Asking) (same but_link : Type 0) (request : Request) (old new : Option Stream)
    (source source' result : ℕ) (written written' : Option (List ℕ)) (sink sink' : ℕ) where
  -- what came of it, with the number
  pub data Came (n : ℕ) : Type 0 where
    source_failed : n ≡ 4 → Rose source source' → Keeps written written' → Came n
    starved : n ≡ 9 → Came n
    too_long : n ≡ 10 → TakesCount 16777217 old new
        → Appends written written' (limit_line (limit_word limits.Input) 16777216) → Came n
    refused : n ≡ 1 → (r : Refusal) → RefusesDefs r old new
        → Appends written written' (definitions_line r.line (word_of r.kind)) → Came n
    unknown : n ≡ 2 → (defs : Defs) → ReadsDefs defs old new → number_of defs (name_in request) ≡ None → Came n
    shut_down : n ≡ 0 → IsServed S request old new (Ran run.Shutdown) → Came n
    spent : n ≡ 8 → IsServed S request old new (Ran run.TurnsSpent) → Came n
    failed : n ≡ 6 → IsServed S request old new (Ran run.DiskFault) → Came n
    at_limit : n ≡ 10 → (name : LimitName) → IsServed S request old new (Ran (run.Limit name))
        → Appends written written' (limit_line (limit_word name) (limit_number name)) → Came n
    other_file : n ≡ 7 → (place : ℕ) → IsServed S request old new (Unmade (made.NotThisFile place))
        → Appends written written' (other_file_line place) → Came n
    unread : n ≡ 6 → IsServed S request old new (Unmade made.Disk) → Came n
    replied : n ≡ 0 → (text : List ℕ) → IsAsked A request old new (Ok text) → Appends written written' text → Came n
    unanswered : n ≡ 12 → IsAsked A request old new (Err ask.NoAnswer) → Came n

  by_9 : (Q : Type 0) → (result ≡ 9 → Q) → (result ≢ 9 → Q) → Q
  by_9 Q is other = go (result == 9) refl
    where
      go : (b : Bool) → (result == 9) ≡ b → Q
      go true e = is ((Decides-eqb result 9).0 e)
      go false e = other (λ f. let both = (Decides-eqb result 9).1 f in cc)

  pub by_5 : (Q : Type 0) → (result ≡ 5 → Q) → (result ≢ 5 → Q) → Q
  by_5 Q is other = go (result == 5) refl
    where
      go : (b : Bool) → (result == 5) ≡ b → Q
      go true e = is ((Decides-eqb result 5).0 e)
      go false e = other (λ f. let both = (Decides-eqb result 5).1 f in cc)

  told : (due : Status) (text : List ℕ) → IsTold due text result written written' sink sink' → result ≢ 9 → result ≢ 5
      → (result ≡ number_of_status due) × Appends written written' text
  told due text is other_9 other_5 = (is.said other_9).all other_5

  pub came : IsService S A same but_link request old new source source' result written written' sink sink' → result ≢ 5
      → Came result
  came h other_5 = by_9 (Came result) (λ nine. starved nine) (λ other_9. go h other_9)
    where
      go : IsService S A same but_link request old new source source' result written written' sink sink' → result ≢ 9
          → Came result
      go (IsService.silent all (inl four) keeps) other_9 = source_failed four.0 four.1 keeps
      go (IsService.silent all (inr nine) keeps) other_9 = starved nine
      go (IsService.unserved due text all (UnservedCallsFor.too_long takes) is) other_9 =
          let t = told due text is other_9 other_5 in too_long t.0 takes t.1
      go (IsService.unserved due text all (UnservedCallsFor.refused r reads) is) other_9 =
          let t = told due text is other_9 other_5 in refused t.0 r reads t.1
      go (IsService.unserved due text all (UnservedCallsFor.unknown defs reads none) is) other_9 =
          unknown (told due text is other_9 other_5).0 defs reads none
      go (IsService.served (Ran run.Shutdown) s is) other_9 = shut_down (told _ _ is other_9 other_5).0 s
      go (IsService.served (Ran run.TurnsSpent) s is) other_9 = spent (told _ _ is other_9 other_5).0 s
      go (IsService.served (Ran run.DiskFault) s is) other_9 = failed (told _ _ is other_9 other_5).0 s
      go (IsService.served (Ran (run.Limit name)) s is) other_9 =
          let t = told _ _ is other_9 other_5 in at_limit t.0 name s t.1
      go (IsService.served (Ran run.NoMemory) s is) other_9 = starved (told _ _ is other_9 other_5).0
      go (IsService.served (Unmade (made.NotThisFile place)) s is) other_9 =
          let t = told _ _ is other_9 other_5 in other_file t.0 place s t.1
      go (IsService.served (Unmade made.Disk) s is) other_9 = unread (told _ _ is other_9 other_5).0 s
      go (IsService.served (Unmade made.NoMemory) s is) other_9 = starved (told _ _ is other_9 other_5).0
      go (IsService.asked (Ok text) others a is) other_9 =
          let t = told _ _ is other_9 other_5 in replied t.0 text a t.1
      go (IsService.asked (Err ask.NoAnswer) others a is) other_9 = unanswered (told _ _ is other_9 other_5).0 a
      go (IsService.asked (Err ask.NoMemory) others a is) other_9 = starved (told _ _ is other_9 other_5).0

  -- the numbers one by one
  pub row_0 : Came result → result ≡ 0 → IsServed S request old new (Ran run.Shutdown)
      ⊎ ((text : List ℕ) × IsAsked A request old new (Ok text) × Appends written written' text)
  row_0 (source_failed e rose keeps) is = absurd (omega (arith, e, is))
  row_0 (starved e) is = absurd (omega (arith, e, is))
  row_0 (too_long e takes wrote) is = absurd (omega (arith, e, is))
  row_0 (refused e r reads wrote) is = absurd (omega (arith, e, is))
  row_0 (unknown e defs reads none) is = absurd (omega (arith, e, is))
  row_0 (shut_down e s) is = inl s
  row_0 (spent e s) is = absurd (omega (arith, e, is))
  row_0 (failed e s) is = absurd (omega (arith, e, is))
  row_0 (at_limit e name s wrote) is = absurd (omega (arith, e, is))
  row_0 (other_file e place s wrote) is = absurd (omega (arith, e, is))
  row_0 (unread e s) is = absurd (omega (arith, e, is))
  row_0 (replied e text a wrote) is = inr (text, a, wrote)
  row_0 (unanswered e a) is = absurd (omega (arith, e, is))

  pub row_1 : Came result → result ≡ 1
      → (r : Refusal) × RefusesDefs r old new × Appends written written' (definitions_line r.line (word_of r.kind))
  row_1 (source_failed e rose keeps) is = absurd (omega (arith, e, is))
  row_1 (starved e) is = absurd (omega (arith, e, is))
  row_1 (too_long e takes wrote) is = absurd (omega (arith, e, is))
  row_1 (refused e r reads wrote) is = (r, reads, wrote)
  row_1 (unknown e defs reads none) is = absurd (omega (arith, e, is))
  row_1 (shut_down e s) is = absurd (omega (arith, e, is))
  row_1 (spent e s) is = absurd (omega (arith, e, is))
  row_1 (failed e s) is = absurd (omega (arith, e, is))
  row_1 (at_limit e name s wrote) is = absurd (omega (arith, e, is))
  row_1 (other_file e place s wrote) is = absurd (omega (arith, e, is))
  row_1 (unread e s) is = absurd (omega (arith, e, is))
  row_1 (replied e text a wrote) is = absurd (omega (arith, e, is))
  row_1 (unanswered e a) is = absurd (omega (arith, e, is))

  pub row_2 : Came result → result ≡ 2
      → (defs : Defs) × ReadsDefs defs old new × (number_of defs (name_in request) ≡ None)
  row_2 (source_failed e rose keeps) is = absurd (omega (arith, e, is))
  row_2 (starved e) is = absurd (omega (arith, e, is))
  row_2 (too_long e takes wrote) is = absurd (omega (arith, e, is))
  row_2 (refused e r reads wrote) is = absurd (omega (arith, e, is))
  row_2 (unknown e defs reads none) is = (defs, reads, none)
  row_2 (shut_down e s) is = absurd (omega (arith, e, is))
  row_2 (spent e s) is = absurd (omega (arith, e, is))
  row_2 (failed e s) is = absurd (omega (arith, e, is))
  row_2 (at_limit e name s wrote) is = absurd (omega (arith, e, is))
  row_2 (other_file e place s wrote) is = absurd (omega (arith, e, is))
  row_2 (unread e s) is = absurd (omega (arith, e, is))
  row_2 (replied e text a wrote) is = absurd (omega (arith, e, is))
  row_2 (unanswered e a) is = absurd (omega (arith, e, is))

  pub row_3 : Came result → result ≡ 3 → ⊥
  row_3 (source_failed e rose keeps) is = absurd (omega (arith, e, is))
  row_3 (starved e) is = absurd (omega (arith, e, is))
  row_3 (too_long e takes wrote) is = absurd (omega (arith, e, is))
  row_3 (refused e r reads wrote) is = absurd (omega (arith, e, is))
  row_3 (unknown e defs reads none) is = absurd (omega (arith, e, is))
  row_3 (shut_down e s) is = absurd (omega (arith, e, is))
  row_3 (spent e s) is = absurd (omega (arith, e, is))
  row_3 (failed e s) is = absurd (omega (arith, e, is))
  row_3 (at_limit e name s wrote) is = absurd (omega (arith, e, is))
  row_3 (other_file e place s wrote) is = absurd (omega (arith, e, is))
  row_3 (unread e s) is = absurd (omega (arith, e, is))
  row_3 (replied e text a wrote) is = absurd (omega (arith, e, is))
  row_3 (unanswered e a) is = absurd (omega (arith, e, is))

  pub row_4 : Came result → result ≡ 4 → Rose source source' × Keeps written written'
  row_4 (source_failed e rose keeps) is = (rose, keeps)
  row_4 (starved e) is = absurd (omega (arith, e, is))
  row_4 (too_long e takes wrote) is = absurd (omega (arith, e, is))
  row_4 (refused e r reads wrote) is = absurd (omega (arith, e, is))
  row_4 (unknown e defs reads none) is = absurd (omega (arith, e, is))
  row_4 (shut_down e s) is = absurd (omega (arith, e, is))
  row_4 (spent e s) is = absurd (omega (arith, e, is))
  row_4 (failed e s) is = absurd (omega (arith, e, is))
  row_4 (at_limit e name s wrote) is = absurd (omega (arith, e, is))
  row_4 (other_file e place s wrote) is = absurd (omega (arith, e, is))
  row_4 (unread e s) is = absurd (omega (arith, e, is))
  row_4 (replied e text a wrote) is = absurd (omega (arith, e, is))
  row_4 (unanswered e a) is = absurd (omega (arith, e, is))

  pub row_6 : Came result → result ≡ 6
      → IsServed S request old new (Ran run.DiskFault) ⊎ IsServed S request old new (Unmade made.Disk)
  row_6 (source_failed e rose keeps) is = absurd (omega (arith, e, is))
  row_6 (starved e) is = absurd (omega (arith, e, is))
  row_6 (too_long e takes wrote) is = absurd (omega (arith, e, is))
  row_6 (refused e r reads wrote) is = absurd (omega (arith, e, is))
  row_6 (unknown e defs reads none) is = absurd (omega (arith, e, is))
  row_6 (shut_down e s) is = absurd (omega (arith, e, is))
  row_6 (spent e s) is = absurd (omega (arith, e, is))
  row_6 (failed e s) is = inl s
  row_6 (at_limit e name s wrote) is = absurd (omega (arith, e, is))
  row_6 (other_file e place s wrote) is = absurd (omega (arith, e, is))
  row_6 (unread e s) is = inr s
  row_6 (replied e text a wrote) is = absurd (omega (arith, e, is))
  row_6 (unanswered e a) is = absurd (omega (arith, e, is))

  pub row_7 : Came result → result ≡ 7
      → (place : ℕ) × IsServed S request old new (Unmade (made.NotThisFile place))
      × Appends written written' (other_file_line place)
  row_7 (source_failed e rose keeps) is = absurd (omega (arith, e, is))
  row_7 (starved e) is = absurd (omega (arith, e, is))
  row_7 (too_long e takes wrote) is = absurd (omega (arith, e, is))
  row_7 (refused e r reads wrote) is = absurd (omega (arith, e, is))
  row_7 (unknown e defs reads none) is = absurd (omega (arith, e, is))
  row_7 (shut_down e s) is = absurd (omega (arith, e, is))
  row_7 (spent e s) is = absurd (omega (arith, e, is))
  row_7 (failed e s) is = absurd (omega (arith, e, is))
  row_7 (at_limit e name s wrote) is = absurd (omega (arith, e, is))
  row_7 (other_file e place s wrote) is = (place, s, wrote)
  row_7 (unread e s) is = absurd (omega (arith, e, is))
  row_7 (replied e text a wrote) is = absurd (omega (arith, e, is))
  row_7 (unanswered e a) is = absurd (omega (arith, e, is))

  pub row_8 : Came result → result ≡ 8 → IsServed S request old new (Ran run.TurnsSpent)
  row_8 (source_failed e rose keeps) is = absurd (omega (arith, e, is))
  row_8 (starved e) is = absurd (omega (arith, e, is))
  row_8 (too_long e takes wrote) is = absurd (omega (arith, e, is))
  row_8 (refused e r reads wrote) is = absurd (omega (arith, e, is))
  row_8 (unknown e defs reads none) is = absurd (omega (arith, e, is))
  row_8 (shut_down e s) is = absurd (omega (arith, e, is))
  row_8 (spent e s) is = s
  row_8 (failed e s) is = absurd (omega (arith, e, is))
  row_8 (at_limit e name s wrote) is = absurd (omega (arith, e, is))
  row_8 (other_file e place s wrote) is = absurd (omega (arith, e, is))
  row_8 (unread e s) is = absurd (omega (arith, e, is))
  row_8 (replied e text a wrote) is = absurd (omega (arith, e, is))
  row_8 (unanswered e a) is = absurd (omega (arith, e, is))

  pub row_10 : Came result → result ≡ 10
      → (TakesCount 16777217 old new × Appends written written' (limit_line (limit_word limits.Input) 16777216))
      ⊎ ((name : LimitName) × IsServed S request old new (Ran (run.Limit name))
      × Appends written written' (limit_line (limit_word name) (limit_number name)))
  row_10 (source_failed e rose keeps) is = absurd (omega (arith, e, is))
  row_10 (starved e) is = absurd (omega (arith, e, is))
  row_10 (too_long e takes wrote) is = inl (takes, wrote)
  row_10 (refused e r reads wrote) is = absurd (omega (arith, e, is))
  row_10 (unknown e defs reads none) is = absurd (omega (arith, e, is))
  row_10 (shut_down e s) is = absurd (omega (arith, e, is))
  row_10 (spent e s) is = absurd (omega (arith, e, is))
  row_10 (failed e s) is = absurd (omega (arith, e, is))
  row_10 (at_limit e name s wrote) is = inr (name, s, wrote)
  row_10 (other_file e place s wrote) is = absurd (omega (arith, e, is))
  row_10 (unread e s) is = absurd (omega (arith, e, is))
  row_10 (replied e text a wrote) is = absurd (omega (arith, e, is))
  row_10 (unanswered e a) is = absurd (omega (arith, e, is))

  pub row_11 : Came result → result ≡ 11 → ⊥
  row_11 (source_failed e rose keeps) is = absurd (omega (arith, e, is))
  row_11 (starved e) is = absurd (omega (arith, e, is))
  row_11 (too_long e takes wrote) is = absurd (omega (arith, e, is))
  row_11 (refused e r reads wrote) is = absurd (omega (arith, e, is))
  row_11 (unknown e defs reads none) is = absurd (omega (arith, e, is))
  row_11 (shut_down e s) is = absurd (omega (arith, e, is))
  row_11 (spent e s) is = absurd (omega (arith, e, is))
  row_11 (failed e s) is = absurd (omega (arith, e, is))
  row_11 (at_limit e name s wrote) is = absurd (omega (arith, e, is))
  row_11 (other_file e place s wrote) is = absurd (omega (arith, e, is))
  row_11 (unread e s) is = absurd (omega (arith, e, is))
  row_11 (replied e text a wrote) is = absurd (omega (arith, e, is))
  row_11 (unanswered e a) is = absurd (omega (arith, e, is))

  pub row_12 : Came result → result ≡ 12 → IsAsked A request old new (Err ask.NoAnswer)
  row_12 (source_failed e rose keeps) is = absurd (omega (arith, e, is))
  row_12 (starved e) is = absurd (omega (arith, e, is))
  row_12 (too_long e takes wrote) is = absurd (omega (arith, e, is))
  row_12 (refused e r reads wrote) is = absurd (omega (arith, e, is))
  row_12 (unknown e defs reads none) is = absurd (omega (arith, e, is))
  row_12 (shut_down e s) is = absurd (omega (arith, e, is))
  row_12 (spent e s) is = absurd (omega (arith, e, is))
  row_12 (failed e s) is = absurd (omega (arith, e, is))
  row_12 (at_limit e name s wrote) is = absurd (omega (arith, e, is))
  row_12 (other_file e place s wrote) is = absurd (omega (arith, e, is))
  row_12 (unread e s) is = absurd (omega (arith, e, is))
  row_12 (replied e text a wrote) is = absurd (omega (arith, e, is))
  row_12 (unanswered e a) is = a

  -- the numbers that come
  pub numbers : Came result → (result ≡ 0) ⊎ (result ≡ 1) ⊎ (result ≡ 2) ⊎ (result ≡ 4) ⊎ (result ≡ 6) ⊎ (result ≡ 7)
      ⊎ (result ≡ 8) ⊎ (result ≡ 9) ⊎ (result ≡ 10) ⊎ (result ≡ 12)
  numbers (source_failed e rose keeps) = inr (inr (inr (inl e)))
  numbers (starved e) = inr (inr (inr (inr (inr (inr (inr (inl e)))))))
  numbers (too_long e takes wrote) = inr (inr (inr (inr (inr (inr (inr (inr (inl e))))))))
  numbers (refused e r reads wrote) = inr (inl e)
  numbers (unknown e defs reads none) = inr (inr (inl e))
  numbers (shut_down e s) = inl e
  numbers (spent e s) = inr (inr (inr (inr (inr (inr (inl e))))))
  numbers (failed e s) = inr (inr (inr (inr (inl e))))
  numbers (at_limit e name s wrote) = inr (inr (inr (inr (inr (inr (inr (inr (inl e))))))))
  numbers (other_file e place s wrote) = inr (inr (inr (inr (inr (inl e)))))
  numbers (unread e s) = inr (inr (inr (inr (inl e))))
  numbers (replied e text a wrote) = inl e
  numbers (unanswered e a) = inr (inr (inr (inr (inr (inr (inr (inr (inr (e)))))))))

  -- with 5 the sink failed
  sink_rose : (due : Status) (text : List ℕ) → IsTold due text result written written' sink sink' → result ≡ 5 → Rose sink sink'
  sink_rose due text is five = (is.said (λ nine. omega (arith, five, nine))).fault five

  pub row_5 : IsService S A same but_link request old new source source' result written written' sink sink' → result ≡ 5
      → Rose sink sink'
  row_5 (IsService.silent all (inl four) keeps) five = absurd (omega (arith, five, four.0))
  row_5 (IsService.silent all (inr nine) keeps) five = absurd (omega (arith, five, nine))
  row_5 (IsService.unserved due text all row is) five = sink_rose due text is five
  row_5 (IsService.served end s is) five = sink_rose _ _ is five
  row_5 (IsService.asked answer others a is) five = sink_rose _ _ is five

  -- nothing is written with 4 and 9
  pub row_silent : IsService S A same but_link request old new source source' result written written' sink sink'
      → (result ≡ 4) ⊎ (result ≡ 9) → Keeps written written'
  row_silent h (inl four) = (row_4 (came h (λ five. omega (arith, five, four))) four).1
  row_silent (IsService.silent all why keeps) (inr nine) = keeps
  row_silent (IsService.unserved due text all row is) (inr nine) = is.silent nine
  row_silent (IsService.served end s is) (inr nine) = is.silent nine
  row_silent (IsService.asked answer others a is) (inr nine) = is.silent nine

  pub service_numbers : IsService S A same but_link request old new source source' result written written' sink sink'
      → (result ≡ 5) ⊎ ((result ≡ 0) ⊎ (result ≡ 1) ⊎ (result ≡ 2) ⊎ (result ≡ 4) ⊎ (result ≡ 6) ⊎ (result ≡ 7)
      ⊎ (result ≡ 8) ⊎ (result ≡ 9) ⊎ (result ≡ 10) ⊎ (result ≡ 12))
  service_numbers h = by_5 _ (λ five. inl five) (λ other. inr (numbers (came h other)))
