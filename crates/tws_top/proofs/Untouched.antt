-- What a service left alone.
use Rattle.std.proofs.Common.{◌<◌, ◌≡◌, ◌≢◌, ◌⊎◌, ◌∙◌, ℕ, Err, List, Ok, Option, Result, Some, arith, inl, inr, sym}
use Rattle.conman_client.specs.declared.ends.AskEnd.{AskEnd}
use Rattle.conman_client.specs.declared.ends.AskEnd.TheVariants as ask
use Rattle.node_inputs.specs.declared.ends.NodeEnd.{NodeEnd}
use Rattle.node_inputs.specs.declared.ends.NodeEnd.TheVariants as run
use Rattle.node_restart.specs.declared.faults.RestartFault.{RestartFault}
use Rattle.node_restart.specs.declared.faults.RestartFault.TheVariants as made
use Rattle.node_service.specs.declared.services.ServiceEnd.{ServiceEnd}
use Rattle.node_service.specs.declared.services.ServiceEnd.TheVariants.{Ran, Unmade}
use Rattle.outside.specs.Streams.{Stream}
use Rattle.replies.specs.Statuses.{number_of as number_of_status}
use Rattle.replies.specs.declared.statuses.Status.{Status}
use Rattle.node_commands.specs.Ends.{IsTold, answer_status, end_status, run_status, run_text}
use Rattle.node_commands.specs.Forms.{AskOf, NodeFor, Request, request_of}
use Rattle.node_commands.specs.Services.{Asking, IsServed, IsService, Serving}
use Rattle.tws_top.specs.ServiceRows.{HasServed}
use Rattle.tws_top.proofs.Completeness.{two_requests}

-- the numbers before a service
early : (n : ℕ) → (n ≡ 1) ⊎ (n ≡ 2) ⊎ (n ≡ 4) → (0 < n) × (n < 5)
early n (inl e) = (omega (arith, e), omega (arith, e))
early n (inr (inl e)) = (omega (arith, e), omega (arith, e))
early n (inr (inr e)) = (omega (arith, e), omega (arith, e))

-- none of them is that of an end, or of an answer
no_run : (n : ℕ) → (0 < n) × (n < 5) → (why : NodeEnd) → n ≡ number_of_status (run_status why) → ⊥
no_run n is run.Shutdown e = let zero_ : n ≡ 0 = e in omega (arith, zero_, is.0)
no_run n is run.TurnsSpent e = let eight : n ≡ 8 = e in omega (arith, eight, is.1)
no_run n is run.DiskFault e = let six : n ≡ 6 = e in omega (arith, six, is.1)
no_run n is (run.Limit which) e = let ten : n ≡ 10 = e in omega (arith, ten, is.1)
no_run n is run.NoMemory e = let nine : n ≡ 9 = e in omega (arith, nine, is.1)

no_end : (n : ℕ) → (0 < n) × (n < 5) → (end : ServiceEnd) → n ≡ number_of_status (end_status end) → ⊥
no_end n is (Unmade (made.NotThisFile place)) e = let seven : n ≡ 7 = e in omega (arith, seven, is.1)
no_end n is (Unmade made.Disk) e = let six : n ≡ 6 = e in omega (arith, six, is.1)
no_end n is (Unmade made.NoMemory) e = let nine : n ≡ 9 = e in omega (arith, nine, is.1)
no_end n is (Ran why) e = no_run n is why e

no_reply : (n : ℕ) → (0 < n) × (n < 5) → (answer : Result (List ℕ) AskEnd) → n ≡ number_of_status (answer_status answer) → ⊥
no_reply n is (Ok text) e = let zero_ : n ≡ 0 = e in omega (arith, zero_, is.0)
no_reply n is (Err ask.NoAnswer) e = let twelve : n ≡ 12 = e in omega (arith, twelve, is.1)
no_reply n is (Err ask.NoMemory) e = let nine : n ≡ 9 = e in omega (arith, nine, is.1)

-- a run is told with another number than a file that is refused
not_7 : (why : NodeEnd) → 7 ≡ number_of_status (run_status why) → ⊥
not_7 run.Shutdown e = let zero_ : 7 ≡ 0 = e in omega (arith, zero_)
not_7 run.TurnsSpent e = let eight : 7 ≡ 8 = e in omega (arith, eight)
not_7 run.DiskFault e = let six : 7 ≡ 6 = e in omega (arith, six)
not_7 (run.Limit which) e = let ten : 7 ≡ 10 = e in omega (arith, ten)
not_7 run.NoMemory e = let nine : 7 ≡ 9 = e in omega (arith, nine)

its_number : {result : ℕ} {written written' : Option (List ℕ)} {sink sink' : ℕ} (due : Status) (text : List ℕ)
    → IsTold due text result written written' sink sink' → result ≢ 9 → result ≢ 5 → result ≡ number_of_status due
its_number due text is other_9 other_5 = ((is.said other_9).all other_5).0

-- a run that was told with 7 was none
refused_alone : {S : Serving} {old new : Option Stream} {result : ℕ} {written written' : Option (List ℕ)} {sink sink' : ℕ}
    (rest : Type 0) (name : List ℕ) (turns : ℕ)
    → ((why : NodeEnd) × IsServed S (NodeFor name turns) old new (Ran why)
    × IsTold (run_status why) (run_text why) result written written' sink sink') ⊎ rest → result ≡ 7 → rest
refused_alone rest name turns (inl ran) is =
    let number = its_number _ _ ran.2 (λ e. omega (arith, e, is)) (λ e. omega (arith, e, is)) in
    absurd (not_7 ran.0 (sym is ∙ number))
refused_alone rest name turns (inr alone) is = alone

module _ {S : Serving} {A : Asking} {same but_link : Type 0} {old new : Option Stream} {faults faults' result : ℕ}
    {written written' : Option (List ℕ)} {sink sink' : ℕ} where
  -- with 1, 2 and 4 no service was reached
  pub early_alone : (request : Request)
      → IsService S A same but_link request old new faults faults' result written written' sink sink'
      → (result ≡ 1) ⊎ (result ≡ 2) ⊎ (result ≡ 4) → same
  early_alone request (IsService.silent all why keeps) is = all
  early_alone request (IsService.unserved due text all row told) is = all
  early_alone request (IsService.served end s told) is =
      let n = early result is in
      absurd (no_end result n end (its_number _ _ told (λ e. omega (arith, e, n.1)) (λ e. omega (arith, e, n.1))))
  early_alone request (IsService.asked answer others a told) is =
      let n = early result is in
      absurd (no_reply result n answer (its_number _ _ told (λ e. omega (arith, e, n.1)) (λ e. omega (arith, e, n.1))))

  -- an ask calls nothing but the link
  pub ask_alone : (name command : List ℕ) → (same → but_link)
      → IsService S A same but_link (AskOf name command) old new faults faults' result written written' sink sink' → but_link
  ask_alone name command rest (IsService.silent all why keeps) = rest all
  ask_alone name command rest (IsService.unserved due text all row told) = rest all
  ask_alone name command rest (IsService.served end s told) = absurd (two_requests s.name name command s.turns (sym s.is))
  ask_alone name command rest (IsService.asked answer others a told) = others

  -- A node was made and ran, or its end is that of one that was not made, or no service was reached.
  ran_or_alone : (rest : Type 0) (name : List ℕ) (turns : ℕ) → (same → rest)
      → ((fault : RestartFault) → IsServed S (NodeFor name turns) old new (Unmade fault) → rest)
      → IsService S A same but_link (NodeFor name turns) old new faults faults' result written written' sink sink'
      → ((why : NodeEnd) × IsServed S (NodeFor name turns) old new (Ran why)
      × IsTold (run_status why) (run_text why) result written written' sink sink') ⊎ rest
  ran_or_alone rest name turns alone unmade (IsService.silent all why keeps) = inr (alone all)
  ran_or_alone rest name turns alone unmade (IsService.unserved due text all row told) = inr (alone all)
  ran_or_alone rest name turns alone unmade (IsService.served (Unmade fault) s told) = inr (unmade fault s)
  ran_or_alone rest name turns alone unmade (IsService.served (Ran why) s told) = inl (why, s, told)
  ran_or_alone rest name turns alone unmade (IsService.asked answer others a told) =
      absurd (two_requests name a.name a.command turns a.is)

  pub unmade_alone : (rest : Type 0) (words : List (List ℕ)) (name : List ℕ) (turns : ℕ)
      → request_of words ≡ Some (NodeFor name turns) → (same → rest)
      → ((fault : RestartFault) → IsServed S (NodeFor name turns) old new (Unmade fault) → rest)
      → IsService S A same but_link (NodeFor name turns) old new faults faults' result written written' sink sink'
      → ((why : NodeEnd) × HasServed S words old new why) ⊎ rest
  unmade_alone rest words name turns asked alone unmade h = go (ran_or_alone rest name turns alone unmade h)
    where
      go : ((why : NodeEnd) × IsServed S (NodeFor name turns) old new (Ran why)
          × IsTold (run_status why) (run_text why) result written written' sink sink') ⊎ rest
          → ((why : NodeEnd) × HasServed S words old new why) ⊎ rest
      go (inl ran) = inl (ran.0, record { request = NodeFor name turns; asked = asked; served = ran.1 })
      go (inr is) = inr is

  -- with 7 none was made
  pub node_alone : (rest : Type 0) (name : List ℕ) (turns : ℕ) → (same → rest)
      → ((fault : RestartFault) → IsServed S (NodeFor name turns) old new (Unmade fault) → rest)
      → IsService S A same but_link (NodeFor name turns) old new faults faults' result written written' sink sink'
      → (result ≡ 1) ⊎ (result ≡ 2) ⊎ (result ≡ 4) ⊎ (result ≡ 7) → rest
  node_alone rest name turns alone unmade h (inl e) = alone (early_alone (NodeFor name turns) h (inl e))
  node_alone rest name turns alone unmade h (inr (inl e)) = alone (early_alone (NodeFor name turns) h (inr (inl e)))
  node_alone rest name turns alone unmade h (inr (inr (inl e))) = alone (early_alone (NodeFor name turns) h (inr (inr e)))
  node_alone rest name turns alone unmade h (inr (inr (inr e))) =
      refused_alone rest name turns (ran_or_alone rest name turns alone unmade h) e
