-- What services answer where nothing fails.
use Rattle.std.proofs.Common.{◌≡◌, ◌≤◌, ◌⊎◌, ◌∙◌, ℕ, List, Option, Some, ap, inl, inr, length, subst, sym}
use Rattle.lemmas.proofs.Options.{none_some}
use Rattle.base_types.specs.declared.LimitName.{LimitName}
use Rattle.composer_parser.specs.declared.Defs.{Defs}
use Rattle.definition_texts.specs.Refusals.{AreChecked}
use Rattle.node_inputs.specs.declared.ends.NodeEnd.TheVariants as run
use Rattle.node_restart.specs.declared.faults.RestartFault.TheVariants as made
use Rattle.node_service.specs.declared.services.ServiceEnd.TheVariants.{Ran, Unmade}
use Rattle.outside.specs.Causes.{Rose}
use Rattle.outside.specs.Streams.{Stream}
use Rattle.node_commands.specs.Forms.{AskOf, NodeFor, Request}
use Rattle.node_commands.specs.Services.{Asking, IsServed, IsService, Serving}
use Rattle.workload_defs.specs.Stations.{number_of}
use Rattle.tws_top.proofs.Numbers.{Came, at_limit, by_5, came, failed, other_file, refused, replied, row_5, shut_down, source_failed, spent, starved, too_long, unanswered, unknown, unread}
use Rattle.tws_top.proofs.Services.{long_short, refuses_checked, same_defs}

-- a node and an ask are two requests
pub two_requests : (name other command : List ℕ) (turns : ℕ) → NodeFor name turns ≡ AskOf other command → ⊥
two_requests name other command turns e = cc

-- the statuses of a node where nothing fails; with 10 its run ended at a limit
abbrev pub NodeEnds : Serving → Request → Option Stream → Option Stream → ℕ → Type 0
NodeEnds S request old new result =
    (result ≡ 0) ⊎ (result ≡ 7) ⊎ (result ≡ 8) ⊎ (result ≡ 9)
    ⊎ ((result ≡ 10) × (which : LimitName) × IsServed S request old new (Ran (run.Limit which)))

pub node_ends : {S : Serving} {request : Request} {old new : Option Stream} {result : ℕ} {Ends : Type 0}
    → ((which : LimitName) → IsServed S request old new (Ran (run.Limit which)) → Ends)
    → NodeEnds S request old new result
    → (result ≡ 0) ⊎ (result ≡ 7) ⊎ (result ≡ 8) ⊎ (result ≡ 9) ⊎ ((result ≡ 10) × Ends)
node_ends f (inl e) = inl e
node_ends f (inr (inl e)) = inr (inl e)
node_ends f (inr (inr (inl e))) = inr (inr (inl e))
node_ends f (inr (inr (inr (inl e)))) = inr (inr (inr (inl e)))
node_ends f (inr (inr (inr (inr e)))) = inr (inr (inr (inr (e.0, f e.1 e.2))))

module _ (S : Serving) (A : Asking) (same but_link : Type 0) (source : Stream) (new : Option Stream)
    (faults faults' result : ℕ) (written written' : Option (List ℕ)) (sink sink' : ℕ)
    (name : List ℕ) (me : ℕ) (d : Defs) (short : length source.left ≤ 16777216) (are : AreChecked source.left d)
    (there : number_of d name ≡ Some me) (calm_source : Rose faults faults' → ⊥) (calm_sink : Rose sink sink' → ⊥) where
  node_came : (turns : ℕ) (calm : IsServed S (NodeFor name turns) (Some source) new (Ran run.DiskFault) ⊎ IsServed S (NodeFor name turns) (Some source) new (Unmade made.Disk) → ⊥)
      → Came S A same but_link (NodeFor name turns) (Some source) new faults faults' result written written' sink sink' result
      → NodeEnds S (NodeFor name turns) (Some source) new result
  node_came turns calm (source_failed e rose keeps) = absurd (calm_source rose)
  node_came turns calm (starved e) = inr (inr (inr (inl e)))
  node_came turns calm (too_long e takes wrote) = absurd (long_short S A (NodeFor name turns) source new takes short)
  node_came turns calm (refused e r reads wrote) = absurd (refuses_checked S A (NodeFor name turns) source new r d reads are)
  node_came turns calm (unknown e defs reads none) =
      absurd (none_some (sym none ∙ ap (λ (x : Defs). number_of x name) (same_defs source new defs d reads are) ∙ there))
  node_came turns calm (shut_down e s) = inl e
  node_came turns calm (spent e s) = inr (inr (inl e))
  node_came turns calm (failed e s) = absurd (calm (inl s))
  node_came turns calm (at_limit e which s wrote) = inr (inr (inr (inr (e, which, s))))
  node_came turns calm (other_file e place s wrote) = inr (inl e)
  node_came turns calm (unread e s) = absurd (calm (inr s))
  node_came turns calm (replied e text a wrote) = absurd (two_requests name a.name a.command turns a.is)
  node_came turns calm (unanswered e a) = absurd (two_requests name a.name a.command turns a.is)

  pub node_completes : (turns : ℕ) (calm : IsServed S (NodeFor name turns) (Some source) new (Ran run.DiskFault) ⊎ IsServed S (NodeFor name turns) (Some source) new (Unmade made.Disk) → ⊥)
      → IsService S A same but_link (NodeFor name turns) (Some source) new faults faults' result written written' sink sink'
      → NodeEnds S (NodeFor name turns) (Some source) new result
  node_completes turns calm h =
      by_5 S A same but_link (NodeFor name turns) (Some source) new faults faults' result written written' sink sink'
      (NodeEnds S (NodeFor name turns) (Some source) new result)
      (λ five. absurd (calm_sink (row_5 S A same but_link (NodeFor name turns) (Some source) new faults faults' result written written' sink sink' h five)))
      (λ other. node_came turns calm (came S A same but_link (NodeFor name turns) (Some source) new faults faults' result written written' sink sink' h other))

  ask_came : (command : List ℕ)
      → Came S A same but_link (AskOf name command) (Some source) new faults faults' result written written' sink sink' result
      → (result ≡ 0) ⊎ (result ≡ 9) ⊎ (result ≡ 12)
  ask_came command (source_failed e rose keeps) = absurd (calm_source rose)
  ask_came command (starved e) = inr (inl e)
  ask_came command (too_long e takes wrote) = absurd (long_short S A (AskOf name command) source new takes short)
  ask_came command (refused e r reads wrote) = absurd (refuses_checked S A (AskOf name command) source new r d reads are)
  ask_came command (unknown e defs reads none) =
      absurd (none_some (sym none ∙ ap (λ (x : Defs). number_of x name) (same_defs source new defs d reads are) ∙ there))
  ask_came command (shut_down e s) = absurd (two_requests s.name name command s.turns (sym s.is))
  ask_came command (spent e s) = absurd (two_requests s.name name command s.turns (sym s.is))
  ask_came command (failed e s) = absurd (two_requests s.name name command s.turns (sym s.is))
  ask_came command (at_limit e which s wrote) = absurd (two_requests s.name name command s.turns (sym s.is))
  ask_came command (other_file e place s wrote) = absurd (two_requests s.name name command s.turns (sym s.is))
  ask_came command (unread e s) = absurd (two_requests s.name name command s.turns (sym s.is))
  ask_came command (replied e text a wrote) = inl e
  ask_came command (unanswered e a) = inr (inr e)

  pub ask_completes : (command : List ℕ)
      → IsService S A same but_link (AskOf name command) (Some source) new faults faults' result written written' sink sink'
      → (result ≡ 0) ⊎ (result ≡ 9) ⊎ (result ≡ 12)
  ask_completes command h =
      by_5 S A same but_link (AskOf name command) (Some source) new faults faults' result written written' sink sink'
      ((result ≡ 0) ⊎ (result ≡ 9) ⊎ (result ≡ 12))
      (λ five. absurd (calm_sink (row_5 S A same but_link (AskOf name command) (Some source) new faults faults' result written written' sink sink' h five)))
      (λ other. ask_came command (came S A same but_link (AskOf name command) (Some source) new faults faults' result written written' sink sink' h other))

module _ {S : Serving} {A : Asking} {same but_link : Type 0} {old new : Option Stream} {faults faults' result : ℕ}
    {written written' : Option (List ℕ)} {sink sink' : ℕ} where
  -- the same of a source that tells what it has left
  pub node_done : (source : Stream) (name : List ℕ) (turns me : ℕ) (d : Defs) → old ≡ Some source
      → length source.left ≤ 16777216 → AreChecked source.left d → number_of d name ≡ Some me
      → (Rose faults faults' → ⊥) → (Rose sink sink' → ⊥)
      → (IsServed S (NodeFor name turns) old new (Ran run.DiskFault) ⊎ IsServed S (NodeFor name turns) old new (Unmade made.Disk) → ⊥)
      → IsService S A same but_link (NodeFor name turns) old new faults faults' result written written' sink sink'
      → NodeEnds S (NodeFor name turns) old new result
  node_done source name turns me d told short are there calm_source calm_sink calm_disk h =
      subst
      (λ (o : Option Stream).
      (IsServed S (NodeFor name turns) o new (Ran run.DiskFault) ⊎ IsServed S (NodeFor name turns) o new (Unmade made.Disk) → ⊥)
      → IsService S A same but_link (NodeFor name turns) o new faults faults' result written written' sink sink'
      → NodeEnds S (NodeFor name turns) o new result) (sym told)
      (node_completes S A same but_link source new faults faults' result written written' sink sink' name me d short are there calm_source calm_sink turns)
      calm_disk h

  pub ask_done : (source : Stream) (name command : List ℕ) (me : ℕ) (d : Defs) → old ≡ Some source
      → length source.left ≤ 16777216 → AreChecked source.left d → number_of d name ≡ Some me
      → (Rose faults faults' → ⊥) → (Rose sink sink' → ⊥)
      → IsService S A same but_link (AskOf name command) old new faults faults' result written written' sink sink'
      → (result ≡ 0) ⊎ (result ≡ 9) ⊎ (result ≡ 12)
  ask_done source name command me d told short are there calm_source calm_sink h =
      ask_completes S A same but_link source new faults faults' result written written' sink sink' name me d short are there calm_source calm_sink command
      (subst (λ (o : Option Stream). IsService S A same but_link (AskOf name command) o new faults faults' result written written' sink sink') told h)
