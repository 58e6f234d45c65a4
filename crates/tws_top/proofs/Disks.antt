-- What a service tells of its disk and of its link.
use Rattle.std.proofs.Common.{◌++◌, ◌≡◌, ◌⊎◌, ◌∙◌, ℕ, Err, IfSome, List, None, Option, Some, ap, inl, inr, refl, subst, sym}
use Rattle.std.specs.Io.KnownBytes.{Appends}
use Rattle.base_types.specs.Limits.{limit_number}
use Rattle.base_types.specs.declared.LimitName.{LimitName}
use Rattle.conman_client.specs.declared.ends.AskEnd.TheVariants.{NoAnswer}
use Rattle.model.specs.Types.{Entry}
use Rattle.node_inputs.specs.Keeping.{bodies}
use Rattle.node_inputs.specs.Tellings.{Told}
use Rattle.node_inputs.specs.Traces.{Trace, kept}
use Rattle.node_service.specs.Serving.{IsFull, KeepsFront}
use Rattle.run_laws.specs.Limits.{IsMet}
use Rattle.node_inputs.specs.declared.ends.NodeEnd.TheVariants as run
use Rattle.node_restart.specs.declared.faults.RestartFault.TheVariants as made
use Rattle.node_service.specs.declared.services.ServiceEnd.TheVariants.{Ran, Unmade}
use Rattle.outside.specs.Calls.{LinkCalls}
use Rattle.outside.specs.Causes.{Rose}
use Rattle.outside.specs.Streams.{Stream}
use Rattle.replies.specs.Texts.{limit_line, limit_word}
use Rattle.node_commands.specs.Ends.{other_file_line}
use Rattle.node_commands.specs.Forms.{Request, request_of}
use Rattle.node_commands.specs.Services.{AskedBy, IsAsked, IsServed, ServedBy}
use Rattle.tws_top.specs.ServiceRows.{EndsAtLimit, FindsOtherFile, HasNoAnswer, IsFileFull, MeetsLimit, PassesLimit}

file_full : (told now : Option (List ℕ)) (held : List Entry) (trace : Trace) → KeepsFront (bodies (held ++ kept trace)) told now
    → IfSome told (λ (before : List ℕ). IsFull held trace)
    → IfSome told (λ (before : List ℕ). IsFileFull held trace told now)
file_full None now held trace keeps full = tt
file_full (Some before) now held trace keeps full = record { keeps = keeps; full = full }

module _ {D : Type 0} (seen : D → Option (List ℕ)) (faults moment : D → ℕ) (may_leave : D → List ℕ → Type 0)
    (left_since : D → ℕ → List ℕ → Type 0) (disk disk' : D) (told now : Told) (others_same : Type 0) (request : Request) (old new : Option Stream) where
  -- a disk that failed has risen
  pub disk_rose : IsServed (ServedBy seen faults moment may_leave left_since disk disk' told now others_same) request old new (Ran run.DiskFault)
      ⊎ IsServed (ServedBy seen faults moment may_leave left_since disk disk' told now others_same) request old new (Unmade made.Disk)
      → Rose (faults disk) (faults disk')
  disk_rose (inl s) = s.served.0.cause refl
  disk_rose (inr s) = s.served.0.0.cause refl

  -- another file is refused at a place
  pub other_file_found : (words : List (List ℕ)) (written written' : Option (List ℕ)) (place : ℕ)
      → request_of words ≡ Some request
      → IsServed (ServedBy seen faults moment may_leave left_since disk disk' told now others_same) request old new (Unmade (made.NotThisFile place))
      → Appends written written' (other_file_line place) → FindsOtherFile words (seen disk) old new written written'
  other_file_found words written written' place asked s wrote = record {
    name = s.name;
    turns = s.turns;
    defs = s.defs;
    me = s.me;
    place = place;
    asked = asked ∙ ap Some s.is;
    read = s.read;
    there = s.there;
    refused = s.served.0.0.refused place refl;
    wrote = wrote;
  }

  -- a limit that ended a run was met
  limit_met : (which : LimitName)
      → (s : IsServed (ServedBy seen faults moment may_leave left_since disk disk' told now others_same) request old new (Ran (run.Limit which)))
      → MeetsLimit s.served.0.start.kept s.served.0.trace s.served.0.after.node (seen disk) (seen disk') which
  limit_met which s = met (s.served.0.met which refl)
    where
      met : IsMet s.served.0.after.node which
          → MeetsLimit s.served.0.start.kept s.served.0.trace s.served.0.after.node (seen disk) (seen disk') which
      met (inl file) =
          subst
          (λ (l : LimitName). MeetsLimit s.served.0.start.kept s.served.0.trace s.served.0.after.node (seen disk) (seen disk') l)
          (sym file)
          (MeetsLimit.file_full (file_full (seen disk) (seen disk') s.served.0.start.kept s.served.0.trace s.served.0.keeps
          (s.served.0.full (ap run.Limit file))))
      met (inr place) =
          subst
          (λ (l : LimitName). MeetsLimit s.served.0.start.kept s.served.0.trace s.served.0.after.node (seen disk) (seen disk') l)
          (sym place.0) (MeetsLimit.place_spent place.1 place.2)

  pub ends_at_limit : (which : LimitName)
      → IsServed (ServedBy seen faults moment may_leave left_since disk disk' told now others_same) request old new (Ran (run.Limit which))
      → EndsAtLimit seen faults moment may_leave left_since disk disk' told now others_same request old new
  ends_at_limit which s = record { which = which; served = s; met = limit_met which s }

  pub run_passes_limit : (words : List (List ℕ)) (written written' : Option (List ℕ)) (which : LimitName)
      → request_of words ≡ Some request
      → IsServed (ServedBy seen faults moment may_leave left_since disk disk' told now others_same) request old new (Ran (run.Limit which))
      → Appends written written' (limit_line (limit_word which) (limit_number which))
      → PassesLimit seen faults moment may_leave left_since disk disk' told now others_same words old new written written'
  run_passes_limit words written written' which asked s wrote =
      PassesLimit.of_run request asked (record { which = which; served = s; met = limit_met which s }) wrote

-- a node gave no reply
pub no_answer_given : (words : List (List ℕ)) (request : Request) (old new : Option Stream) (calls calls' : LinkCalls)
    (faults faults' : ℕ) → request_of words ≡ Some request
    → IsAsked (AskedBy calls calls' faults faults') request old new (Err NoAnswer)
    → HasNoAnswer words old new calls calls' faults faults'
no_answer_given words request old new calls calls' faults faults' asked a = record {
  name = a.name;
  command = a.command;
  defs = a.defs;
  me = a.me;
  peer = a.peer;
  asked = asked ∙ ap Some a.is;
  read = a.read;
  there = a.there;
  its_peer = a.its_peer;
  why = a.asked.cause refl;
}
