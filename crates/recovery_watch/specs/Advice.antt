-- What a node advises itself for a job that ended badly.
use Rattle.std.specs.Option.{option_map_or}
use Rattle.std.specs.Prelude.{[], if◌then◌else◌, ℕ, ◌==◌, ◌||◌, ◌∷◌, Bool, List, None, Option, Some, false, filter}
use Rattle.std.specs.Prelude.{is_some, length, nat_lt, not, option_and_then, true}
use Rattle.base_types.specs.declared.Recovery.{Recovery}
use Rattle.base_types.specs.declared.Recovery.TheVariants as recovery
use Rattle.model.specs.Types.{Body, Cmd, Confirm, Events, Job, JobDoc, Orders, Rerun, Stream}
use Rattle.model.specs.Words.{all_of, least}
use Rattle.model.specs.History.{View}
use Rattle.model.specs.Catalogue.{StreamJob, is_member, job}
use Rattle.model.specs.Facts.{answered, is_cancelled, is_due, is_good, is_open, last_end, reruns}
use Rattle.model.specs.OwnMembers.{own_job_numbers}

-- an order of w to itself is held and not answered
abbrev pub is_waiting : View → ℕ → Bool
is_waiting V w = nat_lt (answered w (V (Events w))) (length (V (Orders w w)))

-- the job is not due, open or good, and its last launch ended with a return code
abbrev pub has_ended_badly : ℕ → List Body → Bool
has_ended_badly j events =
    all_of
    (not (is_due j events) ∷ not (is_open j events) ∷ not (is_good j events) ∷ is_some (last_end j events) ∷ [])

-- a job of w is cancelled, or its stream by the stream's owner
abbrev pub is_called_off : View → ℕ → StreamJob → Bool
is_called_off V w p =
    is_cancelled (Job p.doc.no) (V (Events w)) || is_cancelled (Stream p.parent.no) (V (Events p.parent.ws))

-- the recovery has something to do for a job that was rerun so often: to rerun it is advised once
abbrev pub recovers : Recovery → ℕ → Bool
recovers recovery.Stop n = false
recovers recovery.Continue n = true
recovers recovery.Rerun n = n == 0

-- an own member's job of w that ended badly, is not called off, and whose recovery has something to do
abbrev pub needs_advice_in : View → ℕ → StreamJob → Bool
needs_advice_in V w p =
    all_of
    ((p.doc.ws == w)
    ∷ is_member V p.parent.no
    ∷ has_ended_badly p.doc.no (V (Events w))
    ∷ not (is_called_off V w p)
    ∷ recovers p.doc.recovery (reruns p.doc.no (V (Events w)))
    ∷ [])

-- job j is one at w
unfoldable pub needs_advice : View → ℕ → ℕ → Bool
needs_advice V w j = option_map_or (needs_advice_in V w) (job V j) false

-- to continue is to confirm the job, to rerun is to rerun it
abbrev pub advised_by : Recovery → ℕ → Option Cmd
advised_by recovery.Stop j = None
advised_by recovery.Continue j = Some (Confirm j)
advised_by recovery.Rerun j = Some (Rerun j)

-- what the recovery of a job advises
abbrev pub advised : JobDoc → Option Cmd
advised doc = advised_by doc.recovery doc.no

-- of job j
abbrev pub advised_at : View → ℕ → Option Cmd
advised_at V j = option_and_then (λ (p : StreamJob). advised p.doc) (job V j)

-- none while an order of w to itself waits; else for the lowest job that needs it
unfoldable pub advice : View → ℕ → Option Cmd
advice V w =
    if is_waiting V w
    then None
    else option_and_then (advised_at V) (least (filter (needs_advice V w) (own_job_numbers V w)))
