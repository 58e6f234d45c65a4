-- Of which job or stream a body tells something that others wait for.
use Rattle.std.specs.List.{list_any}
use Rattle.std.specs.Prelude.{[], ℕ, ◌&&◌, ◌==◌, ◌||◌, Bool, List, None, Option, Some, option_and_then, true}
use Rattle.std.specs.Bool.{then_some}
use Rattle.model.specs.Types.{Body, Cancel, Job, NewPlan, Obeyed, Obj, ReplyGlobal, Stream, StreamDoc, UntilPassed}
use Rattle.model.specs.Words.{has}
use Rattle.model.specs.Catalogue.{docs_in}
use Rattle.owner_rows.specs.Subjects.{is_plan, job_in, stream_in}

abbrev pub job_of_object : Obj → Option ℕ
job_of_object (Job j) = Some j
job_of_object (Stream s) = None

abbrev pub stream_of_object : Obj → Option ℕ
stream_of_object (Job j) = None
stream_of_object (Stream s) = Some s

-- the job of which a body tells a launch or its end, a rerun, that it is confirmed or cancelled
abbrev pub job_told_in : Body → Option ℕ
job_told_in (UntilPassed o i mark) = job_of_object o
job_told_in (Obeyed a k (Cancel o)) = job_of_object o
job_told_in b = job_in b

-- the stream that a body releases, ends or cancels, or whose limit it sets
abbrev pub stream_told_in : Body → Option ℕ
stream_told_in (UntilPassed o i mark) = stream_of_object o
stream_told_in (Obeyed a k (Cancel o)) = stream_of_object o
stream_told_in b = stream_in b

-- one of the documents has this number
abbrev pub have_number : List StreamDoc → ℕ → Bool
have_number docs s = list_any (λ (d : StreamDoc). d.no == s) docs

-- a body brings the document of stream s
abbrev pub brings : ℕ → Body → Bool
brings s b = have_number (docs_in b) s

-- the streams that a plan carries
abbrev pub carried_in : Body → List ℕ
carried_in (NewPlan run cut carried docs) = carried
carried_in _ = []

-- a body names stream s among the members of a plan
abbrev pub names : ℕ → Body → Bool
names s b = have_number (docs_in b) s || has (carried_in b) s

-- the prompt of the network to which a body has the reply
abbrev pub reply_in : Body → Option (ℕ × Bool)
reply_in (Obeyed a k (ReplyGlobal p yes_)) = Some (p, yes_)
reply_in _ = None

-- what a body says of these: yes, no, or nothing
abbrev pub says_brought : ℕ → Body → Option Bool
says_brought s b = then_some (brings s b) true

abbrev pub says_named : ℕ → Body → Option Bool
says_named s b = then_some (names s b) true

-- plans have one number, 0
abbrev pub says_planned : ℕ → Body → Option Bool
says_planned n b = then_some (is_plan b && (0 == n)) true

-- the reply to prompt p
abbrev pub says_reply : ℕ → Body → Option Bool
says_reply p b = option_and_then (λ (r : ℕ × Bool). then_some (p == r.0) r.1) (reply_in b)
