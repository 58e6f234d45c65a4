-- The lines of a client, and what is answered.
use Rattle.std.specs.Prelude.{if◌then◌else◌, ℕ, ◌==◌, ◌⊎◌, Bool, Err, List, None, Ok, Option, Result, Some}
use Rattle.std.specs.Prelude.{length, nat_le, nat_lt}
use Rattle.base_types.specs.declared.LimitName.TheVariants.{Places}
use Rattle.calendars.specs.Dates.{last_day}
use Rattle.composer_parser.specs.declared.Defs.{Defs}
use Rattle.model.specs.Types.{Cmd, Events, Input, Next, Orders, StreamDraft, Typed}
use Rattle.model.specs.Fit.{AreFit, IsFitDraft}
use Rattle.model.specs.NewPlan.{last_run}
use Rattle.agent_core.specs.Nodes.{NodeState, present_in, view_in}
use Rattle.agent_core.specs.declared.faults.StepFault.{StepFault}
use Rattle.agent_core.specs.declared.faults.StepFault.TheVariants as step_fault
use Rattle.carry_forward.specs.declared.faults.CarryFault.TheVariants as carry
use Rattle.conman_orders.specs.Names.{workstation}
use Rattle.conman_orders.specs.Orders.{due_order}
use Rattle.conman_orders.specs.declared.orders.ResolveFault.{ResolveFault}
use Rattle.conman_orders.specs.declared.orders.ResolveFault.TheVariants as resolve_fault
use Rattle.conman_syntax.specs.Rows.{due_line}
use Rattle.conman_syntax.specs.declared.faults.CommandFault.{CommandFault}
use Rattle.conman_syntax.specs.declared.faults.CommandFault.TheVariants as command_fault
use Rattle.conman_syntax.specs.declared.lines.Line.{Line}
use Rattle.conman_syntax.specs.declared.lines.Line.TheVariants as line
use Rattle.mail_frames.specs.declared.frames.Frame.{Frame}
use Rattle.mail_frames.specs.declared.frames.Frame.TheVariants as frame
use Rattle.mail_frames.specs.Spelling.{frame_bytes}
use Rattle.mail_frames.specs.Streams.{AreFramesOf}
use Rattle.node_replies.specs.Replies.{kept_line, link_line, plan_line, refused_line, shutdown_line, unlink_line}
use Rattle.node_replies.specs.Shown.{shown_lines}
use Rattle.node_replies.specs.declared.replies.Refusal.{Refusal}
use Rattle.node_replies.specs.declared.replies.Refusal.TheVariants as refusal
use Rattle.node_replies.specs.declared.picks.Shows.{Shows}
use Rattle.node_replies.specs.declared.picks.Shows.TheVariants as shows
use Rattle.outside.specs.Calls.{Asked}
use Rattle.plan_builder.specs.Drafts.{AreDrafts}
use Rattle.plan_builder.specs.Limits.{plan_fault}
use Rattle.plan_builder.specs.declared.faults.PlanFault.{PlanFault}
use Rattle.plan_builder.specs.declared.faults.PlanFault.TheVariants as no_plan
use Rattle.symphony_view.specs.Listings.{listing_of}
use Rattle.node_inputs.specs.Actions.{Action, Call, Each, From, If, IfThere, Nothing, Stop, Then, Wants}
use Rattle.node_inputs.specs.Inputs.{Follow, Refused, Takes}
use Rattle.node_inputs.specs.Traces.{Event}
use Rattle.node_inputs.specs.declared.ends.NodeEnd.TheVariants.{Limit, Shutdown}

-- a reply to a client; one of more than 1,048,576 bytes says so
abbrev pub reply_text : List ℕ → List ℕ
reply_text text = if nat_lt 1048576 (length text) then refused_line refusal.TooLong else text

-- a reply that fails changes nothing
abbrev pub Reply : List ℕ → Action NodeState
Reply text old trace end new =
    (ok : Bool) × Call (Event.Replies (record { bytes = frame_bytes (frame.Reply (reply_text text)); ok = ok })) old trace end new

abbrev pub Say : List ℕ → Action NodeState
Say text = Wants (Reply text)

-- why a text is no line
abbrev pub command_refusal : CommandFault → Option Refusal
command_refusal command_fault.UnknownCommand = Some refusal.UnknownCommand
command_refusal (command_fault.BadArgument n) = Some refusal.BadArgument
command_refusal command_fault.TooMany = Some refusal.TooMany
command_refusal command_fault.NoMemory = None

-- why a day has no drafts
abbrev pub plan_refusal : PlanFault → Option Refusal
plan_refusal (no_plan.Limit n) = Some refusal.Limit
plan_refusal (no_plan.OutOfRange l) = Some refusal.OutOfRange
plan_refusal no_plan.NoMemory = None

-- why a step is refused
abbrev pub step_refusal : StepFault → Option Refusal
step_refusal step_fault.NotInNetwork = Some refusal.NotInNetwork
step_refusal step_fault.NotNeighbour = Some refusal.NotNeighbour
step_refusal step_fault.NotMaster = Some refusal.NotMaster
step_refusal step_fault.NoProcess = Some refusal.NoProcess
step_refusal step_fault.NoDep = Some refusal.NoDep
step_refusal step_fault.PlaceSpent = None
step_refusal (step_fault.Carry carry.RunsSpent) = Some refusal.RunsSpent
step_refusal (step_fault.Carry carry.NumbersSpent) = Some refusal.NumbersSpent
step_refusal (step_fault.Carry (carry.PlanFull n)) = Some refusal.PlanFull
step_refusal (step_fault.Carry carry.NoMemory) = None
step_refusal step_fault.TooLong = Some refusal.TooLong
step_refusal step_fault.NoMemory = None

-- a line is refused, for a cause that can be told
abbrev pub Refuse : Option Refusal → Action NodeState
Refuse why = IfThere why (λ (r : Refusal). Say (refused_line r)) Nothing

-- a step that is refused is answered, but a place that is spent ends the run
abbrev pub AnswerFault : StepFault → Action NodeState
AnswerFault step_fault.PlaceSpent = Stop (Limit Places)
AnswerFault fault = Refuse (step_refusal fault)

-- an input of a client is taken, and then this is said of the node after it; or it is refused, and why is said
abbrev pub Serve : Input → (NodeState → List ℕ) → Action NodeState
Serve input text =
    Wants (λ old trace end new.
    Then (Takes Follow input) (From (λ (now : NodeState). Say (text now))) old trace end new
    ⊎ Refused AnswerFault input old trace end new)

-- `kept A>W PLACE`: the order is the last of its feed
abbrev pub kept_text : ℕ → NodeState → List ℕ
kept_text to node = kept_line node.net node.me to (length (view_in node (Orders node.me to)))

-- `plan RUN`: the run of the plan that was made
abbrev pub plan_text : NodeState → List ℕ
plan_text node = plan_line (last_run (view_in node (Events 0)))

-- what a line gives: a command, which is typed at the node, or a name that is unknown
abbrev pub OrderBy : Result (ℕ × Cmd) ResolveFault → Action NodeState
OrderBy (Ok order) = Serve (Input.Local (Typed order.0 order.1)) (kept_text order.0)
OrderBy (Err (resolve_fault.UnknownName n)) = Say (refused_line refusal.UnknownName)
OrderBy (Err resolve_fault.NotACommand) = Nothing
OrderBy (Err resolve_fault.NoMemory) = Nothing

-- a line that gives a command
abbrev pub Order : Line → Action NodeState
Order l = Wants (From (λ (now : NodeState). OrderBy (due_order (present_in now) (view_in now) now.me l)))

-- what a link is asked for: an unknown workstation is refused, and the node itself is no neighbour
abbrev pub AskOf : (ℕ → Asked) → (ℕ → List ℕ) → ℕ → Option ℕ → Action NodeState
AskOf call text me None = Say (refused_line refusal.UnknownName)
AskOf call text me (Some w) =
    If (w == me) (Say (refused_line refusal.NotNeighbour)) (Then (Call (Event.Asks (call w))) (Say (text w)))

abbrev pub AskLink : (ℕ → Asked) → (NodeState → ℕ → List ℕ) → List ℕ → Action NodeState
AskLink call text name = From (λ (now : NodeState). AskOf call (text now) now.me (workstation now.net name))

abbrev pub link_text : NodeState → ℕ → List ℕ
link_text node w = link_line node.net w

abbrev pub unlink_text : NodeState → ℕ → List ℕ
unlink_text node w = unlink_line node.net w

-- the drafts of every day are fit
abbrev pub HasFitPlans : Defs → Type 0
HasFitPlans defs = (day : ℕ) (drafts : List StreamDraft) → AreDrafts defs day drafts → AreFit IsFitDraft drafts

-- the plan of a day that has drafts, or why it has none
abbrev pub PlanBy : Defs → ℕ → Option PlanFault → Action NodeState
PlanBy defs day (Some fault) old trace end new = Refuse (plan_refusal fault) old trace end new
PlanBy defs day None old trace end new =
    (drafts : List StreamDraft) × AreDrafts defs day drafts
    × Serve (Input.Local (Next drafts)) plan_text old trace end new

-- the plan of a day: at the master alone, and up to 12/31/9999
abbrev pub PlanDay : Defs → ℕ → Action NodeState
PlanDay defs day = From (λ (now : NodeState).
    If (now.me == 0)
    (If (nat_le day last_day) (Wants (PlanBy defs day (plan_fault defs day))) (Say (refused_line refusal.OutOfRange)))
    (Say (refused_line refusal.NotMaster)))

-- what the plan shows
abbrev pub Show : Shows → Option (List ℕ) → Action NodeState
Show kind pattern = From (λ (now : NodeState). Say (shown_lines kind pattern (listing_of now.net (view_in now))))

-- a line, by its form
abbrev pub Obey : Defs → Line → Action NodeState
Obey defs (line.ShowJobs pattern) = Show shows.Jobs pattern
Obey defs (line.ShowSchedules pattern) = Show shows.Schedules pattern
Obey defs (line.ShowCpus pattern) = Show shows.Cpus pattern
Obey defs (line.ShowPrompts pattern) = Show shows.Prompts pattern
Obey defs (line.ShowResources pattern) = Show shows.Resources pattern
Obey defs (line.Link name) = AskLink Asked.Raise link_text name
Obey defs (line.Unlink name) = AskLink Asked.Close unlink_text name
Obey defs line.Shutdown = Then (Say shutdown_line) (Stop Shutdown)
Obey defs (line.JNextPlan day) = PlanDay defs day
Obey defs l = Order l

-- a text of a client, by the line that it is
abbrev pub AnswerBy : Defs → Result Line CommandFault → Action NodeState
AnswerBy defs (Ok l) = Obey defs l
AnswerBy defs (Err fault) = Refuse (command_refusal fault)

abbrev pub Answer : Defs → List ℕ → Action NodeState
Answer defs text = Wants (AnswerBy defs (due_line text))

-- a frame of a client: what is no command is dropped
abbrev pub AnswerFrame : Defs → Frame → Action NodeState
AnswerFrame defs (frame.Command text) = Answer defs text
AnswerFrame defs (frame.Mail bytes) = Nothing
AnswerFrame defs (frame.Ack f n) = Nothing
AnswerFrame defs (frame.Reply text) = Nothing

-- bytes of a client, by themselves
abbrev pub Listen : Defs → List ℕ → Action NodeState
Listen defs bytes =
    Wants (λ old trace end new. (frames : List Frame) × AreFramesOf bytes frames
    × Each (AnswerFrame defs) frames old trace end new)
