-- What holds of each step holds of all that workstations and clients may ask of a node.
use Rattle.std.proofs.Common.{[], ◌∷◌, ◌≡◌, ◌⊎◌, ℕ, Bool, List, None, Option, Some, inl, inr, refl}
use Rattle.std.specs.List.{AllByRecursion}
use Rattle.std.specs.Prelude.{Err, Ok, Result, ◌==◌, nat_le}
use Rattle.calendars.specs.Dates.{last_day}
use Rattle.composer_parser.specs.declared.Defs.{Defs}
use Rattle.model.specs.Types.{Cmd, Input, Linked, Next, Typed, Unlinked}
use Rattle.agent_core.specs.Nodes.{NodeState, present_in, view_in}
use Rattle.agent_core.specs.declared.faults.StepFault.{StepFault}
use Rattle.agent_core.specs.declared.faults.StepFault.TheVariants as step_fault
use Rattle.conman_orders.specs.Names.{workstation}
use Rattle.conman_orders.specs.Orders.{due_order}
use Rattle.conman_orders.specs.declared.orders.ResolveFault.{ResolveFault}
use Rattle.conman_orders.specs.declared.orders.ResolveFault.TheVariants as resolve_fault
use Rattle.conman_syntax.specs.Rows.{due_line}
use Rattle.conman_syntax.specs.declared.faults.CommandFault.{CommandFault}
use Rattle.conman_syntax.specs.declared.lines.Line.{Line}
use Rattle.conman_syntax.specs.declared.lines.Line.TheVariants as line
use Rattle.mail_frames.specs.declared.frames.Frame.{Frame}
use Rattle.mail_frames.specs.declared.frames.Frame.TheVariants as frame
use Rattle.mail_frames.specs.Streams.{AreFramesOf}
use Rattle.node_replies.specs.Replies.{refused_line, shutdown_line}
use Rattle.node_replies.specs.Shown.{shown_lines}
use Rattle.node_replies.specs.declared.replies.Refusal.{Refusal}
use Rattle.node_replies.specs.declared.replies.Refusal.TheVariants as refusal
use Rattle.node_replies.specs.declared.picks.Shows.{Shows}
use Rattle.node_replies.specs.declared.picks.Shows.TheVariants as shows
use Rattle.outside.specs.Calls.{Asked}
use Rattle.plan_builder.specs.Limits.{plan_fault}
use Rattle.plan_builder.specs.declared.faults.PlanFault.{PlanFault}
use Rattle.symphony_view.specs.Listings.{listing_of}
use Rattle.node_inputs.specs.Traces.{Event}
use Rattle.node_inputs.specs.declared.ends.NodeEnd.TheVariants.{Shutdown}
use Rattle.node_inputs.specs.Actions.{Action, Call, Each, From, If, IfThere, Nothing, Stop, Then, Wants}
use Rattle.node_inputs.specs.Inputs.{Follow, Lose, Refused, Take, Takes}
use Rattle.node_loop.specs.Frames.{Frames, input_of}
use Rattle.node_lines.specs.Lines.{AnswerBy, AnswerFault, AnswerFrame, AskLink, AskOf, Listen, Obey, Order, OrderBy, PlanBy, PlanDay, Refuse, Reply}
use Rattle.node_lines.specs.Lines.{Say, Serve, Show, command_refusal, kept_text, link_text, plan_refusal, plan_text, step_refusal, unlink_text}
use Rattle.run_laws.proofs.Rules.{Gives, call_gives, each_gives, if_gives, if_there_gives, nothing_gives, plain_shutdown, stop_gives, then_gives, wants_gives}
use Rattle.run_laws.proofs.Taking.{GivesDue, IsRule, lose_gives, refused_gives, spent_gives, take_gives, takes_gives}

-- what links and clients ask of a node; what frames of workstations bring is told by `input_of`
abbrev pub IsHeard : Input → Type 0
IsHeard (Input.Local (Linked x)) = Unit {0}
IsHeard (Input.Local (Unlinked x)) = Unit {0}
IsHeard (Input.Local (Typed to c)) = Unit {0}
IsHeard (Input.Local (Next drafts)) = Unit {0}
IsHeard _ = ⊥

module _ (Q : Input → Type 0) (P : Action NodeState) (r : IsRule Q P) (heard : (input : Input) → IsHeard input → Q input) where
  reply_gives : (text : List ℕ) → Gives (Reply text) P
  reply_gives text old trace end new h =
      call_gives P r.joined _ (λ s. r.replies s _) old trace end new h.1

  say_gives : (text : List ℕ) → Gives (Say text) P
  say_gives text = wants_gives P r.joined (Reply text) (reply_gives text)

  refuse_gives : (why : Option Refusal) → Gives (Refuse why) P
  refuse_gives why =
      if_there_gives P r.joined why (λ (r : Refusal). Say (refused_line r)) Nothing (λ q. say_gives (refused_line q))
      (nothing_gives P r.joined)

  answer_fault_gives : (input : Input) (f : StepFault) → GivesDue input f (AnswerFault f) P
  answer_fault_gives input step_fault.PlaceSpent old trace end new due h = spent_gives Q P r input old trace end new due h
  answer_fault_gives input step_fault.NotInNetwork old trace end new due h = refuse_gives (step_refusal step_fault.NotInNetwork) old trace end new h
  answer_fault_gives input step_fault.NotNeighbour old trace end new due h = refuse_gives (step_refusal step_fault.NotNeighbour) old trace end new h
  answer_fault_gives input step_fault.NotMaster old trace end new due h = refuse_gives (step_refusal step_fault.NotMaster) old trace end new h
  answer_fault_gives input step_fault.NoProcess old trace end new due h = refuse_gives (step_refusal step_fault.NoProcess) old trace end new h
  answer_fault_gives input step_fault.NoDep old trace end new due h = refuse_gives (step_refusal step_fault.NoDep) old trace end new h
  answer_fault_gives input (step_fault.Carry c) old trace end new due h = refuse_gives (step_refusal (step_fault.Carry c)) old trace end new h
  answer_fault_gives input step_fault.TooLong old trace end new due h = refuse_gives (step_refusal step_fault.TooLong) old trace end new h
  answer_fault_gives input step_fault.NoMemory old trace end new due h = refuse_gives (step_refusal step_fault.NoMemory) old trace end new h

  serve_gives : (input : Input) → IsHeard input → (text : NodeState → List ℕ) → Gives (Serve input text) P
  serve_gives input is text = wants_gives P r.joined _ go
    where
      said : Gives (From (λ (now : NodeState). Say (text now))) P
      said old trace end new h = say_gives (text old) old trace end new h

      go : Gives (λ old trace end new.
          Then (Takes Follow input) (From (λ (now : NodeState). Say (text now))) old trace end new
          ⊎ Refused AnswerFault input old trace end new) P
      go old trace end new (inl h) =
          then_gives P r.joined (λ o t e n. Takes Follow input o t e n) (From (λ (now : NodeState). Say (text now)))
          (takes_gives Q P r input (heard input is)) said old trace end new h
      go old trace end new (inr h) = refused_gives Q P r AnswerFault input (answer_fault_gives input) old trace end new h

  order_by_gives : (o : Result (ℕ × Cmd) ResolveFault) → Gives (OrderBy o) P
  order_by_gives (Ok order) = serve_gives (Input.Local (Typed order.0 order.1)) tt (kept_text order.0)
  order_by_gives (Err (resolve_fault.UnknownName n)) = say_gives (refused_line refusal.UnknownName)
  order_by_gives (Err resolve_fault.NotACommand) = nothing_gives P r.joined
  order_by_gives (Err resolve_fault.NoMemory) = nothing_gives P r.joined

  order_gives : (l : Line) → Gives (Order l) P
  order_gives l = wants_gives P r.joined _ go
    where
      go : Gives (From (λ (now : NodeState). OrderBy (due_order (present_in now) (view_in now) now.me l))) P
      go old trace end new h = order_by_gives (due_order (present_in old) (view_in old) old.me l) old trace end new h

  ask_of_gives : (call : ℕ → Asked) (text : ℕ → List ℕ) (me : ℕ) (o : Option ℕ) → Gives (AskOf call text me o) P
  ask_of_gives call text me None = say_gives (refused_line refusal.UnknownName)
  ask_of_gives call text me (Some w) =
      if_gives P r.joined (w == me) (Say (refused_line refusal.NotNeighbour)) (Then (Call (Event.Asks (call w))) (Say (text w)))
      (say_gives (refused_line refusal.NotNeighbour))
      (then_gives P r.joined (Call (Event.Asks (call w))) (Say (text w))
      (call_gives P r.joined (Event.Asks (call w)) (λ s. r.asks s (call w))) (say_gives (text w)))

  ask_link_gives : (call : ℕ → Asked) (text : NodeState → ℕ → List ℕ) (name : List ℕ) → Gives (AskLink call text name) P
  ask_link_gives call text name old trace end new h =
      ask_of_gives call (text old) old.me (workstation old.net name) old trace end new h

  plan_by_gives : (defs : Defs) (day : ℕ) (f : Option PlanFault) → Gives (PlanBy defs day f) P
  plan_by_gives defs day (Some f) old trace end new h = refuse_gives (plan_refusal f) old trace end new h
  plan_by_gives defs day None old trace end new h = serve_gives (Input.Local (Next h.0)) tt plan_text old trace end new h.2

  plan_day_gives : (defs : Defs) (day : ℕ) → Gives (PlanDay defs day) P
  plan_day_gives defs day old trace end new h =
      if_gives P r.joined (old.me == 0)
      (If (nat_le day last_day) (Wants (PlanBy defs day (plan_fault defs day))) (Say (refused_line refusal.OutOfRange)))
      (Say (refused_line refusal.NotMaster))
      (if_gives P r.joined (nat_le day last_day) (Wants (PlanBy defs day (plan_fault defs day))) (Say (refused_line refusal.OutOfRange))
      (wants_gives P r.joined (PlanBy defs day (plan_fault defs day)) (plan_by_gives defs day (plan_fault defs day)))
      (say_gives (refused_line refusal.OutOfRange)))
      (say_gives (refused_line refusal.NotMaster)) old trace end new h

  show_gives : (kind : Shows) (pattern : Option (List ℕ)) → Gives (Show kind pattern) P
  show_gives kind pattern old trace end new h =
      say_gives (shown_lines kind pattern (listing_of old.net (view_in old))) old trace end new h

  obey_gives : (defs : Defs) (l : Line) → Gives (Obey defs l) P
  obey_gives defs (line.ShowJobs pattern) = show_gives shows.Jobs pattern
  obey_gives defs (line.ShowSchedules pattern) = show_gives shows.Schedules pattern
  obey_gives defs (line.ShowCpus pattern) = show_gives shows.Cpus pattern
  obey_gives defs (line.ShowPrompts pattern) = show_gives shows.Prompts pattern
  obey_gives defs (line.ShowResources pattern) = show_gives shows.Resources pattern
  obey_gives defs (line.Link name) = ask_link_gives Asked.Raise link_text name
  obey_gives defs (line.Unlink name) = ask_link_gives Asked.Close unlink_text name
  obey_gives defs line.Shutdown =
      then_gives P r.joined (Say shutdown_line) (Stop Shutdown) (say_gives shutdown_line) (stop_gives P r.joined Shutdown plain_shutdown)
  obey_gives defs (line.JNextPlan day) = plan_day_gives defs day
  obey_gives defs l = order_gives l

  answer_by_gives : (defs : Defs) (l : Result Line CommandFault) → Gives (AnswerBy defs l) P
  answer_by_gives defs (Ok l) = obey_gives defs l
  answer_by_gives defs (Err f) = refuse_gives (command_refusal f)

  answer_frame_gives : (defs : Defs) (f : Frame) → Gives (AnswerFrame defs f) P
  answer_frame_gives defs (frame.Command text) =
      wants_gives P r.joined (AnswerBy defs (due_line text)) (answer_by_gives defs (due_line text))
  answer_frame_gives defs (frame.Mail bytes) = nothing_gives P r.joined
  answer_frame_gives defs (frame.Ack f n) = nothing_gives P r.joined
  answer_frame_gives defs (frame.Reply text) = nothing_gives P r.joined

  -- bytes of a client
  pub listen_gives : (defs : Defs) (bytes : List ℕ) → Gives (Listen defs bytes) P
  listen_gives defs bytes = wants_gives P r.joined _ go
    where
      go : Gives (λ old trace end new. (frames : List Frame) × AreFramesOf bytes frames
          × Each (AnswerFrame defs) frames old trace end new) P
      go old trace end new h = each_gives P r.joined (AnswerFrame defs) (answer_frame_gives defs) h.0 old trace end new h.2

  then_rest : (x : ℕ) (bad : Bool) (rest : List Frame) (i : Input) → Q i → Gives (Frames x bad rest) P
      → Gives (Then (Take i) (Frames x bad rest)) P
  then_rest x bad rest i q others =
      then_gives P r.joined (Take i) (Frames x bad rest) (take_gives Q P r i q) others

  by_input : (x : ℕ) (bad : Bool) (rest : List Frame) (f : Frame) (o : Option Input) → input_of x f ≡ o
      → ((i : Input) → input_of x f ≡ Some i → Q i) → Gives (Frames x bad rest) P
      → Gives (IfThere o (λ (i : Input). Then (Take i) (Frames x bad rest)) (Lose x)) P
  by_input x bad rest f None is q others = lose_gives Q P r x
  by_input x bad rest f (Some i) is q others = then_rest x bad rest i (q i is) others

  -- the frames of a workstation
  pub frames_gives : (x : ℕ) (bad : Bool) (frames : List Frame)
      → AllByRecursion (λ (f : Frame). (i : Input) → input_of x f ≡ Some i → Q i) frames → Gives (Frames x bad frames) P
  frames_gives x bad [] h = if_gives P r.joined bad (Lose x) Nothing (lose_gives Q P r x) (nothing_gives P r.joined)
  frames_gives x bad (f ∷ rest) h =
      wants_gives P r.joined _ (by_input x bad rest f (input_of x f) refl h.0 (frames_gives x bad rest h.1))
