-- What a step gives out goes to workstations of the network.
use Rattle.std.proofs.Common.{[], ◌+◌, ◌<◌, ◌≡◌, ◌≤◌, ◌∙◌, ◌∷◌, ℕ, Bool, List, None, Option, Some, arith, false, length}
use Rattle.std.proofs.Common.{map, refl, subst, suc, sym, true, zero}
use Rattle.std.proofs.lemmas.Bool.{ltb-true}
use Rattle.std.specs.List.{AllByRecursion, list_all}
use Rattle.std.specs.Option.{option_map_or, option_or}
use Rattle.std.specs.Prelude.{cond, drop, filter, option_map, flat_map, if◌then◌else◌, nat_lt, not, Ok, ◌&&◌}
use Rattle.model.specs.Types.{AddDep, AltPri, Body, Cancel, Cmd, Confirm, DelDep, Entry, Feed, Fence, Input, Kill, Launch, Launched, Limit, Local, Mail, Net}
use Rattle.model.specs.Types.{Obeyed, Out, Packet, Release, ReplyGlobal, ReplyOwn, Rerun, Send, StartFailed, Stop, StreamLimit, Submit, SwitchMgr, Total, Turn}
use Rattle.model.specs.Types.{Added, Clock, Declined, Ended, Failed, Fulfil, Fulfilled, Late, Linked, Lost, NewPlan, Next, Order, Released, Started, StreamEnded, Typed, Unlinked, UntilPassed}
use Rattle.model.specs.Catalogue.{StreamJob, job}
use Rattle.model.specs.Facts.{open_launch}
use Rattle.model.specs.Forwarding.{to_send}
use Rattle.model.specs.History.{View, view_with}
use Rattle.model.specs.Network.{are_neighbours, node_count}
use Rattle.model.specs.NewEntry.{makes}
use Rattle.model.specs.PresentNet.{present_net}
use Rattle.model.specs.Sessions.{Session, next_session}
use Rattle.model.specs.Step.{Effect, effect, node_step, outs_of, outs_of_body, sends, unless_fault}
use Rattle.model.specs.StepFaults.{StepFault, first_faults, is_too_long, plan_fault, step_fault}
use Rattle.std.specs.Bool.{then_some}
use Rattle.lemmas.proofs.Booleans.{and_parts, not_fails}
use Rattle.lemmas.proofs.Options.{or_none_left}
use Rattle.lemmas.proofs.Lists.{all_append}
use Rattle.model.specs.Words.{below, first_of_these, numbers_from}
use Rattle.model.specs.Workstations.{ws_in}
use Rattle.model_laws.proofs.Sends.{same_done}
use Rattle.agent_core.proofs.Holding.{count_same}
use Rattle.agent_core.specs.Nodes.{NodeState, session_in, view_in}
use Rattle.agent_core.specs.Steps.{IsTaken, effect_in}
use Rattle.agent_core.specs.declared.faults.Step.{Step}
use Rattle.node_inputs.specs.Stepping.{AreWithin, IsWithin}

-- the numbers below n that pass
some_below : (p : ℕ → Bool) (n from count : ℕ) → from + count ≤ n → AllByRecursion (λ m. m < n) (filter p (numbers_from from count))
some_below p n from zero h = tt
some_below p n from (suc count) h = go (p from) (some_below p n (from + 1) count (omega (arith, h)))
  where
    go : (b : Bool) → AllByRecursion (λ m. m < n) (filter p (numbers_from (from + 1) count))
        → AllByRecursion (λ m. m < n) (cond b (from ∷ filter p (numbers_from (from + 1) count)) (filter p (numbers_from (from + 1) count)))
    go true k = (omega (arith, h), k)
    go false k = k

-- mail to one workstation, and to each of several
mail_within : (n m : ℕ) (ps : List (Feed × ℕ)) → m < n → AreWithin n (map (λ (p : Feed × ℕ). Send m (Mail p.0 p.1)) ps)
mail_within n m [] h = tt
mail_within n m (p ∷ ps) h = (h, mail_within n m ps h)

mails_within : (n : ℕ) (ps : ℕ → List (Feed × ℕ)) (ms : List ℕ) → AllByRecursion (λ m. m < n) ms
    → AreWithin n (flat_map (λ m. map (λ (p : Feed × ℕ). Send m (Mail p.0 p.1)) (ps m)) ms)
mails_within n ps [] h = tt
mails_within n ps (m ∷ ms) h =
    all_append (IsWithin n) (map (λ (p : Feed × ℕ). Send m (Mail p.0 p.1)) (ps m)) _ (mail_within n m (ps m) h.0)
    (mails_within n ps ms h.1)

sends_within : (net : Net) (me : ℕ) (V : View) (s : Session) → AreWithin (node_count net) (sends net me V s)
unfolding sends
sends_within net me V s =
    mails_within (node_count net) (λ m. to_send net V me m (s.acked m))
    (filter (λ m. are_neighbours net me m && s.links m) (below (node_count net)))
    (some_below (λ m. are_neighbours net me m && s.links m) (node_count net) 0 (node_count net) (omega arith))

-- a launch or a kill goes to no workstation
launch_within : (n j k : ℕ) (o : Option StreamJob)
    → AreWithin n (option_map_or (λ (p : StreamJob). Launch j k p.doc.work ∷ []) o [])
launch_within n j k None = tt
launch_within n j k (Some p) = (tt, tt)

kill_within : (n j : ℕ) (o : Option ℕ) → AreWithin n (option_map_or (λ k. Out.Kill j k ∷ []) o [])
kill_within n j None = tt
kill_within n j (Some k) = (tt, tt)

body_within : (n me : ℕ) (V : View) (b : Body) → AreWithin n (outs_of_body me V b)
unfolding outs_of_body
body_within n me V (Launched j k seen) = launch_within n j k (job V j)
body_within n me V (Obeyed a k (Kill j)) = kill_within n j (open_launch j (V (Feed.Events me)))
body_within n me V (Obeyed a k (AddDep o d)) = tt
body_within n me V (Obeyed a k (DelDep o i)) = tt
body_within n me V (Obeyed a k (Release o)) = tt
body_within n me V (Obeyed a k (AltPri o p)) = tt
body_within n me V (Obeyed a k (Cancel o)) = tt
body_within n me V (Obeyed a k (Confirm j)) = tt
body_within n me V (Obeyed a k (Rerun j)) = tt
body_within n me V (Obeyed a k (Fence p)) = tt
body_within n me V (Obeyed a k (Limit m)) = tt
body_within n me V (Obeyed a k (StreamLimit s m)) = tt
body_within n me V (Obeyed a k (Total r m)) = tt
body_within n me V (Obeyed a k (ReplyGlobal p yes_)) = tt
body_within n me V (Obeyed a k (ReplyOwn o i yes_)) = tt
body_within n me V (Obeyed a k Cmd.Start) = tt
body_within n me V (Obeyed a k Stop) = tt
body_within n me V (Obeyed a k (Submit d)) = tt
body_within n me V (Obeyed a k (SwitchMgr w)) = tt
body_within n me V (NewPlan run cut carried docs) = tt
body_within n me V (Added a k doc) = tt
body_within n me V (Clock t) = tt
body_within n me V (Released s seen) = tt
body_within n me V (StreamEnded s seen) = tt
body_within n me V (UntilPassed o i mark) = tt
body_within n me V (Started j k) = tt
body_within n me V (Failed j k) = tt
body_within n me V (Ended j k rc good) = tt
body_within n me V (Lost j k) = tt
body_within n me V (Fulfilled o i) = tt
body_within n me V (Declined a k why) = tt
body_within n me V (Order c) = tt
body_within n me V (Late o i) = tt

made_within : (n me : ℕ) (V : View) (made : Option Entry) → AreWithin n (option_map_or (λ (e : Entry). outs_of_body me V e.body) made [])
made_within n me V None = tt
made_within n me V (Some e) = body_within n me V e.body

ack_within : (n from : ℕ) (p : Packet) (linked : Bool) → from < n → AreWithin n (if linked then Send from p ∷ [] else [])
ack_within n from p true h = (h, tt)
ack_within n from p false h = tt

-- the workstations of an input without a fault are there
first_holds : (b : Bool) (f : StepFault) (rest : List (Bool × StepFault)) → first_of_these ((b, f) ∷ rest) ≡ None → b ≡ false
first_holds true f rest h = cc
first_holds false f rest h = refl

named_inside : (net : Net) (me : ℕ) (V : View) (s : Session) (input : Input) → step_fault net me V s input ≡ None
    → list_all (λ w. nat_lt w (node_count net)) (me ∷ ws_in input) ≡ true
unfolding step_fault
named_inside net me V s input h =
    not_fails (list_all (λ w. nat_lt w (node_count net)) (me ∷ ws_in input))
    (first_holds (not (list_all (λ w. nat_lt w (node_count net)) (me ∷ ws_in input))) StepFault.NotInNetwork
    (drop 1 (first_faults net me V s input))
    (or_none_left (first_of_these (first_faults net me V s input))
    (option_or (option_map StepFault.Carry (plan_fault net V input)) (then_some (is_too_long (makes net me V s input)) StepFault.TooLong)) h))

outs_within : (net : Net) (me : ℕ) (V : View) (s : Session) (input : Input) (made : Option Entry)
    → list_all (λ w. nat_lt w (node_count net)) (me ∷ ws_in input) ≡ true → (after : Net) → node_count after ≡ node_count net
    → AreWithin (node_count net) (outs_of after me V s input made)
unfolding outs_of
outs_within net me V s (Input.Local (Turn t)) made h after same =
    all_append (IsWithin (node_count net)) (option_map_or (λ (e : Entry). outs_of_body me V e.body) made []) (sends after me V s)
    (made_within (node_count net) me V made) (subst (λ n. AreWithin n (sends after me V s)) same (sends_within after me V s))
outs_within net me V s (Input.Mail from e) made h after same =
    ack_within (node_count net) from (Packet.Ack e.feed (length (V e.feed))) (s.links from)
    (ltb-true from (node_count net) (and_parts _ _ (and_parts _ _ h).1).0)
outs_within net me V s (Input.Ack from f k) made h after same = tt
outs_within net me V s (Input.Local (Linked x)) made h after same = tt
outs_within net me V s (Input.Local (Unlinked x)) made h after same = tt
outs_within net me V s (Input.Local (Typed to c)) made h after same = tt
outs_within net me V s (Input.Local (Local.Started j)) made h after same = tt
outs_within net me V s (Input.Local (StartFailed j)) made h after same = tt
outs_within net me V s (Input.Local (Local.Ended j rc)) made h after same = tt
outs_within net me V s (Input.Local (Fulfil o i)) made h after same = tt
outs_within net me V s (Input.Local (Next drafts)) made h after same = tt

step_within : (net : Net) (me : ℕ) (V : View) (s : Session) (input : Input) (d : Effect)
    → node_step net me V s input ≡ Ok d → AreWithin (node_count net) d.outs
unfolding node_step effect
step_within net me V s input d e = go (step_fault (present_net net V) me V s input) refl e
  where
    go : (f : Option StepFault) → step_fault (present_net net V) me V s input ≡ f
        → unless_fault f (effect net me V s input) ≡ Ok d → AreWithin (node_count net) d.outs
    go None none same =
        subst (λ (c : Effect). AreWithin (node_count net) c.outs) (same_done (effect net me V s input) d same)
        (subst (λ n. AreWithin n (effect net me V s input).outs) (count_same net V)
        (outs_within (present_net net V) me (view_with V (makes (present_net net V) me V s input))
        (next_session V s input (makes (present_net net V) me V s input)) input (makes (present_net net V) me V s input)
        (named_inside (present_net net V) me V s input none)
        (present_net net (view_with V (makes (present_net net V) me V s input)))
        (count_same net (view_with V (makes (present_net net V) me V s input)) ∙ sym (count_same net V))))
    go (Some f) none same = cc

weaker : (n m : ℕ) (outs : List Out) → n ≤ m → AreWithin n outs → AreWithin m outs
weaker n m [] le h = tt
weaker n m (Launch j k work ∷ outs) le h = (tt, weaker n m outs le h.1)
weaker n m (Out.Kill j k ∷ outs) le h = (tt, weaker n m outs le h.1)
weaker n m (Send x p ∷ outs) le h = (omega (arith, h.0, le), weaker n m outs le h.1)

-- the outputs of a step that is taken
pub taken_within : (old new : NodeState) (input : Input) (step : Step) → node_count old.net ≤ 256 → IsTaken old input step new
    → AreWithin 256 step.outs
taken_within old new input step few taken =
    weaker (node_count old.net) 256 step.outs few
    (step_within old.net old.me (view_in old) (session_in old) input (effect_in step new) taken.effect)
