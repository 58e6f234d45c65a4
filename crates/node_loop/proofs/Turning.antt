-- What the parts of a turn say of a stretch of a run.
use Rattle.std.proofs.Common.{[], ◌+◌, ◌++◌, ◌-◌, ◌<◌, ◌≡◌, ◌≤◌, ◌∷◌, ℕ, Bool, List, None, Option, Some, arith, inl, inr, refl, subst, suc}
use Rattle.std.specs.List.{All}
use Rattle.std.proofs.lemmas.List.Elements.{All-from_recursion}
use Rattle.lemmas.proofs.Lists.{all_right}
use Rattle.composer_parser.specs.declared.Defs.{Defs}
use Rattle.model.specs.Types.{Input}
use Rattle.model.specs.Words.{with_at}
use Rattle.agent_core.specs.Nodes.{NodeState}
use Rattle.file_watch.specs.Circle.{DepPlace}
use Rattle.mail_frames.specs.declared.frames.Frame.{Frame}
use Rattle.mail_frames.specs.Spelling.{IsFrame}
use Rattle.outside.specs.Kept.{Bodies}
use Rattle.node_inputs.specs.Keeping.{IsReady}
use Rattle.node_inputs.specs.Traces.{Event, Trace}
use Rattle.node_inputs.specs.declared.ends.NodeEnd.{NodeEnd}
use Rattle.node_inputs.specs.declared.ends.NodeEnd.TheVariants.{NoMemory}
use Rattle.node_inputs.specs.Actions.{Action, Call, IfThere, Then}
use Rattle.node_inputs.specs.Doings.{Does, DoesOutside}
use Rattle.node_inputs.specs.Inputs.{Lose, Take}
use Rattle.node_inputs.specs.Tellings.{Told}
use Rattle.node_inputs.proofs.Doing.{Completing, did_as, did_end, did_outside, did_then, out_as, out_stop}
use Rattle.node_inputs.proofs.Telling.{nothing_told}
use Rattle.node_loop.specs.Heard.{Completes, Heard}
use Rattle.node_loop.specs.Frames.{Frames, input_of}
use Rattle.node_loop.specs.Runs.{Hears, On, Run, Running, TurnOf, running_with}

-- what was heard of a workstation is this
pub heard_now : (node : NodeState) (heard : ℕ → Heard) (asked : Option DepPlace) (x : ℕ) (now : Heard) (told : Told)
    → DoesOutside (Hears x now) (running_with node heard asked) (running_with node (with_at x now heard) asked) told told None
heard_now node heard asked x now told =
    record { trace = []; acts = (refl, refl, refl); tells = nothing_told told; none_tried = refl }

-- the frames that bytes complete can be sent
pub frames_complete : (heard : Heard) (bytes : List ℕ) (frames : List Frame) (bad : Option ℕ) → Completes heard bytes frames bad
    → All IsFrame frames
frames_complete heard bytes frames bad h =
    All-from_recursion IsFrame frames (all_right IsFrame heard.frames frames h.whole.2.each)

module _ {K : Type 0} {kept_in : K → Option Bodies} {size faults moment : K → ℕ} {may_leave : K → Bodies → Type 0} {left_since : K → ℕ → Bodies → Type 0} {opens_since : K → ℕ → ℕ → Type 0} where
  -- what the node does, with all else as it was
  pub did_on : {act : Action NodeState} {old new : NodeState} {keeper later : K} {told now : Told} {end : Option NodeEnd} (heard : ℕ → Heard) (asked : Option DepPlace)
      → Does kept_in size faults moment may_leave left_since opens_since act old new keeper later told now end
      → Does kept_in size faults moment may_leave left_since opens_since (λ o t e n. On act o t e n) (running_with old heard asked) (running_with new heard asked) keeper later told now end
  did_on heard asked a = did_as (λ trace h. record { acts = h; heard_ = refl; asked_ = refl }) a

  -- an event, and then this
  pub did_event : {S : Type 0} (event : Event) {act : Action S} {old new : S} {keeper later : K} {told meanwhile now : Told} {end : Option NodeEnd}
      → DoesOutside (Call event) old old told meanwhile None → (spent : K → Bool) → IsReady kept_in spent may_leave keeper
      → Does kept_in size faults moment may_leave left_since opens_since act old new keeper later meanwhile now end
      → Does kept_in size faults moment may_leave left_since opens_since (Then (Call event) act) old new keeper later told now end
  did_event event {keeper = keeper} first spent ready a = did_then (did_outside spent keeper ready first) a

-- an event stands in front of what follows it
pub event_first : {S : Type 0} (event : Event) (act : Action S) (old new : S) (trace : Trace) (end : Option NodeEnd)
    → Then (Call event) act old trace end new → (rest : Trace) × (trace ≡ event ∷ rest) × act old rest end new
event_first {S} event act old new trace end (inl both) = (
  both.back,
  subst (λ (t : Trace). trace ≡ t ++ both.back) both.begins.0 both.split,
  subst (λ (m : S). act m both.back end new) both.begins.2 both.goes_on,
)
event_first event act old new trace end (inr ended) = cc

-- one turn more, and the last
pub one_turn : (defs : Defs) (turns i : ℕ) → i < turns → turns - i ≡ suc (turns - (i + 1))
one_turn defs turns i h = omega arith

pub turns_over : (turns i : ℕ) → turns ≤ i → turns - i ≡ 0
turns_over turns i h = omega arith

-- before the first turn
pub turns_begin : {K : Type 0} {kept_in : K → Option Bodies} {size faults moment : K → ℕ} {may_leave : K → Bodies → Type 0} {left_since : K → ℕ → Bodies → Type 0} {opens_since : K → ℕ → ℕ → Type 0}
    {old : Running} {keeper : K} {told : Told} (defs : Defs) (turns : ℕ)
    → Completing kept_in size faults moment may_leave left_since opens_since (Run defs (turns - 0)) (Run defs turns) old old keeper keeper told told
turns_begin {K} {kept_in} {size} {faults} {moment} {may_leave} {left_since} {opens_since} {old} {keeper} {told} defs turns new later now end h =
    let e : turns - 0 ≡ turns = omega arith in
    subst (λ (n : ℕ). Does kept_in size faults moment may_leave left_since opens_since (Run defs n) old new keeper later told now end) e h

pub turns_more : {K : Type 0} {kept_in : K → Option Bodies} {size faults moment : K → ℕ} {may_leave : K → Bodies → Type 0} {left_since : K → ℕ → Bodies → Type 0} {opens_since : K → ℕ → ℕ → Type 0}
    {whole : Action Running} {here old : Running} {at_keeper keeper : K} {at_told told : Told} (defs : Defs) (n m : ℕ) → n ≡ suc m
    → Completing kept_in size faults moment may_leave left_since opens_since (Run defs n) whole here old at_keeper keeper at_told told
    → Completing kept_in size faults moment may_leave left_since opens_since (Then (λ o t e n. TurnOf defs o t e n) (Run defs m)) whole here old at_keeper keeper at_told told
turns_more {K} {kept_in} {size} {faults} {moment} {may_leave} {left_since} {opens_since} {whole} {here} {old} {at_keeper} {keeper} {at_told} {told} defs n m e done =
    subst (λ (k : ℕ). Completing kept_in size faults moment may_leave left_since opens_since (Run defs k) whole here old at_keeper keeper at_told told) e done

pub turns_done : {K : Type 0} {kept_in : K → Option Bodies} {size faults moment : K → ℕ} {may_leave : K → Bodies → Type 0} {left_since : K → ℕ → Bodies → Type 0} {opens_since : K → ℕ → ℕ → Type 0}
    {whole : Action Running} {here old : Running} {at_keeper keeper : K} {at_told told : Told} (defs : Defs) (n : ℕ) → n ≡ 0
    → Completing kept_in size faults moment may_leave left_since opens_since (Run defs n) whole here old at_keeper keeper at_told told
    → Completing kept_in size faults moment may_leave left_since opens_since (Run defs 0) whole here old at_keeper keeper at_told told
turns_done {K} {kept_in} {size} {faults} {moment} {may_leave} {left_since} {opens_since} {whole} {here} {old} {at_keeper} {keeper} {at_told} {told} defs n e done =
    subst (λ (k : ℕ). Completing kept_in size faults moment may_leave left_since opens_since (Run defs k) whole here old at_keeper keeper at_told told) e done

-- one frame further
pub frames_more : {K : Type 0} {kept_in : K → Option Bodies} {size faults moment : K → ℕ} {may_leave : K → Bodies → Type 0} {left_since : K → ℕ → Bodies → Type 0} {opens_since : K → ℕ → ℕ → Type 0}
    {whole : Action NodeState} {here old : NodeState} {at_keeper keeper : K} {at_told told : Told} (x : ℕ) (bad : Bool) (xs ys : List Frame) → xs ≡ ys
    → Completing kept_in size faults moment may_leave left_since opens_since (Frames x bad xs) whole here old at_keeper keeper at_told told
    → Completing kept_in size faults moment may_leave left_since opens_since (Frames x bad ys) whole here old at_keeper keeper at_told told
frames_more {K} {kept_in} {size} {faults} {moment} {may_leave} {left_since} {opens_since} {whole} {here} {old} {at_keeper} {keeper} {at_told} {told} x bad xs ys e done =
    subst (λ (l : List Frame). Completing kept_in size faults moment may_leave left_since opens_since (Frames x bad l) whole here old at_keeper keeper at_told told) e done

module _ {K : Type 0} {kept_in : K → Option Bodies} {size faults moment : K → ℕ} {may_leave : K → Bodies → Type 0} {left_since : K → ℕ → Bodies → Type 0} {opens_since : K → ℕ → ℕ → Type 0}
    {whole : Action NodeState} {here old : NodeState} {at_keeper keeper : K} {at_told told : Told} (x : ℕ) (bad : Bool) (f : Frame) (rest : List Frame) where
  -- there is no memory for its input
  pub frame_unread : (spent : K → Bool) → IsReady kept_in spent may_leave at_keeper
      → Completing kept_in size faults moment may_leave left_since opens_since (Frames x bad (f ∷ rest)) whole here old at_keeper keeper at_told told
      → Does kept_in size faults moment may_leave left_since opens_since whole old here keeper at_keeper told at_told (Some NoMemory)
  frame_unread spent ready done =
      done here at_keeper at_told (Some NoMemory)
      (did_outside spent at_keeper ready (out_as (λ trace h. inr h) (out_stop NoMemory here at_told)))

  -- what its input asks for is one frame's part of the whole
  by_input : {new : NodeState} {later : K} {now : Told} {end : Option NodeEnd} (input : Option Input) → input ≡ input_of x f
      → Completing kept_in size faults moment may_leave left_since opens_since (Frames x bad (f ∷ rest)) whole here old at_keeper keeper at_told told
      → Does kept_in size faults moment may_leave left_since opens_since (IfThere input (λ (i : Input). Then (Take i) (Frames x bad rest)) (Lose x)) here new at_keeper later at_told now end
      → Does kept_in size faults moment may_leave left_since opens_since whole old new keeper later told now end
  by_input {new} {later} {now} {end} input is done a =
      done new later now end
      (did_as (λ trace h. inl (subst (λ (o : Option Input). IfThere o (λ (i : Input). Then (Take i) (Frames x bad rest)) (Lose x) here trace end new) is h)) a)

  -- its input is taken, and the run ends or goes on
  pub frame_ended : {new : NodeState} {later : K} {now : Told} {why : NodeEnd} (i : Input) → Some i ≡ input_of x f
      → Completing kept_in size faults moment may_leave left_since opens_since (Frames x bad (f ∷ rest)) whole here old at_keeper keeper at_told told
      → Does kept_in size faults moment may_leave left_since opens_since (Take i) here new at_keeper later at_told now (Some why)
      → Does kept_in size faults moment may_leave left_since opens_since whole old new keeper later told now (Some why)
  frame_ended i is done a = by_input (Some i) is done (did_end (Frames x bad rest) a)

  pub frame_taken : {middle : NodeState} {between : K} {meanwhile : Told} (i : Input) → Some i ≡ input_of x f
      → Completing kept_in size faults moment may_leave left_since opens_since (Frames x bad (f ∷ rest)) whole here old at_keeper keeper at_told told
      → Does kept_in size faults moment may_leave left_since opens_since (Take i) here middle at_keeper between at_told meanwhile None
      → Completing kept_in size faults moment may_leave left_since opens_since (Frames x bad rest) whole middle old between keeper meanwhile told
  frame_taken i is done a new later now end h = by_input (Some i) is done (did_then a h)

  -- it is a bad one
  pub frame_bad : {new : NodeState} {later : K} {now : Told} {end : Option NodeEnd} → None ≡ input_of x f
      → Completing kept_in size faults moment may_leave left_since opens_since (Frames x bad (f ∷ rest)) whole here old at_keeper keeper at_told told
      → Does kept_in size faults moment may_leave left_since opens_since (Lose x) here new at_keeper later at_told now end
      → Does kept_in size faults moment may_leave left_since opens_since whole old new keeper later told now end
  frame_bad is done a = by_input None is done a
