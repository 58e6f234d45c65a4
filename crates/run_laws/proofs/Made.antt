-- What an entry that a node makes may be: one that it writes itself, or mail of a feed of another.
use Rattle.std.proofs.Common.{◌+◌, ◌≡◌, ◌∙◌, ℕ, Bool, List, Some, ap, false, length, refl, subst, sym, true}
use Rattle.std.proofs.lemmas.Bool.{eq-eqb}
use Rattle.std.specs.Bool.{then_some}
use Rattle.std.specs.Prelude.{◌&&◌, ◌==◌, not}
use Rattle.model.specs.Types.{Body, Entry, Events, Feed, Fulfil, Fulfilled, Input, Launched, Local, Net, Obeyed, Obj, Orders, Cmd, Job, Typed, LiveJob}
use Rattle.model.specs.History.{Seen, View, maker}
use Rattle.model.specs.Facts.{answered, launches}
use Rattle.model.specs.NewEntry.{accepts, makes}
use Rattle.model.specs.NewPlan.{plan_of}
use Rattle.model.specs.PresentNet.{present_net}
use Rattle.model.specs.Readiness.{is_ready}
use Rattle.model.specs.Sessions.{Session}
use Rattle.model.specs.Turn.{seen_for, witnesses}
use Rattle.model_laws.proofs.Options.{there_if}
use Rattle.model_laws.proofs.PresentNets.{by_one}
use Rattle.model_laws.proofs.SameNets.{ready_over}
use Rattle.model_laws.proofs.Turns.{TurnGives, Writes, own_writes}

pub data IsMadeBy (net : Net) (me : ℕ) (V : View) (s : Session) (e : Entry) : Input → Type 0 where
  written : (l : Local) → Writes net V me s l e → IsMadeBy net me V s e (Input.Local l)
  mailed : (from : ℕ) (d : Entry) → d ≡ e → not (maker d.feed == me) ≡ true → IsMadeBy net me V s e (Input.Mail from d)

entry_is : (d e : Entry) → Some d ≡ Some e → d ≡ e
entry_is d e same = cc

was_accepted : (me : ℕ) (V : View) (d e : Entry) → then_some (accepts me V d) d ≡ Some e
    → (d ≡ e) × (not (maker d.feed == me) ≡ true)
unfolding accepts
was_accepted me V d e = go (d.place == 1 + length (V d.feed)) (not (maker d.feed == me)) refl
  where
    go : (a b : Bool) → not (maker d.feed == me) ≡ b → then_some (a && b) d ≡ Some e
        → (d ≡ e) × (not (maker d.feed == me) ≡ true)
    go true true h k = (entry_is d e k, h)
    go true false h k = cc
    go false b h k = cc

pub made_by : (net : Net) (me : ℕ) (V : View) (s : Session) (input : Input) (e : Entry)
    → makes net me V s input ≡ Some e → IsMadeBy net me V s e input
unfolding makes
made_by net me V s (Input.Local l) e h =
    IsMadeBy.written l (there_if (Writes net V me s l) _ e (own_writes net V me s l) h)
made_by net me V s (Input.Mail from d) e h =
    let t : (d ≡ e) × (not (maker d.feed == me) ≡ true) = was_accepted me V d e h in IsMadeBy.mailed from d t.0 t.1
made_by net me V s (Input.Ack from f n) e h = cc

-- mail is of no feed of the node's own
pub not_own : (me : ℕ) (d e : Entry) → d ≡ e → not (maker d.feed == me) ≡ true → maker e.feed ≡ me → ⊥
not_own me d e same h mine =
    let is : (maker d.feed == me) ≡ true = eq-eqb (maker d.feed) me (ap (λ (c : Entry). maker c.feed) same ∙ mine) in
    clash (subst (λ (b : Bool). not b ≡ true) is h)
  where
    clash : false ≡ true → ⊥
    clash q = cc

-- a file among the node's own events
abbrev pub NoFile : Net → ℕ → View → Entry → Type 0
NoFile net me V e = (o : Obj) (i : ℕ) → e.feed ≡ Events me → e.body ≡ Fulfilled o i → ⊥

abbrev pub IsNoFulfil : Input → Type 0
IsNoFulfil (Input.Local (Fulfil o i)) = ⊥
IsNoFulfil _ = Unit {0}

turn_tells_none : (net : Net) (V : View) (me : ℕ) (live : List LiveJob) (t : ℕ) (b : Body) (o : Obj) (i : ℕ)
    → TurnGives net V me live t b → b ≡ Fulfilled o i → ⊥
turn_tells_none net V me live t b o i (TurnGives.clocked h) e = cc
turn_tells_none net V me live t b o i (TurnGives.lost j n h dead) e = cc
turn_tells_none net V me live t b o i (TurnGives.declined a c why h) e = cc
turn_tells_none net V me live t b o i (TurnGives.added a draft h v) e = cc
turn_tells_none net V me live t b o i (TurnGives.obeyed a c h) e = cc
turn_tells_none net V me live t b o i (TurnGives.until p q u m h k) e = cc
turn_tells_none net V me live t b o i (TurnGives.late p m h k) e = cc
turn_tells_none net V me live t b o i (TurnGives.released s h) e = cc
turn_tells_none net V me live t b o i (TurnGives.ended s h) e = cc
turn_tells_none net V me live t b o i (TurnGives.launched j h) e = cc

written_file : (u : Net) (V : View) (me : ℕ) (s : Session) (l : Local) (e : Entry) → IsNoFulfil (Input.Local l) → Writes u V me s l e
    → (o : Obj) (i : ℕ) → e.feed ≡ Events me → e.body ≡ Fulfilled o i → ⊥
unfolding plan_of
written_file u V me s l e q (Writes.typed to c) o i f b = cc
written_file u V me s l e q (Writes.turned t d k) o i f b = turn_tells_none u V me s.live t d o i k b
written_file u V me s l e q (Writes.started j live k) o i f b = cc
written_file u V me s l e q (Writes.failed j live k) o i f b = cc
written_file u V me s l e q (Writes.ended j rc live k) o i f b = cc
written_file u V me s l e q (Writes.fulfilled p n) o i f b = absurd q
written_file u V me s l e q (Writes.planned drafts) o i f b = cc

pub made_file : (net : Net) (me : ℕ) (V : View) (s : Session) (input : Input) (e : Entry) → IsNoFulfil input
    → makes (present_net net V) me V s input ≡ Some e → NoFile net me V e
made_file net me V s input e q h = go input q (made_by (present_net net V) me V s input e h)
  where
    go : (input : Input) → IsNoFulfil input → IsMadeBy (present_net net V) me V s e input → NoFile net me V e
    go input q (IsMadeBy.written l w) o i f b = written_file (present_net net V) V me s l e q w o i f b
    go input q (IsMadeBy.mailed from d same other) o i f b = not_own me d e same other (ap maker f)

-- an order of the node to itself
abbrev pub NoOrder : Net → ℕ → View → Entry → Type 0
NoOrder net me V e = e.feed ≡ Orders me me → ⊥

abbrev pub IsNoTyped : Input → Type 0
IsNoTyped (Input.Local (Typed to c)) = ⊥
IsNoTyped _ = Unit {0}

written_order : (u : Net) (V : View) (me : ℕ) (s : Session) (l : Local) (e : Entry) → IsNoTyped (Input.Local l) → Writes u V me s l e
    → e.feed ≡ Orders me me → ⊥
written_order u V me s l e q (Writes.typed to c) f = absurd q
written_order u V me s l e q (Writes.turned t d k) f = cc
written_order u V me s l e q (Writes.started j live k) f = cc
written_order u V me s l e q (Writes.failed j live k) f = cc
written_order u V me s l e q (Writes.ended j rc live k) f = cc
written_order u V me s l e q (Writes.fulfilled p n) f = cc
written_order u V me s l e q (Writes.planned drafts) f = cc

pub made_order : (net : Net) (me : ℕ) (V : View) (s : Session) (input : Input) (e : Entry) → IsNoTyped input
    → makes (present_net net V) me V s input ≡ Some e → NoOrder net me V e
made_order net me V s input e q h = go input q (made_by (present_net net V) me V s input e h)
  where
    go : (input : Input) → IsNoTyped input → IsMadeBy (present_net net V) me V s e input → NoOrder net me V e
    go input q (IsMadeBy.written l w) f = written_order (present_net net V) V me s l e q w f
    go input q (IsMadeBy.mailed from d same other) f = not_own me d e same other (ap maker f)

-- a launch was ready in the view, and has the next number of its job
abbrev pub IsReadyLaunch : Net → ℕ → View → Entry → Type 0
IsReadyLaunch net me V e = (j n : ℕ) (seen : Seen) → e.feed ≡ Events me → e.body ≡ Launched j n seen
    → (is_ready net V me j ≡ true) × (n ≡ 1 + launches j (V (Events me)))

turn_launch : (net : Net) (V : View) (me : ℕ) (live : List LiveJob) (t : ℕ) (b : Body) (j n : ℕ) (seen : Seen)
    → TurnGives net V me live t b → b ≡ Launched j n seen → (is_ready net V me j ≡ true) × (n ≡ 1 + launches j (V (Events me)))
turn_launch net V me live t b j n seen (TurnGives.clocked h) e = cc
turn_launch net V me live t b j n seen (TurnGives.lost k m h dead) e = cc
turn_launch net V me live t b j n seen (TurnGives.declined a c why h) e = cc
turn_launch net V me live t b j n seen (TurnGives.added a draft h v) e = cc
turn_launch net V me live t b j n seen (TurnGives.obeyed a c h) e = cc
turn_launch net V me live t b j n seen (TurnGives.until p q u m h k) e = cc
turn_launch net V me live t b j n seen (TurnGives.late p m h k) e = cc
turn_launch net V me live t b j n seen (TurnGives.released s h) e = cc
turn_launch net V me live t b j n seen (TurnGives.ended s h) e = cc
turn_launch net V me live t b j n seen (TurnGives.launched k h) e =
    (subst (λ (i : ℕ). is_ready net V me i ≡ true) (job_is e) h, sym (number_is e) ∙ ap (λ (i : ℕ). 1 + launches i (V (Events me))) (job_is e))
  where
    job_is : Launched k (1 + launches k (V (Events me))) (seen_for V (witnesses V me (Job k))) ≡ Launched j n seen → k ≡ j
    job_is q = cc

    number_is : Launched k (1 + launches k (V (Events me))) (seen_for V (witnesses V me (Job k))) ≡ Launched j n seen
        → 1 + launches k (V (Events me)) ≡ n
    number_is q = cc

written_ready : (u : Net) (V : View) (me : ℕ) (s : Session) (l : Local) (e : Entry) → Writes u V me s l e → IsReadyLaunch u me V e
unfolding plan_of
written_ready u V me s l e (Writes.typed to c) j n seen f b = cc
written_ready u V me s l e (Writes.turned t d k) j n seen f b = turn_launch u V me s.live t d j n seen k b
written_ready u V me s l e (Writes.started i live k) j n seen f b = cc
written_ready u V me s l e (Writes.failed i live k) j n seen f b = cc
written_ready u V me s l e (Writes.ended i rc live k) j n seen f b = cc
written_ready u V me s l e (Writes.fulfilled o i) j n seen f b = cc
written_ready u V me s l e (Writes.planned drafts) j n seen f b = cc

pub made_ready : (net : Net) (me : ℕ) (V : View) (s : Session) (input : Input) (e : Entry) → Unit {0}
    → makes (present_net net V) me V s input ≡ Some e → IsReadyLaunch net me V e
made_ready net me V s input e q h = go input (made_by (present_net net V) me V s input e h)
  where
    go : (input : Input) → IsMadeBy (present_net net V) me V s e input → IsReadyLaunch net me V e
    go input (IsMadeBy.written l w) j n seen f b =
        let t : (is_ready (present_net net V) V me j ≡ true) × (n ≡ 1 + launches j (V (Events me))) =
        written_ready (present_net net V) V me s l e w j n seen f b in
        (sym (ready_over net (present_net net V) (by_one net (V (Events 0))) V me j) ∙ t.0, t.1)
    go input (IsMadeBy.mailed from d same other) j n seen f b = absurd (not_own me d e same other (ap maker f))

-- an order that is obeyed is the next one of its issuer
abbrev pub IsNextAnswer : Net → ℕ → View → Entry → Type 0
IsNextAnswer net me V e = (a k : ℕ) (c : Cmd) → e.feed ≡ Events me → e.body ≡ Obeyed a k c → k ≡ 1 + answered a (V (Events me))

turn_answer : (net : Net) (V : View) (me : ℕ) (live : List LiveJob) (t : ℕ) (b : Body) (a k : ℕ) (c : Cmd)
    → TurnGives net V me live t b → b ≡ Obeyed a k c → k ≡ 1 + answered a (V (Events me))
turn_answer net V me live t b a k c (TurnGives.clocked h) e = cc
turn_answer net V me live t b a k c (TurnGives.lost i m h dead) e = cc
turn_answer net V me live t b a k c (TurnGives.declined d x why h) e = cc
turn_answer net V me live t b a k c (TurnGives.added d draft h v) e = cc
turn_answer net V me live t b a k c (TurnGives.obeyed d x h) e =
    sym (place_is e) ∙ ap (λ (i : ℕ). 1 + answered i (V (Events me))) (issuer_is e)
  where
    issuer_is : Obeyed d (1 + answered d (V (Events me))) x ≡ Obeyed a k c → d ≡ a
    issuer_is q = cc

    place_is : Obeyed d (1 + answered d (V (Events me))) x ≡ Obeyed a k c → 1 + answered d (V (Events me)) ≡ k
    place_is q = cc
turn_answer net V me live t b a k c (TurnGives.until p q u m h i) e = cc
turn_answer net V me live t b a k c (TurnGives.late p m h i) e = cc
turn_answer net V me live t b a k c (TurnGives.released s h) e = cc
turn_answer net V me live t b a k c (TurnGives.ended s h) e = cc
turn_answer net V me live t b a k c (TurnGives.launched i h) e = cc

written_answer : (u : Net) (V : View) (me : ℕ) (s : Session) (l : Local) (e : Entry) → Writes u V me s l e → IsNextAnswer u me V e
unfolding plan_of
written_answer u V me s l e (Writes.typed to x) a k c f b = cc
written_answer u V me s l e (Writes.turned t d h) a k c f b = turn_answer u V me s.live t d a k c h b
written_answer u V me s l e (Writes.started i live h) a k c f b = cc
written_answer u V me s l e (Writes.failed i live h) a k c f b = cc
written_answer u V me s l e (Writes.ended i rc live h) a k c f b = cc
written_answer u V me s l e (Writes.fulfilled o i) a k c f b = cc
written_answer u V me s l e (Writes.planned drafts) a k c f b = cc

pub made_answer : (net : Net) (me : ℕ) (V : View) (s : Session) (input : Input) (e : Entry) → Unit {0}
    → makes (present_net net V) me V s input ≡ Some e → IsNextAnswer net me V e
made_answer net me V s input e q h = go input (made_by (present_net net V) me V s input e h)
  where
    go : (input : Input) → IsMadeBy (present_net net V) me V s e input → IsNextAnswer net me V e
    go input (IsMadeBy.written l w) a k c f b = written_answer (present_net net V) V me s l e w a k c f b
    go input (IsMadeBy.mailed from d same other) a k c f b = absurd (not_own me d e same other (ap maker f))

-- an order of the node to itself has the next place of its feed
abbrev pub HasNextPlace : Net → ℕ → View → Entry → Type 0
HasNextPlace net me V e = e.feed ≡ Orders me me → e.place ≡ 1 + length (V (Orders me me))

written_place : (u : Net) (V : View) (me : ℕ) (s : Session) (l : Local) (e : Entry) → Writes u V me s l e → HasNextPlace u me V e
written_place u V me s l e (Writes.typed to c) f = ap (λ (g : Feed). 1 + length (V g)) f
written_place u V me s l e (Writes.turned t d k) f = cc
written_place u V me s l e (Writes.started j live k) f = cc
written_place u V me s l e (Writes.failed j live k) f = cc
written_place u V me s l e (Writes.ended j rc live k) f = cc
written_place u V me s l e (Writes.fulfilled o i) f = cc
written_place u V me s l e (Writes.planned drafts) f = cc

pub made_place : (net : Net) (me : ℕ) (V : View) (s : Session) (input : Input) (e : Entry) → Unit {0}
    → makes (present_net net V) me V s input ≡ Some e → HasNextPlace net me V e
made_place net me V s input e q h = go input (made_by (present_net net V) me V s input e h)
  where
    go : (input : Input) → IsMadeBy (present_net net V) me V s e input → HasNextPlace net me V e
    go input (IsMadeBy.written l w) f = written_place (present_net net V) V me s l e w f
    go input (IsMadeBy.mailed from d same other) f = absurd (not_own me d e same other (ap maker f))
