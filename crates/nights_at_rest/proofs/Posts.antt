-- In a world of steps packets go between workstations of the network, and acknowledgements are of its feeds.
use Rattle.std.proofs.Common.{◌≡◌, ◌≢◌, ◌∙◌, ◌⊎◌, ◌<◌, ℕ, zero, suc, true, false, inl, inr, List, [], ◌∷◌, ◌++◌, refl, ap, sym, subst, Option, Some, None}
use Rattle.std.proofs.lemmas.Bool.{eq-eqb}
use Rattle.std.proofs.lemmas.Option.{slice_get_within}
use Rattle.std.specs.List.{AllByRecursion}
use Rattle.std.specs.Option.{option_or}
use Rattle.std.specs.Bool.{then_some}
use Rattle.std.specs.Prelude.{◌==◌, Err, Ok, Result, option_and_then, option_map, slice_get}
use Rattle.lemmas.proofs.Booleans.{or_cases}
use Rattle.lemmas.proofs.Lists.{all_left, all_such}
use Rattle.lemmas.proofs.Options.{or_none_left}
use Rattle.model.specs.Types.{Ack, Fulfil, Input, Launch, Linked, Local, Mail, Net, Next, Node, Out, Packet, Send, StartFailed, Turn, Typed, Unlinked, WorldStep}
use Rattle.model.specs.Words.{first_of_these, nth, some_is}
use Rattle.model.specs.FreeSteps.{free_run, free_step, recounted}
use Rattle.model.specs.Network.{IsTree, are_neighbours, hop, node_count}
use Rattle.model.specs.NewEntry.{makes}
use Rattle.model.specs.Step.{Effect, effect, outs_of}
use Rattle.model.specs.StepFaults.{Carry, TooLong, first_faults, is_too_long, plan_fault, step_fault}
use Rattle.model.specs.Workstations.{peer_of, ws_in, ws_in_body, ws_in_feed}
use Rattle.model.specs.World.{Origin, StepRefused, World, apply_effect, cut_short, empty_world, mark_delivered, or_as_before, step, view_at}
use Rattle.model_laws.proofs.Faults.{clear_here, none_of}
use Rattle.model_laws.proofs.Inside.{IsIn as IsInside, are_in}
use Rattle.model_laws.proofs.Lists.{is_at-true}
use Rattle.model_laws.proofs.Options.{slice_get_all, there_if}
use Rattle.model_laws.proofs.Ranks.{hung, managed_hop, manager_inside}
use Rattle.model_laws.proofs.Steps.{IsFaultless, IsOpened, MailDone, OwnDone, here, moves, step_of}
use Rattle.network_runs.proofs.Acks.{within}
use Rattle.rest_laws.proofs.Sending.{FeedIsIn, IsAck, IsMail, IsNone, IsOut, Near, Sends, ack_sends, mail_sends, sends_after, sends_on, sends_self, turn_sends}

-- an acknowledgement is of a feed of the network
abbrev pub IsPosted : Net → Packet → Type 0
IsPosted net (Mail f k) = Unit {0}
IsPosted net (Ack f n) = FeedIsIn net f

-- so is all that was ever sent, each between two of the network
abbrev pub ArePosted : Net → World → Type 0
ArePosted net x = Sends net (IsPosted net) empty_world x

out_of : (net : Net) (P Q : Packet → Type 0) → ((p : Packet) → P p → Q p) → (w : ℕ) (o : Out) → IsOut net P w o → IsOut net Q w o
out_of net P Q f w (Send to p) h = (f p h.0, h.1)
out_of net P Q f w (Launch j n work) h = tt
out_of net P Q f w (Out.Kill j n) h = tt

outs_of_kind : (net : Net) (P : Packet → Type 0) → ((p : Packet) → P p → IsPosted net p) → (w : ℕ) (outs : List Out)
    → AllByRecursion (IsOut net P w) outs → AllByRecursion (IsOut net (IsPosted net) w) outs
outs_of_kind net P f w outs h =
    all_such (IsOut net P w) (IsOut net (IsPosted net) w) outs (λ o k. out_of net P (IsPosted net) f w o k) h

mail_posted : (net : Net) (p : Packet) → IsMail p → IsPosted net p
mail_posted net (Mail f k) h = tt
mail_posted net (Ack f n) h = absurd h

ack_posted : (net : Net) (p : Packet) → IsAck net p → IsPosted net p
ack_posted net (Mail f k) h = absurd h
ack_posted net (Ack f n) h = h

none_posted : (net : Net) (p : Packet) → IsNone p → IsPosted net p
none_posted net p h = absurd h

abbrev AreOuts : Net → ℕ → List Out → Type 0
AreOuts net w outs = AllByRecursion (IsOut net (IsPosted net) w) outs

own_outs : (net : Net) (x : World) (w : ℕ) (l : Local) → IsTree net → IsFaultless net x w (Input.Local l)
    → AreOuts net w (step_of net x w (Input.Local l)).outs
unfolding effect outs_of
own_outs net x w (Turn t) tree none =
    outs_of_kind net IsMail (mail_posted net) w _
    (turn_sends net x w t tree (clear_here net x w (Input.Local (Turn t)) none).inside)
own_outs net x w (Linked v) tree none = tt
own_outs net x w (Unlinked v) tree none = tt
own_outs net x w (Typed to c) tree none = tt
own_outs net x w (Local.Started j) tree none = tt
own_outs net x w (StartFailed j) tree none = tt
own_outs net x w (Local.Ended j rc) tree none = tt
own_outs net x w (Fulfil o i) tree none = tt
own_outs net x w (Next drafts) tree none = tt

-- nobody sends to itself
other : (net : Net) (x : World) (w : ℕ) (i : Input) → IsFaultless net x w i → some_is (peer_of i) w ≡ false
unfolding step_fault
other net x w i none =
    (none_of (first_faults (here net x w) w (view_at x w) (x.sessions w) i)
    (or_none_left (first_of_these (first_faults (here net x w) w (view_at x w) (x.sessions w) i))
    (option_or (option_map Carry (plan_fault (here net x w) (view_at x w) i))
    (then_some (is_too_long (makes (here net x w) w (view_at x w) (x.sessions w) i)) TooLong)) none)).1.0

apart : (w v : ℕ) → some_is (Some v) w ≡ false → w ≢ v
apart w v h same = clash (sym (ap (λ (u : ℕ). u == w) (sym same) ∙ eq-eqb w w refl) ∙ h)
  where
    clash : true ≡ false → ⊥
    clash q = cc

near_of : (net : Net) (x : World) (w : ℕ) (i : Input) (v : ℕ) → IsFaultless net x w i → peer_of i ≡ Some v
    → v < node_count net → Near net w v
near_of net x w i v none is v_in = (
  (clear_here net x w i none).inside,
  v_in,
  apart w v (subst (λ (o : Option ℕ). some_is o w ≡ false) is (other net x w i none)),
)

all_within : (net : Net) (ws : List ℕ) → AllByRecursion (IsInside net) ws → AllByRecursion (λ w. w < node_count net) ws
all_within net ws h = all_such (IsInside net) (λ w. w < node_count net) ws (within net) h

came_outs : (net : Net) (x : World) (w : ℕ) (i : Input) → IsOpened x.history i → IsFaultless net x w i
    → AreOuts net w (step_of net x w i).outs
came_outs net x w (Input.Local l) opened none = absurd opened
came_outs net x w (Input.Mail a e) opened none =
    let named : AllByRecursion (IsInside net) (a ∷ (ws_in_feed e.feed ++ ws_in_body e.body)) =
    are_in net (ws_in (Input.Mail a e)) (clear_here net x w (Input.Mail a e) none).named in
    outs_of_kind net (IsAck net) (ack_posted net) w _
    (mail_sends net x w a e (near_of net x w (Input.Mail a e) a none refl (within net a named.0))
    (all_within net (ws_in_feed e.feed) (all_left (IsInside net) (ws_in_feed e.feed) (ws_in_body e.body) named.1)))
came_outs net x w (Input.Ack a f n) opened none =
    outs_of_kind net IsNone (none_posted net) w _ (ack_sends net x w a f n)

own_done : (net : Net) (x : World) (w : ℕ) (d : Effect) → IsTree net → OwnDone net x w d → AreOuts net w d.outs
unfolding cut_short
own_done net x w d tree (OwnDone.whole l none) = own_outs net x w l tree none
own_done net x w d tree (OwnDone.cut kept l none) = tt
own_done net x w d tree OwnDone.stopped = tt

mail_done : (net : Net) (x : World) (w : ℕ) (d : Effect) → MailDone net x w d → AreOuts net w d.outs
unfolding cut_short
mail_done net x w d (MailDone.whole i opened came none) = came_outs net x w i opened none
mail_done net x w d (MailDone.cut kept i opened came none) = tt

after : (net : Net) (x : World) (w : ℕ) (o : Origin) (d : Effect) → ArePosted net x → AreOuts net w d.outs
    → ArePosted net (apply_effect x w o d)
after net x w o d h outs =
    sends_on net (IsPosted net) empty_world x (apply_effect x w o d) h (sends_after net (IsPosted net) x w o d outs)

marked : (net : Net) (x : World) (a b k : ℕ) → ArePosted net x → ArePosted net (mark_delivered x a b k)
unfolding mark_delivered
marked net x a b k h c d =
    record { rest = (h c d).rest; more = (h c d).more; each = (h c d).each; near = (h c d).near }

counted : (net : Net) (x : World) → ArePosted net x → ArePosted net (recounted x)
counted net x h c d = record { rest = (h c d).rest; more = (h c d).more; each = (h c d).each; near = (h c d).near }

posted_step : (net : Net) (x : World) (s : WorldStep) → IsTree net → ArePosted net x
    → ArePosted net (or_as_before x (step net x s))
posted_step net x s tree h =
    moves net (λ (y : World). ArePosted net y) x h
    (λ w d own. after net x w Origin.Own d h (own_done net x w d tree own))
    (λ a b k d mail. marked net (apply_effect x b Origin.Mailed d) a b k
    (after net x b Origin.Mailed d h (mail_done net x b d mail))) s

or_stays : (net : Net) (x : World) (r : Result World StepRefused) → ArePosted net x
    → ArePosted net (or_as_before (recounted x) r) → ArePosted net (or_as_before x r)
or_stays net x (Ok y) h k = k
or_stays net x (Err f) h k = h

posted_all : (net : Net) (steps : List WorldStep) (x : World) → IsTree net → ArePosted net x
    → ArePosted net (free_run net steps x)
unfolding free_run free_step
posted_all net [] x tree h = h
posted_all net (s ∷ steps) x tree h =
    posted_all net steps (or_as_before x (step net (recounted x) s)) tree
    (or_stays net x (step net (recounted x) s) h (posted_step net (recounted x) s tree (counted net x h)))

pub posted_free : (net : Net) (steps : List WorldStep) → IsTree net → ArePosted net (free_run net steps empty_world)
posted_free net steps tree = posted_all net steps empty_world tree (sends_self net (IsPosted net) empty_world empty_world refl)

-- so it is of a packet that is there
pub record Posted (net : Net) (a b : ℕ) (p : Packet) : Type 0 where
  pub near : Near net a b
  pub kind : IsPosted net p

pub posted_at : (net : Net) (x : World) (a b k : ℕ) (p : Packet) → ArePosted net x → nth (x.packets a b) k ≡ Some p
    → Posted net a b p
posted_at net x a b k p h there = record {
  near = near (h a b).near;
  kind = its (h a b).rest k (h a b).each there_;
}
  where
    there_ : nth (h a b).rest k ≡ Some p
    there_ = subst (λ (ps : List Packet). nth ps k ≡ Some p) (h a b).more there

    its : (ps : List Packet) (k : ℕ) → AllByRecursion (IsPosted net) ps → nth ps k ≡ Some p → IsPosted net p
    its ps zero all is = cc
    its ps (suc i) all is = there_if (IsPosted net) (slice_get ps i) p (slice_get_all (IsPosted net) ps i all) is

    none_there : (ps : List Packet) (k : ℕ) → ps ≡ [] → nth ps k ≡ Some p → ⊥
    none_there [] zero e is = cc
    none_there [] (suc i) e is = cc
    none_there (q ∷ ps) k e is = cc

    near : ((h a b).rest ≡ []) ⊎ Near net a b → Near net a b
    near (inl none) = absurd (none_there (h a b).rest k none there_)
    near (inr n) = n

-- a neighbour of a workstation of the network is one too
hop_from : (net : Net) (o : Option Node) (m n : ℕ) → slice_get net.nodes m ≡ o
    → option_and_then (λ (v : Node). v.hop) o ≡ Some n → m < node_count net
hop_from net None m n there is = cc
hop_from net (Some v) m n there is = slice_get_within net.nodes m v there

pub near_low : (net : Net) (n m : ℕ) → IsTree net → n < node_count net → are_neighbours net n m ≡ true → m < node_count net
near_low net n m tree n_in near = go (or_cases (some_is (hop net n) m) (some_is (hop net m) n) near)
  where
    go : (some_is (hop net n) m ≡ true) ⊎ (some_is (hop net m) n ≡ true) → m < node_count net
    go (inl h) = manager_inside net m (managed_hop net (hung net tree) n m n_in (is_at-true (hop net n) m h))
    go (inr h) = hop_from net (slice_get net.nodes m) m n refl (is_at-true (hop net m) n h)
