-- Each acknowledgement that was sent is of a feed of the network.
use Rattle.std.proofs.Common.{◌&&◌, ℕ, Bool, List, [], ◌∷◌, Option, Some, None, cond, eqb, false, if◌then◌else◌, inl, inr, length, true}
use Rattle.std.proofs.lemmas.Bool.Decides.{eqb_tells}
use Rattle.std.specs.List.{AllByRecursion}
use Rattle.std.specs.Option.{option_map_or}
use Rattle.std.specs.Prelude.{filter, map}
use Rattle.lemmas.proofs.Lists.{all_append, all_left, flat_all}
use Rattle.model.specs.Types.{Ack, Body, Entry, Events, Feed, Input, Kill, Launch, Launched, Mail, Net, Obeyed, Out}
use Rattle.model.specs.Types.{Packet, Send, Turn, WorldStep}
use Rattle.model.specs.Words.{below}
use Rattle.model.specs.Network.{are_neighbours, node_count}
use Rattle.model.specs.History.{View}
use Rattle.model.specs.Catalogue.{StreamJob, job}
use Rattle.model.specs.Facts.{open_launch}
use Rattle.model.specs.Forwarding.{to_send}
use Rattle.model.specs.Sessions.{Session}
use Rattle.model.specs.Step.{Effect, effect, outs_of, outs_of_body, sends}
use Rattle.model.specs.Workstations.{ws_in, ws_in_body, ws_in_feed}
use Rattle.model.specs.World.{Origin, World, apply_effect, cut_short, empty_world, mark_delivered, or_as_before, packets_to}
use Rattle.model.specs.World.{run, step}
use Rattle.model_laws.proofs.Faults.{clear_here}
use Rattle.model_laws.proofs.Inside.{AreIn, IsIn, are_in}
use Rattle.model_laws.proofs.Lists.{each_such}
use Rattle.model_laws.proofs.Options.{map_all}
use Rattle.model_laws.proofs.Steps.{IsFaultless, MailDone, OwnDone, always, moves}

-- of a feed of the network, where it is an acknowledgement
abbrev pub IsOfNetwork : Net → Packet → Type 0
IsOfNetwork net (Mail f k) = Unit {0}
IsOfNetwork net (Ack f n) = AreIn net (ws_in_feed f)

abbrev IsOutOf : Net → Out → Type 0
IsOutOf net (Send m p) = IsOfNetwork net p
IsOutOf net (Launch j n work) = Unit {0}
IsOutOf net (Out.Kill j n) = Unit {0}

packets_of : (net : Net) (b : ℕ) (outs : List Out) → AllByRecursion (IsOutOf net) outs
    → AllByRecursion (IsOfNetwork net) (packets_to b outs)
packets_of net b [] h = tt
packets_of net b (Launch j n work ∷ outs) h = packets_of net b outs h.1
packets_of net b (Out.Kill j n ∷ outs) h = packets_of net b outs h.1
packets_of net b (Send m p ∷ outs) h = go (eqb m b) (packets_of net b outs h.1)
  where
    go : (c : Bool) → AllByRecursion (IsOfNetwork net) (packets_to b outs)
        → AllByRecursion (IsOfNetwork net) (cond c (p ∷ packets_to b outs) (packets_to b outs))
    go true k = (h.0, k)
    go false k = k

-- what a node gives out
sends_of : (net u : Net) (w : ℕ) (V : View) (s : Session) → AllByRecursion (IsOutOf net) (sends u w V s)
unfolding sends
sends_of net u w V s =
    flat_all (IsOutOf net) (λ m. map (λ (p : Feed × ℕ). Send m (Mail p.0 p.1)) (to_send u V w m (s.acked m)))
    (filter (λ m. are_neighbours u w m && s.links m) (below (node_count u)))
    (each_such
    (λ m. AllByRecursion (IsOutOf net)
    (map (λ (p : Feed × ℕ). Send m (Mail p.0 p.1)) (to_send u V w m (s.acked m))))
    (filter (λ m. are_neighbours u w m && s.links m) (below (node_count u)))
    (λ m. map_all (IsOutOf net) (λ (p : Feed × ℕ). Send m (Mail p.0 p.1)) (to_send u V w m (s.acked m)) (λ p. tt)))

body_of : (net : Net) (w : ℕ) (V : View) (b : Body) → AllByRecursion (IsOutOf net) (outs_of_body w V b)
unfolding outs_of_body
body_of net w V (Launched j n seen) = go (job V j)
  where
    go : (o : Option StreamJob)
        → AllByRecursion (IsOutOf net) (option_map_or (λ (p : StreamJob). Launch j n p.doc.work ∷ []) o [])
    go None = tt
    go (Some p) = (tt, tt)
body_of net w V (Obeyed a k (Kill j)) = go (open_launch j (V (Events w)))
  where
    go : (o : Option ℕ) → AllByRecursion (IsOutOf net) (option_map_or (λ n. Out.Kill j n ∷ []) o [])
    go None = tt
    go (Some n) = (tt, tt)
body_of net w V _ = tt

outs_are : (net u : Net) (w : ℕ) (V : View) (s : Session) (i : Input) (made : Option Entry) → AreIn net (ws_in i)
    → AllByRecursion (IsOutOf net) (outs_of u w V s i made)
unfolding outs_of
outs_are net u w V s (Input.Local (Turn t)) made h =
    all_append (IsOutOf net) _ (sends u w V s) (first made) (sends_of net u w V s)
  where
    first : (m : Option Entry)
        → AllByRecursion (IsOutOf net) (option_map_or (λ (e : Entry). outs_of_body w V e.body) m [])
    first None = tt
    first (Some e) = body_of net w V e.body
outs_are net u w V s (Input.Mail from e) made h = go (s.links from)
  where
    go : (b : Bool)
        → AllByRecursion (IsOutOf net) (if b then Send from (Ack e.feed (length (V e.feed))) ∷ [] else [])
    go true = (all_left (IsIn net) (ws_in_feed e.feed) (ws_in_body e.body) h.1, tt)
    go false = tt
outs_are net u w V s _ made h = tt

named : (net : Net) (x : World) (w : ℕ) (i : Input) → IsFaultless net x w i → AreIn net (ws_in i)
named net x w i none = are_in net (ws_in i) (clear_here net x w i none).named

own_outs : (net : Net) (x : World) (w : ℕ) (d : Effect) → OwnDone net x w d → AllByRecursion (IsOutOf net) d.outs
unfolding effect cut_short
own_outs net x w d (OwnDone.whole l none) =
    outs_are net _ w _ _ (Input.Local l) _ (named net x w (Input.Local l) none)
own_outs net x w d (OwnDone.cut kept l none) = tt
own_outs net x w d OwnDone.stopped = tt

mail_outs : (net : Net) (x : World) (w : ℕ) (d : Effect) → MailDone net x w d → AllByRecursion (IsOutOf net) d.outs
unfolding effect cut_short
mail_outs net x w d (MailDone.whole i is_opened came none) = outs_are net _ w _ _ i _ (named net x w i none)
mail_outs net x w d (MailDone.cut kept i is_opened came none) = tt

-- in each world of steps
abbrev pub AreOfNetwork : Net → World → Type 0
AreOfNetwork net x = (a b : ℕ) → AllByRecursion (IsOfNetwork net) (x.packets a b)

after : (net : Net) (x : World) (w : ℕ) (o : Origin) (d : Effect) → AreOfNetwork net x
    → AllByRecursion (IsOutOf net) d.outs → AreOfNetwork net (apply_effect x w o d)
unfolding apply_effect
after net x w o d h outs a b =
    elim (eqb_tells a w) [
      | inl e ↦ rw e.0
          (all_append (IsOfNetwork net) (x.packets w b) (packets_to b d.outs) (h w b) (packets_of net b d.outs outs))
      | inr e ↦ rw e.0 (h a b)
    ]

marked : (net : Net) (x : World) (a b k : ℕ) → AreOfNetwork net x → AreOfNetwork net (mark_delivered x a b k)
unfolding mark_delivered
marked net x a b k h = h

of_step : (net : Net) (x : World) (s : WorldStep) → AreOfNetwork net x → AreOfNetwork net (or_as_before x (step net x s))
of_step net x s h =
    moves net (AreOfNetwork net) x h (λ w d done. after net x w Origin.Own d h (own_outs net x w d done))
    (λ a b k d done.
    marked net (apply_effect x b Origin.Mailed d) a b k (after net x b Origin.Mailed d h (mail_outs net x b d done)))
    s

pub of_run : (net : Net) (steps : List WorldStep) → AreOfNetwork net (run net steps empty_world)
of_run net steps = always net (AreOfNetwork net) (of_step net) steps empty_world (λ a b. tt)
