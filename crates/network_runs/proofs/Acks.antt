-- An acknowledgement that a step sends is of a feed of the network.
use Rattle.std.proofs.Common.{[], ◌<◌, ◌∷◌, ◌≡◌, ◌≤◌, Bool, List, None, Option, Some, arith, false, inl, inr, ltb-true, refl, subst, sym, true, ℕ}
use Rattle.std.specs.Option.{option_map_or}
use Rattle.std.specs.Prelude.{Ok, flat_map, if◌then◌else◌, length, map}
use Rattle.lemmas.proofs.Lists.{all_left}
use Rattle.model.specs.Types.{Ack, Body, Entry, Events, Feed, Input, Kill, Launch, Launched, Mail, Net, Obeyed, Orders, Out, Packet, Send, Turn}
use Rattle.model.specs.Catalogue.{StreamJob, job}
use Rattle.model.specs.Facts.{open_launch}
use Rattle.model.specs.Forwarding.{to_send}
use Rattle.model.specs.History.{View}
use Rattle.model.specs.Network.{node_count}
use Rattle.model.specs.PresentNet.{present_net}
use Rattle.model.specs.Ranges.{FeedInRange}
use Rattle.model.specs.Sessions.{Session}
use Rattle.model.specs.Step.{Effect, effect, node_step, outs_of, outs_of_body, sends, unless_fault}
use Rattle.model.specs.StepFaults.{StepFault, step_fault}
use Rattle.model.specs.Workstations.{ws_in, ws_in_body, ws_in_feed}
use Rattle.model_laws.proofs.Faults.{clear}
use Rattle.model_laws.proofs.Inside.{AreIn, IsIn as IsInside, are_in}
use Rattle.model_laws.proofs.PresentNets.{by_one, one_count}
use Rattle.model_laws.proofs.Sends.{same_done}
use Rattle.network_runs.proofs.Members.{IsIn, in_either}

-- an acknowledgement is of a feed whose numbers have their bytes
abbrev pub IsAckInRange : Packet → Type 0
IsAckInRange (Mail g k) = Unit {0}
IsAckInRange (Ack g n) = FeedInRange g

mail_in_range : (m to : ℕ) (p : Packet) (ps : List (Feed × ℕ)) → IsIn (Send to p) (map (λ (q : Feed × ℕ). Send m (Mail q.0 q.1)) ps)
    → IsAckInRange p
mail_in_range m to p [] h = absurd h
mail_in_range m to p (q ∷ ps) (inl e) = subst IsAckInRange (same e) tt
  where
    same : Send m (Mail q.0 q.1) ≡ Send to p → Mail q.0 q.1 ≡ p
    same e = cc
mail_in_range m to p (q ∷ ps) (inr h) = mail_in_range m to p ps h

mails_in_range : (to : ℕ) (p : Packet) (which : ℕ → List (Feed × ℕ)) (ms : List ℕ)
    → IsIn (Send to p) (flat_map (λ m. map (λ (q : Feed × ℕ). Send m (Mail q.0 q.1)) (which m)) ms) → IsAckInRange p
mails_in_range to p which [] h = absurd h
mails_in_range to p which (m ∷ ms) h =
    elim (in_either (Send to p) (map (λ (q : Feed × ℕ). Send m (Mail q.0 q.1)) (which m))
    (flat_map (λ m. map (λ (q : Feed × ℕ). Send m (Mail q.0 q.1)) (which m)) ms) h) [
      | inl k ↦ mail_in_range m to p (which m) k
      | inr k ↦ mails_in_range to p which ms k
    ]

sends_in_range : (net : Net) (me : ℕ) (V : View) (s : Session) (to : ℕ) (p : Packet) → IsIn (Send to p) (sends net me V s)
    → IsAckInRange p
unfolding sends
sends_in_range net me V s to p h = mails_in_range to p (λ m. to_send net V me m (s.acked m)) _ h

launched_only : (o : Option StreamJob) (j n to : ℕ) (p : Packet)
    → IsIn (Send to p) (option_map_or (λ (q : StreamJob). Launch j n q.doc.work ∷ []) o []) → IsAckInRange p
launched_only None j n to p h = absurd h
launched_only (Some q) j n to p (inl e) = cc
launched_only (Some q) j n to p (inr h) = absurd h

killed_only : (o : Option ℕ) (j to : ℕ) (p : Packet) → IsIn (Send to p) (option_map_or (λ n. Out.Kill j n ∷ []) o [])
    → IsAckInRange p
killed_only None j to p h = absurd h
killed_only (Some n) j to p (inl e) = cc
killed_only (Some n) j to p (inr h) = absurd h

body_in_range : (me : ℕ) (V : View) (b : Body) (to : ℕ) (p : Packet) → IsIn (Send to p) (outs_of_body me V b) → IsAckInRange p
unfolding outs_of_body
body_in_range me V (Launched j n seen) to p h = launched_only (job V j) j n to p h
body_in_range me V (Obeyed a k (Kill j)) to p h = killed_only (open_launch j (V (Events me))) j to p h
body_in_range me V b to p h = absurd h

made_in_range : (me : ℕ) (V : View) (made : Option Entry) (to : ℕ) (p : Packet)
    → IsIn (Send to p) (option_map_or (λ (e : Entry). outs_of_body me V e.body) made []) → IsAckInRange p
made_in_range me V None to p h = absurd h
made_in_range me V (Some e) to p h = body_in_range me V e.body to p h

pub within : (net : Net) (w : ℕ) → IsInside net w → w < node_count net
within net w h = ltb-true w (node_count net) h

in_two : (net : Net) (w : ℕ) → node_count net ≤ 65536 → w < node_count net → w < 65536
in_two net w few h = omega (arith, few, h)

feed_in_range : (net : Net) (f : Feed) → node_count net ≤ 65536 → AreIn net (ws_in_feed f) → FeedInRange f
feed_in_range net (Events w) few h = in_two net w few (within net w h.0)
feed_in_range net (Orders a w) few h = (in_two net a few (within net a h.0), in_two net w few (within net w h.1.0))

outs_in_range : (net u : Net) (me : ℕ) (V : View) (s : Session) (input : Input) (made : Option Entry) (to : ℕ) (p : Packet)
    → node_count net ≤ 65536 → AreIn net (ws_in input) → IsIn (Send to p) (outs_of u me V s input made) → IsAckInRange p
unfolding outs_of
outs_in_range net u me V s (Input.Local (Turn t)) made to p few inside h =
    elim (in_either (Send to p) (option_map_or (λ (e : Entry). outs_of_body me V e.body) made []) (sends u me V s) h) [
      | inl k ↦ made_in_range me V made to p k
      | inr k ↦ sends_in_range u me V s to p k
    ]
outs_in_range net u me V s (Input.Mail from e) made to p few inside h = go (s.links from) h
  where
    same : Send from (Ack e.feed (length (V e.feed))) ≡ Send to p → Ack e.feed (length (V e.feed)) ≡ p
    same q = cc

    go : (b : Bool) → IsIn (Send to p) (if b then Send from (Ack e.feed (length (V e.feed))) ∷ [] else []) → IsAckInRange p
    go true (inl q) =
        subst IsAckInRange (same q)
        (feed_in_range net e.feed few
        (all_left (IsInside net) (ws_in_feed e.feed) (ws_in_body e.body) inside.1))
    go true (inr none) = absurd none
    go false none = absurd none
outs_in_range net u me V s input made to p few inside h = absurd h

pub sent_in_range : (net : Net) (me : ℕ) (V : View) (s : Session) (input : Input) (d : Effect) → node_count net ≤ 65536
    → node_step net me V s input ≡ Ok d → (to : ℕ) (p : Packet) → IsIn (Send to p) d.outs → IsAckInRange p
unfolding node_step effect
sent_in_range net me V s input d few e to p h = go (step_fault (present_net net V) me V s input) refl e
  where
    count : node_count (present_net net V) ≡ node_count net
    count = one_count net (present_net net V) (by_one net (V (Events 0)))

    go : (f : Option StepFault) → step_fault (present_net net V) me V s input ≡ f
        → unless_fault f (effect net me V s input) ≡ Ok d → IsAckInRange p
    go None none same =
        let is : effect net me V s input ≡ d = same_done (effect net me V s input) d same in
        outs_in_range (present_net net V) _ me _ _ input _ to p (subst (λ (n : ℕ). n ≤ 65536) (sym count) few)
        (are_in (present_net net V) (ws_in input) (clear (present_net net V) me V s input none).named)
        (subst (λ (c : Effect). IsIn (Send to p) c.outs) (sym is) h)
    go (Some f) none same = cc
