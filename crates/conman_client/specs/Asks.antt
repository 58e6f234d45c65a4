-- An ask: the calls that it makes of a link, and what it answers by them.
use Rattle.std.specs.Prelude.{◌≡◌, ◌≤◌, ◌⊎◌, ◌||◌, not, ℕ, Bool, true, false, List, [], ◌∷◌, length, Option, None, Some, Result, Ok, Err, ⊤}
use Rattle.std.specs.List.{list_any}
use Rattle.base_types.specs.declared.Peer.{Peer}
use Rattle.mail_frames.specs.declared.frames.Frame.TheVariants.{Command}
use Rattle.mail_frames.specs.Spelling.{frame_bytes}
use Rattle.outside.specs.declared.links.Arrival.{Arrival}
use Rattle.outside.specs.Calls.{AddsAllOrEnds, Begin, LinkCalls, Sent}
use Rattle.outside.specs.Causes.{Rose}
use Rattle.conman_client.specs.declared.ends.AskEnd.{AskEnd}
use Rattle.conman_client.specs.declared.ends.AskEnd.TheVariants.{NoAnswer, NoMemory}
use Rattle.conman_client.specs.Replies.{IsFirstReply, IsNoneBefore}

-- calls of a link: of `begin`, of `send`, and what its polls gave
pub record Made : Type 0 where
  pub begun : List Begin
  pub sent : List Sent
  pub arrived : List Arrival

-- the link tells these calls besides, and no other
pub record Tells (made : Made) (old new : LinkCalls) : Type 0 where
  pub begun : AddsAllOrEnds made.begun old.begun new.begun
  pub arrived : AddsAllOrEnds made.arrived old.arrived new.arrived
  pub sent : AddsAllOrEnds made.sent old.sent new.sent
  pub replied : new.replied ≡ old.replied
  pub asked : new.asked ≡ old.asked

-- one of the calls failed
abbrev pub has_failed : Made → Bool
has_failed made =
    list_any (λ (call : Begin). not call.ok) made.begun || list_any (λ (call : Sent). not call.ok) made.sent

-- the count of faults never falls, rose where a call failed, and else stayed
pub record Counts (made : Made) (before now : ℕ) : Type 0 where
  pub later : before ≤ now
  pub failed : has_failed made ≡ true → Rose before now
  pub succeeded : has_failed made ≡ false → now ≡ before

-- a client begins, which has no number and connects to the peer
abbrev pub begin_with : Peer → Bool → Begin
begin_with peer ok = record { me = None; hop = Some peer.ws; peers = peer ∷ []; ok = ok }

-- the command goes to the peer in one frame
abbrev pub send_to : Peer → List ℕ → Bool → Sent
send_to peer command ok = record { to = peer.ws; bytes = frame_bytes (Command command); ok = ok }

-- nothing is called, polls alone, a `begin` that fails, a `send` that fails, and all that an ask calls
abbrev pub nothing : Made
nothing = record { begun = []; sent = []; arrived = [] }

abbrev pub polled : List Arrival → Made
polled arrivals = record { begun = []; sent = []; arrived = arrivals }

abbrev pub not_begun : Peer → Made
not_begun peer = record { begun = begin_with peer false ∷ []; sent = []; arrived = [] }

abbrev pub not_sent : Peer → List ℕ → Made
not_sent peer command =
    record { begun = begin_with peer true ∷ []; sent = send_to peer command false ∷ []; arrived = [] }

abbrev pub asked : Peer → List ℕ → List Arrival → Made
asked peer command arrivals =
    record { begun = begin_with peer true ∷ []; sent = send_to peer command true ∷ []; arrived = arrivals }

-- how often an ask polls at most
abbrev pub most_polls : ℕ
most_polls = 600

-- what the polls came to
abbrev pub EndsAs : ℕ → List Arrival → Result (List ℕ) AskEnd → Type 0
EndsAs ws arrivals (Ok text) = IsFirstReply ws arrivals (Some text)
EndsAs ws arrivals (Err NoAnswer) = (length arrivals ≡ most_polls) × IsFirstReply ws arrivals None
EndsAs ws arrivals (Err NoMemory) = ⊤

-- it is polled until the first reply of the workstation is whole, or as often as may be, or memory runs out
pub record Listens (ws : ℕ) (arrivals : List Arrival) (answer : Result (List ℕ) AskEnd) : Type 0 where
  pub most : length arrivals ≤ most_polls
  pub before : IsNoneBefore ws arrivals
  pub ends : EndsAs ws arrivals answer

-- an ask that ends before it polls
abbrev pub EndsAtOnce : Peer → List ℕ → Made → Result (List ℕ) AskEnd → Type 0
EndsAtOnce peer command made (Ok text) = ⊥
EndsAtOnce peer command made (Err NoAnswer) = (made ≡ not_begun peer) ⊎ (made ≡ not_sent peer command)
EndsAtOnce peer command made (Err NoMemory) = made ≡ nothing

-- An ask of the peer, by its calls and its answer.
abbrev pub IsAsk : Peer → List ℕ → Made → Result (List ℕ) AskEnd → Type 0
IsAsk peer command made answer =
    EndsAtOnce peer command made answer
    ⊎ ((arrivals : List Arrival) × (made ≡ asked peer command arrivals) × Listens peer.ws arrivals answer)

-- as many polls as may be gave no whole reply of the workstation
abbrev pub IsUnanswered : ℕ → LinkCalls → LinkCalls → Type 0
IsUnanswered ws old new =
    (arrivals : List Arrival) × (length arrivals ≡ most_polls) × IsFirstReply ws arrivals None
    × AddsAllOrEnds arrivals old.arrived new.arrived
