-- The calls of links, spawners and clocks, as these objects tell them.
use Rattle.std.specs.Prelude.{◌≡◌, ℕ, Bool, List, [], ◌∷◌, ◌++◌, Result, ⊤, Some, None}
use Rattle.std.specs.declared.option.Option.{Option}
use Rattle.base_types.specs.declared.Peer.{Peer}
use Rattle.base_types.specs.declared.Work.{Work}
use Rattle.outside.specs.declared.Failed.{Failed}
use Rattle.outside.specs.declared.links.Arrival.{Arrival}
use Rattle.outside.specs.declared.spawners.End.{End}

-- One more stands at the end of what is told, or from now on nothing is told. What is not told is never told again.
abbrev pub AddsOrEnds : {X : Type 0} → X → Option (List X) → Option (List X) → Type 0
AddsOrEnds x None None = ⊤
AddsOrEnds x (Some old) (Some new) = new ≡ old ++ x ∷ []
AddsOrEnds x None (Some new) = ⊥
AddsOrEnds x (Some old) None = ⊤

-- there was a call from which on nothing is told
abbrev pub HasCalls : {X : Type 0} → List X → Type 0
HasCalls [] = ⊥
HasCalls (x ∷ xs) = ⊤

-- These stand at the end of what is told, or from some call on nothing is told, and then never again.
abbrev pub AddsAllOrEnds : {X : Type 0} → List X → Option (List X) → Option (List X) → Type 0
AddsAllOrEnds xs None None = ⊤
AddsAllOrEnds xs (Some old) None = HasCalls xs
AddsAllOrEnds xs (Some old) (Some new) = new ≡ old ++ xs
AddsAllOrEnds xs None (Some new) = ⊥

-- a link is to begin: the own number, the workstation to connect to, and the addresses of all workstations
pub record Begin : Type 0 where
  pub me : Option ℕ
  pub hop : Option ℕ
  pub peers : List Peer
  pub ok : Bool

-- bytes for a workstation
pub record Sent : Type 0 where
  pub to : ℕ
  pub bytes : List ℕ
  pub ok : Bool

-- bytes for the client
pub record Replied : Type 0 where
  pub bytes : List ℕ
  pub ok : Bool

-- a link is asked to begin or to end
pub data Asked : Type 0 where
  Raise : ℕ → Asked
  Close : ℕ → Asked

-- what a link tells of its calls
pub record LinkCalls : Type 0 where
  pub begun : Option (List Begin)
  pub arrived : Option (List Arrival)
  pub sent : Option (List Sent)
  pub replied : Option (List Replied)
  pub asked : Option (List Asked)

pub record Begins (call : Begin) (old new : LinkCalls) : Type 0 where
  pub begun : AddsOrEnds call old.begun new.begun
  pub arrived : new.arrived ≡ old.arrived
  pub sent : new.sent ≡ old.sent
  pub replied : new.replied ≡ old.replied
  pub asked : new.asked ≡ old.asked

pub record Polls (arrival : Arrival) (old new : LinkCalls) : Type 0 where
  pub begun : new.begun ≡ old.begun
  pub arrived : AddsOrEnds arrival old.arrived new.arrived
  pub sent : new.sent ≡ old.sent
  pub replied : new.replied ≡ old.replied
  pub asked : new.asked ≡ old.asked

pub record Sends (call : Sent) (old new : LinkCalls) : Type 0 where
  pub begun : new.begun ≡ old.begun
  pub arrived : new.arrived ≡ old.arrived
  pub sent : AddsOrEnds call old.sent new.sent
  pub replied : new.replied ≡ old.replied
  pub asked : new.asked ≡ old.asked

pub record Replies (call : Replied) (old new : LinkCalls) : Type 0 where
  pub begun : new.begun ≡ old.begun
  pub arrived : new.arrived ≡ old.arrived
  pub sent : new.sent ≡ old.sent
  pub replied : AddsOrEnds call old.replied new.replied
  pub asked : new.asked ≡ old.asked

pub record Asks (call : Asked) (old new : LinkCalls) : Type 0 where
  pub begun : new.begun ≡ old.begun
  pub arrived : new.arrived ≡ old.arrived
  pub sent : new.sent ≡ old.sent
  pub replied : new.replied ≡ old.replied
  pub asked : AddsOrEnds call old.asked new.asked

-- a job's work is to start as the launch of this number
pub record StartCall : Type 0 where
  pub job : ℕ
  pub number : ℕ
  pub work : Work
  pub ok : Bool

-- what a spawner tells of its calls: the starts, the launches to be killed, and the answers of its polls
pub record SpawnerCalls : Type 0 where
  pub started : Option (List StartCall)
  pub killed : Option (List (ℕ × ℕ))
  pub reported : Option (List (Result (Option End) Failed))

pub record Starts (call : StartCall) (old new : SpawnerCalls) : Type 0 where
  pub started : AddsOrEnds call old.started new.started
  pub killed : new.killed ≡ old.killed
  pub reported : new.reported ≡ old.reported

pub record Reports (answer : Result (Option End) Failed) (old new : SpawnerCalls) : Type 0 where
  pub started : new.started ≡ old.started
  pub killed : new.killed ≡ old.killed
  pub reported : AddsOrEnds answer old.reported new.reported

pub record Kills (job number : ℕ) (old new : SpawnerCalls) : Type 0 where
  pub started : new.started ≡ old.started
  pub killed : AddsOrEnds (job, number) old.killed new.killed
  pub reported : new.reported ≡ old.reported
