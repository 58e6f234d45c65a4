-- The premises: what each workstation does is a front of a run, its file outlives a restart, and what comes over a link
-- was sent. And what a night then is: a world of the definitions.
use Rattle.std.specs.Prelude.{[], ℕ, ◌++◌, ◌<◌, ◌∷◌, ◌≡◌, ◌≤◌, ◌⊎◌, Bool, Contains, List, None, Option, Some, option_map}
use Rattle.composer_parser.specs.declared.Defs.{Defs}
use Rattle.model.specs.Types.{Ack, Body, Entry, Feed, Mail, Net, Packet, WorldStep}
use Rattle.model.specs.Words.{IsPartOf, nth}
use Rattle.model.specs.Fit.{IsFit}
use Rattle.model.specs.FreeSteps.{free_run}
use Rattle.model.specs.History.{list_of}
use Rattle.model.specs.Kept.{HasKept}
use Rattle.model.specs.Network.{node_count}
use Rattle.model.specs.Ranges.{InRange}
use Rattle.model.specs.Sessions.{restarted}
use Rattle.model.specs.Sound.{IsSound}
use Rattle.model.specs.Spelling.{entry_bytes}
use Rattle.model.specs.World.{World, empty_world, view_at}
use Rattle.mail_frames.specs.declared.frames.Frame.{Frame}
use Rattle.mail_frames.specs.declared.frames.Frame.TheVariants as frame
use Rattle.mail_frames.specs.Spelling.{frame_bytes}
use Rattle.mail_frames.specs.Streams.{AreFramesOf}
use Rattle.workload_defs.specs.Nets.{net_of}
use Rattle.agent_core.specs.Nodes.{NodeState, session_in}
use Rattle.node_inputs.specs.Traces.{Event, Trace, refusals, tried_by}
use Rattle.node_inputs.specs.declared.ends.NodeEnd.{NodeEnd}
use Rattle.node_loop.specs.Runs.{Run, Running, running}
use Rattle.run_laws.specs.Held.{held_after}
use Rattle.network_runs.specs.Happenings.{Begins, Does, Happening, Night, Stops, heard_from, kept_at, kept_in, launches_at, left_at_stop, made, since, started, until_stop}

-- a node of w that holds these entries and has just begun
pub record IsBegun (net : Net) (w : ℕ) (entries : List Entry) (node : NodeState) : Type 0 where
  pub net_ : node.net ≡ net
  pub me_ : node.me ≡ w
  pub kept_ : node.kept ≡ entries
  pub session_ : session_in node ≡ restarted

-- What a stop leaves beyond all that was kept is nothing, or the entry in hand: the run had been about to keep it, or it
-- was refused, and the disk has it all the same.
abbrev pub IsLeftAtStop : Trace → Trace → Option Entry → Type 0
IsLeftAtStop trace rest None = Unit {0}
IsLeftAtStop trace rest (Some e) =
    ((event : Event) × (more : Trace) × (rest ≡ event ∷ more) × (tried_by event ≡ Some e))
    ⊎ ((why : NodeEnd) × (refusals trace ≡ (e, why) ∷ []))

-- What w does from a begin to its stop is a front of a run of a node that holds these entries, and what the stop leaves
-- was in hand behind that front.
pub record IsLife (defs : Defs) (w : ℕ) (entries : List Entry) (trace : Trace) (left : Option Entry) : Type 0 where
  pub start : NodeState
  pub begun : IsBegun (net_of defs) w entries start
  pub turns : ℕ
  pub rest : Trace
  pub end : Option NodeEnd
  pub new : Running
  pub runs : Run defs turns (running start) (trace ++ rest) end new
  pub left_ : IsLeftAtStop trace rest left

-- the frame stands whole in these bytes
pub record StandsIn (bytes : List ℕ) (f : Frame) : Type 0 where
  pub frames : List Frame
  pub are : AreFramesOf bytes frames
  pub among : Contains frames f

-- it brings mail or an acknowledgement; the others are for clients, and a node drops the link that brings them
abbrev pub IsForNodes : Frame → Type 0
IsForNodes (frame.Mail entry) = Unit {0}
IsForNodes (frame.Ack f n) = Unit {0}
IsForNodes (frame.Command text) = ⊥
IsForNodes (frame.Reply text) = ⊥

-- x sent this frame to w, whatever it was told of that send
abbrev pub IsSent : Night → ℕ → ℕ → Frame → Type 0
IsSent before x w f = (ok : Bool) × Contains before (Does x (Event.Sends (record { to = w; bytes = frame_bytes f; ok = ok })))

-- it can be written down and is read again: what the program's types and the contract of its keeper give of an entry
pub record IsWritten (e : Entry) : Type 0 where
  pub fit : IsFit e
  pub in_range : InRange e

-- A night of the premises. On files: what a workstation kept outlives its restart (`files`), and no two runs serve one
-- workstation at once (`stood`). On links: what came whole from another was sent by it (`links`). The rest is what the
-- program does: it serves workstations of checked definitions (`few`, `inside`), each by runs as they are defined (`runs`,
-- `acts`, `stops`), and keeps what its types and its keeper let it write down (`written`).
pub record IsNight (defs : Defs) (night : Night) : Type 0 where
  -- where a workstation begins, a frame can name each one of the network
  pub few : (before behind : Night) (w : ℕ) (entries : List Entry) → night ≡ before ++ Begins w entries ∷ behind
      → node_count (net_of defs) ≤ 65536
  -- a workstation of the network begins where it does not run, and holds all that its file has
  pub inside : (before behind : Night) (w : ℕ) (entries : List Entry) → night ≡ before ++ Begins w entries ∷ behind
      → w < node_count (net_of defs)
  pub stood : (before behind : Night) (w : ℕ) (entries : List Entry) → night ≡ before ++ Begins w entries ∷ behind
      → since w before ≡ None
  pub files : (before behind : Night) (w : ℕ) (entries : List Entry) → night ≡ before ++ Begins w entries ∷ behind
      → entries ≡ kept_at w before
  -- what it does up to its stop is a life of it, and it does nothing before it begins and after it stops
  pub runs : (before behind : Night) (w : ℕ) (entries : List Entry) → night ≡ before ++ Begins w entries ∷ behind
      → IsLife defs w entries (until_stop w behind) (left_at_stop w behind)
  pub acts : (before behind : Night) (w : ℕ) (event : Event) → night ≡ before ++ Does w event ∷ behind
      → (past : Trace) × (since w before ≡ Some past)
  pub stops : (before behind : Night) (w : ℕ) (left : Option Entry) → night ≡ before ++ Stops w left ∷ behind
      → (past : Trace) × (since w before ≡ Some past)
  -- each frame for nodes that came whole from x since the link began is one that x sent before
  pub links : (before behind : Night) (w x : ℕ) (past : Trace) (f : Frame) → night ≡ before ++ behind
      → since w before ≡ Some past → StandsIn (heard_from x past) f → IsForNodes f → IsSent before x w f
  -- what is kept can be written down
  pub written : (before behind : Night) (h : Happening) (v : ℕ) (e : Entry) → night ≡ before ++ h ∷ behind
      → kept_in h ≡ Some (v, e) → IsWritten e

-- the frame that brings a packet: the entry of the history that it names, or how many of a feed its sender holds
abbrev pub frame_in : List Entry → Packet → Option Frame
frame_in G (Mail f place) =
    option_map (λ (body : Body). frame.Mail (entry_bytes (record { feed = f; place = place; body = body })))
    (nth (list_of G f) place)
frame_in G (Ack f n) = Some (frame.Ack f n)

-- these bytes bring a packet that a sent to b in the world
pub record BringsPacket (x : World) (a b : ℕ) (bytes : List ℕ) : Type 0 where
  pub packet : Packet
  pub sent : Contains (x.packets a b) packet
  pub frame_ : Frame
  pub its : frame_in x.history packet ≡ Some frame_
  pub bytes_ : bytes ≡ frame_bytes frame_

-- a workstation that runs does a front of a run, and what its node holds behind it is what it holds in the world
pub record RunsIn (defs : Defs) (x : World) (w : ℕ) (past : Trace) : Type 0 where
  pub entries : List Entry
  pub life : IsLife defs w entries past None
  pub holds : (f : Feed) → held_after life.start past f ≡ view_at x w f

-- The world that a night is: steps of the definitions lead to it; its history is what makers kept, in that order; what
-- the disk of each workstation has is what it holds in the world, and restores it, and so is what the node of one that runs
-- holds; one that does not run has the session of a node that has just begun; what was sent brings packets of the world; and the processes that were asked for at a
-- workstation are some of its starts there, in that order, each at most once. (A stop may come between a launch that is
-- kept and its process.)
pub record IsWorldOf (defs : Defs) (night : Night) (x : World) : Type 0 where
  pub steps : List WorldStep
  pub by_them : x ≡ free_run (net_of defs) steps empty_world
  pub history_ : x.history ≡ made night
  pub kept_ : (w : ℕ) → w < node_count (net_of defs) → HasKept (net_of defs) x w (kept_at w night)
  pub runs_ : (w : ℕ) (past : Trace) → since w night ≡ Some past → RunsIn defs x w past
  pub idle_ : (w : ℕ) → w < node_count (net_of defs) → since w night ≡ None → x.sessions w ≡ restarted
  pub sent_ : (a b : ℕ) (bytes : List ℕ) (ok : Bool)
      → Contains night (Does a (Event.Sends (record { to = b; bytes = bytes; ok = ok }))) → BringsPacket x a b bytes
  pub starts_ : (w : ℕ) → IsPartOf (launches_at w (started night)) (launches_at w x.starts)

-- what follows of a night: the entries that makers kept are a sound history
pub record IsSoundNight (defs : Defs) (night : Night) : Type 0 where
  pub world : World
  pub is : IsWorldOf defs night world
  pub sound : IsSound (net_of defs) (made night) world.starts
