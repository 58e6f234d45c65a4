-- The service of a node, from the disk that is handed in to the one that is handed back.
use Rattle.std.specs.List.{All}
use Rattle.std.specs.Prelude.{[], ℕ, ◌+◌, ◌++◌, ◌<◌, ◌∷◌, ◌≡◌, ◌≤◌, ◌⊎◌, Bool, IfSome, List, None, Option, Some, length, option_map, take, ⊤}
use Rattle.base_types.specs.declared.LimitName.{LimitName}
use Rattle.base_types.specs.declared.LimitName.TheVariants.{File}
use Rattle.composer_parser.specs.declared.Defs.{Defs}
use Rattle.model.specs.Types.{Entry}
use Rattle.model.specs.Network.{hop, node_count}
use Rattle.model.specs.Sessions.{restarted}
use Rattle.outside.specs.Calls.{Begin, Begins, LinkCalls}
use Rattle.outside.specs.Causes.{Rose}
use Rattle.outside.specs.Kept.{Bodies, IsKept, size_of}
use Rattle.outside.specs.Records.{longest_file}
use Rattle.outside.specs.Stops.{LeavesOnly}
use Rattle.message_file.specs.Attaching.{LeftAttaching}
use Rattle.message_file.specs.Files.{kept_of}
use Rattle.message_file.specs.State.{KeepsOf, KeptLeft, OwnFiles, kept_in}
use Rattle.agent_core.specs.Nodes.{NodeState, present_in, session_in}
use Rattle.workload_defs.specs.Nets.{net_of, peers_of}
use Rattle.node_inputs.specs.Keeping.{IsLeft, IsLeftAtEnd, IsLeftWith, IsRefusal, IsWritten, bodies, record_size}
use Rattle.node_inputs.specs.Traces.{Trace, kept, refusals, tried}
use Rattle.node_inputs.specs.declared.ends.NodeEnd.{NodeEnd}
use Rattle.node_inputs.specs.declared.ends.NodeEnd.TheVariants.{DiskFault, Limit}
use Rattle.node_inputs.specs.Tellings.{Tells, Told}
use Rattle.node_loop.specs.Runs.{Run, Running, running}
use Rattle.run_laws.specs.Limits.{IsMet}
use Rattle.node_restart.specs.Restarting.{IsNoFile, IsRefused, Restarts}
use Rattle.node_restart.specs.Stopping.{KeptSince, StayOwn}
use Rattle.node_restart.specs.declared.faults.RestartFault.{RestartFault}
use Rattle.node_restart.specs.declared.faults.RestartFault.TheVariants.{Disk, NotThisFile}
use Rattle.node_service.specs.declared.services.ServiceEnd.{ServiceEnd}
use Rattle.node_service.specs.declared.services.ServiceEnd.TheVariants.{Ran, Unmade}

-- how the links of a node begin: with its number, its hop in the network as it stands for it, and all addresses
abbrev pub begin_of : Defs → NodeState → Bool → Begin
begin_of defs node ok =
    record { me = Some node.me; hop = hop (present_in node) node.me; peers = peers_of defs; ok = ok }

-- a node of the definitions, of at most 256 workstations, that holds what its file keeps, with nothing live, linked or
-- acknowledged
pub record IsMade (defs : Defs) (me : ℕ) (told : Option (List ℕ)) (node : NodeState) : Type 0 where
  pub net_ : node.net ≡ net_of defs
  pub few_ : node_count (net_of defs) ≤ 256
  pub me_ : node.me ≡ me
  pub session_ : session_in node ≡ restarted
  pub holds : IfSome told (Restarts (net_of defs) me node.kept)

-- the bodies of what a node held at first, where the disk tells its bytes
abbrev pub told_kept : Option (List ℕ) → List Entry → Option Bodies
told_kept told entries = option_map (λ (file : List ℕ). bodies entries) told

-- what a stop left is kept of a file that the disk might have left before, or that attaching it makes; or else it is what
-- the node held at first and some of the entries that it was to keep, in order and none skipped
abbrev pub LeftServing : ℕ → Option (List ℕ) → (List ℕ → Type 0) → List Entry → Trace → Bodies → Type 0
LeftServing me told may_leave entries trace left =
    KeptLeft (LeftAttaching me told may_leave) left ⊎ IsLeft trace (told_kept told entries) left

-- the file that is read keeps these bodies at its front, and with them no other but one that was in hand
abbrev pub KeepsFront : Bodies → Option (List ℕ) → Option (List ℕ) → Type 0
KeepsFront front None new = ⊤
KeepsFront front (Some file) None = ⊥
KeepsFront front (Some file) (Some now) = (count : ℕ) × (take count (kept_of now) ≡ front)

-- the file of what was held and kept, and with it the record of the entry that was refused, pass 2,147,483,648 bytes
pub record IsFull (entries : List Entry) (trace : Trace) : Type 0 where
  pub entry : Entry
  pub refused : refusals trace ≡ (entry, Limit File) ∷ []
  pub over : longest_file < size_of (bodies (entries ++ kept trace)) + record_size entry

-- what the disk shows before and after
module _ {D : Type 0} (seen : D → Option (List ℕ)) (faults moment : D → ℕ) (may_leave : D → List ℕ → Type 0)
    (left_since : D → ℕ → List ℕ → Type 0) (defs : Defs) (me : ℕ) where
  -- no node is made of it: its file is refused at a place, its disk failed, or memory ran out
  pub record IsUnmade (fault : RestartFault) (old new : D) : Type 0 where
    pub refused : (place : ℕ) → fault ≡ NotThisFile place → IfSome (seen old) (IsRefused (net_of defs) me place)
    pub untouched : (place : ℕ) → fault ≡ NotThisFile place
        → IfSome (seen old) (λ (file : List ℕ). IsNoFile me place file → seen new ≡ Some file)
    pub keeps : (fault ≡ Disk → ⊥)
        → (seen new ≡ seen old) ⊎ ((number : ℕ) × KeepsOf me (seen old) (kept_in (seen new) number))
    pub cause : fault ≡ Disk → Rose (faults old) (faults new)
    pub later : faults old ≤ faults new
    pub any_moment : LeavesOnly moment (KeptSince left_since) old new (KeptLeft (LeftAttaching me (seen old) (may_leave old)))
    pub own : StayOwn me moment seen left_since old new

  -- The disk when the node was made of it: it keeps what the node holds, and a stop leaves that and nothing else. From
  -- then on what is read and what a stop leaves are files of the workstation, whatever the disk had before.
  pub record IsAttached (entries : List Entry) (old new disk : D) : Type 0 where
    pub since : moment old ≤ moment disk
    pub until : moment disk ≤ moment new
    pub keeps : KeepsFront (bodies entries) (seen old) (seen disk)
    pub leaves : (left : List ℕ) → may_leave disk left → IsKept (told_kept (seen old) entries) (kept_of left)
    pub own : OwnFiles me (seen new) (left_since new (moment disk))

  -- The disk when so many events of the trace were over: it keeps what the node held and what they kept, and a stop then
  -- leaves that, with the entry in hand or without. A stop between two of these leaves at least all that the earlier had
  -- kept, and no more than was to be kept up to the later; one behind leaves at least all that was kept; and one before the
  -- first event leaves what attaching the disk leaves, or what the node held.
  pub record Stands (entries : List Entry) (trace : Trace) (old attached new : D) (at_front : ℕ → D) : Type 0 where
    pub since : (k : ℕ) → moment attached ≤ moment (at_front k)
    pub until : (k : ℕ) → moment (at_front k) ≤ moment new
    pub ordered : (j k : ℕ) → j ≤ k → moment (at_front j) ≤ moment (at_front k)
    pub keeps : (k : ℕ) → KeepsFront (bodies (entries ++ kept (take k trace))) (seen old) (seen (at_front k))
    pub leaves : (k : ℕ) (left : List ℕ) → may_leave (at_front k) left
        → IsLeftAtEnd (take k trace) (told_kept (seen old) entries) (kept_of left)
    pub between : (j k : ℕ) (left : List ℕ) → j ≤ k → left_since (at_front k) (moment (at_front j)) left
        → IsLeftWith (length (kept (take j trace))) (take k trace) (told_kept (seen old) entries) (kept_of left)
    pub later : (k : ℕ) (left : List ℕ) → left_since new (moment (at_front k)) left
        → IsLeftWith (length (kept (take k trace))) trace (told_kept (seen old) entries) (kept_of left)
    pub first : LeavesOnly moment (KeptSince left_since) old (at_front 0) (LeftServing me (seen old) (may_leave old) entries [])

  -- A node is made of it and runs. Its links begin once, before all else; its run is one trace; the file keeps what it
  -- held and what it kept, and what a stop leaves follows the trace.
  pub record HasRun (turns : ℕ) (why : NodeEnd) (old new : D) (told now : Told) : Type 0 where
    pub start : NodeState
    pub made : IsMade defs me (seen old) start
    pub begun : LinkCalls
    pub ok : Bool
    pub begins : Begins (begin_of defs start ok) told.link begun
    pub trace : Trace
    pub after : Running
    pub runs : Run defs turns (running start) trace (Some why) after
    pub tells : Tells trace (record { link = begun; jobs = told.jobs; clock = told.clock; files = told.files }) now
    pub forced : IsRefusal why → (e : Entry) × (refusals trace ≡ (e, why) ∷ [])
    pub unforced : (IsRefusal why → ⊥) → refusals trace ≡ []
    pub keeps : KeepsFront (bodies (start.kept ++ kept trace)) (seen old) (seen new)
    pub cause : why ≡ DiskFault → Rose (faults old) (faults new)
    pub later : faults old ≤ faults new
    pub any_moment : LeavesOnly moment (KeptSince left_since) old new
        (LeftServing me (seen old) (may_leave old) start.kept trace)
    pub at_end : (left : List ℕ) → may_leave new left → IsLeftAtEnd trace (told_kept (seen old) start.kept) (kept_of left)
    pub own : StayOwn me moment seen left_since old new
    pub full : why ≡ Limit File → IfSome (seen old) (λ (file : List ℕ). IsFull start.kept trace)
    pub met : (name : LimitName) → why ≡ Limit name → IsMet after.node name
    pub written : All IsWritten (tried trace)
    pub attached : D
    pub attaches : IsAttached start.kept old new attached
    pub behind : (left : List ℕ) → left_since new (moment attached) left → IsLeft trace (told_kept (seen old) start.kept) (kept_of left)
    pub at_front : ℕ → D
    pub stands : Stands start.kept trace old attached new at_front
    pub unfailed : (why ≡ DiskFault → ⊥) → (left : List ℕ) → may_leave new left
        → IsKept (told_kept (seen old) (start.kept ++ kept trace)) (kept_of left)
    pub reads : (left : List ℕ) → may_leave new left → IfSome (seen new) (may_leave new)

  -- a service, by its end
  abbrev pub Serves : ℕ → ServiceEnd → D → D → Told → Told → Type 0
  Serves turns (Unmade fault) old new told now = IsUnmade fault old new × (now ≡ told)
  Serves turns (Ran why) old new told now = HasRun turns why old new told now

-- where no node was made, this holds
abbrev pub IsUncalled : ServiceEnd → Type 0 → Type 0
IsUncalled (Unmade fault) P = P
IsUncalled (Ran why) P = ⊤
