-- The services of a network's nodes: each as the clauses of a service tell it, from a disk that the one before it may have
-- left, and cut at any moment.
use Rattle.std.specs.Prelude.{[], suc, ℕ, ◌++◌, ◌<◌, ◌∷◌, ◌≡◌, ◌≤◌, ◌⊎◌, IfSome, List, None, Option, Some, length, take}
use Rattle.composer_parser.specs.declared.Defs.{Defs}
use Rattle.model.specs.Types.{Entry}
use Rattle.model.specs.Network.{node_count}
use Rattle.mail_frames.specs.declared.frames.Frame.{Frame}
use Rattle.workload_defs.specs.Nets.{net_of}
use Rattle.node_inputs.specs.Tellings.{Told}
use Rattle.node_inputs.specs.Traces.{Trace}
use Rattle.node_inputs.specs.declared.ends.NodeEnd.{NodeEnd}
use Rattle.node_service.specs.Serving.{HasRun, Serves}
use Rattle.node_service.specs.declared.services.ServiceEnd.{ServiceEnd}
use Rattle.node_service.specs.declared.services.ServiceEnd.TheVariants.{Ran, Unmade}
use Rattle.network_runs.specs.Happenings.{Night, heard_from, since, until_stop}
use Rattle.network_runs.specs.Nights.{IsForNodes, IsSent, StandsIn}
use Rattle.service_nights.specs.Services.{Acts, Fails, Leaves, Occurrence, Opens, Services, disk_left, disk_next, plain}

module _ {D : Type 0} (seen : D → Option (List ℕ)) (may_leave : D → List ℕ → Type 0) where
  -- the disk tells its bytes, and the file that is read, and each that a stop may leave of it, is such a one
  pub record HasOnly (P : List ℕ → Type 0) (disk : D) : Type 0 where
    pub file : List ℕ
    pub reads : seen disk ≡ Some file
    pub its : P file
    pub rest : (left : List ℕ) → may_leave disk left → P left

  -- a service begins with the disk that the workstation was left with last, and the first with an empty one
  abbrev pub IsItsDisk : Option D → D → Type 0
  IsItsDisk None disk = HasOnly (λ (file : List ℕ). file ≡ []) disk
  IsItsDisk (Some last) disk = disk ≡ last

-- what a disk shows, and the definitions
module _ {D : Type 0} (seen : D → Option (List ℕ)) (faults moment : D → ℕ) (may_leave : D → List ℕ → Type 0)
    (left_since : D → ℕ → List ℕ → Type 0) (defs : Defs) where
  -- what a stop leaves before a node of the service acts: at any moment where none is made, and else at any up to the front
  -- of its run that has no event
  abbrev pub LeftUnmade : (me turns : ℕ) (end : ServiceEnd) (old new : D) (told now : Told)
      → Serves seen faults moment may_leave left_since defs me turns end old new told now → List ℕ → Type 0
  LeftUnmade me turns (Unmade fault) old new told now serves file = left_since new (moment old) file
  LeftUnmade me turns (Ran why) old new told now run file = left_since (run.at_front 0) (moment old) file

  -- a service of the disk, whatever its end, that ended or was stopped before a node of it acted
  pub record HasFailed (me : ℕ) (old left : D) : Type 0 where
    pub turns : ℕ
    pub end : ServiceEnd
    pub new : D
    pub told : Told
    pub now : Told
    pub serves : Serves seen faults moment may_leave left_since defs me turns end old new told now
    pub leaves : HasOnly seen may_leave (LeftUnmade me turns end old new told now serves) left

  -- What is left of a run behind so many of its events: what a stop leaves from the moment of this front up to that of the
  -- next, or, behind the last event, up to the end of the service.
  abbrev pub LeftBehind : {me turns : ℕ} {why : NodeEnd} {old new : D} {told now : Told}
      → HasRun seen faults moment may_leave left_since defs me turns why old new told now → ℕ → List ℕ → Type 0
  LeftBehind {new = new} run count file =
      left_since (run.at_front (suc count)) (moment (run.at_front count)) file
      ⊎ ((length run.trace ≤ count) × left_since new (moment (run.at_front count)) file)

  -- a service of a disk that tells its bytes, whose node holds these entries; so much of its trace came to pass, and then
  -- it goes on, or leaves this disk
  pub record HasServed (me : ℕ) (old : D) (entries : List Entry) (trace : Trace) (left : Option D) : Type 0 where
    pub turns : ℕ
    pub why : NodeEnd
    pub new : D
    pub told : Told
    pub now : Told
    pub run : HasRun seen faults moment may_leave left_since defs me turns why old new told now
    pub file : List ℕ
    pub reads : seen old ≡ Some file
    pub holds : run.start.kept ≡ entries
    pub count : ℕ
    pub front : trace ≡ take count run.trace
    pub leaves : IfSome left (HasOnly seen may_leave (LeftBehind run count))

  -- an occurrence is as it may be behind what was before: a workstation of the network is served over its own disk, by one
  -- service at once, and does what a service does up to its end
  abbrev pub IsInPlace : Services D → Occurrence D → Services D → Type 0
  IsInPlace before (Fails w disk left) behind =
      (since w (plain before) ≡ None) × IsItsDisk seen may_leave (disk_left w before) disk × HasFailed w disk left
  IsInPlace before (Opens w disk entries) behind =
      (w < node_count (net_of defs)) × (since w (plain before) ≡ None) × IsItsDisk seen may_leave (disk_left w before) disk
      × HasServed w disk entries (until_stop w (plain behind)) (disk_next w behind)
  IsInPlace before (Acts w event) behind = (past : Trace) × (since w (plain before) ≡ Some past)
  IsInPlace before (Leaves w disk) behind = (past : Trace) × (since w (plain before) ≡ Some past)

  -- the services of the nodes of a network, in the order in which all of it came to pass
  pub record AreServices (services : Services D) : Type 0 where
    pub each : (before behind : Services D) (one : Occurrence D) → services ≡ before ++ one ∷ behind
        → IsInPlace before one behind

-- the premise on links: each frame for nodes that came whole from x since the link began is one that x sent before
abbrev pub BringsWhatWasSent : Night → Type 0
BringsWhatWasSent night =
    (before behind : Night) (w x : ℕ) (past : Trace) (f : Frame) → night ≡ before ++ behind → since w before ≡ Some past
    → StandsIn (heard_from x past) f → IsForNodes f → IsSent before x w f
