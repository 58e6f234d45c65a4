-- Why a node is not restored, and what it is where it is.
use Rattle.std.specs.Prelude.{◌≡◌, [], ℕ, List, None, Option, Some, option_map}
use Rattle.model.specs.Types.{Entry, Net}
use Rattle.model.specs.Restore as model
use Rattle.mailman_core.specs.Mails.{unlinked}
use Rattle.agent_core.specs.Nodes.{NodeState}
use Rattle.agent_core.specs.declared.restores.RestoreFault.{RestoreFault}
use Rattle.agent_core.specs.declared.restores.RestoreFault.TheVariants.{NoMemory, NotInNetwork, NotNext}

-- the fault that an answer tells, but for want of memory
abbrev pub restore_fault_of : RestoreFault → Option model.RestoreFault
restore_fault_of NotInNetwork = Some model.RestoreFault.NotInNetwork
restore_fault_of (NotNext i) = Some (model.RestoreFault.NotNext i)
restore_fault_of NoMemory = None

-- the fault is the due one, or memory ran out
abbrev pub IsRestoreDue : Net → ℕ → List Entry → Option model.RestoreFault → Type 0
IsRestoreDue net me kept None = Unit {0}
IsRestoreDue net me kept (Some f) = model.restore_fault net me kept ≡ Some f

-- it is that of the first entry that is wrong, or memory ran out
abbrev pub IsEntryDue : Option ℕ → Option model.RestoreFault → Type 0
IsEntryDue wrong None = Unit {0}
IsEntryDue wrong (Some f) = option_map model.RestoreFault.NotNext wrong ≡ Some f

-- a node that holds these entries, with nothing live, linked or acknowledged
pub record IsNew (net : Net) (me : ℕ) (kept : List Entry) (node : NodeState) : Type 0 where
  pub net_ : node.net ≡ net
  pub me_ : node.me ≡ me
  pub kept_ : node.kept ≡ kept
  pub mail_ : node.mail ≡ unlinked
  pub live_ : node.live ≡ []
