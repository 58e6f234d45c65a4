-- What a network has that was read, and what its lines say of it.
use Rattle.std.specs.Prelude.{◌≡◌, ◌≤◌, ◌==◌, ◌&&◌, ℕ, Bool, true, false, not, List, Some, length, map}
use Rattle.std.specs.List.{AllByRecursion, list_all}
use Rattle.std.specs.Str.{is_utf8}
use Rattle.model.specs.Types.{Net, Node, PromptDef, Resource}
use Rattle.syntax.specs.Names.{name_of}

-- a name of the language, as names are kept
abbrev pub IsKeptName : List ℕ → Type 0
IsKeptName n = name_of n ≡ Some n

abbrev pub is_no_feed : ℕ → Bool
is_no_feed b = not (b == 10)

-- a text of a prompt: it stands on one line
pub record IsLineText (t : List ℕ) : Type 0 where
  pub utf8 : is_utf8 t ≡ true
  pub room : length t ≤ 4096
  pub line : list_all is_no_feed t ≡ true

abbrev pub IsNamedNode : Node → Type 0
IsNamedNode n = IsKeptName n.name

abbrev pub IsNamedResource : Resource → Type 0
IsNamedResource r = IsKeptName r.name

pub record IsNamedPrompt (p : PromptDef) : Type 0 where
  pub name : IsKeptName p.name
  pub text : IsLineText p.text

-- What every network has that a record or definitions give. That names are different, hops good, and numbers within
-- their ranges is said by `net_fault`.
pub record IsPrintable (net : Net) : Type 0 where
  pub nodes : AllByRecursion IsNamedNode net.nodes
  pub resources : AllByRecursion IsNamedResource net.resources
  pub prompts : AllByRecursion IsNamedPrompt net.prompts

-- Of a manager no printed line says that FULLSTATUS is ON, though a record may (`ws Q M manager on`), and definitions may,
-- also of the master, of which no line of a record can. So that is all that is lost.
abbrev pub node_as_printed : Node → Node
node_as_printed n = record { name = n.name; hop = n.hop; manager = n.manager; full = n.full && not n.manager }

-- the network that the lines of a network say
abbrev pub as_printed : Net → Net
as_printed net =
    record { nodes = map node_as_printed net.nodes; resources = net.resources; prompts = net.prompts; carry = net.carry }

-- no manager has FULLSTATUS ON, so nothing is lost
abbrev pub IsToldWhole : Net → Type 0
IsToldWhole net = AllByRecursion (λ (n : Node). (n.full && n.manager) ≡ false) net.nodes
