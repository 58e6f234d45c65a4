-- The words that ask for a service: `node NAME TURNS`, where TURNS is written in decimal and fits 32 bits, and
-- `ask NAME COMMAND`, where COMMAND has at most 4,096 bytes.
use Rattle.std.specs.Prelude.{[], if◌then◌else◌, ℕ, ◌∷◌, List, None, Option, Some, codes, length, nat_le, option_map}
use Rattle.std.specs.Str.{bytes_eq}
use Rattle.syntax.specs.Numbers.{number_of}
use Rattle.node_commands.specs.declared.forms.Service.{Service}
use Rattle.node_commands.specs.declared.forms.Service.TheVariants.{Ask, Node}

abbrev pub node_of : Option ℕ → Option Service
node_of None = None
node_of (Some turns) = Some (Node turns)

abbrev pub ask_of : ℕ → Option Service
ask_of length_ = if nat_le length_ 4096 then Some Ask else None

-- what the first and the last of three words ask for
unfoldable pub service_of : List ℕ → List ℕ → Option Service
service_of word last =
    if bytes_eq word (codes "node") then node_of (number_of 32 last) else
    if bytes_eq word (codes "ask") then ask_of (length last) else None

unfoldable pub service_in : List (List ℕ) → Option Service
service_in (word ∷ name ∷ last ∷ []) = service_of word last
service_in words = None

-- a service, the name of its workstation, and what it is given: turns, or a command
pub data Request : Type 0 where
  NodeFor : List ℕ → ℕ → Request
  AskOf : List ℕ → List ℕ → Request

abbrev pub requested : List ℕ → List ℕ → Service → Request
requested name last (Node turns) = NodeFor name turns
requested name last Ask = AskOf name last

abbrev pub name_in : Request → List ℕ
name_in (NodeFor name turns) = name
name_in (AskOf name command) = name

-- what words request
unfoldable pub request_of : List (List ℕ) → Option Request
request_of (word ∷ name ∷ last ∷ []) = option_map (requested name last) (service_of word last)
request_of words = None
