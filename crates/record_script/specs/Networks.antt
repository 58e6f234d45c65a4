-- The network of a record.
use Rattle.std.specs.Prelude.{List, [], ◌∷◌, Option, Some, None, filter_map, unwrap_or, true, false}
use Rattle.model.specs.Types.{Net, Node, Resource, PromptDef, Carry}
use Rattle.record_rows.specs.declared.rows.Row.{Row}
use Rattle.record_rows.specs.declared.rows.Row.TheVariants as row
use Rattle.record_script.specs.Numbers.{Numbered, numbered, ws_no, within}

-- the first that is picked, or another
abbrev pub first_or : {A : Type 0} → A → (Row → Option A) → List Row → A
first_or other pick [] = other
first_or other pick (r ∷ rows) = unwrap_or (pick r) (first_or other pick rows)

-- the master is a manager and has no hop
abbrev pub node_of : Numbered → Row → Option Node
node_of n (row.Master name) = Some (record { name = name; hop = None; manager = true; full = false })
node_of n (row.Station s) =
    Some (record { name = s.name; hop = Some (ws_no n s.hop); manager = s.manager; full = s.full })
node_of n r = None

abbrev pub resource_def : Numbered → Row → Option Resource
resource_def n (row.Resource w name t) = Some (record { ws = ws_no n w; name = name; total = within 0 t })
resource_def n r = None

abbrev pub prompt_def : Row → Option PromptDef
prompt_def (row.Prompt name t) = Some (record { name = name; text = within [] t })
prompt_def r = None

abbrev pub carry_in : Row → Option Carry
carry_in (row.CarryForward c) = Some c
carry_in r = None

-- The network: its workstations, resources and prompts in the order of their lines, and its carry option, which is Yes
-- where no line gives it.
unfoldable pub net_with : Numbered → List Row → Net
net_with n rows =
    record {
      nodes = filter_map (node_of n) rows;
      resources = filter_map (resource_def n) rows;
      prompts = filter_map prompt_def rows;
      carry = first_or Carry.Yes carry_in rows;
    }

abbrev pub net_of : List Row → Net
net_of rows = net_with (numbered rows) rows
