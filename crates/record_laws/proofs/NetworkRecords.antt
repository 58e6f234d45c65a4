-- The network of a record without definitions.
use Rattle.std.proofs.Common.{ℕ, List, [], ◌∷◌, Option, Some, None, IfOk, IsUtf8}
use Rattle.std.specs.Prelude.{Result, Ok, Err, filter_map}
use Rattle.std.specs.List.{AllByRecursion}
use Rattle.std.specs.Option.{option_map_or}
use Rattle.record_rows.specs.Rows.{rows_of}
use Rattle.record_rows.specs.declared.rows.Row.{Row}
use Rattle.record_rows.specs.declared.rows.Row.TheVariants as row
use Rattle.record_faults.specs.Places.{below_row, fate_of, placed_from, row_at, settled}
use Rattle.record_faults.specs.declared.kinds.ScriptKind.{ScriptKind}
use Rattle.record_faults.specs.declared.places.Fate.{Fate}
use Rattle.record_faults.specs.declared.places.Fate.TheVariants as fate
use Rattle.record_faults.specs.declared.places.Place.{Place}
use Rattle.record_faults.specs.declared.places.Place.TheVariants as place
use Rattle.record_script.specs.Networks.{net_with, node_of, prompt_def, resource_def}
use Rattle.record_script.specs.Numbers.{Numbered, numbered}
use Rattle.record_script.specs.Scripts.{fault_of, placed, read_of, script_of}
use Rattle.record_script.specs.declared.scripts.Script.{Script}
use Rattle.history_laws.specs.Printables.{IsNamedNode, IsNamedPrompt, IsNamedResource, IsPrintable}
use Rattle.record_laws.proofs.NetworkRows.{IsKept, rows_kept}

-- as they stand
settled_kept : (f : Fate) (r : Row) → IsKept r → IsKept (settled f r)
settled_kept fate.Stands r h = h
settled_kept fate.Skipped r h = tt
settled_kept fate.NoForm r h = tt

placed_kept : (above : Place) (rows : List Row) → AllByRecursion IsKept rows
    → AllByRecursion IsKept (placed_from above rows)
unfolding placed_from
placed_kept above [] all = tt
placed_kept above (r ∷ rows) all =
    (settled_kept (fate_of above r) r all.0, placed_kept (below_row above (row_at above r)) rows all.1)

-- what rows define
nodes_named : (n : Numbered) (rows : List Row) → AllByRecursion IsKept rows
    → AllByRecursion IsNamedNode (filter_map (node_of n) rows)
nodes_named n [] all = tt
nodes_named n (row.Master m ∷ rows) all = (all.0, nodes_named n rows all.1)
nodes_named n (row.Station s ∷ rows) all = (all.0, nodes_named n rows all.1)
nodes_named n (r ∷ rows) all = nodes_named n rows all.1

resources_named : (n : Numbered) (rows : List Row) → AllByRecursion IsKept rows
    → AllByRecursion IsNamedResource (filter_map (resource_def n) rows)
resources_named n [] all = tt
resources_named n (row.Resource w m t ∷ rows) all = (all.0, resources_named n rows all.1)
resources_named n (r ∷ rows) all = resources_named n rows all.1

prompts_named : (rows : List Row) → AllByRecursion IsKept rows
    → AllByRecursion IsNamedPrompt (filter_map prompt_def rows)
prompts_named [] all = tt
prompts_named (row.Prompt m t ∷ rows) all =
    (record { name = all.0.0; text = all.0.1 }, prompts_named rows all.1)
prompts_named (r ∷ rows) all = prompts_named rows all.1

net_printable : (n : Numbered) (rows : List Row) → AllByRecursion IsKept rows → IsPrintable (net_with n rows)
unfolding net_with
net_printable n rows all =
    record { nodes = nodes_named n rows all; resources = resources_named n rows all; prompts = prompts_named rows all }

abbrev Prints : Result Script (ℕ × ScriptKind) → Type 0
Prints x = IfOk x (λ (s : Script). IsPrintable s.net)

pub script_printable : (text : List ℕ) → IsUtf8 text → Prints (read_of text)
unfolding read_of
script_printable text u = go (fault_of (placed text))
  where
    go : (o : Option (ℕ × ScriptKind)) → Prints (option_map_or (λ (f : ℕ × ScriptKind). Err f) o (Ok (script_of (placed text))))
    go None = net_printable (numbered (placed text)) (placed text) (placed_kept place.Nothing (rows_of text) (rows_kept text u))
    go (Some f) = tt
