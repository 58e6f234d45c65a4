-- The lines of a network: what differs from the defaults.
use Rattle.std.specs.Prelude.{ℕ, List, ◌++◌, codes, flat_map, is_none, if◌then◌else◌}
use Rattle.std.specs.Option.{option_map_or}
use Rattle.std.specs.Fmt.{decimal}
use Rattle.model.specs.Types.{Carry, Net, Node, PromptDef, Resource}
use Rattle.base_types.specs.declared.Carry.TheVariants.{Yes, No, All}
use Rattle.report_text.specs.Names.{name_of}
use Rattle.syntax.specs.Quotes.{quoted_text}

-- `ws NAME` for the master, and `ws NAME HOP` for another, with ` manager`, or else with ` on`
abbrev pub hop_gap : Node → List ℕ
hop_gap n = option_map_or (λ hop. codes " ") n.hop (codes "")

abbrev pub hop_name : Net → Node → List ℕ
hop_name net n = option_map_or (name_of net) n.hop (codes "")

abbrev pub mark : Node → List ℕ
mark n =
    if is_none n.hop then codes "" else
    if n.manager then codes " manager" else
    if n.full then codes " on" else codes ""

unfoldable pub node_line : Net → Node → List ℕ
node_line net n = codes "ws " ++ n.name ++ hop_gap n ++ hop_name net n ++ mark n ++ codes "\n"

-- `res WS NAME TOTAL`
unfoldable pub resource_line : Net → Resource → List ℕ
resource_line net r =
    codes "res " ++ name_of net r.ws ++ codes " " ++ r.name ++ codes " " ++ decimal r.total ++ codes "\n"

-- `prompt NAME "TEXT"`
unfoldable pub prompt_line : PromptDef → List ℕ
prompt_line p = codes "prompt " ++ p.name ++ codes " " ++ quoted_text p.text ++ codes "\n"

-- `carryforward no` or `carryforward all`
abbrev pub carry_line : Carry → List ℕ
carry_line Yes = codes ""
carry_line No = codes "carryforward no\n"
carry_line All = codes "carryforward all\n"

unfoldable pub network_text : Net → List ℕ
network_text net =
    codes "$NETWORK\n"
    ++ flat_map (node_line net) net.nodes
    ++ flat_map (resource_line net) net.resources
    ++ flat_map prompt_line net.prompts
    ++ carry_line net.carry
