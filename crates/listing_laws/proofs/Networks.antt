-- The front of a listing is its network, in lines, in rows and in what it means.
use Rattle.std.proofs.Common.{◌≡◌, List, [], ◌∷◌, ◌++◌, Option, None}
use Rattle.std.proofs.Common.{refl, ap, sym, subst, ◌∙◌, arith, flat_map, map, append-nil, append_assoc, codes, unwrap_or}
use Rattle.std.specs.Prelude.{filter_map}
use Rattle.std.specs.List.{AllByRecursion}
use Rattle.std.proofs.lemmas.List.Elements.{filter_map-append}
use Rattle.base_types.specs.declared.network.Carry.{Carry}
use Rattle.base_types.specs.declared.network.Carry.TheVariants as carry
use Rattle.history_laws.specs.Printables.{IsNamedPrompt, IsPrintable, as_printed}
use Rattle.history_laws.proofs.Accepted.{Accepted, Headed, IsHung}
use Rattle.history_laws.proofs.Faultless.{no_fault}
use Rattle.history_laws.proofs.Lines.{left_five}
use Rattle.history_laws.proofs.Meant.{names_are, net_is, stations_are}
use Rattle.history_laws.proofs.Named.{kept_at, key_of, label, title}
use Rattle.history_laws.proofs.NetworkTexts.{IsNodeLine, IsResourceLine, ready}
use Rattle.history_laws.proofs.Printed.{carry_is, head_is, master_is, node_lacks_feed, node_line_is, node_text, prompt_is}
use Rattle.history_laws.proofs.Printed.{prompt_lacks_feed, prompt_line_is, prompt_text, resource_is, resource_lacks_feed, resource_line_is}
use Rattle.history_laws.proofs.Printed.{resource_text, station_is, told}
use Rattle.history_laws.proofs.Sections.{each_picked, net_rows, none_picked, prompt_row, resource_row, station_row}
use Rattle.history_laws.proofs.Words.{plain_lacks_feed}
use Rattle.model.specs.Types.{Net, Node, PromptDef, Resource}
use Rattle.plan_listing.specs.Networks.{carry_line, network_text, node_line, prompt_line, resource_line}
use Rattle.record_faults.specs.Faults.{fault_from, first_fault}
use Rattle.record_faults.specs.Known.{Named, prompt_of, resource_of, station_name, station_of}
use Rattle.record_rows.specs.Rows.{row_of}
use Rattle.record_rows.specs.declared.rows.Row.{Row}
use Rattle.record_rows.specs.declared.rows.Row.TheVariants as row
use Rattle.record_script.specs.Networks.{carry_in, first_or, net_of, net_with, node_of, prompt_def, resource_def}
use Rattle.record_script.specs.Numbers.{Numbered, numbered}
use Rattle.listing_laws.proofs.KnownNames.{title_of}
use Rattle.listing_laws.proofs.Picks.{All, all_map, listed}
use Rattle.listing_laws.proofs.RowKinds.{front_are}
use Rattle.listing_laws.proofs.Placed.{front_rows}
use Rattle.listing_laws.proofs.Spelled.{Spells, spells_as, spells_both, spells_line, spells_map, spells_none}
use Rattle.listing_laws.proofs.Walks.{Clear, front_clear, is_quiet}
use Rattle.listing_laws.proofs.Words.{wide}

-- The lines.

carry_spelled : (c : Carry) → Spells (carry_line c) (map row.CarryForward (told c))
carry_spelled carry.Yes = spells_none
carry_spelled carry.No =
    spells_line (codes "carryforward no") (row.CarryForward carry.No) (plain_lacks_feed (codes "carryforward no") refl)
    (carry_is carry.No)
carry_spelled carry.All =
    spells_line (codes "carryforward all") (row.CarryForward carry.All) (plain_lacks_feed (codes "carryforward all") refl)
    (carry_is carry.All)

-- the network before its end
quiet_front : (net : Net) (m : Node) (others : List Node) → All is_quiet (front_rows net m others)
quiet_front net m others =
    front_are is_quiet refl (λ n. refl) net m others (all_map is_quiet (station_row net) (λ x. refl) others)
    (all_map is_quiet (resource_row net) (λ x. refl) net.resources) (all_map is_quiet prompt_row (λ x. refl) net.prompts)
    (all_map is_quiet row.CarryForward (λ x. refl) (told net.carry))

front_ends : (net : Net) (m : Node) (others : List Node) → front_rows net m others ++ row.Steps ∷ [] ≡ net_rows net m others
front_ends net m others =
    ap (λ l. row.Network ∷ row.Master m.name ∷ l)
    (gathered (map (station_row net) others) (map (resource_row net) net.resources) (map prompt_row net.prompts)
    (map row.CarryForward (told net.carry)))
  where
    gathered : (s r p c : List Row) → (s ++ (r ++ (p ++ c))) ++ row.Steps ∷ [] ≡ s ++ (r ++ (p ++ (c ++ row.Steps ∷ [])))
    gathered s r p c = simp append_assoc

-- a workstation with a hop
record IsOther (net : Net) (x : Node) : Type 0 where
  line : IsNodeLine net x
  hung : IsHung net x

others_are : (net : Net) (xs : List Node) → AllByRecursion (IsNodeLine net) xs → AllByRecursion (IsHung net) xs
    → AllByRecursion (IsOther net) xs
others_are net [] all every = tt
others_are net (x ∷ xs) all every = (record { line = all.0; hung = every.0 }, others_are net xs all.1 every.1)

node_spelled : (net : Net) (x : Node) (r : Row) → IsNodeLine net x → row_of (node_text net x) ≡ r → Spells (node_line net x) (r ∷ [])
node_spelled net x r line is =
    spells_as (node_line net x) (node_text net x ++ 10 ∷ []) (r ∷ []) (node_line_is net x)
    (spells_line (node_text net x) r (node_lacks_feed net x line.name line.hop) is)

resource_spelled : (net : Net) (x : Resource) → IsResourceLine net x → Spells (resource_line net x) (resource_row net x ∷ [])
resource_spelled net x g =
    let low = wide x.total 1024 g.total (omega arith) in
    spells_as (resource_line net x) (resource_text net x ++ 10 ∷ []) (resource_row net x ∷ []) (resource_line_is net x)
    (spells_line (resource_text net x) (resource_row net x) (resource_lacks_feed net x g.ws g.name low)
    (resource_is net x g.ws g.name g.total low))

prompt_spelled : (x : PromptDef) → IsNamedPrompt x → Spells (prompt_line x) (prompt_row x ∷ [])
prompt_spelled x g =
    spells_as (prompt_line x) (prompt_text x ++ 10 ∷ []) (prompt_row x ∷ []) (prompt_line_is x)
    (spells_line (prompt_text x) (prompt_row x) (prompt_lacks_feed x g.name g.text) (prompt_is x g.name g.text.room))

-- rows of which nothing is picked
pub record IsSilent (tail : List Row) : Type 0 where
  pub names : filter_map station_name tail ≡ []
  pub stations : filter_map station_of tail ≡ []
  pub resources : filter_map resource_of tail ≡ []
  pub prompts : filter_map prompt_of tail ≡ []
  pub nodes : (n : Numbered) → filter_map (node_of n) tail ≡ []
  pub defined : (n : Numbered) → filter_map (resource_def n) tail ≡ []
  pub texts : filter_map prompt_def tail ≡ []
  pub carry_ : first_or carry.Yes carry_in tail ≡ carry.Yes

module _ (net : Net) (p : IsPrintable net) (a : Accepted net) (h : Headed net) where
  other_spelled : (x : Node) → IsOther net x → Spells (node_line net x) (station_row net x ∷ [])
  other_spelled x o =
      node_spelled net x (station_row net x) o.line
      (station_is net x o.hung.up o.hung.is o.line.name (kept_at net p.nodes o.hung.up o.hung.inside))

  pub front_spelled : Spells (network_text net) (front_rows net h.master h.others)
  unfolding network_text
  front_spelled =
      let r = ready net p a h in
      let lines : AllByRecursion (IsNodeLine net) (h.master ∷ h.others) = subst (AllByRecursion (IsNodeLine net)) h.whole r.nodes in
      let nodes : Spells (flat_map (node_line net) net.nodes) (row.Master h.master.name ∷ map (station_row net) h.others) =
      subst (λ ns. Spells (flat_map (node_line net) ns) (row.Master h.master.name ∷ map (station_row net) h.others)) (sym h.whole)
      (spells_both (node_line net h.master) (flat_map (node_line net) h.others) (row.Master h.master.name ∷ [])
      (map (station_row net) h.others)
      (node_spelled net h.master (row.Master h.master.name) lines.0 (master_is net h.master h.top lines.0.name))
      (spells_map (IsOther net) (node_line net) (station_row net) other_spelled h.others
      (others_are net h.others lines.1 h.hung))) in
      let resources =
      spells_map (IsResourceLine net) (resource_line net) (resource_row net) (resource_spelled net) net.resources r.resources in
      let prompts = spells_map IsNamedPrompt prompt_line prompt_row prompt_spelled net.prompts r.prompts in
      let head : Spells (codes "$NETWORK\n") (row.Network ∷ []) =
      spells_line (codes "$NETWORK") row.Network (plain_lacks_feed (codes "$NETWORK") refl) head_is in
      let told_rows : List Row = map prompt_row net.prompts ++ map row.CarryForward (told net.carry) in
      let item_rows : List Row = map (resource_row net) net.resources ++ told_rows in
      let node_rows : List Row = row.Master h.master.name ∷ map (station_row net) h.others in
      spells_as (network_text net)
      (codes "$NETWORK\n" ++ (flat_map (node_line net) net.nodes
      ++ (flat_map (resource_line net) net.resources ++ (flat_map prompt_line net.prompts ++ carry_line net.carry))))
      (front_rows net h.master h.others)
      (left_five (codes "$NETWORK\n") (flat_map (node_line net) net.nodes) (flat_map (resource_line net) net.resources)
      (flat_map prompt_line net.prompts) (carry_line net.carry))
      (spells_both (codes "$NETWORK\n")
      (flat_map (node_line net) net.nodes
      ++ (flat_map (resource_line net) net.resources ++ (flat_map prompt_line net.prompts ++ carry_line net.carry)))
      (row.Network ∷ []) (node_rows ++ item_rows) head
      (spells_both (flat_map (node_line net) net.nodes)
      (flat_map (resource_line net) net.resources ++ (flat_map prompt_line net.prompts ++ carry_line net.carry)) node_rows item_rows
      nodes
      (spells_both (flat_map (resource_line net) net.resources) (flat_map prompt_line net.prompts ++ carry_line net.carry)
      (map (resource_row net) net.resources) told_rows resources
      (spells_both (flat_map prompt_line net.prompts) (carry_line net.carry) (map prompt_row net.prompts)
      (map row.CarryForward (told net.carry)) prompts (carry_spelled net.carry)))))

  -- No row of it has a fault.
  pub network_clear : (n : Named) → n.stations ≡ map (title net) net.nodes → Clear n [] (front_rows net h.master h.others)
  unfolding first_fault
  network_clear n known_all =
      front_clear n [] (front_rows net h.master h.others) (row.Steps ∷ [])
      (listed is_quiet (front_rows net h.master h.others) (quiet_front net h.master h.others))
      (ap (fault_from n []) (front_ends net h.master h.others) ∙ no_fault net a h n known_all)

  -- What it means, with rows behind it that say nothing of a network.

  picked_front : {B : Type 0} (f : Row → Option B) (tail : List Row) → f row.Steps ≡ None → filter_map f tail ≡ []
      → filter_map f (front_rows net h.master h.others ++ tail) ≡ filter_map f (net_rows net h.master h.others)
  picked_front f tail steps none =
      let front = front_rows net h.master h.others in
      let no_steps : filter_map f (row.Steps ∷ []) ≡ [] = rw steps refl in
      filter_map-append f front tail ∙ ap (λ l. filter_map f front ++ l) (none ∙ sym no_steps)
      ∙ sym (filter_map-append f front (row.Steps ∷ [])) ∙ ap (filter_map f) (front_ends net h.master h.others)

  resource_keys : filter_map resource_of (net_rows net h.master h.others) ≡ map (key_of net) net.resources
  resource_keys =
      none_picked resource_of (station_row net) (λ x. refl) h.others _
      ∙ each_picked resource_of (resource_row net) (key_of net) (λ x. refl) net.resources _
      ∙ ap (λ l. map (key_of net) net.resources ++ l)
      (none_picked resource_of prompt_row (λ x. refl) net.prompts _
      ∙ none_picked resource_of row.CarryForward (λ x. refl) (told net.carry) (row.Steps ∷ []))
      ∙ append-nil (map (key_of net) net.resources)

  prompt_names : filter_map prompt_of (net_rows net h.master h.others) ≡ map title_of net.prompts
  prompt_names =
      none_picked prompt_of (station_row net) (λ x. refl) h.others _
      ∙ none_picked prompt_of (resource_row net) (λ x. refl) net.resources _
      ∙ each_picked prompt_of prompt_row title_of (λ x. refl) net.prompts _
      ∙ ap (λ l. map title_of net.prompts ++ l)
      (none_picked prompt_of row.CarryForward (λ x. refl) (told net.carry) (row.Steps ∷ []))
      ∙ append-nil (map title_of net.prompts)

  first_front : {B : Type 0} (other : B) (f : Row → Option B) (front tail more : List Row) → first_or other f tail ≡ other
      → first_or other f more ≡ other → first_or other f (front ++ tail) ≡ first_or other f (front ++ more)
  first_front other f [] tail more none also = none ∙ sym also
  first_front other f (x ∷ front) tail more none also =
      ap (λ l. unwrap_or (f x) l) (first_front other f front tail more none also)

  module _ (tail : List Row) (quiet : IsSilent tail) where
    abbrev rows : List Row
    rows = front_rows net h.master h.others ++ tail

    abbrev net_alone : List Row
    net_alone = net_rows net h.master h.others

    pub stations_here : filter_map station_of rows ≡ map (title net) net.nodes
    stations_here = picked_front station_of tail refl quiet.stations ∙ stations_are net a h

    pub names_here : filter_map station_name rows ≡ map label net.nodes
    names_here = picked_front station_name tail refl quiet.names ∙ names_are net a h

    pub keys_here : filter_map resource_of rows ≡ map (key_of net) net.resources
    keys_here = picked_front resource_of tail refl quiet.resources ∙ resource_keys

    pub prompts_here : filter_map prompt_of rows ≡ map title_of net.prompts
    prompts_here = picked_front prompt_of tail refl quiet.prompts ∙ prompt_names

    numbers_same : numbered rows ≡ numbered net_alone
    numbers_same = λ i. record {
      stations = picked_front station_name tail refl quiet.names i;
      resources = picked_front resource_of tail refl quiet.resources i;
      prompts = picked_front prompt_of tail refl quiet.prompts i;
    }

    carry_same : first_or carry.Yes carry_in rows ≡ first_or carry.Yes carry_in net_alone
    carry_same =
        first_front carry.Yes carry_in (front_rows net h.master h.others) tail (row.Steps ∷ []) quiet.carry_ refl
        ∙ ap (first_or carry.Yes carry_in) (front_ends net h.master h.others)

    pub net_here : net_of rows ≡ as_printed net
    unfolding net_with
    net_here =
        ap (λ (n : Numbered). net_with n rows) numbers_same
        ∙ (λ i. record {
          nodes = picked_front (node_of (numbered net_alone)) tail refl (quiet.nodes (numbered net_alone)) i;
          resources = picked_front (resource_def (numbered net_alone)) tail refl (quiet.defined (numbered net_alone)) i;
          prompts = picked_front prompt_def tail refl quiet.texts i;
          carry = carry_same i;
        })
        ∙ net_is net a h
