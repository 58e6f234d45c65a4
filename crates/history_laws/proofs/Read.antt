-- The lines of a network are those of a record of it.
use Rattle.std.proofs.Common.{◌≡◌, ◌<◌, ◌≤◌, ◌^◌, ℕ, List, [], ◌∷◌, ◌++◌, None, Ok, Err}
use Rattle.std.proofs.Common.{refl, ap, subst, ◌∙◌, arith, map, codes}
use Rattle.std.specs.List.{AllByRecursion}
use Rattle.std.specs.Option.{option_map_or}
use Rattle.base_types.specs.declared.network.Carry.{Carry}
use Rattle.model.specs.Types.{Net, Node}
use Rattle.network_tree.specs.Faults.{net_fault}
use Rattle.plan_listing.specs.Networks.{network_text}
use Rattle.syntax.specs.Splits.{lines_of}
use Rattle.record_rows.specs.declared.rows.Row.{Row}
use Rattle.record_rows.specs.declared.rows.Row.TheVariants as row
use Rattle.record_rows.specs.Rows.{row_of, rows_of}
use Rattle.record_faults.specs.Faults.{first_fault}
use Rattle.record_faults.specs.Known.{named_in}
use Rattle.record_faults.specs.Places.{placed_from}
use Rattle.record_faults.specs.declared.places.Place.TheVariants as place
use Rattle.record_script.specs.Scripts.{fault_of, read_of, script_of, with_definitions}
use Rattle.history_laws.specs.Printables.{IsKeptName, IsNamedPrompt, IsPrintable, as_printed}
use Rattle.history_laws.specs.NetworkReturns.{IsRecordOf}
use Rattle.history_laws.proofs.Accepted.{Accepted, Headed, IsHung, accepted, headed}
use Rattle.history_laws.proofs.Faultless.{no_fault}
use Rattle.history_laws.proofs.Lines.{line_first}
use Rattle.history_laws.proofs.Meant.{net_is, no_definitions, no_plans, stations_are, without_steps}
use Rattle.history_laws.proofs.Named.{kept_at}
use Rattle.history_laws.proofs.Printed.{carry_is, carry_text, end_is, head_is, master_is, node_text, prompt_is, prompt_text}
use Rattle.history_laws.proofs.Printed.{resource_is, resource_text, station_is, told}
use Rattle.history_laws.proofs.Sections.{all_stand, net_rows, prompt_row, resource_row, station_row}
use Rattle.history_laws.proofs.NetworkTexts.{IsNodeLine, IsReady, IsResourceLine, net_lines, ready, text_lines}
use Rattle.history_laws.proofs.Words.{plain_lacks_feed}

-- the rows of lines that are a section
section_rows : {A : Type 0} (P : A → Type 0) (g : A → List ℕ) (f : A → Row) → ((x : A) → P x → row_of (g x) ≡ f x) → (xs : List A)
    → AllByRecursion P xs → (rest : List (List ℕ)) → map row_of (map g xs ++ rest) ≡ map f xs ++ map row_of rest
section_rows P g f is [] all rest = refl
section_rows P g f is (x ∷ xs) all rest =
    ap (λ r. r ∷ map row_of (map g xs ++ rest)) (is x all.0) ∙ ap (λ l. f x ∷ l) (section_rows P g f is xs all.1 rest)

small : (n : ℕ) → n ≤ 1024 → n < 2 ^ 64
small n h = omega (arith, h)

steps_line : lines_of (codes "$STEPS\n") ≡ codes "$STEPS" ∷ []
unfolding lines_of
steps_line = line_first (codes "$STEPS") [] (plain_lacks_feed (codes "$STEPS") refl)

carry_rows : (cs : List Carry) → map row_of (map carry_text cs ++ codes "$STEPS" ∷ []) ≡ map row.CarryForward cs ++ row.Steps ∷ []
carry_rows [] = ap (λ r. r ∷ []) end_is
carry_rows (c ∷ cs) =
    ap (λ r. r ∷ map row_of (map carry_text cs ++ codes "$STEPS" ∷ [])) (carry_is c) ∙ ap (λ l. row.CarryForward c ∷ l) (carry_rows cs)

-- a workstation with a hop
record IsOther (net : Net) (x : Node) : Type 0 where
  name : IsKeptName x.name
  hung : IsHung net x

others_are : (net : Net) (xs : List Node) → AllByRecursion (IsNodeLine net) xs → AllByRecursion (IsHung net) xs
    → AllByRecursion (IsOther net) xs
others_are net [] all every = tt
others_are net (x ∷ xs) all every = (record { name = all.0.name; hung = every.0 }, others_are net xs all.1 every.1)

module _ (net : Net) (p : IsPrintable net) (a : Accepted net) (h : Headed net) (r : IsReady net) where
  other_row : (x : Node) → IsOther net x → row_of (node_text net x) ≡ station_row net x
  other_row x o = station_is net x o.hung.up o.hung.is o.name (kept_at net p.nodes o.hung.up o.hung.inside)

  resource_rows : (rest : List (List ℕ)) → map row_of (map (resource_text net) net.resources ++ rest)
      ≡ map (resource_row net) net.resources ++ map row_of rest
  resource_rows rest =
      section_rows (IsResourceLine net) (resource_text net) (resource_row net)
      (λ x g. resource_is net x g.ws g.name g.total (small x.total g.total)) net.resources r.resources rest

  prompt_rows : (rest : List (List ℕ)) → map row_of (map prompt_text net.prompts ++ rest)
      ≡ map prompt_row net.prompts ++ map row_of rest
  prompt_rows rest =
      section_rows IsNamedPrompt prompt_text prompt_row (λ x g. prompt_is x g.name g.text.room) net.prompts r.prompts rest

  node_rows : (rest : List (List ℕ)) → map row_of (map (node_text net) net.nodes ++ rest)
      ≡ row.Master h.master.name ∷ (map (station_row net) h.others ++ map row_of rest)
  node_rows rest =
      let lines : AllByRecursion (IsNodeLine net) (h.master ∷ h.others) = subst (AllByRecursion (IsNodeLine net)) h.whole r.nodes in
      ap (λ ns. map row_of (map (node_text net) ns ++ rest)) h.whole
      ∙ ap (λ x. x ∷ map row_of (map (node_text net) h.others ++ rest)) (master_is net h.master h.top lines.0.name)
      ∙ ap (λ l. row.Master h.master.name ∷ l)
      (section_rows (IsOther net) (node_text net) (station_row net) other_row h.others (others_are net h.others lines.1 h.hung) rest)

  rows_are : rows_of (network_text net ++ codes "$STEPS\n") ≡ net_rows net h.master h.others
  rows_are =
      let prompts = map prompt_text net.prompts ++ (map carry_text (told net.carry) ++ codes "$STEPS" ∷ []) in
      ap (map row_of) (text_lines net r (codes "$STEPS\n") ∙ ap (net_lines net) steps_line)
      ∙ ap (λ x. x ∷ map row_of (map (node_text net) net.nodes ++ (map (resource_text net) net.resources ++ prompts))) head_is
      ∙ ap (λ l. row.Network ∷ l)
      (node_rows (map (resource_text net) net.resources ++ prompts)
      ∙ ap (λ l. row.Master h.master.name ∷ (map (station_row net) h.others ++ l))
      (resource_rows prompts
      ∙ ap (λ l. map (resource_row net) net.resources ++ l)
      (prompt_rows (map carry_text (told net.carry) ++ codes "$STEPS" ∷ [])
      ∙ ap (λ l. map prompt_row net.prompts ++ l) (carry_rows (told net.carry)))))

  no_fault_here : fault_of (net_rows net h.master h.others) ≡ None
  unfolding with_definitions
  no_fault_here =
      let rows = net_rows net h.master h.others in
      ap (λ o. with_definitions o (first_fault (named_in rows) rows)) (no_definitions net h.master h.others)
      ∙ no_fault net a h (named_in rows) (stations_are net a h)

  script_is : script_of (net_rows net h.master h.others) ≡ record { net = as_printed net; plans = []; steps = [] }
  script_is = λ i. record {
    net = net_is net a h i;
    plans = no_plans net h.master h.others i;
    steps = without_steps net h.master h.others i;
  }

  read_by : IsRecordOf net (as_printed net)
  unfolding read_of
  read_by =
      let rows = net_rows net h.master h.others in
      ap (λ l. option_map_or Err (fault_of l) (Ok (script_of l)))
      (ap (placed_from place.Nothing) rows_are ∙ all_stand net h.master h.others)
      ∙ ap (λ o. option_map_or Err o (Ok (script_of rows))) no_fault_here
      ∙ ap Ok script_is

pub read_back : (net : Net) → IsPrintable net → net_fault net ≡ None → IsRecordOf net (as_printed net)
read_back net p none =
    let a = accepted net none in
    let h = headed net a in
    read_by net p a h (ready net p a h)
