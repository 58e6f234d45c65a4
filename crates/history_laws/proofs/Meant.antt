-- What the rows of an accepted network mean: that network, as it is printed, and nothing else.
use Rattle.std.proofs.Common.{◌≡◌, ◌<◌, ◌+◌, ℕ, suc, Bool, true, false, ◌&&◌, not, cond, List, [], ◌∷◌, ◌++◌}
use Rattle.std.proofs.Common.{Option, Some, None, length, refl, ap, sym, ◌∙◌, arith, map, append-nil, codes, option_map, unwrap_or}
use Rattle.std.specs.Prelude.{filter_map, nat_lt}
use Rattle.std.specs.List.{AllByRecursion, list_all, position_or_len}
use Rattle.std.specs.Option.{option_map_or}
use Rattle.std.proofs.lemmas.Bool.Decides.{nat_tests}
use Rattle.lemmas.proofs.Booleans.{and_false}
use Rattle.base_types.specs.declared.network.Carry.{Carry}
use Rattle.base_types.specs.declared.network.Carry.TheVariants as carry
use Rattle.model.specs.Types.{Net, Node, PromptDef, Resource}
use Rattle.plan_listing.specs.Networks.{hop_name}
use Rattle.report_text.specs.Names.{name_of}
use Rattle.record_rows.specs.declared.rows.Row.{Row}
use Rattle.record_rows.specs.declared.rows.Row.TheVariants as row
use Rattle.record_faults.specs.Known.{Station, station_name, station_of, stations}
use Rattle.record_script.specs.Numbers.{Numbered, numbered, place_of}
use Rattle.record_script.specs.Networks.{carry_in, first_or, net_of, net_with, node_of, prompt_def, resource_def}
use Rattle.record_script.specs.Plans.{each, plans_of, section_in}
use Rattle.record_script.specs.Scripts.{definitions_line, is_definitions}
use Rattle.record_script.specs.Steps.{steps_from, steps_of}
use Rattle.history_laws.specs.Printables.{as_printed, node_as_printed}
use Rattle.history_laws.proofs.Accepted.{Accepted, Headed, IsGood, IsHung, good_each}
use Rattle.history_laws.proofs.Named.{label, number, title}
use Rattle.history_laws.proofs.Printed.{told}
use Rattle.history_laws.proofs.Sections.{all_pass, below_others, below_resources, each_picked, net_rows, none_picked, prompt_row, resource_row, station_row}

-- What is picked of the rows.

-- nothing of those below the other workstations
nothing_below : {B : Type 0} (f : Row → Option B) (net : Net) → ((r : Resource) → f (resource_row net r) ≡ None)
    → ((p : PromptDef) → f (prompt_row p) ≡ None) → ((c : Carry) → f (row.CarryForward c) ≡ None) → f row.Steps ≡ None
    → filter_map f (below_others net) ≡ []
nothing_below f net resources prompts carries steps =
    none_picked f (resource_row net) resources net.resources (below_resources net)
    ∙ none_picked f prompt_row prompts net.prompts (map row.CarryForward (told net.carry) ++ row.Steps ∷ [])
    ∙ none_picked f row.CarryForward carries (told net.carry) (row.Steps ∷ []) ∙ rw steps refl

-- nothing but something of each workstation behind the master
only_others : {B : Type 0} (f : Row → Option B) (k : Node → B) (net : Net) (others : List Node)
    → ((x : Node) → f (station_row net x) ≡ Some (k x)) → filter_map f (below_others net) ≡ []
    → filter_map f (map (station_row net) others ++ below_others net) ≡ map k others
only_others f k net others some none =
    each_picked f (station_row net) k some others (below_others net) ∙ ap (λ l. map k others ++ l) none ∙ append-nil (map k others)

-- other elements that are the same
same_map : {A B : Type 0} (P : A → Type 0) (f g : A → B) → ((x : A) → P x → f x ≡ g x) → (xs : List A) → AllByRecursion P xs
    → map f xs ≡ map g xs
same_map P f g same [] all = refl
same_map P f g same (x ∷ xs) all = ap (λ y. y ∷ map f xs) (same x all.0) ∙ ap (λ l. g x ∷ l) (same_map P f g same xs all.1)

map_itself : {A : Type 0} (xs : List A) → map (λ x. x) xs ≡ xs
map_itself [] = refl
map_itself (x ∷ xs) = ap (λ l. x ∷ l) (map_itself xs)

-- its carry option
first_past : {A B : Type 0} (other : B) (pick : Row → Option B) (g : A → Row) → ((x : A) → pick (g x) ≡ None) → (xs : List A)
    (rest : List Row) → first_or other pick (map g xs ++ rest) ≡ first_or other pick rest
first_past other pick g none [] rest = refl
first_past other pick g none (x ∷ xs) rest =
    ap (λ o. unwrap_or o (first_or other pick (map g xs ++ rest))) (none x) ∙ first_past other pick g none xs rest

carry_told : (c : Carry) → first_or carry.Yes carry_in (map row.CarryForward (told c) ++ row.Steps ∷ []) ≡ c
carry_told carry.Yes = refl
carry_told carry.No = refl
carry_told carry.All = refl

-- a node with another hop, and a resource with another workstation
abbrev hop_at : Node → Option ℕ → Node
hop_at x o = record { name = x.name; hop = o; manager = x.manager; full = x.full && not x.manager }

abbrev ws_at : Resource → ℕ → Resource
ws_at r w = record { ws = w; name = r.name; total = r.total }

abbrev station_at : Node → Option (List ℕ) → Station
station_at x o = record { name = x.name; hop = o; manager = x.manager }

module _ (net : Net) (a : Accepted net) (h : Headed net) where
  abbrev rows : List Row
  rows = net_rows net h.master h.others

  pub names_are : filter_map station_name rows ≡ map label net.nodes
  names_are =
      ap (λ l. h.master.name ∷ l)
      (only_others station_name label net h.others (λ x. refl)
      (nothing_below station_name net (λ r. refl) (λ p. refl) (λ c. refl) refl))
      ∙ sym (ap (map label) h.whole)

  -- Workstations as a record defines them.

  master_title : record { name = h.master.name; hop = None; manager = true } ≡ title net h.master
  master_title = rw (h.top, h.managed) refl

  other_title : (x : Node) → IsHung net x → station_at x (Some (hop_name net x)) ≡ title net x
  other_title x g =
      ap (λ o. station_at x (Some (option_map_or (name_of net) o (codes "")))) g.is
      ∙ sym (ap (λ o. station_at x (option_map (name_of net) o)) g.is)

  pub stations_are : stations rows ≡ map (title net) net.nodes
  stations_are =
      ap (λ l. record { name = h.master.name; hop = None; manager = true } ∷ l)
      (only_others station_of (λ x. station_at x (Some (hop_name net x))) net h.others (λ x. refl)
      (nothing_below station_of net (λ r. refl) (λ p. refl) (λ c. refl) refl)
      ∙ same_map (IsHung net) (λ x. station_at x (Some (hop_name net x))) (title net) other_title h.others h.hung)
      ∙ ap (λ s. s ∷ map (title net) h.others) master_title
      ∙ sym (ap (map (title net)) h.whole)

  -- The network.

  abbrev no : List ℕ → ℕ
  no name = place_of (filter_map station_name rows) name

  no_is : (w : ℕ) → w < length net.nodes → no (name_of net w) ≡ w
  no_is w low = ap (λ l. place_of l (name_of net w)) names_are ∙ number net a w low

  master_node : record { name = h.master.name; hop = None; manager = true; full = false } ≡ node_as_printed h.master
  master_node = rw (h.top, h.managed, and_false h.master.full) refl

  other_node : (x : Node) → IsHung net x → hop_at x (Some (no (hop_name net x))) ≡ node_as_printed x
  other_node x g =
      ap (λ o. hop_at x (Some (no (option_map_or (name_of net) o (codes ""))))) g.is
      ∙ ap (λ w. hop_at x (Some w)) (no_is g.up g.inside) ∙ sym (ap (hop_at x) g.is)

  nodes_are : filter_map (node_of (numbered rows)) rows ≡ map node_as_printed net.nodes
  nodes_are =
      ap (λ l. record { name = h.master.name; hop = None; manager = true; full = false } ∷ l)
      (only_others (node_of (numbered rows)) (λ x. hop_at x (Some (no (hop_name net x)))) net h.others (λ x. refl)
      (nothing_below (node_of (numbered rows)) net (λ r. refl) (λ p. refl) (λ c. refl) refl)
      ∙ same_map (IsHung net) (λ x. hop_at x (Some (no (hop_name net x)))) node_as_printed other_node h.others h.hung)
      ∙ ap (λ n. n ∷ map node_as_printed h.others) master_node
      ∙ sym (ap (map node_as_printed) h.whole)

  same_resource : (r : Resource) → IsGood net r → ws_at r (no (name_of net r.ws)) ≡ r
  same_resource r g = ap (ws_at r) (no_is r.ws g.ws)

  resources_are : filter_map (resource_def (numbered rows)) rows ≡ net.resources
  resources_are =
      none_picked (resource_def (numbered rows)) (station_row net) (λ x. refl) h.others (below_others net)
      ∙ each_picked (resource_def (numbered rows)) (resource_row net) (λ r. ws_at r (no (name_of net r.ws))) (λ r. refl)
      net.resources (below_resources net)
      ∙ ap (λ l. map (λ r. ws_at r (no (name_of net r.ws))) net.resources ++ l)
      (none_picked (resource_def (numbered rows)) prompt_row (λ p. refl) net.prompts
      (map row.CarryForward (told net.carry) ++ row.Steps ∷ [])
      ∙ none_picked (resource_def (numbered rows)) row.CarryForward (λ c. refl) (told net.carry) (row.Steps ∷ []))
      ∙ append-nil (map (λ r. ws_at r (no (name_of net r.ws))) net.resources)
      ∙ same_map (IsGood net) (λ r. ws_at r (no (name_of net r.ws))) (λ r. r) same_resource net.resources
      (good_each net net.resources a.good)
      ∙ map_itself net.resources

  prompts_are : filter_map prompt_def rows ≡ net.prompts
  prompts_are =
      none_picked prompt_def (station_row net) (λ x. refl) h.others (below_others net)
      ∙ none_picked prompt_def (resource_row net) (λ r. refl) net.resources (below_resources net)
      ∙ each_picked prompt_def prompt_row (λ p. p) (λ p. refl) net.prompts
      (map row.CarryForward (told net.carry) ++ row.Steps ∷ [])
      ∙ ap (λ l. map (λ p. p) net.prompts ++ l)
      (none_picked prompt_def row.CarryForward (λ c. refl) (told net.carry) (row.Steps ∷ []))
      ∙ append-nil (map (λ p. p) net.prompts) ∙ map_itself net.prompts

  carry_is : first_or carry.Yes carry_in rows ≡ net.carry
  carry_is =
      first_past carry.Yes carry_in (station_row net) (λ x. refl) h.others (below_others net)
      ∙ first_past carry.Yes carry_in (resource_row net) (λ r. refl) net.resources (below_resources net)
      ∙ first_past carry.Yes carry_in prompt_row (λ p. refl) net.prompts
      (map row.CarryForward (told net.carry) ++ row.Steps ∷ [])
      ∙ carry_told net.carry

  pub net_is : net_of rows ≡ as_printed net
  unfolding net_with
  net_is = λ i. record { nodes = nodes_are i; resources = resources_are i; prompts = prompts_are i; carry = carry_is i }

-- Nothing else.

-- a row that stands in a network or ends it
abbrev is_front : Row → Bool
is_front row.Network = true
is_front (row.Master n) = true
is_front (row.Station s) = true
is_front (row.Resource w n t) = true
is_front (row.Prompt n t) = true
is_front (row.CarryForward c) = true
is_front row.Steps = true
is_front r = false

front_rows : (net : Net) (m : Node) (others : List Node) → list_all is_front (net_rows net m others) ≡ true
front_rows net m others =
    all_pass is_front (station_row net) (λ x. refl) others (below_others net)
    (all_pass is_front (resource_row net) (λ r. refl) net.resources (below_resources net)
    (all_pass is_front prompt_row (λ p. refl) net.prompts (map row.CarryForward (told net.carry) ++ row.Steps ∷ [])
    (all_pass is_front row.CarryForward (λ c. refl) (told net.carry) (row.Steps ∷ []) refl)))

no_sections : (rows : List Row) → list_all is_front rows ≡ true → each section_in rows ≡ []
no_sections [] e = refl
no_sections (row.Network ∷ rows) e = no_sections rows e
no_sections (row.Master n ∷ rows) e = no_sections rows e
no_sections (row.Station s ∷ rows) e = no_sections rows e
no_sections (row.Resource w n t ∷ rows) e = no_sections rows e
no_sections (row.Prompt n t ∷ rows) e = no_sections rows e
no_sections (row.CarryForward c ∷ rows) e = no_sections rows e
no_sections (row.Steps ∷ rows) e = no_sections rows e
no_sections (r ∷ rows) e = absurd (cc)

no_steps : (n : Numbered) (line : ℕ) (rows : List Row) → list_all is_front rows ≡ true → steps_from n line rows ≡ []
no_steps n line [] e = refl
no_steps n line (row.Network ∷ rows) e = no_steps n (line + 1) rows e
no_steps n line (row.Master m ∷ rows) e = no_steps n (line + 1) rows e
no_steps n line (row.Station s ∷ rows) e = no_steps n (line + 1) rows e
no_steps n line (row.Resource w m t ∷ rows) e = no_steps n (line + 1) rows e
no_steps n line (row.Prompt m t ∷ rows) e = no_steps n (line + 1) rows e
no_steps n line (row.CarryForward c ∷ rows) e = no_steps n (line + 1) rows e
no_steps n line (row.Steps ∷ rows) e = no_steps n (line + 1) rows e
no_steps n line (r ∷ rows) e = absurd (cc)

one_more : (n : ℕ) → 1 + n ≡ suc n
one_more n = omega arith

past_all : (rows : List Row) → list_all is_front rows ≡ true → position_or_len is_definitions rows ≡ length rows
past_all [] e = refl
past_all (row.Network ∷ rows) e = ap (λ k. 1 + k) (past_all rows e) ∙ one_more (length rows)
past_all (row.Master n ∷ rows) e = ap (λ k. 1 + k) (past_all rows e) ∙ one_more (length rows)
past_all (row.Station s ∷ rows) e = ap (λ k. 1 + k) (past_all rows e) ∙ one_more (length rows)
past_all (row.Resource w n t ∷ rows) e = ap (λ k. 1 + k) (past_all rows e) ∙ one_more (length rows)
past_all (row.Prompt n t ∷ rows) e = ap (λ k. 1 + k) (past_all rows e) ∙ one_more (length rows)
past_all (row.CarryForward c ∷ rows) e = ap (λ k. 1 + k) (past_all rows e) ∙ one_more (length rows)
past_all (row.Steps ∷ rows) e = ap (λ k. 1 + k) (past_all rows e) ∙ one_more (length rows)
past_all (r ∷ rows) e = absurd (cc)

pub no_place : (p n : ℕ) → p ≡ n → cond (nat_lt p n) (Some p) None ≡ None
no_place p n e = let none : nat_lt p n ≡ false = grind (arith, nat_tests) in ap (λ b. cond b (Some p) None) none

pub no_definitions : (net : Net) (m : Node) (others : List Node) → definitions_line (net_rows net m others) ≡ None
no_definitions net m others =
    ap (λ o. option_map (λ i. i + 1) o)
    (no_place (position_or_len is_definitions (net_rows net m others)) (length (net_rows net m others))
    (past_all (net_rows net m others) (front_rows net m others)))

pub no_plans : (net : Net) (m : Node) (others : List Node) → plans_of (net_rows net m others) ≡ []
no_plans net m others = rw (no_sections (net_rows net m others) (front_rows net m others)) refl

pub without_steps : (net : Net) (m : Node) (others : List Node) → steps_of (net_rows net m others) ≡ []
without_steps net m others =
    no_steps (numbered (net_rows net m others)) 1 (net_rows net m others) (front_rows net m others)
