-- The rows of an accepted network have no fault.
use Rattle.std.proofs.Common.{◌≡◌, ◌<◌, ℕ, Bool, false, ◌&&◌, ◌||◌, not, eqb, List, [], ◌∷◌, ◌++◌}
use Rattle.std.proofs.Common.{Some, None, length, refl, ap, subst, ◌∙◌, arith, map, append_assoc, codes, bytes_eq, length-append}
use Rattle.std.specs.Prelude.{count_by, filter_map, nat_le}
use Rattle.std.specs.List.{AllByRecursion, list_any}
use Rattle.std.specs.Option.{option_map_or}
use Rattle.std.proofs.lemmas.List.{length-map}
use Rattle.std.proofs.lemmas.List.Folds.{list_any-append}
use Rattle.lemmas.proofs.Lists.{all_middle}
use Rattle.record_script.proofs.Distinct.{prompt_each, resource_each, ws_each}
use Rattle.model.specs.Types.{Net, Node, PromptDef, Resource}
use Rattle.plan_listing.specs.Networks.{hop_name}
use Rattle.report_text.specs.Names.{name_of}
use Rattle.record_rows.specs.declared.rows.Row.{Row}
use Rattle.record_rows.specs.declared.rows.Row.TheVariants as row
use Rattle.record_rows.specs.Ranges.{in_range}
use Rattle.record_faults.specs.Known.{Named, Station, above_of, ends_at_master, is_carry, is_prompt, is_resource, is_station, is_ws, key_eq}
use Rattle.record_faults.specs.Known.{prompt_of, resource_of, station_name}
use Rattle.record_faults.specs.Known as known
use Rattle.record_faults.specs.Faults.{first_fault, is_bad_line, is_bad_tree, is_beyond, is_duplicate}
use Rattle.record_faults.specs.Faults.{lacks_condition, lacks_item, lacks_station}
use Rattle.record_faults.proofs.Walks.{row_without}
use Rattle.record_script.proofs.Picked.{picked_count}
use Rattle.record_script.proofs.Walked.{Passes}
use Rattle.history_laws.proofs.Accepted.{Accepted, Headed, IsGood, IsHung, good_each}
use Rattle.history_laws.proofs.Named.{ends, key_of, keys_other, known_name, label, manages, title}
use Rattle.history_laws.proofs.Printed.{told}
use Rattle.history_laws.proofs.Sections.{all_picked, below_others, below_resources, net_rows, none_picked, prompt_row, resource_row, some_below, station_row}
use Rattle.history_laws.proofs.Walking.{clean, end_walk, head_passes, master_passes, not_beyond, not_last, walked}

-- Lists.

all_front : {A : Type 0} (P : A → Type 0) (before behind : List A) (x : A) → AllByRecursion P (before ++ x ∷ behind)
    → AllByRecursion P before
all_front P [] behind x all = tt
all_front P (b ∷ before) behind x all = (all.0, all_front P before behind x all.1)

any_mapped : {A B : Type 0} (p : B → Bool) (f : A → B) (xs : List A) → list_any p (map f xs) ≡ list_any (λ x. p (f x)) xs
any_mapped p f [] = refl
any_mapped p f (x ∷ xs) = ap (λ b. p (f x) || b) (any_mapped p f xs)

none_any : {A : Type 0} (p : Row → Bool) (g : A → Row) → ((x : A) → p (g x) ≡ false) → (xs : List A)
    → list_any p (map g xs) ≡ false
none_any p g none [] = refl
none_any p g none (x ∷ xs) = ap (λ b. b || list_any p (map g xs)) (none x) ∙ none_any p g none xs

any_both : (p : Row → Bool) (xs ys : List Row) → list_any p xs ≡ false → list_any p ys ≡ false → list_any p (xs ++ ys) ≡ false
any_both p xs ys e h = list_any-append p xs ys ∙ ap (λ b. b || list_any p ys) e ∙ h

few_before : {A : Type 0} (xs before behind : List A) (x : A) → xs ≡ before ++ x ∷ behind → length before < length xs
few_before xs before behind x e =
    let long : length xs ≡ length (before ++ x ∷ behind) = ap length e in
    omega (arith, long, length-append before (x ∷ behind))

abbrev pub prompt_name : PromptDef → List ℕ
prompt_name p = p.name

module _ (net : Net) (a : Accepted net) (h : Headed net) where
  abbrev all : List Station
  all = map (title net) net.nodes

  -- what stands above the other workstations, the resources and the prompts
  abbrev first_rows : List Row
  first_rows = row.Network ∷ row.Master h.master.name ∷ []

  abbrev station_rows : List Row
  station_rows = map (station_row net) h.others

  abbrev resource_rows : List Row
  resource_rows = map (resource_row net) net.resources

  -- Workstations.

  hop_of : (x : Node) (up : ℕ) → x.hop ≡ Some up → hop_name net x ≡ name_of net up
  hop_of x up is = ap (λ o. option_map_or (name_of net) o (codes "")) is

  names_above : (before : List Node)
      → filter_map station_name (first_rows ++ map (station_row net) before) ≡ map label (h.master ∷ before)
  names_above before =
      ap (λ l. h.master.name ∷ l) (all_picked station_name (station_row net) label (λ x. refl) before)

  name_new : (before behind : List Node) (x : Node) → h.others ≡ before ++ x ∷ behind
      → list_any (bytes_eq x.name) (filter_map station_name (first_rows ++ map (station_row net) before)) ≡ false
  name_new before behind x e =
      ap (list_any (bytes_eq x.name)) (names_above before)
      ∙ any_mapped (bytes_eq x.name) label (h.master ∷ before)
      ∙ a.names.once (h.master ∷ before) behind x (h.whole ∙ ap (λ l. h.master ∷ l) e)

  few_names : (before behind : List Node) (x : Node) → h.others ≡ before ++ x ∷ behind
      → nat_le 256 (count_by is_ws (first_rows ++ map (station_row net) before)) ≡ false
  few_names before behind x e =
      let low = few_before net.nodes (h.master ∷ before) behind x (h.whole ∙ ap (λ l. h.master ∷ l) e) in
      not_beyond 256 (count_by is_ws (first_rows ++ map (station_row net) before)) (length (h.master ∷ before))
      (picked_count is_ws station_name ws_each (first_rows ++ map (station_row net) before)
      ∙ ap length (names_above before) ∙ length-map (h.master ∷ before) label)
      (omega (arith, low, a.few))

  good_tree : (x : Node) → IsHung net x
      → not (known.is_manager all (hop_name net x) && ends_at_master all (hop_name net x)) ≡ false
  good_tree x g =
      ap (λ w. not (known.is_manager all w && ends_at_master all w)) (hop_of x g.up g.is)
      ∙ ap (λ b. not (b && ends_at_master all (name_of net g.up))) (manages net a g.up g.manages)
      ∙ ap not (ends net a g.up g.inside)

  station_passes : (n : Named) → n.stations ≡ all → (before behind : List Node) (x : Node) → h.others ≡ before ++ x ∷ behind
      → (rest : List Row) → eqb (length rest) 0 ≡ false
      → Passes n (record {
        above = first_rows ++ map (station_row net) before;
        here = station_row net x;
        below = map (station_row net) behind ++ rest;
      })
  unfolding above_of is_bad_line is_duplicate lacks_station lacks_item in_range lacks_condition is_beyond is_bad_tree
  station_passes n known_all before behind x e rest some =
      let g = all_middle (IsHung net) before behind x (subst (AllByRecursion (IsHung net)) e h.hung) in
      record {
        whole = not_last (first_rows ++ map (station_row net) before) (map (station_row net) behind ++ rest) (station_row net x)
            (some_below (map (station_row net) behind) rest some);
        form = refl;
        once = name_new before behind x e;
        station = ap (λ l. not (is_station l (hop_name net x))) known_all
            ∙ ap (λ w. not (is_station all w)) (hop_of x g.up g.is) ∙ ap not (known_name net a g.up g.inside);
        item = refl;
        range = refl;
        condition = refl;
        count = few_names before behind x e;
        tree = ap (λ l. not (known.is_manager l (hop_name net x) && ends_at_master l (hop_name net x))) known_all ∙ good_tree x g;
        plan = refl;
      }

  -- Resources.

  keys_above : (before : List Resource)
      → filter_map resource_of ((first_rows ++ station_rows) ++ map (resource_row net) before) ≡ map (key_of net) before
  keys_above before =
      none_picked resource_of (station_row net) (λ x. refl) h.others (map (resource_row net) before)
      ∙ all_picked resource_of (resource_row net) (key_of net) (λ x. refl) before

  few_resources : (before behind : List Resource) (r : Resource) → net.resources ≡ before ++ r ∷ behind
      → nat_le 65535 (count_by is_resource ((first_rows ++ station_rows) ++ map (resource_row net) before)) ≡ false
  few_resources before behind r e =
      let low = few_before net.resources before behind r e in
      not_beyond 65535 (count_by is_resource ((first_rows ++ station_rows) ++ map (resource_row net) before)) (length before)
      (picked_count is_resource resource_of resource_each ((first_rows ++ station_rows) ++ map (resource_row net) before)
      ∙ ap length (keys_above before) ∙ length-map before (key_of net))
      (omega (arith, low, a.resources.few))

  resource_passes : (n : Named) → n.stations ≡ all → (before behind : List Resource) (r : Resource)
      → net.resources ≡ before ++ r ∷ behind → (rest : List Row) → eqb (length rest) 0 ≡ false
      → Passes n (record {
        above = (first_rows ++ station_rows) ++ map (resource_row net) before;
        here = resource_row net r;
        below = map (resource_row net) behind ++ rest;
      })
  unfolding above_of is_bad_line is_duplicate lacks_station lacks_item in_range lacks_condition is_beyond is_bad_tree
  resource_passes n known_all before behind r e rest some =
      let good = subst (AllByRecursion (IsGood net)) e (good_each net net.resources a.good) in
      let own = all_middle (IsGood net) before behind r good in
      record {
        whole = not_last ((first_rows ++ station_rows) ++ map (resource_row net) before) (map (resource_row net) behind ++ rest)
            (resource_row net r) (some_below (map (resource_row net) behind) rest some);
        form = refl;
        once = ap (list_any (key_eq (key_of net r))) (keys_above before)
            ∙ keys_other net a r before own.ws (all_front (IsGood net) before behind r good) (a.resources.once before behind r e);
        station = ap (λ l. not (is_station l (name_of net r.ws))) known_all ∙ ap not (known_name net a r.ws own.ws);
        item = refl;
        range = refl;
        condition = refl;
        count = few_resources before behind r e;
        tree = refl;
        plan = refl;
      }

  -- Prompts.

  prompts_above : (before : List PromptDef)
      → filter_map prompt_of (((first_rows ++ station_rows) ++ resource_rows) ++ map prompt_row before) ≡ map prompt_name before
  prompts_above before =
      ap (filter_map prompt_of) (append_assoc station_rows resource_rows (map prompt_row before))
      ∙ none_picked prompt_of (station_row net) (λ x. refl) h.others (resource_rows ++ map prompt_row before)
      ∙ none_picked prompt_of (resource_row net) (λ x. refl) net.resources (map prompt_row before)
      ∙ all_picked prompt_of prompt_row prompt_name (λ x. refl) before

  few_prompts : (before behind : List PromptDef) (p : PromptDef) → net.prompts ≡ before ++ p ∷ behind
      → nat_le 65535 (count_by is_prompt (((first_rows ++ station_rows) ++ resource_rows) ++ map prompt_row before)) ≡ false
  few_prompts before behind p e =
      let low = few_before net.prompts before behind p e in
      not_beyond 65535 (count_by is_prompt (((first_rows ++ station_rows) ++ resource_rows) ++ map prompt_row before)) (length before)
      (picked_count is_prompt prompt_of prompt_each (((first_rows ++ station_rows) ++ resource_rows) ++ map prompt_row before)
      ∙ ap length (prompts_above before) ∙ length-map before prompt_name)
      (omega (arith, low, a.prompts.few))

  prompt_passes : (n : Named) (before behind : List PromptDef) (p : PromptDef) → net.prompts ≡ before ++ p ∷ behind
      → (rest : List Row) → eqb (length rest) 0 ≡ false
      → Passes n (record {
        above = ((first_rows ++ station_rows) ++ resource_rows) ++ map prompt_row before;
        here = prompt_row p;
        below = map prompt_row behind ++ rest;
      })
  unfolding above_of is_bad_line is_duplicate lacks_station lacks_item in_range lacks_condition is_beyond is_bad_tree
  prompt_passes n before behind p e rest some =
      record {
        whole = not_last (((first_rows ++ station_rows) ++ resource_rows) ++ map prompt_row before) (map prompt_row behind ++ rest)
            (prompt_row p) (some_below (map prompt_row behind) rest some);
        form = refl;
        once = ap (list_any (bytes_eq p.name)) (prompts_above before) ∙ any_mapped (bytes_eq p.name) prompt_name before
            ∙ a.prompts.once before behind p e;
        station = refl;
        item = refl;
        range = refl;
        condition = refl;
        count = few_prompts before behind p e;
        tree = refl;
        plan = refl;
      }

  -- The whole.

  no_carry : list_any is_carry (((first_rows ++ station_rows) ++ resource_rows) ++ map prompt_row net.prompts) ≡ false
  no_carry =
      any_both is_carry ((first_rows ++ station_rows) ++ resource_rows) (map prompt_row net.prompts)
      (any_both is_carry (first_rows ++ station_rows) resource_rows
      (any_both is_carry first_rows station_rows refl (none_any is_carry (station_row net) (λ x. refl) h.others))
      (none_any is_carry (resource_row net) (λ x. refl) net.resources))
      (none_any is_carry prompt_row (λ x. refl) net.prompts)

  abbrev end_rows : List Row
  end_rows = map row.CarryForward (told net.carry) ++ row.Steps ∷ []

  some_end : eqb (length end_rows) 0 ≡ false
  some_end = some_below (map row.CarryForward (told net.carry)) (row.Steps ∷ []) refl

  some_resources : eqb (length (below_resources net)) 0 ≡ false
  some_resources = some_below (map prompt_row net.prompts) end_rows some_end

  some_others : eqb (length (below_others net)) 0 ≡ false
  some_others = some_below resource_rows (below_resources net) some_resources

  pub no_fault : (n : Named) → n.stations ≡ all → first_fault n (net_rows net h.master h.others) ≡ None
  unfolding first_fault
  no_fault n known_all =
      row_without n [] (row.Master h.master.name ∷ (station_rows ++ below_others net)) row.Network
      (clean n (record { above = []; here = row.Network; below = row.Master h.master.name ∷ (station_rows ++ below_others net) })
      (head_passes n (row.Master h.master.name ∷ (station_rows ++ below_others net))
      (some_below (row.Master h.master.name ∷ station_rows) (below_others net) some_others)))
      ∙ row_without n (row.Network ∷ []) (station_rows ++ below_others net) (row.Master h.master.name)
      (clean n (record { above = row.Network ∷ []; here = row.Master h.master.name; below = station_rows ++ below_others net })
      (master_passes n h.master.name (station_rows ++ below_others net) (some_below station_rows (below_others net) some_others)))
      ∙ walked n (station_row net) h.others first_rows (below_others net)
      (λ before behind x e.
      clean n (record {
        above = first_rows ++ map (station_row net) before;
        here = station_row net x;
        below = map (station_row net) behind ++ below_others net;
      }) (station_passes n known_all before behind x e (below_others net) some_others))
      ∙ walked n (resource_row net) net.resources (first_rows ++ station_rows) (below_resources net)
      (λ before behind r e.
      clean n (record {
        above = (first_rows ++ station_rows) ++ map (resource_row net) before;
        here = resource_row net r;
        below = map (resource_row net) behind ++ below_resources net;
      }) (resource_passes n known_all before behind r e (below_resources net) some_resources))
      ∙ walked n prompt_row net.prompts ((first_rows ++ station_rows) ++ resource_rows) end_rows
      (λ before behind p e.
      clean n (record {
        above = ((first_rows ++ station_rows) ++ resource_rows) ++ map prompt_row before;
        here = prompt_row p;
        below = map prompt_row behind ++ end_rows;
      }) (prompt_passes n before behind p e end_rows some_end))
      ∙ end_walk n (((first_rows ++ station_rows) ++ resource_rows) ++ map prompt_row net.prompts) net.carry no_carry
