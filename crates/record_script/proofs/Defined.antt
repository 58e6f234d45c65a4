-- The workstations, resources and prompts of the network of a record without faults stand once each.
use Rattle.std.proofs.Common.{◌≡◌, ◌<◌, ◌≤◌, ℕ, Bool, true, false, ◌&&◌, ◌||◌, not, List, [], ◌∷◌, ◌++◌, Option, Some, None}
use Rattle.std.proofs.Common.{length, refl, ap, sym, subst, ◌∙◌, inl, inr, arith, bytes_eq, eqb, slice_get, cond}
use Rattle.std.specs.Prelude.{filter_map, find, nat_le, nat_lt}
use Rattle.std.specs.List.{cons_option, list_any}
use Rattle.std.proofs.lemmas.List.Elements.{filter_map-append}
use Rattle.std.proofs.lemmas.List.Folds.{list_any-append}
use Rattle.std.proofs.lemmas.Bool.Decides.{eqb_tells, nat_tests}
use Rattle.std.proofs.lemmas.Slice.Eq.{bytes_eq-Decides}
use Rattle.lemmas.proofs.Booleans.{and_false, neither, not_fails}
use Rattle.model.specs.Types.{Node, PromptDef, Resource}
use Rattle.network_tree.specs.Faults.{are_one_prompt, are_one_resource, have_one_name}
use Rattle.record_rows.specs.declared.rows.Row.{Row}
use Rattle.record_rows.specs.declared.rows.Row.TheVariants as row
use Rattle.record_faults.specs.Known.{Station, station_name, resource_of, prompt_of, stations, is_station, key_eq}
use Rattle.record_faults.specs.Faults.{lacks_station}
use Rattle.record_script.specs.Counted.{AreNew}
use Rattle.record_script.specs.Numbers.{Numbered, numbered, ws_no, within}
use Rattle.record_script.specs.Networks.{node_of, resource_def, prompt_def}
use Rattle.record_script.proofs.Picked.{Around, around, same_length}
use Rattle.record_script.proofs.Trees.{found_no, node_each}

-- of rows that are picked in two ways, each once: what is new in one way is new in the other
pub new_too : {A B : Type 0} (eq : A → A → Bool) (same : B → B → Bool) (f : Row → Option A) (g : Row → Option B)
    (rows : List Row) → ((r : Row) → length (cons_option (f r) []) ≡ length (cons_option (g r) [])) → AreNew eq (filter_map f rows)
    → ((above below : List Row) (here : Row) (a : A) (b : B) → rows ≡ above ++ here ∷ below → f here ≡ Some a → g here ≡ Some b
    → list_any (eq a) (filter_map f above) ≡ false → list_any (same b) (filter_map g above) ≡ false)
    → AreNew same (filter_map g rows)
new_too {A = A} {B = B} eq same f g rows each new other =
    record {
      few = subst (λ n. n ≤ 65535) (same_length f g each rows) new.few;
      once = λ before behind b e. go before b (around g rows before behind b e);
    }
  where
    go : (before : List B) (b : B) → {behind : List B} → Around g rows before behind b → list_any (same b) before ≡ false
    go before b s = on (f s.here) refl
      where
        on : (o : Option A) → f s.here ≡ o → list_any (same b) before ≡ false
        on None is = absurd (let e = each s.here in let none : length (cons_option (f s.here) []) ≡ 0 = ap (λ o. length (cons_option o [])) is in let some : length (cons_option (g s.here) []) ≡ 1 = ap (λ o. length (cons_option o [])) s.picked in omega (arith, e, none, some))
        on (Some a) is =
            let all : filter_map f rows ≡ filter_map f s.above ++ a ∷ filter_map f s.below =
            ap (filter_map f) s.whole ∙ filter_map-append f s.above (s.here ∷ s.below)
            ∙ ap (λ o. filter_map f s.above ++ cons_option o (filter_map f s.below)) is in
            let free = new.once (filter_map f s.above) (filter_map f s.below) a all in
            subst (λ l. list_any (same b) l ≡ false) s.front (other s.above s.below s.here a b s.whole is s.picked free)

-- Workstations and prompts, by their names.

nodes_named : (n : Numbered) (x : List ℕ) (rows : List Row)
    → list_any (λ (a : Node). bytes_eq x a.name) (filter_map (node_of n) rows)
    ≡ list_any (bytes_eq x) (filter_map station_name rows)
nodes_named n x [] = refl
nodes_named n x (row.Master m ∷ rows) = ap (λ b. bytes_eq x m || b) (nodes_named n x rows)
nodes_named n x (row.Station s ∷ rows) = ap (λ b. bytes_eq x s.name || b) (nodes_named n x rows)
nodes_named n x (r ∷ rows) = nodes_named n x rows

node_name : (n : Numbered) (r : Row) (a : List ℕ) (b : Node) → station_name r ≡ Some a → node_of n r ≡ Some b → a ≡ b.name
node_name n (row.Master m) a b e h = cc
node_name n (row.Station s) a b e h = cc
node_name n r a b e h = absurd (cc)

pub new_nodes : (n : Numbered) (rows : List Row) → AreNew bytes_eq (filter_map station_name rows)
    → AreNew have_one_name (filter_map (node_of n) rows)
new_nodes n rows new =
    new_too bytes_eq have_one_name station_name (node_of n) rows (node_each n) new
    (λ above below here a b whole is picked free.
    nodes_named n b.name above
    ∙ subst (λ x. list_any (bytes_eq x) (filter_map station_name above) ≡ false) (node_name n here a b is picked) free)

prompts_named : (x : List ℕ) (rows : List Row)
    → list_any (λ (a : PromptDef). bytes_eq x a.name) (filter_map prompt_def rows)
    ≡ list_any (bytes_eq x) (filter_map prompt_of rows)
prompts_named x [] = refl
prompts_named x (row.Prompt m t ∷ rows) = ap (λ b. bytes_eq x m || b) (prompts_named x rows)
prompts_named x (r ∷ rows) = prompts_named x rows

prompt_name : (r : Row) (a : List ℕ) (b : PromptDef) → prompt_of r ≡ Some a → prompt_def r ≡ Some b → a ≡ b.name
prompt_name (row.Prompt m t) a b e h = cc
prompt_name r a b e h = absurd (cc)

prompt_each : (r : Row) → length (cons_option (prompt_of r) []) ≡ length (cons_option (prompt_def r) [])
prompt_each (row.Prompt m t) = refl
prompt_each r = refl

pub new_prompts : (rows : List Row) → AreNew bytes_eq (filter_map prompt_of rows)
    → AreNew are_one_prompt (filter_map prompt_def rows)
new_prompts rows new =
    new_too bytes_eq are_one_prompt prompt_of prompt_def rows prompt_each new
    (λ above below here a b whole is picked free.
    prompts_named b.name above
    ∙ subst (λ x. list_any (bytes_eq x) (filter_map prompt_of above) ≡ false) (prompt_name here a b is picked) free)

-- Resources, by the numbers of their workstations, which are known.

found_by : {A : Type 0} (p : A → Bool) (xs : List A) → list_any p xs ≡ true → (a : A) × (find p xs ≡ Some a) × (p a ≡ true)
found_by p [] e = absurd (cc)
found_by {A = A} p (x ∷ xs) e = go (p x) refl (found_by p xs)
  where
    go : (b : Bool) → p x ≡ b → (list_any p xs ≡ true → (a : A) × (find p xs ≡ Some a) × (p a ≡ true))
        → (a : A) × (find p (x ∷ xs) ≡ Some a) × (p a ≡ true)
    go true is each = (x, ap (λ b. cond b (Some x) (find p xs)) is, is)
    go false is each =
        let rest : list_any p xs ≡ true = sym (ap (λ b. b || list_any p xs) is) ∙ e in
        let more = each rest in
        (more.0, ap (λ b. cond b (Some x) (find p xs)) is ∙ more.1, more.2)

same_station : (o : Option Station) (a b : Station) → o ≡ Some a → o ≡ Some b → a ≡ b
same_station o a b e h = cc

-- a resource whose total is too great
abbrev pub is_great : Row → Bool
is_great (row.Resource w n t) = nat_lt 1024 (within 0 t)
is_great r = false

module _ (rows : List Row) where
  abbrev no : List ℕ → ℕ
  no name = ws_no (numbered rows) name

  -- a known name stands at its number
  pub named_there : (w : List ℕ) → is_station (stations rows) w ≡ true
      → (st : Station) × (no w < length (stations rows)) × (slice_get (stations rows) (no w) ≡ Some st) × (st.name ≡ w)
  named_there w e =
      let f = found_by (λ (s : Station). bytes_eq s.name w) (stations rows) e in
      let at_ = found_no rows w f.0 f.1 in
      (f.0, at_.0, at_.1, (bytes_eq-Decides f.0.name w).0 f.2)

  no_other : (w v : List ℕ) → is_station (stations rows) w ≡ true → is_station (stations rows) v ≡ true
      → bytes_eq w v ≡ false → eqb (no w) (no v) ≡ false
  no_other w v e h other =
      elim (eqb_tells (no w) (no v)) [
        | inl t ↦
            let a = named_there w e in
            let b = named_there v h in
            let one : a.0 ≡ b.0 =
            same_station (slice_get (stations rows) (no v)) a.0 b.0 (ap (slice_get (stations rows)) (sym t.1) ∙ a.2) b.2 in
            let same : w ≡ v = sym a.3 ∙ ap (λ (s : Station). s.name) one ∙ b.3 in
            let equal : bytes_eq w v ≡ true = (bytes_eq-Decides w v).1 same in
            absurd (cc)
        | inr t ↦ t.0
      ]

  pair_other : (w v n m : List ℕ) → is_station (stations rows) w ≡ true → is_station (stations rows) v ≡ true
      → (bytes_eq w v && bytes_eq n m) ≡ false → (eqb (no w) (no v) && bytes_eq n m) ≡ false
  pair_other w v n m e h other = go (bytes_eq w v) refl
    where
      go : (b : Bool) → bytes_eq w v ≡ b → (eqb (no w) (no v) && bytes_eq n m) ≡ false
      go true is =
          let names : bytes_eq n m ≡ false = sym (ap (λ b. b && bytes_eq n m) is) ∙ other in
          ap (λ b. eqb (no w) (no v) && b) names ∙ and_false (eqb (no w) (no v))
      go false is = ap (λ b. b && bytes_eq n m) (no_other w v e h is)

  resources_other : (w n : List ℕ) (total : ℕ) (above : List Row) → is_station (stations rows) w ≡ true
      → list_any (lacks_station (stations rows)) above ≡ false
      → list_any (key_eq (w, n)) (filter_map resource_of above) ≡ false
      → list_any (are_one_resource (record { ws = no w; name = n; total = total })) (filter_map (resource_def (numbered rows)) above) ≡ false
  unfolding lacks_station
  resources_other w n total [] e all free = refl
  resources_other w n total (row.Resource v m t ∷ above) e all free =
      let known = neither (not (is_station (stations rows) v)) (list_any (lacks_station (stations rows)) above) all in
      let key = neither (bytes_eq w v && bytes_eq n m) (list_any (key_eq (w, n)) (filter_map resource_of above)) free in
      ap (λ b. b || list_any (are_one_resource (record { ws = no w; name = n; total = total }))
      (filter_map (resource_def (numbered rows)) above))
      (pair_other w v n m e (not_fails (is_station (stations rows) v) known.0) key.0)
      ∙ resources_other w n total above e known.1 key.1
  resources_other w n total (r ∷ above) e all free =
      resources_other w n total above e (neither (lacks_station (stations rows) r) (list_any (lacks_station (stations rows)) above) all).1 free

  low_number : (a b : ℕ) → a < b → nat_le b a ≡ false
  low_number a b low = grind (arith, nat_tests)

  pub none_bad : (count : ℕ) (some : List Row) → count ≡ length (stations rows)
      → list_any (lacks_station (stations rows)) some ≡ false → list_any is_great some ≡ false
      → list_any (λ (r : Resource). nat_le count r.ws || nat_lt 1024 r.total) (filter_map (resource_def (numbered rows)) some) ≡ false
  unfolding lacks_station
  none_bad count [] is all small = refl
  none_bad count (row.Resource v m t ∷ some) is all small =
      let known = neither (not (is_station (stations rows) v)) (list_any (lacks_station (stations rows)) some) all in
      let fits = neither (nat_lt 1024 (within 0 t)) (list_any is_great some) small in
      let at_ = named_there v (not_fails (is_station (stations rows) v) known.0) in
      let low : nat_le count (no v) ≡ false = low_number (no v) count (subst (λ c. no v < c) (sym is) at_.1) in
      ap (λ b. (b || nat_lt 1024 (within 0 t)) || list_any (λ (r : Resource). nat_le count r.ws || nat_lt 1024 r.total) (filter_map (resource_def (numbered rows)) some)) low
      ∙ ap (λ b. b || list_any (λ (r : Resource). nat_le count r.ws || nat_lt 1024 r.total) (filter_map (resource_def (numbered rows)) some)) fits.0
      ∙ none_bad count some is known.1 fits.1
  none_bad count (r ∷ some) is all small =
      none_bad count some is (neither (lacks_station (stations rows) r) (list_any (lacks_station (stations rows)) some) all).1 small

  resource_each : (r : Row) → length (cons_option (resource_of r) []) ≡ length (cons_option (resource_def (numbered rows) r) [])
  resource_each (row.Resource w n t) = refl
  resource_each r = refl

  one_other : (above below : List Row) (here : Row) (a : List ℕ × List ℕ) (b : Resource) → rows ≡ above ++ here ∷ below
      → list_any (lacks_station (stations rows)) rows ≡ false → resource_of here ≡ Some a
      → resource_def (numbered rows) here ≡ Some b → list_any (key_eq a) (filter_map resource_of above) ≡ false
      → list_any (are_one_resource b) (filter_map (resource_def (numbered rows)) above) ≡ false
  unfolding lacks_station
  one_other above below (row.Resource w n t) a b whole all is picked free =
      let parts = neither (list_any (lacks_station (stations rows)) above)
      (list_any (lacks_station (stations rows)) (row.Resource w n t ∷ below))
      (sym (list_any-append (lacks_station (stations rows)) above (row.Resource w n t ∷ below))
      ∙ ap (list_any (lacks_station (stations rows))) (sym whole) ∙ all) in
      let known = neither (not (is_station (stations rows) w)) (list_any (lacks_station (stations rows)) below) parts.1 in
      let key : (w, n) ≡ a = cc in
      let def : record { ws = no w; name = n; total = within 0 t } ≡ b = cc in
      subst (λ r. list_any (are_one_resource r) (filter_map (resource_def (numbered rows)) above) ≡ false) def
      (resources_other w n (within 0 t) above (not_fails (is_station (stations rows) w) known.0) parts.0
      (subst (λ k. list_any (key_eq k) (filter_map resource_of above) ≡ false) (sym key) free))
  one_other above below r a b whole all is picked free = absurd (cc)

  pub new_resources : list_any (lacks_station (stations rows)) rows ≡ false → AreNew key_eq (filter_map resource_of rows)
      → AreNew are_one_resource (filter_map (resource_def (numbered rows)) rows)
  new_resources all new =
      new_too key_eq are_one_resource resource_of (resource_def (numbered rows)) rows resource_each new
      (λ above below here a b whole is picked free. one_other above below here a b whole all is picked free)
