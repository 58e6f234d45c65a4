-- The rows of a network, section by section.
use Rattle.std.proofs.Common.{◌≡◌, ℕ, Bool, true, false, ◌&&◌, not, eqb, List, [], ◌∷◌, ◌++◌}
use Rattle.std.proofs.Common.{Option, Some, None, length, refl, ap, ◌∙◌, map}
use Rattle.std.specs.Prelude.{filter_map}
use Rattle.std.specs.List.{cons_option, list_all}
use Rattle.lemmas.proofs.Numbers.{suc_not_zero}
use Rattle.model.specs.Types.{Carry, Net, Node, PromptDef, Resource}
use Rattle.plan_listing.specs.Networks.{hop_name}
use Rattle.report_text.specs.Names.{name_of}
use Rattle.record_rows.specs.declared.rows.Row.{Row}
use Rattle.record_rows.specs.declared.rows.Row.TheVariants as row
use Rattle.record_rows.specs.declared.rows.Ranged.TheVariants.{Within}
use Rattle.record_faults.specs.declared.places.Place.TheVariants as place
use Rattle.record_faults.specs.Places.{below_row, fate_of, may_stand, placed_from, row_at}
use Rattle.history_laws.proofs.Printed.{told}

abbrev pub station_row : Net → Node → Row
station_row net n =
    row.Station (record { name = n.name; hop = hop_name net n; manager = n.manager; full = n.full && not n.manager })

abbrev pub resource_row : Net → Resource → Row
resource_row net r = row.Resource (name_of net r.ws) r.name (Within r.total)

abbrev pub prompt_row : PromptDef → Row
prompt_row p = row.Prompt p.name (Within p.text)

-- what stands below the resources, the others, and all
abbrev pub below_resources : Net → List Row
below_resources net = map prompt_row net.prompts ++ (map row.CarryForward (told net.carry) ++ row.Steps ∷ [])

abbrev pub below_others : Net → List Row
below_others net = map (resource_row net) net.resources ++ below_resources net

abbrev pub net_rows : Net → Node → List Node → List Row
net_rows net m others = row.Network ∷ row.Master m.name ∷ (map (station_row net) others ++ below_others net)

-- Lists that are picked of sections.

pub none_picked : {A B : Type 0} (f : Row → Option B) (g : A → Row) → ((x : A) → f (g x) ≡ None) → (xs : List A)
    (rest : List Row) → filter_map f (map g xs ++ rest) ≡ filter_map f rest
none_picked f g none [] rest = refl
none_picked f g none (x ∷ xs) rest =
    ap (λ o. cons_option o (filter_map f (map g xs ++ rest))) (none x) ∙ none_picked f g none xs rest

pub each_picked : {A B : Type 0} (f : Row → Option B) (g : A → Row) (k : A → B) → ((x : A) → f (g x) ≡ Some (k x))
    → (xs : List A) (rest : List Row) → filter_map f (map g xs ++ rest) ≡ map k xs ++ filter_map f rest
each_picked f g k some [] rest = refl
each_picked f g k some (x ∷ xs) rest =
    ap (λ o. cons_option o (filter_map f (map g xs ++ rest))) (some x)
    ∙ ap (λ l. k x ∷ l) (each_picked f g k some xs rest)

-- the same without anything below
pub all_picked : {A B : Type 0} (f : Row → Option B) (g : A → Row) (k : A → B) → ((x : A) → f (g x) ≡ Some (k x))
    → (xs : List A) → filter_map f (map g xs) ≡ map k xs
all_picked f g k some [] = refl
all_picked f g k some (x ∷ xs) =
    ap (λ o. cons_option o (filter_map f (map g xs))) (some x) ∙ ap (λ l. k x ∷ l) (all_picked f g k some xs)

pub all_pass : {A : Type 0} (p : Row → Bool) (g : A → Row) → ((x : A) → p (g x) ≡ true) → (xs : List A) (rest : List Row)
    → list_all p rest ≡ true → list_all p (map g xs ++ rest) ≡ true
all_pass p g each [] rest e = e
all_pass p g each (x ∷ xs) rest e =
    ap (λ b. b && list_all p (map g xs ++ rest)) (each x) ∙ all_pass p g each xs rest e

-- something stands below
pub some_below : {A : Type 0} (xs rest : List A) → eqb (length rest) 0 ≡ false → eqb (length (xs ++ rest)) 0 ≡ false
some_below [] rest e = e
some_below (x ∷ xs) rest e = suc_not_zero (length (xs ++ rest))

-- The rows of a network stand where they are.

placed_section : {A : Type 0} (g : A → Row) → ((x : A) → row_at place.Network (g x) ≡ g x)
    → ((x : A) → below_row place.Network (g x) ≡ place.Network) → (xs : List A) (rest : List Row)
    → placed_from place.Network (map g xs ++ rest) ≡ map g xs ++ placed_from place.Network rest
unfolding placed_from
placed_section g stands stays [] rest = refl
placed_section g stands stays (x ∷ xs) rest =
    ap (λ r. r ∷ placed_from (below_row place.Network r) (map g xs ++ rest)) (stands x)
    ∙ ap (λ p. g x ∷ placed_from p (map g xs ++ rest)) (stays x)
    ∙ ap (λ l. g x ∷ l) (placed_section g stands stays xs rest)

placed_others : (net : Net) (others : List Node) (rest : List Row)
    → placed_from place.Network (map (station_row net) others ++ rest)
    ≡ map (station_row net) others ++ placed_from place.Network rest
unfolding fate_of may_stand below_row
placed_others net others rest = placed_section (station_row net) (λ x. refl) (λ x. refl) others rest

placed_resources : (net : Net) (rs : List Resource) (rest : List Row)
    → placed_from place.Network (map (resource_row net) rs ++ rest)
    ≡ map (resource_row net) rs ++ placed_from place.Network rest
unfolding fate_of may_stand below_row
placed_resources net rs rest = placed_section (resource_row net) (λ x. refl) (λ x. refl) rs rest

placed_prompts : (ps : List PromptDef) (rest : List Row)
    → placed_from place.Network (map prompt_row ps ++ rest) ≡ map prompt_row ps ++ placed_from place.Network rest
unfolding fate_of may_stand below_row
placed_prompts ps rest = placed_section prompt_row (λ x. refl) (λ x. refl) ps rest

placed_carry : (cs : List Carry) (rest : List Row)
    → placed_from place.Network (map row.CarryForward cs ++ rest) ≡ map row.CarryForward cs ++ placed_from place.Network rest
unfolding fate_of may_stand below_row
placed_carry cs rest = placed_section row.CarryForward (λ x. refl) (λ x. refl) cs rest

placed_head : (name : List ℕ) (rest : List Row)
    → placed_from place.Nothing (row.Network ∷ row.Master name ∷ rest)
    ≡ row.Network ∷ row.Master name ∷ placed_from place.Network rest
unfolding placed_from fate_of may_stand below_row
placed_head name rest = refl

placed_end : placed_from place.Network (row.Steps ∷ []) ≡ row.Steps ∷ []
unfolding placed_from fate_of may_stand below_row
placed_end = refl

pub all_stand : (net : Net) (m : Node) (others : List Node)
    → placed_from place.Nothing (net_rows net m others) ≡ net_rows net m others
all_stand net m others =
    placed_head m.name (map (station_row net) others ++ below_others net)
    ∙ ap (λ l. row.Network ∷ row.Master m.name ∷ l)
    (placed_others net others (below_others net)
    ∙ ap (λ l. map (station_row net) others ++ l)
    (placed_resources net net.resources (below_resources net)
    ∙ ap (λ l. map (resource_row net) net.resources ++ l)
    (placed_prompts net.prompts (map row.CarryForward (told net.carry) ++ row.Steps ∷ [])
    ∙ ap (λ l. map prompt_row net.prompts ++ l)
    (placed_carry (told net.carry) (row.Steps ∷ []) ∙ ap (λ l. map row.CarryForward (told net.carry) ++ l) placed_end))))
