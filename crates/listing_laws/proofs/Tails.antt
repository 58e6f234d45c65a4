-- What rows behind the network say of it: nothing.
use Rattle.std.proofs.Common.{◌≡◌, ◌+◌, Bool, true, false, List, [], ◌∷◌, ◌++◌, Option, None}
use Rattle.std.proofs.Common.{refl, ap, sym, ◌∙◌, append-nil}
use Rattle.std.specs.Prelude.{filter_map}
use Rattle.std.specs.List.{list_all}
use Rattle.std.proofs.lemmas.List.Folds.{list_all-append}
use Rattle.lemmas.proofs.Booleans.{and_made, and_parts}
use Rattle.base_types.specs.declared.network.Carry.TheVariants as carry
use Rattle.model.specs.Types.{Net, StreamDraft}
use Rattle.record_faults.specs.Known.{prompt_of, resource_of, station_name, station_of}
use Rattle.record_rows.specs.declared.rows.Row.{Row}
use Rattle.record_rows.specs.declared.rows.Row.TheVariants as row
use Rattle.record_script.specs.Networks.{carry_in, first_or, node_of, prompt_def, resource_def}
use Rattle.record_script.specs.Numbers.{Numbered}
use Rattle.listing_laws.proofs.RowKinds.{in_plan, rows_in_plan}
use Rattle.listing_laws.proofs.Networks.{IsSilent}
use Rattle.listing_laws.proofs.Picks.{filter_past, first_past, listed}
use Rattle.listing_laws.proofs.Placed.{end_rows, plan_rows, tail_rows}

-- rows below `$PLAN`
abbrev is_tail : Row → Bool
is_tail row.Plan = true
is_tail (row.Stream s) = true
is_tail (row.Job j) = true
is_tail (row.Part p) = true
is_tail (row.Dep d) = true
is_tail row.Steps = true
is_tail (row.Step s) = true
is_tail r = false

plan_in_tail : (r : Row) → in_plan r ≡ true → is_tail r ≡ true
plan_in_tail (row.Stream s) e = refl
plan_in_tail (row.Job j) e = refl
plan_in_tail (row.Part p) e = refl
plan_in_tail (row.Dep d) e = refl
plan_in_tail r e = absurd (cc)

pub more_kinds : (p q : Row → Bool) → ((r : Row) → p r ≡ true → q r ≡ true) → (rows : List Row) → list_all p rows ≡ true → list_all q rows ≡ true
more_kinds p q more [] e = refl
more_kinds p q more (r ∷ rows) e =
    let parts = and_parts (p r) (list_all p rows) e in
    and_made (q r) (list_all q rows) (more r parts.0) (more_kinds p q more rows parts.1)

pub all_with : (q : Row → Bool) (xs ys : List Row) → list_all q xs ≡ true → list_all q ys ≡ true → list_all q (xs ++ ys) ≡ true
all_with q xs ys e h = list_all-append q xs ys ∙ and_made (list_all q xs) (list_all q ys) e h

tail_is : (net : Net) (drafts : List StreamDraft) → list_all is_tail (tail_rows net drafts) ≡ true
tail_is net drafts =
    all_with is_tail (plan_rows net drafts) end_rows
    (more_kinds in_plan is_tail plan_in_tail (plan_rows net drafts) (listed in_plan (plan_rows net drafts) (rows_in_plan net drafts)))
    refl

none_of : {B : Type 0} (f : Row → Option B) → ((r : Row) → is_tail r ≡ true → f r ≡ None) → (rows : List Row)
    → list_all is_tail rows ≡ true → filter_map f rows ≡ []
none_of f none rows e = ap (filter_map f) (sym (append-nil rows)) ∙ filter_past is_tail f none rows [] e

no_name : (r : Row) → is_tail r ≡ true → station_name r ≡ None
no_name row.Plan e = refl
no_name (row.Stream s) e = refl
no_name (row.Job j) e = refl
no_name (row.Part p) e = refl
no_name (row.Dep d) e = refl
no_name row.Steps e = refl
no_name (row.Step s) e = refl
no_name r e = absurd (cc)

no_station : (r : Row) → is_tail r ≡ true → station_of r ≡ None
no_station row.Plan e = refl
no_station (row.Stream s) e = refl
no_station (row.Job j) e = refl
no_station (row.Part p) e = refl
no_station (row.Dep d) e = refl
no_station row.Steps e = refl
no_station (row.Step s) e = refl
no_station r e = absurd (cc)

no_resource : (r : Row) → is_tail r ≡ true → resource_of r ≡ None
no_resource row.Plan e = refl
no_resource (row.Stream s) e = refl
no_resource (row.Job j) e = refl
no_resource (row.Part p) e = refl
no_resource (row.Dep d) e = refl
no_resource row.Steps e = refl
no_resource (row.Step s) e = refl
no_resource r e = absurd (cc)

no_prompt : (r : Row) → is_tail r ≡ true → prompt_of r ≡ None
no_prompt row.Plan e = refl
no_prompt (row.Stream s) e = refl
no_prompt (row.Job j) e = refl
no_prompt (row.Part p) e = refl
no_prompt (row.Dep d) e = refl
no_prompt row.Steps e = refl
no_prompt (row.Step s) e = refl
no_prompt r e = absurd (cc)

no_node : (n : Numbered) (r : Row) → is_tail r ≡ true → node_of n r ≡ None
no_node n row.Plan e = refl
no_node n (row.Stream s) e = refl
no_node n (row.Job j) e = refl
no_node n (row.Part p) e = refl
no_node n (row.Dep d) e = refl
no_node n row.Steps e = refl
no_node n (row.Step s) e = refl
no_node n r e = absurd (cc)

no_resource_def : (n : Numbered) (r : Row) → is_tail r ≡ true → resource_def n r ≡ None
no_resource_def n row.Plan e = refl
no_resource_def n (row.Stream s) e = refl
no_resource_def n (row.Job j) e = refl
no_resource_def n (row.Part p) e = refl
no_resource_def n (row.Dep d) e = refl
no_resource_def n row.Steps e = refl
no_resource_def n (row.Step s) e = refl
no_resource_def n r e = absurd (cc)

no_prompt_def : (r : Row) → is_tail r ≡ true → prompt_def r ≡ None
no_prompt_def row.Plan e = refl
no_prompt_def (row.Stream s) e = refl
no_prompt_def (row.Job j) e = refl
no_prompt_def (row.Part p) e = refl
no_prompt_def (row.Dep d) e = refl
no_prompt_def row.Steps e = refl
no_prompt_def (row.Step s) e = refl
no_prompt_def r e = absurd (cc)

no_carry : (r : Row) → is_tail r ≡ true → carry_in r ≡ None
no_carry row.Plan e = refl
no_carry (row.Stream s) e = refl
no_carry (row.Job j) e = refl
no_carry (row.Part p) e = refl
no_carry (row.Dep d) e = refl
no_carry row.Steps e = refl
no_carry (row.Step s) e = refl
no_carry r e = absurd (cc)

pub silent : (net : Net) (drafts : List StreamDraft) → IsSilent (tail_rows net drafts)
silent net drafts =
    let rows : List Row = tail_rows net drafts in
    let e = tail_is net drafts in
    record {
      names = none_of station_name no_name rows e;
      stations = none_of station_of no_station rows e;
      resources = none_of resource_of no_resource rows e;
      prompts = none_of prompt_of no_prompt rows e;
      nodes = λ n. none_of (node_of n) (no_node n) rows e;
      defined = λ n. none_of (resource_def n) (no_resource_def n) rows e;
      texts = none_of prompt_def no_prompt_def rows e;
      carry_ = ap (first_or carry.Yes carry_in) (sym (append-nil rows)) ∙ first_past is_tail carry.Yes carry_in no_carry rows [] e;
    }
