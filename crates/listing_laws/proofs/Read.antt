-- The listing of drafts is read back.
use Rattle.std.proofs.Common.{◌≡◌, ◌+◌, ℕ, suc, Bool, true, false, cond, not, List, [], ◌∷◌, ◌++◌, None, Ok, Err}
use Rattle.std.proofs.Common.{length, refl, ap, sym, ◌∙◌, arith, flat_map, map, append-nil, append_assoc, codes, option_map, length-append, IsUtf8}
use Rattle.std.specs.List.{AllByRecursion, list_all, position_or_len, prefix_len}
use Rattle.std.specs.Option.{option_map_or}
use Rattle.std.proofs.lemmas.List.{length-map}
use Rattle.lemmas.proofs.Booleans.{and_parts}
use Rattle.lemmas.proofs.Numbers.{suc_not_zero}
use Rattle.base_types.specs.declared.network.Carry.TheVariants as carry
use Rattle.history_laws.specs.Printables.{IsPrintable}
use Rattle.history_laws.proofs.Accepted.{Accepted, Headed, accepted, headed}
use Rattle.history_laws.proofs.Printed.{end_is, told}
use Rattle.history_laws.proofs.Sections.{prompt_row, resource_row, station_row}
use Rattle.history_laws.proofs.Words.{plain_lacks_feed}
use Rattle.history_laws.proofs.Meant.{no_place}
use Rattle.model.specs.Types.{JobDraft, Net, Node, StreamDraft}
use Rattle.network_tree.specs.Faults.{net_fault}
use Rattle.plan_listing.specs.Listings.{listing_of}
use Rattle.plan_listing.specs.Networks.{network_text}
use Rattle.plan_listing.specs.Streams.{stream_text}
use Rattle.record_faults.specs.Faults.{first_fault}
use Rattle.record_faults.specs.Known.{named_in, until}
use Rattle.record_faults.specs.Places.{placed_from}
use Rattle.record_faults.specs.declared.places.Place.TheVariants as place
use Rattle.record_rows.specs.Plans.{dep_of, part_of}
use Rattle.record_rows.specs.Rows.{form_below, form_of, network_row, plan_row, row_of, rows_of}
use Rattle.record_rows.specs.Steps.{step_of}
use Rattle.record_rows.specs.declared.rows.Row.{Row}
use Rattle.record_rows.specs.declared.rows.Row.TheVariants as row
use Rattle.record_rows.specs.declared.rows.StepRow.TheVariants as step
use Rattle.record_script.specs.Numbers.{Numbered, numbered}
use Rattle.record_script.specs.Plans.{each, ends_section, plans_of, section_in, streams_in}
use Rattle.record_script.specs.Scripts.{definitions_line, fault_of, is_definitions, read_of, script_of, with_definitions}
use Rattle.record_script.specs.Steps.{step_at, step_form, steps_from, steps_of}
use Rattle.record_script.specs.declared.OneStep.TheVariants as one
use Rattle.record_script.specs.declared.StepForm.TheVariants as form
use Rattle.syntax.specs.Splits.{lines_of}
use Rattle.listing_laws.specs.Listables.{AreListable, IsListableJob, IsListableStream}
use Rattle.listing_laws.specs.ListingReturns.{script_of_listing, with_next}
use Rattle.listing_laws.proofs.Conditions.{cond_line_of}
use Rattle.listing_laws.proofs.Drafts.{Numbers, streams_are}
use Rattle.listing_laws.proofs.Ends.{end_clear, is_no_next}
use Rattle.listing_laws.proofs.RowKinds.{front_are, in_plan, rows_in_plan}
use Rattle.listing_laws.proofs.ListingChars.{listing_chars}
use Rattle.listing_laws.proofs.Networks.{front_spelled, keys_here, names_here, net_here, network_clear, prompts_here, stations_here}
use Rattle.listing_laws.proofs.ObjectLines.{IsCondLine, streams_spelled}
use Rattle.listing_laws.proofs.KnownNames.{Names}
use Rattle.listing_laws.proofs.Passing.{IsGoodStream, plan_clear}
use Rattle.listing_laws.proofs.Picks.{all_map, each_past, listed, steps_past, until_past}
use Rattle.listing_laws.proofs.Placed.{all_rows, all_stand, end_rows, front_rows, plan_rows, tail_rows}
use Rattle.listing_laws.proofs.Spelled.{Spells, spells_both, spells_line}
use Rattle.listing_laws.proofs.Texts.{are_texts}
use Rattle.listing_laws.proofs.Tails.{more_kinds, all_with, silent}

-- The lines.

plan_is : row_of (codes "$PLAN") ≡ row.Plan
unfolding row_of form_of
plan_is = refl

next_is : row_of (codes "next") ≡ row.Step step.Next
unfolding row_of form_of form_below step_of network_row plan_row part_of dep_of
next_is = refl

-- Rows before the one step.

abbrev is_before : Row → Bool
is_before row.Network = true
is_before (row.Master n) = true
is_before (row.Station s) = true
is_before (row.Resource w n t) = true
is_before (row.Prompt n t) = true
is_before (row.CarryForward c) = true
is_before row.Plan = true
is_before (row.Stream s) = true
is_before (row.Job j) = true
is_before (row.Part p) = true
is_before (row.Dep d) = true
is_before row.Steps = true
is_before r = false

front_is : (q : Row → Bool) → q row.Network ≡ true → ((n : List ℕ) → q (row.Master n) ≡ true)
    → ((net : Net) (x : Node) → q (station_row net x) ≡ true) → ((net : Net) (x : _) → q (resource_row net x) ≡ true)
    → ((x : _) → q (prompt_row x) ≡ true) → ((c : _) → q (row.CarryForward c) ≡ true) → (net : Net) (m : Node) (others : List Node)
    → list_all q (front_rows net m others) ≡ true
front_is q network master stations resources prompts carry_ net m others =
    listed q (front_rows net m others)
    (front_are q network master net m others (all_map q (station_row net) (stations net) others)
    (all_map q (resource_row net) (resources net) net.resources) (all_map q prompt_row prompts net.prompts)
    (all_map q row.CarryForward carry_ (told net.carry)))

plan_before : (r : Row) → in_plan r ≡ true → is_before r ≡ true
plan_before (row.Stream s) e = refl
plan_before (row.Job j) e = refl
plan_before (row.Part p) e = refl
plan_before (row.Dep d) e = refl
plan_before r e = absurd (cc)

before_rows : Net → Node → List Node → List StreamDraft → List Row
before_rows net m others drafts = (front_rows net m others ++ row.Plan ∷ plan_rows net drafts) ++ row.Steps ∷ []

before_are : (net : Net) (m : Node) (others : List Node) (drafts : List StreamDraft)
    → list_all is_before (before_rows net m others drafts) ≡ true
unfolding before_rows
before_are net m others drafts =
    all_with is_before (front_rows net m others ++ row.Plan ∷ plan_rows net drafts) (row.Steps ∷ [])
    (all_with is_before (front_rows net m others) (row.Plan ∷ plan_rows net drafts)
    (front_is is_before refl (λ n. refl) (λ n x. refl) (λ n x. refl) (λ x. refl) (λ c. refl) net m others)
    (more_kinds in_plan is_before plan_before (plan_rows net drafts)
    (listed in_plan (plan_rows net drafts) (rows_in_plan net drafts)))) refl

rows_split : (net : Net) (m : Node) (others : List Node) (drafts : List StreamDraft)
    → all_rows net m others drafts ≡ before_rows net m others drafts ++ row.Step step.Next ∷ []
unfolding before_rows
rows_split net m others drafts =
    gathered (front_rows net m others) (row.Plan ∷ plan_rows net drafts) (row.Steps ∷ []) (row.Step step.Next ∷ [])
  where
    gathered : (f p s n : List Row) → f ++ (p ++ (s ++ n)) ≡ ((f ++ p) ++ s) ++ n
    gathered f p s n = simp append_assoc

before_next : (r : Row) → is_before r ≡ true → is_no_next r ≡ true
before_next row.Network e = refl
before_next (row.Master n) e = refl
before_next (row.Station s) e = refl
before_next (row.Resource w n t) e = refl
before_next (row.Prompt n t) e = refl
before_next (row.CarryForward c) e = refl
before_next row.Plan e = refl
before_next (row.Stream s) e = refl
before_next (row.Job j) e = refl
before_next (row.Part p) e = refl
before_next (row.Dep d) e = refl
before_next row.Steps e = refl
before_next r e = absurd (cc)

before_step : (n : Numbered) (line : ℕ) (r : Row) → is_before r ≡ true → step_at n (line, r) ≡ None
before_step n line row.Network e = refl
before_step n line (row.Master m) e = refl
before_step n line (row.Station s) e = refl
before_step n line (row.Resource w m t) e = refl
before_step n line (row.Prompt m t) e = refl
before_step n line (row.CarryForward c) e = refl
before_step n line row.Plan e = refl
before_step n line (row.Stream s) e = refl
before_step n line (row.Job j) e = refl
before_step n line (row.Part p) e = refl
before_step n line (row.Dep d) e = refl
before_step n line row.Steps e = refl
before_step n line r e = absurd (cc)

-- no line is `$DEFINITIONS`
before_definitions : (r : Row) → is_before r ≡ true → is_definitions r ≡ false
before_definitions row.Network e = refl
before_definitions (row.Master m) e = refl
before_definitions (row.Station s) e = refl
before_definitions (row.Resource w m t) e = refl
before_definitions (row.Prompt m t) e = refl
before_definitions (row.CarryForward c) e = refl
before_definitions row.Plan e = refl
before_definitions (row.Stream s) e = refl
before_definitions (row.Job j) e = refl
before_definitions (row.Part p) e = refl
before_definitions (row.Dep d) e = refl
before_definitions row.Steps e = refl
before_definitions r e = absurd (cc)

one_step : (n : Numbered) (k : ℕ) → steps_from n k (row.Step step.Next ∷ []) ≡ record { line = k; form = form.One one.Next } ∷ []
unfolding step_form
one_step n k = refl

past_rows : (rows : List Row) (r : Row) → list_all is_before rows ≡ true → is_definitions r ≡ false
    → position_or_len is_definitions (rows ++ r ∷ []) ≡ length (rows ++ r ∷ [])
past_rows [] r e other = ap (λ b. cond (not b) 1 0) other
past_rows (x ∷ rows) r e other =
    let parts = and_parts (is_before x) (list_all is_before rows) e in
    ap (λ b. cond (not b) (1 + prefix_len (λ y. not (is_definitions y)) (rows ++ r ∷ [])) 0) (before_definitions x parts.0)
    ∙ ap (λ k. 1 + k) (past_rows rows r parts.1 other) ∙ (let next : 1 + length (rows ++ r ∷ []) ≡ suc (length (rows ++ r ∷ [])) = omega arith in next)

-- rows of the network before a section
abbrev is_front : Row → Bool
is_front row.Network = true
is_front (row.Master n) = true
is_front (row.Station s) = true
is_front (row.Resource w n t) = true
is_front (row.Prompt n t) = true
is_front (row.CarryForward c) = true
is_front r = false

front_section : (r : Row) → is_front r ≡ true → section_in r ≡ None
front_section row.Network e = refl
front_section (row.Master n) e = refl
front_section (row.Station s) e = refl
front_section (row.Resource w n t) e = refl
front_section (row.Prompt n t) e = refl
front_section (row.CarryForward c) e = refl
front_section r e = absurd (cc)

plan_section : (r : Row) → in_plan r ≡ true → section_in r ≡ None
plan_section (row.Stream s) e = refl
plan_section (row.Job j) e = refl
plan_section (row.Part p) e = refl
plan_section (row.Dep d) e = refl
plan_section r e = absurd (cc)

plan_no_end : (r : Row) → in_plan r ≡ true → ends_section r ≡ false
plan_no_end (row.Stream s) e = refl
plan_no_end (row.Job j) e = refl
plan_no_end (row.Part p) e = refl
plan_no_end (row.Dep d) e = refl
plan_no_end r e = absurd (cc)

-- the streams with their conditions
good_jobs : (net : Net) (jobs : List JobDraft) → AllByRecursion (IsListableJob net) jobs
    → AllByRecursion (λ (j : JobDraft). IsCondLine j.cond) jobs
good_jobs net [] all = tt
good_jobs net (j ∷ jobs) all = (cond_line_of j.cond all.0.cond, good_jobs net jobs all.1)

good_streams : (net : Net) (drafts : List StreamDraft) → AllByRecursion (IsListableStream net) drafts
    → AllByRecursion (IsGoodStream net) drafts
good_streams net [] all = tt
good_streams net (s ∷ drafts) all =
    (record { listable = all.0; read = good_jobs net s.jobs all.0.jobs }, good_streams net drafts all.1)

module _ (net : Net) (p : IsPrintable net) (a : Accepted net) (h : Headed net) (drafts : List StreamDraft) (l : AreListable net drafts) where
  abbrev rows : List Row
  rows = all_rows net h.master h.others drafts

  abbrev front : List Row
  front = front_rows net h.master h.others

  abbrev plan : List Row
  plan = plan_rows net drafts

  abbrev tail : List Row
  tail = tail_rows net drafts

  good : AllByRecursion (IsGoodStream net) drafts
  good = good_streams net drafts l.each

  rows_are : rows_of (with_next (listing_of net drafts)) ≡ rows
  unfolding listing_of lines_of
  rows_are =
      let text : Spells (network_text net ++ codes "$PLAN\n" ++ flat_map (stream_text net) drafts) ((front ++ row.Plan ∷ []) ++ plan) =
      spells_both (network_text net ++ codes "$PLAN\n") (flat_map (stream_text net) drafts) (front ++ row.Plan ∷ []) plan
      (spells_both (network_text net) (codes "$PLAN\n") front (row.Plan ∷ []) (front_spelled net p a h)
      (spells_line (codes "$PLAN") row.Plan (plain_lacks_feed (codes "$PLAN") refl) plan_is))
      (streams_spelled net drafts (are_texts net p a drafts l good)) in
      let steps : Spells (codes "$STEPS\n") (row.Steps ∷ []) =
      spells_line (codes "$STEPS") row.Steps (plain_lacks_feed (codes "$STEPS") refl) end_is in
      let next : Spells (codes "next\n") (row.Step step.Next ∷ []) =
      spells_line (codes "next") (row.Step step.Next) (plain_lacks_feed (codes "next") refl) next_is in
      let last : rows_of (codes "$STEPS\nnext\n") ≡ end_rows =
      spells_both (codes "$STEPS\n") (codes "next\n") (row.Steps ∷ []) (row.Step step.Next ∷ []) steps next [] in
      text (codes "$STEPS\nnext\n") ∙ ap (λ r. ((front ++ row.Plan ∷ []) ++ plan) ++ r) last
      ∙ gathered front (row.Plan ∷ []) plan end_rows
    where
      gathered : (f s d e : List Row) → ((f ++ s) ++ d) ++ e ≡ f ++ (s ++ (d ++ e))
      gathered f s d e = simp append_assoc

  named : Names net (named_in rows)
  named =
      record {
        stations = stations_here net p a h tail (silent net drafts);
        resources = keys_here net p a h tail (silent net drafts);
        prompts = prompts_here net p a h tail (silent net drafts);
      }

  numbers : Numbers net (numbered rows)
  numbers =
      record {
        stations = names_here net p a h tail (silent net drafts);
        resources = keys_here net p a h tail (silent net drafts);
        prompts = prompts_here net p a h tail (silent net drafts);
      }

  quiet : list_all is_no_next ((front ++ row.Plan ∷ plan) ++ row.Steps ∷ []) ≡ true
  unfolding before_rows
  quiet =
      more_kinds is_before is_no_next before_next ((front ++ row.Plan ∷ plan) ++ row.Steps ∷ [])
      (before_are net h.master h.others drafts)

  none_first : first_fault (named_in rows) rows ≡ None
  unfolding first_fault
  none_first =
      network_clear net p a h (named_in rows) named.stations tail (suc_not_zero (length (plan ++ end_rows)))
      ∙ plan_clear net a (named_in rows) named drafts front good l.once end_rows refl
      ∙ end_clear (named_in rows) front plan quiet

  no_definitions : definitions_line rows ≡ None
  no_definitions =
      ap (λ o. option_map (λ i. i + 1) o)
      (no_place (position_or_len is_definitions rows) (length rows)
      (ap (position_or_len is_definitions) (rows_split net h.master h.others drafts)
      ∙ past_rows (before_rows net h.master h.others drafts) (row.Step step.Next) (before_are net h.master h.others drafts) refl
      ∙ ap length (sym (rows_split net h.master h.others drafts))))

  no_fault : fault_of rows ≡ None
  unfolding with_definitions
  no_fault = ap (λ o. with_definitions o (first_fault (named_in rows) rows)) no_definitions ∙ none_first

  -- What it means.

  front_here : list_all is_front front ≡ true
  front_here =
      front_is is_front refl (λ n. refl) (λ n x. refl) (λ n x. refl) (λ x. refl) (λ c. refl) net h.master h.others

  plan_here : list_all in_plan plan ≡ true
  plan_here = listed in_plan plan (rows_in_plan net drafts)

  plans_are : plans_of rows ≡ drafts ∷ []
  plans_are =
      let behind : List Row = plan ++ end_rows in
      let sections : each section_in rows ≡ (tt, behind) ∷ [] =
      each_past is_front section_in front_section front tail front_here
      ∙ ap (λ l. (tt, behind) ∷ l) (each_past in_plan section_in plan_section plan end_rows plan_here) in
      let own : until ends_section behind ≡ plan =
      until_past in_plan ends_section plan_no_end plan end_rows plan_here ∙ append-nil plan in
      ap (λ ps. map (λ (q : Unit {0} × List Row). streams_in (numbered rows) (until ends_section q.1)) ps) sections
      ∙ ap (λ r. streams_in (numbered rows) r ∷ []) own
      ∙ ap (λ x. x ∷ []) (streams_are net a (numbered rows) numbers drafts good)

  steps_are : steps_of rows ≡ record { line = length rows; form = form.One one.Next } ∷ []
  steps_are =
      let before : List Row = before_rows net h.master h.others drafts in
      let split = rows_split net h.master h.others drafts in
      let count : length rows ≡ 1 + length before =
      ap length split ∙ length-append before (row.Step step.Next ∷ [])
      ∙ (let turned : length before + 1 ≡ 1 + length before = omega arith in turned) in
      ap (steps_from (numbered rows) 1) split
      ∙ steps_past is_before (numbered rows) (before_step (numbered rows)) before (row.Step step.Next ∷ []) 1
      (before_are net h.master h.others drafts)
      ∙ one_step (numbered rows) (1 + length before)
      ∙ ap (λ k. record { line = k; form = form.One one.Next } ∷ []) (sym count)

  line_is : length rows ≡ length (lines_of (with_next (listing_of net drafts)))
  line_is = sym (ap length rows_are) ∙ length-map (lines_of (with_next (listing_of net drafts))) row_of

  script_is : script_of rows ≡ script_of_listing net drafts
  script_is = λ i. record {
    net = net_here net p a h tail (silent net drafts) i;
    plans = plans_are i;
    steps = (steps_are ∙ ap (λ k. record { line = k; form = form.One one.Next } ∷ []) line_is) i;
  }

  read_by : read_of (with_next (listing_of net drafts)) ≡ Ok (script_of_listing net drafts)
  unfolding read_of
  read_by =
      ap (λ r. option_map_or Err (fault_of r) (Ok (script_of r)))
      (ap (placed_from place.Nothing) rows_are ∙ all_stand net h.master h.others drafts)
      ∙ ap (λ o. option_map_or Err o (Ok (script_of rows))) no_fault
      ∙ ap Ok script_is

pub listing_back : (net : Net) (drafts : List StreamDraft) → IsPrintable net → net_fault net ≡ None → AreListable net drafts
    → read_of (with_next (listing_of net drafts)) ≡ Ok (script_of_listing net drafts)
listing_back net drafts p none l =
    let a = accepted net none in
    read_by net p a (headed net a) drafts l

pub listing_is_text : (net : Net) (drafts : List StreamDraft) → IsPrintable net → net_fault net ≡ None → AreListable net drafts
    → IsUtf8 (with_next (listing_of net drafts))
listing_is_text net drafts p none l =
    listing_chars net drafts p none (are_texts net p (accepted net none) drafts l (good_streams net drafts l.each))
