-- What the canonical text of definitions calls for.
use Rattle.std.proofs.Common.{◌≡◌, ◌<◌, ◌≤◌, ◌∙◌, ℕ, Bool, true, false, List, Option, Some, None, length, refl, ap, sym, subst}
use Rattle.std.specs.Option.{option_or}
use Rattle.std.specs.Prelude.{nat_lt, option_map, ◌∷◌, []}
use Rattle.canonical_laws.proofs.Meanings.{one_limit, one_list_of_drafts, one_net, one_text, timed_together}
use Rattle.canonical_laws.proofs.Texts.{are_read, faultless_read, form_of_read, text_read}
use Rattle.composer_parser.specs.declared.Defs.{Defs}
use Rattle.composer_print.specs.Normal.{normal}
use Rattle.composer_print.specs.Printed.{printed}
use Rattle.definition_texts.specs.Refusals.{AreChecked}
use Rattle.definition_texts.specs.Told.{refusal}
use Rattle.definition_texts.specs.declared.RefusalKind.TheVariants as kind
use Rattle.input_commands.specs.Dues.{DefinitionsCallFor, LeftCallsFor}
use Rattle.input_commands.specs.Lines.{outcome_status, outcome_text}
use Rattle.input_commands.specs.Replies.{ComesOf, IsPlan}
use Rattle.input_commands.specs.declared.Outcome.{Outcome}
use Rattle.input_commands.specs.declared.Outcome.TheVariants.{Refused, Text, TooMany}
use Rattle.input_commands.specs.declared.Wish.TheVariants.{CanonicalText}
use Rattle.model.specs.Words.{first_of_these, least}
use Rattle.plan_builder.specs.Drafts.{AreDrafts}
use Rattle.plan_builder.specs.Limits.{job_count, limit_fault, plan_fault, running, time_fault, timeless_lines}
use Rattle.plan_builder.specs.Times.{plan_day}
use Rattle.plan_builder.specs.declared.PlanFault.{PlanFault}
use Rattle.plan_builder.specs.declared.PlanFault.TheVariants.{Limit, OutOfRange}
use Rattle.plan_listing.specs.Listings.{listing_of}
use Rattle.record_laws.proofs.Drafts.{drafts_there}
use Rattle.replies.specs.declared.statuses.Status.TheVariants.{Success}
use Rattle.workload_defs.specs.Nets.{net_of}
use Rattle.command_laws.specs.Canonical.{CompileCallsFor, CompilesToItself, PlanCallsFor, PlansAlike, PlansAsBefore}

-- what checked definitions call for
planned : (day : ℕ) (bytes : List ℕ) (d : Defs) (o : Outcome) → length bytes ≤ 16777216 → AreChecked bytes d → IsPlan day d o
    → PlanCallsFor day bytes (outcome_status o) (outcome_text o)
planned day bytes d o short are is = LeftCallsFor.read short (DefinitionsCallFor.comes o (ComesOf.read d are is))

-- the limit comes before a time without a moment
limited : (d : Defs) (day most : ℕ) → limit_fault d day ≡ Some (Limit most) → plan_fault d day ≡ Some (Limit most)
limited d day most is = ap (λ (o : Option PlanFault). option_or o (time_fault d day)) is

unlimited : (d : Defs) (day : ℕ) → limit_fault d day ≡ None → plan_fault d day ≡ time_fault d day
unlimited d day none = ap (λ (o : Option PlanFault). option_or o (time_fault d day)) none

-- Two texts of definitions with one normal form.
module _ (bytes text : List ℕ) (d e : Defs) (day : ℕ) where
  record AreAlike : Type 0 where
    short : length bytes ≤ 16777216
    fits : length text ≤ 16777216
    first : AreChecked bytes d
    second : AreChecked text e
    form : normal d ≡ normal e

  full_in : AreAlike → (most : ℕ) → limit_fault d day ≡ Some (Limit most) → PlansAlike day bytes text
  full_in h most is =
      PlansAlike.full most
      (planned day bytes d (TooMany most) h.short h.first (IsPlan.too_many most (limited d day most is)))
      (planned day text e (TooMany most) h.fits h.second
      (IsPlan.too_many most (limited e day most (sym (one_limit d e h.form day) ∙ is))))

  listed_in : AreAlike → limit_fault d day ≡ None → time_fault d day ≡ None → PlansAlike day bytes text
  listed_in h no_limit none =
      let there = drafts_there d day in
      let same : AreDrafts e day there.0 =
      one_list_of_drafts d e (are_read bytes d h.first.are) (are_read text e h.second.are) h.form day there.0 there.1 in
      let other : limit_fault e day ≡ None = sym (one_limit d e h.form day) ∙ no_limit in
      PlansAlike.listed (listing_of (net_of d) there.0)
      (planned day bytes d (Text (listing_of (net_of d) there.0)) h.short h.first
      (IsPlan.listed there.0 (unlimited d day no_limit ∙ none) there.1))
      (subst (λ net. PlanCallsFor day text Success (listing_of net there.0)) (sym (one_net d e h.form))
      (planned day text e (Text (listing_of (net_of e) there.0)) h.fits h.second
      (IsPlan.listed there.0 (unlimited e day other ∙ timed_together d e h.form day none) same)))

  timeless_in : AreAlike → limit_fault d day ≡ None → (line : ℕ) → time_fault d day ≡ Some (OutOfRange line)
      → PlansAlike day bytes text
  timeless_in h no_limit line is = go (least (timeless_lines e (plan_day e day) (running e day))) refl
    where
      go : (o : Option ℕ) → least (timeless_lines e (plan_day e day) (running e day)) ≡ o → PlansAlike day bytes text
      go None none =
          let timed : time_fault d day ≡ None =
          timed_together e d (sym h.form) day (ap (option_map OutOfRange) none) in
          absurd (let both : None ≡ Some (OutOfRange line) = sym timed ∙ is in cc)
      go (Some own) also =
          let other : limit_fault e day ≡ None = sym (one_limit d e h.form day) ∙ no_limit in
          PlansAlike.timeless line own
          (planned day bytes d (Refused (refusal line kind.OutOfRange)) h.short h.first
          (IsPlan.no_moment line (unlimited d day no_limit ∙ is)))
          (planned day text e (Refused (refusal own kind.OutOfRange)) h.fits h.second
          (IsPlan.no_moment own (unlimited e day other ∙ ap (option_map OutOfRange) also)))

  by_times : AreAlike → limit_fault d day ≡ None → (o : Option ℕ)
      → least (timeless_lines d (plan_day d day) (running d day)) ≡ o → PlansAlike day bytes text
  by_times h none None is = listed_in h none (ap (option_map OutOfRange) is)
  by_times h none (Some line) is = timeless_in h none line (ap (option_map OutOfRange) is)

  by_limits : AreAlike → (a b : Bool) → nat_lt 4096 (length (running d day)) ≡ a
      → nat_lt 16384 (job_count d (running d day)) ≡ b → PlansAlike day bytes text
  by_limits h a b streams jobs =
      go a b
      (λ i. first_of_these ((streams i, Limit 4096) ∷ (jobs i, Limit 16384) ∷ []))
    where
      go : (a b : Bool) → limit_fault d day ≡ first_of_these ((a, Limit 4096) ∷ (b, Limit 16384) ∷ [])
          → PlansAlike day bytes text
      go true b is = full_in h 4096 is
      go false true is = full_in h 16384 is
      go false false is = by_times h is (least (timeless_lines d (plan_day d day) (running d day))) refl

  alike : AreAlike → PlansAlike day bytes text
  alike h = by_limits h (nat_lt 4096 (length (running d day))) (nat_lt 16384 (job_count d (running d day))) refl refl

-- what is read from the canonical text
record IsReadAgain (d : Defs) : Type 0 where
  again : Defs
  checked : AreChecked (printed d) again
  form : normal d ≡ normal again

read_again : (bytes : List ℕ) (d : Defs) → AreChecked bytes d → IsReadAgain d
read_again bytes d h =
    let e = text_read bytes d h.are in
    let same = form_of_read bytes d e.0 h.are e.1 in
    record {
      again = e.0;
      checked = record { are = e.1; faultless = (faultless_read d e.0 same).0 h.faultless };
      form = same;
    }

pub compiles_to_itself : (bytes : List ℕ) (d : Defs) → AreChecked bytes d → CompilesToItself (printed d)
compiles_to_itself bytes d h =
    let e = read_again bytes d h in
    record {
      same = λ fits.
          subst (λ text. CompileCallsFor (printed d) Success text) (sym (one_text d e.again e.form))
          (LeftCallsFor.read fits
          (DefinitionsCallFor.comes (Text (printed e.again)) (ComesOf.read e.again e.checked refl)));
      too_long = λ more. LeftCallsFor.too_long more;
    }

pub plans_as_before : (bytes : List ℕ) (d : Defs) → AreChecked bytes d → length bytes ≤ 16777216
    → PlansAsBefore bytes (printed d)
plans_as_before bytes d h short =
    let e = read_again bytes d h in
    record {
      days = λ fits day.
          alike bytes (printed d) d e.again day
          (record { short = short; fits = fits; first = h; second = e.checked; form = e.form });
      too_long = λ more day. LeftCallsFor.too_long more;
    }
