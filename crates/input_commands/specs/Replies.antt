-- What comes of bytes, by what is wished of them.
use Rattle.std.specs.Prelude.{◌≡◌, ℕ, List, Some, None}
use Rattle.calendars.specs.Dates.{IsDay}
use Rattle.composer_parser.specs.declared.Defs.{Defs}
use Rattle.composer_print.specs.Printed.{printed}
use Rattle.input_commands.specs.declared.wishes.Outcome.{Outcome}
use Rattle.input_commands.specs.declared.wishes.Outcome.TheVariants.{Text, Refused, TooMany}
use Rattle.input_commands.specs.declared.wishes.Wish.{Wish}
use Rattle.input_commands.specs.declared.wishes.Wish.TheVariants.{CanonicalText, Plan}
use Rattle.definition_texts.specs.Refusals.{AreChecked, IsRefused}
use Rattle.definition_texts.specs.Told.{refusal}
use Rattle.definition_texts.specs.declared.Refusal.{Refusal}
use Rattle.definition_texts.specs.declared.RefusalKind.TheVariants as kind
use Rattle.model.specs.Types.{StreamDraft}
use Rattle.plan_builder.specs.Drafts.{AreDrafts}
use Rattle.plan_builder.specs.Limits.{plan_fault}
use Rattle.plan_builder.specs.declared.PlanFault.TheVariants as fault
use Rattle.plan_listing.specs.Listings.{listing_of}
use Rattle.workload_defs.specs.Nets.{net_of}

-- a day that is wished is one from 1970 to 9999
abbrev pub HasDay : Wish → Type 0
HasDay CanonicalText = Unit {0}
HasDay (Plan day) = IsDay day

-- What comes of checked definitions where the plan of a day is wished: its listing; where a limit is passed, that limit;
-- else where a time has no moment, the lowest line of such a time.
pub data IsPlan (day : ℕ) (d : Defs) : Outcome → Type 0 where
  listed : (drafts : List StreamDraft) → plan_fault d day ≡ None → AreDrafts d day drafts
      → IsPlan day d (Text (listing_of (net_of d) drafts))
  too_many : (most : ℕ) → plan_fault d day ≡ Some (fault.Limit most) → IsPlan day d (TooMany most)
  no_moment : (line : ℕ) → plan_fault d day ≡ Some (fault.OutOfRange line)
      → IsPlan day d (Refused (refusal line kind.OutOfRange))

-- what comes of checked definitions
abbrev pub IsOutcome : Wish → Defs → Outcome → Type 0
IsOutcome CanonicalText d o = o ≡ Text (printed d)
IsOutcome (Plan day) d o = IsPlan day d o

-- what comes of bytes
pub data ComesOf (wish : Wish) (bytes : List ℕ) : Outcome → Type 0 where
  refused : (r : Refusal) → IsRefused bytes r → ComesOf wish bytes (Refused r)
  read : {o : Outcome} → (d : Defs) → AreChecked bytes d → IsOutcome wish d o → ComesOf wish bytes o
