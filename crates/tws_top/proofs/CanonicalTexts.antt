-- What `compile` and `plan` wrote.
use Rattle.std.proofs.Common.{◌≡◌, ℕ, List, Option, Some}
use Rattle.command_laws.proofs.Canonical.{compiles_to_itself, plans_as_before}
use Rattle.command_laws.specs.Canonical.{WritesCanonical, WritesSamePlans}
use Rattle.composer_print.specs.Printed.{printed}
use Rattle.input_commands.specs.Words.{asked_of}
use Rattle.input_commands.specs.declared.words.Asked.TheVariants.{Input}
use Rattle.input_commands.specs.declared.words.Wanted.TheVariants.{Definitions}
use Rattle.input_commands.specs.declared.wishes.Wish.TheVariants.{Plan}
use Rattle.listing_runs.proofs.Listings.{day_asked, makes_its_plan}
use Rattle.listing_runs.specs.Listings.{WritesRecord}
use Rattle.outside.specs.Streams.{Stream}
use Rattle.tws_top.specs.InputRows.{Compiles, Plans}

module _ (old new : Option Stream) (written written' : Option (List ℕ)) where
  pub writes_canonical : Compiles old new written written' → WritesCanonical written written'
  writes_canonical c =
      record { text = printed c.defs; wrote = c.wrote; itself = compiles_to_itself c.bytes c.defs c.are }

  pub writes_same_plans : Compiles old new written written' → WritesSamePlans old new written written'
  writes_same_plans c =
      record {
        bytes = c.bytes;
        text = printed c.defs;
        read = c.read;
        wrote = c.wrote;
        plans = plans_as_before c.bytes c.defs c.are c.short;
      }

  pub writes_record : (words : List (List ℕ)) (day : ℕ) → asked_of words ≡ Some (Input (Definitions (Plan day)))
      → Plans day old new written written' → WritesRecord day old new written written'
  writes_record words day asked p =
      record {
        bytes = p.bytes;
        defs = p.defs;
        drafts = p.drafts;
        read = p.read;
        are = p.are;
        are_drafts = p.are_drafts;
        wrote = p.wrote;
        makes = makes_its_plan p.bytes p.defs day p.drafts p.are (day_asked words day asked) p.no_fault p.are_drafts;
      }
