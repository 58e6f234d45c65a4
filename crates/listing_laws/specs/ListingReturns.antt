-- What reading back the listing of a day is.
use Rattle.std.specs.Prelude.{ℕ, List, [], ◌∷◌, ◌++◌, codes, length}
use Rattle.history_laws.specs.Printables.{as_printed}
use Rattle.model.specs.Types.{Net, StreamDraft}
use Rattle.plan_listing.specs.Listings.{listing_of}
use Rattle.record_script.specs.declared.OneStep.TheVariants.{Next}
use Rattle.record_script.specs.declared.Script.{Script}
use Rattle.record_script.specs.declared.StepForm.TheVariants.{One}
use Rattle.syntax.specs.Splits.{lines_of}

-- a listing with `$STEPS` and one `next` behind it
abbrev pub with_next : List ℕ → List ℕ
with_next text = text ++ codes "$STEPS\nnext\n"

-- The record that it is: the network as its lines say it, the drafts as its one plan, and in its last line the step that
-- takes them.
abbrev pub script_of_listing : Net → List StreamDraft → Script
script_of_listing net drafts =
    record {
      net = as_printed net;
      plans = drafts ∷ [];
      steps = record { line = length (lines_of (with_next (listing_of net drafts))); form = One Next } ∷ [];
    }
