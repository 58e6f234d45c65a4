-- What is said of definitions, by the status.
use Rattle.std.proofs.Common.{◌≡◌, ◌≤◌, ℕ, List, Option, subst, refl, length, arith}
use Rattle.std.specs.Io.KnownBytes.{Appends}
use Rattle.input_commands.specs.declared.wishes.Outcome.TheVariants as outcome
use Rattle.input_commands.specs.declared.wishes.Wish.{Wish}
use Rattle.input_commands.specs.declared.wishes.Wish.TheVariants.{CanonicalText, Plan}
use Rattle.outside.specs.Streams.{Stream, TakesAll}
use Rattle.replies.specs.declared.statuses.Status.{Status}
use Rattle.input_commands.specs.Nights.{Night}
use Rattle.replies.specs.Statuses.{number_of}
use Rattle.input_commands.specs.declared.words.Wanted.TheVariants as wants
use Rattle.input_commands.specs.Dues.{DefinitionsCallFor, ReadCallsFor}
use Rattle.tws_top.specs.InputRows.{Compiles, Plans, RefusesDefinitions, PassesLimit}
use Rattle.tws_top.proofs.Comings.{canonical, planned}

-- what was read, and what was written
module _ (old new : Option Stream) (written written' : Option (List ℕ)) where
  compiles_called : (bytes : List ℕ) (status : Status) (text : List ℕ) (night : Option Night) → TakesAll old new bytes
      → length bytes ≤ 16777216 → DefinitionsCallFor CanonicalText bytes status text night → number_of status ≡ 0
      → Appends written written' text → Compiles old new written written'
  compiles_called bytes status text night all short (DefinitionsCallFor.comes (outcome.Text t) comes) zero wrote =
      let is = canonical bytes (outcome.Text t) t comes refl in
      let P : List ℕ → Type 0 = λ x. Appends written written' x in record {
        bytes = bytes;
        defs = is.0;
        read = all;
        short = short;
        are = is.1;
        wrote = subst P is.2 wrote;
      }
  compiles_called bytes status text night all short (DefinitionsCallFor.comes (outcome.Refused r) comes) zero wrote =
      absurd (let never : ⊥ = omega arith in never)
  compiles_called bytes status text night all short (DefinitionsCallFor.comes (outcome.TooMany m) comes) zero wrote =
      absurd (let never : ⊥ = omega arith in never)

  plans_called : (day : ℕ) (bytes : List ℕ) (status : Status) (text : List ℕ) (night : Option Night)
      → TakesAll old new bytes → length bytes ≤ 16777216 → DefinitionsCallFor (Plan day) bytes status text night
      → number_of status ≡ 0 → Appends written written' text → Plans day old new written written'
  plans_called day bytes status text night all short (DefinitionsCallFor.comes (outcome.Text t) comes) zero wrote =
      let is = planned day bytes (outcome.Text t) t comes refl in
      let P : List ℕ → Type 0 = λ x. Appends written written' x in record {
        bytes = bytes;
        defs = is.0;
        drafts = is.2.drafts;
        read = all;
        short = short;
        are = is.1;
        no_fault = is.2.no_fault;
        are_drafts = is.2.are;
        wrote = subst P is.2.is wrote;
      }
  plans_called day bytes status text night all short (DefinitionsCallFor.comes (outcome.Refused r) comes) zero wrote =
      absurd (let never : ⊥ = omega arith in never)
  plans_called day bytes status text night all short (DefinitionsCallFor.comes (outcome.TooMany m) comes) zero wrote =
      absurd (let never : ⊥ = omega arith in never)

  pub compiles_read : (status : Status) (text : List ℕ) (night : Option Night)
      → ReadCallsFor (wants.Definitions CanonicalText) old new status text night → number_of status ≡ 0
      → Appends written written' text → Compiles old new written written'
  compiles_read status text night (ReadCallsFor.too_long takes) zero wrote =
      absurd (let never : ⊥ = omega arith in never)
  compiles_read status text night (ReadCallsFor.read bytes all short called) zero wrote =
      compiles_called bytes status text night all short called zero wrote

  pub plans_read : (day : ℕ) (status : Status) (text : List ℕ) (night : Option Night)
      → ReadCallsFor (wants.Definitions (Plan day)) old new status text night → number_of status ≡ 0
      → Appends written written' text → Plans day old new written written'
  plans_read day status text night (ReadCallsFor.too_long takes) zero wrote =
      absurd (let never : ⊥ = omega arith in never)
  plans_read day status text night (ReadCallsFor.read bytes all short called) zero wrote =
      plans_called day bytes status text night all short called zero wrote

  -- which are refused with 1 alone, and pass a limit with 10
  pub refused_called : (wish : Wish) (bytes : List ℕ) (status : Status) (text : List ℕ) (night : Option Night)
      → TakesAll old new bytes → DefinitionsCallFor wish bytes status text night → number_of status ≡ 1
      → Appends written written' text → RefusesDefinitions wish old new written written'
  refused_called wish bytes status text night all (DefinitionsCallFor.comes (outcome.Text t) comes) one wrote =
      absurd (let never : ⊥ = omega arith in never)
  refused_called wish bytes status text night all (DefinitionsCallFor.comes (outcome.Refused r) comes) one wrote =
      record { bytes = bytes; refusal = r; read = all; refused = comes; wrote = wrote }
  refused_called wish bytes status text night all (DefinitionsCallFor.comes (outcome.TooMany m) comes) one wrote =
      absurd (let never : ⊥ = omega arith in never)

  pub plan_limit : (wish : Wish) (bytes : List ℕ) (status : Status) (text : List ℕ) (night : Option Night)
      → TakesAll old new bytes → DefinitionsCallFor wish bytes status text night → number_of status ≡ 10
      → Appends written written' text → PassesLimit old new written written'
  plan_limit wish bytes status text night all (DefinitionsCallFor.comes (outcome.Text t) comes) ten wrote =
      absurd (let never : ⊥ = omega arith in never)
  plan_limit wish bytes status text night all (DefinitionsCallFor.comes (outcome.Refused r) comes) ten wrote =
      absurd (let never : ⊥ = omega arith in never)
  plan_limit wish bytes status text night all (DefinitionsCallFor.comes (outcome.TooMany m) comes) ten wrote =
      PassesLimit.of_plan wish bytes m all comes wrote

pub not_3 : (wish : Wish) (bytes : List ℕ) (status : Status) (text : List ℕ) (night : Option Night)
    → DefinitionsCallFor wish bytes status text night → number_of status ≡ 3 → ⊥
not_3 wish bytes status text night (DefinitionsCallFor.comes (outcome.Text t) comes) three = omega arith
not_3 wish bytes status text night (DefinitionsCallFor.comes (outcome.Refused r) comes) three = omega arith
not_3 wish bytes status text night (DefinitionsCallFor.comes (outcome.TooMany m) comes) three = omega arith

pub not_11 : (wish : Wish) (bytes : List ℕ) (status : Status) (text : List ℕ) (night : Option Night)
    → DefinitionsCallFor wish bytes status text night → number_of status ≡ 11 → ⊥
not_11 wish bytes status text night (DefinitionsCallFor.comes (outcome.Text t) comes) eleven = omega arith
not_11 wish bytes status text night (DefinitionsCallFor.comes (outcome.Refused r) comes) eleven = omega arith
not_11 wish bytes status text night (DefinitionsCallFor.comes (outcome.TooMany m) comes) eleven = omega arith
