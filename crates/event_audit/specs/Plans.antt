-- What a new plan has to meet, but for its run and its cut.
use Rattle.std.specs.List.{list_all}
use Rattle.std.specs.Prelude.{ℕ, ◌↔◌, IsTrue, List, filter_map}
use Rattle.model.specs.Types.{Carry, StreamDoc}
use Rattle.model.specs.Words.{IsPartOf, has}
use Rattle.model.specs.History.{View}
use Rattle.model.specs.Catalogue.{members, stream}
use Rattle.model.specs.Sound.{AreNumberedOn, IsTakenUnfinished, deps_in_docs, follows_what_is_meant}

-- exactly those of these streams are carried that the option takes
abbrev pub AreTheTaken : Carry → View → List ℕ → List ℕ → Type 0
AreTheTaken option V carried streams =
    (s : ℕ) → IsTrue (has streams s) → (IsTrue (has carried s) ↔ IsTakenUnfinished option V s)

-- the carried streams are members, in order, exactly those that the option takes
pub record CarriesExactly (option : Carry) (V : View) (carried : List ℕ) : Type 0 where
  pub in_order : IsPartOf carried (members V)
  pub exactly : AreTheTaken option V carried (members V)

-- the documents have the next numbers, and follow what is meant
pub record AreRightDocuments (V : View) (carried : List ℕ) (docs : List StreamDoc) : Type 0 where
  pub numbers : AreNumberedOn V docs
  pub follows : IsTrue (list_all (follows_what_is_meant docs (filter_map (stream V) carried)) (deps_in_docs docs))
