-- The words of the kinds of refusals.
use Rattle.std.specs.Prelude.{ℕ, List, codes}
use Rattle.definition_texts.specs.declared.kinds.RefusalKind.{RefusalKind}
use Rattle.definition_texts.specs.declared.kinds.RefusalKind.TheVariants as kind

abbrev pub word_of : RefusalKind → List ℕ
word_of kind.BadChar = codes "BadChar"
word_of kind.OpenText = codes "OpenText"
word_of kind.TooLong = codes "TooLong"
word_of kind.Expected = codes "Expected"
word_of kind.LeftOut = codes "LeftOut"
word_of kind.Duplicate = codes "Duplicate"
word_of kind.UnknownName = codes "UnknownName"
word_of kind.OutOfRange = codes "OutOfRange"
word_of kind.ForeignResource = codes "ForeignResource"
word_of kind.FollowsCycle = codes "FollowsCycle"
word_of kind.Tree = codes "Tree"
