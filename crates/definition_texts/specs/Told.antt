-- How the faults of tokens and of definitions are told.
use Rattle.std.specs.Prelude.{ℕ}
use Rattle.composer_lexer.specs.declared.LexFault.{LexFault}
use Rattle.composer_lexer.specs.declared.LexFault.TheVariants as lex
use Rattle.definition_faults.specs.declared.DefFault.{DefFault}
use Rattle.definition_faults.specs.declared.DefFault.TheVariants as def
use Rattle.definition_faults.specs.declared.Kind.{Kind}
use Rattle.definition_faults.specs.declared.Kind.TheVariants as of
use Rattle.definition_texts.specs.declared.kinds.RefusalKind.{RefusalKind}
use Rattle.definition_texts.specs.declared.kinds.RefusalKind.TheVariants as kind
use Rattle.definition_texts.specs.declared.refusals.Refusal.{Refusal}
use Rattle.definition_texts.specs.declared.refusals.NotRead.{NotRead}
use Rattle.definition_texts.specs.declared.refusals.NotRead.TheVariants.{Refused, NoMemory}

abbrev pub refusal : ℕ → RefusalKind → Refusal
refusal line k = record { line = line; kind = k }

abbrev pub refused_at : ℕ → RefusalKind → NotRead
refused_at line k = Refused (refusal line k)

abbrev pub lexed : LexFault → NotRead
lexed (lex.BadChar line) = refused_at line kind.BadChar
lexed (lex.OpenText line) = refused_at line kind.OpenText
lexed (lex.TooLong line) = refused_at line kind.TooLong
lexed lex.NoMemory = NoMemory

abbrev pub checked : DefFault → NotRead
checked (def.Duplicate line) = refused_at line kind.Duplicate
checked (def.UnknownName line) = refused_at line kind.UnknownName
checked (def.OutOfRange line) = refused_at line kind.OutOfRange
checked (def.ForeignResource line) = refused_at line kind.ForeignResource
checked (def.FollowsCycle line) = refused_at line kind.FollowsCycle
checked (def.Tree line) = refused_at line kind.Tree
checked def.NoMemory = NoMemory

-- the kinds of faults of definitions among all kinds
abbrev pub kind_of : Kind → RefusalKind
kind_of of.Duplicate = kind.Duplicate
kind_of of.UnknownName = kind.UnknownName
kind_of of.OutOfRange = kind.OutOfRange
kind_of of.ForeignResource = kind.ForeignResource
kind_of of.FollowsCycle = kind.FollowsCycle
kind_of of.Tree = kind.Tree
