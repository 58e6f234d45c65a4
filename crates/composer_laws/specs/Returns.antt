-- What reading back a canonical text is.
use Rattle.std.specs.Prelude.{◌≡◌, List, Ok}
use Rattle.base_types.specs.declared.reports.Token.{Token}
use Rattle.composer_lexer.specs.Tokens.{tokens_of}
use Rattle.composer_parser.specs.declared.definitions.Defs.{Defs}
use Rattle.composer_parser.specs.Grammars.{Spells}
use Rattle.composer_parser.specs.Composer.{defs}
use Rattle.composer_parser.specs.Faults.{last_line_of}
use Rattle.composer_parser.specs.Tokens.{all_spelled}
use Rattle.composer_print.specs.Normal.{normal}
use Rattle.composer_print.specs.Printed.{printed}
use Rattle.composer_laws.specs.Lines.{without_lines}

-- The canonical text has tokens, and these are definitions, which are the normal form but for their lines.
abbrev pub IsReadBack : Defs → Type 0
IsReadBack d =
    (ts : List Token) × (tokens_of (printed d) ≡ Ok ts)
    × ((e : Defs) × Spells (defs (last_line_of (printed d))) (all_spelled (printed d) ts) e × (without_lines e ≡ normal d))
