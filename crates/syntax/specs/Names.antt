use Rattle.std.specs.Prelude.{map, ℕ, List, Some, None, if◌then◌else◌}
use Rattle.std.specs.declared.option.Option.{Option}
use Rattle.std.specs.Char.{to_ascii_uppercase}
use Rattle.base_types.specs.Name.{is_name_of}

-- the name in upper case, where the word has the form of one
unfoldable pub name_of : List ℕ → Option (List ℕ)
name_of word = if is_name_of word then Some (map to_ascii_uppercase word) else None
