-- Lists within a line.
use Rattle.std.specs.Prelude.{ℕ, List, [], ◌∷◌, ◌++◌, codes, map, flat_map}
use Rattle.std.specs.Fmt.{decimal}
use Rattle.base_types.specs.declared.Net.{Net}
use Rattle.report_text.specs.Names.{name_of}

-- texts that follow another, each behind a comma
abbrev pub after_commas : List (List ℕ) → List ℕ
after_commas texts = flat_map (λ text. codes "," ++ text) texts

-- texts with commas between them, and `-` where there is none
abbrev pub comma_list : List (List ℕ) → List ℕ
comma_list [] = codes "-"
comma_list (text ∷ texts) = text ++ after_commas texts

-- the numbers of streams
unfoldable pub numbers_text : List ℕ → List ℕ
numbers_text numbers = comma_list (map decimal numbers)

-- `W:N`
unfoldable pub count_text : Net → ℕ × ℕ → List ℕ
count_text net count = name_of net count.0 ++ codes ":" ++ decimal count.1

-- how many entries of each workstation were seen
unfoldable pub seen_text : Net → List (ℕ × ℕ) → List ℕ
seen_text net seen = comma_list (map (count_text net) seen)
