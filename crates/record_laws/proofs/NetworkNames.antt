-- Names of definitions are names as they are kept.
use Rattle.std.proofs.Common.{ℕ, List, Some, None, map, ap, ◌∙◌, if◌then◌else◌}
use Rattle.std.specs.Char.{to_ascii_uppercase}
use Rattle.std.proofs.lemmas.Bool.{and_parts}
use Rattle.base_types.specs.Name.{is_name_of}
use Rattle.syntax.specs.Names.{name_of}
use Rattle.composer_laws.specs.Written.{IsName}
use Rattle.history_laws.specs.Printables.{IsKeptName}

pub name_is_kept : (n : List ℕ) → IsName n → IsKeptName n
unfolding name_of
name_is_kept n h =
    let is = (and_parts (is_name_of n) _ h.free).0 in
    ap (λ b. if b then Some (map to_ascii_uppercase n) else None) is ∙ ap Some h.high
