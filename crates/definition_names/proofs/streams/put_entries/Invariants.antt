use Rattle.std.proofs.Common.{◌≡◌, ℕ, List, None, bytes_eq, drop, false, map}
use Rattle.std.specs.Prelude.{◌==◌}
use Rattle.std.specs.List.{position_from}
use Rattle.composer_parser.specs.declared.EntryDef.{EntryDef}
use Rattle.composer_parser.specs.declared.Lined.{Lined}
use Rattle.definition_names.specs.Indexes.{entry_in}
use Rattle.definition_names.proofs.streams.put_entries.Given as goal

abbrev pub invariant-loop-i : goal.invariant-loop-i
invariant-loop-i l =
    record {
      others : (m : ℕ) (name : List ℕ) → m == l.n ≡ false
          → entry_in l.index.entries m name ≡ entry_in l.initial.index.entries m name;
      own : (name : List ℕ) → entry_in l.initial.index.entries l.n name ≡ None
          → entry_in l.index.entries l.n name
          ≡ position_from (bytes_eq name) l.i (map (λ (e : Lined EntryDef). e.item.name) (drop l.i l.entries));
    }
