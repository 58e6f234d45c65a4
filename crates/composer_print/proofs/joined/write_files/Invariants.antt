use Rattle.std.proofs.Common.{◌≡◌, ◌++◌, codes, drop, map}
use Rattle.composer_print.specs.Texts.{begun_after, texts_from}
use Rattle.syntax.specs.Quotes.{quoted_text}
use Rattle.composer_print.proofs.joined.write_files.Given as goal

abbrev pub invariant-loop-file : goal.invariant-loop-file
invariant-loop-file l = record {
  text :
      l.initial.out.items ++ texts_from (codes ", ") (codes " OPENS ") l.begun (map quoted_text l.files)
      ≡ l.out.items ++ texts_from (codes ", ") (codes " OPENS ") l.stands (map quoted_text (drop l.file-index l.files));
  begun : begun_after l.begun (map quoted_text l.files) ≡ begun_after l.stands (map quoted_text (drop l.file-index l.files));
}
