use Rattle.std.proofs.Common.{◌≡◌, ◌++◌, codes, drop, map}
use Rattle.composer_print.specs.Texts.{begun_after, texts_from}
use Rattle.composer_print.specs.Clauses.{need_text}
use Rattle.composer_print.specs.Scopes.{normal_need}
use Rattle.composer_print.proofs.joined.write_needs.Given as goal

abbrev pub invariant-loop-need : goal.invariant-loop-need
invariant-loop-need l = record {
  text :
      l.initial.out.items
      ++ texts_from (codes ", ") (codes " NEEDS ") l.begun (map (λ n. need_text (normal_need l.own n)) l.needs)
      ≡ l.out.items
      ++ texts_from (codes ", ") (codes " NEEDS ") l.stands (map (λ n. need_text (normal_need l.own n)) (drop l.need-index l.needs));
  begun :
      begun_after l.begun (map (λ n. need_text (normal_need l.own n)) l.needs)
      ≡ begun_after l.stands (map (λ n. need_text (normal_need l.own n)) (drop l.need-index l.needs));
}
