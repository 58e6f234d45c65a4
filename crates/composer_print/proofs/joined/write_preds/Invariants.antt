use Rattle.std.proofs.Common.{◌≡◌, ◌++◌, codes, drop, map}
use Rattle.composer_print.specs.Texts.{begun_after, texts_from}
use Rattle.composer_print.specs.Clauses.{pred_text}
use Rattle.composer_print.specs.Scopes.{normal_pred}
use Rattle.composer_print.proofs.joined.write_preds.Given as goal

abbrev pub invariant-loop-pred : goal.invariant-loop-pred
invariant-loop-pred l = record {
  text :
      l.initial.out.items
      ++ texts_from (codes ", ") (codes " FOLLOWS ") l.begun (map (λ p. pred_text (normal_pred l.jobs l.home p)) l.preds)
      ≡ l.out.items
      ++ texts_from (codes ", ") (codes " FOLLOWS ") l.stands (map (λ p. pred_text (normal_pred l.jobs l.home p)) (drop l.pred-index l.preds));
  begun :
      begun_after l.begun (map (λ p. pred_text (normal_pred l.jobs l.home p)) l.preds)
      ≡ begun_after l.stands (map (λ p. pred_text (normal_pred l.jobs l.home p)) (drop l.pred-index l.preds));
}
