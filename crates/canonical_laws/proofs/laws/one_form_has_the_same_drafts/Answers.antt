use Rattle.canonical_laws.proofs.Meanings.{one_list_of_drafts}
use Rattle.canonical_laws.proofs.laws.one_form_has_the_same_drafts.Goals as goal

pub returns : goal.returns
returns c = λ d e ds es same day drafts are. one_list_of_drafts d e ds es same day drafts are
