use Rattle.draft_laws.proofs.Drafts.{drafts_fit}
use Rattle.draft_laws.proofs.laws.drafts_are_fit.Goals as goal

pub returns : goal.returns
returns c = drafts_fit
