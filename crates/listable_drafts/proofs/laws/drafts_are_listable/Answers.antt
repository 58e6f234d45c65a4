use Rattle.listable_drafts.proofs.DefinedDrafts.{drafts_listable}
use Rattle.listable_drafts.proofs.laws.drafts_are_listable.Goals as goal

pub returns : goal.returns
returns c = λ d all sound day drafts are. drafts_listable d all sound day drafts are
