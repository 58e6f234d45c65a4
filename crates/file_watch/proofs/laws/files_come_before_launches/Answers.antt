use Rattle.file_watch.proofs.Launches.{ready_was_told}
use Rattle.file_watch.proofs.laws.files_come_before_launches.Goals as goal

pub returns : goal.returns
returns c = λ net V w j i path h e waived. ready_was_told net V w j i path h e waived
