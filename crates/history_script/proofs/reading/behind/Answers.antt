use Rattle.std.proofs.Common.{ℕ, List, Bor}
use Rattle.history_script.proofs.Sizes.{behind_seen}
use Rattle.history_script.proofs.reading.behind.Goals as goal

pub returns-in-Some : goal.returns-in-Some
returns-in-Some c =
    behind_seen (λ (x : Bor (List ℕ)). x.now) c.args.texts.now c.args.place c.in-Some.place c.in-Some.is
