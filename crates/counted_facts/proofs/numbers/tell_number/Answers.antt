use Rattle.std.proofs.Common.{ℕ, subst}
use Rattle.lemmas.proofs.Results.{after_ok}
use Rattle.counted_facts.specs.Timelines.{HasOneMore}
use Rattle.counted_facts.proofs.Numbered.{number_told}
use Rattle.counted_facts.proofs.numbers.tell_number.Goals as goal

pub returns : goal.returns
returns c =
    after_ok c.tell.result c.tell.ensures
    (λ more fact G e done at h. number_told fact G e c.args.w c.args.place c.args.n done c.args.timelines.now
    c.tell.new.self at h
    (subst (λ (m : ℕ). HasOneMore (c.args.w, m) c.args.place c.args.place c.args.timelines.now c.tell.new.self) c.from.ensures more))
