use Rattle.std.proofs.Common.{◌∙◌, append_assoc}
use Rattle.std.proofs.lemmas.Result.{on_ok_weaker}
use Rattle.sample_record.specs.Samples.{sample_of}
use Rattle.sample_record.proofs.samples.write_sample.Goals as goal

pub returns : goal.returns
unfolding sample_of
returns c =
    on_ok_weaker c.write_steps.result
    (λ wrote. wrote
    ∙ rw (c.in_ok-write_plan.ensures, c.in_ok-write_each.ensures, c.in_ok-write.ensures.bytes) (simp append_assoc))
    c.write_steps.ensures
