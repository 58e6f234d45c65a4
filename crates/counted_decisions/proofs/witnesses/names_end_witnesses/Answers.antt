use Rattle.std.proofs.Common.{◌∙◌}
use Rattle.std.specs.Prelude.{map}
use Rattle.model.specs.Catalogue.{StreamJob, jobs_of_stream}
use Rattle.model.specs.Turn.{end_witnesses}
use Rattle.counted_decisions.specs.Sights.{seen_in}
use Rattle.counted_decisions.proofs.Naming.{only_named}
use Rattle.counted_decisions.proofs.witnesses.names_end_witnesses.Goals as goal

pub returns : goal.returns
unfolding end_witnesses
returns c =
    c.all_may_be_named.ensures
    ∙ only_named c.args.w (map (λ (p : StreamJob). p.doc.ws) (jobs_of_stream (seen_in c.args.sight.now) c.args.s))
    c.new-named.result c.add_job_owners.new.named c.args.sight.now.seen.now c.new-named.ensures.empty
    c.in_ok-add_job_owners.ensures
