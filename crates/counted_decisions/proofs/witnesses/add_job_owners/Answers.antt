use Rattle.std.proofs.Common.{◌∙◌, [], ◌∷◌, List, ap, sym}
use Rattle.std.specs.Prelude.{◌||◌, map, nat_eq}
use Rattle.indexmap.specs.IndexSet.{contains}
use Rattle.model.specs.Words.{has}
use Rattle.model.specs.History.{view_of}
use Rattle.model.specs.Catalogue.{StreamJob, jobs_of_stream}
use Rattle.owner_fold.specs.Left.{stream_jobs_left}
use Rattle.counted_decisions.specs.Sights.{seen_in}
use Rattle.counted_decisions.proofs.Catalogues.{jobs_of_stream_seen}
use Rattle.counted_decisions.proofs.Naming.{all_added, some_added}
use Rattle.counted_decisions.proofs.Sighted.{seen_grows}
use Rattle.counted_decisions.proofs.witnesses.add_job_owners.Goals as goal

pub loop-parent-init : goal.loop-parent-init
loop-parent-init c =
    λ v. ap (λ (l : List StreamJob).
    has (map (λ (p : StreamJob). p.doc.ws) l) v || contains nat_eq c.args.named.now v)
    (jobs_of_stream_seen (seen_in c.args.sight.now) (view_of c.args.sight.now.owners.now)
    (seen_grows c.args.sight.now.owners.now c.args.sight.now.seen.now) c.args.s c.requires.brought
    ∙ sym (ap stream_jobs_left c.into_iter-parent-iterator.ensures.into_iter_gives
    ∙ c.jobs_of_stream-parent-items.ensures))

pub loop-parent-preserved : goal.loop-parent-preserved
loop-parent-preserved c =
    some_added (map (λ (p : StreamJob). p.doc.ws) (jobs_of_stream (seen_in c.args.sight.now) c.args.s))
    (c.in-Some.doc.now.ws ∷ []) (map (λ (p : StreamJob). p.doc.ws) (stream_jobs_left c.next.new.self))
    (map (λ (p : StreamJob). p.doc.ws) (stream_jobs_left c.loop-parent._parent-iterator)) c.args.named.now
    c.loop-parent.named c.add.new.named (ap (map (λ (p : StreamJob). p.doc.ws)) c.in-Some.ensures.steps)
    c.in_ok-add.ensures c.loop-parent.invariant

pub returns : goal.returns
returns c =
    all_added (map (λ (p : StreamJob). p.doc.ws) (jobs_of_stream (seen_in c.args.sight.now) c.args.s))
    (map (λ (p : StreamJob). p.doc.ws) (stream_jobs_left c.loop-parent._parent-iterator)) c.args.named.now
    c.loop-parent.named (ap (map (λ (p : StreamJob). p.doc.ws)) c.in-None.ensures.steps.0) c.loop-parent.invariant
