use Rattle.std.proofs.Common.{◌≡◌, ◌+◌, ◌-◌, ◌*◌, ◌∙◌, ◌++◌, ◌∷◌, [], length, min, sym, ap, refl, arith}
use Rattle.sample_record.specs.Streams.{stream_part, job_count}
use Rattle.sample_record.proofs.Counting.{further}
use Rattle.sample_record.proofs.Plans.{hosts_count, next_begins, next_hosts, whole}
use Rattle.sample_record.proofs.streams.write_plan.Goals as goal

pub write_stream-requires : goal.write_stream-requires
write_stream-requires c =
    let same : length c.as_slice.result.now ≡ c.loop-before.before =
    ap length (c.as_slice.ensures.value ∙ c.loop-before.invariant.hosts)
    ∙ hosts_count c.args.jobs c.args.seed c.loop-before.before in
    omega arith

pub loop-before-preserved : goal.loop-before-preserved
loop-before-preserved c =
    let are = c.as_slice.ensures.value ∙ c.loop-before.invariant.hosts in
    let rest : c.args.jobs + 1 - (c.loop-before.before * 10 + 1) ≡ c.args.jobs - c.loop-before.before * 10 =
    omega arith in
    let count_is : c.min-count.result ≡ job_count c.args.jobs c.loop-before.before =
    c.min-count.ensures ∙ ap (min 10) rest in
    record {
      drawn =
          next_begins c.args.jobs c.args.seed c.loop-before.before _ _ _ _ _ _ _ c.loop-before.invariant.drawn are
          c.in_ok-host.ensures.host c.in_ok-host.ensures.drawn c.in_ok-write_jobs.ensures.drawn refl count_is;
      hosts =
          rw c.in_ok-push.ensures.items (ap (λ h. h ++ c.in_ok-host.host ∷ []) (sym c.as_slice.ensures.value) ∙
          next_hosts c.args.jobs c.args.seed c.loop-before.before _ _ _ _ _ _ _ c.loop-before.invariant.drawn are
          c.in_ok-host.ensures.host c.in_ok-host.ensures.drawn c.in_ok-write_jobs.ensures.drawn refl count_is);
      wrote =
          further (stream_part c.args.jobs c.args.seed) _ _ _ _ _ c.loop-before-test.true
          c.loop-before.invariant.wrote
          (whole c.args.jobs c.args.seed c.loop-before.before _ _ _ _ _ _ _ c.loop-before.invariant.drawn are
          c.in_ok-host.ensures.host c.in_ok-host.ensures.drawn c.in_ok-write_jobs.ensures.drawn refl count_is _ _ _
          c.in_ok-host.ensures.wrote c.in_ok-write_jobs.ensures.wrote);
    }
