use Rattle.std.proofs.Common.{length, refl}
use Rattle.std.proofs.lemmas.Option.{slice_get_read}
use Rattle.definition_names.proofs.StreamsPut.{entries_more, entries_all}
use Rattle.definition_names.proofs.streams.entry_index.Goals as goal

pub loop-n-preserved : goal.loop-n-preserved
loop-n-preserved c =
    entries_more c.args.schedules.now c.loop-n.n c.index-schedules-n.result c.loop-n.index.entries
    c.put_entries.new.index.entries
    (slice_get_read c.args.schedules.now (length c.args.schedules.now) c.loop-n.n c.index-schedules-n.result refl
    c.loop-n-test.true c.index-schedules-n.is)
    c.loop-n.invariant c.in_ok-put_entries.ensures.others
    c.index-schedules-n.result.item c.in_ok-put_entries.ensures.own
    refl

pub returns : goal.returns
returns c =
    entries_all c.args.schedules.now c.loop-n.n c.loop-n.index.entries c.loop-n-test.false c.loop-n.invariant
