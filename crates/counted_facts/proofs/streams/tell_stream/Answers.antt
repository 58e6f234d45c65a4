use Rattle.counted_facts.specs.Facts.{stream_told}
use Rattle.counted_facts.specs.Subjects.{stream_told_in}
use Rattle.counted_facts.proofs.Telling.{keyed_none, keyed_told}
use Rattle.counted_facts.proofs.Unspoken.{told_stays}
use Rattle.counted_facts.proofs.streams.tell_stream.Goals as goal

pub returns-in-None : goal.returns-in-None
returns-in-None c =
    keyed_none stream_told stream_told_in told_stays c.args.kept.now c.args.e.now c.stream_key.result
    c.stream_key.ensures c.args.streams.now c.in-None.is

pub returns-in-Some : goal.returns-in-Some
returns-in-Some c =
    keyed_told stream_told stream_told_in told_stays c.args.kept.now c.args.e.now c.stream_key.result
    c.stream_key.ensures c.tell.result c.in-Some.w c.in-Some.s c.from.result c.stream_told.result c.args.streams.now
    c.tell.new.self c.in-Some.is c.from.ensures c.stream_told.ensures c.tell.ensures
