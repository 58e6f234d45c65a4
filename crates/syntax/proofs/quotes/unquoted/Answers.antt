use Rattle.std.proofs.Common.{arith}
use Rattle.syntax.proofs.Escapes.{at_end, read_more, text_more}
use Rattle.std.proofs.lemmas.Bool.Decides.{nat_tests}
use Rattle.syntax.proofs.quotes.unquoted.Goals as goal

pub from_utf8_unchecked-requires : goal.from_utf8_unchecked-requires
from_utf8_unchecked-requires c =
    at_end c.loop-rest.value.items c.loop-rest.rest.now c.in-len1-up.len_at_least c.if-first-eq34.true
    (grind (arith, nat_tests)) c.loop-rest.invariant.text

pub loop-rest-preserved : goal.loop-rest-preserved
loop-rest-preserved c =
    let read = c.unescaped-byte.ensures in
    record {
      value =
          read_more _ _ c.loop-rest.rest.now _ _ _ c.in-len1-up.len_at_least c.if-first-eq34.false read.byte
          read.after c.in_ok-push.ensures.items c.loop-rest.invariant.value;
      text =
          text_more _ c.loop-rest.rest.now _ _ _ c.in-len1-up.len_at_least read.byte read.after
          c.in_ok-push.ensures.items c.loop-rest.invariant.text;
    }
