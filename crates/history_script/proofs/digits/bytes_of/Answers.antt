use Rattle.std.proofs.Common.{refl, sym}
use Rattle.history_script.proofs.Bytes.{read_more}
use Rattle.history_script.proofs.digits.bytes_of.Goals as goal

pub loop-rest-preserved : goal.loop-rest-preserved
loop-rest-preserved c =
    read_more _ _ c.loop-rest.rest.now _ _ _ c.in-len2-up.len_at_least (sym c.in-Some.ensures) refl
    c.in_ok-push.ensures.items c.loop-rest.invariant
