use Rattle.std.proofs.Common.{arith, refl}
use Rattle.network_world.proofs.journals.Journal.note_outs.Goals as goal

pub returns : goal.returns
returns c =
    record {
      history_ = refl;
      starts_ = c.put_starts.ensures;
      taken_ = omega arith;
      sent_ = omega (arith, c.sends_in.ensures);
      kept_ = refl;
    }
