use Rattle.launches_at_rest.proofs.Again.{again}
use Rattle.launches_at_rest.proofs.a_network_comes_to_rest_again.Goals as goal

pub returns : goal.returns
returns c = λ net readings clocks first steps y tree short few keep taken among.
    again net readings clocks first steps y tree short few keep taken among
