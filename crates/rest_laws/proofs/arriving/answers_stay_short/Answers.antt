use Rattle.rest_laws.proofs.Ordered.{ordered_free, ordered_run}
use Rattle.rest_laws.proofs.Shorts.{always_short}
use Rattle.rest_laws.proofs.Written.{written_short}
use Rattle.rest_laws.proofs.arriving.answers_stay_short.Goals as goal

pub returns-clause-always : goal.returns-clause-always
returns-clause-always c = λ net readings x inv names short. always_short net readings x inv names short

pub returns-clause-run : goal.returns-clause-run
returns-clause-run c = λ net steps few each. ordered_run net steps few each

pub returns-clause-free : goal.returns-clause-free
returns-clause-free c = λ net steps few each. ordered_free net steps few each

pub returns-clause-written : goal.returns-clause-written
returns-clause-written c = λ c fit small. written_short c fit small
