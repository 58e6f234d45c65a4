use Rattle.canonical_laws.proofs.Meanings.{one_net, one_list_of_peers, one_count, one_free, one_run, one_limit}
use Rattle.canonical_laws.proofs.Meanings.{timed_together, one_text}
use Rattle.canonical_laws.proofs.laws.one_form_gives_the_same.Goals as goal

pub returns-clause-net : goal.returns-clause-net
returns-clause-net c = λ d e same. one_net d e same

pub returns-clause-peers : goal.returns-clause-peers
returns-clause-peers c = λ d e same. one_list_of_peers d e same

pub returns-clause-streams : goal.returns-clause-streams
returns-clause-streams c = λ d e same. one_count d e same

pub returns-clause-free : goal.returns-clause-free
returns-clause-free c = λ d e same n. one_free d e same n

pub returns-clause-days : goal.returns-clause-days
returns-clause-days c = λ d e same n day. one_run d e same n day

pub returns-clause-limit : goal.returns-clause-limit
returns-clause-limit c = λ d e same day. one_limit d e same day

pub returns-clause-time : goal.returns-clause-time
returns-clause-time c = λ d e same day none. timed_together d e same day none

pub returns-clause-text : goal.returns-clause-text
returns-clause-text c = λ d e same. one_text d e same
