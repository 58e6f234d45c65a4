use Rattle.canonical_laws.proofs.Texts.{are_read, form_of_read, faultless_read, timed_read, drafted_read, text_read}
use Rattle.canonical_laws.proofs.Lines.{lines_alone}
use Rattle.canonical_laws.proofs.Meanings.{one_net, one_list_of_peers, one_count, one_free, one_run, one_limit}
use Rattle.canonical_laws.proofs.Meanings.{one_text}
use Rattle.canonical_laws.proofs.laws.canonical_texts_mean_the_same.Goals as goal

pub returns-clause-read : goal.returns-clause-read
returns-clause-read c = λ text d a. text_read text d a

pub returns-clause-back : goal.returns-clause-back
returns-clause-back c = λ text d e a b. form_of_read text d e a b

pub returns-clause-written : goal.returns-clause-written
returns-clause-written c = λ text d a. are_read text d a

pub returns-clause-lines : goal.returns-clause-lines
returns-clause-lines c = λ d e same. lines_alone d e same

pub returns-clause-text : goal.returns-clause-text
returns-clause-text c = λ text d e a b. one_text d e (form_of_read text d e a b)

pub returns-clause-faultless : goal.returns-clause-faultless
returns-clause-faultless c = λ text d e a b. faultless_read d e (form_of_read text d e a b)

pub returns-clause-net : goal.returns-clause-net
returns-clause-net c = λ text d e a b. one_net d e (form_of_read text d e a b)

pub returns-clause-peers : goal.returns-clause-peers
returns-clause-peers c = λ text d e a b. one_list_of_peers d e (form_of_read text d e a b)

pub returns-clause-streams : goal.returns-clause-streams
returns-clause-streams c = λ text d e a b. one_count d e (form_of_read text d e a b)

pub returns-clause-free : goal.returns-clause-free
returns-clause-free c = λ text d e a b n. one_free d e (form_of_read text d e a b) n

pub returns-clause-days : goal.returns-clause-days
returns-clause-days c = λ text d e a b n day. one_run d e (form_of_read text d e a b) n day

pub returns-clause-limit : goal.returns-clause-limit
returns-clause-limit c = λ text d e a b day. one_limit d e (form_of_read text d e a b) day

pub returns-clause-time : goal.returns-clause-time
returns-clause-time c = λ text d e a b day. timed_read d e (form_of_read text d e a b) day

pub returns-clause-drafts : goal.returns-clause-drafts
returns-clause-drafts c = λ text d e a b day drafts. drafted_read text d e a b day drafts
