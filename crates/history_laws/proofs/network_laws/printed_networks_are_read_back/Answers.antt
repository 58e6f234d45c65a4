use Rattle.history_laws.proofs.Histories.{begins, told_whole}
use Rattle.history_laws.proofs.Read.{read_back}
use Rattle.history_laws.proofs.network_laws.printed_networks_are_read_back.Goals as goal

pub returns-clause-in_record : goal.returns-clause-in_record
returns-clause-in_record c = read_back

pub returns-clause-in_history : goal.returns-clause-in_history
returns-clause-in_history c = begins

pub returns-clause-whole : goal.returns-clause-whole
returns-clause-whole c = told_whole
