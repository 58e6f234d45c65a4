use Rattle.outside.proofs.Remaining.{nothing_else, each_of_them, any_front}
use Rattle.outside.proofs.images.stops_leave_exactly_these.Goals as goal

pub returns-clause-nothing_else : goal.returns-clause-nothing_else
returns-clause-nothing_else c = λ synced calls file remains. nothing_else synced calls file remains

pub returns-clause-each_of_them : goal.returns-clause-each_of_them
returns-clause-each_of_them c = λ synced calls file within may. each_of_them synced calls file within may

pub returns-clause-any_front : goal.returns-clause-any_front
returns-clause-any_front c = λ place k piece old. any_front place k piece old
