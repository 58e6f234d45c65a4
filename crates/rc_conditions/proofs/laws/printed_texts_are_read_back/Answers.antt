use Rattle.rc_conditions.proofs.Rereading.{printed_reads, zero_reads}
use Rattle.rc_conditions.proofs.laws.printed_texts_are_read_back.Goals as goal

pub returns : goal.returns
returns c = record { expression = λ e fits. printed_reads e fits; default = zero_reads }
