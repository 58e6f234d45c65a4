use Rattle.std.proofs.Common.{Result, subst, arith}
use Rattle.model.specs.Types.{Entry}
use Rattle.entry_codec.specs.declared.EntryFault.{EntryFault}
use Rattle.entry_codec.specs.Read.{Gives}
use Rattle.entry_codec.proofs.Whole.{whole_again, version_again, left_again}
use Rattle.entry_codec.proofs.Told.{is_found, tells_version, tells_left, stays}
use Rattle.entry_codec.proofs.reading.entries.read_entry.Goals as goal

pub returns-clause-found : goal.returns-clause-found
returns-clause-found c =
    is_found c.args.bytes.now c.read_by_format.result (λ i. omega (arith, c.type_inv.bytes i)) c.read_by_format.ensures

pub returns-clause-again : goal.returns-clause-again
returns-clause-again c =
    λ e fit in_range same. subst (λ (r : Result Entry EntryFault). Gives c.read_by_format.result r)
    (whole_again c.args.bytes.now e fit in_range same) c.read_by_format.ensures

pub returns-clause-version : goal.returns-clause-version
returns-clause-version c =
    tells_version c.args.bytes.now c.read_by_format.result (λ i. omega (arith, c.type_inv.bytes i)) c.read_by_format.ensures

pub returns-clause-other_version : goal.returns-clause-other_version
returns-clause-other_version c =
    λ other. subst (λ (r : Result Entry EntryFault). Gives c.read_by_format.result r)
    (version_again c.args.bytes.now (λ i. omega (arith, c.type_inv.bytes i)) other) c.read_by_format.ensures

pub returns-clause-too_much : goal.returns-clause-too_much
returns-clause-too_much c =
    tells_left c.args.bytes.now c.read_by_format.result (λ i. omega (arith, c.type_inv.bytes i)) c.read_by_format.ensures

pub returns-clause-left_over : goal.returns-clause-left_over
returns-clause-left_over c =
    λ p l in_range. subst (λ (r : Result Entry EntryFault). Gives c.read_by_format.result r)
    (left_again c.args.bytes.now p l in_range) c.read_by_format.ensures

pub returns-clause-lasting : goal.returns-clause-lasting
returns-clause-lasting c =
    stays c.args.bytes.now c.read_by_format.result (λ i. omega (arith, c.type_inv.bytes i)) c.read_by_format.ensures
