use Rattle.std.proofs.Common.{◌≡◌, ◌<◌, ◌≤◌, ℕ, IfSome, List, None, Some, arith, length, subst, sym, take}
use Rattle.model.specs.Types.{Entry}
use Rattle.model.specs.Fit.{AreFitEntries}
use Rattle.model.specs.Restore as model
use Rattle.model.specs.Restore.{first_wrong, restore_fault}
use Rattle.message_file.specs.Files.{place_behind}
use Rattle.agent_core.specs.Restoring.{IsRestoreDue, restore_fault_of}
use Rattle.agent_core.specs.declared.restores.RestoreFault.{RestoreFault}
use Rattle.node_restart.specs.Reading.{AreShortEntries}
use Rattle.node_restart.specs.Restarting.{AreHeld}
use Rattle.node_restart.proofs.Wrong.{inside_follow, inside_named, inside_wrong, told_entry, told_held, told_none, wrong_within}
use Rattle.node_restart.proofs.agents.agent_of.Goals as goal

pub returns-then-read-count-clause-wrong : goal.returns-then-read-count-clause-wrong
returns-then-read-count-clause-wrong g c =
    let K = g.K.Keeper in
    let net = c.args.net in
    let entries = c.in-Ok.entries in
    let now = K.kept c.read_entries.new.keeper in
    let fine : first_wrong net entries ≡ None =
    inside_follow net c.args.me entries c.requires.inside c.in-Ok-restore.ensures.accepted in
    let few : length entries < K.number c.read_entries.new.keeper =
    omega (arith, c.if-read-count.true, c.len-read.ensures, c.count-count.ensures.count) in
    λ place is.
    told_none net entries (K.kept c.args.keeper.now) now (K.number c.read_entries.new.keeper) place
    c.read_entries.ensures.reads.kept fine few c.count-count.ensures.kept c.in-Ok.ensures.front
    (subst (λ (n : ℕ). IfSome now (λ bodies. place ≡ place_behind (take n bodies))) c.len-read.ensures
    (c.wrong_body.ensures.gate place (cc is)))

pub returns-in-Ok-restore-clause-fit : goal.returns-in-Ok-restore-clause-fit
returns-in-Ok-restore-clause-fit g c =
    subst AreFitEntries (sym c.in-Ok-restore.ensures.kept) c.in-Ok.ensures.fit

pub returns-in-Ok-restore-clause-short : goal.returns-in-Ok-restore-clause-short
returns-in-Ok-restore-clause-short g c =
    subst AreShortEntries (sym c.in-Ok-restore.ensures.kept) c.in-Ok.ensures.short

pub returns-in-Ok-restore-clause-held : goal.returns-in-Ok-restore-clause-held
returns-in-Ok-restore-clause-held g c =
    let K = g.K.Keeper in
    let net = c.args.net in
    let entries = c.in-Ok.entries in
    let now = K.kept c.read_entries.new.keeper in
    let fine : first_wrong net entries ≡ None =
    inside_follow net c.args.me entries c.requires.inside c.in-Ok-restore.ensures.accepted in
    let all : K.number c.read_entries.new.keeper ≤ length entries =
    omega (arith, c.if-read-count.false, c.len-read.ensures, c.count-count.ensures.count) in
    subst (λ (l : List Entry). IfSome (K.kept c.args.keeper.now) (AreHeld net l)) (sym c.in-Ok-restore.ensures.kept)
    (told_held net entries (K.kept c.args.keeper.now) now (K.number c.read_entries.new.keeper)
    c.read_entries.ensures.reads.kept fine all c.count-count.ensures.kept c.in-Ok.ensures.front)

pub returns-in-Ok-restore-clause-rest : goal.returns-in-Ok-restore-clause-rest
returns-in-Ok-restore-clause-rest g c = c.count-count.ensures.rest c.in-Ok.ensures.unspent

pub wrong_body-requires-in-Err-NotNext-clause-there : goal.wrong_body-requires-in-Err-NotNext-clause-there
wrong_body-requires-in-Err-NotNext-clause-there g c =
    let entries = c.in-Ok.entries in
    let k = c.in-Err-NotNext.number in
    let due : restore_fault c.args.net c.args.me entries ≡ Some (model.RestoreFault.NotNext k) =
    subst (λ (f : RestoreFault). IsRestoreDue c.args.net c.args.me entries (restore_fault_of f))
    c.in-Err-NotNext.field-0-is c.in-Err-NotNext.ensures.refused in
    let within : k < length entries =
    wrong_within c.args.net entries k (inside_wrong c.args.net c.args.me entries k c.requires.inside due) in
    omega (arith, within, c.in-Ok.ensures.few, c.read_entries.ensures.reads.same)

pub returns-in-Err-NotNext-clause-wrong : goal.returns-in-Err-NotNext-clause-wrong
returns-in-Err-NotNext-clause-wrong g c =
    let K = g.K.Keeper in
    let net = c.args.net in
    let entries = c.in-Ok.entries in
    let k = c.in-Err-NotNext.number in
    let due : restore_fault net c.args.me entries ≡ Some (model.RestoreFault.NotNext k) =
    subst (λ (f : RestoreFault). IsRestoreDue net c.args.me entries (restore_fault_of f)) c.in-Err-NotNext.field-0-is
    c.in-Err-NotNext.ensures.refused in
    λ place is.
    told_entry net entries (K.kept c.args.keeper.now) (K.kept c.read_entries.new.keeper) k place
    c.read_entries.ensures.reads.kept (inside_wrong net c.args.me entries k c.requires.inside due)
    c.in-Ok.ensures.front (c.wrong_body-in-Err-NotNext.ensures.gate place (cc is))

pub unreachable-requires : goal.unreachable-requires
unreachable-requires g c =
    let entries = c.in-Ok.entries in
    let due : restore_fault c.args.net c.args.me entries ≡ Some model.RestoreFault.NotInNetwork =
    subst (λ (f : RestoreFault). IsRestoreDue c.args.net c.args.me entries (restore_fault_of f))
    c.in-Err-NotInNetwork.field-0-is c.in-Err-NotInNetwork.ensures.refused in
    inside_named c.args.net c.args.me entries c.requires.inside due
