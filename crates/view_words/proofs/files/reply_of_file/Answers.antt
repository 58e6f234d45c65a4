use Rattle.std.proofs.Common.{◌∙◌, Err, IfSome, ap, subst}
use Rattle.std.specs.Option.{option_copied}
use Rattle.entry_files.specs.Entries.{IsRefused}
use Rattle.kept_files.specs.Growth.{OnlyKeepsMore}
use Rattle.kept_files.specs.declared.faults.FileFault.{FileFault}
use Rattle.model.specs.Types.{Net}
use Rattle.view_words.specs.Dues.{text_of}
use Rattle.view_words.specs.Forms.{requested}
use Rattle.view_words.specs.Readings.{sight}
use Rattle.view_words.proofs.Calls.{failed_called, has_read, is_inside, is_other, other_called, shown_called}
use Rattle.view_words.proofs.files.reply_of_file.Goals as goal

pub read_entries-requires : goal.read_entries-requires
read_entries-requires g c =
    is_inside c.args.workload.now c.in_ok-net.net c.args.name.now c.args.me c.in_ok-net.ensures c.requires.there

pub shown-requires : goal.shown-requires
shown-requires g c =
    is_inside c.args.workload.now c.in_ok-net.net c.args.name.now c.args.me c.in_ok-net.ensures c.requires.there

pub returns-in-Ok-clause-due : goal.returns-in-Ok-clause-due
returns-in-Ok-clause-due g c =
    let F = g.F.Folder in
    let S = sight F.seen F.becomes F.faults c.args.folder.now c.read_entries.new.folder in
    let entries = c.in-Ok.entries in
    let pattern = option_copied c.args.pattern in
    let text = c.in_ok-text-in-Ok.ensures
    ∙ ap (λ (net : Net). text_of c.args.look pattern net c.args.me entries) c.in_ok-net.ensures in
    let read = has_read S c.args.workload.now c.args.me c.args.name.now c.in_ok-net.net c.as_str.result.now entries
    c.in_ok-net.ensures (c.as_str.ensures.value ∙ c.in_ok-file.ensures) c.in-Ok.ensures.kept c.in-Ok.ensures.front in
    shown_called S (requested c.args.look c.args.name.now pattern) c.args.workload.now c.args.me entries
    c.in_ok-text-in-Ok.text text c.requires.there read

pub returns-in-NotThisFile-clause-due : goal.returns-in-NotThisFile-clause-due
returns-in-NotThisFile-clause-due g c =
    let F = g.F.Folder in
    let S = sight F.seen F.becomes F.faults c.args.folder.now c.read_entries.new.folder in
    let net = c.in_ok-net.net in
    let bytes = c.as_str.result.now in
    let place = c.in-NotThisFile.place in
    let request = requested c.args.look c.args.name.now (option_copied c.args.pattern) in
    let other = subst
    (λ (fault : FileFault). OnlyKeepsMore S.becomes c.args.me bytes
    → IfSome (S.seen_then bytes) (IsRefused net c.args.me fault))
    c.in-NotThisFile.is c.in-Err.ensures.refused in
    other_called S request c.args.workload.now c.args.me place
    c.in_ok-text-in-NotThisFile.text c.in_ok-text-in-NotThisFile.ensures c.requires.there
    (is_other S c.args.workload.now c.args.me c.args.name.now net bytes place c.in_ok-net.ensures
    (c.as_str.ensures.value ∙ c.in_ok-file.ensures) other)

pub returns-in-Folder-clause-due : goal.returns-in-Folder-clause-due
returns-in-Folder-clause-due g c =
    let F = g.F.Folder in
    let S = sight F.seen F.becomes F.faults c.args.folder.now c.read_entries.new.folder in
    failed_called S (requested c.args.look c.args.name.now (option_copied c.args.pattern)) c.args.workload.now c.args.me _
    c.new.ensures c.requires.there (c.in-Err.ensures.cause (ap Err c.in-Folder.is))
