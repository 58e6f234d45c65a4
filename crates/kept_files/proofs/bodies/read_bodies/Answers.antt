use Rattle.std.proofs.Common.{IfSome, rules}
use Rattle.lemmas.proofs.Results.{if_err, if_ok}
use Rattle.outside.specs.Kept.{Bodies}
use Rattle.kept_files.specs.Growth.{GoesOn, IsRefused, Keeps, KeepsNone}
use Rattle.kept_files.proofs.Looked.{more_looks}
use Rattle.kept_files.proofs.ToldFiles.{goes_on, kept_none}
use Rattle.kept_files.proofs.bodies.read_bodies.Goals as goal

pub returns-in_err-has_head-clause-never_own : goal.returns-in_err-has_head-clause-never_own
returns-in_err-has_head-clause-never_own g c =
    λ only.
    let owner = c.args.owner in
    let name = c.args.name.now in
    let old = g.F.Folder.seen c.args.folder.now name in
    let new = g.F.Folder.seen c.has_head.new.folder name in
    if_err (λ fault. IfSome new (IsRefused owner fault)) (λ fault. IfSome old (KeepsNone owner fault))
    c.from_residual.result
    (λ fault refused. kept_none owner fault old new (c.has_head.ensures.looks.grows owner name only) refused)
    (search rules)

pub returns-then-not-branch-clause-front : goal.returns-then-not-branch-clause-front
returns-then-not-branch-clause-front g c =
    λ only.
    let owner = c.args.owner in
    let name = c.args.name.now in
    let new = g.F.Folder.seen c.has_head.new.folder name in
    let keeps : IfSome new (λ file. Keeps owner file c.new.result) = search rules in
    goes_on owner c.new.result (g.F.Folder.seen c.args.folder.now name) new
    (c.has_head.ensures.looks.grows owner name only) keeps

pub returns-clause-looks : goal.returns-clause-looks
returns-clause-looks g c =
    more_looks g.F.Folder.seen g.F.Folder.becomes g.F.Folder.faults c.args.folder.now c.has_head.new.folder
    c.read_records.new.folder c.has_head.ensures.looks c.read_records.ensures.looks

pub returns-clause-front : goal.returns-clause-front
returns-clause-front g c =
    λ only.
    let owner = c.args.owner in
    let name = c.args.name.now in
    let old = g.F.Folder.seen c.args.folder.now name in
    let new = g.F.Folder.seen c.read_records.new.folder name in
    let looks = more_looks g.F.Folder.seen g.F.Folder.becomes g.F.Folder.faults c.args.folder.now c.has_head.new.folder c.read_records.new.folder c.has_head.ensures.looks c.read_records.ensures.looks in
    if_ok (λ bodies. IfSome new (λ file. Keeps owner file bodies))
    (λ bodies. IfSome old (λ file. (kept : Bodies) → Keeps owner file kept → GoesOn kept bodies)) c.read_records.result
    (λ bodies keeps. goes_on owner bodies old new (looks.grows owner name only) keeps)
    (search rules)

pub returns-clause-never_own : goal.returns-clause-never_own
returns-clause-never_own g c =
    λ only.
    let owner = c.args.owner in
    let name = c.args.name.now in
    let old = g.F.Folder.seen c.args.folder.now name in
    let new = g.F.Folder.seen c.read_records.new.folder name in
    let looks = more_looks g.F.Folder.seen g.F.Folder.becomes g.F.Folder.faults c.args.folder.now c.has_head.new.folder c.read_records.new.folder c.has_head.ensures.looks c.read_records.ensures.looks in
    if_err (λ fault. IfSome new (IsRefused owner fault)) (λ fault. IfSome old (KeepsNone owner fault))
    c.read_records.result
    (λ fault refused. kept_none owner fault old new (looks.grows owner name only) refused)
    (search rules)
