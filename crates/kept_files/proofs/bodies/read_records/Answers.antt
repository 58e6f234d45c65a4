use Rattle.std.proofs.Common.{◌+◌, ap, arith, drop, IfSome, List, ℕ, Option, rules, subst, sym}
use Rattle.lemmas.proofs.Results.{if_err}
use Rattle.outside.specs.Kept.{Bodies}
use Rattle.message_file.specs.Files.{HasRoom, place_behind}
use Rattle.message_file.proofs.Putting.{place_with, room_with}
use Rattle.kept_files.specs.Found.{BreaksHere, IsNext, IsRoomy}
use Rattle.kept_files.specs.Growth.{BeginsWith, IsRefused}
use Rattle.kept_files.proofs.Looked.{more_looks}
use Rattle.kept_files.proofs.ToldFiles.{breaks, ends, further, stays}
use Rattle.kept_files.proofs.bodies.read_records.Goals as goal

pub returns-in_err-body-clause-refused : goal.returns-in_err-body-clause-refused
returns-in_err-body-clause-refused g c =
    λ only.
    let v = c.loop-bodies.invariant in
    let owner = c.args.owner in
    let name = c.args.name.now in
    let place = c.loop-bodies.place in
    let bodies = c.loop-bodies.bodies in
    let told = g.F.Folder.seen c.record_at.new.folder name in
    let grows = c.record_at.ensures.looks.grows owner name (λ a b may. only a b (v.looks.others name a b may)) in
    let begins = stays owner bodies (g.F.Folder.seen c.loop-bodies.folder name) told grows (v.begins only) in
    if_err (λ fault. IfSome told (λ file. BreaksHere place fault (drop place file)))
    (λ fault. IfSome told (IsRefused owner fault)) c.from_residual.result
    (λ fault broken. breaks owner place bodies fault told v.behind v.room begins broken) (search rules)

pub returns-in_err-body-clause-looks : goal.returns-in_err-body-clause-looks
returns-in_err-body-clause-looks g c =
    more_looks g.F.Folder.seen g.F.Folder.becomes g.F.Folder.faults c.args.folder.now c.loop-bodies.folder
    c.record_at.new.folder c.loop-bodies.invariant.looks c.record_at.ensures.looks

pub returns-in_err-push-clause-looks : goal.returns-in_err-push-clause-looks
returns-in_err-push-clause-looks g c =
    more_looks g.F.Folder.seen g.F.Folder.becomes g.F.Folder.faults c.args.folder.now c.loop-bodies.folder
    c.record_at.new.folder c.loop-bodies.invariant.looks c.record_at.ensures.looks

pub returns-clause-looks : goal.returns-clause-looks
returns-clause-looks g c =
    more_looks g.F.Folder.seen g.F.Folder.becomes g.F.Folder.faults c.args.folder.now c.loop-bodies.folder
    c.record_at.new.folder c.loop-bodies.invariant.looks c.record_at.ensures.looks

pub returns-clause-kept : goal.returns-clause-kept
returns-clause-kept g c =
    λ only.
    let v = c.loop-bodies.invariant in
    let owner = c.args.owner in
    let name = c.args.name.now in
    let place = c.loop-bodies.place in
    let bodies = c.loop-bodies.bodies in
    let told = g.F.Folder.seen c.record_at.new.folder name in
    let grows = c.record_at.ensures.looks.grows owner name (λ a b may. only a b (v.looks.others name a b may)) in
    let begins = stays owner bodies (g.F.Folder.seen c.loop-bodies.folder name) told grows (v.begins only) in
    ends owner place bodies told v.behind v.room begins
    (subst (λ (o : Option (List ℕ)). IfSome told (λ file. IsNext place o (drop place file))) c.in_default.is
    c.in_ok-body.ensures.found)

pub loop-bodies-preserved : goal.loop-bodies-preserved
loop-bodies-preserved g c =
    let v = c.loop-bodies.invariant in
    let owner = c.args.owner in
    let name = c.args.name.now in
    let place = c.loop-bodies.place in
    let bodies = c.loop-bodies.bodies in
    let body = c.in-Some.body in
    let told = g.F.Folder.seen c.record_at.new.folder name in
    let pushed = c.in_ok-push.ensures.ok in
    let roomy = subst (λ (o : Option (List ℕ)). IsRoomy place o) c.in-Some.is c.in_ok-body.ensures.room in
    let found =
    subst (λ (o : Option (List ℕ)). IfSome told (λ file. IsNext place o (drop place file))) c.in-Some.is
    c.in_ok-body.ensures.found in
    record {
      behind = omega (arith, v.behind, c.len.ensures, place_with bodies body, ap place_behind pushed);
      room = subst HasRoom (sym pushed) (room_with bodies body v.room roomy.0 (omega (arith, roomy.1, v.behind)));
      begins =
          λ only.
          let grows = c.record_at.ensures.looks.grows owner name (λ a b may. only a b (v.looks.others name a b may)) in
          let begins = stays owner bodies (g.F.Folder.seen c.loop-bodies.folder name) told grows (v.begins only) in
          subst (λ (l : Bodies). IfSome told (λ file. BeginsWith owner file l)) (sym pushed)
          (further owner place body bodies told v.behind begins found);
      looks =
          more_looks g.F.Folder.seen g.F.Folder.becomes g.F.Folder.faults c.args.folder.now c.loop-bodies.folder
          c.record_at.new.folder v.looks c.record_at.ensures.looks;
    }
