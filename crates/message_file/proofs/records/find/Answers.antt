use Rattle.std.proofs.Common.{◌≡◌, ◌+◌, ◌<◌, ◌^◌, length, take, drop, sym, ◌∙◌, subst, Some, arith, rules}
use Rattle.message_file.specs.declared.records.Found.TheVariants.{Broken, Next}
use Rattle.message_file.specs.Attaching.{IsFound}
use Rattle.message_file.proofs.Finding.{told_of, on_told, spelled_by, too_short, too_long, cut_short, too_far, record_there}
use Rattle.message_file.proofs.records.find.Goals as goal

pub returns-then-len-place-lt5-clause-found : goal.returns-then-len-place-lt5-clause-found
returns-then-len-place-lt5-clause-found g c =
    let place = c.args.place in
    let told = g.D.Disk.seen c.args.disk.now in
    let gate = c.read_at.new.buf in
    let size : length gate ≡ 1 = c.read_at.auto.buf in
    let is_open = c.if-gate-ne1.false in
    on_told told Broken place
    (λ file is.
    let len = told_of (λ f. c.args.len ≡ length f) told file is c.requires.told in
    let read = told_of (λ f. gate ≡ take 1 (drop place f)) told file is c.in_ok-read_at.ensures.bytes in
    too_short file place gate size is_open read (omega (arith, len, c.if-len-place-lt5.true)) (omega (arith, len, c.requires.inside)))

pub returns-then-length-gt-LONGEST_BODY-clause-found :
    goal.returns-then-length-gt-LONGEST_BODY-clause-found
returns-then-length-gt-LONGEST_BODY-clause-found g c =
    let place = c.args.place in
    let told = g.D.Disk.seen c.args.disk.now in
    let gate = c.read_at.new.buf in
    let size : length gate ≡ 1 = c.read_at.auto.buf in
    let is_open = c.if-gate-ne1.false in
    let bytes = c.read_at-2.new.buf in
    let number = c.in-Ok.number in
    let spelled = spelled_by bytes number _ c.read_at-2.auto.buf c.in-Ok.ensures.found in
    let fits : number < 2 ^ 32 = search rules in
    on_told told Broken place
    (λ file is.
    let len = told_of (λ f. c.args.len ≡ length f) told file is c.requires.told in
    let read = told_of (λ f. gate ≡ take 1 (drop place f)) told file is c.in_ok-read_at.ensures.bytes in
    let again = told_of (λ f. bytes ≡ take 4 (drop (place + 1) f)) (g.D.Disk.seen c.read_at.new.self) file (c.in_ok-read_at.ensures.seen ∙ is) c.in_ok-read_at-2.ensures.bytes in
    too_long file place gate size is_open read bytes number spelled fits again (omega (arith, c.if-length-gt-LONGEST_BODY.true, c.from-length.ensures)))

pub returns-then-next-len-clause-found :
    goal.returns-then-next-len-clause-found
returns-then-next-len-clause-found g c =
    let place = c.args.place in
    let told = g.D.Disk.seen c.args.disk.now in
    let gate = c.read_at.new.buf in
    let size : length gate ≡ 1 = c.read_at.auto.buf in
    let is_open = c.if-gate-ne1.false in
    let bytes = c.read_at-2.new.buf in
    let number = c.in-Ok.number in
    let spelled = spelled_by bytes number _ c.read_at-2.auto.buf c.in-Ok.ensures.found in
    let fits : number < 2 ^ 32 = search rules in
    on_told told Broken place
    (λ file is.
    let len = told_of (λ f. c.args.len ≡ length f) told file is c.requires.told in
    let read = told_of (λ f. gate ≡ take 1 (drop place f)) told file is c.in_ok-read_at.ensures.bytes in
    let again = told_of (λ f. bytes ≡ take 4 (drop (place + 1) f)) (g.D.Disk.seen c.read_at.new.self) file (c.in_ok-read_at.ensures.seen ∙ is) c.in_ok-read_at-2.ensures.bytes in
    cut_short file place gate size is_open read bytes number spelled fits again (omega (arith, len, c.if-next-len.true, c.from-length.ensures)) (omega (arith, len, c.if-len-place-lt5.false, c.requires.inside)))

pub returns-then-next-ge-LONGEST_FILE-clause-found :
    goal.returns-then-next-ge-LONGEST_FILE-clause-found
returns-then-next-ge-LONGEST_FILE-clause-found g c =
    let place = c.args.place in
    let told = g.D.Disk.seen c.args.disk.now in
    let gate = c.read_at.new.buf in
    let size : length gate ≡ 1 = c.read_at.auto.buf in
    let is_open = c.if-gate-ne1.false in
    let bytes = c.read_at-2.new.buf in
    let number = c.in-Ok.number in
    let spelled = spelled_by bytes number _ c.read_at-2.auto.buf c.in-Ok.ensures.found in
    let fits : number < 2 ^ 32 = search rules in
    on_told told Broken place
    (λ file is.
    let len = told_of (λ f. c.args.len ≡ length f) told file is c.requires.told in
    let read = told_of (λ f. gate ≡ take 1 (drop place f)) told file is c.in_ok-read_at.ensures.bytes in
    let again = told_of (λ f. bytes ≡ take 4 (drop (place + 1) f)) (g.D.Disk.seen c.read_at.new.self) file (c.in_ok-read_at.ensures.seen ∙ is) c.in_ok-read_at-2.ensures.bytes in
    too_far file place gate size is_open read bytes number spelled fits again (omega (arith, c.if-next-ge-LONGEST_FILE.true, c.from-length.ensures)))

pub returns-clause-found :
    goal.returns-clause-found
returns-clause-found g c =
    let place = c.args.place in
    let told = g.D.Disk.seen c.args.disk.now in
    let gate = c.read_at.new.buf in
    let size : length gate ≡ 1 = c.read_at.auto.buf in
    let is_open = c.if-gate-ne1.false in
    let bytes = c.read_at-2.new.buf in
    let number = c.in-Ok.number in
    let spelled = spelled_by bytes number _ c.read_at-2.auto.buf c.in-Ok.ensures.found in
    let fits : number < 2 ^ 32 = search rules in
    on_told told (Next (place + 5 + c.from-length.result)) place
    (λ file is.
    let len = told_of (λ f. c.args.len ≡ length f) told file is c.requires.told in
    let read = told_of (λ f. gate ≡ take 1 (drop place f)) told file is c.in_ok-read_at.ensures.bytes in
    let again = told_of (λ f. bytes ≡ take 4 (drop (place + 1) f)) (g.D.Disk.seen c.read_at.new.self) file (c.in_ok-read_at.ensures.seen ∙ is) c.in_ok-read_at-2.ensures.bytes in
    subst (λ n. IsFound (Next (place + 5 + n)) place (Some file)) (sym c.from-length.ensures) (record_there file place gate size is_open read bytes number spelled fits again (omega (arith, c.if-length-gt-LONGEST_BODY.false, c.from-length.ensures)) (omega (arith, len, c.if-next-len.false, c.from-length.ensures))))
