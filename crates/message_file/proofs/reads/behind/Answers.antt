use Rattle.std.proofs.Common.{subst}
use Rattle.message_file.specs.Attaching.{IsFound}
use Rattle.message_file.specs.declared.records.Found.{Found}
use Rattle.message_file.proofs.Cursors.{next_told, far_told, closed_told, broken_told}
use Rattle.message_file.proofs.reads.behind.Goals as goal

pub returns-then-next-extent-clause-place : goal.returns-then-next-extent-clause-place
returns-then-next-extent-clause-place g c =
    let told = g.D.Disk.seen c.args.disk.now in
    let extent = c.args.extent.now in
    next_told told extent.owner extent.count extent.gate c.args.number c.args.place c.in-Next.next c.requires.held c.requires.at c.requires.there
    (subst (λ (f : Found). IsFound f c.args.place told) c.in-Next.is c.in_ok-next.ensures.found)

pub returns-else-next-extent-clause-place : goal.returns-else-next-extent-clause-place
returns-else-next-extent-clause-place g c =
    let told = g.D.Disk.seen c.args.disk.now in
    let extent = c.args.extent.now in
    far_told told extent.owner extent.count extent.gate c.args.number c.args.place c.in-Next.next c.requires.held c.requires.at c.requires.there
    (subst (λ (f : Found). IsFound f c.args.place told) c.in-Next.is c.in_ok-next.ensures.found) c.if-next-extent.false

pub returns-in-Closed-clause-place : goal.returns-in-Closed-clause-place
returns-in-Closed-clause-place g c =
    let told = g.D.Disk.seen c.args.disk.now in
    let extent = c.args.extent.now in
    closed_told told extent.owner extent.count extent.gate c.args.number c.args.place c.requires.held c.requires.at c.requires.there
    (subst (λ (f : Found). IsFound f c.args.place told) c.in-Closed.is c.in_ok-next.ensures.found)

pub returns-in-Broken-clause-place : goal.returns-in-Broken-clause-place
returns-in-Broken-clause-place g c =
    let told = g.D.Disk.seen c.args.disk.now in
    let extent = c.args.extent.now in
    broken_told told extent.owner extent.count extent.gate c.args.number c.args.place c.requires.short c.requires.held c.requires.at c.requires.there
    (subst (λ (f : Found). IsFound f c.args.place told) c.in-Broken.is c.in_ok-next.ensures.found)
