use Rattle.std.proofs.Common.{◌≡◌, subst, rules}
use Rattle.outside.specs.Calls.{AddsOrEnds}
use Rattle.outside.specs.Causes.{one_more}
use Rattle.outside_mem.specs.Clocks.{ClockState, reading_at, told}
use Rattle.outside_mem.proofs.Told.{told_more}
use Rattle.outside_mem.proofs.clocks.MemClockClock.now.Goals as goal

pub returns-clause-readings : goal.returns-clause-readings
returns-clause-readings c =
    let s = c.self.inside in
    let made = c.saturating_add-self-inside.result in
    let is : c.reading_of-reading.result ≡ reading_at s.readings s.made = search rules in
    let up : made ≡ one_more s.made = search rules in
    subst (λ (m : ClockState). AddsOrEnds c.reading_of-reading.result (told m) (told (record { listed = s.readings; made = made }))) c.self.view_is
    (rw (is, up) (told_more s.readings s.made))
