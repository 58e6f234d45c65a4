use Rattle.std.proofs.Common.{◌≡◌, ℕ, List, reverse, sym, subst}
use Rattle.outside_mem.specs.Moments.{Call, CrashState, seen_of, LeftBy}
use Rattle.outside_mem.specs.CrashLaws.{seen_left}
use Rattle.outside_mem.proofs.crashes.CrashDiskDisk.sync.Goals as goal

pub returns-clause-crash : goal.returns-clause-crash
returns-clause-crash c = λ file left.
    let s = c.self.inside in
    let is : file ≡ seen_of s.first (reverse s.made.rows) = subst (λ (l : List Call). LeftBy s.first l file) c.note.ensures.made left in
    subst (λ (m : CrashState). LeftBy m.first m.made file) c.self.view_is
    (subst (λ (f : List ℕ). LeftBy s.first (reverse s.made.rows) f) (sym is) (seen_left s.first (reverse s.made.rows)))
