use Rattle.std.specs.Prelude.{ℕ}
use Rattle.base_types.specs.declared.reports.LimitName.{LimitName}
use Rattle.base_types.specs.declared.reports.LimitName.TheVariants as limit

-- the number of each limit: bytes of an input; steps, packets and kept bytes of a replay; streams of a plan; bytes of an
-- entry and of a message file; the last place of a feed
abbrev pub limit_number : LimitName → ℕ
limit_number limit.Input = 16777216
limit_number limit.Steps = 200000
limit_number limit.Packets = 20000000
limit_number limit.Bytes = 268435456
limit_number limit.Plan = 4096
limit_number limit.Entry = 4194304
limit_number limit.File = 2147483648
limit_number limit.Places = 4294967295
