use Rattle.std.proofs.Common.{◌≡◌, ◌≤◌, drop, length, take}
use Rattle.std.specs.Prelude.{◌++◌, map}
use Rattle.model.specs.Types.{Events}
use Rattle.model.specs.History.{view_of}
use Rattle.mailman_core.specs.Mails.{acked_by}
use Rattle.mailman_core.specs.Sends.{unsent}
use Rattle.mailman_core.proofs.mails.Mail.add_listed_events.Given as goal

abbrev pub invariant-loop-w : goal.invariant-loop-w
invariant-loop-w l =
    record {
      few : length l.batch.items ≤ 8;
      told :
          take 8
          (l.batch.items ++ unsent l.net (view_of l.o) l.fn.me l.fn.to (acked_by l.self l.fn.to)
          (map Events (drop l.w-index l.listed)))
          ≡ take 8
          (l.initial.batch.items ++ unsent l.net (view_of l.o) l.fn.me l.fn.to (acked_by l.self l.fn.to)
          (map Events l.listed));
    }
