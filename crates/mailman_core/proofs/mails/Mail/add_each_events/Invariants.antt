use Rattle.std.proofs.Common.{◌≡◌, ◌-◌, ◌≤◌, length, take}
use Rattle.std.specs.Prelude.{◌++◌, map}
use Rattle.model.specs.Types.{Events}
use Rattle.model.specs.Words.{below, numbers_from}
use Rattle.model.specs.Network.{node_count}
use Rattle.model.specs.History.{view_of}
use Rattle.mailman_core.specs.Mails.{acked_by}
use Rattle.mailman_core.specs.Sends.{unsent}
use Rattle.mailman_core.proofs.mails.Mail.add_each_events.Given as goal

abbrev pub invariant-loop-w : goal.invariant-loop-w
invariant-loop-w l =
    record {
      few : length l.batch.items ≤ 8;
      told :
          take 8
          (l.batch.items ++ unsent l.net (view_of l.o) l.fn.me l.fn.to (acked_by l.self l.fn.to)
          (map Events (numbers_from l.w (node_count l.net - l.w))))
          ≡ take 8
          (l.initial.batch.items ++ unsent l.net (view_of l.o) l.fn.me l.fn.to (acked_by l.self l.fn.to)
          (map Events (below (node_count l.net))));
    }
