-- What a workstation tells of itself by its events.
use Rattle.std.specs.Prelude.{List, length}
use Rattle.model.specs.Types.{Body}
use Rattle.model.specs.Facts.{fence, is_stopped, limit, now}
use Rattle.symphony_view.specs.declared.cpus.Cpu.{Cpu}

abbrev pub cpu_of : List Body → Cpu
cpu_of events =
    record {
      held = length events;
      fence = fence events;
      limit = limit events;
      clock = now events;
      stopped = is_stopped events;
    }
