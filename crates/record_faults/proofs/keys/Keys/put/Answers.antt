use Rattle.std.proofs.Common.{List, ap, ◌∙◌, ◌||◌}
use Rattle.record_faults.specs.Known.{Key, key_eq, has_key}
use Rattle.record_faults.proofs.Kept.{put_key}
use Rattle.record_faults.proofs.keys.Keys.put.Goals.{in-Ok, in-Err}
use Rattle.record_faults.proofs.keys.Keys.put.Goals as goal

pub returns : goal.returns
returns c =
    elim c.match-insert.branch [
      | in-Ok w ↦ rw (w.result-is) (λ k.
          put_key (c.args.ws, c.args.name) c.self.inside.set.keys c.insert.new.self.keys w.in-Ok.ensures.keys k
          ∙ ap (λ (l : List Key). has_key l k || key_eq k (c.args.ws.now, c.args.name.now)) c.self.view_is)
      | in-Err w ↦ rw (w.result-is) tt
    ]
