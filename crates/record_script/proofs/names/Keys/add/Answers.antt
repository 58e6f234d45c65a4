use Rattle.std.proofs.Common.{List, ap, ◌∙◌, ◌++◌, ◌∷◌, []}
use Rattle.std.specs.List.{list_any}
use Rattle.record_faults.specs.Known.{Key, key_eq}
use Rattle.record_faults.proofs.Kept.{any_viewed, pair}
use Rattle.record_script.proofs.Viewed.{add_viewed}
use Rattle.record_script.proofs.names.Keys.add.Goals.{in-Ok, in-Err}
use Rattle.record_script.proofs.names.Keys.add.Goals as goal

pub returns : goal.returns
returns c =
    elim c.match-insert.branch [
      | in-Ok w ↦ rw (w.result-is)
          (add_viewed key_eq pair (c.args.ws, c.args.name) c.self.inside.set.keys c.insert.new.self.keys
          (any_viewed (key_eq (c.args.ws.now, c.args.name.now)) pair c.self.inside.set.keys
          ∙ (ap (λ (l : List Key). list_any (key_eq (c.args.ws.now, c.args.name.now)) l) c.self.view_is ∙ c.requires.other))
          w.in-Ok.ensures.keys
          ∙ ap (λ (l : List Key). l ++ (c.args.ws.now, c.args.name.now) ∷ []) c.self.view_is)
      | in-Err w ↦ rw (w.result-is) tt
    ]
