use Rattle.std.proofs.Common.{List, ℕ, ap, ◌∙◌, ◌++◌, ◌∷◌, [], bytes_eq}
use Rattle.std.specs.List.{list_any}
use Rattle.record_faults.proofs.Kept.{any_viewed, text}
use Rattle.record_script.proofs.Viewed.{add_viewed}
use Rattle.record_script.proofs.names.Names.add.Goals.{in-Ok, in-Err}
use Rattle.record_script.proofs.names.Names.add.Goals as goal

pub returns : goal.returns
returns c =
    elim c.match-insert.branch [
      | in-Ok w ↦ rw (w.result-is)
          (add_viewed bytes_eq text c.args.name c.self.inside.set.keys c.insert.new.self.keys
          (any_viewed (bytes_eq c.args.name.now) text c.self.inside.set.keys
          ∙ (ap (λ (l : List (List ℕ)). list_any (bytes_eq c.args.name.now) l) c.self.view_is ∙ c.requires.other))
          w.in-Ok.ensures.keys
          ∙ ap (λ (l : List (List ℕ)). l ++ c.args.name.now ∷ []) c.self.view_is)
      | in-Err w ↦ rw (w.result-is) tt
    ]
