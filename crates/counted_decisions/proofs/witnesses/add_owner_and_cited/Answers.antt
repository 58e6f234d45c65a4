use Rattle.std.proofs.Common.{ℕ, List, ap, subst, sym}
use Rattle.std.specs.Prelude.{◌||◌, nat_eq}
use Rattle.lemmas.proofs.Results.{after_ok}
use Rattle.indexmap.specs.IndexSet.{contains}
use Rattle.model.specs.Words.{has}
use Rattle.model.specs.Catalogue.{stream_of}
use Rattle.model.specs.Dependencies.{cites}
use Rattle.counted_decisions.specs.Named.{AddsAll}
use Rattle.counted_decisions.specs.Sights.{seen_in}
use Rattle.counted_decisions.proofs.Naming.{both_added, no_owner, owner_found}
use Rattle.counted_decisions.proofs.witnesses.add_owner_and_cited.Goals as goal

pub returns-in-None : goal.returns-in-None
returns-in-None c =
    λ v. ap (λ (l : List ℕ). has l v || contains nat_eq c.args.named.now v)
    (sym (no_owner (stream_of (seen_in c.args.sight.now) c.args.o.now)
    (cites (seen_in c.args.sight.now) c.args.o.now) c.in-None.ensures))

pub returns-in_ok-add-in-Some : goal.returns-in_ok-add-in-Some
returns-in_ok-add-in-Some c =
    after_ok c.add_all_cited.result c.add_all_cited.ensures
    (λ added. subst (λ (l : List ℕ). AddsAll l c.args.named.now c.add_all_cited.new.named)
    (sym (owner_found (stream_of (seen_in c.args.sight.now) c.args.o.now) c.in-Some.owner
    (cites (seen_in c.args.sight.now) c.args.o.now) c.in-Some.ensures))
    (both_added c.in-Some.owner (cites (seen_in c.args.sight.now) c.args.o.now) c.args.named.now c.add.new.named
    c.add_all_cited.new.named c.in_ok-add-in-Some.ensures added))
