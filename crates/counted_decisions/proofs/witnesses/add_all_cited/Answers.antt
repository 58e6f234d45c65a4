use Rattle.std.proofs.Common.{◌+◌, List, ap, arith, drop, flat_map, sym}
use Rattle.std.specs.Prelude.{◌||◌, nat_eq}
use Rattle.indexmap.specs.IndexSet.{contains}
use Rattle.model.specs.Types.{Dep}
use Rattle.model.specs.Words.{has}
use Rattle.model.specs.History.{view_of}
use Rattle.model.specs.Dependencies.{cites, dep_cites, deps}
use Rattle.counted_decisions.specs.Sights.{seen_in}
use Rattle.counted_decisions.proofs.Naming.{all_added, all_cited, next_cited, some_added}
use Rattle.counted_decisions.proofs.Owned.{deps_seen}
use Rattle.counted_decisions.proofs.Sighted.{own_seen, seen_grows}
use Rattle.counted_decisions.proofs.witnesses.add_all_cited.Goals as goal

pub loop-passed-init : goal.loop-passed-init
unfolding cites
loop-passed-init c =
    λ v. ap (λ (l : List Dep).
    has (flat_map (dep_cites (seen_in c.args.sight.now)) l) v || contains nat_eq c.args.named.now v)
    (deps_seen (seen_in c.args.sight.now) (view_of c.args.sight.now.owners.now)
    (seen_grows c.args.sight.now.owners.now c.args.sight.now.seen.now) c.args.w
    (own_seen c.args.sight.now.owners.now c.args.sight.now.seen.now c.args.w c.requires.own) c.args.o.now
    c.requires.owned)

pub loop-passed-preserved : goal.loop-passed-preserved
loop-passed-preserved c =
    some_added (cites (seen_in c.args.sight.now) c.args.o.now)
    (dep_cites (seen_in c.args.sight.now) c.in-Some.dep.now)
    (flat_map (dep_cites (seen_in c.args.sight.now))
    (drop (c.loop-passed.passed + 1) (deps (view_of c.args.sight.now.owners.now) c.args.o.now)))
    (flat_map (dep_cites (seen_in c.args.sight.now))
    (drop c.loop-passed.passed (deps (view_of c.args.sight.now.owners.now) c.args.o.now)))
    c.args.named.now c.loop-passed.named c.add_cited.new.named
    (next_cited (seen_in c.args.sight.now) (view_of c.args.sight.now.owners.now) c.args.o.now c.loop-passed.passed
    c.in-Some.dep.now (sym c.in-Some.ensures)) c.in_ok-add_cited-in-Some.ensures c.loop-passed.invariant

pub returns : goal.returns
returns c =
    let end_ = c.loop-passed-test.false in
    let count = c.dep_count-passed-end.ensures in
    all_added (cites (seen_in c.args.sight.now) c.args.o.now)
    (flat_map (dep_cites (seen_in c.args.sight.now))
    (drop c.loop-passed.passed (deps (view_of c.args.sight.now.owners.now) c.args.o.now))) c.args.named.now
    c.loop-passed.named
    (all_cited (seen_in c.args.sight.now) (view_of c.args.sight.now.owners.now) c.args.o.now c.loop-passed.passed
    (omega (arith, end_, count))) c.loop-passed.invariant
