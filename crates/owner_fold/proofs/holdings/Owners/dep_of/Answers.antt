use Rattle.std.proofs.Common.{◌-◌, ◌<◌, ◌∙◌, ◌≤◌, arith, length}
use Rattle.std.proofs.Common.{sym}
use Rattle.model.specs.History.{view_of}
use Rattle.model.specs.Dependencies.{document_deps}
use Rattle.owner_fold.proofs.Counted.{dep_added, dep_written, owned_none, owned_some}
use Rattle.owner_fold.proofs.holdings.Owners.dep_of.Goals as goal

pub returns-then-place-written : goal.returns-then-place-written
returns-then-place-written c =
    let k : c.args.i - 1 < length (document_deps (view_of c.args.self.now) c.args.o.now) =
    rw (sym c.document_deps-written.ensures) (omega (arith, c.from-place.ensures, c.if-place-written.true))
    in
    c.dep_at.ensures
    ∙ rw (c.document_deps-written.ensures, c.from-place.ensures)
    (sym (dep_written (view_of c.args.self.now) c.args.o.now c.args.i (omega arith) (omega arith) k))

pub returns-in-None : goal.returns-in-None
returns-in-None c =
    let k : length (document_deps (view_of c.args.self.now) c.args.o.now) ≤ c.args.i - 1 =
    rw (sym c.document_deps-written.ensures) (omega (arith, c.from-place.ensures, c.if-place-written.false))
    in
    sym
    (dep_added (view_of c.args.self.now) c.args.o.now c.args.i (omega arith) (omega arith) k
    ∙ owned_none (view_of c.args.self.now) c.args.o.now
    (c.args.i - 1 - length (document_deps (view_of c.args.self.now) c.args.o.now))
    (sym c.owner_of.ensures ∙ c.in-None.is))

pub returns-in-Some : goal.returns-in-Some
returns-in-Some c =
    let k : length (document_deps (view_of c.args.self.now) c.args.o.now) ≤ c.args.i - 1 =
    rw (sym c.document_deps-written.ensures) (omega (arith, c.from-place.ensures, c.if-place-written.false))
    in
    c.added_dep.ensures
    ∙ rw (c.document_deps-written.ensures, c.from-place.ensures)
    (sym
    (dep_added (view_of c.args.self.now) c.args.o.now c.args.i (omega arith) (omega arith) k
    ∙ owned_some (view_of c.args.self.now) c.args.o.now c.in-Some.w
    (c.args.i - 1 - length (document_deps (view_of c.args.self.now) c.args.o.now))
    (sym c.owner_of.ensures ∙ c.in-Some.is)))
