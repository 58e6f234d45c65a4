use Rattle.std.proofs.Common.{◌∙◌, Option, subst, sym, ℕ}
use Rattle.std.specs.Prelude.{IfSome, IsTrue}
use Rattle.model.specs.History.{view_of}
use Rattle.model.specs.Readiness.{is_ready}
use Rattle.ready_index.specs.Places.{number_at}
use Rattle.ready_index.proofs.Elements.{found_ready}
use Rattle.ready_index.proofs.Firsts.{first_ready}
use Rattle.ready_index.proofs.jobs.JobIndex.best.Goals as goal

pub returns-clause-stands : goal.returns-clause-stands
returns-clause-stands c =
    λ stands.
    c.first_ready.ensures.first
    ∙ first_ready c.args.net.now (view_of c.args.o.now) c.args.w c.args.self.now c.first_ready.ensures.ordered stands

pub returns-clause-ready : goal.returns-clause-ready
returns-clause-ready c =
    subst (λ (o : Option ℕ). IfSome o (λ j. IsTrue (is_ready c.args.net.now (view_of c.args.o.now) c.args.w j)))
    (sym c.first_ready.ensures.first)
    (found_ready (is_ready c.args.net.now (view_of c.args.o.now) c.args.w) number_at c.args.self.now.candidates)
