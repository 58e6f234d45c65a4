use Rattle.std.proofs.Common.{◌∙◌, ◌+◌, ℕ, List, ap, sym}
use Rattle.model.specs.History.{view_of}
use Rattle.batchman_core.proofs.Cited.{cited_at_first, cited_behind, cited_next, cited_none}
use Rattle.batchman_core.proofs.witnesses.cited.Goals as goal

pub loop-passed-init : goal.loop-passed-init
loop-passed-init c =
    let V = view_of c.args.o.now in
    ap (λ (l : List ℕ). cited_behind V c.args.obj.now 0 l) c.new-found.ensures ∙ cited_at_first V c.args.obj.now

pub loop-passed-preserved-in-None : goal.loop-passed-preserved-in-None
loop-passed-preserved-in-None c =
    sym
    (cited_none (view_of c.args.o.now) c.args.obj.now c.loop-passed.passed c.loop-passed.found
    (sym c.in-None.ensures))
    ∙ c.loop-passed.invariant

pub loop-passed-preserved : goal.loop-passed-preserved
loop-passed-preserved c =
    let V = view_of c.args.o.now in
    ap (λ (l : List ℕ). cited_behind V c.args.obj.now (c.loop-passed.passed + 1) l) c.in_ok-add_cited-in-Some.ensures
    ∙ sym
    (cited_next V c.args.obj.now c.loop-passed.passed c.in-Some.dep.now c.loop-passed.found (sym c.in-Some.ensures))
    ∙ c.loop-passed.invariant
