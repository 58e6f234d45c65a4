use Rattle.std.proofs.Common.{ℕ, ◌-◌, ◌∙◌, ◌≡◌, List, arith, drop, map, subst, sym}
use Rattle.std.proofs.Math.Seq.{drop-length}
use Rattle.model.specs.NewPlan.{Fresh, named_fresh}
use Rattle.carry_forward.specs.Known.{IsIndexOf}
use Rattle.carry_forward.proofs.Indexed.{fresh_at}
use Rattle.carry_forward.proofs.names.with_fresh.Goals as goal

pub loop-i-init : goal.loop-i-init
loop-i-init c =
    λ others h.
    subst (λ (l : List Fresh). IsIndexOf c.args.earlier.entries (map named_fresh l) others)
    (sym (drop-length c.args.fresh.now)) h

pub loop-i-preserved : goal.loop-i-preserved
loop-i-preserved c =
    λ others h.
    fresh_at c.loop-i.names.entries c.put_stream.new.names.entries c.args.fresh.now (c.loop-i.i - 1) c.loop-i.i
    c.index-fresh-i.result (omega arith) (omega arith) c.index-fresh-i.is
    (λ fresh earlier k.
    c.in_ok-put_stream.ensures.fresh fresh earlier (named_fresh c.index-fresh-i.result) c.in_ok-target.ensures
    ((λ j. (c.draft.view_is j).ws) ∙ (λ j. (c.stream.view_is j).draft.ws))
    ((λ j. (c.draft.view_is j).name) ∙ (λ j. (c.stream.view_is j).draft.name)) k)
    others (c.loop-i.invariant others h)

pub returns : goal.returns
returns c =
    λ others h.
    let done : c.loop-i.i ≡ 0 = omega arith in
    subst (λ (i : ℕ). IsIndexOf c.loop-i.names.entries (map named_fresh (drop i c.args.fresh.now)) others) done
    (c.loop-i.invariant others h)
