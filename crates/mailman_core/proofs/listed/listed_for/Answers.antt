use Rattle.std.proofs.Common.{◌<◌, ◌∙◌, ap, arith, subst, sym, ℕ, List}
use Rattle.std.specs.Prelude.{filter, map}
use Rattle.std.specs.List.{AllByRecursion}
use Rattle.model.specs.Types.{Events}
use Rattle.model.specs.Words.{below}
use Rattle.model.specs.Network.{node_count}
use Rattle.model.specs.History.{view_of}
use Rattle.model.specs.Forwarding.{forwards}
use Rattle.mailman_core.proofs.Listing.{inside_more, listed_less, listed_more}
use Rattle.mailman_core.proofs.listed.listed_for.Goals as goal

pub loop-w-init : goal.loop-w-init
loop-w-init c =
    let q = forwards c.args.net.now (view_of c.args.o.now) c.args.me c.args.to in
    record {
      inside =
          subst (AllByRecursion (λ (u : ℕ). u < node_count c.args.net.now)) (sym c.new-listed.ensures) tt;
      same = ap (λ (l : List ℕ). filter q (map Events l)) c.new-listed.ensures;
    }

pub loop-w-preserved-then-are_plainly_unwanted : goal.loop-w-preserved-then-are_plainly_unwanted
loop-w-preserved-then-are_plainly_unwanted c =
    let q = forwards c.args.net.now (view_of c.args.o.now) c.args.me c.args.to in
    record {
      inside = c.loop-w.invariant.inside;
      same =
          listed_less q c.loop-w.listed c.loop-w.w
          (c.are_plainly_unwanted.ensures c.if-are_plainly_unwanted.true) c.loop-w.invariant.same;
    }

pub loop-w-preserved : goal.loop-w-preserved
loop-w-preserved c =
    let n = node_count c.args.net.now in
    let q = forwards c.args.net.now (view_of c.args.o.now) c.args.me c.args.to in
    record {
      inside =
          subst (AllByRecursion (λ (u : ℕ). u < n)) (sym c.in_ok-push.ensures.ok)
          (inside_more n c.loop-w.listed c.loop-w.w c.loop-w.invariant.inside
          (omega (arith, c.count-w-end.ensures.value, c.loop-w-test.true)));
      same =
          ap (λ (l : List ℕ). filter q (map Events l)) c.in_ok-push.ensures.ok
          ∙ listed_more q c.loop-w.listed c.loop-w.w c.loop-w.invariant.same;
    }

pub returns : goal.returns
returns c =
    let q = forwards c.args.net.now (view_of c.args.o.now) c.args.me c.args.to in
    record {
      inside = c.loop-w.invariant.inside;
      same =
          c.loop-w.invariant.same
          ∙ ap (λ (n : ℕ). filter q (map Events (below n)))
          (omega (arith, c.loop-w-test.false, c.count-w-end.ensures.value));
    }
