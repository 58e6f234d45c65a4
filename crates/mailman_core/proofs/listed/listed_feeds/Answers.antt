use Rattle.std.proofs.Common.{[], ◌∷◌, ap, arith, length, length-append, subst, sym}
use Rattle.model.specs.History.{view_of}
use Rattle.mailman_core.specs.Listed.{AreListed}
use Rattle.mailman_core.proofs.Listing.{no_rows, rows_more}
use Rattle.mailman_core.proofs.listed.listed_feeds.Goals as goal

pub loop-to-init : goal.loop-to-init
loop-to-init c =
    record {
      count = ap length c.new-rows.ensures;
      listed = no_rows c.args.net.now (view_of c.args.o.now) c.args.me c.new-rows.result c.new-rows.ensures;
    }

pub row_for-requires : goal.row_for-requires
row_for-requires c =
    record { from = c.requires; to = omega (arith, c.count-to-end.ensures.value, c.loop-to-test.true) }

pub loop-to-preserved : goal.loop-to-preserved
loop-to-preserved c =
    let net = c.args.net.now in
    let V = view_of c.args.o.now in
    record {
      count =
          omega (
            arith,
            ap length c.in_ok-push.ensures.ok,
            length-append c.loop-to.rows (c.in_ok-row.row ∷ []),
            c.loop-to.invariant.count,
          );
      listed =
          subst (AreListed net V c.args.me) (sym c.in_ok-push.ensures.ok)
          (rows_more net V c.args.me c.loop-to.to c.loop-to.rows c.in_ok-row.row c.loop-to.invariant.count
          c.loop-to.invariant.listed c.in_ok-row.ensures);
    }

pub returns : goal.returns
returns c = c.loop-to.invariant.listed
