use Rattle.std.proofs.Common.{◌≡◌, ◌∷◌, [], ◌∙◌, sym, true, false}
use Rattle.std.specs.Prelude.{◌++◌}
use Rattle.model.specs.History.{view_of}
use Rattle.mailman_core.proofs.Listing.{no_rows, rows_same}
use Rattle.mailman_core.proofs.listed.forget_feeds.Goals as goal

pub returns-then-switched : goal.returns-then-switched
returns-then-switched c =
    record {
      stay = λ s net kept me h. no_rows net (view_of (kept ++ c.args.e.now ∷ [])) me _ c.empty.ensures;
      gone = λ s. c.empty.ensures;
    }

pub returns-then-keeps_ways : goal.returns-then-keeps_ways
returns-then-keeps_ways c =
    record {
      stay = λ s net kept me.
          rows_same net (view_of kept) (view_of (kept ++ c.args.e.now ∷ [])) me c.args.listed.now
          (λ m f. c.keeps_ways.ensures c.if-keeps_ways.true net kept me m f);
      gone = λ s. absurd (let q : true ≡ false = sym s ∙ c.if-switched.false in cc);
    }

pub returns : goal.returns
returns c =
    record {
      stay = λ s net kept me h. no_rows net (view_of (kept ++ c.args.e.now ∷ [])) me _ c.empty-2.ensures;
      gone = λ s. c.empty-2.ensures;
    }
