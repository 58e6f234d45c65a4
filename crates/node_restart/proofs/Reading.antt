-- What reads of a keeper leave, one after another.
use Rattle.std.proofs.Common.{◌∙◌, ℕ, arith}
use Rattle.std.specs.declared.option.Option.{Option}
use Rattle.outside.specs.Kept.{Bodies}
use Rattle.node_restart.specs.Reading.{OnlyReads}

module _ {K : Type 0} (kept_in : K → Option Bodies) (number : K → ℕ) (may_leave : K → Bodies → Type 0) (moment : K → ℕ)
    (left_since : K → ℕ → Bodies → Type 0) (opens_since : K → ℕ → ℕ → Type 0) where
  pub then_reads : (old mid new : K) → OnlyReads kept_in number may_leave moment left_since opens_since old mid
      → OnlyReads kept_in number may_leave moment left_since opens_since mid new
      → OnlyReads kept_in number may_leave moment left_since opens_since old new
  then_reads old mid new first second = record {
    kept = second.kept ∙ first.kept;
    same = second.same ∙ first.same;
    later = omega (arith, first.later, second.later);
    now = λ left may. first.now left (second.now left may);
    since = λ t left le was. first.since t left le (second.since t left (omega (arith, le, first.later)) was);
    opens = λ owner t le so. second.opens owner t (omega (arith, le, first.later)) (first.opens owner t le so);
  }
