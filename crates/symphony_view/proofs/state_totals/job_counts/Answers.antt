use Rattle.std.proofs.Common.{◌≡◌, ◌∙◌, List, ap}
use Rattle.std.specs.Prelude.{Err, IfOk, Ok, Result, ℕ}
use Rattle.base_types.specs.declared.NoMemory.{NoMemory}
use Rattle.model.specs.Types.{Net}
use Rattle.model.specs.History.{View, view_of}
use Rattle.model.specs.Catalogue.{members}
use Rattle.symphony_view.specs.Counts.{counts, job_counts, job_places}
use Rattle.symphony_view.proofs.state_totals.job_counts.Goals as goal

counted : (net : Net) (V : View) (places : List ℕ) (r : Result (List ℕ) NoMemory) → places ≡ job_places net V (members V)
    → IfOk r (λ c. c ≡ counts 9 places) → IfOk r (λ c. c ≡ job_counts net V)
unfolding job_counts
counted net V places (Ok c) are h = h ∙ ap (counts 9) are
counted net V places (Err e) are h = tt

pub returns : goal.returns
returns c =
    let V = view_of c.args.o.now in
    counted c.args.net.now V c.as_slice-2.result.now c.counts.result
    (c.as_slice-2.ensures
    ∙ (c.in_ok-places.ensures ∙ ap (job_places c.args.net.now V) (c.as_slice.ensures ∙ c.members.ensures)))
    c.counts.ensures
