use Rattle.std.proofs.Common.{◌<◌, ◌^◌, List, arith, length, subst}
use Rattle.model.specs.Types.{Entry, Events}
use Rattle.model.specs.History.{list_of, view_of}
use Rattle.owner_fold.specs.Holders.{open_left}
use Rattle.owner_fold.proofs.Holders.{few_holders}
use Rattle.owner_fold.proofs.holdings.Owners.holders.Goals as goal

pub returns-clause-jobs : goal.returns-clause-jobs
unfolding open_left
returns-clause-jobs c = c.opened_codes.ensures

pub returns-clause-few : goal.returns-clause-few
returns-clause-few c =
    let few : length (list_of c.args.self.now (Events c.args.w)) < 2 ^ 32 =
    subst (λ (l : List Entry). length (list_of l (Events c.args.w)) < 2 ^ 32) c.kept.ensures
    (c.entries-entries.ensures.short (Events c.args.w))
    in
    omega (arith, few_holders (view_of c.args.self.now) c.args.w, few)
