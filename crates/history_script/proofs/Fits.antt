-- Entries that are fit.
use Rattle.std.proofs.Common.{◌≡◌, List, [], ◌∷◌, ◌++◌, sym, subst}
use Rattle.std.proofs.lemmas.List.Elements.{All-nil, All-push}
use Rattle.model.specs.Fit.{AreFitEntries, IsFit}
use Rattle.model.specs.Types.{Entry}

pub fit_none : AreFitEntries []
fit_none = All-nil IsFit

-- one more
pub fit_more : (es new : List Entry) (e : Entry) → new ≡ es ++ e ∷ [] → IsFit e → AreFitEntries es → AreFitEntries new
fit_more es new e is fit are = subst AreFitEntries (sym is) (All-push IsFit es e are fit)

-- the same
pub fit_still : (es new : List Entry) → new ≡ es → AreFitEntries es → AreFitEntries new
fit_still es new is are = subst AreFitEntries (sym is) are
