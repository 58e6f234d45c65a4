use Rattle.std.proofs.Common.{[], ◌∷◌, ◌≡◌, ℕ, Bool, false, not, refl, true}
use Rattle.std.specs.Prelude.{◌==◌}
use Rattle.model.specs.Types.{Events}
use Rattle.model.specs.Words.{all_of}
use Rattle.model.specs.History.{View, view_of}
use Rattle.model.specs.Catalogue.{StreamJob, is_member}
use Rattle.model.specs.Facts.{reruns}
use Rattle.owner_fold.specs.DocPlaces.{stream_job}
use Rattle.recovery_watch.specs.Advice.{has_ended_badly, is_called_off, needs_advice_in, recovers}
use Rattle.recovery_watch.proofs.advices.needs_advice.Goals as goal

-- one condition that fails is enough
last_fails : (a b c d e : Bool) → e ≡ false → false ≡ all_of (a ∷ b ∷ c ∷ d ∷ e ∷ [])
last_fails false b c d e h = refl
last_fails true false c d e h = refl
last_fails true true false d e h = refl
last_fails true true true false e h = refl
last_fails true true true true e h = rw h refl

-- nothing is advised of a job whose recovery has nothing to do
not_needed : (V : View) (w : ℕ) (p : StreamJob) → recovers p.doc.recovery (reruns p.doc.no (V (Events w))) ≡ false
    → false ≡ needs_advice_in V w p
not_needed V w p h =
    last_fails (p.doc.ws == w) (is_member V p.parent.no) (has_ended_badly p.doc.no (V (Events w)))
    (not (is_called_off V w p)) (recovers p.doc.recovery (reruns p.doc.no (V (Events w)))) h

pub returns-then-stops : goal.returns-then-stops
returns-then-stops c =
    let V = view_of c.args.o.now in
    let p = stream_job c.args.parent.now c.args.doc.now in
    not_needed V c.args.w p (c.stops.ensures c.if-stops.true (reruns p.doc.no (V (Events c.args.w))))
