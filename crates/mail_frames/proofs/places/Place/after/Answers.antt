use Rattle.std.proofs.Common.{ℕ, ◌≡◌, ◌∷◌, sym, subst}
use Rattle.mail_frames.specs.Places.{ScannedAfter, Completes}
use Rattle.mail_frames.specs.declared.places.Place.{Place}
use Rattle.mail_frames.specs.declared.places.Scanned.{Scanned}
use Rattle.mail_frames.proofs.places.Place.after.Goals as goal

at_place : (p q : Place) (b : ℕ) (seen : Scanned) → p ≡ q → ScannedAfter (λ bytes. Completes q (b ∷ bytes)) seen
    → ScannedAfter (λ bytes. Completes p (b ∷ bytes)) seen
at_place p q b seen e h = subst (λ (r : Place). ScannedAfter (λ bytes. Completes r (b ∷ bytes)) seen) (sym e) h

pub returns-in-Start : goal.returns-in-Start
returns-in-Start c = at_place c.args.self _ c.args.byte c.after_none.result c.in-Start.is c.after_none.ensures

pub returns-in-One : goal.returns-in-One
returns-in-One c = at_place c.args.self _ c.args.byte c.after_one.result c.in-One.is c.after_one.ensures

pub returns-in-Two : goal.returns-in-Two
returns-in-Two c = at_place c.args.self _ c.args.byte c.after_two.result c.in-Two.is c.after_two.ensures

pub returns-in-Three : goal.returns-in-Three
returns-in-Three c = at_place c.args.self _ c.args.byte c.after_three.result c.in-Three.is c.after_three.ensures

pub returns-in-Kind : goal.returns-in-Kind
returns-in-Kind c = at_place c.args.self _ c.args.byte c.after_length.result c.in-Kind.is c.after_length.ensures
