-- What comes of bytes where definitions are wanted is one thing, and which.
use Rattle.std.proofs.Common.{◌≡◌, ◌∙◌, ℕ, List, None, Some, ap, refl, subst, sym}
use Rattle.composer_parser.specs.declared.Defs.{Defs}
use Rattle.composer_print.specs.Printed.{printed}
use Rattle.definition_texts.specs.Refusals.{AreChecked}
use Rattle.definition_texts.specs.Told.{refusal}
use Rattle.definition_texts.specs.declared.RefusalKind.TheVariants as kind
use Rattle.definition_texts.proofs.Readings.{not_refused, one_checked, one_refusal}
use Rattle.input_commands.specs.Replies.{ComesOf, IsOutcome, IsPlan}
use Rattle.input_commands.specs.declared.wishes.Outcome.{Outcome}
use Rattle.input_commands.specs.declared.wishes.Outcome.TheVariants.{Refused, Text, TooMany}
use Rattle.input_commands.specs.declared.wishes.Wish.{Wish}
use Rattle.input_commands.specs.declared.wishes.Wish.TheVariants.{CanonicalText, Plan}
use Rattle.model.specs.Types.{StreamDraft}
use Rattle.plan_builder.specs.Drafts.{AreDrafts}
use Rattle.plan_builder.specs.Limits.{plan_fault}
use Rattle.plan_builder.specs.declared.PlanFault.{PlanFault}
use Rattle.plan_builder.specs.declared.PlanFault.TheVariants as fault
use Rattle.plan_listing.specs.Listings.{listing_of}
use Rattle.workload_defs.specs.Nets.{net_of}
use Rattle.tws_top.proofs.Drafts.{one_drafts}

-- a fault that is there and one that is not
no_fault_then : (d : Defs) (day : ℕ) (f : PlanFault) → plan_fault d day ≡ None → plan_fault d day ≡ Some f → ⊥
no_fault_then d day f none some = let clash : None ≡ Some f = sym none ∙ some in cc

one_fault : (d : Defs) (day : ℕ) (f g : PlanFault) → plan_fault d day ≡ Some f → plan_fault d day ≡ Some g → f ≡ g
one_fault d day f g is also = let both : Some f ≡ Some g = sym is ∙ also in cc

module _ (day : ℕ) (d : Defs) where
  one_plan : (o p : Outcome) → IsPlan day d o → IsPlan day d p → o ≡ p
  one_plan o p (IsPlan.listed xs none are) (IsPlan.listed ys also those) =
      ap (λ zs. Text (listing_of (net_of d) zs)) (one_drafts d day xs ys are those)
  one_plan o p (IsPlan.listed xs none are) (IsPlan.too_many m is) = absurd (no_fault_then d day (fault.Limit m) none is)
  one_plan o p (IsPlan.listed xs none are) (IsPlan.no_moment m is) =
      absurd (no_fault_then d day (fault.OutOfRange m) none is)
  one_plan o p (IsPlan.too_many m is) (IsPlan.listed xs none are) = absurd (no_fault_then d day (fault.Limit m) none is)
  one_plan o p (IsPlan.too_many m is) (IsPlan.too_many n also) =
      let same = one_fault d day (fault.Limit m) (fault.Limit n) is also in
      let number : m ≡ n = cc in ap (λ x. TooMany x) number
  one_plan o p (IsPlan.too_many m is) (IsPlan.no_moment n also) =
      let clash = one_fault d day (fault.Limit m) (fault.OutOfRange n) is also in cc
  one_plan o p (IsPlan.no_moment m is) (IsPlan.listed xs none are) =
      absurd (no_fault_then d day (fault.OutOfRange m) none is)
  one_plan o p (IsPlan.no_moment m is) (IsPlan.too_many n also) =
      let clash = one_fault d day (fault.OutOfRange m) (fault.Limit n) is also in cc
  one_plan o p (IsPlan.no_moment m is) (IsPlan.no_moment n also) =
      let same = one_fault d day (fault.OutOfRange m) (fault.OutOfRange n) is also in
      let line : m ≡ n = cc in ap (λ x. Refused (refusal x kind.OutOfRange)) line

one_outcome : (wish : Wish) (d : Defs) (o p : Outcome) → IsOutcome wish d o → IsOutcome wish d p → o ≡ p
one_outcome CanonicalText d o p is also = is ∙ sym also
one_outcome (Plan day) d o p is also = one_plan day d o p is also

-- what comes of bytes is one thing
pub one_coming : (wish : Wish) (bytes : List ℕ) (o p : Outcome) → ComesOf wish bytes o → ComesOf wish bytes p → o ≡ p
one_coming wish bytes o p (ComesOf.refused r why) (ComesOf.refused s also) =
    ap (λ x. Refused x) (one_refusal bytes r s why also)
one_coming wish bytes o p (ComesOf.refused r why) (ComesOf.read d are is) = absurd (not_refused bytes d r are why)
one_coming wish bytes o p (ComesOf.read d are is) (ComesOf.refused r why) = absurd (not_refused bytes d r are why)
one_coming wish bytes o p (ComesOf.read d are is) (ComesOf.read e those also) =
    let P : Defs → Type 0 = λ x. IsOutcome wish x o in
    one_outcome wish e o p (subst P (one_checked bytes d e are those) is) also

-- a text that comes of bytes where their canonical text is wished
pub canonical : (bytes : List ℕ) (o : Outcome) (text : List ℕ) → ComesOf CanonicalText bytes o → o ≡ Text text
    → (d : Defs) × AreChecked bytes d × (text ≡ printed d)
canonical bytes o text (ComesOf.refused r why) e = let clash : Refused r ≡ Text text = e in cc
canonical bytes o text (ComesOf.read d are is) e =
    let both : Text text ≡ Text (printed d) = sym e ∙ is in
    let same : text ≡ printed d = cc in (d, are, same)

-- a plan
pub record IsListing (day : ℕ) (d : Defs) (text : List ℕ) : Type 0 where
  pub drafts : List StreamDraft
  pub no_fault : plan_fault d day ≡ None
  pub are : AreDrafts d day drafts
  pub is : text ≡ listing_of (net_of d) drafts

plan_text : (day : ℕ) (d : Defs) (o : Outcome) (text : List ℕ) → IsPlan day d o → o ≡ Text text → IsListing day d text
plan_text day d o text (IsPlan.listed drafts none are) e =
    let both : Text (listing_of (net_of d) drafts) ≡ Text text = e in
    let same : listing_of (net_of d) drafts ≡ text = cc in
    record { drafts = drafts; no_fault = none; are = are; is = sym same }
plan_text day d o text (IsPlan.too_many m is) e = let clash : TooMany m ≡ Text text = e in cc
plan_text day d o text (IsPlan.no_moment m is) e =
    let clash : Refused (refusal m kind.OutOfRange) ≡ Text text = e in cc

pub planned : (day : ℕ) (bytes : List ℕ) (o : Outcome) (text : List ℕ) → ComesOf (Plan day) bytes o → o ≡ Text text
    → (d : Defs) × AreChecked bytes d × IsListing day d text
planned day bytes o text (ComesOf.refused r why) e = let clash : Refused r ≡ Text text = e in cc
planned day bytes o text (ComesOf.read d are is) e = (d, are, plan_text day d o text is e)

-- a text comes where there is no cause for anything else
plan_is_text : (day : ℕ) (d : Defs) (o : Outcome) → plan_fault d day ≡ None → IsPlan day d o
    → (text : List ℕ) × (o ≡ Text text)
plan_is_text day d o none (IsPlan.listed drafts also are) = (listing_of (net_of d) drafts, refl)
plan_is_text day d o none (IsPlan.too_many m is) = absurd (no_fault_then d day (fault.Limit m) none is)
plan_is_text day d o none (IsPlan.no_moment m is) = absurd (no_fault_then d day (fault.OutOfRange m) none is)

pub has_plan : (day : ℕ) (bytes : List ℕ) (d : Defs) (o : Outcome) → AreChecked bytes d → plan_fault d day ≡ None
    → ComesOf (Plan day) bytes o → (text : List ℕ) × (o ≡ Text text)
has_plan day bytes d o are none (ComesOf.refused r why) = absurd (not_refused bytes d r are why)
has_plan day bytes d o are none (ComesOf.read e those is) =
    let P : Defs → Type 0 = λ x. IsPlan day x o in
    plan_is_text day d o none (subst P (one_checked bytes e d those are) is)
