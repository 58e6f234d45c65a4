-- What comes of bytes, by the steps that give it.
use Rattle.std.proofs.Common.{◌≡◌, ◌∙◌, ◌⊎◌, ℕ, List, Option, Some, None, Result, Ok, Err, inl, inr, sym, ap, subst, refl}
use Rattle.std.specs.Result.{IfOk}
use Rattle.base_types.specs.declared.Net.{Net}
use Rattle.composer_parser.specs.declared.Defs.{Defs}
use Rattle.definition_texts.specs.Refusals.{AreChecked}
use Rattle.input_commands.specs.Replies.{ComesOf, IsOutcome, IsPlan}
use Rattle.input_commands.specs.declared.wishes.Outcome.{Outcome}
use Rattle.input_commands.specs.declared.wishes.Outcome.TheVariants.{Text}
use Rattle.input_commands.specs.declared.wishes.Wish.{Wish}
use Rattle.model.specs.Types.{StreamDraft}
use Rattle.plan_builder.specs.Drafts.{AreDrafts}
use Rattle.plan_builder.specs.Limits.{plan_fault}
use Rattle.plan_builder.specs.declared.PlanFault.{PlanFault}
use Rattle.plan_builder.specs.declared.PlanFault.TheVariants as fault
use Rattle.plan_listing.specs.Listings.{listing_of}
use Rattle.workload_defs.specs.Nets.{net_of}

-- no fault of the plan where the drafts were answered
pub no_plan_fault : {A : Type 0} (o : Option PlanFault) (answer : Result A PlanFault) (a : A) → answer ≡ Ok a
    → ((f : PlanFault) → o ≡ Some f → (answer ≡ Err f) ⊎ (answer ≡ Err fault.NoMemory)) → o ≡ None
no_plan_fault None answer a is refused = refl
no_plan_fault {A = A} (Some f) answer a is refused =
    elim (refused f refl) [
      | inl e ↦ absurd (let both : Ok a ≡ Err f = sym is ∙ e in let never : ⊥ = cc in never)
      | inr e ↦ absurd (let both : Ok a ≡ Err fault.NoMemory = sym is ∙ e in let never : ⊥ = cc in never)
    ]

-- what the steps give
pub plan_listed : (day : ℕ) (d : Defs) (net : Net) (drafts : List StreamDraft) (text : List ℕ) → net ≡ net_of d
    → plan_fault d day ≡ None → AreDrafts d day drafts → text ≡ listing_of net drafts → IsPlan day d (Text text)
plan_listed day d net drafts text over none are is =
    let P : List ℕ → Type 0 = λ x. IsPlan day d (Text x) in
    subst P (sym (is ∙ ap (λ n. listing_of n drafts) over)) (IsPlan.listed drafts none are)

pub read_outcome : {E : Type 0} (wish : Wish) (bytes : List ℕ) (d : Defs) (r : Result Outcome E) → AreChecked bytes d
    → IfOk r (IsOutcome wish d) → IfOk r (ComesOf wish bytes)
read_outcome wish bytes d (Ok o) are is = ComesOf.read d are is
read_outcome wish bytes d (Err e) are is = tt
