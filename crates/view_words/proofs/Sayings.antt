-- What is due is said with another status than 4 and 9.
use Rattle.std.proofs.Common.{◌≡◌, ◌≢◌, ◌⊎◌, ◌∙◌, ℕ, List, Option, arith, inl, inr, sym}
use Rattle.composer_parser.specs.declared.Defs.{Defs}
use Rattle.outside.specs.Streams.{Stream}
use Rattle.replies.specs.Sayings.{Says}
use Rattle.replies.specs.Statuses.{number_of}
use Rattle.replies.specs.declared.statuses.Status.{Status}
use Rattle.view_words.specs.Dues.{Due, FileCallsFor}
use Rattle.view_words.specs.Forms.{Request}
use Rattle.view_words.specs.Readings.{Sight, UnreadCallsFor}

-- a status with which nothing is said
abbrev IsSilent : Status → Type 0
IsSilent status = (number_of status ≡ 4) ⊎ (number_of status ≡ 9)

unread_speaks : (old new : Option Stream) (status : Status) (text : List ℕ) → UnreadCallsFor old new status text
    → IsSilent status → ⊥
unread_speaks old new status text (UnreadCallsFor.too_long takes) (inl e) = omega (arith, e)
unread_speaks old new status text (UnreadCallsFor.too_long takes) (inr e) = omega (arith, e)
unread_speaks old new status text (UnreadCallsFor.refused r gives) (inl e) = omega (arith, e)
unread_speaks old new status text (UnreadCallsFor.refused r gives) (inr e) = omega (arith, e)

file_speaks : (S : Sight) (request : Request) (defs : Defs) (status : Status) (text : List ℕ)
    → FileCallsFor S request defs status text → IsSilent status → ⊥
file_speaks S request defs status text (FileCallsFor.unknown none) (inl e) = omega (arith, e)
file_speaks S request defs status text (FileCallsFor.unknown none) (inr e) = omega (arith, e)
file_speaks S request defs status text (FileCallsFor.failed me there rose) (inl e) = omega (arith, e)
file_speaks S request defs status text (FileCallsFor.failed me there rose) (inr e) = omega (arith, e)
file_speaks S request defs status text (FileCallsFor.other_file me place there other) (inl e) = omega (arith, e)
file_speaks S request defs status text (FileCallsFor.other_file me place there other) (inr e) = omega (arith, e)
file_speaks S request defs status text (FileCallsFor.shown me entries there read) (inl e) = omega (arith, e)
file_speaks S request defs status text (FileCallsFor.shown me entries there read) (inr e) = omega (arith, e)

due_speaks : (S : Sight) (words : List (List ℕ)) (old new : Option Stream) (status : Status) (text : List ℕ)
    → Due S words old new status text → IsSilent status → ⊥
due_speaks S words old new status text (Due.no_form none) (inl e) = omega (arith, e)
due_speaks S words old new status text (Due.no_form none) (inr e) = omega (arith, e)
due_speaks S words old new status text (Due.unread request is calls) silent =
    unread_speaks old new status text calls silent
due_speaks S words old new status text (Due.of_file request defs is gives calls) silent =
    file_speaks S request defs status text calls silent

module _ (result : ℕ) (written written' : Option (List ℕ)) (faults faults' : ℕ) where
  -- where what is due is said, neither 4 nor 9 is answered
  pub never_silent : (S : Sight) (words : List (List ℕ)) (old new : Option Stream) (status : Status)
      (text said : List ℕ) → Due S words old new status text → Says status said result written written' faults faults'
      → (result ≡ 4) ⊎ (result ≡ 9) → ⊥
  never_silent S words old new status text said due says (inl four) =
      let five : result ≢ 5 = λ e. omega (arith, four, e) in
      due_speaks S words old new status text due (inl (sym (says.all five).0 ∙ four))
  never_silent S words old new status text said due says (inr nine) =
      let five : result ≢ 5 = λ e. omega (arith, nine, e) in
      due_speaks S words old new status text due (inr (sym (says.all five).0 ∙ nine))
