-- What is said is what is due.
use Rattle.std.proofs.Common.{◌≡◌, ◌≢◌, ◌⊎◌, ℕ, List, Option, Some, None, inl, inr, sym, ◌∙◌, subst, codes, arith}
use Rattle.network_world.specs.Stations.{WorldState}
use Rattle.outside.specs.Streams.{Stream}
use Rattle.replies.specs.Sayings.{Says}
use Rattle.replies.specs.Statuses.{number_of}
use Rattle.replies.specs.declared.statuses.Status.{Status}
use Rattle.replies.specs.declared.statuses.Status.TheVariants.{Success, WordsRefused}
use Rattle.sample_record.specs.Samples.{sample_of}
use Rattle.input_commands.specs.Dues.{Due, IsAnswer, IsOf, IsReply, ReadCallsFor}
use Rattle.input_commands.specs.Words.{asked_of}
use Rattle.input_commands.specs.declared.unsaid_replies.Reply.{Reply}
use Rattle.input_commands.specs.declared.words.Asked.TheVariants as asks
use Rattle.input_commands.specs.declared.words.Wanted.{Wanted}
use Rattle.input_commands.proofs.Calling.{IsOfInput, success, definitions_, refused, limit_, wrong_}

-- the same is said of another status and text that are these
pub says_other : (a b : Status) (x y : List ℕ) (result : ℕ) (written written' : Option (List ℕ)) (faults faults' : ℕ)
    → (a ≡ b) × (x ≡ y) → Says a x result written written' faults faults' → Says b y result written written' faults faults'
says_other a b x y result written written' faults faults' same says = rw (← same.0, ← same.1) says

-- what is answered
module _ (words : List (List ℕ)) (old new : Option Stream) (result : ℕ) (handed : Option WorldState)
    (written written' : Option (List ℕ)) (faults faults' : ℕ) where
  pub answer_words : asked_of words ≡ None
      → Says WordsRefused (codes "words refused\n") result written written' faults faults' → handed ≡ None
      → IsAnswer words old new result handed written written' faults faults'
  answer_words e says none =
      let P : Option WorldState → Type 0 = λ w. IsOf w None in record {
        status = WordsRefused;
        text = codes "words refused\n";
        night = None;
        due = Due.other_words e;
        says = says;
        whole = λ _. subst P (sym none) tt;
        alone = λ _. none;
      }

  pub answer_sample : (jobs seed : ℕ) (r : Reply) → asked_of words ≡ Some (asks.Sample jobs seed) → r.status ≡ Success
      → r.text ≡ sample_of jobs seed → r.world ≡ None → Says r.status r.text result written written' faults faults'
      → (result ≢ 5 → handed ≡ r.world) → (result ≡ 5 → handed ≡ None)
      → IsAnswer words old new result handed written written' faults faults'
  answer_sample jobs seed r e is said none says with_it without =
      let P : Option WorldState → Type 0 = λ w. IsOf w None in record {
        status = Success;
        text = sample_of jobs seed;
        night = None;
        due = Due.sampled jobs seed e;
        says =
            says_other r.status Success r.text (sample_of jobs seed) result written written' faults faults' (is, said)
            says;
        whole = λ ne. subst P (sym (with_it ne ∙ none)) tt;
        alone = without;
      }

  pub answer_input : (wanted : Wanted) (r : Reply) → asked_of words ≡ Some (asks.Input wanted)
      → IsReply (ReadCallsFor wanted old new) r → Says r.status r.text result written written' faults faults'
      → (result ≢ 5 → handed ≡ r.world) → (result ≡ 5 → handed ≡ None)
      → IsAnswer words old new result handed written written' faults faults'
  answer_input wanted r e reply says with_it without =
      let P : Option WorldState → Type 0 = λ w. IsOf w reply.night in record {
        status = r.status;
        text = r.text;
        night = reply.night;
        due = Due.by_input wanted e reply.called;
        says = says;
        whole = λ ne. subst P (sym (with_it ne)) reply.world_;
        alone = without;
      }

-- a number is no other
pub apart : (result n m : ℕ) → result ≡ n → (n ≡ m → ⊥) → result ≢ m
apart result n m e other f = other (sym e ∙ f)

not_4 : (s : Status) → IsOfInput s → number_of s ≡ 4 → ⊥
not_4 s success e = omega arith
not_4 s definitions_ e = omega arith
not_4 s refused e = omega arith
not_4 s limit_ e = omega arith
not_4 s wrong_ e = omega arith

not_9 : (s : Status) → IsOfInput s → number_of s ≡ 9 → ⊥
not_9 s success e = omega arith
not_9 s definitions_ e = omega arith
not_9 s refused e = omega arith
not_9 s limit_ e = omega arith
not_9 s wrong_ e = omega arith

-- a reply is never silent
pub no_silence : (status : Status) (text : List ℕ) (result : ℕ) (written written' : Option (List ℕ)) (faults faults' : ℕ)
    → IsOfInput status → Says status text result written written' faults faults' → (result ≡ 4) ⊎ (result ≡ 9) → ⊥
no_silence status text result written written' faults faults' is says (inl e) =
    not_4 status is (sym (says.all (apart result 4 5 e (λ f. omega arith))).0 ∙ e)
no_silence status text result written written' faults faults' is says (inr e) =
    not_9 status is (sym (says.all (apart result 9 5 e (λ f. omega arith))).0 ∙ e)
