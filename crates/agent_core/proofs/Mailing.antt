-- Mail from a neighbour.
use Rattle.std.proofs.Common.{◌≡◌, ◌∷◌, ◌∙◌, ◌≤◌, [], ℕ, Bool, Err, List, None, Ok, Option, Some, ap, arith, false}
use Rattle.std.proofs.Common.{length, refl, subst, sym, true}
use Rattle.std.proofs.lemmas.Bool.Decides.{nat_tests}
use Rattle.std.proofs.lemmas.List.{append-nil}
use Rattle.std.specs.Bool.{then_some}
use Rattle.std.specs.Prelude.{◌++◌, ◌==◌, nat_lt}
use Rattle.model.specs.Types as types
use Rattle.model.specs.Types.{Entry, Input, Out, Packet}
use Rattle.model.specs.Sessions.{next_session}
use Rattle.model.specs.NewEntry.{accepts, makes}
use Rattle.model.specs.Step.{outs_of}
use Rattle.model.specs.StepFaults as model
use Rattle.model.specs.StepFaults.{is_place_spent, is_too_long}
use Rattle.mailman_core.specs.Mails.{acked_by, is_up}
use Rattle.agent_core.specs.Nodes.{NodeState, present_in, session_in, view_in}
use Rattle.agent_core.specs.Sending.{answer_to}
use Rattle.agent_core.specs.Steps.{HoldsOneMore, IsTaken, Makes, due, made_by, step_at}
use Rattle.agent_core.proofs.Causes.{Passes, inside, no_fault, step_taken, too_long}

abbrev pub mail : ℕ → Entry → Input
mail from e = types.Input.Mail from e

mail_passes : (n : NodeState) (from : ℕ) (e : Entry) → inside n (mail from e) ≡ true → (from == n.me) ≡ false
    → Passes n (mail from e)
mail_passes n from e i o = record { inside_ = i; other = o; master = refl; runs = refl; waits = refl }

-- what is not accepted makes nothing
pub mail_none : (n : NodeState) (from : ℕ) (e : Entry) → accepts n.me (view_in n) e ≡ false
    → made_by n (mail from e) ≡ None
unfolding makes
mail_none n from e h = ap (λ (b : Bool). then_some b e) h

-- what is accepted makes itself
pub mail_some : (n : NodeState) (from : ℕ) (e : Entry) → accepts n.me (view_in n) e ≡ true
    → made_by n (mail from e) ≡ Some e
unfolding makes
mail_some n from e h = ap (λ (b : Bool). then_some b e) h

has_place : (place : ℕ) → place ≤ 4294967295 → nat_lt 4294967295 place ≡ false
has_place place h = grind (arith, nat_tests)

pub mail_passed : (n : NodeState) (from : ℕ) (e : Entry) → inside n (mail from e) ≡ true → (from == n.me) ≡ false
    → accepts n.me (view_in n) e ≡ false → step_at n (mail from e) ≡ Ok (due n (mail from e))
mail_passed n from e i o h =
    no_fault n (mail from e) (mail_passes n from e i o) (ap (is_place_spent (view_in n)) (mail_none n from e h)) refl
    (ap is_too_long (mail_none n from e h))

pub mail_long : (n : NodeState) (from : ℕ) (e : Entry) → inside n (mail from e) ≡ true → (from == n.me) ≡ false
    → accepts n.me (view_in n) e ≡ true → e.place ≤ 4294967295 → is_too_long (Some e) ≡ true
    → step_at n (mail from e) ≡ Err model.StepFault.TooLong
mail_long n from e i o h p l =
    too_long n (mail from e) (mail_passes n from e i o)
    (ap (is_place_spent (view_in n)) (mail_some n from e h) ∙ has_place e.place p) refl
    (ap is_too_long (mail_some n from e h) ∙ l)

pub mail_kept : (n : NodeState) (from : ℕ) (e : Entry) → inside n (mail from e) ≡ true → (from == n.me) ≡ false
    → accepts n.me (view_in n) e ≡ true → e.place ≤ 4294967295 → is_too_long (Some e) ≡ false
    → step_at n (mail from e) ≡ Ok (due n (mail from e))
mail_kept n from e i o h p l =
    no_fault n (mail from e) (mail_passes n from e i o)
    (ap (is_place_spent (view_in n)) (mail_some n from e h) ∙ has_place e.place p) refl
    (ap is_too_long (mail_some n from e h) ∙ l)

mail_outs : (n : NodeState) (from : ℕ) (e : Entry) (m : Option Entry)
    → outs_of (present_in n) n.me (view_in n) (session_in n) (mail from e) m ≡ answer_to n from e
unfolding outs_of
mail_outs n from e m = refl

mail_session : (n : NodeState) (from : ℕ) (e : Entry) (m : Option Entry)
    → next_session (view_in n) (session_in n) (mail from e) m ≡ session_in n
unfolding next_session
mail_session n from e m = refl

-- nothing is kept, and the answer goes back
pub passed_taken : (n : NodeState) (from : ℕ) (e : Entry) (outs : List Out) → Makes n (mail from e) None
    → outs ≡ answer_to n from e → IsTaken n (mail from e) (record { kept = None; outs = outs }) n
passed_taken n from e outs h is =
    step_taken n n (mail from e) None outs h.passed h.made_
    (record {
      kept_ = sym (append-nil n.kept);
      net_ = refl;
      me_ = refl;
      session_ = mail_session n from e None;
      outs_ = mail_outs n from e None ∙ sym is;
    })

-- the entry is kept, and the answer goes back
pub accepted_taken : (old new : NodeState) (from : ℕ) (e kept : Entry) (outs : List Out)
    → Makes old (mail from e) (Some e) → kept ≡ e → HoldsOneMore old e new → outs ≡ answer_to new from e
    → IsTaken old (mail from e) (record { kept = Some kept; outs = outs }) new
accepted_taken old new from e kept outs h same one is =
    subst (λ (d : Entry). IsTaken old (mail from e) (record { kept = Some d; outs = outs }) new) (sym same)
    (step_taken old new (mail from e) (Some e) outs h.passed h.made_
    (record {
      kept_ = one.kept_;
      net_ = one.net_;
      me_ = one.me_;
      session_ =
          mail_session old from e (Some e)
          ∙ λ i. record {
            acked = acked_by (sym one.mail_ i);
            links = is_up (sym one.mail_ i);
            live = sym one.live_ i;
          };
      outs_ = mail_outs new from e (Some e) ∙ sym is;
    }))

-- an empty list with what was put at its end
pub only : {X : Type 0} (begun outs put : List X) → begun ≡ [] → outs ≡ begun ++ put → outs ≡ put
only {X} begun outs put h k = k ∙ ap (λ (l : List X). l ++ put) h

pub no_answer : (n : NodeState) (from : ℕ) (e : Entry) (outs : List Out) → is_up n.mail from ≡ false
    → outs ≡ outs ++ answer_to n from e
no_answer n from e outs h = rw h (sym (append-nil outs))

pub one_answer : (n : NodeState) (from : ℕ) (e : Entry) (outs after : List Out) (p : Packet)
    → is_up n.mail from ≡ true → p ≡ types.Ack e.feed (length (view_in n e.feed))
    → after ≡ outs ++ types.Send from p ∷ [] → after ≡ outs ++ answer_to n from e
one_answer n from e outs after p h k a =
    rw h (a ∙ ap (λ (q : Packet). outs ++ types.Send from q ∷ []) k)
