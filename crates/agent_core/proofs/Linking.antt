-- Links that go up and down, and acknowledgements.
use Rattle.std.proofs.Common.{◌≡◌, ◌∙◌, [], ℕ, Bool, None, Ok, false, refl, sym, true}
use Rattle.std.proofs.lemmas.List.{append-nil}
use Rattle.std.specs.Prelude.{◌==◌}
use Rattle.model.specs.Types as types
use Rattle.model.specs.Types.{Feed, Input}
use Rattle.model.specs.Words.{with_at}
use Rattle.model.specs.Sessions.{Session, next_session, raise_acked}
use Rattle.model.specs.History.{Holding}
use Rattle.model.specs.NewEntry.{event_of, makes, own_entry}
use Rattle.model.specs.Step.{outs_of}
use Rattle.mailman_core.specs.Mails.{acked_by, is_up}
use Rattle.agent_core.specs.Nodes.{NodeState, session_in, view_in}
use Rattle.agent_core.specs.Steps.{DiffersInMail, IsTaken, due, made_by, quiet, step_at}
use Rattle.agent_core.proofs.Causes.{inside, no_fault, step_taken}

abbrev pub up : ℕ → Input
up x = types.Input.Local (types.Linked x)

abbrev pub down : ℕ → Input
down x = types.Input.Local (types.Unlinked x)

abbrev pub ack : ℕ → Feed → ℕ → Input
ack x f n = types.Input.Ack x f n

up_makes : (n : NodeState) (x : ℕ) → made_by n (up x) ≡ None
unfolding makes own_entry event_of
up_makes n x = refl

down_makes : (n : NodeState) (x : ℕ) → made_by n (down x) ≡ None
unfolding makes own_entry event_of
down_makes n x = refl

ack_makes : (n : NodeState) (x : ℕ) (f : Feed) (m : ℕ) → made_by n (ack x f m) ≡ None
unfolding makes
ack_makes n x f m = refl

up_due : (n : NodeState) (x : ℕ) → inside n (up x) ≡ true → (x == n.me) ≡ false → step_at n (up x) ≡ Ok (due n (up x))
unfolding makes own_entry event_of
up_due n x e f =
    no_fault n (up x) (record { inside_ = e; other = f; master = refl; runs = refl; waits = refl }) refl refl refl

down_due : (n : NodeState) (x : ℕ) → inside n (down x) ≡ true → (x == n.me) ≡ false
    → step_at n (down x) ≡ Ok (due n (down x))
unfolding makes own_entry event_of
down_due n x e f =
    no_fault n (down x) (record { inside_ = e; other = f; master = refl; runs = refl; waits = refl }) refl refl refl

ack_due : (n : NodeState) (x : ℕ) (f : Feed) (m : ℕ) → inside n (ack x f m) ≡ true → (x == n.me) ≡ false
    → step_at n (ack x f m) ≡ Ok (due n (ack x f m))
unfolding makes
ack_due n x f m e g =
    no_fault n (ack x f m) (record { inside_ = e; other = g; master = refl; runs = refl; waits = refl }) refl refl refl

-- the session after one that differs in mail
abbrev with_mail : NodeState → (ℕ → Holding) → (ℕ → Bool) → Session
with_mail n acked links = record { acked = acked; links = links; live = n.live }

session_after : (old new : NodeState) (acked : ℕ → Holding) (links : ℕ → Bool) → acked_by new.mail ≡ acked
    → is_up new.mail ≡ links → DiffersInMail old new → with_mail old acked links ≡ session_in new
session_after old new acked links a l same =
    λ i. record { acked = sym a i; links = sym l i; live = sym same.live_ i }

up_session : (n : NodeState) (x : ℕ)
    → next_session (view_in n) (session_in n) (up x) None ≡ with_mail n (acked_by n.mail) (with_at x true (is_up n.mail))
unfolding next_session
up_session n x = refl

down_session : (n : NodeState) (x : ℕ)
    → next_session (view_in n) (session_in n) (down x) None
    ≡ with_mail n (acked_by n.mail) (with_at x false (is_up n.mail))
unfolding next_session
down_session n x = refl

ack_session : (n : NodeState) (x : ℕ) (f : Feed) (m : ℕ)
    → next_session (view_in n) (session_in n) (ack x f m) None
    ≡ with_mail n (with_at x (raise_acked (acked_by n.mail x) (view_in n) f m) (acked_by n.mail)) (is_up n.mail)
unfolding next_session
ack_session n x f m = refl

pub up_taken : (old new : NodeState) (x : ℕ) → inside old (up x) ≡ true → (x == old.me) ≡ false
    → is_up new.mail ≡ with_at x true (is_up old.mail) → acked_by new.mail ≡ acked_by old.mail
    → DiffersInMail old new → IsTaken old (up x) quiet new
unfolding outs_of
up_taken old new x e f l a same =
    step_taken old new (up x) None [] (up_due old x e f) (up_makes old x)
    (record {
      kept_ = same.kept_ ∙ sym (append-nil old.kept);
      net_ = same.net_;
      me_ = same.me_;
      session_ =
          up_session old x
          ∙ session_after old new (acked_by old.mail) (with_at x true (is_up old.mail)) a l same;
      outs_ = refl;
    })

pub down_taken : (old new : NodeState) (x : ℕ) → inside old (down x) ≡ true → (x == old.me) ≡ false
    → is_up new.mail ≡ with_at x false (is_up old.mail) → acked_by new.mail ≡ acked_by old.mail
    → DiffersInMail old new → IsTaken old (down x) quiet new
unfolding outs_of
down_taken old new x e f l a same =
    step_taken old new (down x) None [] (down_due old x e f) (down_makes old x)
    (record {
      kept_ = same.kept_ ∙ sym (append-nil old.kept);
      net_ = same.net_;
      me_ = same.me_;
      session_ =
          down_session old x
          ∙ session_after old new (acked_by old.mail) (with_at x false (is_up old.mail)) a l same;
      outs_ = refl;
    })

pub ack_taken : (old new : NodeState) (x : ℕ) (f : Feed) (m : ℕ) → inside old (ack x f m) ≡ true
    → (x == old.me) ≡ false
    → acked_by new.mail ≡ with_at x (raise_acked (acked_by old.mail x) (view_in old) f m) (acked_by old.mail)
    → is_up new.mail ≡ is_up old.mail → DiffersInMail old new → IsTaken old (ack x f m) quiet new
unfolding outs_of
ack_taken old new x f m e g a l same =
    step_taken old new (ack x f m) None [] (ack_due old x f m e g) (ack_makes old x f m)
    (record {
      kept_ = same.kept_ ∙ sym (append-nil old.kept);
      net_ = same.net_;
      me_ = same.me_;
      session_ =
          ack_session old x f m
          ∙ session_after old new (with_at x (raise_acked (acked_by old.mail x) (view_in old) f m) (acked_by old.mail))
          (is_up old.mail) a l same;
      outs_ = refl;
    })
