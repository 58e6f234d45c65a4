-- What is told of plans and of replies to the prompts of the network, one body further.
use Rattle.std.proofs.Common.{[], ℕ, ◌+◌, ◌++◌, ◌<◌, ◌∙◌, ◌∷◌, ◌≡◌, ◌≢◌, ◌≤◌, ◌^◌, ◌⊎◌, Bool, List, None, Option, Some}
use Rattle.std.proofs.Common.{ap, arith, eqb, false, inl, inr, length, refl, subst, sym, true}
use Rattle.std.proofs.lemmas.Bool.Decides.{eqb_tells}
use Rattle.std.proofs.lemmas.List.Sums.{count_by-le-length}
use Rattle.std.specs.Bool.{then_some}
use Rattle.std.specs.Option.{IfSome}
use Rattle.std.specs.Prelude.{if◌then◌else◌, unwrap_or}
use Rattle.lemmas.proofs.Numbers.{number_itself}
use Rattle.model.specs.Types.{Body, NewPlan, Obeyed, ReplyGlobal}
use Rattle.model.specs.Facts.{global_reply, global_reply_in}
use Rattle.owner_rows.specs.Replies.{IsPlanRow, IsReplyRow, plans, reply_while, reply_with}
use Rattle.owner_rows.specs.Subjects.{is_plan, plan_in, prompt_in}
use Rattle.owner_rows.proofs.Further.{apart, count_with, counted_with, last_with_body}

-- plans
pub plan_told : (events : List Body) (b : Body) (n old new : ℕ) → length events + 1 < 2 ^ 32 → IsPlanRow events n old
    → is_plan b ≡ true → (old + 1 < 2 ^ 32 → new ≡ old + 1) → IsPlanRow (events ++ b ∷ []) n new
plan_told events b n old new room h is more z =
    counted_with old new (plans events) (length events) true (is_plan b) (h z) (count_by-le-length is_plan events) room
    (sym is) more ∙ sym (count_with is_plan events b)

-- a body that tells of plans is one
pub told_is_plan : (b : Body) (n : ℕ) → plan_in b ≡ Some n → is_plan b ≡ true
told_is_plan b n h = go (is_plan b) h
  where
    go : (t : Bool) → then_some t 0 ≡ Some n → t ≡ true
    go true k = refl
    go false k = cc

plans_stay : (events : List Body) (b : Body) → is_plan b ≡ false → plans (events ++ b ∷ []) ≡ plans events
plans_stay events b h =
    count_with is_plan events b ∙ ap (λ (t : Bool). plans events + (if t then 1 else 0)) h ∙ plus (plans events)
  where
    plus : (n : ℕ) → n + 0 ≡ n
    plus n = omega arith

pub plan_quiet : (events : List Body) (b : Body) (n r : ℕ) → plan_in b ≢ Some n → IsPlanRow events n r
    → IsPlanRow (events ++ b ∷ []) n r
plan_quiet events b n r h row z = row z ∙ sym (plans_stay events b (go (is_plan b) h))
  where
    go : (t : Bool) → then_some t 0 ≢ Some n → t ≡ false
    go true k = absurd (k (ap Some (sym z)))
    go false k = refl

-- replies
reply_further : (p : ℕ) (events : List Body) (b : Body)
    → global_reply p (events ++ b ∷ []) ≡ unwrap_or (global_reply_in p b) (global_reply p events)
unfolding global_reply
reply_further p events b = last_with_body (global_reply_in p) None events b

-- a body that is no reply to the prompt is a plan, or says nothing of it
kinds : (b : Body) (p : ℕ) → prompt_in b ≢ Some p
    → ((is_plan b ≡ true) × (global_reply_in p b ≡ Some None))
    ⊎ ((is_plan b ≡ false) × (global_reply_in p b ≡ None))
kinds (NewPlan run cut carried docs) p h = inl (refl, refl)
kinds (Obeyed a k (ReplyGlobal q yes_)) p h = inr (refl, (let e : eqb p q ≡ false = apart p q h in rw e refl))
kinds (Obeyed a k c) p h = inr (refl, refl)
kinds b p h = inr (refl, refl)

-- a plan takes a reply back
taken_back : (n m : ℕ) (row : Option (ℕ × Bool)) → IfSome row (λ r. r.0 ≤ n) → m ≡ n + 1 → None ≡ reply_while m row
taken_back n m None h e = refl
taken_back n m (Some r) h e =
    elim (eqb_tells r.0 m) [
      | inl c ↦ absurd (let d : r.0 ≡ m = c.1 in omega (arith, h, e, d))
      | inr c ↦ (rw c.0 refl)
    ]

still_before : (n m : ℕ) (row : Option (ℕ × Bool)) → IfSome row (λ r. r.0 ≤ n) → n ≤ m → IfSome row (λ r. r.0 ≤ m)
still_before n m None h e = h
still_before n m (Some r) h e = omega (arith, h, e)

pub reply_quiet : (events : List Body) (b : Body) (p : ℕ) (row : Option (ℕ × Bool)) → prompt_in b ≢ Some p
    → IsReplyRow events p row → IsReplyRow (events ++ b ∷ []) p row
reply_quiet events b p row h r =
    elim (kinds b p h) [
      | inl k ↦ (
          let n : plans (events ++ b ∷ []) ≡ plans events + 1 =
          count_with is_plan events b ∙ ap (λ (t : Bool). plans events + (if t then 1 else 0)) k.0 in
          record {
            reply =
                reply_further p events b ∙ ap (λ (o : Option (Option Bool)). unwrap_or o (global_reply p events)) k.1
                ∙ taken_back (plans events) (plans (events ++ b ∷ [])) row r.before n;
            before = still_before (plans events) (plans (events ++ b ∷ [])) row r.before (omega (arith, n));
          })
      | inr k ↦ (
          let n : plans (events ++ b ∷ []) ≡ plans events = plans_stay events b k.0 in
          record {
            reply =
                reply_further p events b ∙ ap (λ (o : Option (Option Bool)). unwrap_or o (global_reply p events)) k.1
                ∙ r.reply ∙ ap (λ (m : ℕ). reply_while m row) (sym n);
            before = still_before (plans events) (plans (events ++ b ∷ [])) row r.before (omega (arith, n));
          })
    ]

-- the reply of a body
said : (b : Body) (p : ℕ) → prompt_in b ≡ Some p
    → (yes_ : Bool) × ((is_plan b ≡ false) × ((global_reply_in p b ≡ Some (Some yes_))
    × ((n : ℕ) → reply_with n b ≡ Some (n, yes_))))
said (Obeyed a k (ReplyGlobal q yes_)) p h =
    (yes_, (refl, ((let e : q ≡ p = cc in let f : eqb p q ≡ true = ap (eqb p) e ∙ number_itself p in rw f refl), λ n. refl)))
said (Obeyed a k c) p h = absurd (cc)
said b p h = absurd (cc)

pub reply_told : (events : List Body) (b : Body) (p count : ℕ) (row : Option (ℕ × Bool)) → prompt_in b ≡ Some p
    → count ≡ plans events → row ≡ reply_with count b → IsReplyRow (events ++ b ∷ []) p row
reply_told events b p count row h e is =
    let s : (yes_ : Bool) × ((is_plan b ≡ false) × ((global_reply_in p b ≡ Some (Some yes_))
    × ((n : ℕ) → reply_with n b ≡ Some (n, yes_)))) = said b p h in
    let n : count ≡ plans (events ++ b ∷ []) = e ∙ sym (plans_stay events b s.1.0) in
    subst (λ (o : Option (ℕ × Bool)). IsReplyRow (events ++ b ∷ []) p o) (sym (is ∙ s.1.1.1 count))
    (record {
      reply =
          reply_further p events b
          ∙ ap (λ (o : Option (Option Bool)). unwrap_or o (global_reply p events)) s.1.1.0
          ∙ sym (ap (λ (t : Bool). then_some t s.0) (ap (λ (m : ℕ). eqb m (plans (events ++ b ∷ []))) n
          ∙ number_itself (plans (events ++ b ∷ []))));
      before = omega (arith, n);
    })

-- no events
pub reply_of_none : (p : ℕ) → IsReplyRow [] p None
unfolding global_reply
reply_of_none p = record { reply = refl; before = tt }
