use Rattle.std.proofs.Common.{ℕ, List, ◌≡◌, ◌+◌, ◌++◌, ◌∷◌, ◌∙◌, length}
use Rattle.std.specs.Prelude.{Result, Ok, Err, IfOk, OnOk}
use Rattle.base_types.specs.declared.NoMemory.{NoMemory}
use Rattle.model.specs.Fields.{u32_bytes}
use Rattle.mail_frames.proofs.Built.{mail_written, ack_written}
use Rattle.mail_frames.proofs.writes.write_frame.Goals as goal

-- what holds where a call answered, beside what it answered
both : (r : Result (List ℕ) NoMemory) (P Q : List ℕ → Type 0) (R : Type 0) → ((b : List ℕ) → P b → R → Q b)
    → IfOk r P → OnOk r R → IfOk r Q
both (Ok b) P Q R w h i = w b h i
both (Err e) P Q R w h i = tt

pub returns-in-Mail : goal.returns-in-Mail
returns-in-Mail c =
    let content = c.as_slice.result.now in
    both c.framed.result (λ (b : List ℕ). b ≡ u32_bytes (1 + length content) ++ 1 ∷ content) _ _
    (λ (b : List ℕ) e range.
    mail_written c.args.f.now c.in-Mail.entry content b c.in-Mail.is c.as_slice.ensures range c.requires e)
    c.framed.ensures.ok c.framed.ensures.range

pub returns-in_ok-content-in-Ack : goal.returns-in_ok-content-in-Ack
returns-in_ok-content-in-Ack c =
    let content = c.as_slice-in-Ack.result.now in
    both c.framed-in-Ack.result (λ (b : List ℕ). b ≡ u32_bytes (1 + length content) ++ 2 ∷ content) _ _
    (λ (b : List ℕ) e range.
    ack_written c.args.f.now c.in-Ack.feed c.in-Ack.count content b c.in-Ack.is
    (c.as_slice-in-Ack.ensures ∙ c.in_ok-content-in-Ack.ensures.ok) c.in_ok-content-in-Ack.ensures.range e)
    c.framed-in-Ack.ensures.ok c.framed-in-Ack.ensures.range
