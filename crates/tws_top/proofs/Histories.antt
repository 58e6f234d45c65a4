-- What is said of a history.
use Rattle.std.proofs.Common.{◌≡◌, ◌∙◌, ◌≤◌, ◌<◌, ◌⊎◌, ℕ, List, Option, Result, Ok, Err, inl, inr}
use Rattle.std.proofs.Common.{refl, sym, ap, subst, length, arith}
use Rattle.std.specs.Io.KnownBytes.{Appends}
use Rattle.event_audit.proofs.Items.{not_sound}
use Rattle.event_audit.specs.Items.{IsFirstWrong}
use Rattle.history_script.specs.Fronts.{At}
use Rattle.history_script.specs.declared.histories.HistoryKind.{HistoryKind}
use Rattle.history_script.specs.declared.histories.HistoryText.{HistoryText}
use Rattle.model.specs.Sound.{IsSound}
use Rattle.outside.specs.Streams.{Stream, TakesAll}
use Rattle.replies.specs.declared.statuses.Status.{Status}
use Rattle.replies.specs.declared.statuses.Status.TheVariants.{Success, NotSound}
use Rattle.input_commands.specs.declared.words.Wanted.TheVariants as wants
use Rattle.input_commands.specs.Audits.{AreHistory}
use Rattle.input_commands.specs.Dues.{HistoryCallsFor, AuditCallsFor, ReadCallsFor}
use Rattle.input_commands.specs.Lines.{refused_line, history_word, not_sound_line}
use Rattle.input_commands.specs.Nights.{Night}
use Rattle.tws_top.specs.InputRows.{FindsSound, FindsWrong, RefusesHistory}
use Rattle.replies.specs.Statuses.{number_of}

-- bytes are read to one thing
pub one_history : (bytes : List ℕ) (a b : Result HistoryText At) → AreHistory bytes a → AreHistory bytes b → a ≡ b
one_history bytes a b (AreHistory.no_text ne) (AreHistory.no_text other) = refl
one_history bytes a b (AreHistory.no_text ne) (AreHistory.text is h) = absurd (ne is)
one_history bytes a b (AreHistory.text is h) (AreHistory.no_text ne) = absurd (ne is)
one_history bytes a b (AreHistory.text is h) (AreHistory.text also k) = sym h ∙ k

-- What is due is one status and one text.

-- there is one first wrong item
one_wrong : (h : HistoryText) (i j : ℕ) → IsFirstWrong h.net h.entries h.starts i
    → IsFirstWrong h.net h.entries h.starts j → i ≡ j
one_wrong h i j one other =
    let not_below : i < j → ⊥ = λ low. one.fails (other.lowest i low) in
    let not_above : j < i → ⊥ = λ low. other.fails (one.lowest j low) in
    omega (arith, not_below, not_above)

history_one : (h : HistoryText) (a b : Status) (x y : List ℕ) (n m : Option Night) → HistoryCallsFor h a x n
    → HistoryCallsFor h b y m → (a ≡ b) × (x ≡ y)
history_one h a b x y n m (HistoryCallsFor.sound is) (HistoryCallsFor.sound also) = (refl, refl)
history_one h a b x y n m (HistoryCallsFor.sound is) (HistoryCallsFor.not_sound j other) =
    absurd (not_sound h.net h.entries h.starts j other is)
history_one h a b x y n m (HistoryCallsFor.not_sound i one) (HistoryCallsFor.sound is) =
    absurd (not_sound h.net h.entries h.starts i one is)
history_one h a b x y n m (HistoryCallsFor.not_sound i one) (HistoryCallsFor.not_sound j other) =
    (refl, ap not_sound_line (one_wrong h i j one other))

pub audit_one : (bytes : List ℕ) (a b : Status) (x y : List ℕ) (n m : Option Night) → AuditCallsFor bytes a x n
    → AuditCallsFor bytes b y m → (a ≡ b) × (x ≡ y)
audit_one bytes a b x y n m (AuditCallsFor.no_history l k e) (AuditCallsFor.no_history l' k' e') =
    let same : ◌≡◌ {A = Result HistoryText At} (Err (l, k)) (Err (l', k')) =
    one_history bytes (Err (l, k)) (Err (l', k')) e e' in
    let pair : (l, k) ≡ (l', k') = cc in
    (refl, ap (λ (p : ℕ × HistoryKind). refused_line p.0 (history_word p.1)) pair)
audit_one bytes a b x y n m (AuditCallsFor.no_history l k e) (AuditCallsFor.read h e' called) =
    let clash : ◌≡◌ {A = Result HistoryText At} (Err (l, k)) (Ok h) = one_history bytes (Err (l, k)) (Ok h) e e' in cc
audit_one bytes a b x y n m (AuditCallsFor.read h e called) (AuditCallsFor.no_history l k e') =
    let clash : ◌≡◌ {A = Result HistoryText At} (Ok h) (Err (l, k)) = one_history bytes (Ok h) (Err (l, k)) e e' in cc
audit_one bytes a b x y n m (AuditCallsFor.read h e called) (AuditCallsFor.read g e' other) =
    let same : ◌≡◌ {A = Result HistoryText At} (Ok h) (Ok g) = one_history bytes (Ok h) (Ok g) e e' in
    let one : h ≡ g = cc in
    let P : HistoryText → Type 0 = λ q. HistoryCallsFor q a x n in
    history_one g a b x y n m (subst P one called) other

-- By the status.

-- a history is sound, or it is not, as the status says
pub data Verdict (h : HistoryText) : Status → Type 0 where
  sound : IsSound h.net h.entries h.starts → Verdict h Success
  wrong : (IsSound h.net h.entries h.starts → ⊥) → Verdict h NotSound

history_verdict : (h : HistoryText) (status : Status) (text : List ℕ) (night : Option Night)
    → HistoryCallsFor h status text night → Verdict h status
history_verdict h status text night (HistoryCallsFor.sound is) = Verdict.sound is
history_verdict h status text night (HistoryCallsFor.not_sound n first) =
    Verdict.wrong (not_sound h.net h.entries h.starts n first)

pub audit_verdict : (bytes : List ℕ) (h : HistoryText) (status : Status) (text : List ℕ) (night : Option Night)
    → AreHistory bytes (Ok h) → AuditCallsFor bytes status text night → Verdict h status
audit_verdict bytes h status text night is (AuditCallsFor.no_history l k e) =
    let clash : ◌≡◌ {A = Result HistoryText At} (Err (l, k)) (Ok h) = one_history bytes (Err (l, k)) (Ok h) e is in cc
audit_verdict bytes h status text night is (AuditCallsFor.read g e called) =
    let same : ◌≡◌ {A = Result HistoryText At} (Ok g) (Ok h) = one_history bytes (Ok g) (Ok h) e is in
    let one : g ≡ h = cc in
    let P : HistoryText → Type 0 = λ q. HistoryCallsFor q status text night in
    history_verdict h status text night (subst P one called)

-- what was read, and what was written
module _ (old new : Option Stream) (written written' : Option (List ℕ)) where
  sound_history : (bytes : List ℕ) (h : HistoryText) (status : Status) (text : List ℕ) (night : Option Night)
      → TakesAll old new bytes → length bytes ≤ 16777216 → AreHistory bytes (Ok h)
      → HistoryCallsFor h status text night → number_of status ≡ 0 → Appends written written' text
      → FindsSound old new written written'
  sound_history bytes h status text night all short e (HistoryCallsFor.sound is) zero wrote = record {
    bytes = bytes;
    history = h;
    read = all;
    short = short;
    is_history = e;
    sound = is;
    wrote = wrote;
  }
  sound_history bytes h status text night all short e (HistoryCallsFor.not_sound n first) zero wrote =
      absurd (let never : ⊥ = omega arith in never)

  sound_called : (bytes : List ℕ) (status : Status) (text : List ℕ) (night : Option Night) → TakesAll old new bytes
      → length bytes ≤ 16777216 → AuditCallsFor bytes status text night → number_of status ≡ 0
      → Appends written written' text → FindsSound old new written written'
  sound_called bytes status text night all short (AuditCallsFor.no_history line kind e) zero wrote =
      absurd (let never : ⊥ = omega arith in never)
  sound_called bytes status text night all short (AuditCallsFor.read h e called) zero wrote =
      sound_history bytes h status text night all short e called zero wrote

  pub sound_read : (status : Status) (text : List ℕ) (night : Option Night)
      → ReadCallsFor wants.Audit old new status text night → number_of status ≡ 0
      → Appends written written' text → FindsSound old new written written'
  sound_read status text night (ReadCallsFor.too_long takes) zero wrote =
      absurd (let never : ⊥ = omega arith in never)
  sound_read status text night (ReadCallsFor.read bytes all short called) zero wrote =
      sound_called bytes status text night all short called zero wrote

  wrong_history : (bytes : List ℕ) (h : HistoryText) (status : Status) (text : List ℕ) (night : Option Night)
      → TakesAll old new bytes → AreHistory bytes (Ok h) → HistoryCallsFor h status text night
      → number_of status ≡ 11 → Appends written written' text → FindsWrong old new written written'
  wrong_history bytes h status text night all e (HistoryCallsFor.sound is) eleven wrote =
      absurd (let never : ⊥ = omega arith in never)
  wrong_history bytes h status text night all e (HistoryCallsFor.not_sound n first) eleven wrote = record {
    bytes = bytes;
    history = h;
    item = n;
    read = all;
    is_history = e;
    not_sound = not_sound h.net h.entries h.starts n first;
    first = first;
    wrote = wrote;
  }

  pub wrong_called : (bytes : List ℕ) (status : Status) (text : List ℕ) (night : Option Night) → TakesAll old new bytes
      → AuditCallsFor bytes status text night → number_of status ≡ 11 → Appends written written' text
      → FindsWrong old new written written'
  wrong_called bytes status text night all (AuditCallsFor.no_history line kind e) eleven wrote =
      absurd (let never : ⊥ = omega arith in never)
  wrong_called bytes status text night all (AuditCallsFor.read h e called) eleven wrote =
      wrong_history bytes h status text night all e called eleven wrote

  not_3_history : (h : HistoryText) (status : Status) (text : List ℕ) (night : Option Night)
      → HistoryCallsFor h status text night → number_of status ≡ 3 → ⊥
  not_3_history h status text night (HistoryCallsFor.sound is) three = omega arith
  not_3_history h status text night (HistoryCallsFor.not_sound n first) three = omega arith

  refused_called : (bytes : List ℕ) (status : Status) (text : List ℕ) (night : Option Night) → TakesAll old new bytes
      → AuditCallsFor bytes status text night → number_of status ≡ 3 → Appends written written' text
      → RefusesHistory old new written written'
  refused_called bytes status text night all (AuditCallsFor.no_history line kind e) three wrote =
      record { bytes = bytes; line = line; kind = kind; read = all; refused = e; wrote = wrote }
  refused_called bytes status text night all (AuditCallsFor.read h e called) three wrote =
      absurd (not_3_history h status text night called three)

  pub refused_read : (status : Status) (text : List ℕ) (night : Option Night)
      → ReadCallsFor wants.Audit old new status text night → number_of status ≡ 3
      → Appends written written' text → RefusesHistory old new written written'
  refused_read status text night (ReadCallsFor.too_long takes) three wrote =
      absurd (let never : ⊥ = omega arith in never)
  refused_read status text night (ReadCallsFor.read bytes all short called) three wrote =
      refused_called bytes status text night all called three wrote

-- which are neither refused with 1 nor pass a limit of their own
not_1_or_10_history : (h : HistoryText) (status : Status) (text : List ℕ) (night : Option Night)
    → HistoryCallsFor h status text night → (number_of status ≡ 1) ⊎ (number_of status ≡ 10) → ⊥
not_1_or_10_history h status text night (HistoryCallsFor.sound is) (inl e) = omega arith
not_1_or_10_history h status text night (HistoryCallsFor.sound is) (inr e) = omega arith
not_1_or_10_history h status text night (HistoryCallsFor.not_sound n first) (inl e) = omega arith
not_1_or_10_history h status text night (HistoryCallsFor.not_sound n first) (inr e) = omega arith

pub not_1_or_10 : (bytes : List ℕ) (status : Status) (text : List ℕ) (night : Option Night)
    → AuditCallsFor bytes status text night → (number_of status ≡ 1) ⊎ (number_of status ≡ 10) → ⊥
not_1_or_10 bytes status text night (AuditCallsFor.no_history line kind e) (inl is) = omega arith
not_1_or_10 bytes status text night (AuditCallsFor.no_history line kind e) (inr is) = omega arith
not_1_or_10 bytes status text night (AuditCallsFor.read h e called) which =
    not_1_or_10_history h status text night called which
