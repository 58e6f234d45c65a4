-- What bytes are as a history, and the replies to it.
use Rattle.std.proofs.Common.{◌≡◌, ◌∙◌, ◌==◌, ◌+◌, ◌<◌, ℕ, List, None, Result, Ok, Err}
use Rattle.std.proofs.Common.{refl, sym, ap, subst, length, take, count_by, arith}
use Rattle.std.specs.Prelude.{IsUtf8}
use Rattle.std.specs.Result.{IfOk}
use Rattle.std.specs.Str.{IsValidUpTo}
use Rattle.std.specs.Str.Lossy.{utf8_valid_len}
use Rattle.std.proofs.lemmas.Str.{utf8_valid_len-IsUtf8, utf8_valid_len-IsValidUpTo}
use Rattle.base_types.specs.declared.Net.{Net}
use Rattle.event_audit.specs.Items.{IsFirstWrong}
use Rattle.event_audit.specs.declared.findings.Audit.{Audit}
use Rattle.event_audit.specs.declared.findings.Audit.TheVariants.{Sound, Not}
use Rattle.history_script.specs.Fronts.{At}
use Rattle.history_script.specs.Histories.{read_of}
use Rattle.history_script.specs.declared.histories.HistoryFault.{HistoryFault}
use Rattle.history_script.specs.declared.histories.HistoryFault.TheVariants.{At as At_}
use Rattle.history_script.specs.declared.histories.HistoryKind.{HistoryKind}
use Rattle.history_script.specs.declared.histories.HistoryKind.TheVariants.{OfRecord}
use Rattle.history_script.specs.declared.histories.HistoryText.{HistoryText}
use Rattle.model.specs.Sound.{IsSound}
use Rattle.model.specs.Types.{Entry, Start}
use Rattle.record_faults.specs.declared.kinds.ScriptKind.TheVariants.{BadLine}
use Rattle.input_commands.specs.declared.unsaid_replies.Reply.{Reply}
use Rattle.replies.specs.declared.statuses.Status.TheVariants.{Success, RecordRefused, NotSound}
use Rattle.input_commands.specs.Audits.{AreHistory}
use Rattle.input_commands.specs.Dues.{HistoryCallsFor, AuditCallsFor, IsReply}
use Rattle.input_commands.specs.Lines.{refused_line, history_word, sound_line, not_sound_line, found_status, found_text}
use Rattle.input_commands.proofs.Calling.{parts, alone}

-- bytes that are a text are read as it is
pub text_history : (bytes text : List ℕ) (reading : Result HistoryText At) → text ≡ bytes → IsUtf8 bytes
    → read_of text ≡ reading → AreHistory bytes reading
text_history bytes text reading same is h =
    AreHistory.text (utf8_valid_len-IsUtf8 bytes is) (ap read_of (sym same) ∙ h)

-- other bytes are refused at the line of the first that is no part of a text
pub no_text_history : (bytes : List ℕ) (n line : ℕ) → IsValidUpTo bytes n
    → line ≡ 1 + count_by (λ b. b == 10) (take n bytes) → AreHistory bytes (Err (line, OfRecord BadLine))
no_text_history bytes n line valid is =
    let len : utf8_valid_len bytes ≡ n = utf8_valid_len-IsValidUpTo bytes n valid in
    let short : n < length bytes = valid.short in
    let other : utf8_valid_len bytes ≡ length bytes → ⊥ = λ e. omega arith in
    subst (λ (l : ℕ). AreHistory bytes (Err (l, OfRecord BadLine)))
    (ap (λ m. 1 + count_by (λ b. b == 10) (take m bytes)) len ∙ sym is) (AreHistory.no_text other)

-- the same of calls that may want memory
pub text_result : {E : Type 0} (bytes text : List ℕ) (r : Result HistoryText E) → text ≡ bytes → IsUtf8 bytes
    → IfOk r (λ (q : HistoryText). read_of text ≡ Ok q) → IfOk r (λ (q : HistoryText). AreHistory bytes (Ok q))
text_result bytes text (Ok q) same is h = text_history bytes text (Ok q) same is h
text_result bytes text (Err e) same is h = tt

-- a line and a kind that are told by other names
pub told_history : (bytes : List ℕ) (line n : ℕ) (kind k : HistoryKind)
    → ◌≡◌ {A = Result HistoryText HistoryFault} (Err (At_ line kind)) (Err (At_ n k))
    → AreHistory bytes (Err (line, kind)) → AreHistory bytes (Err (n, k))
told_history bytes line n kind k e h =
    let same_line : line ≡ n = cc in
    let same_kind : kind ≡ k = cc in
    subst (λ (m : ℕ). AreHistory bytes (Err (m, k))) same_line
    (subst (λ (q : HistoryKind). AreHistory bytes (Err (line, q))) same_kind h)

-- Replies.

bad_history_reply : (bytes : List ℕ) (r : Reply) (line : ℕ) (kind : HistoryKind) → AreHistory bytes (Err (line, kind))
    → r.status ≡ RecordRefused → r.text ≡ refused_line line (history_word kind) → r.world ≡ None
    → IsReply (AuditCallsFor bytes) r
bad_history_reply bytes r line kind e is said none =
    parts (AuditCallsFor bytes) r RecordRefused (refused_line line (history_word kind)) None is said (alone r none)
    (AuditCallsFor.no_history line kind e)

pub bad_history_result : {E : Type 0} (bytes : List ℕ) (line : ℕ) (kind : HistoryKind) (r : Result Reply E)
    → AreHistory bytes (Err (line, kind)) → IfOk r (λ (a : Reply). a.status ≡ RecordRefused)
    → IfOk r (λ (a : Reply). a.text ≡ refused_line line (history_word kind)) → IfOk r (λ (a : Reply). a.world ≡ None)
    → IfOk r (IsReply (AuditCallsFor bytes))
bad_history_result bytes line kind (Ok r) e is said none = bad_history_reply bytes r line kind e is said none
bad_history_result bytes line kind (Err f) e is said none = tt

pub history_result : {E : Type 0} (bytes : List ℕ) (h : HistoryText) (r : Result Reply E) → AreHistory bytes (Ok h)
    → IfOk r (IsReply (HistoryCallsFor h)) → IfOk r (IsReply (AuditCallsFor bytes))
history_result bytes h (Ok r) e called =
    record { night = called.night; called = AuditCallsFor.read h e called.called; world_ = called.world_ }
history_result bytes h (Err f) e called = tt

-- an audit answers this of a history with these parts
record IsFound (a : Audit) (net : Net) (g : List Entry) (starts : List Start) : Type 0 where
  pub sound : a ≡ Sound → IsSound net g starts
  pub wrong : (n : ℕ) → a ≡ Not n → IsFirstWrong net g starts n

found_reply : (h : HistoryText) (a : Audit) (r : Reply) → IsFound a h.net h.entries h.starts → r.status ≡ found_status a
    → r.text ≡ found_text (length h.entries) (length h.starts) a → r.world ≡ None → IsReply (HistoryCallsFor h) r
found_reply h Sound r found is said none =
    parts (HistoryCallsFor h) r Success (sound_line (length h.entries) (length h.starts)) None is said (alone r none)
    (HistoryCallsFor.sound (found.sound refl))
found_reply h (Not n) r found is said none =
    parts (HistoryCallsFor h) r NotSound (not_sound_line n) None is said (alone r none)
    (HistoryCallsFor.not_sound n (found.wrong n refl))

pub found_result : {E : Type 0} (h : HistoryText) (net : Net) (g : List Entry) (starts : List Start) (a : Audit)
    (m k : ℕ) (r : Result Reply E) → net ≡ h.net → g ≡ h.entries → starts ≡ h.starts
    → (a ≡ Sound → IsSound net g starts) → ((n : ℕ) → a ≡ Not n → IsFirstWrong net g starts n)
    → m ≡ length g → k ≡ length starts → IfOk r (λ (b : Reply). b.status ≡ found_status a)
    → IfOk r (λ (b : Reply). b.text ≡ found_text m k a) → IfOk r (λ (b : Reply). b.world ≡ None)
    → IfOk r (IsReply (HistoryCallsFor h))
found_result h net g starts a m k (Ok r) over these those sound wrong count launches is said none =
    let found : IsFound a net g starts = record { sound = sound; wrong = wrong } in
    let by_net = subst (λ (n : Net). IsFound a n g starts) over found in
    let by_entries = subst (λ (e : List Entry). IsFound a h.net e starts) these by_net in
    let by_starts = subst (λ (s : List Start). IsFound a h.net h.entries s) those by_entries in
    let entries_ : m ≡ length h.entries = count ∙ ap length these in
    let starts_ : k ≡ length h.starts = launches ∙ ap length those in
    found_reply h a r by_starts is
    (said ∙ ap (λ z. found_text z k a) entries_ ∙ ap (λ z. found_text (length h.entries) z a) starts_) none
found_result h net g starts a m k (Err e) over these those sound wrong count launches is said none = tt
