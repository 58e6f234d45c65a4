-- What is told of a world, and what bytes are.
use Rattle.std.proofs.Common.{◌≡◌, ◌==◌, ◌+◌, ◌<◌, ℕ, List, Result, Ok, Err, sym, ap, ◌∙◌, subst, length}
use Rattle.std.proofs.Common.{take, count_by, arith}
use Rattle.std.specs.Result.{IfOk}
use Rattle.std.specs.Prelude.{IsUtf8}
use Rattle.std.specs.Str.{IsValidUpTo}
use Rattle.std.specs.Str.Lossy.{utf8_valid_len}
use Rattle.std.proofs.lemmas.Str.{utf8_valid_len-IsUtf8, utf8_valid_len-IsValidUpTo}
use Rattle.base_types.specs.declared.Net.{Net}
use Rattle.base_types.specs.declared.ReportParts.{ReportParts}
use Rattle.model.specs.Types.{Entry, Start}
use Rattle.model.specs.History.{view_of}
use Rattle.model.specs.World.{World, view_at}
use Rattle.agent_core.specs.Nodes.{NodeState}
use Rattle.network_world.specs.Parts.{parts_of}
use Rattle.network_world.specs.Stations.{WorldState}
use Rattle.network_world.specs.Standing.{NodeStandsFor, StandsFor}
use Rattle.history_script.specs.Printed.{history_text}
use Rattle.symphony_view.specs.Counts.{stream_counts, job_counts}
use Rattle.night_records.specs.Readings.{At, IsRead}
use Rattle.night_records.specs.declared.Record.{Record}
use Rattle.record_faults.specs.declared.kinds.ScriptKind.{ScriptKind}
use Rattle.record_faults.specs.declared.kinds.ScriptKind.TheVariants.{BadLine}
use Rattle.record_script.specs.declared.ScriptFault.{ScriptFault}
use Rattle.record_script.specs.declared.ScriptFault.TheVariants.{At as At_}
use Rattle.report_text.specs.Reports.{report_of}
use Rattle.report_text.specs.Summaries.{summary_of}
use Rattle.input_commands.specs.Nights.{AreRead, history_at, report_at, summary_at}

pub report_told : (w : WorldState) (x : World) (net : Net) (parts : ReportParts) (text : List ℕ) → net ≡ w.net
    → parts ≡ parts_of w.net x → text ≡ report_of net parts → text ≡ report_at w.net x
report_told w x net parts text over are is =
    is ∙ ap (λ n. report_of n parts) over ∙ ap (report_of w.net) are

held : (net : Net) (x : World) (w : ℕ) (node : NodeState) → NodeStandsFor net x w node → view_of node.kept ≡ view_at x w
held net x w node h = λ i f. h.kept_.holds_them f i

pub summary_told : (w : WorldState) (x : World) (net : Net) (node : NodeState) (kept : List Entry)
    (streams jobs : List ℕ) (events starts : ℕ) (text : List ℕ) → StandsFor w x → NodeStandsFor w.net x 0 node
    → net ≡ w.net → kept ≡ node.kept → streams ≡ stream_counts net (view_of kept)
    → jobs ≡ job_counts net (view_of kept) → events ≡ length w.journal.history → starts ≡ length w.journal.starts
    → text ≡ summary_of streams jobs events starts → text ≡ summary_at w.net x
summary_told w x net node kept streams jobs events starts text stands at_ over is s j e t said =
    let view : view_of kept ≡ view_at x 0 = ap view_of is ∙ held w.net x 0 node at_ in
    let s' : streams ≡ stream_counts w.net (view_at x 0) =
    s ∙ ap (λ n. stream_counts n (view_of kept)) over ∙ ap (stream_counts w.net) view in
    let j' : jobs ≡ job_counts w.net (view_at x 0) =
    j ∙ ap (λ n. job_counts n (view_of kept)) over ∙ ap (job_counts w.net) view in
    let e' : events ≡ length x.history = e ∙ ap length stands.journal_.history_ in
    let t' : starts ≡ length x.starts = t ∙ ap length stands.journal_.starts_ in
    said ∙ ap (λ z. summary_of z jobs events starts) s'
    ∙ ap (λ z. summary_of (stream_counts w.net (view_at x 0)) z events starts) j'
    ∙ ap (λ z. summary_of (stream_counts w.net (view_at x 0)) (job_counts w.net (view_at x 0)) z starts) e'
    ∙ ap
    (λ z. summary_of (stream_counts w.net (view_at x 0)) (job_counts w.net (view_at x 0)) (length x.history) z) t'

pub history_told : (w : WorldState) (x : World) (net : Net) (entries : List Entry) (starts : List Start) (text : List ℕ)
    → net ≡ w.net → entries ≡ w.journal.history → starts ≡ w.journal.starts → StandsFor w x
    → text ≡ history_text net entries starts → text ≡ history_at w.net x
history_told w x net entries starts text over es ss stands is =
    is ∙ ap (λ n. history_text n entries starts) over
    ∙ ap (λ e. history_text w.net e starts) (es ∙ stands.journal_.history_)
    ∙ ap (λ s. history_text w.net x.history s) (ss ∙ stands.journal_.starts_)

-- bytes that are a text are read as it is
pub text_read : (bytes text : List ℕ) (reading : Result Record At) → text ≡ bytes → IsUtf8 bytes → IsRead text reading
    → AreRead bytes reading
text_read bytes text reading same is h =
    AreRead.text (utf8_valid_len-IsUtf8 bytes is) (subst (λ (t : List ℕ). IsRead t reading) same h)

-- other bytes are refused at the line of the first that is no part of a text
pub no_text_read : (bytes : List ℕ) (n line : ℕ) → IsValidUpTo bytes n
    → line ≡ 1 + count_by (λ b. b == 10) (take n bytes) → AreRead bytes (Err (line, BadLine))
no_text_read bytes n line valid is =
    let len : utf8_valid_len bytes ≡ n = utf8_valid_len-IsValidUpTo bytes n valid in
    let short : n < length bytes = valid.short in
    let other : utf8_valid_len bytes ≡ length bytes → ⊥ = λ e. omega arith in
    subst (λ (l : ℕ). AreRead bytes (Err (l, BadLine)))
    (ap (λ m. 1 + count_by (λ b. b == 10) (take m bytes)) len ∙ sym is) (AreRead.no_text other)

-- the same of calls that may want memory
pub text_result : {E : Type 0} (bytes text : List ℕ) (r : Result Record E) → text ≡ bytes → IsUtf8 bytes
    → IfOk r (λ (q : Record). IsRead text (Ok q)) → IfOk r (λ (q : Record). AreRead bytes (Ok q))
text_result bytes text (Ok q) same is h = text_read bytes text (Ok q) same is h
text_result bytes text (Err e) same is h = tt

-- a line and a kind that are told by other names
pub told_read : (bytes : List ℕ) (line n : ℕ) (kind k : ScriptKind)
    → ◌≡◌ {A = Result Record ScriptFault} (Err (At_ line kind)) (Err (At_ n k)) → AreRead bytes (Err (line, kind))
    → AreRead bytes (Err (n, k))
told_read bytes line n kind k e h =
    let same_line : line ≡ n = cc in
    let same_kind : kind ≡ k = cc in
    subst (λ (m : ℕ). AreRead bytes (Err (m, k))) same_line
    (subst (λ (q : ScriptKind). AreRead bytes (Err (line, q))) same_kind h)
