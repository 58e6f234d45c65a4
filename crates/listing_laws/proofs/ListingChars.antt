-- The listing of drafts is UTF-8.
use Rattle.std.proofs.Common.{◌≡◌, ℕ, List, [], ◌∷◌, ◌++◌, Some, None, IsUtf8, refl, sym, subst, ◌∙◌, arith, codes}
use Rattle.std.proofs.Common.{append-nil, flat_map, length, if◌then◌else◌, true, false, eqb, Bool}
use Rattle.std.specs.Fmt.{decimal}
use Rattle.std.specs.List.{AllByRecursion}
use Rattle.std.proofs.lemmas.List.Elements.{All-nil}
use Rattle.std.proofs.lemmas.Str.{IsUtf8-append, IsUtf8-nil}
use Rattle.lemmas.proofs.Texts.{utf8_before}
use Rattle.base_types.specs.declared.Recovery.TheVariants.{Stop, Continue, Rerun}
use Rattle.history_laws.specs.Printables.{IsLineText, IsPrintable}
use Rattle.history_laws.specs.Returns.{AreTold}
use Rattle.history_laws.proofs.Whole.{history_is_text}
use Rattle.history_laws.proofs.Texts.{each_utf8, name_utf8, number_utf8, word_utf8}
use Rattle.history_script.specs.Printed.{IsStartInRange, head_text, history_text}
use Rattle.model.specs.Fit.{IsFit}
use Rattle.model.specs.Ranges.{InRange}
use Rattle.model.specs.Types.{CondOp, DraftDep, JobDraft, Net, OnUntil, Suppr, Cont, Canc, Recovery, StreamDraft, Work, Command, Script}
use Rattle.model.specs.Types.{FollowsJob, FollowsStream, Needs, Prompt, At, Until, Outside, Deadline, Global, Own, Follows, Plain}
use Rattle.network_tree.specs.Faults.{net_fault}
use Rattle.plan_listing.specs.Conditions.{cond_text}
use Rattle.plan_listing.specs.Dependencies.{draft_dep_line, prompt_name, resource_name, until_word}
use Rattle.plan_listing.specs.Listings.{listing_of}
use Rattle.plan_listing.specs.Networks.{network_text}
use Rattle.plan_listing.specs.Streams.{cond_line, job_body, job_head, job_lines, job_text, logon_line, recovery_line}
use Rattle.plan_listing.specs.Streams.{stream_head, stream_lines, stream_text, work_line}
use Rattle.report_text.specs.Names.{name_of}
use Rattle.syntax.specs.Quotes.{quoted_text}
use Rattle.listing_laws.specs.Listables.{IsLineWork}
use Rattle.listing_laws.specs.ListingReturns.{with_next}
use Rattle.listing_laws.proofs.Chars.{led_utf8, quoted_utf8}
use Rattle.listing_laws.proofs.DepLines.{IsDepLine, dep_line_is, dep_text}
use Rattle.listing_laws.proofs.HeadLines.{job_are_words, job_line, job_line_is, priority_words, stream_are_words, stream_line, stream_line_is, stream_words}
use Rattle.listing_laws.proofs.ObjectLines.{IsCondLine, IsJobText, IsStreamText}
use Rattle.listing_laws.proofs.Words.{spaced, wide}

-- The network: a history of it is UTF-8, and it stands in front of one.

nothing_told : (net : Net) → AreTold net [] []
nothing_told net =
    record {
      fit = All-nil IsFit;
      in_range = All-nil InRange;
      starts_in_range = All-nil IsStartInRange;
      inside = refl;
      starts_inside = refl;
    }

empty_history : (net : Net) → history_text net [] [] ≡ network_text net ++ codes "$HISTORY\n"
unfolding history_text head_text
empty_history net =
    append-nil (network_text net ++ codes "$HISTORY\n" ++ []) ∙ append-nil (network_text net ++ codes "$HISTORY\n")

network_chars : (net : Net) → IsPrintable net → net_fault net ≡ None → IsUtf8 (network_text net)
network_chars net p none =
    let whole = history_is_text net [] [] p none (nothing_told net) in
    (utf8_before (network_text net) (codes "HISTORY\n") 36 (omega arith) (subst IsUtf8 (empty_history net) whole)).0

-- Dependencies.

until_chars : (o : OnUntil) → IsUtf8 (until_word o)
until_chars Suppr = word_utf8 (codes "suppr") refl
until_chars Cont = word_utf8 (codes "cont") refl
until_chars Canc = word_utf8 (codes "canc") refl

dep_chars : (net : Net) (d : DraftDep) → IsDepLine net d → IsUtf8 (dep_text net d)
dep_chars net (Follows w s None) h =
    led_utf8 (codes "follows ") (name_of net w ++ (codes "#" ++ s)) refl
    (IsUtf8-append (name_of net w) (codes "#" ++ s) (name_utf8 (name_of net w) h.0) (led_utf8 (codes "#") s refl (name_utf8 s h.1)))
dep_chars net (Follows w s (Some j)) h =
    led_utf8 (codes "follows ") (name_of net w ++ (codes "#" ++ (s ++ (codes "." ++ j)))) refl
    (IsUtf8-append (name_of net w) (codes "#" ++ (s ++ (codes "." ++ j))) (name_utf8 (name_of net w) h.0)
    (led_utf8 (codes "#") (s ++ (codes "." ++ j)) refl
    (IsUtf8-append s (codes "." ++ j) (name_utf8 s h.1) (led_utf8 (codes ".") j refl (name_utf8 j h.2)))))
dep_chars net (Plain (FollowsJob j)) h = absurd h
dep_chars net (Plain (FollowsStream s)) h = absurd h
dep_chars net (Plain (Needs r n)) h =
    led_utf8 (codes "needs ") (decimal n ++ (codes " " ++ resource_name net r)) refl
    (IsUtf8-append (decimal n) (codes " " ++ resource_name net r) (number_utf8 n (wide n 1024 h.1 (omega arith)))
    (led_utf8 (codes " ") (resource_name net r) refl (name_utf8 (resource_name net r) h.0)))
dep_chars net (Plain (Prompt (Global p))) h = led_utf8 (codes "ask ") (prompt_name net p) refl (name_utf8 (prompt_name net p) h)
dep_chars net (Plain (Prompt (Own t))) h = led_utf8 (codes "ask ") (quoted_text t) refl (quoted_utf8 t h)
dep_chars net (Plain (At t)) h = led_utf8 (codes "at ") (decimal t) refl (number_utf8 t h)
dep_chars net (Plain (Until t then_)) h =
    led_utf8 (codes "until ") (decimal t ++ (codes " " ++ until_word then_)) refl
    (IsUtf8-append (decimal t) (codes " " ++ until_word then_) (number_utf8 t h)
    (led_utf8 (codes " ") (until_word then_) refl (until_chars then_)))
dep_chars net (Plain (Outside path)) h = led_utf8 (codes "opens ") (quoted_text path) refl (quoted_utf8 path h)
dep_chars net (Plain (Deadline t)) h = led_utf8 (codes "deadline ") (decimal t) refl (number_utf8 t h)

-- a line
lined : (text line : List ℕ) → text ≡ line ++ 10 ∷ [] → IsUtf8 line → IsUtf8 text
lined text line is u = subst IsUtf8 (sym is) (IsUtf8-append line (10 ∷ []) u (word_utf8 (10 ∷ []) refl))

deps_chars : (net : Net) (deps : List DraftDep) → AllByRecursion (IsDepLine net) deps → IsUtf8 (flat_map (draft_dep_line net) deps)
deps_chars net deps all =
    each_utf8 (IsDepLine net) (draft_dep_line net)
    (λ d h. lined (draft_dep_line net d) (dep_text net d) (dep_line_is net d h) (dep_chars net d h)) deps all

-- Jobs.

spaced_chars : (ws : List (List ℕ)) → AllByRecursion IsUtf8 ws → IsUtf8 (spaced ws)
spaced_chars [] all = IsUtf8-nil
spaced_chars (w ∷ ws) all =
    led_utf8 (codes " ") (w ++ spaced ws) refl (IsUtf8-append w (spaced ws) all.0 (spaced_chars ws all.1))

quoted_line : (word text : List ℕ) → IsUtf8 word → IsLineText text → IsUtf8 (word ++ quoted_text text ++ codes "\n")
quoted_line word text u h =
    IsUtf8-append (word ++ quoted_text text) (codes "\n") (IsUtf8-append word (quoted_text text) u (quoted_utf8 text h))
    (word_utf8 (codes "\n") refl)

unless_empty : (b : Bool) (text : List ℕ) → IsUtf8 text → IsUtf8 (if b then codes "" else text)
unless_empty true text u = IsUtf8-nil
unless_empty false text u = u

work_chars : (w : Work) → IsLineWork w → IsUtf8 (work_line w)
work_chars (Command text) h = unless_empty _ _ (quoted_line (codes "do ") text (word_utf8 (codes "do ") refl) h)
work_chars (Script path) h = quoted_line (codes "script ") path (word_utf8 (codes "script ") refl) h

cond_chars : (ops : List CondOp) → IsCondLine ops → IsUtf8 (cond_line (eqb (length ops) 0) (cond_text ops))
cond_chars [] h = IsUtf8-nil
cond_chars (op ∷ ops) h =
    unless_empty _ _ (quoted_line (codes "succ ") (cond_text (op ∷ ops)) (word_utf8 (codes "succ ") refl) h.0)

recovery_chars : (r : Recovery) → IsUtf8 (recovery_line r)
recovery_chars Stop = IsUtf8-nil
recovery_chars Continue = word_utf8 (codes "recovery continue\n") refl
recovery_chars Rerun = word_utf8 (codes "recovery rerun\n") refl

body_chars : (net : Net) (j : JobDraft) → IsJobText net j → IsUtf8 (job_body j (cond_text j.cond))
unfolding job_body
body_chars net j h =
    IsUtf8-append (work_line j.work ++ logon_line j.logon ++ cond_line (eqb (length j.cond) 0) (cond_text j.cond)) (recovery_line j.recovery)
    (IsUtf8-append (work_line j.work ++ logon_line j.logon) (cond_line (eqb (length j.cond) 0) (cond_text j.cond))
    (IsUtf8-append (work_line j.work) (logon_line j.logon) (work_chars j.work h.work)
    (unless_empty _ _ (quoted_line (codes "logon ") j.logon (word_utf8 (codes "logon ") refl) h.logon)))
    (cond_chars j.cond h.cond)) (recovery_chars j.recovery)

job_chars : (net : Net) (j : JobDraft) → IsJobText net j → IsUtf8 (job_text net j)
unfolding job_lines
job_chars net j h =
    let words = (job_are_words net j h.title).chars in
    let title : IsUtf8 (job_line net j) =
    led_utf8 (codes "job ") (name_of net j.ws ++ spaced (j.name ∷ priority_words j.priority)) refl
    (IsUtf8-append (name_of net j.ws) (spaced (j.name ∷ priority_words j.priority)) (name_utf8 (name_of net j.ws) h.title.ws)
    (spaced_chars (j.name ∷ priority_words j.priority) words)) in
    IsUtf8-append (job_head net j ++ job_body j (cond_text j.cond)) (flat_map (draft_dep_line net) j.deps)
    (IsUtf8-append (job_head net j) (job_body j (cond_text j.cond)) (lined (job_head net j) (job_line net j) (job_line_is net j) title)
    (body_chars net j h)) (deps_chars net j.deps h.deps)

-- Streams.

stream_chars : (net : Net) (s : StreamDraft) → IsStreamText net s → IsUtf8 (stream_text net s)
unfolding stream_text stream_lines
stream_chars net s h =
    let words = (stream_are_words net s h.head).chars in
    let head : IsUtf8 (stream_line net s) =
    led_utf8 (codes "stream ") (name_of net s.ws ++ spaced (s.name ∷ stream_words s)) refl
    (IsUtf8-append (name_of net s.ws) (spaced (s.name ∷ stream_words s)) (name_utf8 (name_of net s.ws) h.head.ws)
    (spaced_chars (s.name ∷ stream_words s) words)) in
    IsUtf8-append (stream_head net s ++ flat_map (draft_dep_line net) s.deps) (flat_map (job_text net) s.jobs)
    (IsUtf8-append (stream_head net s) (flat_map (draft_dep_line net) s.deps)
    (lined (stream_head net s) (stream_line net s) (stream_line_is net s) head) (deps_chars net s.deps h.deps))
    (each_utf8 (IsJobText net) (job_text net) (job_chars net) s.jobs h.jobs)

pub listing_chars : (net : Net) (drafts : List StreamDraft) → IsPrintable net → net_fault net ≡ None
    → AllByRecursion (IsStreamText net) drafts → IsUtf8 (with_next (listing_of net drafts))
unfolding listing_of
listing_chars net drafts p none all =
    IsUtf8-append (network_text net ++ codes "$PLAN\n" ++ flat_map (stream_text net) drafts) (codes "$STEPS\nnext\n")
    (IsUtf8-append (network_text net ++ codes "$PLAN\n") (flat_map (stream_text net) drafts)
    (IsUtf8-append (network_text net) (codes "$PLAN\n") (network_chars net p none) (word_utf8 (codes "$PLAN\n") refl))
    (each_utf8 (IsStreamText net) (stream_text net) (stream_chars net) drafts all)) (word_utf8 (codes "$STEPS\nnext\n") refl)
