-- The lines of jobs and streams, and which rows they are.
use Rattle.std.proofs.Common.{◌≡◌, ℕ, false, eqb, List, [], ◌∷◌, ◌++◌, length, Some, Ok}
use Rattle.std.proofs.Common.{refl, ap, ◌∙◌, codes, option_map, flat_map, map, append_assoc, if◌then◌else◌}
use Rattle.std.specs.List.{AllByRecursion}
use Rattle.lemmas.proofs.Numbers.{suc_not_zero}
use Rattle.base_types.specs.declared.Recovery.TheVariants.{Stop, Continue, Rerun}
use Rattle.model.specs.Types.{Net, Work, Command, Script, Recovery, JobDraft, StreamDraft, CondOp, DraftDep}
use Rattle.plan_listing.specs.Conditions.{cond_text}
use Rattle.plan_listing.specs.Dependencies.{draft_dep_line}
use Rattle.plan_listing.specs.Streams.{command_line, cond_line, job_body, job_head, job_lines, job_text, logon_line}
use Rattle.plan_listing.specs.Streams.{recovery_line, stream_head, stream_lines, stream_text, work_line}
use Rattle.rc_conditions.specs.Machine.{read_of}
use Rattle.record_rows.specs.Plans.{dep_of, part_of}
use Rattle.record_rows.specs.Rows.{◌else_◌, network_row, plan_row, row_of}
use Rattle.record_rows.specs.Steps.{step_of}
use Rattle.record_rows.specs.Words.{text_of}
use Rattle.record_rows.specs.declared.rows.PartRow.{PartRow}
use Rattle.record_rows.specs.declared.rows.PartRow.TheVariants as part
use Rattle.record_rows.specs.declared.rows.Ranged.{Ranged}
use Rattle.record_rows.specs.declared.rows.Ranged.TheVariants.{Within}
use Rattle.record_rows.specs.declared.rows.Row.{Row}
use Rattle.record_rows.specs.declared.rows.Row.TheVariants as row
use Rattle.syntax.specs.Quotes.{quoted_text}
use Rattle.history_laws.specs.Printables.{IsLineText}
use Rattle.history_laws.proofs.Lines.{Lacks, lacks_append, left_four}
use Rattle.history_laws.proofs.Words.{plain_lacks_feed}
use Rattle.history_laws.proofs.Words.{text_back, text_lacks_feed}
use Rattle.listing_laws.specs.Listables.{IsLineWork}
use Rattle.listing_laws.proofs.DepLines.{IsDepLine, dep_row, dep_spelled, plain_word}
use Rattle.listing_laws.proofs.Spelled.{Spells, spells_as, spells_both, spells_each, spells_line, spells_map, spells_none}
use Rattle.listing_laws.proofs.Words.{form_in, line_by}
use Rattle.listing_laws.proofs.HeadLines.{IsJobLine, IsStreamLine, head_spelled, job_part, stream_part, title_spelled}

-- The parts of a job: those that have a line.

abbrev pub work_parts : Work → List PartRow
work_parts (Command []) = []
work_parts (Command (c ∷ cs)) = part.Command (Within (c ∷ cs)) ∷ []
work_parts (Script path) = part.Script (Within path) ∷ []

abbrev pub logon_parts : List ℕ → List PartRow
logon_parts [] = []
logon_parts (c ∷ cs) = part.Logon (Within (c ∷ cs)) ∷ []

abbrev pub cond_parts : List CondOp → List PartRow
cond_parts [] = []
cond_parts (op ∷ ops) = part.Cond (Within (cond_text (op ∷ ops))) ∷ []

abbrev pub recovery_parts : Recovery → List PartRow
recovery_parts Stop = []
recovery_parts Continue = part.Recovery Continue ∷ []
recovery_parts Rerun = part.Recovery Rerun ∷ []

abbrev pub body_parts : JobDraft → List PartRow
body_parts j = work_parts j.work ++ (logon_parts j.logon ++ (cond_parts j.cond ++ recovery_parts j.recovery))

-- a condition that is not the empty one has a text that is read back
abbrev pub IsCondLine : List CondOp → Type 0
IsCondLine [] = Unit {0}
IsCondLine (op ∷ ops) = IsLineText (cond_text (op ∷ ops)) × (read_of (cond_text (op ∷ ops)) ≡ Ok (op ∷ ops))

do_form : (rest text : List ℕ) → form_in (codes "do") rest text
    ≡ (option_map row.Part (option_map part.Command (text_of rest))
    else_ option_map row.Dep (dep_of (codes "do") rest) else_ option_map row.Step (step_of text))
unfolding network_row plan_row part_of
do_form rest text = refl

script_form : (rest text : List ℕ) → form_in (codes "script") rest text
    ≡ (option_map row.Part (option_map part.Script (text_of rest))
    else_ option_map row.Dep (dep_of (codes "script") rest) else_ option_map row.Step (step_of text))
unfolding network_row plan_row part_of
script_form rest text = refl

logon_form : (rest text : List ℕ) → form_in (codes "logon") rest text
    ≡ (option_map row.Part (option_map part.Logon (text_of rest))
    else_ option_map row.Dep (dep_of (codes "logon") rest) else_ option_map row.Step (step_of text))
unfolding network_row plan_row part_of
logon_form rest text = refl

succ_form : (rest text : List ℕ) → form_in (codes "succ") rest text
    ≡ (option_map row.Part (option_map part.Cond (text_of rest))
    else_ option_map row.Dep (dep_of (codes "succ") rest) else_ option_map row.Step (step_of text))
unfolding network_row plan_row part_of
succ_form rest text = refl

-- a line of a part that is a text
quoted_spelled : (c : ℕ) (w t : List ℕ) (make : Ranged (List ℕ) → PartRow) → eqb c 35 ≡ false → eqb c 36 ≡ false
    → Lacks 32 (c ∷ w) → Lacks 10 (c ∷ w) → IsLineText t
    → ((text : List ℕ) → form_in (c ∷ w) (quoted_text t) text
    ≡ (option_map row.Part (option_map make (text_of (quoted_text t)))
    else_ option_map row.Dep (dep_of (c ∷ w) (quoted_text t)) else_ option_map row.Step (step_of text)))
    → Spells ((c ∷ (w ++ 32 ∷ quoted_text t)) ++ 10 ∷ []) (row.Part (make (Within t)) ∷ [])
quoted_spelled c w t make plain other free line is form =
    spells_line (c ∷ (w ++ 32 ∷ quoted_text t)) (row.Part (make (Within t)))
    (lacks_append 10 (c ∷ w) (32 ∷ quoted_text t) line (refl, text_lacks_feed t is))
    (line_by c w (quoted_text t) (row.Part (make (Within t))) plain other free
    (λ text. form text
    ∙ ap (λ o. option_map row.Part (option_map make o)
    else_ option_map row.Dep (dep_of (c ∷ w) (quoted_text t)) else_ option_map row.Step (step_of text))
    (text_back t is.room)))

some_text : (c : ℕ) (cs line : List ℕ) → (if eqb (length (c ∷ cs)) 0 then codes "" else line) ≡ line
some_text c cs line = ap (λ b. if b then codes "" else line) (suc_not_zero (length cs))

work_spelled : (w : Work) → IsLineWork w → Spells (work_line w) (map row.Part (work_parts w))
work_spelled (Command []) h = spells_none
work_spelled (Command (c ∷ cs)) h =
    spells_as (command_line (c ∷ cs)) (codes "do " ++ quoted_text (c ∷ cs) ++ codes "\n")
    (row.Part (part.Command (Within (c ∷ cs))) ∷ []) (some_text c cs (codes "do " ++ quoted_text (c ∷ cs) ++ codes "\n"))
    (quoted_spelled 100 (codes "o") (c ∷ cs) part.Command refl refl (plain_word (codes "do") refl)
    (plain_lacks_feed (codes "do") refl) h (do_form (quoted_text (c ∷ cs))))
work_spelled (Script path) h =
    quoted_spelled 115 (codes "cript") path part.Script refl refl (plain_word (codes "script") refl)
    (plain_lacks_feed (codes "script") refl) h (script_form (quoted_text path))

logon_spelled : (t : List ℕ) → IsLineText t → Spells (logon_line t) (map row.Part (logon_parts t))
logon_spelled [] h = spells_none
logon_spelled (c ∷ cs) h =
    spells_as (logon_line (c ∷ cs)) (codes "logon " ++ quoted_text (c ∷ cs) ++ codes "\n")
    (row.Part (part.Logon (Within (c ∷ cs))) ∷ []) (some_text c cs (codes "logon " ++ quoted_text (c ∷ cs) ++ codes "\n"))
    (quoted_spelled 108 (codes "ogon") (c ∷ cs) part.Logon refl refl (plain_word (codes "logon") refl)
    (plain_lacks_feed (codes "logon") refl) h (logon_form (quoted_text (c ∷ cs))))

cond_spelled : (ops : List CondOp) → IsCondLine ops
    → Spells (cond_line (eqb (length ops) 0) (cond_text ops)) (map row.Part (cond_parts ops))
cond_spelled [] h = spells_none
cond_spelled (op ∷ ops) h =
    let text : List ℕ = cond_text (op ∷ ops) in
    spells_as (cond_line (eqb (length (op ∷ ops)) 0) text) (codes "succ " ++ quoted_text text ++ codes "\n")
    (row.Part (part.Cond (Within text)) ∷ [])
    (ap (λ b. if b then codes "" else codes "succ " ++ quoted_text text ++ codes "\n") (suc_not_zero (length ops)))
    (quoted_spelled 115 (codes "ucc") text part.Cond refl refl (plain_word (codes "succ") refl)
    (plain_lacks_feed (codes "succ") refl) h.0 (succ_form (quoted_text text)))

continue_form : (text : List ℕ) → form_in (codes "recovery") (codes "continue") text ≡ Some (row.Part (part.Recovery Continue))
unfolding network_row plan_row part_of
continue_form text = refl

continue_row : row_of (codes "recovery continue") ≡ row.Part (part.Recovery Continue)
continue_row =
    line_by 114 (codes "ecovery") (codes "continue") (row.Part (part.Recovery Continue)) refl refl
    (plain_word (codes "recovery") refl) continue_form

rerun_form : (text : List ℕ) → form_in (codes "recovery") (codes "rerun") text ≡ Some (row.Part (part.Recovery Rerun))
unfolding network_row plan_row part_of
rerun_form text = refl

rerun_row : row_of (codes "recovery rerun") ≡ row.Part (part.Recovery Rerun)
rerun_row =
    line_by 114 (codes "ecovery") (codes "rerun") (row.Part (part.Recovery Rerun)) refl refl
    (plain_word (codes "recovery") refl) rerun_form

recovery_spelled : (r : Recovery) → Spells (recovery_line r) (map row.Part (recovery_parts r))
recovery_spelled Stop = spells_none
recovery_spelled Continue =
    spells_line (codes "recovery continue") (row.Part (part.Recovery Continue))
    (plain_lacks_feed (codes "recovery continue") refl) continue_row
recovery_spelled Rerun =
    spells_line (codes "recovery rerun") (row.Part (part.Recovery Rerun)) (plain_lacks_feed (codes "recovery rerun") refl)
    rerun_row

-- A job with its parts and dependencies.

pub record IsJobText (net : Net) (j : JobDraft) : Type 0 where
  pub title : IsJobLine net j
  pub work : IsLineWork j.work
  pub logon : IsLineText j.logon
  pub cond : IsCondLine j.cond
  pub deps : AllByRecursion (IsDepLine net) j.deps

abbrev pub part_rows : JobDraft → List Row
part_rows j =
    map row.Part (work_parts j.work)
    ++ (map row.Part (logon_parts j.logon)
    ++ (map row.Part (cond_parts j.cond) ++ map row.Part (recovery_parts j.recovery)))

abbrev pub dep_rows : Net → List DraftDep → List Row
dep_rows net deps = map (dep_row net) deps

abbrev pub job_rows : Net → JobDraft → List Row
job_rows net j = row.Job (job_part net j) ∷ (part_rows j ++ dep_rows net j.deps)

deps_spelled : (net : Net) (deps : List DraftDep) → AllByRecursion (IsDepLine net) deps
    → Spells (flat_map (draft_dep_line net) deps) (dep_rows net deps)
deps_spelled net deps all = spells_map (IsDepLine net) (draft_dep_line net) (dep_row net) (dep_spelled net) deps all

body_spelled : (net : Net) (j : JobDraft) → IsJobText net j → Spells (job_body j (cond_text j.cond)) (part_rows j)
unfolding job_body
body_spelled net j h =
    let cond : List ℕ = cond_line (eqb (length j.cond) 0) (cond_text j.cond) in
    spells_as (work_line j.work ++ logon_line j.logon ++ cond ++ recovery_line j.recovery)
    (work_line j.work ++ (logon_line j.logon ++ (cond ++ recovery_line j.recovery))) (part_rows j)
    (left_four (work_line j.work) (logon_line j.logon) cond (recovery_line j.recovery))
    (spells_both (work_line j.work) (logon_line j.logon ++ (cond ++ recovery_line j.recovery))
    (map row.Part (work_parts j.work)) _ (work_spelled j.work h.work)
    (spells_both (logon_line j.logon) (cond ++ recovery_line j.recovery) (map row.Part (logon_parts j.logon)) _
    (logon_spelled j.logon h.logon)
    (spells_both cond (recovery_line j.recovery) (map row.Part (cond_parts j.cond)) (map row.Part (recovery_parts j.recovery))
    (cond_spelled j.cond h.cond) (recovery_spelled j.recovery))))

job_spelled : (net : Net) (j : JobDraft) → IsJobText net j → Spells (job_text net j) (job_rows net j)
unfolding job_lines
job_spelled net j h =
    spells_as (job_head net j ++ job_body j (cond_text j.cond) ++ flat_map (draft_dep_line net) j.deps)
    (job_head net j ++ (job_body j (cond_text j.cond) ++ flat_map (draft_dep_line net) j.deps)) (job_rows net j)
    (append_assoc (job_head net j) (job_body j (cond_text j.cond)) (flat_map (draft_dep_line net) j.deps))
    (spells_both (job_head net j) (job_body j (cond_text j.cond) ++ flat_map (draft_dep_line net) j.deps)
    (row.Job (job_part net j) ∷ []) (part_rows j ++ dep_rows net j.deps) (title_spelled net j h.title)
    (spells_both (job_body j (cond_text j.cond)) (flat_map (draft_dep_line net) j.deps) (part_rows j) (dep_rows net j.deps)
    (body_spelled net j h) (deps_spelled net j.deps h.deps)))

-- A stream with its dependencies and jobs.

pub record IsStreamText (net : Net) (s : StreamDraft) : Type 0 where
  pub head : IsStreamLine net s
  pub deps : AllByRecursion (IsDepLine net) s.deps
  pub jobs : AllByRecursion (IsJobText net) s.jobs

abbrev pub stream_rows : Net → StreamDraft → List Row
stream_rows net s = row.Stream (stream_part net s) ∷ (dep_rows net s.deps ++ flat_map (job_rows net) s.jobs)

stream_spelled : (net : Net) (s : StreamDraft) → IsStreamText net s → Spells (stream_text net s) (stream_rows net s)
unfolding stream_text stream_lines
stream_spelled net s h =
    spells_as ((stream_head net s ++ flat_map (draft_dep_line net) s.deps) ++ flat_map (job_text net) s.jobs)
    (stream_head net s ++ (flat_map (draft_dep_line net) s.deps ++ flat_map (job_text net) s.jobs)) (stream_rows net s)
    (append_assoc (stream_head net s) (flat_map (draft_dep_line net) s.deps) (flat_map (job_text net) s.jobs))
    (spells_both (stream_head net s) (flat_map (draft_dep_line net) s.deps ++ flat_map (job_text net) s.jobs)
    (row.Stream (stream_part net s) ∷ []) (dep_rows net s.deps ++ flat_map (job_rows net) s.jobs) (head_spelled net s h.head)
    (spells_both (flat_map (draft_dep_line net) s.deps) (flat_map (job_text net) s.jobs) (dep_rows net s.deps)
    (flat_map (job_rows net) s.jobs) (deps_spelled net s.deps h.deps)
    (spells_each (IsJobText net) (job_text net) (job_rows net) (job_spelled net) s.jobs h.jobs)))

pub streams_spelled : (net : Net) (drafts : List StreamDraft) → AllByRecursion (IsStreamText net) drafts
    → Spells (flat_map (stream_text net) drafts) (flat_map (stream_rows net) drafts)
streams_spelled net drafts all =
    spells_each (IsStreamText net) (stream_text net) (stream_rows net) (stream_spelled net) drafts all
