use Rattle.std.proofs.Common.{◌≡◌, ◌∙◌, ◌⊎◌, ℕ, None, Option, Some, ap, arith, false, inl, inr, refl, subst, sym, true, ⊎_elim}
use Rattle.std.specs.Prelude.{IsSome}
use Rattle.history_script.specs.declared.histories.HistoryText.{HistoryText}
use Rattle.model.specs.Sound.{IsSound}
use Rattle.node_commands.specs.Forms.{AskOf, NodeFor, Request, request_of, service_in}
use Rattle.input_commands.specs.Words.{asked_of, asks_input, asks_record}
use Rattle.input_commands.proofs.Saying.{apart}
use Rattle.tws_top.specs.ServiceRows.{PassesLimit}
use Rattle.tws_top.proofs.CanonicalTexts.{writes_canonical, writes_record, writes_same_plans}
use Rattle.tws_top.proofs.Completeness.{ask_done, node_done, node_ends, two_requests}
use Rattle.tws_top.proofs.Disks.{disk_rose, ends_at_limit, no_answer_given, other_file_found, run_passes_limit}
use Rattle.tws_top.proofs.InputDues.{audit_said, compiles_said, complete_said, exact_said, plans_said, sample_said}
use Rattle.tws_top.proofs.InputRows.{by_silence, compiled_said, definitions_said, done_said, history_refused_said, limit_said, planned_said}
use Rattle.tws_top.proofs.InputRows.{refused_said, sink_said, sound_said, text_number, words_said, world_said, wrong_said}
use Rattle.tws_top.proofs.Numbers.{came, row_0, row_1, row_10, row_11, row_12, row_2, row_3, row_4, row_5, row_6, row_7, row_8, row_silent, service_numbers}
use Rattle.tws_top.proofs.Services.{exact_of, left_untouched, service_answer, service_due, text_answer}
use Rattle.tws_top.proofs.Untouched.{ask_alone, early_alone, node_alone, unmade_alone}
use Rattle.tws_top.proofs.Words.{always_requested, five_among, has_request, never_input, never_requested, no_input, no_request, not_of_texts}
use Rattle.tws_top.proofs.Words.{of_texts, services_among, texts_among}
use Rattle.tws_top.proofs.Worlds.{WorldIsFor, no_world}
use Rattle.tws_top.proofs.top.tws.Goals as goal

false_true : false ≡ true → ⊥
false_true e = cc

-- words without a service
pub returns-in-None-clause-due : goal.returns-in-None-clause-due
returns-in-None-clause-due g c = λ other_4 other_9.
    let none : request_of c.args.words.now ≡ None = no_request c.args.words.now (sym c.asked_service.ensures ∙ c.in-None.is) in
    text_answer none (c.answer_words-status.ensures.due other_4 other_9)

pub returns-in-None-clause-service : goal.returns-in-None-clause-service
returns-in-None-clause-service g c = λ request requests.
    absurd (never_requested c.args.words.now (sym c.asked_service.ensures ∙ c.in-None.is) requests)

pub returns-in-None-clause-exact_service : goal.returns-in-None-clause-exact_service
returns-in-None-clause-exact_service g c = λ source request told requests.
    absurd (never_requested c.args.words.now (sym c.asked_service.ensures ∙ c.in-None.is) requests)

pub returns-in-None-clause-complete_node : goal.returns-in-None-clause-complete_node
returns-in-None-clause-complete_node g c = λ source name turns me d told requests.
    absurd (never_requested c.args.words.now (sym c.asked_service.ensures ∙ c.in-None.is) requests)

pub returns-in-None-clause-complete_ask : goal.returns-in-None-clause-complete_ask
returns-in-None-clause-complete_ask g c = λ source name command me d told requests.
    absurd (never_requested c.args.words.now (sym c.asked_service.ensures ∙ c.in-None.is) requests)

pub returns-in-None-clause-definitions_refused : goal.returns-in-None-clause-definitions_refused
returns-in-None-clause-definitions_refused g c = λ e.
    inl (definitions_said _ _ _ _ _ _ _ _ _
    (c.answer_words-status.ensures.due (apart _ 1 4 e (λ f. omega arith)) (apart _ 1 9 e (λ f. omega arith))) e)

pub returns-in-None-clause-words : goal.returns-in-None-clause-words
returns-in-None-clause-words g c = λ e.
    let none : request_of c.args.words.now ≡ None = no_request c.args.words.now (sym c.asked_service.ensures ∙ c.in-None.is) in
    let due = c.answer_words-status.ensures.due (apart _ 2 4 e (λ f. omega arith)) (apart _ 2 9 e (λ f. omega arith)) in
    inl (words_said _ _ _ _ _ _ _ _ _ due e, none)

pub returns-in-None-clause-no_words : goal.returns-in-None-clause-no_words
returns-in-None-clause-no_words g c = λ asked requests.
    c.answer_words-status.ensures.no_words asked

pub returns-in-None-clause-source_asked : goal.returns-in-None-clause-source_asked
returns-in-None-clause-source_asked g c = λ e.
    inl (c.answer_words-status.ensures.source_asked e)

pub returns-in-None-clause-disk_failed : goal.returns-in-None-clause-disk_failed
returns-in-None-clause-disk_failed g c = λ e.
    absurd (not_of_texts c.answer_words-status.result.status 6 (of_texts _ (text_number c.answer_words-status.ensures.due)) e (λ low. omega (arith, low)) (λ low high. omega (arith, low, high)))

pub returns-in-None-clause-other_file : goal.returns-in-None-clause-other_file
returns-in-None-clause-other_file g c = λ e.
    absurd (not_of_texts c.answer_words-status.result.status 7 (of_texts _ (text_number c.answer_words-status.ensures.due)) e (λ low. omega (arith, low)) (λ low high. omega (arith, low, high)))

pub returns-in-None-clause-turns_spent : goal.returns-in-None-clause-turns_spent
returns-in-None-clause-turns_spent g c = λ e.
    absurd (not_of_texts c.answer_words-status.result.status 8 (of_texts _ (text_number c.answer_words-status.ensures.due)) e (λ low. omega (arith, low)) (λ low high. omega (arith, low, high)))

pub returns-in-None-clause-no_answer : goal.returns-in-None-clause-no_answer
returns-in-None-clause-no_answer g c = λ e.
    absurd (not_of_texts c.answer_words-status.result.status 12 (of_texts _ (text_number c.answer_words-status.ensures.due)) e (λ low. omega (arith, low)) (λ low high. omega (arith, low, high)))

pub returns-in-None-clause-limit : goal.returns-in-None-clause-limit
returns-in-None-clause-limit g c = λ e.
    inl (limit_said _ _ _ _ _ _ _ _ _
    (c.answer_words-status.ensures.due (apart _ 10 4 e (λ f. omega arith)) (apart _ 10 9 e (λ f. omega arith))) e)

pub returns-in-None-clause-statuses : goal.returns-in-None-clause-statuses
returns-in-None-clause-statuses g c =
    texts_among _ (text_number c.answer_words-status.ensures.due)

pub returns-in-None-clause-input_untouched : goal.returns-in-None-clause-input_untouched
returns-in-None-clause-input_untouched g c = λ e requests.
    c.answer_words-status.ensures.input_untouched e

pub returns-in-None-clause-outside_untouched : goal.returns-in-None-clause-outside_untouched
returns-in-None-clause-outside_untouched g c = λ requests.
    (refl, refl, refl, refl, refl)

pub returns-in-None-clause-ask_untouched : goal.returns-in-None-clause-ask_untouched
returns-in-None-clause-ask_untouched g c = λ name command requests.
    absurd (never_requested c.args.words.now (sym c.asked_service.ensures ∙ c.in-None.is) requests)

pub returns-in-None-clause-node_untouched : goal.returns-in-None-clause-node_untouched
returns-in-None-clause-node_untouched g c = λ name turns requests early.
    absurd (never_requested c.args.words.now (sym c.asked_service.ensures ∙ c.in-None.is) requests)

pub returns-in-None-clause-unserved_untouched : goal.returns-in-None-clause-unserved_untouched
returns-in-None-clause-unserved_untouched g c = λ early.
    (refl, refl, refl, refl, refl)

pub returns-in-None-clause-left_untouched : goal.returns-in-None-clause-left_untouched
returns-in-None-clause-left_untouched g c = λ source request status text told requests left.
    (refl, refl, refl, refl, refl)

pub returns-in-None-clause-unmade_untouched : goal.returns-in-None-clause-unmade_untouched
returns-in-None-clause-unmade_untouched g c = λ name turns requests.
    absurd (never_requested c.args.words.now (sym c.asked_service.ensures ∙ c.in-None.is) requests)

pub returns-in-None-clause-shut_down : goal.returns-in-None-clause-shut_down
returns-in-None-clause-shut_down g c = λ e name turns requests.
    absurd (never_requested c.args.words.now (sym c.asked_service.ensures ∙ c.in-None.is) requests)

pub returns-in-None-clause-replied : goal.returns-in-None-clause-replied
returns-in-None-clause-replied g c = λ e name command requests.
    absurd (never_requested c.args.words.now (sym c.asked_service.ensures ∙ c.in-None.is) requests)

pub returns-in-None-clause-memory : goal.returns-in-None-clause-memory
returns-in-None-clause-memory g c = λ e asked requests.
    c.answer_words-status.ensures.memory e asked

-- the rows of these words
pub returns-in-None-clause-exact : goal.returns-in-None-clause-exact
returns-in-None-clause-exact g c = λ source wanted told_ asked status text night left other_4 other_9.
    exact_said _ _ _ _ _ _ _ _ _ source wanted told_ asked status text night left
    (c.answer_words-status.ensures.due other_4 other_9)

pub returns-in-None-clause-complete : goal.returns-in-None-clause-complete
returns-in-None-clause-complete g c = λ source telling r x told_ asked short is run calm_source calm_sink.
    by_silence c.answer_words-status.result.status ((c.answer_words-status.result.status ≡ 0) ⊎ (c.answer_words-status.result.status ≡ 9))
    (λ e. absurd (calm_source (c.answer_words-status.ensures.source_failed e))) (λ e. inr e)
    (λ other_4 other_9. inl
    (complete_said _ _ _ _ _ _ _ _ _ source telling r x told_ asked short is run calm_sink
    (c.answer_words-status.ensures.due other_4 other_9)))

pub returns-in-None-clause-complete_compile : goal.returns-in-None-clause-complete_compile
returns-in-None-clause-complete_compile g c = λ source d told_ asked short are calm_source calm_sink.
    by_silence c.answer_words-status.result.status ((c.answer_words-status.result.status ≡ 0) ⊎ (c.answer_words-status.result.status ≡ 9))
    (λ e. absurd (calm_source (c.answer_words-status.ensures.source_failed e))) (λ e. inr e)
    (λ other_4 other_9. inl
    (compiles_said _ _ _ _ _ _ _ _ _ source d told_ asked short are calm_sink (c.answer_words-status.ensures.due other_4 other_9)))

pub returns-in-None-clause-complete_plan : goal.returns-in-None-clause-complete_plan
returns-in-None-clause-complete_plan g c = λ source day d told_ asked short are none calm_source calm_sink.
    by_silence c.answer_words-status.result.status ((c.answer_words-status.result.status ≡ 0) ⊎ (c.answer_words-status.result.status ≡ 9))
    (λ e. absurd (calm_source (c.answer_words-status.ensures.source_failed e))) (λ e. inr e)
    (λ other_4 other_9. inl
    (plans_said _ _ _ _ _ _ _ _ _ source day d told_ asked short are none calm_sink
    (c.answer_words-status.ensures.due other_4 other_9)))

Judged : ℕ → HistoryText → Type 0
Judged n h =
    ((n ≡ 0) × IsSound h.net h.entries h.starts) ⊎ ((n ≡ 11) × (IsSound h.net h.entries h.starts → ⊥)) ⊎ (n ≡ 9)

judged : (n : ℕ) (h : HistoryText)
    → ((n ≡ 0) × IsSound h.net h.entries h.starts) ⊎ ((n ≡ 11) × (IsSound h.net h.entries h.starts → ⊥)) → Judged n h
unfolding Judged
judged n h (inl is) = inl is
judged n h (inr is) = inr (inl is)

pub returns-in-None-clause-complete_audit : goal.returns-in-None-clause-complete_audit
unfolding Judged
returns-in-None-clause-complete_audit g c = λ source h told_ asked short is calm_source calm_sink.
    by_silence c.answer_words-status.result.status (Judged c.answer_words-status.result.status h)
    (λ e. absurd (calm_source (c.answer_words-status.ensures.source_failed e))) (λ e. inr (inr e))
    (λ other_4 other_9. judged c.answer_words-status.result.status h
    (audit_said _ _ _ _ _ _ _ _ _ source h told_ asked short is calm_sink (c.answer_words-status.ensures.due other_4 other_9)))

pub returns-in-None-clause-complete_sample : goal.returns-in-None-clause-complete_sample
returns-in-None-clause-complete_sample g c = λ jobs seed asked calm.
    by_silence c.answer_words-status.result.status ((c.answer_words-status.result.status ≡ 0) ⊎ (c.answer_words-status.result.status ≡ 9))
    (λ e. let never : false ≡ true = sym (ap asks_input asked) ∙ c.answer_words-status.ensures.source_asked e in cc) (λ e. inr e)
    (λ other_4 other_9.
    let says = sample_said _ _ _ _ _ _ _ _ _ jobs seed asked (c.answer_words-status.ensures.due other_4 other_9) in
    inl (says.all (λ e. calm (says.fault e))).0)

pub returns-in-None-clause-done : goal.returns-in-None-clause-done
returns-in-None-clause-done g c = λ e telling asked.
    let due = c.answer_words-status.ensures.due (apart _ 0 4 e (λ f. omega arith)) (apart _ 0 9 e (λ f. omega arith)) in
    done_said _ _ _ _ _ _ _ _ _ due e telling asked

pub returns-in-None-clause-compiled : goal.returns-in-None-clause-compiled
returns-in-None-clause-compiled g c = λ e asked.
    let due = c.answer_words-status.ensures.due (apart _ 0 4 e (λ f. omega arith)) (apart _ 0 9 e (λ f. omega arith)) in
    compiled_said _ _ _ _ _ _ _ _ _ due e asked

pub returns-in-None-clause-compiled_again : goal.returns-in-None-clause-compiled_again
returns-in-None-clause-compiled_again g c = λ e asked.
    let due = c.answer_words-status.ensures.due (apart _ 0 4 e (λ f. omega arith)) (apart _ 0 9 e (λ f. omega arith)) in
    writes_canonical _ _ _ _ (compiled_said _ _ _ _ _ _ _ _ _ due e asked)

pub returns-in-None-clause-planned_again : goal.returns-in-None-clause-planned_again
returns-in-None-clause-planned_again g c = λ e asked.
    let due = c.answer_words-status.ensures.due (apart _ 0 4 e (λ f. omega arith)) (apart _ 0 9 e (λ f. omega arith)) in
    writes_same_plans _ _ _ _ (compiled_said _ _ _ _ _ _ _ _ _ due e asked)

pub returns-in-None-clause-planned : goal.returns-in-None-clause-planned
returns-in-None-clause-planned g c = λ e day asked.
    let due = c.answer_words-status.ensures.due (apart _ 0 4 e (λ f. omega arith)) (apart _ 0 9 e (λ f. omega arith)) in
    planned_said _ _ _ _ _ _ _ _ _ due e day asked

pub returns-in-None-clause-planned_record : goal.returns-in-None-clause-planned_record
returns-in-None-clause-planned_record g c = λ e day asked.
    let due = c.answer_words-status.ensures.due (apart _ 0 4 e (λ f. omega arith)) (apart _ 0 9 e (λ f. omega arith)) in
    writes_record _ _ _ _ c.args.words.now day asked (planned_said _ _ _ _ _ _ _ _ _ due e day asked)

pub returns-in-None-clause-sampled : goal.returns-in-None-clause-sampled
returns-in-None-clause-sampled g c = λ e jobs seed asked.
    let due = c.answer_words-status.ensures.due (apart _ 0 4 e (λ f. omega arith)) (apart _ 0 9 e (λ f. omega arith)) in
    let says = sample_said _ _ _ _ _ _ _ _ _ jobs seed asked due in
    (says.all (apart _ 0 5 e (λ f. omega arith))).1

pub returns-in-None-clause-refused : goal.returns-in-None-clause-refused
returns-in-None-clause-refused g c = λ e other.
    refused_said _ _ _ _ _ _ _ _ _
    (c.answer_words-status.ensures.due (apart _ 3 4 e (λ f. omega arith)) (apart _ 3 9 e (λ f. omega arith))) e other

pub returns-in-None-clause-history_refused : goal.returns-in-None-clause-history_refused
returns-in-None-clause-history_refused g c = λ e asked.
    history_refused_said _ _ _ _ _ _ _ _ _
    (c.answer_words-status.ensures.due (apart _ 3 4 e (λ f. omega arith)) (apart _ 3 9 e (λ f. omega arith))) e asked

pub returns-in-None-clause-audited : goal.returns-in-None-clause-audited
returns-in-None-clause-audited g c = λ e asked.
    sound_said _ _ _ _ _ _ _ _ _
    (c.answer_words-status.ensures.due (apart _ 0 4 e (λ f. omega arith)) (apart _ 0 9 e (λ f. omega arith))) e asked

pub returns-in-None-clause-not_sound : goal.returns-in-None-clause-not_sound
returns-in-None-clause-not_sound g c = λ e.
    wrong_said _ _ _ _ _ _ _ _ _
    (c.answer_words-status.ensures.due (apart _ 11 4 e (λ f. omega arith)) (apart _ 11 9 e (λ f. omega arith))) e

pub returns-in-None-clause-sink_failed : goal.returns-in-None-clause-sink_failed
returns-in-None-clause-sink_failed g c = λ e.
    sink_said _ _ _ _ _ _ _ _ _
    (c.answer_words-status.ensures.due (apart _ 5 4 e (λ f. omega arith)) (apart _ 5 9 e (λ f. omega arith))) e

pub returns-in-None-clause-world : goal.returns-in-None-clause-world
returns-in-None-clause-world g c =
    let w : WorldIsFor (asked_of c.args.words.now) c.answer_words-status.result.status c.answer_words-status.result.world =
    by_silence c.answer_words-status.result.status
    (WorldIsFor (asked_of c.args.words.now) c.answer_words-status.result.status c.answer_words-status.result.world)
    (λ e. no_world _ _ _ (c.answer_words-status.ensures.alone (inl e)) (apart _ 4 0 e (λ f. omega arith)))
    (λ e. no_world _ _ _ (c.answer_words-status.ensures.alone (inr e)) (apart _ 9 0 e (λ f. omega arith)))
    (λ other_4 other_9. world_said _ _ _ _ _ _ _ _ _ (c.answer_words-status.ensures.due other_4 other_9)) in
    (λ has. (w.only_0 has, w.only_records has), λ both. w.there both.0 both.1)

-- words with one
pub returns-in-Some-clause-due : goal.returns-in-Some-clause-due
returns-in-Some-clause-due g c = λ other_4 other_9.
    let r = has_request c.args.words.now c.in-Some.service (sym c.asked_service.ensures ∙ c.in-Some.is) in
    let h = c.serve-status.ensures.service r.0 r.1 in
    service_answer _ _ _ _ r.0 _ _ _ _ _ _ _ _ _ c.args.words.now None r.1 refl h other_4 other_9

pub returns-in-Some-clause-exact : goal.returns-in-Some-clause-exact
returns-in-Some-clause-exact g c = λ source wanted told asked.
    absurd (never_input c.args.words.now c.in-Some.service (sym c.asked_service.ensures ∙ c.in-Some.is) asked)

pub returns-in-Some-clause-exact_service : goal.returns-in-Some-clause-exact_service
returns-in-Some-clause-exact_service g c = λ source request told requests status text left other_4 other_9.
    let due = service_due _ _ _ _ request _ _ _ _ _ _ _ _ _ (c.serve-status.ensures.service request requests) other_4 other_9 in
    exact_of source told due.row left due.says

pub returns-in-Some-clause-complete : goal.returns-in-Some-clause-complete
returns-in-Some-clause-complete g c = λ source telling r x told asked.
    absurd (never_input c.args.words.now c.in-Some.service (sym c.asked_service.ensures ∙ c.in-Some.is) asked)

pub returns-in-Some-clause-complete_compile : goal.returns-in-Some-clause-complete_compile
returns-in-Some-clause-complete_compile g c = λ source d told asked.
    absurd (never_input c.args.words.now c.in-Some.service (sym c.asked_service.ensures ∙ c.in-Some.is) asked)

pub returns-in-Some-clause-complete_plan : goal.returns-in-Some-clause-complete_plan
returns-in-Some-clause-complete_plan g c = λ source day d told asked.
    absurd (never_input c.args.words.now c.in-Some.service (sym c.asked_service.ensures ∙ c.in-Some.is) asked)

pub returns-in-Some-clause-complete_audit : goal.returns-in-Some-clause-complete_audit
returns-in-Some-clause-complete_audit g c = λ source h told asked.
    absurd (never_input c.args.words.now c.in-Some.service (sym c.asked_service.ensures ∙ c.in-Some.is) asked)

pub returns-in-Some-clause-complete_node : goal.returns-in-Some-clause-complete_node
returns-in-Some-clause-complete_node g c = λ source name turns me d told requests short are there calm_source calm_sink calm_disk.
    node_ends
    (λ which s. ends_at_limit _ _ _ _ _ _ _ _ _ _ _ _ _ which s)
    (node_done source name turns me d told short are there calm_source calm_sink
    (λ s. calm_disk (disk_rose _ _ _ _ _ _ _ _ _ _ _ _ _ s)) (c.serve-status.ensures.service (NodeFor name turns) requests))

pub returns-in-Some-clause-complete_ask : goal.returns-in-Some-clause-complete_ask
returns-in-Some-clause-complete_ask g c = λ source name command me d told requests short are there calm_source calm_sink.
    ask_done source name command me d told short are there calm_source calm_sink
    (c.serve-status.ensures.service (AskOf name command) requests)

pub returns-in-Some-clause-complete_sample : goal.returns-in-Some-clause-complete_sample
returns-in-Some-clause-complete_sample g c = λ jobs seed asked.
    absurd (never_input c.args.words.now c.in-Some.service (sym c.asked_service.ensures ∙ c.in-Some.is) asked)

pub returns-in-Some-clause-done : goal.returns-in-Some-clause-done
returns-in-Some-clause-done g c = λ e telling asked.
    absurd (never_input c.args.words.now c.in-Some.service (sym c.asked_service.ensures ∙ c.in-Some.is) asked)

pub returns-in-Some-clause-history : goal.returns-in-Some-clause-history
returns-in-Some-clause-history g c = λ e asked.
    absurd (never_input c.args.words.now c.in-Some.service (sym c.asked_service.ensures ∙ c.in-Some.is) asked)

pub returns-in-Some-clause-compiled : goal.returns-in-Some-clause-compiled
returns-in-Some-clause-compiled g c = λ e asked.
    absurd (never_input c.args.words.now c.in-Some.service (sym c.asked_service.ensures ∙ c.in-Some.is) asked)

pub returns-in-Some-clause-compiled_again : goal.returns-in-Some-clause-compiled_again
returns-in-Some-clause-compiled_again g c = λ e asked.
    absurd (never_input c.args.words.now c.in-Some.service (sym c.asked_service.ensures ∙ c.in-Some.is) asked)

pub returns-in-Some-clause-planned_again : goal.returns-in-Some-clause-planned_again
returns-in-Some-clause-planned_again g c = λ e asked.
    absurd (never_input c.args.words.now c.in-Some.service (sym c.asked_service.ensures ∙ c.in-Some.is) asked)

pub returns-in-Some-clause-planned : goal.returns-in-Some-clause-planned
returns-in-Some-clause-planned g c = λ e day asked.
    absurd (never_input c.args.words.now c.in-Some.service (sym c.asked_service.ensures ∙ c.in-Some.is) asked)

pub returns-in-Some-clause-planned_record : goal.returns-in-Some-clause-planned_record
returns-in-Some-clause-planned_record g c = λ e day asked.
    absurd (never_input c.args.words.now c.in-Some.service (sym c.asked_service.ensures ∙ c.in-Some.is) asked)

pub returns-in-Some-clause-audited : goal.returns-in-Some-clause-audited
returns-in-Some-clause-audited g c = λ e asked.
    absurd (never_input c.args.words.now c.in-Some.service (sym c.asked_service.ensures ∙ c.in-Some.is) asked)

pub returns-in-Some-clause-sampled : goal.returns-in-Some-clause-sampled
returns-in-Some-clause-sampled g c = λ e jobs seed asked.
    absurd (never_input c.args.words.now c.in-Some.service (sym c.asked_service.ensures ∙ c.in-Some.is) asked)

pub returns-in-Some-clause-definitions_refused : goal.returns-in-Some-clause-definitions_refused
returns-in-Some-clause-definitions_refused g c = λ e.
    let r = has_request c.args.words.now c.in-Some.service (sym c.asked_service.ensures ∙ c.in-Some.is) in
    let h = c.serve-status.ensures.service r.0 r.1 in
    let row = row_1 _ _ _ _ r.0 _ _ _ _ _ _ _ _ _ (came _ _ _ _ r.0 _ _ _ _ _ _ _ _ _ h (λ five. omega (arith, e, five))) e in
    inr (record { request = r.0; refusal = row.0; asked = r.1; refused = row.1; wrote = row.2 })

pub returns-in-Some-clause-words : goal.returns-in-Some-clause-words
returns-in-Some-clause-words g c = λ e.
    let r = has_request c.args.words.now c.in-Some.service (sym c.asked_service.ensures ∙ c.in-Some.is) in
    let h = c.serve-status.ensures.service r.0 r.1 in
    let row = row_2 _ _ _ _ r.0 _ _ _ _ _ _ _ _ _ (came _ _ _ _ r.0 _ _ _ _ _ _ _ _ _ h (λ five. omega (arith, e, five))) e in
    inr (record { request = r.0; defs = row.0; asked = r.1; read = row.1; none = row.2 })

pub returns-in-Some-clause-no_words : goal.returns-in-Some-clause-no_words
returns-in-Some-clause-no_words g c = λ asked requests.
    absurd (always_requested c.args.words.now c.in-Some.service (sym c.asked_service.ensures ∙ c.in-Some.is) requests)

pub returns-in-Some-clause-refused : goal.returns-in-Some-clause-refused
returns-in-Some-clause-refused g c = λ e other.
    let r = has_request c.args.words.now c.in-Some.service (sym c.asked_service.ensures ∙ c.in-Some.is) in
    let h = c.serve-status.ensures.service r.0 r.1 in
    absurd (row_3 _ _ _ _ r.0 _ _ _ _ _ _ _ _ _ (came _ _ _ _ r.0 _ _ _ _ _ _ _ _ _ h (λ five. omega (arith, e, five))) e)

pub returns-in-Some-clause-history_refused : goal.returns-in-Some-clause-history_refused
returns-in-Some-clause-history_refused g c = λ e asked.
    absurd (never_input c.args.words.now c.in-Some.service (sym c.asked_service.ensures ∙ c.in-Some.is) asked)

pub returns-in-Some-clause-source_failed : goal.returns-in-Some-clause-source_failed
returns-in-Some-clause-source_failed g c = λ e.
    let r = has_request c.args.words.now c.in-Some.service (sym c.asked_service.ensures ∙ c.in-Some.is) in
    let h = c.serve-status.ensures.service r.0 r.1 in
    (row_4 _ _ _ _ r.0 _ _ _ _ _ _ _ _ _ (came _ _ _ _ r.0 _ _ _ _ _ _ _ _ _ h (λ five. omega (arith, e, five))) e).0

pub returns-in-Some-clause-source_asked : goal.returns-in-Some-clause-source_asked
returns-in-Some-clause-source_asked g c = λ e.
    let r = has_request c.args.words.now c.in-Some.service (sym c.asked_service.ensures ∙ c.in-Some.is) in
    inr (subst (λ (o : Option Request). IsSome o) (sym r.1) refl)

pub returns-in-Some-clause-sink_failed : goal.returns-in-Some-clause-sink_failed
returns-in-Some-clause-sink_failed g c = λ e.
    let r = has_request c.args.words.now c.in-Some.service (sym c.asked_service.ensures ∙ c.in-Some.is) in
    let h = c.serve-status.ensures.service r.0 r.1 in
    row_5 _ _ _ _ r.0 _ _ _ _ _ _ _ _ _ h e

pub returns-in-Some-clause-disk_failed : goal.returns-in-Some-clause-disk_failed
returns-in-Some-clause-disk_failed g c = λ e.
    let r = has_request c.args.words.now c.in-Some.service (sym c.asked_service.ensures ∙ c.in-Some.is) in
    let h = c.serve-status.ensures.service r.0 r.1 in
    disk_rose _ _ _ _ _ _ _ _ _ _ r.0 _ _ (row_6 _ _ _ _ r.0 _ _ _ _ _ _ _ _ _ (came _ _ _ _ r.0 _ _ _ _ _ _ _ _ _ h (λ five. omega (arith, e, five))) e)

pub returns-in-Some-clause-other_file : goal.returns-in-Some-clause-other_file
returns-in-Some-clause-other_file g c = λ e.
    let r = has_request c.args.words.now c.in-Some.service (sym c.asked_service.ensures ∙ c.in-Some.is) in
    let h = c.serve-status.ensures.service r.0 r.1 in
    let row = row_7 _ _ _ _ r.0 _ _ _ _ _ _ _ _ _ (came _ _ _ _ r.0 _ _ _ _ _ _ _ _ _ h (λ five. omega (arith, e, five))) e in
    other_file_found _ _ _ _ _ _ _ _ _ _ r.0 _ _ c.args.words.now _ _ row.0 r.1 row.1 row.2

pub returns-in-Some-clause-turns_spent : goal.returns-in-Some-clause-turns_spent
returns-in-Some-clause-turns_spent g c = λ e.
    let r = has_request c.args.words.now c.in-Some.service (sym c.asked_service.ensures ∙ c.in-Some.is) in
    let h = c.serve-status.ensures.service r.0 r.1 in
    let s = row_8 _ _ _ _ r.0 _ _ _ _ _ _ _ _ _ (came _ _ _ _ r.0 _ _ _ _ _ _ _ _ _ h (λ five. omega (arith, e, five))) e in
    record { request = r.0; asked = r.1; served = s }

pub returns-in-Some-clause-shut_down : goal.returns-in-Some-clause-shut_down
returns-in-Some-clause-shut_down g c = λ e name turns requests.
    let h = c.serve-status.ensures.service (NodeFor name turns) requests in
    ⊎_elim (λ s. record { request = NodeFor name turns; asked = requests; served = s })
    (λ reply. absurd (two_requests name reply.1.name reply.1.command turns reply.1.is))
    (row_0 _ _ _ _ (NodeFor name turns) _ _ _ _ _ _ _ _ _
    (came _ _ _ _ (NodeFor name turns) _ _ _ _ _ _ _ _ _ h (λ five. omega (arith, e, five))) e)

pub returns-in-Some-clause-replied : goal.returns-in-Some-clause-replied
returns-in-Some-clause-replied g c = λ e name command requests.
    let h = c.serve-status.ensures.service (AskOf name command) requests in
    ⊎_elim (λ s. absurd (two_requests s.name name command s.turns (sym s.is)))
    (λ reply. record { request = AskOf name command; text = reply.0; asked = requests; answered = reply.1; wrote = reply.2 })
    (row_0 _ _ _ _ (AskOf name command) _ _ _ _ _ _ _ _ _
    (came _ _ _ _ (AskOf name command) _ _ _ _ _ _ _ _ _ h (λ five. omega (arith, e, five))) e)

pub returns-in-Some-clause-no_answer : goal.returns-in-Some-clause-no_answer
returns-in-Some-clause-no_answer g c = λ e.
    let r = has_request c.args.words.now c.in-Some.service (sym c.asked_service.ensures ∙ c.in-Some.is) in
    let h = c.serve-status.ensures.service r.0 r.1 in
    no_answer_given c.args.words.now r.0 _ _ _ _ _ _ r.1 (row_12 _ _ _ _ r.0 _ _ _ _ _ _ _ _ _ (came _ _ _ _ r.0 _ _ _ _ _ _ _ _ _ h (λ five. omega (arith, e, five))) e)

pub returns-in-Some-clause-limit : goal.returns-in-Some-clause-limit
returns-in-Some-clause-limit g c = λ e.
    let r = has_request c.args.words.now c.in-Some.service (sym c.asked_service.ensures ∙ c.in-Some.is) in
    let h = c.serve-status.ensures.service r.0 r.1 in
    inr (⊎_elim (λ row. PassesLimit.of_input r.0 r.1 row.0 row.1)
    (λ row. run_passes_limit _ _ _ _ _ _ _ _ _ _ r.0 _ _ c.args.words.now _ _ row.0 r.1 row.1 row.2)
    (row_10 _ _ _ _ r.0 _ _ _ _ _ _ _ _ _ (came _ _ _ _ r.0 _ _ _ _ _ _ _ _ _ h (λ five. omega (arith, e, five))) e))

pub returns-in-Some-clause-not_sound : goal.returns-in-Some-clause-not_sound
returns-in-Some-clause-not_sound g c = λ e.
    let r = has_request c.args.words.now c.in-Some.service (sym c.asked_service.ensures ∙ c.in-Some.is) in
    let h = c.serve-status.ensures.service r.0 r.1 in
    absurd (row_11 _ _ _ _ r.0 _ _ _ _ _ _ _ _ _ (came _ _ _ _ r.0 _ _ _ _ _ _ _ _ _ h (λ five. omega (arith, e, five))) e)

pub returns-in-Some-clause-statuses : goal.returns-in-Some-clause-statuses
returns-in-Some-clause-statuses g c =
    let r = has_request c.args.words.now c.in-Some.service (sym c.asked_service.ensures ∙ c.in-Some.is) in
    let h = c.serve-status.ensures.service r.0 r.1 in
    ⊎_elim (λ five. five_among c.serve-status.result.status five)
    (λ ten. services_among c.serve-status.result.status ten) (service_numbers _ _ _ _ r.0 _ _ _ _ _ _ _ _ _ h)

pub returns-in-Some-clause-silent : goal.returns-in-Some-clause-silent
returns-in-Some-clause-silent g c = λ e.
    let r = has_request c.args.words.now c.in-Some.service (sym c.asked_service.ensures ∙ c.in-Some.is) in
    let h = c.serve-status.ensures.service r.0 r.1 in
    row_silent _ _ _ _ r.0 _ _ _ _ _ _ _ _ _ h e

pub returns-in-Some-clause-world : goal.returns-in-Some-clause-world
returns-in-Some-clause-world g c =
    let is : service_in c.args.words.now ≡ Some c.in-Some.service = sym c.asked_service.ensures ∙ c.in-Some.is in
    let none : asked_of c.args.words.now ≡ None = no_input c.args.words.now c.in-Some.service is in
    let never : asks_record (asked_of c.args.words.now) ≡ true → ⊥ = λ e. cc (e, none) in
    (λ has. absurd (false_true has), λ both. absurd (never both.1))

pub returns-in-Some-clause-input_untouched : goal.returns-in-Some-clause-input_untouched
returns-in-Some-clause-input_untouched g c = λ e requests.
    absurd (always_requested c.args.words.now c.in-Some.service (sym c.asked_service.ensures ∙ c.in-Some.is) requests)

pub returns-in-Some-clause-outside_untouched : goal.returns-in-Some-clause-outside_untouched
returns-in-Some-clause-outside_untouched g c = λ requests.
    absurd (always_requested c.args.words.now c.in-Some.service (sym c.asked_service.ensures ∙ c.in-Some.is) requests)

pub returns-in-Some-clause-ask_untouched : goal.returns-in-Some-clause-ask_untouched
returns-in-Some-clause-ask_untouched g c = λ name command requests.
    ask_alone name command (λ all. (all.0, all.2, all.3, all.4)) (c.serve-status.ensures.service (AskOf name command) requests)

pub returns-in-Some-clause-node_untouched : goal.returns-in-Some-clause-node_untouched
returns-in-Some-clause-node_untouched g c = λ name turns requests early.
    node_alone _ name turns (λ all. (all.1, all.2, all.3, all.4)) (λ fault s. s.served.1)
    (c.serve-status.ensures.service (NodeFor name turns) requests) early

pub returns-in-Some-clause-unserved_untouched : goal.returns-in-Some-clause-unserved_untouched
returns-in-Some-clause-unserved_untouched g c = λ early.
    let r = has_request c.args.words.now c.in-Some.service (sym c.asked_service.ensures ∙ c.in-Some.is) in
    let h = c.serve-status.ensures.service r.0 r.1 in
    early_alone r.0 h early

pub returns-in-Some-clause-left_untouched : goal.returns-in-Some-clause-left_untouched
returns-in-Some-clause-left_untouched g c = λ source request status text told requests left.
    left_untouched source status text told left (c.serve-status.ensures.service request requests)

pub returns-in-Some-clause-unmade_untouched : goal.returns-in-Some-clause-unmade_untouched
returns-in-Some-clause-unmade_untouched g c = λ name turns requests.
    unmade_alone _ c.args.words.now name turns requests (λ all. (all.1, all.2, all.3, all.4)) (λ fault s. s.served.1)
    (c.serve-status.ensures.service (NodeFor name turns) requests)

pub returns-in-Some-clause-memory : goal.returns-in-Some-clause-memory
returns-in-Some-clause-memory g c = λ e asked requests.
    always_requested c.args.words.now c.in-Some.service (sym c.asked_service.ensures ∙ c.in-Some.is) requests
