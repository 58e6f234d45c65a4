-- What a job runs, read back.
use Rattle.std.proofs.Common.{◌≡◌, ℕ, false, List, [], ◌∷◌, ◌++◌, codes, arith, Option, Some, None, refl, ap, ◌∙◌, is_some}
use Rattle.std.specs.Option.{option_map_or}
use Rattle.std.proofs.lemmas.Grind.{common_steps}
use Rattle.lemmas.proofs.Booleans.{and_made}
use Rattle.base_types.specs.declared.documents.Work.{Work}
use Rattle.base_types.specs.declared.documents.Work.TheVariants.{Command, Script}
use Rattle.base_types.specs.declared.documents.Recovery.{Recovery}
use Rattle.base_types.specs.declared.documents.Recovery.TheVariants as recovers
use Rattle.composer_parser.specs.declared.definitions.WorkDef.{WorkDef}
use Rattle.composer_parser.specs.Kinds.{word}
use Rattle.composer_parser.specs.Works as grammar
use Rattle.composer_print.specs.Works.{command_text, logon_text, cond_text, recovery_text, work_text}
use Rattle.composer_laws.specs.Written.{IsText, WhenGiven, IsCommand, IsWork}
use Rattle.composer_laws.proofs.Readings.{Reads, Opens, Runs, made_reads, app, left_reads, right_reads, app_opens, skip_opens, left_opens, right_opens, many_reads, no_runs, one_run, more_runs, runs_to, as_text}
use Rattle.composer_laws.proofs.Words.{Any, key_reads, key_opens, text_reads, value_reads}
use Rattle.composer_laws.proofs.Lists.{other}

command_reads : (w : Work) → IsCommand w → Reads false false grammar.command (command_text w) (λ x. x ≡ w)
unfolding grammar.command command_text
command_reads (Script v) h =
    left_reads (app (app (made_reads false (λ x a u e. ap Script e)) (key_reads (codes "SCRIPTNAME") refl)) (value_reads v h))
command_reads (Command v) h =
    right_reads (app (app (made_reads false (λ x a u e. ap Command e)) (key_reads (codes "DOCOMMAND") refl)) (text_reads v h))

-- the flags
logon_opens : (v : List ℕ) → IsText v
    → Opens false false grammar.work_flag (logon_text (Some v)) (word (codes "STREAMLOGON"))
    (λ f. (s : _) → ((grammar.after_work_flag s f).logon ≡ Some v) × ((grammar.after_work_flag s f).cond ≡ s.cond)
    × ((grammar.after_work_flag s f).recovery ≡ s.recovery))
unfolding grammar.work_flag logon_text
logon_opens v h =
    left_opens (app_opens (key_opens (codes "STREAMLOGON") refl (λ line u e s. (ap Some e, refl, refl))) (value_reads v h))

cond_opens : (v : List ℕ) → IsText v
    → Opens false false grammar.work_flag (cond_text (Some v)) (word (codes "RCCONDSUCC"))
    (λ f. (s : _) → ((grammar.after_work_flag s f).cond ≡ Some v) × ((grammar.after_work_flag s f).logon ≡ s.logon)
    × ((grammar.after_work_flag s f).recovery ≡ s.recovery))
unfolding grammar.work_flag cond_text
cond_opens v h =
    right_opens (right_opens (right_opens (left_opens
    (app_opens (key_opens (codes "RCCONDSUCC") refl (λ line u e s. (ap Some e, refl, refl))) (text_reads v h)))))

continue_reads : Reads false false grammar.recovery_word (32 ∷ codes "CONTINUE") (λ x. x ≡ recovers.Continue)
unfolding grammar.recovery_word
continue_reads = right_reads (left_reads (app (made_reads false (λ x a. refl)) (key_reads (codes "CONTINUE") refl)))

rerun_reads : Reads false false grammar.recovery_word (32 ∷ codes "RERUN") (λ x. x ≡ recovers.Rerun)
unfolding grammar.recovery_word
rerun_reads = right_reads (right_reads (left_reads (app (made_reads false (λ x a. refl)) (key_reads (codes "RERUN") refl))))

no_job : Reads false false grammar.no_recovery_job [] Any
unfolding grammar.no_recovery_job
no_job = right_reads (right_reads (made_reads false tt))

recovery_opens : (r : Recovery) (x : List ℕ) → Reads false false grammar.recovery_word x (λ v. v ≡ r)
    → Opens false false grammar.work_flag ((32 ∷ codes "RECOVERY") ++ x ++ []) (word (codes "RECOVERY"))
    (λ f. (s : _) → ((grammar.after_work_flag s f).recovery ≡ Some r) × ((grammar.after_work_flag s f).logon ≡ s.logon)
    × ((grammar.after_work_flag s f).cond ≡ s.cond))
unfolding grammar.work_flag
recovery_opens r x read =
    right_opens (right_opens (right_opens (right_opens
    (skip_opens (app_opens (key_opens (codes "RECOVERY") refl (λ line u e s. (ap Some e, refl, refl))) read) no_job))))

logon_run : (o : Option (List ℕ)) → WhenGiven IsText o
    → Runs false false grammar.after_work_flag grammar.may_work_flag grammar.work_flag
    (λ s. (s.logon ≡ None) × (s.cond ≡ None) × (s.recovery ≡ None)) (logon_text o)
    (λ s. (s.logon ≡ o) × (s.cond ≡ None) × (s.recovery ≡ None))
unfolding logon_text
logon_run None h = no_runs
logon_run (Some v) h =
    one_run (logon_opens v h) (λ s f k r. ((r s).0, (r s).1 ∙ k.1, (r s).2 ∙ k.2))
    (λ s line k. and_made _ _ (rw k.0 refl) (and_made _ _ (other s.description)
    (and_made _ _ (other s.task_type) (and_made _ _ (other (is_some s.cond)) (other (is_some s.recovery))))))

cond_run : (logon o : Option (List ℕ)) → WhenGiven IsText o
    → Runs false false grammar.after_work_flag grammar.may_work_flag grammar.work_flag
    (λ s. (s.logon ≡ logon) × (s.cond ≡ None) × (s.recovery ≡ None)) (cond_text o)
    (λ s. (s.logon ≡ logon) × (s.cond ≡ o) × (s.recovery ≡ None))
unfolding cond_text
cond_run logon None h = no_runs
cond_run logon (Some v) h =
    one_run (cond_opens v h) (λ s f k r. ((r s).1 ∙ k.0, (r s).0, (r s).2 ∙ k.2))
    (λ s line k. and_made _ _ (other (is_some s.logon)) (and_made _ _ (other s.description)
    (and_made _ _ (other s.task_type) (and_made _ _ (rw k.1 refl) (other (is_some s.recovery))))))

recovery_run : (logon cond : Option (List ℕ)) (r : Recovery)
    → Runs false false grammar.after_work_flag grammar.may_work_flag grammar.work_flag
    (λ s. (s.logon ≡ logon) × (s.cond ≡ cond) × (s.recovery ≡ None)) (recovery_text r)
    (λ s. (s.logon ≡ logon) × (s.cond ≡ cond) × (option_map_or (λ x. x) s.recovery recovers.Stop ≡ r))
unfolding recovery_text
recovery_run logon cond recovers.Stop =
    runs_to no_runs (λ s k. (k.0, k.1, ap (λ o. option_map_or (λ x. x) o recovers.Stop) k.2))
recovery_run logon cond recovers.Continue =
    one_run (recovery_opens recovers.Continue (32 ∷ codes "CONTINUE") continue_reads)
    (λ s f k r. ((r s).1 ∙ k.0, (r s).2 ∙ k.1, ap (λ o. option_map_or (λ x. x) o recovers.Stop) (r s).0))
    (λ s line k. and_made _ _ (other (is_some s.logon)) (and_made _ _ (other s.description)
    (and_made _ _ (other s.task_type) (and_made _ _ (other (is_some s.cond)) (rw k.2 refl)))))
recovery_run logon cond recovers.Rerun =
    one_run (recovery_opens recovers.Rerun (32 ∷ codes "RERUN") rerun_reads)
    (λ s f k r. ((r s).1 ∙ k.0, (r s).2 ∙ k.1, ap (λ o. option_map_or (λ x. x) o recovers.Stop) (r s).0))
    (λ s line k. and_made _ _ (other (is_some s.logon)) (and_made _ _ (other s.description)
    (and_made _ _ (other s.task_type) (and_made _ _ (other (is_some s.cond)) (rw k.2 refl)))))

flags_reads : (w : WorkDef) → IsWork w
    → Reads false false grammar.work_flags (logon_text w.logon ++ (cond_text w.cond ++ recovery_text w.recovery))
    (λ s. (s.logon ≡ w.logon) × (s.cond ≡ w.cond) × (option_map_or (λ x. x) s.recovery recovers.Stop ≡ w.recovery))
unfolding grammar.work_flags
flags_reads w h =
    many_reads _ _
    (more_runs (logon_run w.logon h.logon) (more_runs (cond_run w.logon w.cond h.cond) (recovery_run w.logon w.cond w.recovery)))
    (refl, refl, refl) (λ s k. k)

work_bytes : (w : WorkDef) → command_text w.work ++ (logon_text w.logon ++ (cond_text w.cond ++ recovery_text w.recovery)) ≡ work_text w
unfolding work_text
work_bytes w = grind (arith, common_steps)

pub work_reads : (w : WorkDef) → IsWork w → Reads false false grammar.work (work_text w) (λ x. x ≡ w)
unfolding grammar.work
work_reads w h =
    as_text
    (app (app (made_reads false (λ v e s k i. record { work = e i; logon = k.0 i; cond = k.1 i; recovery = k.2 i }))
    (command_reads w.work h.work))
    (flags_reads w h))
    (work_bytes w)
