-- The names, texts, works and conditions of definitions are fit.
use Rattle.std.proofs.Common.{◌≡◌, ℕ, zero, suc, inl, inr, List, [], ◌∷◌, Option, Some, None, option_map, option_and_then, sym, subst, unwrap_or, arith}
use Rattle.std.specs.List.{slice_get}
use Rattle.std.specs.Option.{option_or}
use Rattle.composer_parser.specs.declared.Lined.{Lined}
use Rattle.composer_parser.specs.declared.Defs.{Defs}
use Rattle.composer_parser.specs.declared.JobDef.{JobDef}
use Rattle.composer_parser.specs.declared.WorkDef.{WorkDef}
use Rattle.composer_parser.specs.declared.EntryDef.{EntryDef}
use Rattle.composer_parser.specs.declared.ScheduleDef.{ScheduleDef}
use Rattle.composer_print.specs.Streams.{items}
use Rattle.composer_laws.specs.Written.{WhenGiven, Each, IsName, IsText, IsCommand, IsWork, IsJob, IsEntry}
use Rattle.composer_laws.proofs.Words.{free_parts}
use Rattle.definition_names.specs.Names.{job_at}
use Rattle.definition_names.specs.Stations.{ws_of_entry}
use Rattle.model.specs.Types.{CondOp, Work, Command, Script}
use Rattle.model.specs.Fit.{IsFitText, IsFitCond, IsFitWork}
use Rattle.plan_builder.specs.Works.{IsCondOf, IsRunOf, job_on, work_of}
use Rattle.plan_builder.specs.declared.works.Run.{Run}

pub name_fit : (name : List ℕ) → IsName name → IsFitText name
name_fit name h = let parts = free_parts name h.free in let few = parts.1 in omega (arith, few)

work_fit : (w : Work) → IsCommand w → IsFitWork w
work_fit (Command text) h = h.room
work_fit (Script text) h = h.room

logon_fit : (logon : Option (List ℕ)) → WhenGiven IsText logon → IsFitText (unwrap_or logon [])
logon_fit None h = omega arith
logon_fit (Some text) h = h.room

no_operations : (ops : List CondOp) → ops ≡ [] → IsFitCond ops
no_operations ops e = subst (λ (xs : List CondOp). IsFitCond xs) (sym e) (omega arith)

cond_fit : (text : Option (List ℕ)) (ops : List CondOp) → IsCondOf text ops → IsFitCond ops
cond_fit None ops e = no_operations ops e
cond_fit (Some text) ops (inl h) = h.1
cond_fit (Some text) ops (inr h) = no_operations ops h.1

-- what a work says
pub record IsFitRun (run : Run) : Type 0 where
  pub work_ : IsFitWork run.work
  pub logon_ : IsFitText run.logon
  pub cond_ : IsFitCond run.cond

pub run_fit : (w : Option WorkDef) (run : Run) → WhenGiven IsWork w → IsRunOf w run → IsFitRun run
run_fit None run h e =
    subst (λ (r : Run). IsFitRun r) (sym e) (record { work_ = omega arith; logon_ = omega arith; cond_ = omega arith })
run_fit (Some w) run h e = record {
  work_ = subst (λ (x : Work). IsFitWork x) (sym e.work_) (work_fit w.work h.work);
  logon_ = subst (λ (x : List ℕ). IsFitText x) (sym e.logon_) (logon_fit w.logon h.logon);
  cond_ = cond_fit w.cond run.cond e.cond_;
}

-- what stands at a place of a list
pub given_at : {A : Type 0} (P : A → Type 0) (xs : List (Lined A)) (n : ℕ) → Each P (items xs)
    → WhenGiven (λ (l : Lined A). P l.item) (slice_get xs n)
given_at P [] n h = tt
given_at P (x ∷ xs) zero h = h.0
given_at P (x ∷ xs) (suc n) h = given_at P xs n h.1

given_or : {A : Type 0} (P : A → Type 0) (a b : Option A) → WhenGiven P a → WhenGiven P b → WhenGiven P (option_or a b)
given_or P None b h k = k
given_or P (Some x) b h k = h

-- the work of an entry
job_given : (d : Defs) (place : Option ℕ) → Each IsJob (items d.jobs)
    → WhenGiven IsWork (option_map (λ (j : Lined JobDef). j.item.work) (option_and_then (slice_get d.jobs) place))
job_given d None h = tt
job_given d (Some n) h = go (slice_get d.jobs n) (given_at IsJob d.jobs n h)
  where
    go : (o : Option (Lined JobDef)) → WhenGiven (λ (j : Lined JobDef). IsJob j.item) o
        → WhenGiven IsWork (option_map (λ (j : Lined JobDef). j.item.work) o)
    go None k = tt
    go (Some j) k = k.work

job_on_given : (d : Defs) (name : List ℕ) (ws : Option (List ℕ)) → Each IsJob (items d.jobs)
    → WhenGiven IsWork (option_and_then (job_on d name) ws)
job_on_given d name None h = tt
job_on_given d name (Some ws) h = job_given d (job_at d ws name) h

pub work_given : (d : Defs) (s : ScheduleDef) (e : EntryDef) → Each IsJob (items d.jobs) → IsEntry e
    → WhenGiven IsWork (work_of d s e)
work_given d s e h k =
    given_or IsWork e.work (option_and_then (job_on d e.name) (ws_of_entry d s e)) k.work
    (job_on_given d e.name (ws_of_entry d s e) h)
