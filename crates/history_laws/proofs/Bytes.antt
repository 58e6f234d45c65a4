-- The bytes of an entry are bytes: numbers below 256.
use Rattle.std.proofs.Common.{◌≡◌, ◌<◌, ◌+◌, ◌/◌, ◌%◌, ℕ, Bool, true, false, cond, ◌&&◌, ltb, List, [], ◌∷◌, ◌++◌, length}
use Rattle.std.proofs.Common.{Option, Some, None, inl, inr, refl, subst, arith, flat_map, IfSome, All, IsUtf8}
use Rattle.std.specs.List.{AllByRecursion, list_all}
use Rattle.std.proofs.lemmas.Bool.{and_parts, lt-ltb, ltb-true}
use Rattle.std.proofs.lemmas.List.Elements.{recursion_from_All}
use Rattle.std.proofs.lemmas.List.Folds.{list_all-append}
use lib.Utf8.{encode, encodes, next, scalar, scalars, scalar_cases}
use Rattle.model.specs.Types.{Feed, Events, Orders, Entry, Body, NewPlan, Added, Clock, Released, StreamEnded}
use Rattle.model.specs.Types.{UntilPassed, Launched, Started, Failed, Ended, Lost, Fulfilled, Obeyed, Declined}
use Rattle.model.specs.Types.{Order, Cmd, AddDep, DelDep, Release, AltPri, Cancel, Confirm, Kill, Rerun, Fence}
use Rattle.model.specs.Types.{Limit, StreamLimit, Total, ReplyGlobal, ReplyOwn, Stop, Submit, SwitchMgr, Why}
use Rattle.model.specs.Types.{NotMine, NotThere, Running, NotRunning, NotEnded, AlreadyThere, OutOfRange, NotMaster}
use Rattle.model.specs.Types.{NotBuilt, Obj, Job, Stream, OnUntil, Suppr, Cont, Canc, Dep, FollowsJob}
use Rattle.model.specs.Types.{FollowsStream, Needs, Prompt, At, Until, Outside, Global, Own, DraftDep, Follows}
use Rattle.model.specs.Types.{Plain, Work, Command, Script, Recovery, Rel, Eq, Ne, Lt, Le, Gt, Ge, CondOp, Cmp, And}
use Rattle.model.specs.Types.{Or, Not, JobDoc, StreamDoc, JobDraft, StreamDraft, Deadline, Late}
use Rattle.model.specs.Fit.{IsFit, IsFitBody, IsFitCmd, IsFitJob, IsFitStream, IsFitJobDraft, IsFitDraft, IsFitCond}
use Rattle.model.specs.Ranges.{InRange, BodyInRange, CmdInRange, DraftInRange, JobDraftInRange, StreamInRange, JobInRange}
use Rattle.model.specs.Ranges.{WorkInRange, DraftDepInRange, DepInRange}
use Rattle.model.specs.Fields.{u16_bytes, u32_bytes, text_bytes, list_bytes}
use Rattle.model.specs.Fields.{flag_bytes, option_bytes}
use Rattle.model.specs.History.{Seen}
use Rattle.model.specs.Versions.{is_second, version}
use Rattle.model.specs.Spelling.{feed_bytes, count_bytes, seen_bytes, obj_bytes, until_code, dep_bytes, draft_dep_bytes}
use Rattle.model.specs.Spelling.{rel_code, op_bytes, cond_bytes, work_bytes, recovery_code, job_doc_bytes, stream_doc_bytes}
use Rattle.model.specs.Spelling.{job_draft_bytes, stream_draft_bytes, cmd_bytes, why_code, body_bytes, entry_bytes}

abbrev is_small : ℕ → Bool
is_small b = ltb b 256

abbrev pub AreBytes : List ℕ → Type 0
AreBytes l = list_all is_small l ≡ true

-- a digit of a number in base 256
low : (n : ℕ) → ltb (n % 256) 256 ≡ true
low n = lt-ltb (n % 256) 256 (omega arith)

small : (n : ℕ) → n < 256 → ltb n 256 ≡ true
small n h = lt-ltb n 256 h

joined : (a b : List ℕ) → list_all is_small (a ++ b) ≡ (list_all is_small a && list_all is_small b)
joined a b = list_all-append is_small a b

then_ : (a b : List ℕ) → AreBytes a → AreBytes b → AreBytes (a ++ b)
then_ a b one two = rw (joined, one, two) refl

-- Texts.

byte_1 : (a : ℕ) → a < 256 → AreBytes (a ∷ [])
byte_1 a h = rw (small a h) refl

byte_2 : (a b : ℕ) → a < 256 → b < 256 → AreBytes (a ∷ b ∷ [])
byte_2 a b h i = rw (small a h, small b i) refl

byte_3 : (a b c : ℕ) → a < 256 → b < 256 → c < 256 → AreBytes (a ∷ b ∷ c ∷ [])
byte_3 a b c h i j = rw (small a h, small b i, small c j) refl

byte_4 : (a b c d : ℕ) → a < 256 → b < 256 → c < 256 → d < 256 → AreBytes (a ∷ b ∷ c ∷ d ∷ [])
byte_4 a b c d h i j k = rw (small a h, small b i, small c j, small d k) refl

below_all : (c : ℕ) → scalar c ≡ true → c < 1114112
below_all c h = elim (scalar_cases c h) [ inl one ↦ omega (arith, one) | inr two ↦ two.1 ]

encode_small : (c : ℕ) → scalar c ≡ true → AreBytes (encode c)
unfolding encode
encode_small c h = one (ltb c 128) refl
  where
    three : (b : Bool) → ltb c 65536 ≡ b
        → AreBytes (cond b ((224 + c / 4096) ∷ next (c / 64) ∷ next c ∷ []) ((240 + c / 262144) ∷ next (c / 4096) ∷ next (c / 64) ∷ next c ∷ []))
    three true is =
        let l = ltb-true c 65536 is in
        byte_3 (224 + c / 4096) (next (c / 64)) (next c) (omega (arith, l)) (omega arith) (omega arith)
    three false is =
        let l = below_all c h in
        byte_4 (240 + c / 262144) (next (c / 4096)) (next (c / 64)) (next c) (omega (arith, l)) (omega arith) (omega arith)
        (omega arith)

    two : (b : Bool) → ltb c 2048 ≡ b
        → AreBytes (cond b ((192 + c / 64) ∷ next c ∷ []) (cond (ltb c 65536) ((224 + c / 4096) ∷ next (c / 64) ∷ next c ∷ []) ((240 + c / 262144) ∷ next (c / 4096) ∷ next (c / 64) ∷ next c ∷ [])))
    two true is =
        let l = ltb-true c 2048 is in byte_2 (192 + c / 64) (next c) (omega (arith, l)) (omega arith)
    two false is = three (ltb c 65536) refl

    one : (b : Bool) → ltb c 128 ≡ b
        → AreBytes (cond b (c ∷ []) (cond (ltb c 2048) ((192 + c / 64) ∷ next c ∷ []) (cond (ltb c 65536) ((224 + c / 4096) ∷ next (c / 64) ∷ next c ∷ []) ((240 + c / 262144) ∷ next (c / 4096) ∷ next (c / 64) ∷ next c ∷ []))))
    one true is = let l = ltb-true c 128 is in byte_1 c (omega (arith, l))
    one false is = two (ltb c 2048) refl

encodes_small : (cs : List ℕ) → scalars cs ≡ true → AreBytes (encodes cs)
encodes_small [] h = refl
encodes_small (c ∷ cs) h =
    let parts = and_parts (scalar c) (scalars cs) h in
    then_ (encode c) (encodes cs) (encode_small c parts.0) (encodes_small cs parts.1)

text_small : (t : List ℕ) → IsUtf8 t → AreBytes t
text_small t h = subst AreBytes h.1.1 (encodes_small h.0 h.1.0)

-- Lists, flags and options.

each_small : {X : Type 0} (P : X → Type 0) (item : X → List ℕ) → ((x : X) → P x → AreBytes (item x)) → (xs : List X)
    → AllByRecursion P xs → AreBytes (flat_map item xs)
each_small P item each [] all = refl
each_small P item each (x ∷ xs) all =
    then_ (item x) (flat_map item xs) (each x all.0) (each_small P item each xs all.1)

list_small : {X : Type 0} (P : X → Type 0) (item : X → List ℕ) → ((x : X) → P x → AreBytes (item x)) → (xs : List X)
    → All P xs → AreBytes (list_bytes item xs)
list_small P item each xs all =
    let items = each_small P item each xs (recursion_from_All P xs all) in
    simp (low, items)

every : {X : Type 0} (xs : List X) → All (λ x. Unit {0}) xs
every xs k d l = tt

flag_small : (b : Bool) → AreBytes (flag_bytes b)
flag_small true = refl
flag_small false = refl

limit_small : (o : Option ℕ) → AreBytes (option_bytes u16_bytes o)
limit_small None = refl
limit_small (Some n) = simp low

name_small : (o : Option (List ℕ)) → IfSome o IsUtf8 → AreBytes (option_bytes text_bytes o)
name_small None h = refl
name_small (Some t) h = let text = text_small t h in simp (low, text)

-- Parts.

feed_small : (f : Feed) → AreBytes (feed_bytes f)
feed_small (Events w) = simp low
feed_small (Orders a w) = simp low

count_small : (p : ℕ × ℕ) → Unit {0} → AreBytes (count_bytes p)
count_small p u = simp low

seen_small : (seen : Seen) → AreBytes (seen_bytes seen)
seen_small seen = list_small (λ p. Unit {0}) count_bytes count_small seen (every seen)

number_small : (n : ℕ) → Unit {0} → AreBytes (u32_bytes n)
number_small n u = simp low

numbers_small : (ns : List ℕ) → AreBytes (list_bytes u32_bytes ns)
numbers_small ns = list_small (λ p. Unit {0}) u32_bytes number_small ns (every ns)

obj_small : (o : Obj) → AreBytes (obj_bytes o)
obj_small (Job j) = simp low
obj_small (Stream s) = simp low

until_small : (u : OnUntil) → ltb (until_code u) 256 ≡ true
until_small Suppr = refl
until_small Cont = refl
until_small Canc = refl

dep_small : (d : Dep) → DepInRange d → AreBytes (dep_bytes d)
unfolding dep_bytes
dep_small (FollowsJob j) h = simp low
dep_small (FollowsStream s) h = simp low
dep_small (Needs r n) h = simp low
dep_small (Prompt (Global p)) h = simp low
dep_small (Prompt (Own text)) h = let t = text_small text h in simp (low, t)
dep_small (At t) h = simp low
dep_small (Until t passed) h = simp (low, until_small)
dep_small (Outside path) h = let t = text_small path h in simp (low, t)
dep_small (Deadline t) h = simp low

draft_dep_small : (d : DraftDep) → DraftDepInRange d → AreBytes (draft_dep_bytes d)
unfolding draft_dep_bytes
draft_dep_small (Follows w name of_job) h =
    let t = text_small name h.1 in
    let o = name_small of_job h.2 in
    rw joined (simp (low, t, o))
draft_dep_small (Plain d) h = dep_small d h

rel_small : (r : Rel) → ltb (rel_code r) 256 ≡ true
rel_small Eq = refl
rel_small Ne = refl
rel_small Lt = refl
rel_small Le = refl
rel_small Gt = refl
rel_small Ge = refl

op_small : (op : CondOp) → Unit {0} → AreBytes (op_bytes op)
op_small (Cmp r n) u = simp (low, rel_small)
op_small And u = refl
op_small Or u = refl
op_small Not u = refl

cond_small : (ops : List CondOp) → IsFitCond ops → AreBytes (cond_bytes ops)
unfolding cond_bytes
cond_small ops fit =
    let count = small (length ops) (omega (arith, fit)) in
    let items = each_small (λ p. Unit {0}) op_bytes op_small ops (recursion_from_All (λ p. Unit {0}) ops (every ops)) in
    simp (count, items)

work_small : (work : Work) → WorkInRange work → AreBytes (work_bytes work)
work_small (Command text) h = let t = text_small text h in simp (low, t)
work_small (Script text) h = let t = text_small text h in simp (low, t)

recovery_small : (r : Recovery) → ltb (recovery_code r) 256 ≡ true
recovery_small Recovery.Stop = refl
recovery_small Recovery.Continue = refl
recovery_small Recovery.Rerun = refl

-- Documents and drafts.

pairs : {X : Type 0} (P Q : X → Type 0) (xs : List X) → All P xs → All Q xs → All (λ x. P x × Q x) xs
pairs P Q xs p q k d l = (p k d l, q k d l)

job_small : (d : JobDoc) → JobInRange d × IsFitJob d → AreBytes (job_doc_bytes d)
unfolding job_doc_bytes
job_small d h =
    let name = text_small d.name h.0.name_ in
    let priority = small d.priority h.0.priority_ in
    let work = work_small d.work h.0.work_ in
    let logon = text_small d.logon h.0.logon_ in
    let cond_ = cond_small d.cond h.1.cond_ in
    let deps = each_small DepInRange dep_bytes dep_small d.deps (recursion_from_All DepInRange d.deps h.0.deps_) in
    rw (joined, joined, joined, joined, joined, joined, joined, joined) (simp (low, recovery_small, name, priority, work, logon, cond_, deps))

stream_small : (d : StreamDoc) → StreamInRange d × IsFitStream d → AreBytes (stream_doc_bytes d)
unfolding stream_doc_bytes
stream_small d h =
    let name = text_small d.name h.0.name_ in
    let priority = small d.priority h.0.priority_ in
    let limit = limit_small d.limit in
    let carry = flag_small d.carry in
    let deps = each_small DepInRange dep_bytes dep_small d.deps (recursion_from_All DepInRange d.deps h.0.deps_) in
    let jobs =
    each_small (λ (j : JobDoc). JobInRange j × IsFitJob j) job_doc_bytes job_small d.jobs
    (recursion_from_All (λ (j : JobDoc). JobInRange j × IsFitJob j) d.jobs (pairs JobInRange IsFitJob d.jobs h.0.jobs_ h.1.jobs_.1)) in
    rw (joined, joined, joined, joined, joined, joined, joined) (simp (low, name, priority, limit, carry, deps, jobs))

job_draft_small : (d : JobDraft) → JobDraftInRange d × IsFitJobDraft d → AreBytes (job_draft_bytes d)
unfolding job_draft_bytes
job_draft_small d h =
    let name = text_small d.name h.0.name_ in
    let priority = small d.priority h.0.priority_ in
    let work = work_small d.work h.0.work_ in
    let logon = text_small d.logon h.0.logon_ in
    let cond_ = cond_small d.cond h.1.cond_ in
    let deps =
    each_small DraftDepInRange draft_dep_bytes draft_dep_small d.deps (recursion_from_All DraftDepInRange d.deps h.0.deps_) in
    rw (joined, joined, joined, joined, joined, joined, joined) (simp (low, recovery_small, name, priority, work, logon, cond_, deps))

draft_small : (d : StreamDraft) → DraftInRange d → IsFitDraft d → AreBytes (stream_draft_bytes d)
unfolding stream_draft_bytes
draft_small d h fit =
    let name = text_small d.name h.name_ in
    let priority = small d.priority h.priority_ in
    let limit = limit_small d.limit in
    let carry = flag_small d.carry in
    let deps =
    each_small DraftDepInRange draft_dep_bytes draft_dep_small d.deps (recursion_from_All DraftDepInRange d.deps h.deps_) in
    let jobs =
    each_small (λ (j : JobDraft). JobDraftInRange j × IsFitJobDraft j) job_draft_bytes job_draft_small d.jobs
    (recursion_from_All (λ (j : JobDraft). JobDraftInRange j × IsFitJobDraft j) d.jobs (pairs JobDraftInRange IsFitJobDraft d.jobs h.jobs_ fit.jobs_.1)) in
    rw (joined, joined, joined, joined, joined, joined) (simp (low, name, priority, limit, carry, deps, jobs))

-- Commands and bodies.

cmd_small : (c : Cmd) → CmdInRange c → IsFitCmd c → AreBytes (cmd_bytes c)
unfolding cmd_bytes
cmd_small (AddDep o d) h fit = let o_ = obj_small o in let d_ = dep_small d h.1 in rw joined (simp (o_, d_))
cmd_small (DelDep o i) h fit = let o_ = obj_small o in rw joined (simp (low, o_))
cmd_small (Release o) h fit = obj_small o
cmd_small (AltPri o p) h fit = let o_ = obj_small o in let p_ = small p h.1 in rw joined (simp (o_, p_))
cmd_small (Cancel o) h fit = obj_small o
cmd_small (Confirm j) h fit = simp low
cmd_small (Kill j) h fit = simp low
cmd_small (Rerun j) h fit = simp low
cmd_small (Fence p) h fit = let p_ = small p h in simp p_
cmd_small (Limit n) h fit = simp low
cmd_small (StreamLimit s n) h fit = simp low
cmd_small (Total r n) h fit = simp low
cmd_small (ReplyGlobal p answer) h fit = let a = flag_small answer in simp (low, a)
cmd_small (ReplyOwn o i answer) h fit =
    let o_ = obj_small o in let a = flag_small answer in rw (joined, joined) (simp (low, o_, a))
cmd_small Cmd.Start h fit = refl
cmd_small Stop h fit = refl
cmd_small (Submit draft) h fit = draft_small draft h fit
cmd_small (SwitchMgr w) h fit = simp low

why_small : (w : Why) → ltb (why_code w) 256 ≡ true
why_small NotMine = refl
why_small NotThere = refl
why_small Running = refl
why_small NotRunning = refl
why_small NotEnded = refl
why_small Why.Ended = refl
why_small AlreadyThere = refl
why_small OutOfRange = refl
why_small NotMaster = refl
why_small NotBuilt = refl

body_small : (b : Body) → BodyInRange b → IsFitBody b → AreBytes (body_bytes b)
unfolding body_bytes
body_small (NewPlan run cut carried docs) h fit =
    let seen = seen_small cut in
    let numbers = numbers_small carried in
    let streams =
    list_small (λ (d : StreamDoc). StreamInRange d × IsFitStream d) stream_doc_bytes stream_small docs
    (pairs StreamInRange IsFitStream docs h.3 fit.2.1) in
    then_ (1 ∷ u32_bytes run ++ seen_bytes cut ++ list_bytes u32_bytes carried) (list_bytes stream_doc_bytes docs)
    (then_ (1 ∷ u32_bytes run ++ seen_bytes cut) (list_bytes u32_bytes carried)
    (then_ (1 ∷ u32_bytes run) (seen_bytes cut) (number_small run tt) seen) numbers) streams
body_small (Added a k doc) h fit = let d = stream_small doc (h.2, fit) in simp (low, d)
body_small (Clock t) h fit = simp low
body_small (Released s seen) h fit = then_ (u32_bytes s) (seen_bytes seen) (number_small s tt) (seen_small seen)
body_small (StreamEnded s seen) h fit = then_ (u32_bytes s) (seen_bytes seen) (number_small s tt) (seen_small seen)
body_small (UntilPassed o i passed) h fit =
    let o_ = obj_small o in rw (joined, joined) (simp (low, until_small, o_))
body_small (Launched j n seen) h fit =
    then_ (u32_bytes j) (u32_bytes n ++ seen_bytes seen) (number_small j tt)
    (then_ (u32_bytes n) (seen_bytes seen) (number_small n tt) (seen_small seen))
body_small (Started j n) h fit = simp low
body_small (Failed j n) h fit = simp low
body_small (Ended j n rc good) h fit = let g = flag_small good in simp (low, g)
body_small (Lost j n) h fit = simp low
body_small (Fulfilled o i) h fit = let o_ = obj_small o in rw joined (simp (low, o_))
body_small (Obeyed a k c) h fit = let c_ = cmd_small c h.2 fit in simp (low, c_)
body_small (Declined a k why) h fit = simp (low, why_small)
body_small (Order c) h fit = cmd_small c h fit
body_small (Late o i) h fit = let o_ = obj_small o in rw joined (simp (low, o_))

version_small : (b : Body) → ltb (version b) 256 ≡ true
unfolding version
version_small b = go (is_second b)
  where
    go : (t : Bool) → ltb (cond t 2 1) 256 ≡ true
    go true = refl
    go false = refl

-- A fit entry within its ranges is spelled in bytes.
pub entry_small : (e : Entry) → IsFit e → InRange e → AreBytes (entry_bytes e)
unfolding entry_bytes
entry_small e fit h =
    let v = version_small e.body in
    let f = feed_small e.feed in
    let b = body_small e.body h.body_ fit.bounded in
    rw (joined, joined) (simp (low, v, f, b))

pub entry_some : (e : Entry) → 0 < length (entry_bytes e)
unfolding entry_bytes
entry_some e = omega arith
