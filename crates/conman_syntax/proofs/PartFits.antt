-- What is read of a part of a line is as short as its form demands.
use Rattle.std.proofs.Common.{[], if◌then◌else◌, ℕ, ◌&&◌, ◌+◌, ◌-◌, ◌<◌, ◌==◌, ◌∙◌, ◌∷◌, ◌≡◌, ◌≤◌, Bool, Err, IfOk}
use Rattle.std.proofs.Common.{IfSome, List, None, Ok, Option, Result, Some, arith, codes, drop, false}
use Rattle.std.proofs.Common.{get_or, length, map, nat_le, nat_lt, option_and_then, option_map, refl, take, true}
use Rattle.std.proofs.lemmas.List.{length-drop, length-map, length-take}
use Rattle.std.specs.Char.{to_ascii_uppercase}
use Rattle.std.specs.List.{list_all}
use Rattle.std.specs.Str.{bytes_eq}
use Rattle.lemmas.proofs.Numbers.{le_true_turned}
use Rattle.lemmas.proofs.Options.{some_followed, some_mapped}
use Rattle.base_types.specs.Name.{is_name_byte, starts_with_letter}
use Rattle.base_types.specs.declared.documents.OnUntil.TheVariants.{Suppr}
use Rattle.syntax.specs.Names.{name_of}
use Rattle.syntax.specs.Numbers.{number_of}
use Rattle.syntax.specs.Quotes.{quoted_of, unquoted, within_limit}
use Rattle.conman_syntax.specs.Answers.{ended, first, need, next, within}
use Rattle.conman_syntax.specs.Arguments.{argument_behind, argument_from, argument_length}
use Rattle.conman_syntax.specs.Arguments.{left_behind}
use Rattle.conman_syntax.specs.Dependencies.{dep_by_key, dep_of, dependency_of, follows_from, needs_of, on_until_of}
use Rattle.conman_syntax.specs.Dependencies.{prompt_of, until_from, until_time_of}
use Rattle.conman_syntax.specs.Fit.{IsFitDep, IsFitJob, IsFitName, IsFitObj, IsFitPattern, IsFitStream}
use Rattle.conman_syntax.specs.Fit.{IsFitText}
use Rattle.conman_syntax.specs.References.{before, behind, bracketed_of, has, job_of, job_or_stream_of}
use Rattle.conman_syntax.specs.References.{limit_target_from, limit_target_of, named_by, object_from, object_of}
use Rattle.conman_syntax.specs.References.{reply_target_of, resource_of, stream_at, stream_of, what_of, work_for}
use Rattle.conman_syntax.specs.References.{work_from, work_of}
use Rattle.conman_syntax.specs.Values.{is_pattern_byte, pattern_of}
use Rattle.conman_syntax.specs.declared.arguments.Quoting.TheVariants.{Outside}
use Rattle.conman_syntax.specs.declared.faults.ArgumentFault.{ArgumentFault}
use Rattle.conman_syntax.specs.declared.heads.Command.TheVariants as command
use Rattle.conman_syntax.specs.declared.heads.What.{What}
use Rattle.conman_syntax.specs.declared.heads.What.TheVariants.{Cpu, DoCommand, Job, Sched}
use Rattle.conman_syntax.specs.declared.lines.DepRef.TheVariants.{At, Needs, PromptName}
use Rattle.conman_syntax.specs.declared.lines.DepRef.TheVariants.{PromptText, Until}
use Rattle.conman_syntax.specs.declared.lines.ObjRef.{ObjRef}
use Rattle.conman_syntax.specs.declared.lines.ObjRef.TheVariants as object
use Rattle.conman_syntax.specs.declared.references.LimitTarget.{LimitTarget}
use Rattle.conman_syntax.specs.declared.references.LimitTarget.TheVariants as limited
use Rattle.conman_syntax.specs.declared.references.ReplyTarget.{ReplyTarget}
use Rattle.conman_syntax.specs.declared.references.ReplyTarget.TheVariants as replied

pub anything : {A : Type 0} (o : Option A) → IfSome o (λ a. Unit {0})
anything None = tt
anything (Some a) = tt

pub found : {A : Type 0} (P : A → Type 0) (b : Bool) (x y : Option A) → IfSome x P → IfSome y P
    → IfSome (if b then x else y) P
found P true x y p q = p
found P false x y p q = q

pub answered : {A E : Type 0} (P : A → Type 0) (b : Bool) (x y : Result A E) → IfOk x P → IfOk y P
    → IfOk (if b then x else y) P
answered P true x y p q = p
answered P false x y p q = q

pub needed : {A B : Type 0} (P : A → Type 0) (Q : B → Type 0) (n : ℕ) (o : Option A) (f : A → Result B ArgumentFault)
    → IfSome o P → ((a : A) → P a → IfOk (f a) Q) → IfOk (need n o f) Q
needed P Q n None f p h = tt
needed P Q n (Some a) f p h = h a p

pub put_within : {A B : Type 0} (P : A → Type 0) (Q : B → Type 0) (f : A → B) (r : Result A ArgumentFault) → IfOk r P
    → ((a : A) → P a → Q (f a)) → IfOk (within f r) Q
put_within P Q f (Ok a) p h = h a p
put_within P Q f (Err e) p h = tt

pub at_end : {A : Type 0} (P : A → Type 0) (left : List ℕ) (a : A) → P a → IfOk (ended left a) P
at_end P left a p = answered P (length left == 0) (Ok a) (Err ArgumentFault.TooMany) p tt

pub from_first : {A B : Type 0} (P : A → Type 0) (Q : B → Type 0) (left : List ℕ) (form : List ℕ → Option A)
    (f : A → List ℕ → Result B ArgumentFault) → ((word : List ℕ) → IfSome (form word) P)
    → ((a : A) → P a → (rest : List ℕ) → IfOk (f a rest) Q) → IfOk (first left form f) Q
from_first P Q left form f p h =
    needed P Q 1 (form (argument_behind 32 left)) (λ a. f a (left_behind 32 left)) (p (argument_behind 32 left))
    (λ a q. h a q (left_behind 32 left))

pub from_next : {A B : Type 0} (P : A → Type 0) (Q : B → Type 0) (n : ℕ) (left : List ℕ) (form : List ℕ → Option A)
    (f : A → List ℕ → Result B ArgumentFault) → ((word : List ℕ) → IfSome (form word) P)
    → ((a : A) → P a → (rest : List ℕ) → IfOk (f a rest) Q) → IfOk (next n left form f) Q
from_next P Q n left form f p h =
    needed P Q n (form (argument_behind 59 left)) (λ a. f a (left_behind 59 left)) (p (argument_behind 59 left))
    (λ a q. h a q (left_behind 59 left))

-- names and quoted texts
few_bytes : (a b c : Bool) (n : ℕ) → (b ≡ true → n ≤ 40) → (x : List ℕ) → length x ≡ n
    → IfSome (if a && b && c then Some x else None) IsFitName
few_bytes true true true n h x e = omega (arith, h refl, e)
few_bytes true true false n h x e = tt
few_bytes true false c n h x e = tt
few_bytes false b c n h x e = tt

pub name_fits : (word : List ℕ) → IfSome (name_of word) IsFitName
unfolding name_of
name_fits word =
    few_bytes (starts_with_letter word) (nat_le (length word) 40) (list_all is_name_byte word) (length word)
    (le_true_turned 40 (length word)) (map to_ascii_uppercase word) (length-map word to_ascii_uppercase)

limited_fits : (value : List ℕ) → IfSome (within_limit value) IsFitText
limited_fits value = go (nat_le (length value) 4096) refl
  where
    go : (b : Bool) → nat_le (length value) 4096 ≡ b → IfSome (if b then Some value else None) IsFitText
    go true e = le_true_turned 4096 (length value) e
    go false e = tt

quoted_fits : (text : List ℕ) → IfSome (quoted_of text) IsFitText
unfolding quoted_of
quoted_fits [] = tt
quoted_fits (c ∷ cs) =
    found IsFitText (c == 34) (option_and_then within_limit (unquoted cs)) None
    (some_followed (λ v. Unit {0}) IsFitText (unquoted cs) within_limit (anything (unquoted cs)) (λ v u. limited_fits v)) tt

-- streams, jobs and resources
stream_at_fits : (ws : Option (List ℕ)) (text : List ℕ) → IfSome ws IsFitName → IfSome (stream_at ws text) IsFitStream
unfolding stream_at
stream_at_fits ws text w =
    found IsFitStream (has 91 text)
    (option_and_then (λ name. option_and_then (λ no. Some (record { ws = ws; name = name; no = Some no }))
    (bracketed_of (behind 91 text))) (name_of (before 91 text)))
    (option_and_then (λ name. Some (record { ws = ws; name = name; no = None })) (name_of text))
    (some_followed IsFitName IsFitStream (name_of (before 91 text))
    (λ name. option_and_then (λ no. Some (record { ws = ws; name = name; no = Some no })) (bracketed_of (behind 91 text)))
    (name_fits (before 91 text))
    (λ name n.
    some_followed (λ no. Unit {0}) IsFitStream (bracketed_of (behind 91 text))
    (λ no. Some (record { ws = ws; name = name; no = Some no })) (anything (bracketed_of (behind 91 text)))
    (λ no u. (w, n))))
    (some_followed IsFitName IsFitStream (name_of text) (λ name. Some (record { ws = ws; name = name; no = None }))
    (name_fits text) (λ name n. (w, n)))

stream_fits : (text : List ℕ) → IfSome (stream_of text) IsFitStream
unfolding stream_of
stream_fits text =
    found IsFitStream (has 35 text)
    (option_and_then (λ ws. stream_at (Some ws) (behind 35 text)) (name_of (before 35 text))) (stream_at None text)
    (some_followed IsFitName IsFitStream (name_of (before 35 text)) (λ ws. stream_at (Some ws) (behind 35 text))
    (name_fits (before 35 text)) (λ ws w. stream_at_fits (Some ws) (behind 35 text) w))
    (stream_at_fits None text tt)

pub job_fits : (text : List ℕ) → IfSome (job_of text) IsFitJob
unfolding job_of
job_fits text =
    some_followed IsFitStream IsFitJob (stream_of (before 46 text))
    (λ stream. option_and_then (λ name. Some (record { stream = stream; name = name })) (name_of (behind 46 text)))
    (stream_fits (before 46 text))
    (λ stream s.
    some_followed IsFitName IsFitJob (name_of (behind 46 text)) (λ name. Some (record { stream = stream; name = name }))
    (name_fits (behind 46 text)) (λ name n. (s, n)))

pub job_or_stream_fits : (text : List ℕ) → IfSome (job_or_stream_of text) IsFitObj
unfolding job_or_stream_of
job_or_stream_fits text =
    found IsFitObj (has 46 text) (option_map object.Job (job_of text)) (option_map object.Stream (stream_of text))
    (some_mapped IsFitJob IsFitObj (job_of text) object.Job (job_fits text) (λ r h. h))
    (some_mapped IsFitStream IsFitObj (stream_of text) object.Stream (stream_fits text) (λ r h. h))

abbrev pub AreFitNames : List ℕ × List ℕ → Type 0
AreFitNames names = IsFitName names.0 × IsFitName names.1

pub resource_fits : (text : List ℕ) → IfSome (resource_of text) AreFitNames
unfolding resource_of
resource_fits text =
    some_followed IsFitName AreFitNames (name_of (before 35 text))
    (λ ws. option_and_then (λ name. Some (ws, name)) (name_of (behind 35 text))) (name_fits (before 35 text))
    (λ ws w.
    some_followed IsFitName AreFitNames (name_of (behind 35 text)) (λ name. Some (ws, name)) (name_fits (behind 35 text))
    (λ name n. (w, n)))

object_from_fits : (kind : What) (text : List ℕ) → IfSome (object_from kind text) IsFitObj
object_from_fits Job text = some_mapped IsFitJob IsFitObj (job_of text) object.Job (job_fits text) (λ r h. h)
object_from_fits Sched text = some_mapped IsFitStream IsFitObj (stream_of text) object.Stream (stream_fits text) (λ r h. h)
object_from_fits Cpu text = tt
object_from_fits DoCommand text = tt

pub object_fits : (what : Option What) (argument : List ℕ) → IfSome (object_of what argument) IsFitObj
unfolding object_of
object_fits what argument =
    some_followed (λ kind. Unit {0}) IsFitObj (what_of what argument)
    (λ kind. object_from kind (named_by what argument)) (anything (what_of what argument))
    (λ kind u. object_from_fits kind (named_by what argument))

abbrev pub IsFitLimit : LimitTarget → Type 0
IsFitLimit (limited.Cpu ws) = IsFitName ws
IsFitLimit (limited.Stream r) = IsFitStream r

limit_from_fits : (kind : What) (text : List ℕ) → IfSome (limit_target_from kind text) IsFitLimit
limit_from_fits Cpu text = some_mapped IsFitName IsFitLimit (name_of text) limited.Cpu (name_fits text) (λ r h. h)
limit_from_fits Sched text =
    some_mapped IsFitStream IsFitLimit (stream_of text) limited.Stream (stream_fits text) (λ r h. h)
limit_from_fits Job text = tt
limit_from_fits DoCommand text = tt

pub limit_fits : (what : Option What) (argument : List ℕ) → IfSome (limit_target_of what argument) IsFitLimit
unfolding limit_target_of
limit_fits what argument =
    some_followed (λ kind. Unit {0}) IsFitLimit (what_of what argument)
    (λ kind. limit_target_from kind (named_by what argument)) (anything (what_of what argument))
    (λ kind u. limit_from_fits kind (named_by what argument))

abbrev pub IsFitReply : ReplyTarget → Type 0
IsFitReply (replied.Prompt name) = IsFitName name
IsFitReply (replied.Own o) = IsFitObj o

pub reply_target_fits : (argument : List ℕ) → IfSome (reply_target_of argument) IsFitReply
unfolding reply_target_of
reply_target_fits argument =
    found IsFitReply (has 32 argument) (option_map replied.Own (object_of None argument))
    (option_map replied.Prompt (name_of argument))
    (some_mapped IsFitObj IsFitReply (object_of None argument) replied.Own (object_fits None argument) (λ r h. h))
    (some_mapped IsFitName IsFitReply (name_of argument) replied.Prompt (name_fits argument) (λ r h. h))

abbrev pub IsFitWork : List ℕ × List ℕ → Type 0
IsFitWork work = IsFitName work.0 × IsFitText work.1

work_from_fits : (text : List ℕ) → IfSome (work_from text) IsFitWork
unfolding work_from
work_from_fits text =
    some_followed IsFitName IsFitWork (name_of (before 35 text))
    (λ ws. option_and_then (λ command. Some (ws, command)) (quoted_of (behind 35 text))) (name_fits (before 35 text))
    (λ ws w.
    some_followed IsFitText IsFitWork (quoted_of (behind 35 text)) (λ command. Some (ws, command))
    (quoted_fits (behind 35 text)) (λ command n. (w, n)))

work_for_fits : (kind : What) (text : List ℕ) → IfSome (work_for kind text) IsFitWork
work_for_fits DoCommand text = work_from_fits text
work_for_fits Job text = tt
work_for_fits Sched text = tt
work_for_fits Cpu text = tt

pub work_fits : (what : Option What) (argument : List ℕ) → IfSome (work_of what argument) IsFitWork
unfolding work_of
work_fits what argument =
    some_followed (λ kind. Unit {0}) IsFitWork (what_of what argument) (λ kind. work_for kind (named_by what argument))
    (anything (what_of what argument)) (λ kind u. work_for_fits kind (named_by what argument))

-- dependencies
follows_fits : (o : ObjRef) → IsFitObj o → IsFitDep (follows_from o)
follows_fits (object.Job r) h = h
follows_fits (object.Stream r) h = h

needs_fits : (value : List ℕ) → IfSome (needs_of value) IsFitDep
unfolding needs_of
needs_fits value =
    some_followed (λ units. Unit {0}) IsFitDep (number_of 16 (before 32 value))
    (λ units. option_and_then (λ (names : List ℕ × List ℕ). Some (Needs units names.0 names.1))
    (resource_of (behind 32 value)))
    (anything (number_of 16 (before 32 value)))
    (λ units u.
    some_followed AreFitNames IsFitDep (resource_of (behind 32 value))
    (λ (names : List ℕ × List ℕ). Some (Needs units names.0 names.1)) (resource_fits (behind 32 value))
    (λ names h. h))

prompt_fits : (value : List ℕ) → IfSome (prompt_of value) IsFitDep
unfolding prompt_of
prompt_fits value =
    found IsFitDep (get_or value 0 0 == 34) (option_map PromptText (quoted_of value))
    (option_map PromptName (name_of value))
    (some_mapped IsFitText IsFitDep (quoted_of value) PromptText (quoted_fits value) (λ t h. h))
    (some_mapped IsFitName IsFitDep (name_of value) PromptName (name_fits value) (λ t h. h))

dep_fits : (key value : List ℕ) → IfSome (dep_by_key key value) IsFitDep
unfolding dep_by_key
dep_fits key value =
    found IsFitDep (bytes_eq key (codes "follows")) (option_map follows_from (job_or_stream_of value)) _
    (some_mapped IsFitObj IsFitDep (job_or_stream_of value) follows_from (job_or_stream_fits value) follows_fits)
    (found IsFitDep (bytes_eq key (codes "needs")) (needs_of value) _ (needs_fits value)
    (found IsFitDep (bytes_eq key (codes "prompt")) (prompt_of value) _ (prompt_fits value)
    (found IsFitDep (bytes_eq key (codes "at")) (option_map At (number_of 64 value)) None
    (some_mapped (λ t. Unit {0}) IsFitDep (number_of 64 value) At (anything (number_of 64 value)) (λ t h. tt)) tt)))

until_fits : (left : List ℕ) → IfOk (until_from left) IsFitDep
unfolding until_from
until_fits left =
    from_next (λ t. Unit {0}) IsFitDep 2 left until_time_of _ (λ word. anything (until_time_of word))
    (λ time u rest.
    answered IsFitDep (length rest == 0) (Ok (Until time Suppr)) _ tt
    (from_next (λ passed. Unit {0}) IsFitDep 3 rest on_until_of _ (λ word. anything (on_until_of word))
    (λ passed u end. at_end IsFitDep end (Until time passed) tt)))

pub dependency_fits : (left : List ℕ) → IfOk (dependency_of left) IsFitDep
unfolding dependency_of
dependency_fits left =
    answered IsFitDep (bytes_eq (before 61 (argument_behind 59 left)) (codes "until")) (until_from left) _
    (until_fits left)
    (from_next IsFitDep IsFitDep 2 left dep_of _ (λ word. dep_fits (before 61 word) (behind 61 word))
    (λ dep h rest. at_end IsFitDep rest dep h))

-- how much is left of a line
pub argument_bound : (mark : ℕ) (left : List ℕ) → length (argument_behind mark left) ≤ length left
unfolding argument_behind argument_from
argument_bound mark left = go (get_or left 0 0 == mark)
  where
    k : ℕ
    k = argument_length Outside (drop 1 left)

    go : (b : Bool) → length (if b then take k (drop 1 left) else []) ≤ length left
    go true = omega (arith, length-take k (drop 1 left), length-drop 1 left)
    go false = omega arith

pub pattern_fits : (most : ℕ) (word : List ℕ) → length word ≤ most → IfSome (pattern_of word) (IsFitPattern most)
unfolding pattern_of
pattern_fits most word h = go (nat_lt 0 (length word) && list_all is_pattern_byte word)
  where
    go : (b : Bool) → IfSome (if b then Some (map to_ascii_uppercase word) else None) (IsFitPattern most)
    go true = omega (arith, h, length-map word to_ascii_uppercase)
    go false = tt

-- the rows of the table
