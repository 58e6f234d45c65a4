-- Whether an object is among those of own members, by its number.
use Rattle.std.proofs.Common.{◌≡◌, ◌∙◌, ◌∷◌, ◌||◌, [], ℕ, Bool, List, ap, cond, false, find, flat_map, map, refl, sym}
use Rattle.std.proofs.Common.{true}
use Rattle.std.proofs.lemmas.Bool.{eqb-true}
use Rattle.std.specs.Option.{option_map_or}
use Rattle.std.specs.Prelude.{◌&&◌, ◌++◌, ◌==◌, filter}
use Rattle.lemmas.proofs.Booleans.{and_false, and_true, or_false, or_regroup}
use Rattle.model.specs.Types.{Events, Job, Obj, Stream, StreamDoc}
use Rattle.model.specs.Words.{firsts, has}
use Rattle.model.specs.Equalities.{obj_among, obj_eq}
use Rattle.model.specs.History.{View}
use Rattle.model.specs.Catalogue.{StreamJob, catalogue, docs_in, is_member, job, jobs, jobs_in, jobs_of, stream, streams_of}
use Rattle.model.specs.OwnMembers.{own_jobs, own_objects, own_streams}
use Rattle.agent_core.specs.Owning.{is_own_job, is_own_stream}

-- one of them has this number and these properties
abbrev any_such : {X : Type 0} → (X → ℕ) → (X → Bool) → (X → Bool) → ℕ → List X → Bool
any_such number a b j [] = false
any_such number a b j (x ∷ xs) = ((number x == j) && (a x && b x)) || any_such number a b j xs

differ : false ≡ true → ⊥
differ q = cc

-- a number that was known does not come again
none_known : {X : Type 0} (number : X → ℕ) (a b : X → Bool) (j : ℕ) (known : List ℕ) (xs : List X)
    → has known j ≡ true → any_such number a b j (firsts number known xs) ≡ false
none_known number a b j known [] h = refl
none_known {X} number a b j known (x ∷ xs) h =
    go (none_known number a b j known xs h) (λ k. none_known number a b j (number x ∷ known) xs k)
    (has known (number x)) refl (number x == j) refl
  where
    go : any_such number a b j (firsts number known xs) ≡ false
        → (has (number x ∷ known) j ≡ true → any_such number a b j (firsts number (number x ∷ known) xs) ≡ false)
        → (k : Bool) → has known (number x) ≡ k → (e : Bool) → (number x == j) ≡ e
        → any_such number a b j (cond k (firsts number known xs) (x ∷ firsts number (number x ∷ known) xs)) ≡ false
    go same next true i e m = same
    go same next false i true m = absurd (differ (sym i ∙ ap (has known) (eqb-true (number x) j m) ∙ h))
    go same next false i false m = rw m (next (rw m h))

-- of those that count, the one of the number decides
found_such : {X : Type 0} (number : X → ℕ) (a b : X → Bool) (j : ℕ) (known : List ℕ) (xs : List X)
    → any_such number a b j (firsts number known xs)
    ≡ option_map_or (λ (x : X). a x && b x) (find (λ (x : X). number x == j) (firsts number known xs)) false
found_such number a b j known [] = refl
found_such {X} number a b j known (x ∷ xs) =
    go (found_such number a b j known xs) (found_such number a b j (number x ∷ known) xs) (has known (number x))
    (number x == j) refl
  where
    right : List X → Bool
    right ys = option_map_or (λ (y : X). a y && b y) (find (λ (y : X). number y == j) ys) false

    go : any_such number a b j (firsts number known xs) ≡ right (firsts number known xs)
        → any_such number a b j (firsts number (number x ∷ known) xs) ≡ right (firsts number (number x ∷ known) xs)
        → (k : Bool) (e : Bool) → (number x == j) ≡ e
        → any_such number a b j (cond k (firsts number known xs) (x ∷ firsts number (number x ∷ known) xs))
        ≡ right (cond k (firsts number known xs) (x ∷ firsts number (number x ∷ known) xs))
    go same next true e m = same
    go same next false true m =
        rw m
        (ap (λ (c : Bool). (a x && b x) || c)
        (none_known number a b j (number x ∷ known) xs (rw m refl))
        ∙ or_false (a x && b x))
    go same next false false m = rw m next

among_append : (xs ys : List Obj) (o : Obj) → obj_among (xs ++ ys) o ≡ (obj_among xs o || obj_among ys o)
among_append [] ys o = refl
among_append (x ∷ xs) ys o =
    ap (λ (b : Bool). obj_eq x o || b) (among_append xs ys o)
    ∙ or_regroup (obj_eq x o) (obj_among xs o) (obj_among ys o)

-- no stream is a job
streams_are_no_jobs : (ds : List StreamDoc) (j : ℕ) → obj_among (map (λ (d : StreamDoc). Stream d.no) ds) (Job j) ≡ false
streams_are_no_jobs [] j = refl
streams_are_no_jobs (d ∷ ds) j = streams_are_no_jobs ds j

jobs_are_no_streams : (ps : List StreamJob) (s : ℕ)
    → obj_among (map (λ (p : StreamJob). Job p.doc.no) ps) (Stream s) ≡ false
jobs_are_no_streams [] s = refl
jobs_are_no_streams (p ∷ ps) s = jobs_are_no_streams ps s

-- the chosen ones, by their numbers
chosen : {X : Type 0} (number : X → ℕ) (obj : ℕ → Obj) (a b : X → Bool) (j : ℕ)
    → ((n : ℕ) → obj_eq (obj n) (obj j) ≡ (n == j)) → (xs : List X)
    → obj_among (map (λ (x : X). obj (number x)) (filter b (filter a xs))) (obj j) ≡ any_such number a b j xs
chosen number obj a b j same [] = refl
chosen {X} number obj a b j same (x ∷ xs) = go (chosen number obj a b j same xs) (a x)
  where
    rest : Bool
    rest = any_such number a b j xs

    left : List X → Bool
    left ys = obj_among (map (λ (y : X). obj (number y)) ys) (obj j)

    within : left (filter b (filter a xs)) ≡ rest → (z : Bool)
        → left (cond z (x ∷ filter b (filter a xs)) (filter b (filter a xs))) ≡ (((number x == j) && z) || rest)
    within known true =
        ap (λ (c : Bool). obj_eq (obj (number x)) (obj j) || c) known
        ∙ ap (λ (c : Bool). c || rest) (same (number x) ∙ sym (and_true (number x == j)))
    within known false =
        known ∙ sym (ap (λ (c : Bool). c || rest) (and_false (number x == j)))

    go : left (filter b (filter a xs)) ≡ rest → (z : Bool)
        → left (filter b (cond z (x ∷ filter a xs) (filter a xs))) ≡ (((number x == j) && (z && b x)) || rest)
    go known true = within known (b x)
    go known false =
        known ∙ sym (ap (λ (c : Bool). c || rest) (and_false (number x == j)))

abbrev job_at_ws : ℕ → StreamJob → Bool
job_at_ws w p = p.doc.ws == w

abbrev in_plan : View → StreamJob → Bool
in_plan V p = is_member V p.parent.no

abbrev stream_at_ws : ℕ → StreamDoc → Bool
stream_at_ws w d = d.ws == w

abbrev planned : View → StreamDoc → Bool
planned V d = is_member V d.no

pub own_job : (V : View) (w j : ℕ) → obj_among (own_objects V w) (Job j) ≡ is_own_job V w j
unfolding own_objects own_jobs jobs_of job jobs
own_job V w j =
    among_append (map (λ (d : StreamDoc). Stream d.no) (own_streams V w))
    (map (λ (p : StreamJob). Job p.doc.no) (own_jobs V w)) (Job j)
    ∙ ap (λ (b : Bool). b || obj_among (map (λ (p : StreamJob). Job p.doc.no) (own_jobs V w)) (Job j))
    (streams_are_no_jobs (own_streams V w) j)
    ∙ chosen (λ (p : StreamJob). p.doc.no) Job (job_at_ws w) (in_plan V) j (λ n. refl) (jobs V)
    ∙ found_such (λ (p : StreamJob). p.doc.no) (job_at_ws w) (in_plan V) j [] (flat_map jobs_in (catalogue V))

pub own_stream : (V : View) (w s : ℕ) → obj_among (own_objects V w) (Stream s) ≡ is_own_stream V w s
unfolding own_objects own_streams streams_of stream catalogue
own_stream V w s =
    among_append (map (λ (d : StreamDoc). Stream d.no) (own_streams V w))
    (map (λ (p : StreamJob). Job p.doc.no) (own_jobs V w)) (Stream s)
    ∙ ap (λ (b : Bool). obj_among (map (λ (d : StreamDoc). Stream d.no) (own_streams V w)) (Stream s) || b)
    (jobs_are_no_streams (own_jobs V w) s)
    ∙ or_false (obj_among (map (λ (d : StreamDoc). Stream d.no) (own_streams V w)) (Stream s))
    ∙ chosen (λ (d : StreamDoc). d.no) Stream (stream_at_ws w) (planned V) s (λ n. refl) (catalogue V)
    ∙ found_such (λ (d : StreamDoc). d.no) (stream_at_ws w) (planned V) s [] (flat_map docs_in (V (Events 0)))
