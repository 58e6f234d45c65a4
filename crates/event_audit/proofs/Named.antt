-- Streams by their names: the two ways in which the definitions compare them, and what a draft's names stand for.
use Rattle.std.proofs.Common.{[], ℕ, ◌&&◌, ◌+◌, ◌∙◌, ◌∷◌, ◌≡◌, Bool, List, None, Option, Some, ap, cond, false, find}
use Rattle.std.proofs.Common.{map, option_map, refl, reverse, sym, true}
use Rattle.std.proofs.Math.Path.{fun_ext}
use Rattle.std.specs.List.{enumerate_from}
use Rattle.std.specs.Option.{option_map_or, option_or}
use Rattle.std.specs.Prelude.{◌==◌, filter_map, option_and_then}
use Rattle.lemmas.proofs.Numbers.{eq_turned}
use Rattle.lemmas.proofs.Lists.{map_turned}
use Rattle.model_laws.proofs.Documents.{text_turned}
use Rattle.model.specs.Types.{JobDoc, JobDraft, StreamDoc, StreamDraft}
use Rattle.model.specs.Equalities.{text_eq}
use Rattle.model.specs.History.{View}
use Rattle.model.specs.Catalogue.{members, stream}
use Rattle.model.specs.NewPlan.{Named, NamedJob, is_named, last_job, named_doc, resolve_job, resolve_stream}
use Rattle.model.specs.Sound.{have_one_name, is_meant}
use Rattle.event_audit.specs.Drafts.{members_named, own_named, own_one}
use Rattle.event_audit.specs.Meanings.{is_called}

-- d's name is e's
one_name : (d : StreamDoc) → have_one_name d ≡ is_called d.ws d.name
one_name d = fun_ext (λ e. rw (eq_turned d.ws e.ws, text_turned d.name e.name) refl)

-- a stream is meant where the first fresh one of its name, or else the last carried one, has its number
pub meant_by : (fresh carried : List StreamDoc) (d : StreamDoc)
    → is_meant fresh carried d
    ≡ option_map_or (λ (e : StreamDoc). e.no == d.no)
    (option_or (find (is_called d.ws d.name) fresh) (find (is_called d.ws d.name) (reverse carried))) false
meant_by fresh carried d =
    ap (λ (test : StreamDoc → Bool). option_map_or (λ (e : StreamDoc). e.no == d.no)
    (option_or (find test fresh) (find test (reverse carried))) false) (one_name d)

-- the first that passes a test among what is made of items
find_made : {X Y : Type 0} (f : X → Y) (test : Y → Bool) (xs : List X)
    → find test (map f xs) ≡ option_map f (find (λ x. test (f x)) xs)
find_made f test [] = refl
find_made f test (x ∷ xs) = go (test (f x)) (find_made f test xs)
  where
    go : (b : Bool) → find test (map f xs) ≡ option_map f (find (λ z. test (f z)) xs)
        → cond b (Some (f x)) (find test (map f xs)) ≡ option_map f (cond b (Some x) (find (λ z. test (f z)) xs))
    go true h = refl
    go false h = h

-- the last member of a name, as names see it
pub last_member : (V : View) (w : ℕ) (name : List ℕ)
    → find (is_named w name) (reverse (members_named V))
    ≡ option_map named_doc (find (is_called w name) (reverse (filter_map (stream V) (members V))))
last_member V w name =
    ap (find (is_named w name)) (map_turned named_doc (filter_map (stream V) (members V)))
    ∙ find_made named_doc (is_named w name) (reverse (filter_map (stream V) (members V)))

-- the draft's own name stands for itself, and any other for the last member that has it
pub itself : (V : View) (draft : StreamDraft) (w : ℕ) (name : List ℕ)
    → ((draft.ws == w) && text_eq draft.name name) ≡ true
    → resolve_stream (own_named V draft) (members_named V) w name ≡ Some (own_one V draft)
itself V draft w name h = rw h refl

pub another : (V : View) (draft : StreamDraft) (w : ℕ) (name : List ℕ)
    → ((draft.ws == w) && text_eq draft.name name) ≡ false
    → resolve_stream (own_named V draft) (members_named V) w name
    ≡ option_map named_doc (find (is_called w name) (reverse (filter_map (stream V) (members V))))
another V draft w name h = rw h (last_member V w name)

-- what two functions make of an item
made_twice : {X Y Z : Type 0} (f : X → Y) (g : Y → Z) (o : Option X)
    → option_map g (option_map f o) ≡ option_map (λ x. g (f x)) o
made_twice f g None = refl
made_twice f g (Some x) = refl

-- the number of the stream that a name stands for
pub stream_none : (V : View) (draft : StreamDraft) (w : ℕ) (name : List ℕ)
    → ((draft.ws == w) && text_eq draft.name name) ≡ false
    → None ≡ find (is_called w name) (reverse (filter_map (stream V) (members V)))
    → None ≡ option_map (λ (s : Named). s.number) (resolve_stream (own_named V draft) (members_named V) w name)
stream_none V draft w name not_ e =
    sym (ap (option_map (λ (s : Named). s.number))
    (another V draft w name not_ ∙ ap (option_map named_doc) (sym e)))

pub stream_some : (V : View) (draft : StreamDraft) (w : ℕ) (name : List ℕ) (d : StreamDoc) (n : ℕ)
    → ((draft.ws == w) && text_eq draft.name name) ≡ false
    → Some d ≡ find (is_called w name) (reverse (filter_map (stream V) (members V))) → n ≡ d.no
    → Some n ≡ option_map (λ (s : Named). s.number) (resolve_stream (own_named V draft) (members_named V) w name)
stream_some V draft w name d n not_ e same =
    ap Some same
    ∙ sym (ap (option_map (λ (s : Named). s.number))
    (another V draft w name not_ ∙ ap (option_map named_doc) (sym e)))

-- the number of the job
drafted : (job_ : List ℕ) (ps : List (ℕ × JobDraft))
    → option_map (λ (p : ℕ × JobDraft). p.0) (find (λ (p : ℕ × JobDraft). text_eq p.1.name job_) ps)
    ≡ option_map (λ (j : NamedJob). j.number)
    (find (λ (j : NamedJob). text_eq j.name job_)
    (map (λ (p : ℕ × JobDraft). record { name = p.1.name; number = p.0 }) ps))
drafted job_ ps =
    sym (ap (option_map (λ (j : NamedJob). j.number))
    (find_made (λ (p : ℕ × JobDraft). record { name = p.1.name; number = p.0 })
    (λ (j : NamedJob). text_eq j.name job_) ps)
    ∙ made_twice (λ (p : ℕ × JobDraft). record { name = p.1.name; number = p.0 }) (λ (j : NamedJob). j.number)
    (find (λ (p : ℕ × JobDraft). text_eq p.1.name job_) ps))

documented : (job_ : List ℕ) (js : List JobDoc)
    → option_map (λ (j : JobDoc). j.no) (find (λ (j : JobDoc). text_eq j.name job_) js)
    ≡ option_map (λ (j : NamedJob). j.number)
    (find (λ (j : NamedJob). text_eq j.name job_) (map (λ (j : JobDoc). record { name = j.name; number = j.no }) js))
documented job_ js =
    sym (ap (option_map (λ (j : NamedJob). j.number))
    (find_made (λ (j : JobDoc). record { name = j.name; number = j.no }) (λ (j : NamedJob). text_eq j.name job_) js)
    ∙ made_twice (λ (j : JobDoc). record { name = j.name; number = j.no }) (λ (j : NamedJob). j.number)
    (find (λ (j : JobDoc). text_eq j.name job_) js))

pub job_itself : (V : View) (draft : StreamDraft) (w : ℕ) (name job_ : List ℕ) (r : Option ℕ) (n : ℕ)
    (jobs_ : List JobDraft) → ((draft.ws == w) && text_eq draft.name name) ≡ true → n ≡ 1 + last_job V
    → jobs_ ≡ draft.jobs
    → r ≡ option_map (λ (p : ℕ × JobDraft). p.0)
    (find (λ (p : ℕ × JobDraft). text_eq p.1.name job_) (enumerate_from n jobs_))
    → r ≡ option_and_then (resolve_job job_) (resolve_stream (own_named V draft) (members_named V) w name)
job_itself V draft w name job_ r n jobs_ yes_ first same e =
    rw (first, same) at e ∙ drafted job_ (enumerate_from (1 + last_job V) draft.jobs)
    ∙ sym (ap (option_and_then (resolve_job job_)) (itself V draft w name yes_))

pub job_none : (V : View) (draft : StreamDraft) (w : ℕ) (name job_ : List ℕ)
    → ((draft.ws == w) && text_eq draft.name name) ≡ false
    → None ≡ find (is_called w name) (reverse (filter_map (stream V) (members V)))
    → None ≡ option_and_then (resolve_job job_) (resolve_stream (own_named V draft) (members_named V) w name)
job_none V draft w name job_ not_ e =
    sym (ap (option_and_then (resolve_job job_))
    (another V draft w name not_ ∙ ap (option_map named_doc) (sym e)))

pub job_known : (V : View) (draft : StreamDraft) (w : ℕ) (name job_ : List ℕ) (d : StreamDoc) (r : Option ℕ)
    (jobs_ : List JobDoc) → ((draft.ws == w) && text_eq draft.name name) ≡ false
    → Some d ≡ find (is_called w name) (reverse (filter_map (stream V) (members V))) → jobs_ ≡ d.jobs
    → r ≡ option_map (λ (j : JobDoc). j.no) (find (λ (j : JobDoc). text_eq j.name job_) jobs_)
    → r ≡ option_and_then (resolve_job job_) (resolve_stream (own_named V draft) (members_named V) w name)
job_known V draft w name job_ d r jobs_ not_ e same is =
    rw same at is ∙ documented job_ d.jobs
    ∙ sym (ap (option_and_then (resolve_job job_))
    (another V draft w name not_ ∙ ap (option_map named_doc) (sym e)))
