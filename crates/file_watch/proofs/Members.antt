-- What own members and their jobs wait for is what those wait for that were given a file.
use Rattle.std.proofs.Common.{◌≡◌, ◌∙◌, ◌∷◌, ◌++◌, [], ℕ, Bool, List, ap, false, map, refl, sym, true}
use Rattle.std.specs.List.{AllByRecursion}
use Rattle.std.specs.Prelude.{◌==◌, filter, flat_map}
use Rattle.model.specs.Types.{Events, Job, Stream, StreamDoc}
use Rattle.model.specs.History.{View}
use Rattle.model.specs.Catalogue.{StreamJob, catalogue, is_member, jobs, jobs_of, streams_of}
use Rattle.model.specs.OwnMembers.{own_jobs, own_streams}
use Rattle.owner_fold.specs.Files.{filed_jobs, filed_streams}
use Rattle.owner_fold.specs.Given.{is_filed}
use Rattle.dependencies.specs.Planned.{IsPlannedJob, IsPlannedStream}
use Rattle.dependencies.proofs.Found.{jobs_planned, streams_planned}
use Rattle.dependencies.proofs.Timed.{job_given, stream_given}
use Rattle.file_watch.specs.Circle.{DepPlace}
use Rattle.file_watch.specs.Probes.{due_at}
use Rattle.file_watch.proofs.Waits.{no_file}

mapped : {X Y : Type 0} (f : Y → List DepPlace) (g : X → Y) (xs : List X)
    → flat_map f (map g xs) ≡ flat_map (λ (x : X). f (g x)) xs
mapped f g [] = refl
mapped f g (x ∷ xs) = ap (λ (l : List DepPlace). f (g x) ++ l) (mapped f g xs)

-- of those that pass two tests, one that fails the third has nothing
passed : {X : Type 0} (P : X → Type 0) (p q test : X → Bool) (f : X → List DepPlace) (xs : List X) → AllByRecursion P xs
    → ((x : X) → P x → p x ≡ true → test x ≡ false → f x ≡ [])
    → flat_map f (filter q (filter p xs)) ≡ flat_map f (filter test (filter q (filter p xs)))
passed P p q test f [] all none = refl
passed {X} P p q test f (x ∷ xs) all none =
    go (p x) (q x) (test x) refl refl refl (passed P p q test f xs all.1 none)
  where
    go : (a b c : Bool) → p x ≡ a → q x ≡ b → test x ≡ c
        → flat_map f (filter q (filter p xs)) ≡ flat_map f (filter test (filter q (filter p xs)))
        → flat_map f (filter q (filter p (x ∷ xs))) ≡ flat_map f (filter test (filter q (filter p (x ∷ xs))))
    go true true true e g h ih = rw (e, g, h) (ap (λ (l : List DepPlace). f x ++ l) ih)
    go true true false e g h ih = rw (e, g, h, none x all.0 e h) ih
    go true false c e g h ih = rw (e, g) ih
    go false b c e g h ih = rw e ih

pub all_streams : (V : View) (w : ℕ) (left : List StreamDoc) → left ≡ filed_streams V w
    → flat_map (due_at V w) (map (λ (d : StreamDoc). Stream d.no) (own_streams V w))
    ≡ flat_map (λ (d : StreamDoc). due_at V w (Stream d.no)) left
unfolding own_streams streams_of
all_streams V w left e =
    mapped (due_at V w) (λ (d : StreamDoc). Stream d.no) (own_streams V w)
    ∙ passed (IsPlannedStream V) (λ (d : StreamDoc). d.ws == w) (λ (d : StreamDoc). is_member V d.no)
    (λ (d : StreamDoc). is_filed (Stream d.no) d.deps (V (Events w))) (λ (d : StreamDoc). due_at V w (Stream d.no))
    (catalogue V) (streams_planned V)
    (λ d planned here none.
    let given = stream_given V w d planned here in no_file V w (Stream d.no) d.deps given.0 given.1 none)
    ∙ ap (flat_map (λ (d : StreamDoc). due_at V w (Stream d.no))) (sym e)

pub all_jobs : (V : View) (w : ℕ) (left : List StreamJob) → left ≡ filed_jobs V w
    → flat_map (due_at V w) (map (λ (p : StreamJob). Job p.doc.no) (own_jobs V w))
    ≡ flat_map (λ (p : StreamJob). due_at V w (Job p.doc.no)) left
unfolding own_jobs jobs_of
all_jobs V w left e =
    mapped (due_at V w) (λ (p : StreamJob). Job p.doc.no) (own_jobs V w)
    ∙ passed (IsPlannedJob V) (λ (p : StreamJob). p.doc.ws == w) (λ (p : StreamJob). is_member V p.parent.no)
    (λ (p : StreamJob). is_filed (Job p.doc.no) p.doc.deps (V (Events w))) (λ (p : StreamJob). due_at V w (Job p.doc.no))
    (jobs V) (jobs_planned V)
    (λ p planned here none.
    let given = job_given V w p planned here in no_file V w (Job p.doc.no) p.doc.deps given.0 given.1 none)
    ∙ ap (flat_map (λ (p : StreamJob). due_at V w (Job p.doc.no))) (sym e)
