use Rattle.std.proofs.Common.{List, ◌∙◌, ap, map, subst, sym}
use Rattle.model.specs.Words.{has}
use Rattle.owner_fold.specs.Numbers.{ArePlaces}
use Rattle.owner_fold.specs.declared.doc_places.JobPlace.{JobPlace}
use Rattle.owner_fold.specs.declared.doc_places.StreamPlace.{StreamPlace}
use Rattle.owner_fold.specs.DocPlaces.{AreJobPlaces, first_jobs_among}
use Rattle.owner_fold.proofs.Standing.{add_known, add_new}
use Rattle.owner_fold.proofs.doc_places.DocPlaces.add.Goals as goal

pub add_jobs-requires : goal.add_jobs-requires
add_jobs-requires c =
    subst (λ (l : List JobPlace). ArePlaces (map (λ (p : JobPlace). p.number) l) c.args.jobs.now)
    (sym c.in_ok-add_stream.ensures.jobs) c.requires.jobs

pub returns-in_ok-add_jobs-clause-streams : goal.returns-in_ok-add_jobs-clause-streams
returns-in_ok-add_jobs-clause-streams c =
    subst (λ (l : List StreamPlace). ArePlaces (map (λ (p : StreamPlace). p.number) l) c.add_stream.new.numbers)
    (sym c.in_ok-add_jobs.ensures.streams) c.in_ok-add_stream.ensures.known

pub returns-in_ok-add_jobs-clause-doc_places : goal.returns-in_ok-add_jobs-clause-doc_places
returns-in_ok-add_jobs-clause-doc_places c =
    λ kept docs found placed.
    add_new kept docs c.args.self.now c.add_jobs.new.self c.args.doc_place c.args.doc.now placed
    (ap (λ n. has (map (λ (p : StreamPlace). p.number) c.args.self.now.streams) n) (sym c.requires.number)
    ∙ sym (c.has.ensures (map (λ (p : StreamPlace). p.number) c.args.self.now.streams) c.requires.streams)
    ∙ c.if-not-has.true)
    found c.requires.number (c.in_ok-add_jobs.ensures.streams ∙ c.in_ok-add_stream.ensures.grown)
    (λ known jobs_placed. c.in_ok-add_jobs.ensures.jobs kept known found
    (subst (λ (l : List JobPlace). AreJobPlaces kept l (first_jobs_among known)) (sym c.in_ok-add_stream.ensures.jobs)
    jobs_placed))

pub returns-else-not-has-clause-doc_places : goal.returns-else-not-has-clause-doc_places
returns-else-not-has-clause-doc_places c =
    λ kept docs found placed.
    add_known kept docs c.args.self.now c.args.doc.now placed
    (ap (λ n. has (map (λ (p : StreamPlace). p.number) c.args.self.now.streams) n) (sym c.requires.number)
    ∙ sym (c.has.ensures (map (λ (p : StreamPlace). p.number) c.args.self.now.streams) c.requires.streams)
    ∙ c.if-not-has.false)
