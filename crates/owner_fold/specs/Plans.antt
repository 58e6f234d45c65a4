-- What `Owners` keeps of the plan beside the entries.
use Rattle.std.specs.Prelude.{◌&&◌, ◌≡◌, Bool, List, false, flat_map, map, true}
use Rattle.model.specs.Types.{Added, Body, Entry, Events, NewPlan}
use Rattle.model.specs.Equalities.{feed_eq}
use Rattle.model.specs.Words.{greatest}
use Rattle.model.specs.History.{list_of, view_of}
use Rattle.model.specs.Catalogue.{docs_in, jobs_in, members, named_members}
use Rattle.owner_fold.specs.Numbers.{IsIndexOf}
use Rattle.owner_fold.specs.DocPlaces.{AreDocPlacesOf, first_docs_among, first_jobs_among}
use Rattle.owner_fold.specs.Stations.{AreStationsOf}
use Rattle.owner_fold.specs.declared.doc_places.JobPlace.{JobPlace}
use Rattle.owner_fold.specs.declared.doc_places.StreamPlace.{StreamPlace}
use Rattle.owner_fold.specs.declared.plans.Plan.{Plan}

-- a plan, or a stream that is added to it
abbrev pub is_planning_body : Body → Bool
is_planning_body (NewPlan run cut carried docs) = true
is_planning_body (Added a k doc) = true
is_planning_body _ = false

-- and it is the master's
abbrev pub is_planning : Entry → Bool
is_planning e = feed_eq (Events 0) e.feed && is_planning_body e.body

-- the plan of these entries
pub record IsPlanOf (kept : List Entry) (plan : Plan) : Type 0 where
  pub doc_places : AreDocPlacesOf kept (flat_map docs_in (list_of kept (Events 0))) plan.doc_places
  pub stations : AreStationsOf (first_docs_among (flat_map docs_in (list_of kept (Events 0))))
      (first_jobs_among (flat_map jobs_in (first_docs_among (flat_map docs_in (list_of kept (Events 0)))))) plan.stations
  pub named : plan.named ≡ named_members (view_of kept)
  pub members : plan.members ≡ members (view_of kept)
  pub index : IsIndexOf (map (λ (p : StreamPlace). p.number) plan.doc_places.streams)
      (map (λ (p : JobPlace). p.number) plan.doc_places.jobs) plan.members plan.index
  pub last_stream : plan.last_stream ≡ greatest (map (λ (p : StreamPlace). p.number) plan.doc_places.streams)
  pub last_job : plan.last_job ≡ greatest (map (λ (p : JobPlace). p.number) plan.doc_places.jobs)
