-- An object that is known is a workstation's of the network, where entries name such ones alone.
use Rattle.std.proofs.Common.{◌++◌, List, [], ◌∷◌}
use Rattle.std.specs.List.{AllByRecursion}
use Rattle.std.specs.Prelude.{IfSome, eqb, flat_map, map}
use Rattle.lemmas.proofs.Lists.{all_right, all_such, flat_all}
use Rattle.lemmas.proofs.Options.{some_mapped}
use Rattle.model.specs.Types.{Added, Body, Events, Job, JobDoc, Net, NewPlan, Obj, Stream, StreamDoc}
use Rattle.model.specs.History.{View}
use Rattle.model.specs.Catalogue.{StreamJob, catalogue, docs_in, job, jobs, jobs_in, owner, stream}
use Rattle.model.specs.Workstations.{ws_in_body, ws_in_doc, ws_in_feed, ws_in_seen}
use Rattle.model_laws.proofs.Inside.{AreIn, IsIn, ViewIsIn, find_all, firsts_all}
use Rattle.model_laws.proofs.Lists.{all_flat}

module _ (net : Net) (V : View) (inside : ViewIsIn net V) where
  -- the document of a stream, and a job
  abbrev IsDocIn : StreamDoc → Type 0
  IsDocIn d = AreIn net (ws_in_doc d)

  abbrev IsJobIn : StreamJob → Type 0
  IsJobIn p = IsIn net p.doc.ws

  brought : (b : Body) → AreIn net (ws_in_body b) → AllByRecursion IsDocIn (docs_in b)
  brought (NewPlan run cut carried docs) h =
      all_flat (IsIn net) ws_in_doc docs (all_right (IsIn net) (ws_in_seen cut) (flat_map ws_in_doc docs) h)
  brought (Added a k doc) h = (h.1, tt)
  brought _ h = tt

  known_docs : AllByRecursion IsDocIn (catalogue V)
  unfolding catalogue
  known_docs =
      firsts_all IsDocIn (λ (d : StreamDoc). d.no) [] (flat_map docs_in (V (Events 0)))
      (flat_all IsDocIn docs_in (V (Events 0))
      (all_such (λ b. AreIn net (ws_in_feed (Events 0) ++ ws_in_body b)) (λ b. AllByRecursion IsDocIn (docs_in b))
      (V (Events 0)) (λ b h. brought b h.1) (inside.bodies (Events 0))))

  jobs_of : (d : StreamDoc) (js : List JobDoc) → AreIn net (map (λ (j : JobDoc). j.ws) js)
      → AllByRecursion IsJobIn (map (λ (j : JobDoc). record { parent = d; doc = j }) js)
  jobs_of d [] h = tt
  jobs_of d (j ∷ js) h = (h.0, jobs_of d js h.1)

  known_jobs : AllByRecursion IsJobIn (jobs V)
  unfolding jobs
  known_jobs =
      firsts_all IsJobIn (λ (p : StreamJob). p.doc.no) [] (flat_map jobs_in (catalogue V))
      (flat_all IsJobIn jobs_in (catalogue V)
      (all_such IsDocIn (λ (d : StreamDoc). AllByRecursion IsJobIn (jobs_in d)) (catalogue V)
      (λ d h. jobs_of d d.jobs h.1) known_docs))

  pub owner_in : (o : Obj) → IfSome (owner V o) (IsIn net)
  unfolding owner job stream
  owner_in (Job j) =
      some_mapped IsJobIn (IsIn net) (job V j) (λ (p : StreamJob). p.doc.ws)
      (find_all IsJobIn (λ (p : StreamJob). eqb p.doc.no j) (jobs V) known_jobs) (λ p h. h)
  owner_in (Stream s) =
      some_mapped IsDocIn (IsIn net) (stream V s) (λ (d : StreamDoc). d.ws)
      (find_all IsDocIn (λ (d : StreamDoc). eqb d.no s) (catalogue V) known_docs) (λ d h. h.0)
