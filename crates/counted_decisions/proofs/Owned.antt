-- What a workstation tells of its own objects, where a view has all its events and the first of the master's.
use Rattle.std.proofs.Common.{[], ℕ, ◌∙◌, ◌≡◌, None, Option, Some, refl, sym}
use Rattle.std.specs.Option.{option_map_or}
use Rattle.std.specs.Prelude.{option_map}
use Rattle.model.specs.Types.{Events, Job, Obj, Stream, StreamDoc}
use Rattle.model.specs.History.{View}
use Rattle.model.specs.Catalogue.{StreamJob, job, owner, stream}
use Rattle.model.specs.Dependencies.{deps, document_deps, is_waived, owner_events, units, unwaived_deps}
use Rattle.model_laws.proofs.Growth.{Grows, job_grows, owned_grows, stream_grows}
use Rattle.model_laws.proofs.Locality.{own_events_are}

module _ (U V : View) (grows : Grows U V) (w : ℕ) (own : U (Events w) ≡ V (Events w)) where
  written : (o : Obj) → owner U o ≡ Some w → document_deps U o ≡ document_deps V o
  unfolding owner document_deps
  written (Job j) e = go (job U j) refl e
    where
      go : (o : Option StreamJob) → job U j ≡ o → option_map (λ (p : StreamJob). p.doc.ws) o ≡ Some w
          → option_map_or (λ (p : StreamJob). p.doc.deps) (job U j) []
          ≡ option_map_or (λ (p : StreamJob). p.doc.deps) (job V j) []
      go None f h = cc
      go (Some p) f h = rw (f, job_grows U V j p grows f) refl
  written (Stream s) e = go (stream U s) refl e
    where
      go : (o : Option StreamDoc) → stream U s ≡ o → option_map (λ (d : StreamDoc). d.ws) o ≡ Some w
          → option_map_or (λ (d : StreamDoc). d.deps) (stream U s) []
          ≡ option_map_or (λ (d : StreamDoc). d.deps) (stream V s) []
      go None f h = cc
      go (Some d) f h = rw (f, stream_grows U V s d grows f) refl

  events : (o : Obj) → owner U o ≡ Some w → owner_events U o ≡ owner_events V o
  events o e = own_events_are U o w e ∙ own ∙ sym (own_events_are V o w (owned_grows U V o w grows e))

  pub deps_seen : (o : Obj) → owner U o ≡ Some w → deps U o ≡ deps V o
  unfolding deps
  deps_seen o e = rw (events o e, written o e) refl

  pub unwaived_seen : (o : Obj) → owner U o ≡ Some w → unwaived_deps U o ≡ unwaived_deps V o
  unfolding unwaived_deps is_waived deps
  unwaived_seen o e = rw (events o e, written o e) refl

  pub units_seen : (r : ℕ) (o : Obj) → owner U o ≡ Some w → units U r o ≡ units V r o
  unfolding units
  units_seen r o e = rw (unwaived_seen o e) refl
