-- Drafts that are listable have lines.
use Rattle.std.proofs.Common.{◌≡◌, ℕ, List, [], ◌∷◌, Some, None, sym, subst}
use Rattle.std.specs.List.{AllByRecursion}
use Rattle.lemmas.proofs.Lists.{all_middle}
use Rattle.history_laws.specs.Printables.{IsKeptName, IsNamedPrompt, IsNamedResource, IsPrintable}
use Rattle.history_laws.proofs.Accepted.{Accepted}
use Rattle.history_laws.proofs.Named.{kept_at}
use Rattle.model.specs.Types.{DraftDep, JobDraft, Net, StreamDraft}
use Rattle.model.specs.Types.{FollowsJob, FollowsStream, Needs, Prompt, At, Until, Outside, Deadline, Global, Own, Follows, Plain}
use Rattle.model.specs.Words.{nth}
use Rattle.plan_listing.specs.Dependencies.{prompt_name, resource_name}
use Rattle.listing_laws.specs.Listables.{AreListable, IsListableDep, IsListableJob, IsResourceOn}
use Rattle.listing_laws.proofs.DepLines.{IsDepLine}
use Rattle.listing_laws.proofs.ObjectLines.{IsCondLine, IsJobText, IsStreamText}
use Rattle.listing_laws.proofs.KnownNames.{numbered_cut, prompt_named, resource_named}
use Rattle.listing_laws.proofs.Passing.{IsGoodStream}

module _ (net : Net) (p : IsPrintable net) where
  resource_kept : (ws r : ℕ) → IsResourceOn net ws r → IsKeptName (resource_name net r)
  resource_kept ws r g =
      let c = numbered_cut net.resources r g.resource g.there in
      subst IsKeptName (sym (resource_named net r g.resource g.there))
      (all_middle IsNamedResource c.0 c.1 g.resource (subst (AllByRecursion IsNamedResource) c.2 p.resources))

  prompt_kept : (k : ℕ) (x : _) → nth net.prompts k ≡ Some x → IsKeptName (prompt_name net k)
  prompt_kept k x there =
      let c = numbered_cut net.prompts k x there in
      subst IsKeptName (sym (prompt_named net k x there))
      (all_middle IsNamedPrompt c.0 c.1 x (subst (AllByRecursion IsNamedPrompt) c.2 p.prompts)).name

  dep_line : (ws : ℕ) (d : DraftDep) → IsListableDep net ws d → IsDepLine net d
  dep_line ws (Follows w s None) g = (kept_at net p.nodes w g.0, g.1)
  dep_line ws (Follows w s (Some j)) g = (kept_at net p.nodes w g.0, g.1, g.2)
  dep_line ws (Plain (FollowsJob j)) g = absurd g
  dep_line ws (Plain (FollowsStream s)) g = absurd g
  dep_line ws (Plain (Needs r n)) g = (resource_kept ws r g.0, g.1)
  dep_line ws (Plain (Prompt (Global k))) g = prompt_kept k g.0 g.1
  dep_line ws (Plain (Prompt (Own t))) g = g
  dep_line ws (Plain (At t)) g = g
  dep_line ws (Plain (Until t then_)) g = g
  dep_line ws (Plain (Outside path)) g = g
  dep_line ws (Plain (Deadline t)) g = g

  dep_lines : (ws : ℕ) (deps : List DraftDep) → AllByRecursion (IsListableDep net ws) deps → AllByRecursion (IsDepLine net) deps
  dep_lines ws [] all = tt
  dep_lines ws (d ∷ deps) all = (dep_line ws d all.0, dep_lines ws deps all.1)

  job_texts : (jobs : List JobDraft) → AllByRecursion (IsListableJob net) jobs
      → AllByRecursion (λ (j : JobDraft). IsCondLine j.cond) jobs → AllByRecursion (IsJobText net) jobs
  job_texts [] all read = tt
  job_texts (j ∷ jobs) all read = (
    record {
      title = record { ws = kept_at net p.nodes j.ws all.0.ws; name = all.0.name; priority = all.0.priority };
      work = all.0.work;
      logon = all.0.logon;
      cond = read.0;
      deps = dep_lines j.ws j.deps all.0.deps.each;
    },
    job_texts jobs all.1 read.1,
  )

  stream_texts : (drafts : List StreamDraft) → AllByRecursion (IsGoodStream net) drafts → AllByRecursion (IsStreamText net) drafts
  stream_texts [] all = tt
  stream_texts (s ∷ drafts) all =
      let g = all.0.listable in (
        record {
          head = record { ws = kept_at net p.nodes s.ws g.ws; name = g.name; priority = g.priority; limit = g.limit };
          deps = dep_lines s.ws s.deps g.deps.each;
          jobs = job_texts s.jobs g.jobs all.0.read;
        },
        stream_texts drafts all.1,
      )

pub are_texts : (net : Net) → IsPrintable net → Accepted net → (drafts : List StreamDraft) → AreListable net drafts
    → AllByRecursion (IsGoodStream net) drafts → AllByRecursion (IsStreamText net) drafts
are_texts net p a drafts l good = stream_texts net p drafts good
