-- Streams, jobs and members as a decision sees them.
use Rattle.std.proofs.Common.{◌∙◌, ◌≡◌, ℕ, Bool, List, None, Option, Some, ap, cond, false, is_some, length, option_and_then}
use Rattle.std.proofs.Common.{refl, sym, take, true}
use Rattle.std.proofs.Math.Seq.{take-length}
use Rattle.std.specs.Bool.{then_some}
use Rattle.std.specs.List.{list_any}
use Rattle.std.specs.Prelude.{◌&&◌}
use Rattle.model.specs.Types.{Entry, Events, StreamDoc}
use Rattle.model.specs.History.{Seen, count_in, holding_of, list_of, view_of}
use Rattle.model.specs.Catalogue.{StreamJob, is_member, job, stream}
use Rattle.model.specs.Sound.{seen_view}
use Rattle.model_laws.proofs.Growth.{Grows, view_grows}
use Rattle.counted_facts.specs.Facts.{is_named}
use Rattle.counted_facts.specs.Subjects.{brings}
use Rattle.counted_decisions.proofs.Catalogues.{job_seen, member_seen, stream_brought, stream_seen}

pub seen_grows : (G : List Entry) (seen : Seen) → Grows (seen_view G seen) (view_of G)
seen_grows G seen = view_grows G (holding_of seen)

module _ (G : List Entry) (seen : Seen) where
  abbrev here : ℕ → Bool
  here s = list_any (brings s) (seen_view G seen (Events 0))

  -- a stream
  pub no_stream : (s : ℕ) → None ≡ stream (view_of G) s → None ≡ stream (seen_view G seen) s
  no_stream s e =
      sym (stream_seen (seen_view G seen) (view_of G) (seen_grows G seen) s
      ∙ ap (λ (o : Option StreamDoc). cond (here s) o None) (sym e) ∙ either (here s) None)
    where
      either : (b : Bool) (o : Option StreamDoc) → cond b o o ≡ o
      either true o = refl
      either false o = refl

  pub stream_there : (s : ℕ) (d : StreamDoc) (b : Bool) → Some d ≡ stream (view_of G) s → b ≡ here s → b ≡ true
      → Some d ≡ stream (seen_view G seen) s
  stream_there s d b e is yes_ =
      sym (stream_seen (seen_view G seen) (view_of G) (seen_grows G seen) s
      ∙ ap (λ (c : Bool). cond c (stream (view_of G) s) None) (sym is ∙ yes_) ∙ sym e)

  pub stream_not_yet : (s : ℕ) (b : Bool) → b ≡ here s → b ≡ false → None ≡ stream (seen_view G seen) s
  stream_not_yet s b is no_ =
      sym (stream_seen (seen_view G seen) (view_of G) (seen_grows G seen) s
      ∙ ap (λ (c : Bool). cond c (stream (view_of G) s) None) (sym is ∙ no_))

  pub brought_there : (s : ℕ) (d : StreamDoc) → stream (seen_view G seen) s ≡ Some d → here s ≡ true
  brought_there s d e =
      sym (stream_brought (seen_view G seen) (view_of G) (seen_grows G seen) s) ∙ ap is_some e

  -- a job
  pub no_job : (j : ℕ) → None ≡ job (view_of G) j → None ≡ job (seen_view G seen) j
  no_job j e =
      sym (job_seen (seen_view G seen) (view_of G) (seen_grows G seen) j
      ∙ ap (option_and_then (λ (p : StreamJob). then_some (here p.parent.no) p)) (sym e))

  pub job_there : (j : ℕ) (p : StreamJob) (b : Bool) → Some p ≡ job (view_of G) j → b ≡ here p.parent.no → b ≡ true
      → Some p ≡ job (seen_view G seen) j
  job_there j p b e is yes_ =
      sym (job_seen (seen_view G seen) (view_of G) (seen_grows G seen) j
      ∙ ap (option_and_then (λ (q : StreamJob). then_some (here q.parent.no) q)) (sym e)
      ∙ ap (λ (c : Bool). then_some c p) (sym is ∙ yes_))

  pub job_not_yet : (j : ℕ) (p : StreamJob) (b : Bool) → Some p ≡ job (view_of G) j → b ≡ here p.parent.no
      → b ≡ false → None ≡ job (seen_view G seen) j
  job_not_yet j p b e is no_ =
      sym (job_seen (seen_view G seen) (view_of G) (seen_grows G seen) j
      ∙ ap (option_and_then (λ (q : StreamJob). then_some (here q.parent.no) q)) (sym e)
      ∙ ap (λ (c : Bool). then_some c p) (sym is ∙ no_))

  -- a member
  pub member_there : (s : ℕ) (b n : Bool) → b ≡ here s → b ≡ true
      → n ≡ is_named s (seen_view G seen (Events 0)) → n ≡ is_member (seen_view G seen) s
  member_there s b n is yes_ e =
      e
      ∙ sym (member_seen (seen_view G seen) (view_of G) (seen_grows G seen) s
      ∙ ap (λ (c : Bool). c && is_named s (seen_view G seen (Events 0))) (sym is ∙ yes_))

  pub member_not_yet : (s : ℕ) (b : Bool) → b ≡ here s → b ≡ false → b ≡ is_member (seen_view G seen) s
  member_not_yet s b is no_ =
      no_
      ∙ sym (member_seen (seen_view G seen) (view_of G) (seen_grows G seen) s
      ∙ ap (λ (c : Bool). c && is_named s (seen_view G seen (Events 0))) (sym is ∙ no_))

-- all own events
pub own_seen : (G : List Entry) (seen : Seen) (w : ℕ) → count_in seen w ≡ length (list_of G (Events w))
    → seen_view G seen (Events w) ≡ view_of G (Events w)
own_seen G seen w e = ap (λ (n : ℕ). take n (list_of G (Events w))) e ∙ take-length (list_of G (Events w))
