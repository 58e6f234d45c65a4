use Rattle.std.proofs.Common.{◌<◌, ℕ, List, [], ◌∷◌, ◌++◌, length, length-append, Option, Some, None, ◌∙◌, subst, refl, arith}
use Rattle.std.proofs.lemmas.Result.{err_from_is_err_and}
use Rattle.conman_client.specs.Hearing.{Heard}
use Rattle.conman_client.proofs.Waiting.{first_waits, tells_more, waits_on, answered, cut_short_behind}
use Rattle.conman_client.proofs.listening.listen.Goals as goal

pub polls-init : goal.polls-init
polls-init g c = (
  [],
  refl,
  first_waits c.fresh-decoder.result c.args.ws (g.L.Link.calls c.args.link.now) (c.fresh-decoder.ensures c.args.ws),
  refl,
)

pub returns-in_err-text-clause-run : goal.returns-in_err-text-clause-run
returns-in_err-text-clause-run g c =
    let so_far = c.polls.invariant in
    let old = g.L.Link.calls c.args.link.now in
    let middle = g.L.Link.calls c.polls.link in
    let new = g.L.Link.calls c.next.new.link in
    let arrival = c.in_ok-arrival.arrival in
    let few : length so_far.0 < 600 = omega (arith, so_far.1) in
    let failed = err_from_is_err_and c.from_residual-in_err-text.result c.from_residual-in_err-text.ensures.1 in (
      so_far.0 ++ arrival ∷ [],
      tells_more so_far.0 arrival old middle new so_far.2.tells c.in_ok-arrival.ensures.told,
      rw (failed.1, failed.2) (cut_short_behind c.polls.decoder c.args.ws so_far.0 old middle so_far.2 arrival few),
    )

pub returns-in-Some-clause-run : goal.returns-in-Some-clause-run
returns-in-Some-clause-run g c =
    let so_far = c.polls.invariant in
    let old = g.L.Link.calls c.args.link.now in
    let middle = g.L.Link.calls c.polls.link in
    let new = g.L.Link.calls c.next.new.link in
    let arrival = c.in_ok-arrival.arrival in
    let few : length so_far.0 < 600 = omega (arith, so_far.1) in
    let heard : Heard c.hear.new.decoder c.args.ws (so_far.0 ++ arrival ∷ []) (Some c.in-Some.text) =
    subst (λ (r : Option (List ℕ)). Heard c.hear.new.decoder c.args.ws (so_far.0 ++ arrival ∷ []) r) c.in-Some.is
    (c.in_ok-text.ensures so_far.0 so_far.2.heard)
    in (
      so_far.0 ++ arrival ∷ [],
      tells_more so_far.0 arrival old middle new so_far.2.tells c.in_ok-arrival.ensures.told,
      answered c.polls.decoder c.args.ws so_far.0 old middle so_far.2 c.hear.new.decoder arrival c.in-Some.text few
          heard,
    )

pub polls-preserved : goal.polls-preserved
polls-preserved g c =
    let so_far = c.polls.invariant in
    let old = g.L.Link.calls c.args.link.now in
    let middle = g.L.Link.calls c.polls.link in
    let new = g.L.Link.calls c.next.new.link in
    let arrival = c.in_ok-arrival.arrival in
    let heard : Heard c.hear.new.decoder c.args.ws (so_far.0 ++ arrival ∷ []) None =
    subst (λ (r : Option (List ℕ)). Heard c.hear.new.decoder c.args.ws (so_far.0 ++ arrival ∷ []) r) c.in_default.is
    (c.in_ok-text.ensures so_far.0 so_far.2.heard)
    in (
      so_far.0 ++ arrival ∷ [],
      omega (arith, so_far.1, length-append so_far.0 (arrival ∷ [])),
      waits_on c.polls.decoder c.args.ws so_far.0 old middle so_far.2 c.hear.new.decoder arrival new
          c.in_ok-arrival.ensures.told heard,
      c.next.ensures.same ∙ so_far.3,
    )
