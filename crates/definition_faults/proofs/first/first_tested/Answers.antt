use Rattle.std.proofs.Common.{◌≡◌, ◌∙◌, ap, sym}
use Rattle.composer_parser.specs.declared.Defs.{Defs}
use Rattle.definition_faults.specs.Faults.{tested_faults}
use Rattle.definition_faults.specs.Items.{cpu_faults, domain_faults, calendar_faults, prompt_faults, resource_faults, job_faults}
use Rattle.definition_faults.specs.Masters.{manager_faults, master_faults}
use Rattle.definition_faults.specs.Orders.{earlier_of, earliest}
use Rattle.definition_faults.specs.Ranges.{zone_faults}
use Rattle.definition_faults.specs.Streams.{all_stream_faults}
use Rattle.definition_faults.proofs.Tens.{ten}
use Rattle.definition_faults.proofs.first.first_tested.Goals as goal

pub returns : goal.returns
unfolding tested_faults
returns c =
    let d = c.args.names.now in
    let zone : c.in_zone.result ≡ earliest (zone_faults d) =
    c.in_zone.ensures ∙ ap (λ (x : Defs). earliest (zone_faults x)) c.defs.ensures in
    let masters : c.in_masters.result ≡ earliest (master_faults d) =
    c.in_masters.ensures ∙ ap (λ (x : Defs). earliest (master_faults x)) c.defs-2.ensures in
    let stations : c.earlier.result ≡ earlier_of (earliest (zone_faults d)) (earliest (cpu_faults d)) =
    c.earlier.ensures ∙ (λ j. earlier_of (zone j) (c.in_cpus.ensures j)) in
    let domains : c.earlier-2.result ≡ earlier_of (earliest (domain_faults d)) (earliest (manager_faults d)) =
    c.earlier-2.ensures ∙ (λ j. earlier_of (c.in_domains.ensures j) (c.in_managers.ensures j)) in
    let days : c.earlier-3.result ≡ earlier_of (earliest (master_faults d)) (earliest (calendar_faults d)) =
    c.earlier-3.ensures ∙ (λ j. earlier_of (masters j) (c.in_calendars.ensures j)) in
    let things : c.earlier-4.result ≡ earlier_of (earliest (prompt_faults d)) (earliest (resource_faults d)) =
    c.earlier-4.ensures ∙ (λ j. earlier_of (c.in_prompts.ensures j) (c.in_resources.ensures j)) in
    let work : c.earlier-work.result ≡ earlier_of (earliest (job_faults d)) (earliest (all_stream_faults d)) =
    c.earlier-work.ensures ∙ (λ j. earlier_of (c.in_jobs.ensures j) (c.in_streams.ensures j)) in
    c.earlier-6.ensures
    ∙ ((λ j.
    earlier_of ((c.earlier-network.ensures ∙ (λ k. earlier_of (stations k) (domains k))) j)
    ((c.earlier-5.ensures
    ∙ (λ k. earlier_of ((c.earlier-groups.ensures ∙ (λ m. earlier_of (days m) (things m))) k) (work k))) j))
    ∙ sym
    (ten (zone_faults d) (cpu_faults d) (domain_faults d) (manager_faults d) (master_faults d) (calendar_faults d)
    (prompt_faults d) (resource_faults d) (job_faults d) (all_stream_faults d)))
