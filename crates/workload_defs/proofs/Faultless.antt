-- Definitions without a fault have none in the tables.
use Rattle.std.proofs.Common.{◌≡◌, [], inl}
use Rattle.composer_parser.specs.declared.Defs.{Defs}
use Rattle.definition_faults.specs.Faults.{IsFaultless, tested_faults}
use Rattle.definition_faults.specs.Items.{cpu_faults, domain_faults, calendar_faults, prompt_faults, resource_faults, job_faults}
use Rattle.definition_faults.specs.Masters.{manager_faults, master_faults}
use Rattle.definition_faults.specs.Ranges.{zone_faults}
use Rattle.definition_faults.specs.Streams.{all_stream_faults}
use Rattle.workload_defs.proofs.Clean.{IsClean}
use Rattle.workload_defs.proofs.Lists.{both_empty, nothing}

pub clean : (d : Defs) → IsFaultless d → IsClean d
unfolding tested_faults
clean d sound =
    let all : tested_faults d ≡ [] = nothing (tested_faults d) (λ f there. sound f (inl there)) in
    let streams = both_empty _ (all_stream_faults d) all in
    let jobs = both_empty _ (job_faults d) streams.0 in
    let resources = both_empty _ (resource_faults d) jobs.0 in
    let prompts = both_empty _ (prompt_faults d) resources.0 in
    let calendars = both_empty _ (calendar_faults d) prompts.0 in
    let masters = both_empty _ (master_faults d) calendars.0 in
    let managers = both_empty _ (manager_faults d) masters.0 in
    let domains = both_empty _ (domain_faults d) managers.0 in
    let cpus = both_empty (zone_faults d) (cpu_faults d) domains.0 in
    record {
      cpus = cpus.1;
      domains = domains.1;
      managers = managers.1;
      masters = masters.1;
      prompts = prompts.1;
      resources = resources.1;
    }
