-- Definitions of which each list is that of a normal form.
use Rattle.std.proofs.Common.{◌≡◌, map, option_map, refl}
use Rattle.composer_parser.specs.declared.Defs.{Defs}
use Rattle.composer_print.specs.Normal as form
use Rattle.composer_print.specs.Normal.{unlined, bare, bare_cpu, normal_schedule, normal}
use Rattle.composer_print.specs.Stations.{unless_utc, unless_yes}
use Rattle.composer_print.specs.Texts.{unless, item_of}
use Rattle.canonical_laws.proofs.Homes.{Alike, alike}

pub record IsForm (d e : Defs) : Type 0 where
  pub names : Alike d e
  pub start : e.start ≡ option_map unlined (unless 360 (item_of d.start))
  pub zone : e.zone ≡ option_map unlined (unless_utc (item_of d.zone))
  pub carry : e.carry ≡ option_map unlined (unless_yes (item_of d.carry))
  pub cpus : e.cpus ≡ map bare_cpu d.cpus
  pub domains : e.domains ≡ map bare d.domains
  pub calendars : e.calendars ≡ map bare d.calendars
  pub prompts : e.prompts ≡ map bare d.prompts
  pub resources : e.resources ≡ map bare d.resources
  pub jobs : e.jobs ≡ map bare d.jobs
  pub schedules : e.schedules ≡ map (normal_schedule (form.master_of d.domains)) d.schedules

pub is_form : (d : Defs) → IsForm d (normal d)
unfolding normal
is_form d = record {
  names = alike d;
  start = refl;
  zone = refl;
  carry = refl;
  cpus = refl;
  domains = refl;
  calendars = refl;
  prompts = refl;
  resources = refl;
  jobs = refl;
  schedules = refl;
}
