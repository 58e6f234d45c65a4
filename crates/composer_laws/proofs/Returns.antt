-- The canonical text of definitions that may be written is read back to their normal form.
use Rattle.std.proofs.Common.{◌≡◌, ℕ, true, List, [], ◌∷◌, ◌++◌, map, Option, Some, None, option_map, Ok, refl, ap, sym, ◌∙◌, append-nil}
use Rattle.base_types.specs.declared.reports.Token.{Token}
use Rattle.composer_lexer.specs.Tokens.{tokens_of, tokens_from}
use Rattle.composer_parser.specs.declared.definitions.Lined.{Lined}
use Rattle.composer_parser.specs.declared.definitions.Defs.{Defs}
use Rattle.composer_parser.specs.declared.schedules.EntryDef.{EntryDef}
use Rattle.composer_parser.specs.declared.schedules.ScheduleDef.{ScheduleDef}
use Rattle.composer_parser.specs.Kinds.{Shape}
use Rattle.composer_parser.specs.Faults.{last_line_of}
use Rattle.composer_parser.specs.Tokens.{all_spelled}
use Rattle.composer_print.specs.Texts.{unless, item_of}
use Rattle.composer_print.specs.Stations.{unless_utc, unless_yes}
use Rattle.composer_print.specs.Scopes.{or_home, normal_clauses}
use Rattle.composer_print.specs.Streams.{items}
use Rattle.composer_print.specs.Normal.{unlined, bare, bare_cpu, master_of, entry_names, normal_entry, normal_schedule, normal}
use Rattle.composer_print.specs.Printed.{text_of, printed}
use Rattle.composer_laws.specs.Written.{AreDefs}
use Rattle.composer_laws.specs.Lines.{bare_entry, bare_schedule, without_lines}
use Rattle.composer_laws.specs.Returns.{IsReadBack}
use Rattle.composer_laws.proofs.Cuts.{Cut, cut_end}
use Rattle.composer_laws.proofs.Readings.{shapes_of}
use Rattle.composer_laws.proofs.Definitions.{defs_reads}

-- a normal form has no lines
bare_bare : {A B : Type 0} (f : A → Lined B) → ((x : A) → bare (f x) ≡ f x) → (xs : List A) → map bare (map f xs) ≡ map f xs
bare_bare f h [] = refl
bare_bare f h (x ∷ xs) = λ i. h x i ∷ bare_bare f h xs i

bare_option : {A : Type 0} (o : Option A) → option_map bare (option_map unlined o) ≡ option_map unlined o
bare_option None = refl
bare_option (Some x) = refl

mapped : {A B : Type 0} (g : B → B) (f : A → B) → ((x : A) → g (f x) ≡ f x) → (xs : List A) → map g (map f xs) ≡ map f xs
mapped g f h [] = refl
mapped g f h (x ∷ xs) = λ i. h x i ∷ mapped g f h xs i

entry_bare : (names : List (List ℕ)) (home : Option (List ℕ)) (e : Lined EntryDef)
    → unlined (bare_entry (normal_entry names home e).item) ≡ normal_entry names home e
unfolding normal_entry
entry_bare names home e =
    λ i. unlined (record {
      ws = or_home e.item.ws home;
      name = e.item.name;
      work = e.item.work;
      clauses =
          bare_bare (λ x. unlined x) (λ x. refl) (normal_clauses names home (or_home e.item.ws home) (items e.item.clauses)) i;
    })

schedule_bare : (master : Option (List ℕ)) (s : Lined ScheduleDef)
    → unlined (bare_schedule (normal_schedule master s).item) ≡ normal_schedule master s
unfolding normal_schedule
schedule_bare master s =
    let home = or_home s.item.ws master in
    λ i. unlined (record {
      ws = home;
      name = s.item.name;
      free = s.item.free;
      ons = bare_bare bare (λ x. refl) s.item.ons i;
      clauses = bare_bare (λ x. unlined x) (λ x. refl) (normal_clauses [] home home (items s.item.clauses)) i;
      entries =
          mapped (λ e. unlined (bare_entry e.item)) (normal_entry (entry_names s.item.entries) home)
          (entry_bare (entry_names s.item.entries) home) s.item.entries i;
    })

pub normal_is_bare : (d : Defs) → without_lines (normal d) ≡ normal d
unfolding without_lines normal
normal_is_bare d = λ i. record {
  last_line = 0;
  start = bare_option (unless 360 (item_of d.start)) i;
  zone = bare_option (unless_utc (item_of d.zone)) i;
  carry = bare_option (unless_yes (item_of d.carry)) i;
  cpus = bare_bare bare_cpu (λ x. refl) d.cpus i;
  domains = bare_bare bare (λ x. refl) d.domains i;
  calendars = bare_bare bare (λ x. refl) d.calendars i;
  prompts = bare_bare bare (λ x. refl) d.prompts i;
  resources = bare_bare bare (λ x. refl) d.resources i;
  jobs = bare_bare bare (λ x. refl) d.jobs i;
  schedules = mapped (λ s. unlined (bare_schedule s.item)) (normal_schedule (master_of d.domains)) (schedule_bare (master_of d.domains)) d.schedules i;
}

-- from bytes to tokens
whole : (text : List ℕ) (shapes : List Shape) → Cut [] true (text ++ []) (shapes ++ [])
    → (ts : List Token) × (tokens_of text ≡ Ok ts) × (shapes_of (all_spelled text ts) ≡ shapes)
unfolding tokens_of
whole text shapes cut =
    let here = cut 1 in (
      here.0,
      ap (λ xs. tokens_from 0 1 true 0 xs) (sym (append-nil text)) ∙ here.1,
      ap (λ xs. shapes_of (all_spelled xs here.0)) (sym (append-nil text)) ∙ here.2 ∙ append-nil shapes,
    )

pub read_back : (d : Defs) → AreDefs (normal d) → IsReadBack d
unfolding printed
read_back d h =
    let text = text_of (normal d) in
    let r = defs_reads (last_line_of text) (normal d) h in
    let cut = r.phrase.cut [] [] [] tt (cut_end text true) in
    let t = whole text r.shapes cut in
    let v = r.value (all_spelled text t.0) t.2 in
    (t.0, t.1, (v.0, v.1, v.2 ∙ normal_is_bare d))
