-- What definitions are in which the tables tell no fault, item by item.
use Rattle.std.proofs.Common.{◌≡◌, ◌+◌, ℕ, zero, suc, Bool, true, false, List, [], ◌∷◌, Option, Some, None}
use Rattle.std.proofs.Common.{refl, ap, sym, subst, ◌∙◌, inl, inr, arith, bytes_eq, cond, eqb, option_map}
use Rattle.std.proofs.Common.{option_and_then, slice_get, is_none}
use Rattle.std.proofs.lemmas.Bool.Decides.{eqb_tells}
use Rattle.std.specs.Cmp.Lexicographic.{bytes_decides}
use Rattle.std.specs.List.{enumerate_from}
use Rattle.std.specs.Option.{option_map_or}
use Rattle.std.specs.Prelude.{flat_map, min, nat_lt}
use Rattle.lemmas.proofs.Booleans.{neither, not_fails}
use Rattle.base_types.specs.declared.PromptDef.{PromptDef}
use Rattle.composer_parser.specs.declared.CpuDef.{CpuDef}
use Rattle.composer_parser.specs.declared.Defs.{Defs}
use Rattle.composer_parser.specs.declared.DomainDef.{DomainDef}
use Rattle.composer_parser.specs.declared.Lined.{Lined}
use Rattle.composer_parser.specs.declared.ResourceDef.{ResourceDef}
use Rattle.definition_names.specs.Names.{cpu_at, domain_at, prompt_at, resource_at}
use Rattle.definition_names.specs.Stations.{top_domains}
use Rattle.definition_faults.specs.Items.{cpu_faults, cpu_rows, domain_faults, domain_rows, is_bad_port, is_later, lacks_parent, strays}
use Rattle.definition_faults.specs.Items.{prompt_faults, prompt_rows, resource_faults, resource_rows}
use Rattle.definition_faults.specs.Masters.{line_where_other, manager_faults, master_faults, stray_fault, stray_line, top_faults, tree_at}
use Rattle.definition_faults.specs.Orders.{faults_at}
use Rattle.definition_faults.specs.declared.Kind.{Kind}
use Rattle.workload_defs.proofs.Lists.{both_empty, no_picks}

-- the tables tell no fault of these kinds of item
pub record IsClean (d : Defs) : Type 0 where
  pub cpus : cpu_faults d ≡ []
  pub domains : domain_faults d ≡ []
  pub managers : manager_faults d ≡ []
  pub masters : master_faults d ≡ []
  pub prompts : prompt_faults d ≡ []
  pub resources : resource_faults d ≡ []

-- no test of these rows holds
abbrev pub NoneHolds : List (Bool × Kind) → Type 0
NoneHolds [] = Unit {0}
NoneHolds (row ∷ rows) = (row.0 ≡ false) × NoneHolds rows

none_of : (rows : List (Bool × Kind)) (line : ℕ) → faults_at line rows ≡ [] → NoneHolds rows
none_of [] line e = tt
none_of ((true, k) ∷ rows) line e = cc
none_of ((false, k) ∷ rows) line e = (refl, none_of rows line e)

-- where a table tells nothing of all items, no test of one of them holds
pub rows_none : {X : Type 0} (rows : ℕ × X → List (Bool × Kind)) (line : ℕ × X → ℕ) (from : ℕ) (xs : List X)
    → flat_map (λ p. faults_at (line p) (rows p)) (enumerate_from from xs) ≡ [] → (i n : ℕ) (x : X) → n ≡ from + i
    → slice_get xs i ≡ Some x → NoneHolds (rows (n, x))
rows_none rows line from [] e i n x at_ h = cc
rows_none {X = X} rows line from (y ∷ ys) e zero n x at_ h =
    let same : y ≡ x = cc in
    let place : from ≡ n = omega (arith, at_) in
    subst (λ (p : ℕ × X). NoneHolds (rows p)) (λ j. (place j, same j))
    (none_of (rows (from, y)) (line (from, y)) (both_empty _ _ e).0)
rows_none rows line from (y ∷ ys) e (suc i) n x at_ h =
    rows_none rows line (from + 1) ys (both_empty _ _ e).1 i n x (omega (arith, at_)) h

is_there : {X : Type 0} (o : Option X) → is_none o ≡ false → (x : X) × (o ≡ Some x)
is_there None e = cc
is_there (Some x) e = (x, refl)

own : (o : Option ℕ) (i : ℕ) → is_later o i ≡ false → o ≡ Some i
own None i e = cc
own (Some m) i e =
    elim (eqb_tells m i) [
      | inl t ↦ ap Some t.1
      | inr t ↦ let off : eqb m i ≡ true = not_fails (eqb m i) e in absurd (let on : eqb m i ≡ false = t.0 in cc)
    ]

module _ (d : Defs) (clean : IsClean d) where
  -- Workstations.

  pub record IsGoodCpu (i : ℕ) (c : CpuDef) : Type 0 where
    pub own_place : cpu_at d c.name ≡ Some i
    pub domain_place : ℕ
    pub in_domain : domain_at d c.domain ≡ Some domain_place
    pub not_many : eqb i 256 ≡ false
    pub port : is_bad_port c.port ≡ false

  pub good_cpu : (i : ℕ) (c : Lined CpuDef) → slice_get d.cpus i ≡ Some c → IsGoodCpu i c.item
  unfolding cpu_faults
  good_cpu i c at_ =
      let all =
      rows_none (λ (p : ℕ × Lined CpuDef). cpu_rows d p.0 p.1.item) (λ p. p.1.line) 0 d.cpus clean.cpus i i c (omega arith)
      at_ in
      let numbers = neither (eqb i 256) (is_bad_port c.item.port) all.1.1.0 in
      let there_ = is_there (domain_at d c.item.domain) all.1.0 in
      record {
        own_place = own (cpu_at d c.item.name) i all.0;
        domain_place = there_.0;
        in_domain = there_.1;
        not_many = numbers.0;
        port = numbers.1;
      }

  -- Resources and prompts.

  pub record IsGoodResource (i : ℕ) (r : ResourceDef) : Type 0 where
    pub own_place : resource_at d r.ws r.name ≡ Some i
    pub ws_place : ℕ
    pub on_ws : cpu_at d r.ws ≡ Some ws_place
    pub not_many : eqb i 65535 ≡ false
    pub total : nat_lt 1024 r.total ≡ false

  pub good_resource : (i : ℕ) (r : Lined ResourceDef) → slice_get d.resources i ≡ Some r → IsGoodResource i r.item
  unfolding resource_faults
  good_resource i r at_ =
      let all =
      rows_none (λ (p : ℕ × Lined ResourceDef). resource_rows d p.0 p.1.item) (λ p. p.1.line) 0 d.resources
      clean.resources i i r (omega arith) at_ in
      let numbers = neither (eqb i 65535) (nat_lt 1024 r.item.total) all.1.1.0 in
      let there_ = is_there (cpu_at d r.item.ws) all.1.0 in
      record {
        own_place = own (resource_at d r.item.ws r.item.name) i all.0;
        ws_place = there_.0;
        on_ws = there_.1;
        not_many = numbers.0;
        total = numbers.1;
      }

  pub record IsGoodPrompt (i : ℕ) (p : PromptDef) : Type 0 where
    pub own_place : prompt_at d p.name ≡ Some i
    pub not_many : eqb i 65535 ≡ false

  pub good_prompt : (i : ℕ) (p : Lined PromptDef) → slice_get d.prompts i ≡ Some p → IsGoodPrompt i p.item
  unfolding prompt_faults
  good_prompt i p at_ =
      let all =
      rows_none (λ (q : ℕ × Lined PromptDef). prompt_rows d q.0 q.1.item) (λ q. q.1.line) 0 d.prompts clean.prompts i i p
      (omega arith) at_ in
      record { own_place = own (prompt_at d p.item.name) i all.0; not_many = all.1.0 }

  -- Domains.

  pub record IsGoodDomain (i : ℕ) (x : DomainDef) : Type 0 where
    pub own_place : domain_at d x.name ≡ Some i
    pub manager_place : ℕ
    pub managed : cpu_at d x.manager ≡ Some manager_place
    pub parent : (p : List ℕ) → x.parent ≡ Some p → (j : ℕ) × (domain_at d p ≡ Some j)
    pub kept : strays d i ≡ false

  parent_known : (o : Option (List ℕ)) → option_map_or (λ p. is_none (domain_at d p)) o false ≡ false → (p : List ℕ) → o ≡ Some p
      → (j : ℕ) × (domain_at d p ≡ Some j)
  parent_known None e p is = cc
  parent_known (Some q) e p is =
      let same : q ≡ p = cc in
      is_there (domain_at d p) (subst (λ r. is_none (domain_at d r) ≡ false) same e)

  pub good_domain : (i : ℕ) (x : Lined DomainDef) → slice_get d.domains i ≡ Some x → IsGoodDomain i x.item
  unfolding domain_faults
  good_domain i x at_ =
      let all =
      rows_none (λ (p : ℕ × Lined DomainDef). domain_rows d p.0 (strays d p.0) p.1.item) (λ p. p.1.line) 0 d.domains
      clean.domains i i x (omega arith) at_ in
      let names = neither (is_none (cpu_at d x.item.manager)) (lacks_parent d x.item) all.1.0 in
      let there_ = is_there (cpu_at d x.item.manager) names.0 in
      record {
        own_place = own (domain_at d x.item.name) i all.0;
        manager_place = there_.0;
        managed = there_.1;
        parent = parent_known x.item.parent names.1;
        kept = all.1.1.0;
      }

  -- a manager is of its domain
  same_domain : (x : Lined DomainDef) (c : Lined CpuDef) → line_where_other x c ≡ None → c.item.domain ≡ x.item.name
  same_domain x c e = go (bytes_eq c.item.domain x.item.name) refl e
    where
      go : (b : Bool) → bytes_eq c.item.domain x.item.name ≡ b → cond b None (Some (min x.line c.line)) ≡ None
          → c.item.domain ≡ x.item.name
      go true is h = (bytes_decides c.item.domain x.item.name).0 is
      go false is h = cc

  no_line : (x : Lined DomainDef) → stray_fault d x ≡ None → stray_line d x ≡ None
  no_line x e = go (stray_line d x) e
    where
      go : (o : Option ℕ) → option_map tree_at o ≡ None → o ≡ None
      go None h = refl
      go (Some l) h = cc

  pub manager_domain : (i j : ℕ) (x : Lined DomainDef) (c : Lined CpuDef) → slice_get d.domains i ≡ Some x
      → slice_get d.cpus j ≡ Some c → cpu_at d x.item.manager ≡ Some j → c.item.domain ≡ x.item.name
  unfolding manager_faults
  manager_domain i j x c at_ there_ managed =
      same_domain x c
      (sym
      (ap (λ o. option_and_then (line_where_other x) (option_and_then (slice_get d.cpus) o)) managed
      ∙ ap (option_and_then (line_where_other x)) there_)
      ∙ no_line x (no_picks (stray_fault d) d.domains clean.managers i x at_))

  -- one domain has no parent
  pub one_top : (x : Lined DomainDef) × (top_domains d.domains ≡ x ∷ [])
  unfolding master_faults
  one_top = go (top_domains d.domains) clean.masters
    where
      go : (l : List (Lined DomainDef)) → top_faults d.last_line l ≡ [] → (x : Lined DomainDef) × (l ≡ x ∷ [])
      go [] e = cc
      go (x ∷ []) e = (x, refl)
      go (x ∷ y ∷ l) e = cc
