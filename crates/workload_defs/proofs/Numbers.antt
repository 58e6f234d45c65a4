-- The numbers of the workstations of definitions in which the tables tell no fault.
use Rattle.std.proofs.Common.{◌≡◌, ℕ, zero, suc, Bool, true, false, List, [], ◌∷◌, ◌++◌, Some, None}
use Rattle.std.proofs.Common.{refl, ap, sym, subst, ◌∙◌, inl, inr, arith, bytes_eq, is_none, map, not, slice_get}
use Rattle.std.specs.Cmp.Lexicographic.{bytes_decides}
use Rattle.lemmas.proofs.Texts.{text_tells}
use Rattle.lemmas.proofs.Lists.{get_in_front}
use Rattle.composer_parser.specs.declared.CpuDef.{CpuDef}
use Rattle.composer_parser.specs.declared.Defs.{Defs}
use Rattle.composer_parser.specs.declared.DomainDef.{DomainDef}
use Rattle.composer_parser.specs.declared.Lined.{Lined}
use Rattle.definition_names.specs.Names.{cpu_at, first_of}
use Rattle.definition_names.specs.Stations.{master_of, only_manager}
use Rattle.definition_names.specs.Streams.{is_one_ws}
use Rattle.workload_defs.specs.Stations.{is_master, is_that, number_of, stations, those}
use Rattle.workload_defs.proofs.Apart.{AreApart, apart_by_places, both_apart, filtered_apart}
use Rattle.workload_defs.proofs.Clean.{IsClean, good_cpu, manager_domain, one_top}
use Rattle.workload_defs.proofs.Lists.{at_back, filtered, first_there, found_first, from_both, from_filtered}
use Rattle.workload_defs.proofs.Lists.{from_mapped, mapped}

pub text_is : (a b : List ℕ) → a ≡ b → bytes_eq a b ≡ true
text_is a b e = (bytes_decides a b).1 e

-- what a name stands for
pub named : {X : Type 0} (name_of : X → List ℕ) (xs : List X) (name : List ℕ) (i : ℕ)
    → first_of (map name_of xs) name ≡ Some i → (x : X) × (slice_get xs i ≡ Some x) × (name_of x ≡ name)
named name_of xs name i e =
    let first = first_there (bytes_eq name) 0 i (map name_of xs) e in
    let place : first.0 ≡ i = omega (arith, first.1) in
    let m = from_mapped name_of xs first.0 first.2.0 first.2.1 in
    (m.0, subst (λ k. slice_get xs k ≡ Some m.0) place m.1, m.2 ∙ sym (text_tells name first.2.0 first.2.2))

abbrev pub have_one_name : CpuDef → CpuDef → Bool
have_one_name a b = bytes_eq a.name b.name

module _ (d : Defs) (clean : IsClean d) where
  abbrev items : List CpuDef
  items = map (λ (c : Lined CpuDef). c.item) d.cpus

  -- no two workstations have one name
  one_place : (i j : ℕ) (a b : CpuDef) → slice_get items i ≡ Some a → slice_get items j ≡ Some b
      → have_one_name a b ≡ true → i ≡ j
  one_place i j a b h g e =
      let one = from_mapped (λ (c : Lined CpuDef). c.item) d.cpus i a h in
      let other = from_mapped (λ (c : Lined CpuDef). c.item) d.cpus j b g in
      let lower : cpu_at d a.name ≡ Some i =
      subst (λ (c : CpuDef). cpu_at d c.name ≡ Some i) one.2 ((good_cpu d clean i one.0 one.1).own_place) in
      let upper : cpu_at d b.name ≡ Some j =
      subst (λ (c : CpuDef). cpu_at d c.name ≡ Some j) other.2 ((good_cpu d clean j other.0 other.1).own_place) in
      let same : cpu_at d a.name ≡ cpu_at d b.name = ap (cpu_at d) (text_tells a.name b.name e) in
      cc

  items_apart : AreApart have_one_name items
  items_apart = apart_by_places have_one_name items one_place

  across : (i j : ℕ) (a b : CpuDef) → slice_get (those d true d.cpus) i ≡ Some a → slice_get (those d false d.cpus) j ≡ Some b
      → have_one_name b a ≡ false
  across i j a b h g =
      let one = from_filtered (is_that d true) items i a h in
      let other = from_filtered (is_that d false) items j b g in
      go (bytes_eq b.name a.name) refl one.2 other.2
    where
      go : (e : Bool) → bytes_eq b.name a.name ≡ e → is_master d a ≡ true → not (is_master d b) ≡ true
          → bytes_eq b.name a.name ≡ false
      go false is top low = is
      go true is top low =
          let same : is_master d b ≡ is_master d a =
          ap (λ (n : List ℕ). is_one_ws (master_of d) (Some n)) (text_tells b.name a.name is) in
          let both : not true ≡ true = sym (ap not (same ∙ top)) ∙ low in
          cc

  pub stations_apart : AreApart have_one_name (stations d)
  unfolding stations
  stations_apart =
      both_apart have_one_name (those d true d.cpus) (those d false d.cpus)
      (filtered_apart have_one_name (is_that d true) items items_apart)
      (filtered_apart have_one_name (is_that d false) items items_apart) across

  -- each workstation is defined
  pub from_station : (n : ℕ) (c : CpuDef) → slice_get (stations d) n ≡ Some c
      → (i : ℕ) × ((l : Lined CpuDef) × (slice_get d.cpus i ≡ Some l) × (l.item ≡ c))
  unfolding stations
  from_station n c e =
      elim (from_both (those d true d.cpus) (those d false d.cpus) n c e) [
        | inl t ↦
            let f = from_filtered (is_that d true) items t.0 c t.1 in
            (f.0, from_mapped (λ (l : Lined CpuDef). l.item) d.cpus f.0 c f.1)
        | inr t ↦
            let f = from_filtered (is_that d false) items t.0 c t.1 in
            (f.0, from_mapped (λ (l : Lined CpuDef). l.item) d.cpus f.0 c f.1)
      ]

  -- and each that is defined has a number
  pub numbered : (i : ℕ) (l : Lined CpuDef) → slice_get d.cpus i ≡ Some l
      → (n : ℕ) × (slice_get (stations d) n ≡ Some l.item)
  unfolding stations
  numbered i l e = go (is_master d l.item) refl
    where
      own_item : slice_get items i ≡ Some l.item
      own_item = mapped (λ (c : Lined CpuDef). c.item) d.cpus i l e

      go : (b : Bool) → is_master d l.item ≡ b
          → (n : ℕ) × (slice_get (those d true d.cpus ++ those d false d.cpus) n ≡ Some l.item)
      go true is =
          let f = filtered (is_that d true) items i l.item own_item is in
          (f.0, get_in_front (those d true d.cpus) (those d false d.cpus) f.0 l.item f.1)
      go false is =
          let f = filtered (is_that d false) items i l.item own_item (ap not is) in
          at_back (those d true d.cpus) (those d false d.cpus) f.0 l.item f.1

  -- the number of a name that is defined
  pub record HasNumber (name : List ℕ) : Type 0 where
    pub number : ℕ
    pub cpu : CpuDef
    pub is_number : number_of d name ≡ Some number
    pub stands : slice_get (stations d) number ≡ Some cpu
    pub called : cpu.name ≡ name

  pub at_number : (name : List ℕ) (n : ℕ) → number_of d name ≡ Some n → (c : CpuDef) × (slice_get (stations d) n ≡ Some c) × (c.name ≡ name)
  at_number name n e =
      let first = first_there (λ (c : CpuDef). bytes_eq name c.name) 0 n (stations d) e in
      let place : first.0 ≡ n = omega (arith, first.1) in (
        first.2.0,
        subst (λ k. slice_get (stations d) k ≡ Some first.2.0) place first.2.1,
        sym (text_tells name first.2.0.name first.2.2),
      )

  pub number_known : (name : List ℕ) (i : ℕ) → cpu_at d name ≡ Some i → HasNumber name
  number_known name i e =
      let own = named (λ (c : Lined CpuDef). c.item.name) d.cpus name i e in
      let n = numbered i own.0 own.1 in
      let found = found_first (λ (c : CpuDef). bytes_eq name c.name) 0 n.0 (stations d) own.0.item n.1
      (text_is name own.0.item.name (sym own.2)) in
      let stands_ = at_number name found.0 found.1 in
      record {
        number = found.0;
        cpu = stands_.0;
        is_number = found.1;
        stands = stands_.1;
        called = stands_.2;
      }

  -- who manages a domain is of it
  pub managed_domain : (i : ℕ) (x : Lined DomainDef) (n : ℕ) (c : CpuDef) → slice_get d.domains i ≡ Some x
      → slice_get (stations d) n ≡ Some c → c.name ≡ x.item.manager → c.domain ≡ x.item.name
  managed_domain i x n c at_ stands called =
      let own = from_station n c stands in
      let place : cpu_at d c.name ≡ Some own.0 =
      subst (λ (e : CpuDef). cpu_at d e.name ≡ Some own.0) own.1.2 ((good_cpu d clean own.0 own.1.0 own.1.1).own_place) in
      let managed : cpu_at d x.item.manager ≡ Some own.0 = ap (cpu_at d) (sym called) ∙ place in
      sym (ap (λ (e : CpuDef). e.domain) own.1.2) ∙ manager_domain d clean i own.0 x own.1.0 at_ own.1.1 managed

  -- The master.

  abbrev pub top : Lined DomainDef
  top = (one_top d clean).0

  pub master_is : master_of d ≡ Some top.item.manager
  master_is = ap only_manager (one_top d clean).1

  pub is_top_manager : (c : CpuDef) → is_master d c ≡ true → c.name ≡ top.item.manager
  is_top_manager c e =
      sym (text_tells top.item.manager c.name (sym (ap (λ o. is_one_ws o (Some c.name)) master_is) ∙ e))

  pub top_manager_is : (c : CpuDef) → c.name ≡ top.item.manager → is_master d c ≡ true
  top_manager_is c e =
      ap (λ o. is_one_ws o (Some c.name)) master_is ∙ text_is top.item.manager c.name (sym e)

  -- the one domain without a parent
  pub top_is : (i : ℕ) (x : Lined DomainDef) → slice_get d.domains i ≡ Some x → x.item.parent ≡ None → x ≡ top
  top_is i x at_ e =
      let f = filtered (λ (y : Lined DomainDef). is_none y.item.parent) d.domains i x at_ (ap is_none e) in
      let inside = ap (λ l. slice_get l f.0) (one_top d clean).1 in
      alone f.0 (sym inside ∙ f.1)
    where
      alone : (k : ℕ) → slice_get (top ∷ []) k ≡ Some x → x ≡ top
      alone zero h = cc
      alone (suc k) h = cc
