-- What is known of a network that is accepted.
use Rattle.std.proofs.Common.{◌≡◌, ◌<◌, ◌≤◌, ℕ, suc, Bool, true, false, List, [], ◌∷◌, ◌++◌}
use Rattle.std.proofs.Common.{Option, Some, None, length, take, slice_get, refl, ap, sym, ◌∙◌, arith, length-append}
use Rattle.std.proofs.Common.{option_and_then}
use Rattle.std.specs.Prelude.{nat_le, nat_lt}
use Rattle.std.specs.List.{AllByRecursion, list_any}
use Rattle.std.specs.Option.{option_map_or}
use Rattle.std.proofs.Math.Seq.{take-append_seam}
use Rattle.std.proofs.lemmas.Bool.Decides.{nat_tests}
use Rattle.std.proofs.lemmas.Option.{slice_get_within}
use Rattle.lemmas.proofs.Booleans.{neither}
use Rattle.lemmas.proofs.Options.{map_none, then_none}
use Rattle.model.specs.Network.{IsTree, is_manager, node_count}
use Rattle.model.specs.Types.{Net, Node, Resource}
use Rattle.model.specs.Words.{below}
use Rattle.network_tree.specs.Faults.{are_one_prompt, are_one_resource, have_one_name, is_bad_resource}
use Rattle.network_tree.specs.Faults.{net_fault, net_faults, repeats_a_name}
use Rattle.network_tree.specs.Repeats.{has_repeat, stands_before}
use Rattle.network_tree.specs.declared.faults.NetFault.{NetFault}
use Rattle.network_tree.proofs.Belows.{any_here, nothing_found}
use Rattle.network_tree.proofs.Trees.{few, manager_within, tree, none_there}
use Rattle.record_script.specs.Counted.{AreNew}
use Rattle.record_script.proofs.Trees.{got_there}

-- Lists in which nothing stands twice.

nothing_any : (test : ℕ → Bool) (n w : ℕ) → list_any test (below n) ≡ false → w < n → test w ≡ false
nothing_any test n w none low = go (test w) refl
  where
    go : (b : Bool) → test w ≡ b → test w ≡ false
    go true is =
        let there : list_any test (below n) ≡ true = any_here test 0 n w (omega arith) (omega (arith, low)) is in absurd (cc)
    go false is = is

never_before : {A : Type 0} (same : A → A → Bool) (xs : List A)
    → ((w : ℕ) → w < length xs → stands_before same xs w ≡ false)
    → (before behind : List A) (x : A) → xs ≡ before ++ x ∷ behind → list_any (same x) before ≡ false
never_before same xs none before behind x whole =
    let long : length xs ≡ length (before ++ x ∷ behind) = ap length whole in
    let low : length before < length xs = omega (arith, long, length-append before (x ∷ behind)) in
    let there : slice_get xs (length before) ≡ Some x =
    ap (λ l. slice_get l (length before)) whole ∙ got_there before behind x in
    let front : take (length before) xs ≡ before = ap (take (length before)) whole ∙ take-append_seam before (x ∷ behind) in
    sym (ap (list_any (same x)) front)
    ∙ sym (ap (λ o. option_map_or (λ y. list_any (same y) (take (length before) xs)) o false) there)
    ∙ none (length before) low

-- The faults that it has not.

at_most : (n most : ℕ) → nat_lt most n ≡ false → n ≤ most
at_most n most e = grind (arith, nat_tests)

pub record Accepted (net : Net) : Type 0 where
  pub some : 0 < node_count net
  pub few : node_count net ≤ 256
  pub tree : IsTree net
  pub names : AreNew have_one_name net.nodes
  pub resources : AreNew are_one_resource net.resources
  pub prompts : AreNew are_one_prompt net.prompts
  pub good : list_any (is_bad_resource net) net.resources ≡ false

pub accepted : (net : Net) → net_fault net ≡ None → Accepted net
unfolding net_fault
accepted net none =
    let all : AllByRecursion (λ (o : Option NetFault). o ≡ None) (net_faults net) = none_there (net_faults net) none in
    let most = few net none in
    let out = then_none _ _ all.1.1.1.1.1.0 in
    let fifth = neither _ (has_repeat are_one_prompt net.prompts) out in
    let fourth = neither _ (has_repeat are_one_resource net.resources) fifth.0 in
    let third = neither _ (list_any (is_bad_resource net) net.resources) fourth.0 in
    let counts = neither (nat_lt 65535 (length net.resources)) (nat_lt 65535 (length net.prompts)) third.0 in
    record {
      some = most.0;
      few = most.1;
      tree = tree net none;
      names =
          record {
            few = omega (arith, most.1);
            once = never_before have_one_name net.nodes
                (λ w low. nothing_found (repeats_a_name net) 0 (node_count net) w (map_none _ _ all.1.1.0) (omega arith) (omega (arith, low)));
          };
      resources =
          record {
            few = at_most (length net.resources) 65535 counts.0;
            once = never_before are_one_resource net.resources
                (λ w low. nothing_any (stands_before are_one_resource net.resources) (length net.resources) w fourth.1 low);
          };
      prompts =
          record {
            few = at_most (length net.prompts) 65535 counts.1;
            once = never_before are_one_prompt net.prompts
                (λ w low. nothing_any (stands_before are_one_prompt net.prompts) (length net.prompts) w fifth.1 low);
          };
      good = third.1;
    }

-- The master, and the others.

-- its hop is a manager of the network
pub record IsHung (net : Net) (x : Node) : Type 0 where
  pub up : ℕ
  pub is : x.hop ≡ Some up
  pub inside : up < node_count net
  pub manages : is_manager net up ≡ true

pub record Headed (net : Net) : Type 0 where
  pub master : Node
  pub others : List Node
  pub whole : net.nodes ≡ master ∷ others
  pub top : master.hop ≡ None
  pub managed : master.manager ≡ true
  pub hung : AllByRecursion (IsHung net) others

all_at : {A : Type 0} (P : A → Type 0) (xs : List A) → ((w : ℕ) (x : A) → slice_get xs w ≡ Some x → P x) → AllByRecursion P xs
all_at P [] each = tt
all_at P (x ∷ xs) each = (each 0 x refl, all_at P xs (λ w y e. each (suc w) y e))

hung_by : (net : Net) (x : Node) → option_map_or (is_manager net) x.hop false ≡ true → IsHung net x
hung_by net x h = go x.hop refl h
  where
    go : (o : Option ℕ) → x.hop ≡ o → option_map_or (is_manager net) o false ≡ true → IsHung net x
    go None is e = absurd (cc)
    go (Some up) is e = record { up = up; is = is; inside = manager_within net up e; manages = e }

headed_by : (net : Net) → Accepted net → (m : Node) (others : List Node) → net.nodes ≡ m ∷ others → Headed net
headed_by net a m others whole =
    let first : slice_get net.nodes 0 ≡ Some m = ap (λ l. slice_get l 0) whole in
    record {
      master = m;
      others = others;
      whole = whole;
      top = sym (ap (option_and_then (λ (n : Node). n.hop)) first) ∙ a.tree.top;
      managed = sym (ap (λ o. option_map_or (λ (n : Node). n.manager) o false) first) ∙ a.tree.managed;
      hung = all_at (IsHung net) others
          (λ w x e.
          let there : slice_get net.nodes (suc w) ≡ Some x = ap (λ l. slice_get l (suc w)) whole ∙ e in
          let low = slice_get_within net.nodes (suc w) x there in
          hung_by net x
          (sym (ap (λ o. option_map_or (is_manager net) (option_and_then (λ (n : Node). n.hop) o) false) there)
          ∙ a.tree.hops (suc w) (omega arith) low));
    }

pub headed : (net : Net) → Accepted net → Headed net
headed net a = go net.nodes refl
  where
    go : (l : List Node) → net.nodes ≡ l → Headed net
    go [] is = absurd (let none : node_count net ≡ 0 = ap length is in omega (arith, none, a.some))
    go (m ∷ others) is = headed_by net a m others is

-- Resources.

pub record IsGood (net : Net) (r : Resource) : Type 0 where
  pub ws : r.ws < node_count net
  pub total : r.total ≤ 1024

below_count : (w n : ℕ) → nat_le n w ≡ false → w < n
below_count w n e = grind (arith, nat_tests)

pub good_each : (net : Net) (rs : List Resource) → list_any (is_bad_resource net) rs ≡ false → AllByRecursion (IsGood net) rs
good_each net [] e = tt
good_each net (r ∷ rs) e =
    let parts = neither (is_bad_resource net r) (list_any (is_bad_resource net) rs) e in
    let own = neither (nat_le (node_count net) r.ws) (nat_lt 1024 r.total) parts.0 in (
      record { ws = below_count r.ws (node_count net) own.0; total = at_most r.total 1024 own.1 },
      good_each net rs parts.1,
    )
