-- The workstations of a network without faults have names of their own.
use Rattle.std.proofs.Common.{◌≡◌, ◌<◌, ℕ, false, List, [], ◌∷◌, ◌++◌, Option, Some, None, length, map, refl, ap, sym, ◌∙◌, arith, bytes_eq, slice_get, take, ◌||◌, length-append}
use Rattle.std.specs.List.{list_any}
use Rattle.std.specs.Option.{option_map_or}
use Rattle.std.proofs.Math.Seq.{take-append_seam}
use Rattle.std.proofs.lemmas.List.{length-map}
use Rattle.lemmas.proofs.Lists.{same_head, same_tail}
use Rattle.model.specs.Network.{node_count}
use Rattle.model.specs.Types.{Net, Node}
use Rattle.network_tree.specs.Faults.{have_one_name, net_fault}
use Rattle.network_tree.proofs.Trees.{few, none_repeats}
use Rattle.record_script.proofs.Trees.{got_there}
use Rattle.record_script.specs.Counted.{AreNew}
use Rattle.night_records.specs.Readings.{node_names}

-- a workstation by its name among the others
record Cut (nodes : List Node) (before : List (List ℕ)) (a : List ℕ) : Type 0 where
  front : List Node
  here : Node
  back : List Node
  whole : nodes ≡ front ++ here ∷ back
  names : before ≡ map (λ (n : Node). n.name) front
  name : a ≡ here.name

cut : (nodes : List Node) (before behind : List (List ℕ)) (a : List ℕ)
    → map (λ (n : Node). n.name) nodes ≡ before ++ a ∷ behind → Cut nodes before a
cut [] [] behind a e = absurd (cc)
cut [] (b ∷ before) behind a e = absurd (cc)
cut (x ∷ nodes) [] behind a e =
    record { front = []; here = x; back = nodes; whole = refl; names = refl; name = sym (same_head e) }
cut (x ∷ nodes) (b ∷ before) behind a e =
    let r = cut nodes before behind a (same_tail e) in
    record {
      front = x ∷ r.front;
      here = r.here;
      back = r.back;
      whole = ap (λ l. x ∷ l) r.whole;
      names = ap (λ c. c ∷ before) (sym (same_head e)) ∙ ap (λ l. x.name ∷ l) r.names;
      name = r.name;
    }

any_named : (a : List ℕ) (nodes : List Node)
    → list_any (bytes_eq a) (map (λ (n : Node). n.name) nodes) ≡ list_any (λ (n : Node). bytes_eq a n.name) nodes
any_named a [] = refl
any_named a (x ∷ nodes) = ap (λ b. bytes_eq a x.name || b) (any_named a nodes)

pub names_new : (net : Net) → net_fault net ≡ None → AreNew bytes_eq (node_names net)
names_new net none =
    record {
      few = (let most = (few net none).1 in let long = length-map net.nodes (λ (n : Node). n.name) in omega (arith, most, long));
      once = λ before behind a e. once before a (cut net.nodes before behind a e);
    }
  where
    once : (before : List (List ℕ)) (a : List ℕ) → Cut net.nodes before a → list_any (bytes_eq a) before ≡ false
    once before a r =
        let long : length net.nodes ≡ length (r.front ++ r.here ∷ r.back) = ap length r.whole in
        let low : length r.front < node_count net = omega (arith, long, length-append r.front (r.here ∷ r.back)) in
        let there : slice_get net.nodes (length r.front) ≡ Some r.here =
        ap (λ l. slice_get l (length r.front)) r.whole ∙ got_there r.front r.back r.here in
        let before_ : take (length r.front) net.nodes ≡ r.front =
        ap (take (length r.front)) r.whole ∙ take-append_seam r.front (r.here ∷ r.back) in
        let free : list_any (have_one_name r.here) r.front ≡ false =
        sym (ap (λ l. list_any (have_one_name r.here) l) before_)
        ∙ (sym (ap (λ (o : Option Node). option_map_or (λ x. list_any (have_one_name x) (take (length r.front) net.nodes)) o false) there)
        ∙ none_repeats net none (length r.front) low) in
        ap (list_any (bytes_eq a)) r.names
        ∙ (any_named a r.front
        ∙ (ap (λ b. list_any (λ (n : Node). bytes_eq b n.name) r.front) r.name ∙ free))
