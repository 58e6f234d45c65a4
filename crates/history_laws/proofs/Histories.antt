-- The lines of a network are the front of a history of it.
use Rattle.std.proofs.Common.{◌≡◌, ◌<◌, ◌+◌, ℕ, Bool, true, false, ◌&&◌, not, cond, List, [], ◌∷◌, ◌++◌}
use Rattle.std.proofs.Common.{Some, None, length, take, refl, ap, sym, ◌∙◌, arith, map, flat_map, append_assoc, append-nil, codes, length-append}
use Rattle.std.specs.Prelude.{nat_lt}
use Rattle.std.specs.List.{AllByRecursion, position, position_or_len, prefix_len}
use Rattle.std.proofs.Math.Seq.{take-append_seam}
use Rattle.std.proofs.lemmas.Bool.Decides.{nat_tests}
use Rattle.base_types.specs.declared.network.Carry.{Carry}
use Rattle.base_types.specs.declared.network.Carry.TheVariants as carry
use Rattle.model.specs.Types.{Net, Node}
use Rattle.network_tree.specs.Faults.{net_fault}
use Rattle.plan_listing.specs.Networks.{carry_line, network_text, node_line, prompt_line, resource_line}
use Rattle.syntax.specs.Splits.{lines_of}
use Rattle.record_script.specs.Scripts.{read_of}
use Rattle.history_script.specs.Fronts.{is_history, net_or_fault, network_of, record_line, record_text}
use Rattle.history_laws.specs.Printables.{IsPrintable, IsToldWhole, as_printed, node_as_printed}
use Rattle.history_laws.specs.NetworkReturns.{IsBegun, network_lines}
use Rattle.history_laws.proofs.Accepted.{accepted, headed}
use Rattle.history_laws.proofs.Lines.{left_five}
use Rattle.history_laws.proofs.Printed.{carry_text, node_line_is, node_text, prompt_line_is, prompt_text, resource_line_is, resource_text, told}
use Rattle.history_laws.proofs.Read.{read_back}
use Rattle.history_laws.proofs.NetworkTexts.{IsReady, lines_above, net_lines, ready, text_lines}

-- The text that stands behind a network does not change its lines.

ready_here : (net : Net) → IsPrintable net → net_fault net ≡ None → IsReady net
ready_here net p none = let a = accepted net none in ready net p a (headed net a)

lines_here : (net : Net) → IsReady net → network_lines net ≡ net_lines net []
unfolding lines_of
lines_here net r = ap lines_of (sym (append-nil (network_text net))) ∙ text_lines net r []

pub lines_behind : (net : Net) → IsPrintable net → net_fault net ≡ None → (rest : List ℕ)
    → lines_of (network_text net ++ rest) ≡ network_lines net ++ lines_of rest
lines_behind net p none rest =
    let r = ready_here net p none in
    text_lines net r rest ∙ lines_above net (lines_of rest) ∙ ap (λ l. l ++ lines_of rest) (sym (lines_here net r))

-- None of the lines is `$HISTORY`.

abbrev IsOtherLine : List ℕ → Type 0
IsOtherLine line = is_history line ≡ false

other_section : {A : Type 0} (g : A → List ℕ) → ((x : A) → IsOtherLine (g x)) → (xs : List A) (rest : List (List ℕ))
    → AllByRecursion IsOtherLine rest → AllByRecursion IsOtherLine (map g xs ++ rest)
other_section g other [] rest all = all
other_section g other (x ∷ xs) rest all = (other x, other_section g other xs rest all)

carry_other : (c : Carry) → IsOtherLine (carry_text c)
carry_other carry.Yes = refl
carry_other carry.No = refl
carry_other carry.All = refl

others : (net : Net) → AllByRecursion IsOtherLine (net_lines net [])
others net = (
  refl,
  other_section (node_text net) (λ x. refl) net.nodes
      (map (resource_text net) net.resources ++ (map prompt_text net.prompts ++ (map carry_text (told net.carry) ++ [])))
      (other_section (resource_text net) (λ x. refl) net.resources
      (map prompt_text net.prompts ++ (map carry_text (told net.carry) ++ []))
      (other_section prompt_text (λ x. refl) net.prompts (map carry_text (told net.carry) ++ [])
      (other_section carry_text carry_other (told net.carry) [] tt))),
)

place_by : (xs : List (List ℕ)) (y : List ℕ) (ys : List (List ℕ)) → AllByRecursion IsOtherLine xs → is_history y ≡ true
    → position_or_len is_history (xs ++ y ∷ ys) ≡ length xs
place_by [] y ys all e = ap (λ t. cond (not t) (1 + prefix_len (λ x. not (is_history x)) ys) 0) e
place_by (x ∷ xs) y ys all e =
    ap (λ t. cond (not t) (1 + prefix_len (λ l. not (is_history l)) (xs ++ y ∷ ys)) 0) all.0
    ∙ ap (λ k. 1 + k) (place_by xs y ys all.1 e) ∙ omega arith

pub found_by : (p k n : ℕ) → p ≡ k → k < n → cond (nat_lt p n) (Some p) None ≡ Some k
found_by p k n e low =
    let there : nat_lt p n ≡ true = grind (arith, nat_tests) in ap (λ b. cond b (Some p) None) there ∙ ap Some e

place_is : (xs ys : List (List ℕ)) → AllByRecursion IsOtherLine xs
    → position is_history (xs ++ codes "$HISTORY" ∷ ys) ≡ Some (length xs)
place_is xs ys all =
    found_by (position_or_len is_history (xs ++ codes "$HISTORY" ∷ ys)) (length xs) (length (xs ++ codes "$HISTORY" ∷ ys))
    (place_by xs (codes "$HISTORY") ys all refl) (omega (arith, length-append xs (codes "$HISTORY" ∷ ys)))

-- The record with the same lines is the text of the network.

text_section : {A : Type 0} (f g : A → List ℕ) → ((x : A) → f x ≡ g x ++ 10 ∷ []) → ((x : A) → record_line (g x) ≡ g x ++ 10 ∷ [])
    → (xs : List A) (rest : List (List ℕ)) → flat_map record_line (map g xs ++ rest) ≡ flat_map f xs ++ flat_map record_line rest
text_section f g is same [] rest = refl
text_section f g is same (x ∷ xs) rest =
    ap (λ l. l ++ flat_map record_line (map g xs ++ rest)) (same x ∙ sym (is x))
    ∙ ap (λ l. f x ++ l) (text_section f g is same xs rest)
    ∙ sym (append_assoc (f x) (flat_map f xs) (flat_map record_line rest))

carry_section : (c : Carry) → flat_map record_line (map carry_text (told c) ++ []) ≡ carry_line c
carry_section carry.Yes = refl
carry_section carry.No = refl
carry_section carry.All = refl

text_is : (net : Net) → flat_map record_line (net_lines net []) ≡ network_text net
unfolding network_text
text_is net =
    let prompts : List (List ℕ) = map prompt_text net.prompts ++ (map carry_text (told net.carry) ++ []) in
    ap (λ l. codes "$NETWORK\n" ++ l)
    (text_section (node_line net) (node_text net) (node_line_is net) (λ x. refl) net.nodes
    (map (resource_text net) net.resources ++ prompts)
    ∙ ap (λ l. flat_map (node_line net) net.nodes ++ l)
    (text_section (resource_line net) (resource_text net) (resource_line_is net) (λ x. refl) net.resources prompts
    ∙ ap (λ l. flat_map (resource_line net) net.resources ++ l)
    (text_section prompt_line prompt_text prompt_line_is (λ x. refl) net.prompts (map carry_text (told net.carry) ++ [])
    ∙ ap (λ l. flat_map prompt_line net.prompts ++ l) (carry_section net.carry))))
    ∙ sym (left_five (codes "$NETWORK\n") (flat_map (node_line net) net.nodes) (flat_map (resource_line net) net.resources)
    (flat_map prompt_line net.prompts) (carry_line net.carry))

pub begins : (net : Net) → IsPrintable net → net_fault net ≡ None → (more : List (List ℕ)) → IsBegun net (as_printed net) more
unfolding network_of record_text
begins net p none more =
    let lines = lines_here net (ready_here net p none) in
    let front : List (List ℕ) = net_lines net [] in
    let text : flat_map record_line (take (length front) (front ++ codes "$HISTORY" ∷ more)) ≡ network_text net =
    ap (flat_map record_line) (take-append_seam front (codes "$HISTORY" ∷ more)) ∙ text_is net in
    record {
      place = ap (λ l. position is_history (l ++ codes "$HISTORY" ∷ more)) lines ∙ place_is front more (others net)
          ∙ ap (λ l. Some (length l)) (sym lines);
      network = ap (λ l. net_or_fault (read_of (flat_map record_line (take (length l) (l ++ codes "$HISTORY" ∷ more)) ++ codes "$STEPS\n"))) lines
          ∙ ap (λ l. net_or_fault (read_of (l ++ codes "$STEPS\n"))) text ∙ ap net_or_fault (read_back net p none);
    }

-- Where no manager has FULLSTATUS ON, nothing is lost.

whole_full : (full manager : Bool) → (full && manager) ≡ false → (full && not manager) ≡ full
whole_full true true e = absurd (cc)
whole_full true false e = refl
whole_full false manager e = refl

abbrev with_full : Node → Bool → Node
with_full n b = record { name = n.name; hop = n.hop; manager = n.manager; full = b }

nodes_whole : (ns : List Node) → AllByRecursion (λ (n : Node). (n.full && n.manager) ≡ false) ns → map node_as_printed ns ≡ ns
nodes_whole [] all = refl
nodes_whole (n ∷ ns) all =
    ap (λ x. x ∷ map node_as_printed ns) (ap (with_full n) (whole_full n.full n.manager all.0))
    ∙ ap (λ l. n ∷ l) (nodes_whole ns all.1)

abbrev with_nodes : Net → List Node → Net
with_nodes net ns = record { nodes = ns; resources = net.resources; prompts = net.prompts; carry = net.carry }

pub told_whole : (net : Net) → IsToldWhole net → as_printed net ≡ net
told_whole net all = ap (with_nodes net) (nodes_whole net.nodes all)
