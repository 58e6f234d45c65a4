-- The text of a network as lines.
use Rattle.std.proofs.Common.{◌≡◌, ◌<◌, ◌≤◌, ◌^◌, ℕ, List, [], ◌∷◌, ◌++◌, refl, ap, sym, subst, ◌∙◌, arith}
use Rattle.std.proofs.Common.{map, flat_map, append_assoc, codes}
use Rattle.std.specs.List.{AllByRecursion}
use Rattle.std.specs.Option.{option_map_or}
use Rattle.base_types.specs.declared.network.Carry.{Carry}
use Rattle.base_types.specs.declared.network.Carry.TheVariants as carry
use Rattle.model.specs.Types.{Net, Node, Resource}
use Rattle.plan_listing.specs.Networks.{carry_line, hop_name, network_text, node_line, prompt_line, resource_line}
use Rattle.report_text.specs.Names.{name_of}
use Rattle.syntax.specs.Splits.{lines_of}
use Rattle.history_laws.specs.Printables.{IsKeptName, IsNamedNode, IsNamedPrompt, IsNamedResource, IsPrintable}
use Rattle.history_laws.proofs.Accepted.{Accepted, Headed, IsGood, IsHung, good_each}
use Rattle.history_laws.proofs.Lines.{Lacks, each_line, left_six, line_first}
use Rattle.history_laws.proofs.Named.{kept_at}
use Rattle.history_laws.proofs.Printed.{carry_text, node_lacks_feed, node_line_is, node_text, prompt_lacks_feed, prompt_line_is}
use Rattle.history_laws.proofs.Printed.{prompt_text, resource_lacks_feed, resource_line_is, resource_text, told}
use Rattle.history_laws.proofs.Words.{name_lacks_feed, plain_lacks_feed}

-- the lines, and those behind them
abbrev pub net_lines : Net → List (List ℕ) → List (List ℕ)
net_lines net more =
    codes "$NETWORK" ∷ (map (node_text net) net.nodes ++ (map (resource_text net) net.resources
    ++ (map prompt_text net.prompts ++ (map carry_text (told net.carry) ++ more))))

-- What each has that is a line.

pub record IsNodeLine (net : Net) (n : Node) : Type 0 where
  pub name : IsKeptName n.name
  pub hop : Lacks 10 (hop_name net n)

pub record IsResourceLine (net : Net) (r : Resource) : Type 0 where
  pub ws : IsKeptName (name_of net r.ws)
  pub name : IsKeptName r.name
  pub total : r.total ≤ 1024

pub record IsReady (net : Net) : Type 0 where
  pub nodes : AllByRecursion (IsNodeLine net) net.nodes
  pub resources : AllByRecursion (IsResourceLine net) net.resources
  pub prompts : AllByRecursion IsNamedPrompt net.prompts

joined : {A : Type 0} (P Q R : A → Type 0) → ((x : A) → P x → Q x → R x) → (xs : List A) → AllByRecursion P xs
    → AllByRecursion Q xs → AllByRecursion R xs
joined P Q R both [] all every = tt
joined P Q R both (x ∷ xs) all every = (both x all.0 every.0, joined P Q R both xs all.1 every.1)

pub ready : (net : Net) → IsPrintable net → Accepted net → Headed net → IsReady net
ready net p a h =
    let names : AllByRecursion IsNamedNode (h.master ∷ h.others) = subst (AllByRecursion IsNamedNode) h.whole p.nodes in
    let top : hop_name net h.master ≡ codes "" = ap (λ o. option_map_or (name_of net) o (codes "")) h.top in
    record {
      nodes = subst (AllByRecursion (IsNodeLine net)) (sym h.whole) (
        record { name = names.0; hop = subst (Lacks 10) (sym top) tt },
        joined IsNamedNode (IsHung net) (IsNodeLine net) other h.others names.1 h.hung,
      );
      resources = joined IsNamedResource (IsGood net) (IsResourceLine net)
          (λ r name g. record { ws = kept_at net p.nodes r.ws g.ws; name = name; total = g.total }) net.resources p.resources
          (good_each net net.resources a.good);
      prompts = p.prompts;
    }
  where
    other : (x : Node) → IsNamedNode x → IsHung net x → IsNodeLine net x
    other x name g =
        let up : hop_name net x ≡ name_of net g.up = ap (λ o. option_map_or (name_of net) o (codes "")) g.is in
        record {
          name = name;
          hop = subst (Lacks 10) (sym up) (name_lacks_feed (name_of net g.up) (kept_at net p.nodes g.up g.inside));
        }

-- The lines.

carry_lines : (c : Carry) (rest : List ℕ) → lines_of (carry_line c ++ rest) ≡ map carry_text (told c) ++ lines_of rest
carry_lines carry.Yes rest = refl
carry_lines carry.No rest =
    line_first (codes "carryforward no") rest (plain_lacks_feed (codes "carryforward no") refl)
carry_lines carry.All rest =
    line_first (codes "carryforward all") rest (plain_lacks_feed (codes "carryforward all") refl)

small : (n : ℕ) → n ≤ 1024 → n < 2 ^ 64
small n h = omega (arith, h)

pub text_lines : (net : Net) → IsReady net → (rest : List ℕ) → lines_of (network_text net ++ rest) ≡ net_lines net (lines_of rest)
unfolding network_text
text_lines net r rest =
    let nodes : List ℕ = flat_map (node_line net) net.nodes in
    let resources : List ℕ = flat_map (resource_line net) net.resources in
    let prompts : List ℕ = flat_map prompt_line net.prompts in
    let carry_ : List ℕ = carry_line net.carry in
    ap lines_of (left_six (codes "$NETWORK\n") nodes resources prompts carry_ rest)
    ∙ line_first (codes "$NETWORK") (nodes ++ (resources ++ (prompts ++ (carry_ ++ rest)))) (plain_lacks_feed (codes "$NETWORK") refl)
    ∙ ap (λ l. codes "$NETWORK" ∷ l)
    (each_line (IsNodeLine net) (node_line net) (node_text net) (node_line_is net)
    (λ x g. node_lacks_feed net x g.name g.hop) net.nodes r.nodes (resources ++ (prompts ++ (carry_ ++ rest)))
    ∙ ap (λ l. map (node_text net) net.nodes ++ l)
    (each_line (IsResourceLine net) (resource_line net) (resource_text net) (resource_line_is net)
    (λ x g. resource_lacks_feed net x g.ws g.name (small x.total g.total)) net.resources r.resources (prompts ++ (carry_ ++ rest))
    ∙ ap (λ l. map (resource_text net) net.resources ++ l)
    (each_line IsNamedPrompt prompt_line prompt_text prompt_line_is (λ x g. prompt_lacks_feed x g.name g.text) net.prompts
    r.prompts (carry_ ++ rest)
    ∙ ap (λ l. map prompt_text net.prompts ++ l) (carry_lines net.carry rest))))

-- the lines above others
pub lines_above : (net : Net) (more : List (List ℕ)) → net_lines net more ≡ net_lines net [] ++ more
lines_above net more =
    let nodes = map (node_text net) net.nodes in
    let resources = map (resource_text net) net.resources in
    let prompts = map prompt_text net.prompts in
    let carry_ = map carry_text (told net.carry) in
    sym (ap (λ l. codes "$NETWORK" ∷ l)
    (append_assoc nodes (resources ++ (prompts ++ (carry_ ++ []))) more
    ∙ ap (λ l. nodes ++ l)
    (append_assoc resources (prompts ++ (carry_ ++ [])) more
    ∙ ap (λ l. resources ++ l)
    (append_assoc prompts (carry_ ++ []) more ∙ ap (λ l. prompts ++ l) (append_assoc carry_ [] more)))))
