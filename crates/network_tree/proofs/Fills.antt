-- How a row of the table is filled: up the chain of hops, each hop is given the one before it.
use Rattle.std.proofs.Common.{◌≡◌, ◌⊎◌, ◌<◌, ℕ, ◌∷◌, List, None, Option, Some, ap}
use Rattle.std.proofs.Common.{arith}
use Rattle.std.proofs.Common.{eqb, get_or, get_or-set_other, get_or-set_same, false, if◌then◌else◌, inl, inr, is_some}
use Rattle.std.proofs.Common.{drop, length, length-set, map, refl, set, subst, suc, sym, true, unwrap_or, zero, ◌∙◌}
use Rattle.std.proofs.lemmas.Bool.Decides.{eqb_tells, nat_tests}
use Rattle.std.proofs.lemmas.List.FromFn.{fill_by_all, get_or-map-range_with_len, length-map-range_with_len}
use Rattle.std.specs.List.{range_with_len}
use Rattle.std.specs.Option.{option_or}
use Rattle.model_laws.proofs.Numbers.{numbers-range}
use Rattle.model.specs.Network.{IsTree, chain, climb, hop, node_count, one_before}
use Rattle.model.specs.Types.{Net}
use Rattle.model.specs.Words.{below, has}
use Rattle.network_tree.specs.Ways.{row, way}
use Rattle.network_tree.proofs.Climbs.{above, before_has}
use Rattle.network_tree.proofs.Trees.{hop_inside, not_behind_itself, way_is}

-- the hop of each, and its own number where it has none
abbrev pub own_hops : Net → List ℕ
own_hops net = map (λ w. unwrap_or (hop net w) w) (below (node_count net))

-- what is to stand at a in the row of b
abbrev pub goal_at : Net → ℕ → ℕ → ℕ
goal_at net b a = unwrap_or (option_or (one_before a (chain net b)) (hop net a)) a

-- what the chain above last, of m places, still brings makes the row whole
pub record Fills (net : Net) (b : ℕ) (cells : List ℕ) (m last : ℕ) : Type 0 where
  pub inside : last < node_count net
  pub wide : length cells ≡ node_count net
  pub whole : (a : ℕ) → a < node_count net
      → goal_at net b a ≡ unwrap_or (one_before a (climb net m last)) (get_or cells a 0)

module _ (net : Net) (b : ℕ) where
  pub fills_first : (cells : List ℕ) (m : ℕ) → cells ≡ own_hops net → m ≡ node_count net → b < node_count net
      → Fills net b cells m b
  fills_first cells m is all low =
      let n = node_count net in
      let own : ℕ → ℕ = λ w. unwrap_or (hop net w) w in
      let spread : cells ≡ map own (range_with_len 0 n) = is ∙ ap (map own) (numbers-range 0 n) in
      record {
        inside = low;
        wide = ap length spread ∙ length-map-range_with_len own 0 n;
        whole =
            λ a inside.
            let at : get_or cells a 0 ≡ own a =
            ap (λ l. get_or l a 0) spread ∙ get_or-map-range_with_len own 0 n a a 0 inside (omega arith) in
            go (one_before a (chain net b)) (hop net a) a
            ∙ (ap (λ v. unwrap_or (one_before a (chain net b)) v) (sym at)
            ∙ ap (λ k. unwrap_or (one_before a (climb net k b)) (get_or cells a 0)) (sym all));
      }
    where
      go : (o p : Option ℕ) (a : ℕ) → unwrap_or (option_or o p) a ≡ unwrap_or o (unwrap_or p a)
      go None p a = refl
      go (Some x) p a = refl

  pub fills_more : IsTree net → (cells : List ℕ) (m k last next : ℕ) → Fills net b cells m last
      → hop net last ≡ Some next → m ≡ suc k → 0 < k → Fills net b (set cells next last) k next
  fills_more t cells m zero last next f e is some = absurd (omega arith)
  fills_more t cells m (suc k) last next f e is some =
      record {
        inside = low;
        wide = length-set cells next last ∙ f.wide;
        whole =
            λ a inside.
            f.whole a inside
            ∙ (ap (λ v. unwrap_or (one_before a (climb net v last)) (get_or cells a 0)) is ∙ step a inside);
      }
    where
      low : next < node_count net
      low = hop_inside net t last next e

      rest : ℕ → Option ℕ
      rest a = one_before a (climb net (suc k) next)

      nobody : (p : Option ℕ) → is_some p ≡ false → p ≡ None
      nobody None g = refl
      nobody (Some x) g = cc

      shape : (a : ℕ) → one_before a (climb net (suc (suc k)) last) ≡ (if eqb next a then Some last else rest a)
      shape a = ap (λ h. one_before a (last ∷ above net (suc k) h)) e

      step : (a : ℕ) → a < node_count net
          → unwrap_or (one_before a (climb net (suc (suc k)) last)) (get_or cells a 0)
          ≡ unwrap_or (rest a) (get_or (set cells next last) a 0)
      step a inside =
          elim (eqb_tells next a) [
            | inl h ↦
                let now : unwrap_or (one_before a (climb net (suc (suc k)) last)) (get_or cells a 0) ≡ last =
                ap (λ p. unwrap_or p (get_or cells a 0))
                (shape a ∙ ap (λ c. if c then Some last else rest a) h.0) in
                let none : rest a ≡ None =
                nobody (rest a) (before_has a (climb net (suc k) next)
                ∙ subst (λ v. has (drop 1 (climb net (suc k) next)) v ≡ false) h.1
                (not_behind_itself net t (suc k) next low)) in
                let there : get_or (set cells next last) a 0 ≡ last =
                subst (λ v. get_or (set cells next last) v 0 ≡ last) h.1
                (get_or-set_same cells next last 0 (omega (arith, low, f.wide))) in
                now ∙ sym (ap (λ p. unwrap_or p (get_or (set cells next last) a 0)) none ∙ there)
            | inr h ↦
                let stays : get_or (set cells next last) a 0 ≡ get_or cells a 0 =
                get_or-set_other cells next a last 0 (λ z. h.1 (sym z)) in
                ap (λ p. unwrap_or p (get_or cells a 0)) (shape a ∙ ap (λ c. if c then Some last else rest a) h.0)
                ∙ ap (λ v. unwrap_or (rest a) v) (sym stays)
          ]

  -- with nothing more above, the row is whole but for its own place
  pub fills_all : (cells : List ℕ) (m last : ℕ) → Fills net b cells m last → (m ≡ 1) ⊎ (hop net last ≡ None)
      → b < node_count net → set cells b b ≡ row net b
  fills_all cells m last f over low =
      let n = node_count net in
      fill_by_all (λ a. way net a b) (set cells b b) n 0 (length-set cells b b ∙ f.wide) each
      ∙ ap (map (λ a. way net a b)) (sym (numbers-range 0 n))
    where
      alone : (a : ℕ) (o : Option ℕ) → one_before a (last ∷ above net 0 o) ≡ None
      alone a None = refl
      alone a (Some x) = refl

      ended : (a k : ℕ) → (k ≡ 1) ⊎ (hop net last ≡ None) → one_before a (climb net k last) ≡ None
      ended a zero h = refl
      ended a (suc k) (inl h) =
          let none : k ≡ 0 = omega arith in
          subst (λ v. one_before a (climb net (suc v) last) ≡ None) (sym none) (alone a (hop net last))
      ended a (suc k) (inr h) = ap (λ o. one_before a (last ∷ above net k o)) h

      own_way : way net b b ≡ b
      own_way = rw (itself b) refl
        where
          itself : (v : ℕ) → eqb v v ≡ true
          itself v = grind (arith, nat_tests)

      each : (a : ℕ) → a < node_count net → get_or (set cells b b) a 0 ≡ way net a b
      each a inside =
          elim (eqb_tells a b) [
            | inl h ↦
                subst (λ v. get_or (set cells b b) v 0 ≡ way net v b) (sym h.1)
                (get_or-set_same cells b b 0 (omega (arith, f.wide)) ∙ sym own_way)
            | inr h ↦
                get_or-set_other cells b a b 0 h.1
                ∙ (sym (f.whole a inside ∙ ap (λ o. unwrap_or o (get_or cells a 0)) (ended a m over))
                ∙ ap (λ o. unwrap_or o a) (sym (way_is net a b h.1)))
          ]
