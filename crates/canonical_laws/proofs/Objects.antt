-- The faults of the clauses of a stream or of an entry, as they are written and in normal form.
use Rattle.std.proofs.Common.{◌≡◌, ◌≤◌, ℕ, eqb, nat_lt, ◌||◌, not, Bool, true, false, cond, List, [], Option, Some}
use Rattle.std.proofs.Common.{None, refl, ap, sym, subst, ◌∙◌, is_none}
use Rattle.std.specs.Option.{option_map_or}
use Rattle.lemmas.proofs.Numbers.{number_tells}
use Rattle.lemmas.proofs.Texts.{text_itself}
use Rattle.composer_parser.specs.declared.Lined.{Lined}
use Rattle.composer_parser.specs.declared.Defs.{Defs}
use Rattle.composer_parser.specs.declared.Clause.{Clause}
use Rattle.composer_parser.specs.declared.Need.{Need}
use Rattle.composer_parser.specs.declared.Pred.{Pred}
use Rattle.composer_parser.specs.declared.PromptItem.{PromptItem}
use Rattle.composer_parser.specs.declared.PromptItem.TheVariants as ask
use Rattle.composer_print.specs.Normal.{all_unlined}
use Rattle.composer_print.specs.Scopes.{or_home, is_own, pred_ws, normal_pred, normal_need, normal_clauses}
use Rattle.composer_print.specs.Streams.{items}
use Rattle.composer_print.proofs.Joins.{items_unlined}
use Rattle.definition_names.specs.Names.{first_of, first_on}
use Rattle.definition_faults.specs.Clauses.{is_foreign, is_foreign_ws, clause_faults}
use Rattle.definition_faults.specs.Ranges.{needs_too_many, dependency_count, is_out_of_range}
use Rattle.definition_faults.specs.Unknown.{is_unknown_ws, is_unknown_pred, is_unknown_need, is_unknown_prompt}
use Rattle.canonical_laws.proofs.Lists.{Both}
use Rattle.canonical_laws.proofs.Homes.{home_of, Alike}
use Rattle.canonical_laws.proofs.Targets.{AreEntries, target_kept}
use Rattle.canonical_laws.proofs.Weights.{weight, total, weighed}
use Rattle.canonical_laws.proofs.Counts.{bit, unknown_weights, range_weights, foreign_weights, all_weights, AreGood}
use Rattle.canonical_laws.proofs.Counts.{good_of, faults_of}

-- workstations
pub ws_alike : (d e : Defs) → Alike d e → (ws : Option (List ℕ)) → is_unknown_ws e ws ≡ is_unknown_ws d ws
ws_alike d e a None = refl
ws_alike d e a (Some w) = ap (λ ns. is_none (first_of ns w)) a.cpus

-- a workstation that is known is put where none is written
pub ws_put : (d : Defs) (ws home : Option (List ℕ)) → is_unknown_ws d home ≡ false
    → is_unknown_ws d (or_home ws home) ≡ is_unknown_ws d ws
ws_put d None home known = known
ws_put d (Some w) home known = refl

put_unless : (d : Defs) (b : Bool) (ws home : Option (List ℕ)) → is_unknown_ws d home ≡ false
    → is_unknown_ws d (cond b ws (or_home ws home)) ≡ is_unknown_ws d ws
put_unless d true ws home known = refl
put_unless d false ws home known = ws_put d ws home known

-- what is followed
pred_ws_kept : (d e : Defs) → Alike d e → (names : List (List ℕ)) (home : Option (List ℕ))
    → is_unknown_ws d home ≡ false → (p : Pred)
    → is_unknown_ws e (normal_pred names home p).ws ≡ is_unknown_ws d p.ws
unfolding normal_pred
pred_ws_kept d e a names home known p =
    ws_alike d e a (pred_ws names home p) ∙ put_unless d (is_own names p) p.ws home known

pred_kept : (d e : Defs) → Alike d e → (n : ℕ) (inside : Bool) (names : List (List ℕ)) (home : Option (List ℕ))
    → AreEntries d n inside names → home_of d n ≡ home → is_unknown_ws d home ≡ false → (p : Pred)
    → is_unknown_pred e n inside (normal_pred names home p) ≡ is_unknown_pred d n inside p
pred_kept d e a n inside names home k eh known p =
    λ i. pred_ws_kept d e a names home known p i || is_none (target_kept d e a n inside names home k eh p i)

-- what is needed
need_by : (d e : Defs) → Alike d e → (own : Option (List ℕ)) → is_unknown_ws d own ≡ false
    → (units : Option ℕ) (ws : Option (List ℕ))
    (name : List ℕ)
    → is_unknown_need e own (normal_need own (record { units = units; ws = ws; name = name }))
    ≡ is_unknown_need d own (record { units = units; ws = ws; name = name })
unfolding normal_need
need_by d e a own known units (Some w) name =
    λ i. is_none (first_of (a.cpus i) w) || is_none (first_on (a.resources i) w name)
need_by d e a None known units None name = refl
need_by d e a (Some o) known units None name =
    λ i. (ws_alike d e a (Some o) ∙ known) i || is_none (first_on (a.resources i) o name)

need_kept : (d e : Defs) → Alike d e → (own : Option (List ℕ)) → is_unknown_ws d own ≡ false → (x : Need)
    → is_unknown_need e own (normal_need own x) ≡ is_unknown_need d own x
need_kept d e a own known x = need_by d e a own known x.units x.ws x.name

prompt_kept : (d e : Defs) → Alike d e → (p : PromptItem) → is_unknown_prompt e p ≡ is_unknown_prompt d p
prompt_kept d e a (ask.Name name) = ap (λ ns. is_none (first_of ns name)) a.prompts
prompt_kept d e a (ask.Own text) = refl

foreign_by : (ws own : Option (List ℕ)) → is_foreign_ws (or_home ws own) own ≡ is_foreign_ws ws own
foreign_by (Some w) own = refl
foreign_by None None = refl
foreign_by None (Some o) = ap not (text_itself o)

foreign_kept : (own : Option (List ℕ)) (x : Need) → is_foreign own (normal_need own x) ≡ is_foreign own x
unfolding normal_need
foreign_kept own x = foreign_by x.ws own

units_test : (n : ℕ) (b : Bool) → eqb n 1 ≡ b
    → option_map_or (λ units. nat_lt 1024 units) (cond b None (Some n)) false ≡ nat_lt 1024 n
units_test n true e = sym (ap (λ k. nat_lt 1024 k) (number_tells n 1 e))
units_test n false e = refl

units_by : (own : Option (List ℕ)) (units : Option ℕ) (ws : Option (List ℕ)) (name : List ℕ)
    → needs_too_many (normal_need own (record { units = units; ws = ws; name = name }))
    ≡ needs_too_many (record { units = units; ws = ws; name = name })
unfolding normal_need
units_by own None ws name = refl
units_by own (Some n) ws name = units_test n (eqb n 1) refl

units_kept : (own : Option (List ℕ)) (x : Need) → needs_too_many (normal_need own x) ≡ needs_too_many x
units_kept own x = units_by own x.units x.ws x.name

-- all of them
module _ (d e : Defs) (a : Alike d e) (n : ℕ) (inside : Bool) (names : List (List ℕ)) (home own : Option (List ℕ))
    (k : AreEntries d n inside names) (eh : home_of d n ≡ home) (hk : is_unknown_ws d home ≡ false)
    (ok : is_unknown_ws d own ≡ false) where
  unknown_same : (cs : List Clause)
      → total (weight (unknown_weights e n inside own)) (normal_clauses names home own cs)
      ≡ total (weight (unknown_weights d n inside own)) cs
  unknown_same cs =
      weighed (λ c. 0) (λ p. bit (is_unknown_pred d n inside p)) (λ p. bit (is_unknown_pred e n inside p))
      (λ x. bit (is_unknown_need d own x)) (λ x. bit (is_unknown_need e own x)) (λ p. bit (is_unknown_prompt d p))
      (λ p. bit (is_unknown_prompt e p)) (λ f. 0) names home own refl
      (λ p. ap bit (pred_kept d e a n inside names home k eh hk p)) (λ x. ap bit (need_kept d e a own ok x))
      (λ p. ap bit (prompt_kept d e a p)) cs

  range_same : (cs : List Clause)
      → total (weight range_weights) (normal_clauses names home own cs) ≡ total (weight range_weights) cs
  range_same cs =
      weighed (λ c. bit (is_out_of_range c)) (λ p. 0) (λ p. 0) (λ x. bit (needs_too_many x))
      (λ x. bit (needs_too_many x))
      (λ p. 0) (λ p. 0) range_weights.file names home own refl (λ p. refl) (λ x. ap bit (units_kept own x))
      (λ p. refl) cs

  foreign_same : (cs : List Clause)
      → total (weight (foreign_weights own)) (normal_clauses names home own cs) ≡ total
      (weight (foreign_weights own)) cs
  foreign_same cs =
      weighed (λ c. 0) (λ p. 0) (λ p. 0) (λ x. bit (is_foreign own x)) (λ x. bit (is_foreign own x)) (λ p. 0) (λ p. 0)
      (λ f. 0)
      names home own refl (λ p. refl) (λ x. ap bit (foreign_kept own x)) (λ p. refl) cs

  all_same : (cs : List Clause)
      → total (weight all_weights) (normal_clauses names home own cs) ≡ total (weight all_weights) cs
  all_same cs =
      weighed (λ c. dependency_count c) (λ p. 1) (λ p. 1) (λ x. 1) (λ x. 1) (λ p. 1) (λ p. 1)
      (λ f. 1) names home own refl
      (λ p. refl) (λ x. refl) (λ p. refl) cs

  good_kept : (cs : List Clause)
      → Both (AreGood d n inside own cs) (AreGood e n inside own (normal_clauses names home own cs))
  good_kept cs = (
    λ g. record {
      unknown = unknown_same cs ∙ g.unknown;
      range = range_same cs ∙ g.range;
      foreign = foreign_same cs ∙ g.foreign;
      few = subst (λ t. t ≤ 64) (sym (all_same cs)) g.few;
    },
    λ g. record {
      unknown = sym (unknown_same cs) ∙ g.unknown;
      range = sym (range_same cs) ∙ g.range;
      foreign = sym (foreign_same cs) ∙ g.foreign;
      few = subst (λ t. t ≤ 64) (all_same cs) g.few;
    },
  )

  pub clauses_both : (cs : List (Lined Clause))
      → Both (clause_faults d n inside own cs ≡ [])
      (clause_faults e n inside own (all_unlined (normal_clauses names home own (items cs))) ≡ [])
  clauses_both cs =
      let forms : List Clause = normal_clauses names home own (items cs) in
      let same : items (all_unlined forms) ≡ forms = items_unlined forms in (
        λ none.
            faults_of e n inside own (all_unlined forms)
            (subst (AreGood e n inside own) (sym same) ((good_kept (items cs)).0 (good_of d n inside own cs none))),
        λ none.
            faults_of d n inside own cs
            ((good_kept (items cs)).1
            (subst (AreGood e n inside own) same (good_of e n inside own (all_unlined forms) none))),
      )
