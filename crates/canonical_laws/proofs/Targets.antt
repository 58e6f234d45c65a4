-- What a FOLLOWS stands for, as it is written and in its normal form.
use Rattle.std.proofs.Common.{◌≡◌, ℕ, ◌&&◌, Bool, true, false, cond, List, Option, Some, None, refl, ap, sym, ◌∙◌}
use Rattle.std.proofs.Common.{option_map, option_and_then}
use Rattle.std.specs.Option.{option_or}
use Rattle.composer_parser.specs.declared.Defs.{Defs}
use Rattle.composer_parser.specs.declared.Pred.{Pred}
use Rattle.composer_parser.specs.declared.PredPart.{PredPart}
use Rattle.composer_parser.specs.declared.PredPart.TheVariants as part
use Rattle.composer_print.specs.Scopes.{has_name, normal_pred}
use Rattle.definition_names.specs.Streams.{stream_at, entry_of}
use Rattle.definition_names.specs.Targets.{is_bare, ws_of_pred, part_at, target_of}
use Rattle.definition_names.specs.declared.Target.TheVariants.{Job}
use Rattle.canonical_laws.proofs.Homes.{home_of, Alike}

-- in definitions in which names stand for the same
part_alike : (d e : Defs) → Alike d e → (q : PredPart) (m : ℕ) → part_at e q m ≡ part_at d q m
part_alike d e a part.Plain m = refl
part_alike d e a part.All m = refl
part_alike d e a (part.Job name) m = ap (option_map (Job m)) (a.entries m name)

target_alike : (d e : Defs) → Alike d e → (n : ℕ) (inside : Bool) (p : Pred)
    → target_of e n inside p ≡ target_of d n inside p
target_alike d e a n inside p =
    let found : stream_at e (ws_of_pred e n p) p.name ≡ stream_at d (ws_of_pred d n p) p.name =
    a.streams (ws_of_pred e n p) p.name ∙ ap (λ h. stream_at d (option_or p.ws h) p.name) (a.homes n) in
    λ i. option_or (cond (inside && is_bare p) (option_map (Job n) (a.entries n p.name i)) None)
    (option_and_then (λ m. part_alike d e a p.part m i) (found i))

-- a name that is none of these is no entry of the stream
abbrev pub AreEntries : Defs → ℕ → Bool → List (List ℕ) → Type 0
AreEntries d n inside names = (name : List ℕ) → has_name names name ≡ false → inside ≡ true → entry_of d n name ≡ None

-- one name alone
by_name : (d : Defs) (n : ℕ) (inside : Bool) (names : List (List ℕ)) (name : List ℕ) (h : Option (List ℕ)) (b : Bool)
    → home_of d n ≡ h → has_name names name ≡ b → (b ≡ false → inside ≡ true → entry_of d n name ≡ None)
    → target_of d n inside (normal_pred names h (record { ws = None; name = name; part = part.Plain }))
    ≡ target_of d n inside (record { ws = None; name = name; part = part.Plain })
unfolding normal_pred
by_name d n inside names name h true eh eb k = rw eb refl
by_name d n inside names name None false eh eb k = rw eb refl
by_name d n true names name (Some w) false eh eb k =
    let none : entry_of d n name ≡ None = k refl refl in
    rw eb
    (sym (λ i. option_or (option_map (Job n) (none i))
    (option_and_then (part_at d part.Plain) (stream_at d (eh i) name))))
by_name d n false names name (Some w) false eh eb k =
    rw eb (sym (λ i. option_and_then (part_at d part.Plain) (stream_at d (eh i) name)))

by_parts : (d : Defs) (n : ℕ) (inside : Bool) (names : List (List ℕ)) → AreEntries d n inside names
    → (ws : Option (List ℕ))
    (name : List ℕ) (q : PredPart) (h : Option (List ℕ)) → home_of d n ≡ h
    → target_of d n inside (normal_pred names h (record { ws = ws; name = name; part = q }))
    ≡ target_of d n inside (record { ws = ws; name = name; part = q })
unfolding normal_pred
by_parts d n inside names k None name part.Plain h eh =
    by_name d n inside names name h (has_name names name) eh refl (k name)
by_parts d n inside names k None name part.All None eh = refl
by_parts d n inside names k None name part.All (Some w) eh =
    sym (λ i. option_or (cond (inside && false) (option_map (Job n) (entry_of d n name)) None)
    (option_and_then (part_at d part.All) (stream_at d (eh i) name)))
by_parts d n inside names k None name (part.Job j) None eh = refl
by_parts d n inside names k None name (part.Job j) (Some w) eh =
    sym (λ i. option_or (cond (inside && false) (option_map (Job n) (entry_of d n name)) None)
    (option_and_then (part_at d (part.Job j)) (stream_at d (eh i) name)))
by_parts d n inside names k (Some w) name part.Plain h eh = refl
by_parts d n inside names k (Some w) name part.All h eh = refl
by_parts d n inside names k (Some w) name (part.Job j) h eh = refl

pred_means : (d : Defs) (n : ℕ) (inside : Bool) (names : List (List ℕ)) (home : Option (List ℕ))
    → AreEntries d n inside names
    → home_of d n ≡ home → (p : Pred) → target_of d n inside (normal_pred names home p) ≡ target_of d n inside p
pred_means d n inside names home k eh p = by_parts d n inside names k p.ws p.name p.part home eh

pub target_kept : (d e : Defs) → Alike d e → (n : ℕ) (inside : Bool) (names : List (List ℕ)) (home : Option (List ℕ))
    → AreEntries d n inside names → home_of d n ≡ home → (p : Pred)
    → target_of e n inside (normal_pred names home p) ≡ target_of d n inside p
target_kept d e a n inside names home k eh p =
    target_alike d e a n inside (normal_pred names home p) ∙ pred_means d n inside names home k eh p
