-- Tables of names, one name further, and lists that are made of others.
use Rattle.std.proofs.Common.{◌≡◌, ℕ, ◌+◌, ◌<◌, Bool, true, false, cond, List, [], ◌∷◌, ◌++◌, bytes_eq, drop, eqb, get_or, length, map, take}
use Rattle.std.proofs.Common.{Bor, Option, Some, ap, arith, refl, sym, subst, ◌∙◌}
use Rattle.std.proofs.Common.{All}
use Rattle.std.proofs.Math.ListN.{get_or-map}
use Rattle.std.proofs.lemmas.List.{append-nil, append_assoc, drop_more, length-map, length-take-le, map-append, take-map, take_more}
use Rattle.std.specs.List.{enumerate_from, position_from}
use Rattle.lemmas.proofs.Numbers.{number_itself, number_tells}
use Rattle.lemmas.proofs.Texts.{text_itself, text_tells}
use Rattle.indexmap.specs.IndexMap.{insert_entry}
use Rattle.composer_parser.specs.declared.CpuDef.{CpuDef}
use Rattle.composer_parser.specs.declared.Defs.{Defs}
use Rattle.composer_parser.specs.declared.Lined.{Lined}
use Rattle.lemmas.proofs.Inserted.{inserted}
use Rattle.workload_defs.specs.Stations.{is_that, one_of, those}
use Rattle.workload_defs.specs.Tables.{cpus_seen, name_of, number_at, number_in}

-- a name
pub name_put : (es new : List (List ℕ × ℕ)) (k : List ℕ) (n : ℕ)
    → new ≡ insert_entry (λ (p q : List ℕ). bytes_eq p q) es k n
    → (name : List ℕ) → number_in new name ≡ cond (bytes_eq name k) (Some n) (number_in es name)
name_put es new k n grown name =
    ap (λ (l : List (List ℕ × ℕ)). number_in l name) grown
    ∙ inserted (λ (t : List ℕ). t) bytes_eq text_tells text_itself name es k n

-- a number
pub number_put : (es new : List (ℕ × ℕ)) (k n : ℕ) → new ≡ insert_entry (λ (p q : ℕ). eqb p q) es k n
    → (key : ℕ) → number_at new key ≡ cond (eqb key k) (Some n) (number_at es key)
number_put es new k n grown key =
    ap (λ (l : List (ℕ × ℕ)). number_at l key) grown
    ∙ inserted (λ (m : ℕ). m) eqb number_tells number_itself key es k n

-- the first of a name among workstations behind references
pub among_seen : (name : List ℕ) (i : ℕ) (cpus : List (Bor CpuDef))
    → position_from (bytes_eq name) i (map name_of cpus)
    ≡ position_from (λ (c : CpuDef). bytes_eq name c.name) i (cpus_seen cpus)
among_seen name i [] = refl
among_seen name i (c ∷ cs) = ap (cond (bytes_eq name c.now.name) (Some i)) (among_seen name (i + 1) cs)

-- what stands at a name that is a copy
pub put_copy : (name own copied : List ℕ) (o p : Option ℕ) (new : Option ℕ) → copied ≡ own
    → new ≡ cond (bytes_eq name copied) o p → new ≡ cond (bytes_eq name own) o p
put_copy name own copied o p new same put = put ∙ ap (λ t. cond (bytes_eq name t) o p) same

-- those of the workstations, one workstation further
filter_one : (d : Defs) (masters : Bool) (c : CpuDef) (rest : List CpuDef)
    → cond (is_that d masters c) (c ∷ rest) rest ≡ one_of d masters c ++ rest
filter_one d masters c rest = go (is_that d masters c)
  where
    go : (b : Bool) → cond b (c ∷ rest) rest ≡ cond b (c ∷ []) [] ++ rest
    go true = refl
    go false = refl

pub those_more : (d : Defs) (masters : Bool) (cpus : List (Lined CpuDef)) (i : ℕ) (c : Lined CpuDef) (all now new : List CpuDef)
    → i < length cpus → c ≡ get_or cpus i c → new ≡ now ++ one_of d masters c.item
    → all ≡ now ++ those d masters (drop i cpus) → all ≡ new ++ those d masters (drop (i + 1) cpus)
those_more d masters cpus i c all now new low at put before =
    let rest = those d masters (drop (i + 1) cpus) in
    before
    ∙ (ap (λ l. now ++ those d masters l) (drop_more cpus i c low ∙ ap (λ y. y ∷ drop (i + 1) cpus) (sym at))
    ∙ (ap (λ l. now ++ l) (filter_one d masters c.item rest)
    ∙ (sym (append_assoc now (one_of d masters c.item) rest) ∙ ap (λ l. l ++ rest) (sym put))))

-- a workstation that is put, or left out
pub seen_put : (d : Defs) (masters : Bool) (old new : List (Bor CpuDef)) (r : Bor CpuDef) → is_that d masters r.now ≡ true
    → new ≡ old ++ r ∷ [] → cpus_seen new ≡ cpus_seen old ++ one_of d masters r.now
seen_put d masters old new r that put =
    ap cpus_seen put
    ∙ (map-append (λ (c : Bor CpuDef). c.now) old (r ∷ [])
    ∙ ap (λ b. cpus_seen old ++ cond b (r.now ∷ []) []) (sym that))

pub seen_left : (d : Defs) (masters : Bool) (old : List (Bor CpuDef)) (c : CpuDef) → is_that d masters c ≡ false
    → cpus_seen old ≡ cpus_seen old ++ one_of d masters c
seen_left d masters old c other =
    sym (append-nil (cpus_seen old)) ∙ ap (λ b. cpus_seen old ++ cond b (c ∷ []) []) (sym other)

-- the items before a place, with the one at the place
taken_more : {X Y : Type 0} (see : X → Y) (xs : List X) (i : ℕ) (x : X) → i < length xs → x ≡ get_or xs i x
    → take (i + 1) (map see xs) ≡ take i (map see xs) ++ see x ∷ []
taken_more see xs i x low at_ =
    take-map see (i + 1) xs
    ∙ (ap (map see) (take_more xs i x low)
    ∙ (map-append see (take i xs) (get_or xs i x ∷ [])
    ∙ (ap (λ l. l ++ see (get_or xs i x) ∷ []) (sym (take-map see i xs))
    ∙ ap (λ y. take i (map see xs) ++ see y ∷ []) (sym at_))))

-- what is made of each item, one item further
pub made_more : {X Y Z : Type 0} (see : X → Y) (f : Y → Z) (xs : List X) (i : ℕ) (x : X) (old new : List Z) (z : Z)
    → i < length xs → x ≡ get_or xs i x → new ≡ old ++ z ∷ [] → z ≡ f (see x) → old ≡ map f (take i (map see xs))
    → new ≡ map f (take (i + 1) (map see xs))
made_more see f xs i x old new z low at_ grown is before =
    grown
    ∙ (ap (λ l. l ++ z ∷ []) before
    ∙ (ap (λ y. map f (take i (map see xs)) ++ y ∷ []) is
    ∙ (sym (map-append f (take i (map see xs)) (see x ∷ [])) ∙ sym (ap (map f) (taken_more see xs i x low at_)))))

enumerate_push : {X : Type 0} (n m : ℕ) (xs : List X) (x : X) → m ≡ n + length xs
    → enumerate_from n (xs ++ x ∷ []) ≡ enumerate_from n xs ++ (m, x) ∷ []
enumerate_push n m [] x is = let same : n ≡ m = omega (arith, is) in ap (λ k. (k, x) ∷ []) same
enumerate_push n m (y ∷ ys) x is = ap (λ l. (n, y) ∷ l) (enumerate_push (n + 1) m ys x (omega (arith, is)))

-- what is made of each item and its number, one item further
pub numbered_more : {X Y Z : Type 0} (f : ℕ × Y → Z) (see : X → Y) (xs : List X) (i : ℕ) (x : X) (old new : List Z) (z : Z)
    → i < length xs → x ≡ get_or xs i x → new ≡ old ++ z ∷ [] → z ≡ f (i, see x)
    → old ≡ map f (enumerate_from 0 (take i (map see xs)))
    → new ≡ map f (enumerate_from 0 (take (i + 1) (map see xs)))
numbered_more f see xs i x old new z low at_ grown is before =
    let long : i ≡ 0 + length (take i (map see xs)) =
    omega (arith, length-take-le i (map see xs) (omega (arith, low, length-map xs see))) in
    grown
    ∙ (ap (λ l. l ++ z ∷ []) before
    ∙ (ap (λ y. map f (enumerate_from 0 (take i (map see xs))) ++ y ∷ []) is
    ∙ (sym (map-append f (enumerate_from 0 (take i (map see xs))) ((i, see x) ∷ []))
    ∙ sym
    (ap (map f)
    (ap (enumerate_from 0) (taken_more see xs i x low at_) ∙ enumerate_push 0 i (take i (map see xs)) (see x) long)))))

-- what holds of each item that is seen holds of the one at a place
pub fits_at : {X Y : Type 0} (see : X → Y) (Fit : Y → Type 0) (xs : List X) (i : ℕ) (x : X) → i < length xs
    → All Fit (map see xs) → Fit (see (get_or xs i x))
fits_at see Fit xs i x low fit =
    subst Fit (get_or-map see xs i x) (fit i (see x) (omega (arith, low, length-map xs see)))
