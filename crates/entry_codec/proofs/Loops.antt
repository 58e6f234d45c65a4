-- Reading items one after the other, as a loop does.
use Rattle.std.proofs.Common.{◌≡◌, ◌≢◌, ℕ, suc, ◌-◌, ◌+◌, ◌≤◌, ◌<◌, List, [], ◌∷◌, ◌++◌, Result, Ok, Err, refl}
use Rattle.std.proofs.Common.{sym, ap, ◌∙◌, append_assoc, arith}
use Rattle.std.proofs.lemmas.List.{append-nil}
use Rattle.model.specs.History.{Seen}
use Rattle.entry_codec.specs.declared.EntryFault.{EntryFault}
use Rattle.entry_codec.specs.declared.EntryFault.TheVariants.{NoMemory}
use Rattle.entry_codec.specs.Read.{Reader, and_then, chain}
use Rattle.entry_codec.specs.Fields.{items_at, count_at, counts_at}

-- what was read before, and what is still read
abbrev pub with_front : {X : Type 0} → List X → Result (List X × ℕ) EntryFault → Result (List X × ℕ) EntryFault
with_front front read = and_then read (λ x. Ok (front ++ x.0, x.1))

regroup : {X : Type 0} (front : List X) (x : X) (read : Result (List X × ℕ) EntryFault)
    → with_front front (and_then read (λ (r : List X × ℕ). Ok (x ∷ r.0, r.1))) ≡ with_front (front ++ x ∷ []) read
regroup {X} front x (Ok r) = ap (λ (xs : List X). Ok (xs, r.1)) (sym (append_assoc front (x ∷ []) r.0))
regroup front x (Err f) = refl

pub goes_on : {X : Type 0} (item : Reader X) (front : List X) (count i : ℕ) (bytes : List ℕ) (p : ℕ) (x : X) (q : ℕ)
    (total : Result (List X × ℕ) EntryFault) → i < count → item bytes p ≡ Ok (x, q)
    → with_front front (items_at item (count - i) bytes p) ≡ total
    → with_front (front ++ x ∷ []) (items_at item (count - (i + 1)) bytes q) ≡ total
unfolding items_at chain
goes_on item front count i bytes p x q total lt h so_far =
    let k : count - i ≡ suc (count - (i + 1)) = omega arith in
    let one : with_front front (items_at item (count - i) bytes p)
    ≡ with_front (front ++ x ∷ []) (items_at item (count - (i + 1)) bytes q) =
    rw (k, h) (regroup front x (items_at item (count - (i + 1)) bytes q)) in
    sym one ∙ so_far

pub ends : {X : Type 0} (item : Reader X) (e : EntryFault) (front : List X) (count i : ℕ) (bytes : List ℕ) (p : ℕ)
    (total : Result (List X × ℕ) EntryFault) → i < count → (e ≢ NoMemory → item bytes p ≡ Err e)
    → with_front front (items_at item (count - i) bytes p) ≡ total → e ≢ NoMemory → total ≡ Err e
unfolding items_at chain
ends item e front count i bytes p total lt fails so_far other =
    let h = fails other in
    let k : count - i ≡ suc (count - (i + 1)) = omega arith in
    let one : with_front front (items_at item (count - i) bytes p) ≡ Err e = rw (k, h) refl in
    sym so_far ∙ one

pub is_done : {X : Type 0} (item : Reader X) (front : List X) (count i : ℕ) (bytes : List ℕ) (p : ℕ)
    (total : Result (List X × ℕ) EntryFault) → count ≤ i
    → with_front front (items_at item (count - i) bytes p) ≡ total → total ≡ Ok (front, p)
unfolding items_at
is_done {X} item front count i bytes p total le so_far =
    let k : count - i ≡ 0 = omega arith in
    let one : with_front front (items_at item (count - i) bytes p) ≡ Ok (front, p) =
    rw k (ap (λ (xs : List X). Ok (xs, p)) (append-nil front)) in
    sym so_far ∙ one

-- the same for counts, which ascend
pub counts_go_on : (front : Seen) (count i least : ℕ) (bytes : List ℕ) (p : ℕ) (c : ℕ × ℕ) (q : ℕ)
    (total : Result (Seen × ℕ) EntryFault) → i < count → count_at least bytes p ≡ Ok (c, q)
    → with_front front (counts_at least (count - i) bytes p) ≡ total
    → with_front (front ++ c ∷ []) (counts_at (c.0 + 1) (count - (i + 1)) bytes q) ≡ total
unfolding counts_at chain
counts_go_on front count i least bytes p c q total lt h so_far =
    let k : count - i ≡ suc (count - (i + 1)) = omega arith in
    let one : with_front front (counts_at least (count - i) bytes p)
    ≡ with_front (front ++ c ∷ []) (counts_at (c.0 + 1) (count - (i + 1)) bytes q) =
    rw (k, h) (regroup front c (counts_at (c.0 + 1) (count - (i + 1)) bytes q)) in
    sym one ∙ so_far

pub counts_end : (e : EntryFault) (front : Seen) (count i least : ℕ) (bytes : List ℕ) (p : ℕ)
    (total : Result (Seen × ℕ) EntryFault) → i < count → (e ≢ NoMemory → count_at least bytes p ≡ Err e)
    → with_front front (counts_at least (count - i) bytes p) ≡ total → e ≢ NoMemory → total ≡ Err e
unfolding counts_at chain
counts_end e front count i least bytes p total lt fails so_far other =
    let h = fails other in
    let k : count - i ≡ suc (count - (i + 1)) = omega arith in
    let one : with_front front (counts_at least (count - i) bytes p) ≡ Err e = rw (k, h) refl in
    sym so_far ∙ one

pub counts_done : (front : Seen) (count i least : ℕ) (bytes : List ℕ) (p : ℕ)
    (total : Result (Seen × ℕ) EntryFault) → count ≤ i
    → with_front front (counts_at least (count - i) bytes p) ≡ total → total ≡ Ok (front, p)
unfolding counts_at
counts_done front count i least bytes p total le so_far =
    let k : count - i ≡ 0 = omega arith in
    let one : with_front front (counts_at least (count - i) bytes p) ≡ Ok (front, p) =
    rw k (ap (λ (xs : Seen). Ok (xs, p)) (append-nil front)) in
    sym so_far ∙ one
