-- Counts of workstations that are read ascend without zeros, and those that do are read.
use Rattle.std.proofs.Common.{◌≡◌, ℕ, zero, suc, ◌+◌, ◌≤◌, true, ◌&&◌, List, [], ◌∷◌, length, Ok}
use Rattle.std.proofs.Common.{refl, sym, ap, subst, arith}
use Rattle.std.proofs.lemmas.Bool.{and_parts, and_from}
use Rattle.std.specs.List.{AllByRecursion}
use Rattle.std.specs.Prelude.{flat_map, nat_le, nat_lt}
use Rattle.std.specs.Int.{w16, w32}
use Rattle.model.specs.History.{Seen}
use Rattle.model.specs.Invariant.{ascends_from}
use Rattle.model.specs.Fields.{u16_bytes, u32_bytes}
use Rattle.model.specs.Ranges.{IsU16, IsU32, CountInRange}
use Rattle.model.specs.Spelling.{count_bytes, seen_bytes}
use Rattle.entry_codec.specs.Fields.{count_at, counts_at, seen_at, number_with}
use Rattle.entry_codec.proofs.Readers.{IsBytes, Stands, IsReader, within, starts, nothing, joined, split, step, on}
use Rattle.entry_codec.proofs.Readers.{same_value}
use Rattle.entry_codec.proofs.Numbers.{u16_reader, u32_reader, tested}
use Rattle.entry_codec.proofs.Pairs.{pair_reader}
use Rattle.entry_codec.proofs.Steady.{counts_steady, seen_steady}

-- so many counts in range, which ascend from a workstation on without _ zeros
pub record Ascend (least n : ℕ) (seen : Seen) : Type 0 where
  pub counted : length seen ≡ n
  pub in_range : AllByRecursion CountInRange seen
  pub ascends : ascends_from least seen ≡ true

ws_reader : (least : ℕ) → IsReader (λ (w : ℕ). IsU16 w × (nat_le least w ≡ true)) u16_bytes
    (number_with w16 (nat_le least))
ws_reader least = tested w16 IsU16 u16_bytes (nat_le least) u16_reader

pub count_reader : IsReader (λ (k : ℕ). IsU32 k × (nat_lt 0 k ≡ true)) u32_bytes (number_with w32 (nat_lt 0))
count_reader = tested w32 IsU32 u32_bytes (nat_lt 0) u32_reader

-- a workstation that is at least so great, and a count that is not 0
abbrev CountFits : ℕ → ℕ × ℕ → Type 0
CountFits least c = (IsU16 c.0 × (nat_le least c.0 ≡ true)) × (IsU32 c.1 × (nat_lt 0 c.1 ≡ true))

counted_reader : (least : ℕ) → IsReader (CountFits least) count_bytes (count_at least)
unfolding count_at
counted_reader least = pair_reader (ws_reader least) count_reader

none_found : (least : ℕ) (bytes : List ℕ) (p : ℕ) (seen : Seen) (q : ℕ) → p ≤ length bytes
    → counts_at least 0 bytes p ≡ Ok (seen, q) → Ascend least 0 seen × Stands (flat_map count_bytes seen) bytes p q
unfolding counts_at
none_found least bytes p seen q lt e =
    subst (λ (z : Seen × ℕ). Ascend least 0 z.0 × Stands (flat_map count_bytes z.0) bytes p z.1) (same_value e)
    (record { counted = refl; in_range = tt; ascends = refl }, starts bytes p lt)

none_again : (least : ℕ) (bytes : List ℕ) (p : ℕ) (seen : Seen) (q : ℕ) → Ascend least 0 seen
    → Stands (flat_map count_bytes seen) bytes p q → counts_at least 0 bytes p ≡ Ok (seen, q)
unfolding counts_at
none_again least bytes p [] q fits s = ap (λ (m : ℕ). Ok ([], m)) (sym (nothing s))
none_again least bytes p (c ∷ seen) q fits s = absurd (omega (arith, fits.counted))

more_found : (least n : ℕ)
    → ((from : ℕ) → IsReader (Ascend from n) (flat_map count_bytes) (counts_at from n)) → (bytes : List ℕ) (p : ℕ)
    (seen : Seen) (q : ℕ) → IsBytes bytes → p ≤ length bytes → counts_at least (suc n) bytes p ≡ Ok (seen, q)
    → Ascend least (suc n) seen × Stands (flat_map count_bytes seen) bytes p q
unfolding counts_at
more_found least n fewer bytes p seen q is lt e =
    let first = step (counted_reader least) is (starts bytes p lt) e in
    let others = step (fewer (first.value.0 + 1)) is first.stands first.rest in
    subst (λ (z : Seen × ℕ). Ascend least (suc n) z.0 × Stands (flat_map count_bytes z.0) bytes p z.1)
    (same_value others.rest) (
      record {
        counted = ap suc others.fits.counted;
        in_range = ((first.fits.0.0, first.fits.1.0), others.fits.in_range);
        ascends = and_from _ _ first.fits.0.1 (and_from _ _ first.fits.1.1 others.fits.ascends);
      },
      others.stands,
    )

more_again : (least n : ℕ)
    → ((from : ℕ) → IsReader (Ascend from n) (flat_map count_bytes) (counts_at from n)) → (bytes : List ℕ) (p : ℕ)
    (seen : Seen) (q : ℕ) → Ascend least (suc n) seen → Stands (flat_map count_bytes seen) bytes p q
    → counts_at least (suc n) bytes p ≡ Ok (seen, q)
unfolding counts_at
more_again least n fewer bytes p [] q fits s = absurd (omega (arith, fits.counted))
more_again least n fewer bytes p (c ∷ seen) q fits s =
    let parts = split (count_bytes c) (flat_map count_bytes seen) s in
    let first : (nat_le least c.0 ≡ true) × ((nat_lt 0 c.1 && ascends_from (c.0 + 1) seen) ≡ true) =
    and_parts (nat_le least c.0) (nat_lt 0 c.1 && ascends_from (c.0 + 1) seen) fits.ascends in
    let second : (nat_lt 0 c.1 ≡ true) × (ascends_from (c.0 + 1) seen ≡ true) =
    and_parts (nat_lt 0 c.1) (ascends_from (c.0 + 1) seen) first.1 in
    let len : length seen ≡ n = omega (arith, fits.counted) in
    on (counted_reader least) _ c ((fits.in_range.0.0, first.0), (fits.in_range.0.1, second.0)) parts.0
    (on (fewer (c.0 + 1)) _ seen (record { counted = len; in_range = fits.in_range.1; ascends = second.1 }) parts.1
    refl)

counts_reader : (n least : ℕ) → IsReader (Ascend least n) (flat_map count_bytes) (counts_at least n)
counts_reader zero least =
    record {
      found = λ bytes p seen q is lt e. none_found least bytes p seen q lt e;
      again = none_again least;
      steady = counts_steady 0 least;
    }
counts_reader (suc n) least =
    let fewer : (from : ℕ) → IsReader (Ascend from n) (flat_map count_bytes) (counts_at from n) = counts_reader n in
    record { found = more_found least n fewer; again = more_again least n fewer; steady = counts_steady (suc n) least }

-- counts in range that can be written
pub record SeenFits (seen : Seen) : Type 0 where
  pub counted : length seen ≤ 4294967295
  pub in_range : AllByRecursion CountInRange seen
  pub ascends : ascends_from 0 seen ≡ true

seen_found : (bytes : List ℕ) (p : ℕ) (seen : Seen) (q : ℕ) → IsBytes bytes → p ≤ length bytes
    → seen_at bytes p ≡ Ok (seen, q) → SeenFits seen × Stands (seen_bytes seen) bytes p q
unfolding seen_at
seen_found bytes p seen q is lt e =
    let count = step u32_reader is (starts bytes p lt) e in
    let items = (counts_reader count.value 0).found bytes count.place seen q is (within count.stands) count.rest in
    let counted : count.value ≡ length seen = sym items.0.counted in (
      record {
        counted = omega (arith, count.fits, items.0.counted);
        in_range = items.0.in_range;
        ascends = items.0.ascends;
      },
      joined (subst (λ (n : ℕ). Stands (u32_bytes n) bytes p count.place) counted count.stands) items.1,
    )

seen_again : (bytes : List ℕ) (p : ℕ) (seen : Seen) (q : ℕ) → SeenFits seen → Stands (seen_bytes seen) bytes p q
    → seen_at bytes p ≡ Ok (seen, q)
unfolding seen_at
seen_again bytes p seen q fits s =
    let parts = split (u32_bytes (length seen)) (flat_map count_bytes seen) s in
    on u32_reader _ (length seen) (omega (arith, fits.counted)) parts.0
    ((counts_reader (length seen) 0).again bytes (p + length (u32_bytes (length seen))) seen q
    (record { counted = refl; in_range = fits.in_range; ascends = fits.ascends }) parts.1)

pub seen_reader : IsReader SeenFits seen_bytes seen_at
seen_reader = record { found = seen_found; again = seen_again; steady = seen_steady }
