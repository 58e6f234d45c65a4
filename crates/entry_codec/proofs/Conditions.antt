-- Conditions and the dependencies of drafts that are read are those that stand there.
use Rattle.std.proofs.Common.{◌≡◌, ℕ, ◌+◌, ◌<◌, ◌≤◌, Bool, true, false, cond, eqb, List, [], ◌∷◌, ◌++◌, length}
use Rattle.std.proofs.Common.{Option, Result, Err}
use Rattle.std.proofs.Common.{Some, None, Ok, refl, sym, subst, arith}
use Rattle.std.proofs.lemmas.Bool.{eqb-true, ne_eqb, leb-true, le-leb}
use Rattle.std.specs.List.{AllByRecursion}
use Rattle.std.specs.Prelude.{IfSome, flat_map, nat_le, nat_eq}
use Rattle.std.specs.Int.{w8}
use Rattle.model.specs.Types.{Dep, FollowsJob, FollowsStream, Needs, Prompt, At, Until, Outside, Global, Own, Deadline}
use Rattle.model.specs.Types.{DraftDep, Follows, Plain, CondOp}
use Rattle.model.specs.Fields.{u8_bytes, u16_bytes, text_bytes, option_bytes}
use Rattle.model.specs.Fit.{IsFitCond, IsFitDraftDep}
use Rattle.model.specs.Ranges.{IsU8, IsU16, DraftDepInRange, OpInRange}
use Rattle.model.specs.Versions.{is_draft_deadline}
use Rattle.model.specs.Spelling.{dep_bytes, draft_dep_bytes, op_bytes, cond_bytes}
use Rattle.entry_codec.specs.Read.{Reader, pair, one, three}
use Rattle.entry_codec.specs.Fields.{u8_at, u16_at, text_at, option_at, number_with}
use Rattle.entry_codec.specs.Parts.{dep_at, draft_dep_at, cond_at}
use Rattle.entry_codec.proofs.Readers.{IsBytes, Stands, IsReader, within, starts, joined, split, came, step, on}
use Rattle.entry_codec.proofs.Readers.{same_value}
use Rattle.entry_codec.proofs.Numbers.{u8_reader, u16_reader, tested}
use Rattle.entry_codec.proofs.Texts.{text_reader, TextFits}
use Rattle.entry_codec.proofs.Choices.{IsRow, row_3, option_reader}
use Rattle.entry_codec.proofs.Lists.{items_reader}
use Rattle.entry_codec.proofs.Allowed.{Allows, allows_none}
use Rattle.entry_codec.specs.declared.EntryFault.{EntryFault}
use Rattle.entry_codec.proofs.Readers.{Fails, IsSteady}
use Rattle.entry_codec.proofs.Pairs.{pair_reader}
use Rattle.entry_codec.proofs.Steady.{then_steady, one_steady, then_goes_on, then_fails}
use Rattle.entry_codec.proofs.Parts.{DepFits, dep_reader, op_reader}

-- the choice of a dependency is not 0
record Begins (d : Dep) : Type 0 where
  tag : ℕ
  tail : List ℕ
  spelled : dep_bytes d ≡ tag ∷ tail
  not_zero : 0 < tag
  small : tag < 256

begins : (d : Dep) → Begins d
unfolding dep_bytes
begins (FollowsJob j) = record { tag = 1; tail = _; spelled = refl; not_zero = omega arith; small = omega arith }
begins (FollowsStream t) = record { tag = 2; tail = _; spelled = refl; not_zero = omega arith; small = omega arith }
begins (Needs r n) = record { tag = 3; tail = _; spelled = refl; not_zero = omega arith; small = omega arith }
begins (Prompt (Global n)) = record { tag = 4; tail = _; spelled = refl; not_zero = omega arith; small = omega arith }
begins (Prompt (Own l)) = record { tag = 5; tail = _; spelled = refl; not_zero = omega arith; small = omega arith }
begins (At t) = record { tag = 6; tail = _; spelled = refl; not_zero = omega arith; small = omega arith }
begins (Until t mark) = record { tag = 7; tail = _; spelled = refl; not_zero = omega arith; small = omega arith }
begins (Outside l) = record { tag = 8; tail = _; spelled = refl; not_zero = omega arith; small = omega arith }
begins (Deadline t) = record { tag = 9; tail = _; spelled = refl; not_zero = omega arith; small = omega arith }

-- a draft's dependency that is fit and in range
abbrev pub DraftDepFits : Bool → DraftDep → Type 0
DraftDepFits second d = (IsFitDraftDep d × DraftDepInRange d) × Allows second (is_draft_deadline d)

abbrev followed : Reader DraftDep
followed = three u16_at text_at (option_at text_at) Follows

-- who is followed
abbrev FollowedFits : (ℕ × List ℕ) × Option (List ℕ) → Type 0
FollowedFits x = (IsU16 x.0.0 × TextFits x.0.1) × IfSome x.1 TextFits

followed_reader : IsReader FollowedFits
    (λ (x : (ℕ × List ℕ) × Option (List ℕ)). u16_bytes x.0.0 ++ text_bytes x.0.1 ++ option_bytes text_bytes x.1)
    (pair (pair u16_at text_at) (option_at text_at))
followed_reader = pair_reader (pair_reader u16_reader text_reader) (option_reader text_reader)

follows_fit : (second : Bool) (w : ℕ) (name : List ℕ) (job : Option (List ℕ)) → IsU16 w → TextFits name
    → IfSome job TextFits → DraftDepFits second (Follows w name job)
follows_fit second w name None f g h = (((g.0, tt), (f, g.1, tt)), allows_none second)
follows_fit second w name (Some job) f g h = (((g.0, h.0), (f, g.1, h.1)), allows_none second)

job_fits : (second : Bool) (w : ℕ) (name : List ℕ) (job : Option (List ℕ)) → DraftDepFits second (Follows w name job)
    → IfSome job TextFits
job_fits second w name None f = tt
job_fits second w name (Some job) f = (f.0.0.1, f.0.1.2)

-- what stands behind a 0
zero_row : (second : Bool) → IsRow (DraftDepFits second) draft_dep_bytes (0, followed)
unfolding draft_dep_bytes
zero_row second =
    row_3 u16_reader text_reader (option_reader text_reader) 0 Follows (follows_fit second) (λ w name job. refl)

draft_dep_found : (second : Bool) (bytes : List ℕ) (p : ℕ) (d : DraftDep) (q : ℕ) → IsBytes bytes → p ≤ length bytes
    → draft_dep_at second bytes p ≡ Ok (d, q) → DraftDepFits second d × Stands (draft_dep_bytes d) bytes p q
unfolding draft_dep_at draft_dep_bytes
draft_dep_found second bytes p d q is lt e =
    let c = came (u8_at bytes p) (λ (n : ℕ × ℕ). cond (eqb n.0 0) (followed bytes n.1)
    (one (dep_at second) Plain bytes p))
    (d, q) e in
    let tag = u8_reader.found bytes p c.value.0 c.value.1 is lt c.first in
    chose (eqb c.value.0 0) c.value.0 c.value.1 refl tag.1 c.then_
  where
    chose : (b : Bool) (n m : ℕ) → eqb n 0 ≡ b → Stands (u8_bytes n) bytes p m
        → cond b (followed bytes m) (one (dep_at second) Plain bytes p) ≡ Ok (d, q)
        → DraftDepFits second d × Stands (draft_dep_bytes d) bytes p q
    chose true n m is_it tag f = as_names n m (eqb-true n 0 is_it) tag f
      where
        as_names : (n m : ℕ) → n ≡ 0 → Stands (u8_bytes n) bytes p m → followed bytes m ≡ Ok (d, q)
            → DraftDepFits second d × Stands (draft_dep_bytes d) bytes p q
        as_names n m zero_it tag f =
            let b = (zero_row second).found bytes m d q is (within tag) f in
            let head : Stands (0 ∷ []) bytes p m = subst (λ (k : ℕ). Stands (u8_bytes k) bytes p m) zero_it tag in
            (b.fits, subst (λ (l : List ℕ). Stands l bytes p q) (sym b.spelled) (joined head b.stands))
    chose false n m is_it tag f = as_dep f
      where
        as_dep : one (dep_at second) Plain bytes p ≡ Ok (d, q)
            → DraftDepFits second d × Stands (draft_dep_bytes d) bytes p q
        as_dep f =
            let u = step (dep_reader second) is (starts bytes p lt) f in
            subst (λ (z : DraftDep × ℕ). DraftDepFits second z.0 × Stands (draft_dep_bytes z.0) bytes p z.1)
            (same_value u.rest) (u.fits, u.stands)

plain_again : (second : Bool) (bytes : List ℕ) (p : ℕ) (d : Dep) (q : ℕ) → DepFits second d
    → Stands (dep_bytes d) bytes p q
    → draft_dep_at second bytes p ≡ Ok (Plain d, q)
unfolding draft_dep_at
plain_again second bytes p d q fits s =
    let b = begins d in
    let head = split (b.tag ∷ []) b.tail (subst (λ (l : List ℕ). Stands l bytes p q) b.spelled s) in
    let first : u8_at bytes p ≡ Ok (b.tag, p + 1) = u8_reader.again bytes p b.tag (p + 1) b.small head.0 in
    let other : eqb b.tag 0 ≡ false = ne_eqb b.tag 0 (λ e. absurd (omega (arith, b.not_zero, e))) in
    let read : one (dep_at second) Plain bytes p ≡ Ok (Plain d, q) = on (dep_reader second) _ d fits s refl in
    rw (first, other) read

follows_again : (second : Bool) (bytes : List ℕ) (p w : ℕ) (name : List ℕ) (job : Option (List ℕ)) (q : ℕ)
    → DraftDepFits second (Follows w name job) → Stands (draft_dep_bytes (Follows w name job)) bytes p q
    → draft_dep_at second bytes p ≡ Ok (Follows w name job, q)
unfolding draft_dep_at draft_dep_bytes
follows_again second bytes p w name job q fits s =
    let tail = u16_bytes w ++ text_bytes name ++ option_bytes text_bytes job in
    let head = split (0 ∷ []) tail s in
    let first : u8_at bytes p ≡ Ok (0, p + 1) = u8_reader.again bytes p 0 (p + 1) (omega arith) head.0 in
    let read : followed bytes (p + 1) ≡ Ok (Follows w name job, q) = on followed_reader _ ((w, name), job)
    ((fits.0.1.0, (fits.0.0.0, fits.0.1.1)), job_fits second w name job fits) head.1 refl in
    rw first read

draft_dep_again : (second : Bool) (bytes : List ℕ) (p : ℕ) (d : DraftDep) (q : ℕ) → DraftDepFits second d
    → Stands (draft_dep_bytes d) bytes p q → draft_dep_at second bytes p ≡ Ok (d, q)
unfolding draft_dep_bytes
draft_dep_again second bytes p (Plain d) q fits s = plain_again second bytes p d q fits s
draft_dep_again second bytes p (Follows w name job) q fits s = follows_again second bytes p w name job q fits s

-- a draft's dependency, by its first byte
abbrev drafted : Bool → Bool → List ℕ → ℕ → ℕ → Result (DraftDep × ℕ) EntryFault
drafted second named bytes p m = cond named (followed bytes m) (one (dep_at second) Plain bytes p)

named_steady : IsSteady followed
named_steady = one_steady (λ (x : (ℕ × List ℕ) × Option (List ℕ)). Follows x.0.0 x.0.1 x.1) followed_reader.steady

plain_steady : (second : Bool) → IsSteady (one (dep_at second) Plain)
plain_steady second = one_steady Plain (dep_reader second).steady

drafted_on : (second named : Bool) (bytes more : List ℕ) (p m : ℕ) (x : DraftDep × ℕ)
    → drafted second named bytes p m ≡ Ok x
    → drafted second named (bytes ++ more) p m ≡ Ok x
drafted_on second true bytes more p m x e = named_steady.goes_on bytes more m x e
drafted_on second false bytes more p m x e = (plain_steady second).goes_on bytes more p x e

drafted_out : (second named : Bool) (bytes more : List ℕ) (p m : ℕ) (f : EntryFault)
    → drafted second named bytes p m ≡ Err f
    → Fails f (drafted second named (bytes ++ more) p m)
drafted_out second true bytes more p m f e = named_steady.fails bytes more m f e
drafted_out second false bytes more p m f e = (plain_steady second).fails bytes more p f e

draft_dep_on : (second : Bool) (bytes more : List ℕ) (p : ℕ) (x : DraftDep × ℕ) → draft_dep_at second bytes p ≡ Ok x
    → draft_dep_at second (bytes ++ more) p ≡ Ok x
unfolding draft_dep_at
draft_dep_on second bytes more p x e =
    then_goes_on (u8_at bytes p) (u8_at (bytes ++ more) p) (λ (n : ℕ × ℕ). drafted second (nat_eq n.0 0) bytes p n.1)
    (λ (n : ℕ × ℕ). drafted second (nat_eq n.0 0) (bytes ++ more) p n.1) x (u8_reader.steady.goes_on bytes more p)
    (λ n h. drafted_on second (nat_eq n.0 0) bytes more p n.1 x h) e

draft_dep_out : (second : Bool) (bytes more : List ℕ) (p : ℕ) (f : EntryFault) → draft_dep_at second bytes p ≡ Err f
    → Fails f (draft_dep_at second (bytes ++ more) p)
unfolding draft_dep_at
draft_dep_out second bytes more p f e =
    then_fails (u8_at bytes p) (u8_at (bytes ++ more) p) (λ (n : ℕ × ℕ). drafted second (nat_eq n.0 0) bytes p n.1)
    (λ (n : ℕ × ℕ). drafted second (nat_eq n.0 0) (bytes ++ more) p n.1) f (u8_reader.steady.goes_on bytes more p)
    (u8_reader.steady.fails bytes more p)
    (λ n c h. drafted_out second (nat_eq n.0 0) bytes more p n.1 c h) e

draft_dep_steady : (second : Bool) → IsSteady (draft_dep_at second)
draft_dep_steady second = record { goes_on = draft_dep_on second; fails = draft_dep_out second }

pub draft_dep_reader : (second : Bool) → IsReader (DraftDepFits second) draft_dep_bytes (draft_dep_at second)
draft_dep_reader second =
    record {
      found = draft_dep_found second;
      again = draft_dep_again second;
      steady = draft_dep_steady second;
    }

-- a condition that is fit and in range
abbrev pub CondFits : List CondOp → Type 0
CondFits ops = IsFitCond ops × AllByRecursion OpInRange ops

op_count_reader : IsReader (λ (n : ℕ). IsU8 n × (nat_le n 64 ≡ true)) u8_bytes (number_with w8 (λ n. nat_le n 64))
op_count_reader = tested w8 IsU8 u8_bytes (λ n. nat_le n 64) u8_reader

cond_found : (bytes : List ℕ) (p : ℕ) (ops : List CondOp) (q : ℕ) → IsBytes bytes → p ≤ length bytes
    → cond_at bytes p ≡ Ok (ops, q) → CondFits ops × Stands (cond_bytes ops) bytes p q
unfolding cond_at cond_bytes
cond_found bytes p ops q is lt e =
    let count = step op_count_reader is (starts bytes p lt) e in
    let items = (items_reader op_reader count.value).found bytes count.place ops q is (within count.stands) count.rest
    in
    let counted : count.value ≡ length ops = sym items.0.0 in
    let few : count.value ≤ 64 = leb-true count.value 64 count.fits.1 in (
      (omega (arith, few, items.0.0), items.0.1),
      joined (subst (λ (n : ℕ). Stands (u8_bytes n) bytes p count.place) counted count.stands) items.1,
    )

cond_again : (bytes : List ℕ) (p : ℕ) (ops : List CondOp) (q : ℕ) → CondFits ops → Stands (cond_bytes ops) bytes p q
    → cond_at bytes p ≡ Ok (ops, q)
unfolding cond_at cond_bytes
cond_again bytes p ops q fits s =
    let parts = split (u8_bytes (length ops)) (flat_map op_bytes ops) s in
    let few : length ops ≤ 64 = fits.0 in
    on op_count_reader _ (length ops) (omega (arith, few), le-leb (length ops) 64 few) parts.0
    ((items_reader op_reader (length ops)).again bytes (p + length (u8_bytes (length ops))) ops q (refl, fits.1)
    parts.1)

cond_steady : IsSteady cond_at
unfolding cond_at
cond_steady = then_steady _ op_count_reader.steady (λ n. (items_reader op_reader n).steady)

pub cond_reader : IsReader CondFits cond_bytes cond_at
cond_reader = record { found = cond_found; again = cond_again; steady = cond_steady }
