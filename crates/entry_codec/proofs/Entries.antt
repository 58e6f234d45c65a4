-- Entries that are read are those that the bytes spell.
use Rattle.std.proofs.Common.{◌≡◌, ℕ, ◌<◌, ◌≤◌, ◌⊎◌, inl, inr, Bool, true, false, ◌||◌, cond, eqb, List, [], ◌∷◌}
use Rattle.std.proofs.Common.{length}
use Rattle.std.proofs.Common.{Result, Ok, Err, refl, sym, ap, subst, ◌∙◌, ◌+◌, arith}
use Rattle.std.specs.Prelude.{nat_lt}
use Rattle.std.specs.Int.{w32}
use Rattle.std.proofs.lemmas.Bool.{eqb-true, ltb-true, lt-ltb}
use Rattle.model.specs.Types.{Entry}
use Rattle.model.specs.Fields.{u8_bytes, u32_bytes}
use Rattle.model.specs.Fit.{IsFit}
use Rattle.model.specs.Ranges.{InRange}
use Rattle.model.specs.Spelling.{feed_bytes, body_bytes, entry_bytes}
use Rattle.model.specs.Versions.{is_second}
use Rattle.entry_codec.specs.declared.EntryFault.{EntryFault}
use Rattle.entry_codec.specs.declared.EntryFault.TheVariants.{Version}
use Rattle.entry_codec.specs.Read.{Reader, and_then, chain, gives}
use Rattle.entry_codec.specs.Fields.{u8_at, number_with}
use Rattle.entry_codec.specs.Parts.{feed_at}
use Rattle.entry_codec.specs.Entries.{body_at, version_at, entry_at, bytes_with}
use Rattle.entry_codec.proofs.Readers.{IsBytes, Stands, IsSteady, came, step, on, same_value, in_order}
use Rattle.entry_codec.proofs.Readers.{InOrder}
use Rattle.entry_codec.proofs.Readers.{peeled, at_end}
use Rattle.entry_codec.proofs.Steady.{gives_steady, then_steady}
use Rattle.entry_codec.proofs.Numbers.{u8_reader}
use Rattle.entry_codec.proofs.Allowed.{Allows}
use Rattle.entry_codec.proofs.Seens.{count_reader}
use Rattle.entry_codec.proofs.Parts.{feed_reader}
use Rattle.entry_codec.proofs.Bodies.{body_reader}

-- the version
abbrev pub IsVersion : ℕ → Type 0
IsVersion n = (n ≡ 1) ⊎ (n ≡ 2)

abbrev pub is_version : ℕ → Bool
is_version n = eqb n 1 || eqb n 2

one_of_both : (n : ℕ) → is_version n ≡ true → IsVersion n
one_of_both n e = go (eqb n 1) refl
  where
    go : (b : Bool) → eqb n 1 ≡ b → IsVersion n
    go true is_it = inl (eqb-true n 1 is_it)
    go false is_it = inr (eqb-true n 2 (rw is_it at e))

is_one_of_both : (n : ℕ) → IsVersion n → is_version n ≡ true
is_one_of_both n (inl e) = rw e refl
is_one_of_both n (inr e) = rw e refl

version_found : (bytes : List ℕ) (p n q : ℕ) → IsBytes bytes → p ≤ length bytes → version_at bytes p ≡ Ok (n, q)
    → IsVersion n × Stands (u8_bytes n) bytes p q
unfolding version_at
version_found bytes p n q is lt e =
    let c = came (u8_at bytes p) (λ (v : ℕ × ℕ). cond (is_version v.0) (Ok v) (Err Version)) (n, q) e in
    let g = passed (is_version c.value.0) c.value (n, q) c.then_ in
    let f = u8_reader.found bytes p c.value.0 c.value.1 is lt c.first in
    subst (λ (v : ℕ × ℕ). IsVersion v.0 × Stands (u8_bytes v.0) bytes p v.1) g.1 (one_of_both c.value.0 g.0, f.1)
  where
    passed : (b : Bool) (x y : ℕ × ℕ) → cond b (Ok x) (Err Version) ≡ Ok y → (b ≡ true) × (x ≡ y)
    passed true x y e = (refl, cc)
    passed false x y e = absurd cc

small : (n : ℕ) → IsVersion n → n < 256
small n (inl e) = omega (arith, e)
small n (inr e) = omega (arith, e)

version_again : (bytes : List ℕ) (p n q : ℕ) → IsVersion n → Stands (u8_bytes n) bytes p q
    → version_at bytes p ≡ Ok (n, q)
unfolding version_at
version_again bytes p n q one s =
    let is_it : is_version n ≡ true = is_one_of_both n one in
    let read : u8_at bytes p ≡ Ok (n, q) = u8_reader.again bytes p n q (small n one) s in
    rw (read, is_it) refl

-- what stands behind the version
abbrev pub behind_version : ℕ → Reader (ℕ × Entry)
behind_version n =
    chain feed_at (λ feed. chain (number_with w32 (nat_lt 0)) (λ place. chain (body_at (eqb n 2) feed) (λ body.
    gives (n, record { feed = feed; place = place; body = body }))))

pub behind_steady : (n : ℕ) → IsSteady (behind_version n)
behind_steady n =
    then_steady _ feed_reader.steady (λ feed. then_steady _ count_reader.steady (λ place.
    then_steady _ (body_reader (eqb n 2) feed).steady (λ body. gives_steady _)))

-- an entry that is fit, in range and of the version that is told
pub record EntryFits (x : ℕ × Entry) : Type 0 where
  pub told : IsVersion x.0
  pub fit : IsFit x.1
  pub in_range : InRange x.1
  pub allowed : Allows (eqb x.0 2) (is_second x.1.body)

behind_found : (bytes : List ℕ) (p n m : ℕ) (x : ℕ × Entry) (q : ℕ) → IsBytes bytes → IsVersion n
    → Stands (u8_bytes n) bytes p m → behind_version n bytes m ≡ Ok (x, q)
    → EntryFits x × Stands (bytes_with x.0 x.1) bytes p q
unfolding entry_bytes
behind_found bytes p n m x q is told number h =
    let feed = step feed_reader is number h in
    let place = step count_reader is feed.stands feed.rest in
    let body = step (body_reader (eqb n 2) feed.value) is place.stands place.rest in
    subst (λ (z : (ℕ × Entry) × ℕ). EntryFits z.0 × Stands (bytes_with z.0.0 z.0.1) bytes p z.1)
    (same_value body.rest) (
      record {
        told = told;
        fit = record {
          in_its_feed = body.fits.1;
          has_place = ltb-true 0 place.value place.fits.1;
          bounded = body.fits.0.0.0;
        };
        in_range = record {
          feed_ = feed.fits;
          place_ = place.fits.0;
          body_ = body.fits.0.0.1;
        };
        allowed = body.fits.0.1;
      },
      body.stands,
    )

pub entry_found : (bytes : List ℕ) (p : ℕ) (x : ℕ × Entry) (q : ℕ) → IsBytes bytes → p ≤ length bytes
    → entry_at bytes p ≡ Ok (x, q) → EntryFits x × Stands (bytes_with x.0 x.1) bytes p q
unfolding entry_at chain
entry_found bytes p x q is lt h =
    let c = came (version_at bytes p) (λ (v : ℕ × ℕ). behind_version v.0 bytes v.1) (x, q) h in
    let number = version_found bytes p c.value.0 c.value.1 is lt c.first in
    behind_found bytes p c.value.0 c.value.1 x q is number.0 number.1 c.then_

behind_again : (bytes : List ℕ) (m n : ℕ) (e : Entry) (q : ℕ) → EntryFits (n, e)
    → InOrder (feed_bytes e.feed ∷ u32_bytes e.place ∷ body_bytes e.body ∷ []) bytes m q
    → behind_version n bytes m ≡ Ok ((n, e), q)
behind_again bytes m n e q fits s =
    let feed = peeled s in
    let place = peeled feed.rest in
    let body = peeled place.rest in
    on feed_reader _ e.feed fits.in_range.feed_ feed.first
    (on count_reader _ e.place (fits.in_range.place_, lt-ltb 0 e.place fits.fit.has_place) place.first
    (on (body_reader (eqb n 2) e.feed) _ e.body
    (((fits.fit.bounded, fits.in_range.body_), fits.allowed), fits.fit.in_its_feed) body.first
    (ap (λ (k : ℕ). Ok ((n, e), k)) (sym (at_end body.rest)))))

pub entry_again : (bytes : List ℕ) (p : ℕ) (x : ℕ × Entry) (q : ℕ) → EntryFits x
    → Stands (bytes_with x.0 x.1) bytes p q → entry_at bytes p ≡ Ok (x, q)
unfolding entry_at entry_bytes chain
entry_again bytes p (n, e) q fits s =
    let number = peeled (in_order (u8_bytes n) (
    feed_bytes e.feed
    ∷ u32_bytes e.place
    ∷ body_bytes e.body
    ∷ []) s) in
    ap (λ (m : Result (ℕ × ℕ) EntryFault). and_then m (λ (v : ℕ × ℕ). behind_version v.0 bytes v.1))
    (version_again bytes p n (p + 1) fits.told number.first)
    ∙ behind_again bytes (p + 1) n e q fits number.rest
