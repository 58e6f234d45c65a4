use Rattle.std.proofs.Common.{◌≡◌, ◌++◌, ◌≤◌, ◌+◌, ◌-◌, ℕ, List, length, length-append, length-drop, inr, take, drop, refl, sym, ap, subst, is_ok, ◌∙◌, arith}
use Rattle.std.proofs.lemmas.Bool.{false≢true}
use Rattle.std.proofs.lemmas.List.{take_all}
use Rattle.std.specs.Int.{w16, from_be_bytes}
use Rattle.sealed_records.specs.Records.{IsAccepted, code_of_record, next}
use Rattle.sealed_records.proofs.Fronts.{cut_at, grown, left, told_first, taken_record}
use Rattle.sealed_records.proofs.seals.Seal.take.Goals as goal

pub returns-then-not-are_same : goal.returns-then-not-are_same
returns-then-not-are_same c =
    let come : List ℕ = c.args.come.now in
    let told : List ℕ = c.split_at.result.0.now in
    let behind : List ℕ = c.split_at.result.1.now in
    let count : ℕ = c.from-count.result in
    let first : from_be_bytes w16 c.rest.result.now ≡ from_be_bytes w16 (take 2 c.rest.result.now) =
    told_first c.rest.result.now c.in-len2-up.len_at_least in
    let tells : count ≡ from_be_bytes w16 (take 2 come) =
    c.from-count.ensures ∙ c.from_be_bytes.ensures ∙ first ∙ ap (λ l. from_be_bytes w16 (take 2 l)) c.rest.ensures in
    let cut : come ≡ told ++ behind = sym c.rest-rest.ensures ∙ c.split_at.ensures.by_index.0 in
    let n : ℕ = 2 + from_be_bytes w16 (take 2 come) in
    let long : length told ≡ n = omega (arith, c.split_at.ensures.front_len, tells) in
    let parts = cut_at n come told behind cut long in
    let enough : 32 + n ≤ length come =
    omega (arith, c.in-Some.ensures.cases.enough, long, ap length cut, length-append told behind) in
    let made : c.code.result ≡ code_of_record c.args.self.now told =
    c.code.ensures in (
      (
        omega (arith, enough),
        inr (inr (
          omega (arith, enough),
          λ same. absurd (false≢true (c.if-not-are_same.ensures.1 (made ∙ ap (code_of_record c.args.self.now) (sym parts.0)
              ∙ same ∙ ap (take 32) parts.1 ∙ sym c.in-Some.ensures.cases.same))),
        )),
      ),
      refl,
      refl,
      refl,
    )

pub returns-then-is_err : goal.returns-then-is_err
returns-then-is_err c =
    let come : List ℕ = c.args.come.now in
    let told : List ℕ = c.split_at.result.0.now in
    let behind : List ℕ = c.split_at.result.1.now in
    let count : ℕ = c.from-count.result in
    let first : from_be_bytes w16 c.rest.result.now ≡ from_be_bytes w16 (take 2 c.rest.result.now) =
    told_first c.rest.result.now c.in-len2-up.len_at_least in
    let tells : count ≡ from_be_bytes w16 (take 2 come) =
    c.from-count.ensures ∙ c.from_be_bytes.ensures ∙ first ∙ ap (λ l. from_be_bytes w16 (take 2 l)) c.rest.ensures in
    let cut : come ≡ told ++ behind = sym c.rest-rest.ensures ∙ c.split_at.ensures.by_index.0 in
    let long : length told ≡ 2 + count = omega (arith, c.split_at.ensures.front_len) in
    let low : count ≤ 16384 = omega (arith, c.if-count-gt-MOST_IN_RECORD.false) in
    let same : code_of_record c.args.self.now told ≡ take 32 behind =
    sym c.code.ensures ∙ c.if-not-are_same.ensures.0 refl ∙ c.in-Some.ensures.cases.same in
    let is = taken_record c.args.self.now come told behind count cut long tells low c.in-Some.ensures.cases.enough same in (
      (drop 2 told, drop (2 + count + 32) come, (is, omega (arith, c.if-self.false, ap (λ d. d.number) c.self.view_is, c.self.told))),
      refl,
      refl,
      left (is_ok c.extend_from_slice.result) c.extend_from_slice.new.self.items c.args.taken.now.items
          (take (length told - 2) (drop 2 told)) c.extend_from_slice.ensures.items c.if-is_err.ensures.negation,
    )

pub returns : goal.returns
returns c =
    let come : List ℕ = c.args.come.now in
    let told : List ℕ = c.split_at.result.0.now in
    let behind : List ℕ = c.split_at.result.1.now in
    let count : ℕ = c.from-count.result in
    let first : from_be_bytes w16 c.rest.result.now ≡ from_be_bytes w16 (take 2 c.rest.result.now) =
    told_first c.rest.result.now c.in-len2-up.len_at_least in
    let tells : count ≡ from_be_bytes w16 (take 2 come) =
    c.from-count.ensures ∙ c.from_be_bytes.ensures ∙ first ∙ ap (λ l. from_be_bytes w16 (take 2 l)) c.rest.ensures in
    let cut : come ≡ told ++ behind = sym c.rest-rest.ensures ∙ c.split_at.ensures.by_index.0 in
    let long : length told ≡ 2 + count = omega (arith, c.split_at.ensures.front_len) in
    let low : count ≤ 16384 = omega (arith, c.if-count-gt-MOST_IN_RECORD.false) in
    let made : c.code.result ≡ code_of_record c.args.self.now told =
    c.code.ensures in
    let same : code_of_record c.args.self.now told ≡ take 32 behind =
    sym made ∙ c.if-not-are_same.ensures.0 refl ∙ c.in-Some.ensures.cases.same in
    let is = taken_record c.args.self.now come told behind count cut long tells low c.in-Some.ensures.cases.enough same in
    let rest : IsAccepted c.args.self.now come (drop 2 told) c.skip.new.self =
    subst (λ r. IsAccepted c.args.self.now come (drop 2 told) r) (sym c.skip.ensures) is in
    let window : take (length told - 2) (drop 2 told) ≡ drop 2 told =
    take_all (length told - 2) (drop 2 told) (omega (arith, length-drop 2 told)) in (
      drop 2 told,
      (rest, omega (arith, c.if-self.false, ap (λ d. d.number) c.self.view_is, c.self.told)),
      grown (is_ok c.extend_from_slice.result) c.extend_from_slice.new.self.items c.args.taken.now.items
          (take (length told - 2) (drop 2 told)) c.extend_from_slice.ensures.items c.if-is_err.ensures.negation
          ∙ ap (λ l. c.args.taken.now.items ++ l) window,
      ap next c.self.view_is,
    )
