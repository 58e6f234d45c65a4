use Rattle.std.proofs.Common.{◌≡◌, ◌∙◌, ℕ, List, Bor, ap, arith, length, map, sym}
use Rattle.std.specs.Prelude.{Ok, Err}
use Rattle.lemmas.proofs.Results.{if_ok}
use Rattle.syntax.specs.Splits.{lines_of}
use Rattle.history_script.specs.Fronts.{history_place, network_of}
use Rattle.history_script.specs.Histories.{line_behind, lines_behind}
use Rattle.history_script.specs.Rows.{row_of}
use Rattle.history_script.specs.declared.histories.HistoryText.{HistoryText}
use Rattle.history_script.proofs.Sizes.{behind_fits, numbers_fit, record_fits}
use Rattle.history_script.proofs.Whole.{count_in, entries_in, read_fault, read_with, same_fault, starts_in}
use Rattle.history_script.proofs.reading.read_history.Goals as goal

pub read_network-requires-clause-few : goal.read_network-requires-clause-few
read_network-requires-clause-few c =
    record_fits (λ (x : Bor (List ℕ)). x.now) c.deref-2.result.now c.args.text.now c.history_place-place.result
    (ap (map (λ (x : Bor (List ℕ)). x.now)) c.deref-2.ensures.value ∙ c.in_ok-texts.ensures) c.requires

pub read_behind-requires-clause-few : goal.read_behind-requires-clause-few
read_behind-requires-clause-few c =
    numbers_fit (λ (x : Bor (List ℕ)). x.now) c.deref-in-Ok.result.now c.args.text.now c.history_place-place.result
    (ap (map (λ (x : Bor (List ℕ)). x.now)) c.deref-in-Ok.ensures.value ∙ c.in_ok-texts.ensures) c.requires
    (λ p is. let same : length c.deref.result.now ≡ length c.deref-in-Ok.result.now =
    ap length (c.deref.ensures.value ∙ sym c.deref-in-Ok.ensures.value) in
    let h = c.history_place-place.ensures.within p is in
    omega (arith, same, h))

pub read_behind-requires-clause-short : goal.read_behind-requires-clause-short
read_behind-requires-clause-short c =
    behind_fits (λ (x : Bor (List ℕ)). x.now) c.deref-in-Ok.result.now c.args.text.now c.history_place-place.result
    (ap (map (λ (x : Bor (List ℕ)). x.now)) c.deref-in-Ok.ensures.value ∙ c.in_ok-texts.ensures) c.requires

pub returns-in-Ok-clause-read : goal.returns-in-Ok-clause-read
returns-in-Ok-clause-read c =
    let texts = map (λ (x : Bor (List ℕ)). x.now) c.deref-in-Ok.result.now in
    let are : texts ≡ lines_of c.args.text.now =
    ap (map (λ (x : Bor (List ℕ)). x.now)) c.deref-in-Ok.ensures.value ∙ c.in_ok-texts.ensures in
    let first : map (λ (x : Bor (List ℕ)). x.now) c.deref.result.now ≡ lines_of c.args.text.now =
    ap (map (λ (x : Bor (List ℕ)). x.now)) c.deref.ensures.value ∙ c.in_ok-texts.ensures in
    let second : map (λ (x : Bor (List ℕ)). x.now) c.deref-2.result.now ≡ texts =
    ap (map (λ (x : Bor (List ℕ)). x.now)) (c.deref-2.ensures.value ∙ sym c.deref-in-Ok.ensures.value) in
    if_ok _ _ c.read_behind.result
    (λ (h : HistoryText) is. read_with c.args.text.now c.history_place-place.result texts c.in-Ok.net (Ok h) are
    (c.history_place-place.ensures.place ∙ ap history_place (first ∙ sym are))
    (ap (network_of c.history_place-place.result) (sym second) ∙ c.in-Ok.ensures.net) is)
    c.read_behind.ensures.read

pub returns-in-Ok-clause-inside : goal.returns-in-Ok-clause-inside
returns-in-Ok-clause-inside c =
    if_ok _ _ c.read_behind.result
    (λ (h : HistoryText) is. entries_in (line_behind c.history_place-place.result)
    (map row_of (lines_behind c.history_place-place.result (map (λ (x : Bor (List ℕ)). x.now) c.deref-in-Ok.result.now)))
    c.in-Ok.net h is)
    c.read_behind.ensures.read

pub returns-in-Ok-clause-starts : goal.returns-in-Ok-clause-starts
returns-in-Ok-clause-starts c =
    if_ok _ _ c.read_behind.result
    (λ (h : HistoryText) is. starts_in (line_behind c.history_place-place.result)
    (map row_of (lines_behind c.history_place-place.result (map (λ (x : Bor (List ℕ)). x.now) c.deref-in-Ok.result.now)))
    c.in-Ok.net h is)
    c.read_behind.ensures.read

pub returns-in-Ok-clause-few : goal.returns-in-Ok-clause-few
returns-in-Ok-clause-few c =
    if_ok _ _ c.read_behind.result
    (λ (h : HistoryText) is. count_in (line_behind c.history_place-place.result)
    (lines_behind c.history_place-place.result (map (λ (x : Bor (List ℕ)). x.now) c.deref-in-Ok.result.now))
    c.in-Ok.net h is
    (numbers_fit (λ (x : Bor (List ℕ)). x.now) c.deref-in-Ok.result.now c.args.text.now c.history_place-place.result
    (ap (map (λ (x : Bor (List ℕ)). x.now)) c.deref-in-Ok.ensures.value ∙ c.in_ok-texts.ensures) c.requires
    (λ p is_place. let same : length c.deref.result.now ≡ length c.deref-in-Ok.result.now =
    ap length (c.deref.ensures.value ∙ sym c.deref-in-Ok.ensures.value) in
    let h = c.history_place-place.ensures.within p is_place in
    omega (arith, same, h))))
    c.read_behind.ensures.read

pub returns-in-Ok-clause-at : goal.returns-in-Ok-clause-at
returns-in-Ok-clause-at c =
    let texts = map (λ (x : Bor (List ℕ)). x.now) c.deref-in-Ok.result.now in
    let are : texts ≡ lines_of c.args.text.now =
    ap (map (λ (x : Bor (List ℕ)). x.now)) c.deref-in-Ok.ensures.value ∙ c.in_ok-texts.ensures in
    let first : map (λ (x : Bor (List ℕ)). x.now) c.deref.result.now ≡ lines_of c.args.text.now =
    ap (map (λ (x : Bor (List ℕ)). x.now)) c.deref.ensures.value ∙ c.in_ok-texts.ensures in
    let second : map (λ (x : Bor (List ℕ)). x.now) c.deref-2.result.now ≡ texts =
    ap (map (λ (x : Bor (List ℕ)). x.now)) (c.deref-2.ensures.value ∙ sym c.deref-in-Ok.ensures.value) in
    λ n k is. read_with c.args.text.now c.history_place-place.result texts c.in-Ok.net (Err (n, k)) are
    (c.history_place-place.ensures.place ∙ ap history_place (first ∙ sym are))
    (ap (network_of c.history_place-place.result) (sym second) ∙ c.in-Ok.ensures.net) (c.read_behind.ensures.at n k is)

pub returns-clause-at : goal.returns-clause-at
returns-clause-at c =
    let texts = map (λ (x : Bor (List ℕ)). x.now) c.deref-2.result.now in
    let are : texts ≡ lines_of c.args.text.now =
    ap (map (λ (x : Bor (List ℕ)). x.now)) c.deref-2.ensures.value ∙ c.in_ok-texts.ensures in
    let first : map (λ (x : Bor (List ℕ)). x.now) c.deref.result.now ≡ lines_of c.args.text.now =
    ap (map (λ (x : Bor (List ℕ)). x.now)) c.deref.ensures.value ∙ c.in_ok-texts.ensures in
    λ n k is. read_fault c.args.text.now c.history_place-place.result texts (n, k) are
    (c.history_place-place.ensures.place ∙ ap history_place (first ∙ sym are)) (c.in-Err.ensures.at n k (same_fault _ _ is))
