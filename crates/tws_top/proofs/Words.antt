-- Words ask for a service, or are answered by the input alone, and never both.
use Rattle.std.proofs.Common.{[], ◌<◌, ◌≡◌, ◌∙◌, ◌∷◌, ◌⊎◌, ℕ, Bool, List, None, Option, Some, ap, arith, bytes_eq, codes, false, inl, inr, option_map, refl, subst, sym, true}
use Rattle.std.specs.Cmp.Lexicographic.{bytes_decides}
use Rattle.lemmas.proofs.Options.{none_some}
use Rattle.node_commands.specs.Forms.{Request, request_of, requested, service_in, service_of}
use Rattle.node_commands.specs.declared.forms.Service.{Service}
use Rattle.input_commands.specs.Words.{asked_of, sample_of_words}
use Rattle.input_commands.specs.declared.words.Asked.{Asked}
use Rattle.tws_top.proofs.InputRows.{IsOfTexts, IsSaid, said_0, said_1, said_10, said_11, said_2, said_3}

-- without a service there is no request
pub no_request : (words : List (List ℕ)) → service_in words ≡ None → request_of words ≡ None
unfolding service_in request_of
no_request [] e = refl
no_request (a ∷ []) e = refl
no_request (a ∷ b ∷ []) e = refl
no_request (word ∷ name ∷ last ∷ []) e = ap (λ (o : Option Service). option_map (requested name last) o) e
no_request (a ∷ b ∷ c ∷ d ∷ more) e = refl

-- with one there is
pub has_request : (words : List (List ℕ)) (service : Service) → service_in words ≡ Some service
    → (request : Request) × (request_of words ≡ Some request)
unfolding service_in request_of
has_request [] service e = absurd (none_some e)
has_request (a ∷ []) service e = absurd (none_some e)
has_request (a ∷ b ∷ []) service e = absurd (none_some e)
has_request (word ∷ name ∷ last ∷ []) service e =
    (requested name last service, ap (λ (o : Option Service). option_map (requested name last) o) e)
has_request (a ∷ b ∷ c ∷ d ∷ more) service e = absurd (none_some e)

-- and then the input alone is asked for nothing
asks_nothing : (word name last : List ℕ) (service : Service) → service_of word last ≡ Some service
    → sample_of_words word name last ≡ None
unfolding service_of sample_of_words
asks_nothing word name last service e = go (bytes_eq word (codes "node")) refl (bytes_eq word (codes "ask")) refl
  where
    go : (n : Bool) → bytes_eq word (codes "node") ≡ n → (a : Bool) → bytes_eq word (codes "ask") ≡ a
        → sample_of_words word name last ≡ None
    go true is a other =
        subst (λ (w : List ℕ). sample_of_words w name last ≡ None) (sym ((bytes_decides word (codes "node")).0 is)) refl
    go false not true is =
        subst (λ (w : List ℕ). sample_of_words w name last ≡ None) (sym ((bytes_decides word (codes "ask")).0 is)) refl
    go false not false other = absurd (none_some (sym (rw (not, other) refl) ∙ e))

pub no_input : (words : List (List ℕ)) (service : Service) → service_in words ≡ Some service → asked_of words ≡ None
unfolding service_in asked_of
no_input [] service e = absurd (none_some e)
no_input (a ∷ []) service e = absurd (none_some e)
no_input (a ∷ b ∷ []) service e = absurd (none_some e)
no_input (word ∷ name ∷ last ∷ []) service e = asks_nothing word name last service e
no_input (a ∷ b ∷ c ∷ d ∷ more) service e = absurd (none_some e)

-- so the three cannot be otherwise
pub never_requested : (words : List (List ℕ)) {request : Request} → service_in words ≡ None → request_of words ≡ Some request → ⊥
never_requested words none requests = none_some (sym (no_request words none) ∙ requests)

pub always_requested : (words : List (List ℕ)) (service : Service) → service_in words ≡ Some service → request_of words ≡ None → ⊥
always_requested words service is none = none_some (sym none ∙ (has_request words service is).1)

pub never_input : (words : List (List ℕ)) (service : Service) {asked : Asked} → service_in words ≡ Some service
    → asked_of words ≡ Some asked → ⊥
never_input words service is asked_ = none_some (sym (no_input words service is) ∙ asked_)

-- the numbers of words that the input alone answers
pub of_texts : (n : ℕ) → IsOfTexts n → (n < 6) ⊎ ((8 < n) × (n < 12))
of_texts n (inl e) = inl (omega (arith, e))
of_texts n (inr (inl e)) = inr (omega (arith, e), omega (arith, e))
of_texts n (inr (inr (inl e))) = inl (omega (arith, e))
of_texts n (inr (inr (inr is))) = by_said n is
  where
    by_said : (m : ℕ) → IsSaid m → (m < 6) ⊎ ((8 < m) × (m < 12))
    by_said m said_0 = inl (omega arith)
    by_said m said_1 = inl (omega arith)
    by_said m said_2 = inl (omega arith)
    by_said m said_3 = inl (omega arith)
    by_said m said_10 = inr (omega arith, omega arith)
    by_said m said_11 = inr (omega arith, omega arith)

pub not_of_texts : (n k : ℕ) → (n < 6) ⊎ ((8 < n) × (n < 12)) → n ≡ k → (k < 6 → ⊥) → (8 < k → k < 12 → ⊥) → ⊥
not_of_texts n k (inl low) is no_low no_high = no_low (omega (arith, low, is))
not_of_texts n k (inr high) is no_low no_high = no_high (omega (arith, high.0, is)) (omega (arith, high.1, is))

-- they are among all numbers, and so are those of services
pub five_among : (n : ℕ) → n ≡ 5 → (n ≡ 0) ⊎ (n ≡ 1) ⊎ (n ≡ 2) ⊎ (n ≡ 3) ⊎ (n ≡ 4) ⊎ (n ≡ 5) ⊎ (n ≡ 6) ⊎ (n ≡ 7) ⊎ (n ≡ 8) ⊎ (n ≡ 9) ⊎ (n ≡ 10) ⊎ (n ≡ 11) ⊎ (n ≡ 12)
five_among n e = inr (inr (inr (inr (inr (inl e)))))

pub texts_among : (n : ℕ) → IsOfTexts n
    → (n ≡ 0) ⊎ (n ≡ 1) ⊎ (n ≡ 2) ⊎ (n ≡ 3) ⊎ (n ≡ 4) ⊎ (n ≡ 5) ⊎ (n ≡ 6) ⊎ (n ≡ 7) ⊎ (n ≡ 8) ⊎ (n ≡ 9) ⊎ (n ≡ 10) ⊎ (n ≡ 11) ⊎ (n ≡ 12)
texts_among n (inl e) = inr (inr (inr (inr (inl e))))
texts_among n (inr (inl e)) = inr (inr (inr (inr (inr (inr (inr (inr (inr (inl e)))))))))
texts_among n (inr (inr (inl e))) = five_among n e
texts_among n (inr (inr (inr is))) = by_said n is
  where
    by_said : (m : ℕ) → IsSaid m
        → (m ≡ 0) ⊎ (m ≡ 1) ⊎ (m ≡ 2) ⊎ (m ≡ 3) ⊎ (m ≡ 4) ⊎ (m ≡ 5) ⊎ (m ≡ 6) ⊎ (m ≡ 7) ⊎ (m ≡ 8) ⊎ (m ≡ 9) ⊎ (m ≡ 10) ⊎ (m ≡ 11) ⊎ (m ≡ 12)
    by_said m said_0 = inl refl
    by_said m said_1 = inr (inl refl)
    by_said m said_2 = inr (inr (inl refl))
    by_said m said_3 = inr (inr (inr (inl refl)))
    by_said m said_10 = inr (inr (inr (inr (inr (inr (inr (inr (inr (inr (inl refl))))))))))
    by_said m said_11 = inr (inr (inr (inr (inr (inr (inr (inr (inr (inr (inr (inl refl)))))))))))

pub services_among : (n : ℕ) → (n ≡ 0) ⊎ (n ≡ 1) ⊎ (n ≡ 2) ⊎ (n ≡ 4) ⊎ (n ≡ 6) ⊎ (n ≡ 7) ⊎ (n ≡ 8) ⊎ (n ≡ 9) ⊎ (n ≡ 10) ⊎ (n ≡ 12)
    → (n ≡ 0) ⊎ (n ≡ 1) ⊎ (n ≡ 2) ⊎ (n ≡ 3) ⊎ (n ≡ 4) ⊎ (n ≡ 5) ⊎ (n ≡ 6) ⊎ (n ≡ 7) ⊎ (n ≡ 8) ⊎ (n ≡ 9) ⊎ (n ≡ 10) ⊎ (n ≡ 11) ⊎ (n ≡ 12)
services_among n (inl e) = inl e
services_among n (inr (inl e)) = inr (inl e)
services_among n (inr (inr (inl e))) = inr (inr (inl e))
services_among n (inr (inr (inr (inl e)))) = inr (inr (inr (inr (inl e))))
services_among n (inr (inr (inr (inr (inl e))))) = inr (inr (inr (inr (inr (inr (inl e))))))
services_among n (inr (inr (inr (inr (inr (inl e)))))) = inr (inr (inr (inr (inr (inr (inr (inl e)))))))
services_among n (inr (inr (inr (inr (inr (inr (inl e))))))) = inr (inr (inr (inr (inr (inr (inr (inr (inl e))))))))
services_among n (inr (inr (inr (inr (inr (inr (inr (inl e)))))))) = inr (inr (inr (inr (inr (inr (inr (inr (inr (inl e)))))))))
services_among n (inr (inr (inr (inr (inr (inr (inr (inr (inl e))))))))) = inr (inr (inr (inr (inr (inr (inr (inr (inr (inr (inl e))))))))))
services_among n (inr (inr (inr (inr (inr (inr (inr (inr (inr (e)))))))))) = inr (inr (inr (inr (inr (inr (inr (inr (inr (inr (inr (inr (e))))))))))))
