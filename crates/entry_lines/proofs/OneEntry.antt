-- The report of one entry alone, and where the entry's line stands in it.
use Rattle.std.proofs.Common.{◌≡◌, ◌∙◌, ◌+◌, ◌-◌, ◌≤◌, ◌++◌, ◌∷◌, [], ℕ, List, IfOk, Result, Ok, Err, ap, arith, codes, decimal, drop, length}
use Rattle.std.proofs.Common.{length-append, refl, take}
use Rattle.std.specs.Prelude.{slice_range}
use Rattle.std.proofs.lemmas.Fmt.{decimal_digit}
use Rattle.std.proofs.lemmas.List.{append-nil, drop_at, take_at}
use Rattle.base_types.specs.declared.Entry.{Entry}
use Rattle.base_types.specs.declared.Net.{Net}
use Rattle.base_types.specs.declared.NodePart.{NodePart}
use Rattle.base_types.specs.declared.PairCount.{PairCount}
use Rattle.base_types.specs.declared.Start.{Start}
use Rattle.report_text.specs.Reports.{entry_line, events_part, report_of, starts_part}

abbrev whole : List ℕ → List ℕ → List ℕ → List ℕ
whole one zero line =
    (((codes "events " ++ one ++ codes "\n" ++ (line ++ [])) ++ (codes "starts " ++ zero ++ codes "\n" ++ [])) ++ []) ++ []

abbrev around : List ℕ → List ℕ
around line = codes "events 1\n" ++ (line ++ codes "starts 0\n")

tail : (line behind : List ℕ) → (((line ++ []) ++ behind) ++ []) ++ [] ≡ line ++ behind
tail line behind =
    append-nil (((line ++ []) ++ behind) ++ []) ∙ append-nil ((line ++ []) ++ behind)
    ∙ ap (λ (l : List ℕ). l ++ behind) (append-nil line)

of_one : (net : Net) (entry : Entry)
    → report_of net (record { events = entry ∷ []; starts = []; packets = []; nodes = [] }) ≡ around (entry_line net entry)
unfolding report_of events_part starts_part
of_one net entry =
    let line : List ℕ = entry_line net entry in
    ap (λ (one : List ℕ). whole one (decimal 0) line) (decimal_digit 1 (omega arith))
    ∙ ap (λ (zero : List ℕ). whole (49 ∷ []) zero line) (decimal_digit 0 (omega arith))
    ∙ ap (λ (l : List ℕ). codes "events 1\n" ++ l) (tail line (codes "starts 0\n"))

report_is : (net : Net) (entry : Entry) (events : List Entry) (starts : List Start) (packets : List PairCount)
    (nodes : List NodePart) (bytes : List ℕ) → events ≡ entry ∷ [] → starts ≡ [] → packets ≡ [] → nodes ≡ []
    → bytes ≡ report_of net (record { events = events; starts = starts; packets = packets; nodes = nodes })
    → bytes ≡ around (entry_line net entry)
report_is net entry events starts packets nodes bytes e s p n is =
    is ∙ (λ i. report_of net (record { events = e i; starts = s i; packets = p i; nodes = n i })) ∙ of_one net entry

long : (line : List ℕ) → length (around line) ≡ 18 + length line
long line =
    omega
    (arith, length-append (codes "events 1\n") (line ++ codes "starts 0\n"), length-append line (codes "starts 0\n"))

middle : (line : List ℕ) → slice_range (around line) 9 (length (around line) - 9) ≡ line
middle line =
    let width : length (around line) - 9 - 9 ≡ length line = omega (arith, long line) in
    ap (λ (n : ℕ). take n (drop 9 (around line))) width
    ∙ ap (λ (l : List ℕ). take (length line) l) (drop_at (codes "events 1\n") (line ++ codes "starts 0\n") 9 refl)
    ∙ take_at line (codes "starts 0\n") (length line) refl

pub made_long : {E : Type 0} (net : Net) (entry copy : Entry) (none events : List Entry) (starts : List Start)
    (packets : List PairCount) (nodes : List NodePart) (r : Result (List ℕ) E) → none ≡ [] → events ≡ none ++ copy ∷ []
    → copy ≡ entry → starts ≡ [] → packets ≡ [] → nodes ≡ []
    → IfOk r (λ b. b ≡ report_of net (record { events = events; starts = starts; packets = packets; nodes = nodes }))
    → IfOk r (λ b. 18 ≤ length b)
made_long net entry copy none events starts packets nodes (Ok bytes) o e c s p n is =
    let all = report_is net entry events starts packets nodes bytes
    (e ∙ ap (λ (l : List Entry). l ++ copy ∷ []) o ∙ ap (λ (x : Entry). x ∷ []) c) s p n is in
    omega (arith, ap length all, long (entry_line net entry))
made_long net entry copy none events starts packets nodes (Err f) o e c s p n is = tt

pub made_line : {E : Type 0} (net : Net) (entry copy : Entry) (none events : List Entry) (starts : List Start)
    (packets : List PairCount) (nodes : List NodePart) (r : Result (List ℕ) E) → none ≡ [] → events ≡ none ++ copy ∷ []
    → copy ≡ entry → starts ≡ [] → packets ≡ [] → nodes ≡ []
    → IfOk r (λ b. b ≡ report_of net (record { events = events; starts = starts; packets = packets; nodes = nodes }))
    → IfOk r (λ b. slice_range b 9 (length b - 9) ≡ entry_line net entry)
made_line net entry copy none events starts packets nodes (Ok bytes) o e c s p n is =
    let all = report_is net entry events starts packets nodes bytes
    (e ∙ ap (λ (l : List Entry). l ++ copy ∷ []) o ∙ ap (λ (x : Entry). x ∷ []) c) s p n is in
    ap (λ (b : List ℕ). slice_range b 9 (length b - 9)) all ∙ middle (entry_line net entry)
made_line net entry copy none events starts packets nodes (Err f) o e c s p n is = tt
