-- The text of a history is read back.
use Rattle.std.proofs.Common.{◌≡◌, ◌+◌, ℕ, true, List, [], ◌∷◌, ◌++◌, length, map, flat_map, Some, None}
use Rattle.std.proofs.Common.{Ok, IsUtf8, codes, if◌then◌else◌, refl, ap, sym, ◌∙◌, append-nil, append_assoc}
use Rattle.std.specs.List.{AllByRecursion, list_all}
use Rattle.std.proofs.Math.Seq.{drop-append-add}
use Rattle.std.proofs.lemmas.Bool.{and_parts, ltb-true}
use Rattle.std.proofs.lemmas.List.{length-map}
use Rattle.std.proofs.lemmas.List.Elements.{recursion_from_All}
use Rattle.entry_codec.proofs.Whole.{whole_again}
use Rattle.model.specs.Fit.{IsFit}
use Rattle.model.specs.Network.{node_count}
use Rattle.model.specs.Ranges.{InRange}
use Rattle.model.specs.Spelling.{entry_bytes}
use Rattle.model.specs.Types.{Entry, Net, Start}
use Rattle.model.specs.Workstations.{ws_in_body, ws_in_feed}
use Rattle.entry_checks.specs.Inside.{are_inside}
use Rattle.network_tree.specs.Faults.{net_fault}
use Rattle.plan_listing.specs.Networks.{network_text}
use Rattle.report_text.specs.Names.{name_of}
use Rattle.syntax.specs.Splits.{lines_of}
use Rattle.history_script.specs.Histories.{entry_of, found_inside, is_inside, is_start_inside, lines_behind, read_of}
use Rattle.history_script.specs.Histories.{with_rows}
use Rattle.history_script.specs.Printed.{IsStartInRange, entry_line, head_text, history_text, start_line}
use Rattle.history_script.specs.Rows.{row_of}
use Rattle.history_script.proofs.Whole.{read_with}
use Rattle.history_laws.specs.Printables.{IsPrintable, IsToldWhole, as_printed, node_as_printed}
use Rattle.history_laws.specs.NetworkReturns.{begun, network_lines}
use Rattle.history_laws.proofs.Accepted.{accepted, good_each}
use Rattle.history_laws.proofs.Histories.{begins, told_whole, lines_behind as lines_go_on}
use Rattle.history_laws.proofs.Lines.{each_line, line_first}
use Rattle.history_laws.specs.Returns.{AreTold}
use Rattle.history_laws.proofs.Places.{IsFound, found}
use Rattle.history_laws.proofs.Rows.{entry_lacks, entry_row_is, entry_words, start_lacks, start_row_is}
use Rattle.history_laws.proofs.Texts.{IsWritten, history_utf8}
use Rattle.history_laws.proofs.Walks.{ReadsEntry, ReadsStart, line_of_start, lines_mean}

-- Each line of an entry and of a start is read back.

entry_reads : (net : Net) (e : Entry) → IsFit e → InRange e → is_inside net e ≡ true → ReadsEntry (as_printed net) e
unfolding entry_of
entry_reads net e fit in_range inside =
    let same : is_inside (as_printed net) e ≡ is_inside net e =
    ap (λ n. are_inside n (ws_in_feed e.feed ++ ws_in_body e.body)) (length-map net.nodes node_as_printed) in
    record {
      row_is = entry_row_is e fit in_range;
      entry_is =
          ap (found_inside (as_printed net)) (whole_again (entry_bytes e) e fit in_range refl)
          ∙ ap (λ b. if b then Some e else None) (same ∙ inside);
    }

entries_read : (net : Net) (entries : List Entry) → AllByRecursion IsFit entries → AllByRecursion InRange entries
    → list_all (is_inside net) entries ≡ true → AllByRecursion (ReadsEntry (as_printed net)) entries
entries_read net [] fit in_range inside = tt
entries_read net (e ∷ entries) fit in_range inside =
    let parts = and_parts (is_inside net e) (list_all (is_inside net) entries) inside in
    (entry_reads net e fit.0 in_range.0 parts.0, entries_read net entries fit.1 in_range.1 parts.1)

-- a start, with the name of its workstation
record IsNamed (net : Net) (s : Start) : Type 0 where
  in_range : IsStartInRange s
  place : IsFound net s.ws

starts_named : (net : Net) → IsPrintable net → net_fault net ≡ None → (starts : List Start) → AllByRecursion IsStartInRange starts
    → list_all (is_start_inside net) starts ≡ true → AllByRecursion (IsNamed net) starts
starts_named net printable none [] in_range inside = tt
starts_named net printable none (s ∷ starts) in_range inside =
    let parts = and_parts (is_start_inside net s) (list_all (is_start_inside net) starts) inside in (
      record { in_range = in_range.0; place = found net none printable.nodes s.ws (ltb-true s.ws (node_count net) parts.0) },
      starts_named net printable none starts in_range.1 parts.1,
    )

starts_read : (net : Net) (starts : List Start) → AllByRecursion (IsNamed net) starts
    → AllByRecursion (ReadsStart net (as_printed net)) starts
starts_read net [] all = tt
starts_read net (s ∷ starts) all = (
  record { row_is = start_row_is (name_of net s.ws) s.job s.number all.0.place.kept all.0.in_range.0 all.0.in_range.1; ws_is = all.0.place.is },
  starts_read net starts all.1,
)

-- The lines behind `$HISTORY`.

abbrev lines_below : Net → List Entry → List Start → List (List ℕ)
lines_below net entries starts = map entry_words entries ++ map (line_of_start net) starts

every : (entries : List Entry) → AllByRecursion (λ e. Unit {0}) entries
every [] = tt
every (e ∷ entries) = (tt, every entries)

starts_lines : (net : Net) (starts : List Start) → AllByRecursion (IsNamed net) starts
    → lines_of (flat_map (start_line net) starts) ≡ map (line_of_start net) starts
unfolding lines_of start_line
starts_lines net starts all =
    ap lines_of (sym (append-nil (flat_map (start_line net) starts)))
    ∙ each_line (IsNamed net) (start_line net) (line_of_start net) (λ s. refl)
    (λ s h. start_lacks (name_of net s.ws) s.job s.number h.place.kept h.in_range.0 h.in_range.1) starts all []
    ∙ append-nil (map (line_of_start net) starts)

rest_lines : (net : Net) (entries : List Entry) (starts : List Start) → AllByRecursion (IsNamed net) starts
    → lines_of (flat_map entry_line entries ++ flat_map (start_line net) starts) ≡ lines_below net entries starts
unfolding entry_line
rest_lines net entries starts all =
    each_line (λ (e : Entry). Unit {0}) entry_line entry_words (λ e. refl) (λ e h. entry_lacks e) entries (every entries)
    (flat_map (start_line net) starts)
    ∙ ap (λ l. map entry_words entries ++ l) (starts_lines net starts all)

history_lines : (net : Net) (entries : List Entry) (starts : List Start) → AllByRecursion (IsNamed net) starts
    → lines_of (codes "$HISTORY\n" ++ (flat_map entry_line entries ++ flat_map (start_line net) starts))
    ≡ codes "$HISTORY" ∷ lines_below net entries starts
history_lines net entries starts all =
    line_first (codes "$HISTORY") (flat_map entry_line entries ++ flat_map (start_line net) starts)
    (refl, (refl, (refl, (refl, (refl, (refl, (refl, (refl, tt))))))))
    ∙ ap (λ l. codes "$HISTORY" ∷ l) (rest_lines net entries starts all)

text_is : (net : Net) (entries : List Entry) (starts : List Start)
    → history_text net entries starts
    ≡ network_text net ++ (codes "$HISTORY\n" ++ (flat_map entry_line entries ++ flat_map (start_line net) starts))
unfolding history_text head_text
text_is net entries starts =
    append_assoc (network_text net ++ codes "$HISTORY\n") (flat_map entry_line entries) (flat_map (start_line net) starts)
    ∙ append_assoc (network_text net) (codes "$HISTORY\n") (flat_map entry_line entries ++ flat_map (start_line net) starts)

lines_are : (net : Net) → IsPrintable net → net_fault net ≡ None → (entries : List Entry) (starts : List Start)
    → AllByRecursion (IsNamed net) starts
    → begun net (lines_below net entries starts) ≡ lines_of (history_text net entries starts)
lines_are net printable none entries starts all =
    sym
    (ap lines_of (text_is net entries starts)
    ∙ lines_go_on net printable none (codes "$HISTORY\n" ++ (flat_map entry_line entries ++ flat_map (start_line net) starts))
    ∙ ap (λ l. network_lines net ++ l) (history_lines net entries starts all))

behind : (net : Net) (more : List (List ℕ)) → lines_behind (Some (length (network_lines net))) (begun net more) ≡ more
behind net more = drop-append-add (network_lines net) (codes "$HISTORY" ∷ more) 1

pub history_back : (net : Net) (entries : List Entry) (starts : List Start) → IsPrintable net → net_fault net ≡ None
    → AreTold net entries starts
    → read_of (history_text net entries starts) ≡ Ok (record { net = as_printed net; entries = entries; starts = starts })
history_back net entries starts printable none told =
    let named =
    starts_named net printable none starts (recursion_from_All IsStartInRange starts told.starts_in_range) told.starts_inside in
    let front = begins net printable none (lines_below net entries starts) in
    let place = length (network_lines net) in
    read_with (history_text net entries starts) (Some place) (begun net (lines_below net entries starts)) (as_printed net)
    (Ok (record { net = as_printed net; entries = entries; starts = starts })) (lines_are net printable none entries starts named)
    (sym front.place) front.network
    (ap (λ l. with_rows (place + 2) (map row_of l) (as_printed net)) (behind net (lines_below net entries starts))
    ∙ lines_mean net (as_printed net) (place + 2) entries starts
    (entries_read net entries (recursion_from_All IsFit entries told.fit) (recursion_from_All InRange entries told.in_range)
    told.inside) (starts_read net starts named))

pub whole_back : (net : Net) (entries : List Entry) (starts : List Start) → IsPrintable net → net_fault net ≡ None
    → AreTold net entries starts → IsToldWhole net
    → read_of (history_text net entries starts) ≡ Ok (record { net = net; entries = entries; starts = starts })
whole_back net entries starts printable none told whole =
    history_back net entries starts printable none told
    ∙ ap (λ (n : Net). Ok (record { net = n; entries = entries; starts = starts })) (told_whole net whole)

-- The text is UTF-8.

written : (entries : List Entry) → AllByRecursion IsFit entries → AllByRecursion InRange entries
    → AllByRecursion IsWritten entries
written [] fit in_range = tt
written (e ∷ entries) fit in_range =
    (record { fit = fit.0; in_range = in_range.0 }, written entries fit.1 in_range.1)

pub history_is_text : (net : Net) (entries : List Entry) (starts : List Start) → IsPrintable net → net_fault net ≡ None
    → AreTold net entries starts → IsUtf8 (history_text net entries starts)
history_is_text net entries starts printable none told =
    history_utf8 net entries starts printable (good_each net net.resources (accepted net none).good)
    (written entries (recursion_from_All IsFit entries told.fit) (recursion_from_All InRange entries told.in_range))
    (recursion_from_All IsStartInRange starts told.starts_in_range)
