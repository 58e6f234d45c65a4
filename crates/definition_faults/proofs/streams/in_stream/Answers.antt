use Rattle.std.proofs.Common.{◌≡◌, ◌∙◌, ap, false, refl, sym}
use Rattle.definition_faults.specs.Clauses.{clause_faults}
use Rattle.definition_faults.specs.Entries.{entry_faults}
use Rattle.definition_faults.specs.Ons.{on_faults}
use Rattle.definition_faults.specs.Orders.{earlier_of, earliest, faults_at}
use Rattle.definition_faults.specs.Streams.{stream_faults, title_rows}
use Rattle.definition_names.specs.Stations.{ws_of_stream}
use Rattle.definition_faults.proofs.Loops.{told_at}
use Rattle.definition_faults.proofs.Tens.{four_in}
use Rattle.definition_faults.proofs.streams.in_stream.Goals as goal

pub returns : goal.returns
unfolding stream_faults
returns c =
    let d = c.args.names.now in
    let s = c.args.schedule.now in
    let rows = title_rows d c.args.n s.item in
    let title = told_at s.line rows c.of_title.result c.noted-title.result refl c.of_title.ensures c.noted-title.ensures in
    let ons : c.in_ons-ons.result ≡ earliest (on_faults d s.item.ons) =
    c.in_ons-ons.ensures ∙ ap (λ l. earliest (on_faults d l)) c.as_slice.ensures in
    let clauses : c.in_clauses-clauses.result
    ≡ earliest (clause_faults d c.args.n false (ws_of_stream d s.item) s.item.clauses) =
    c.in_clauses-clauses.ensures
    ∙ (λ j. earliest (clause_faults d c.args.n false (c.ws_of_stream-ws.ensures j) (c.as_slice-2.ensures j))) in
    let first : c.earlier.result ≡ earlier_of (earliest (faults_at s.line rows)) (earliest (on_faults d s.item.ons)) =
    c.earlier.ensures ∙ (λ j. earlier_of (title j) (ons j)) in
    let second : c.earlier-2.result
    ≡ earlier_of (earliest (clause_faults d c.args.n false (ws_of_stream d s.item) s.item.clauses))
    (earliest (entry_faults d c.args.n s.item)) =
    c.earlier-2.ensures ∙ (λ j. earlier_of (clauses j) (c.in_entries-entries.ensures j)) in
    c.earlier-3.ensures
    ∙ ((λ j. earlier_of (first j) (second j))
    ∙ sym
    (four_in (faults_at s.line rows) (on_faults d s.item.ons)
    (clause_faults d c.args.n false (ws_of_stream d s.item) s.item.clauses) (entry_faults d c.args.n s.item)))
