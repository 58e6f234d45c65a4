use Rattle.std.proofs.Common.{◌≡◌, ◌∙◌, refl, sym, true}
use Rattle.definition_faults.specs.Clauses.{clause_faults}
use Rattle.definition_faults.specs.Entries.{entry_rows}
use Rattle.definition_faults.specs.Orders.{earlier_of, earliest, faults_at}
use Rattle.definition_names.specs.Stations.{ws_of_entry}
use Rattle.definition_faults.proofs.Earliest.{earliest-append}
use Rattle.definition_faults.proofs.Loops.{told_at}
use Rattle.definition_faults.proofs.entries.in_entry.Goals as goal

pub returns : goal.returns
returns c =
    let d = c.args.names.now in
    let s = c.args.schedule.now in
    let e = c.args.entry.now in
    let rows = entry_rows d c.args.stream c.args.i s e.item in
    let own = told_at e.line rows c.of_entry.result c.noted-own.result refl c.of_entry.ensures c.noted-own.ensures in
    let clauses : c.in_clauses-clauses.result
    ≡ earliest (clause_faults d c.args.stream true (ws_of_entry d s e.item) e.item.clauses) =
    c.in_clauses-clauses.ensures
    ∙ (λ j. earliest (clause_faults d c.args.stream true (c.ws_of_entry-ws.ensures j) (c.as_slice.ensures j))) in
    c.earlier.ensures
    ∙ ((λ j. earlier_of (own j) (clauses j))
    ∙ sym
    (earliest-append (faults_at e.line rows)
    (clause_faults d c.args.stream true (ws_of_entry d s e.item) e.item.clauses)))
