use Rattle.owner_rows.proofs.places.Places.tell.Goals as goal

pub returns : goal.returns
returns c kept at_end next key h = record {
  entries = c.tell_entry.ensures kept at_end next h.entries;
  added = c.tell_addition.ensures kept at_end key h.added;
  issuers = c.tell_issuer.ensures kept h.issuers;
}
