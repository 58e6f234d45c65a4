use Rattle.sealed_records.proofs.Fronts.{apart as parted, right_one, whole_one}
use Rattle.sealed_records.proofs.one_answer_fits.Goals as goal

pub returns : goal.returns
returns c = record {
  whole = λ d come bytes rest is less. whole_one d come bytes rest is less;
  right = λ d come bytes rest is wrong. right_one d come bytes rest is wrong;
  apart = λ d come less wrong. parted d come less wrong;
}
