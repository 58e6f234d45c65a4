-- What is kept can be written down, and is read again.
use Rattle.std.proofs.Common.{[], codes, lit<, lit≤, ◌<◌, ◌≡◌, ◌∷◌, Ok, refl, ℕ}
use Rattle.std.proofs.lemmas.List.Elements.{All-cons, All-nil}
use Rattle.std.specs.List.{All}
use Rattle.entry_codec.specs.Entries.{entry_in}
use Rattle.entry_codec.proofs.Whole.{whole_again}
use Rattle.model.specs.Fit.{IsFit, IsFitDep, IsFitJob, IsFitStream}
use Rattle.model.specs.Ranges.{CountInRange, DepInRange, InRange, IsU32, JobInRange, OpInRange, StreamInRange}
use Rattle.model.specs.Spelling.{entry_bytes}
use Rattle.network_runs.specs.Nights.{IsWritten}
use Rattle.worked_night.specs.Happened.{launched, plan, released}
use Rattle.worked_night.specs.Workload.{doc, job_doc}

job_fits : IsFitJob job_doc
job_fits = record {
  name_ = lit≤ tt;
  work_ = lit≤ tt;
  logon_ = lit≤ tt;
  cond_ = lit≤ tt;
  deps_ = (lit≤ tt, All-nil IsFitDep);
}

stream_fits : IsFitStream doc
stream_fits = record {
  name_ = lit≤ tt;
  deps_ = (lit≤ tt, All-nil IsFitDep);
  jobs_ = (lit≤ tt, All-cons IsFitJob job_doc [] job_fits (All-nil IsFitJob));
}

job_in_range : JobInRange job_doc
unfolding lib.Utf8.encode
job_in_range = record {
  no_ = lit< tt;
  ws_ = lit< tt;
  name_ = (codes "A", (refl, refl));
  priority_ = lit< tt;
  work_ = (codes "true", (refl, refl));
  logon_ = ([], (refl, refl));
  cond_ = All-nil OpInRange;
  deps_ = All-nil DepInRange;
}

stream_in_range : StreamInRange doc
unfolding lib.Utf8.encode
stream_in_range = record {
  no_ = lit< tt;
  ws_ = lit< tt;
  name_ = (codes "S", (refl, refl));
  priority_ = lit< tt;
  limit_ = tt;
  deps_ = All-nil DepInRange;
  jobs_ = All-cons JobInRange job_doc [] job_in_range (All-nil JobInRange);
}

plan_fits : IsFit plan
plan_fits = record {
  in_its_feed = refl;
  has_place = lit< tt;
  bounded = ((lit≤ tt, refl), lit≤ tt, (lit≤ tt, All-cons IsFitStream doc [] stream_fits (All-nil IsFitStream)));
}

plan_in_range : InRange plan
plan_in_range = record {
  feed_ = lit< tt;
  place_ = lit< tt;
  body_ = (
    lit< tt,
    All-nil CountInRange,
    All-nil IsU32,
    All-cons StreamInRange doc [] stream_in_range (All-nil StreamInRange),
  );
}

pub plan_written : IsWritten plan
plan_written = record { fit = plan_fits; in_range = plan_in_range }

-- one count
counts : (n : ℕ) → n < 4294967296 → All CountInRange ((0, n) ∷ [])
counts n low = All-cons CountInRange (0, n) [] (lit< tt, low) (All-nil CountInRange)

pub released_written : IsWritten released
released_written = record {
  fit = record { in_its_feed = refl; has_place = lit< tt; bounded = (lit≤ tt, refl) };
  in_range = record { feed_ = lit< tt; place_ = lit< tt; body_ = (lit< tt, counts 1 (lit< tt)) };
}

pub launched_written : IsWritten launched
launched_written = record {
  fit = record { in_its_feed = refl; has_place = lit< tt; bounded = (lit≤ tt, refl) };
  in_range = record { feed_ = lit< tt; place_ = lit< tt; body_ = (lit< tt, lit< tt, counts 2 (lit< tt)) };
}

pub plan_read : entry_in (entry_bytes plan) ≡ Ok plan
plan_read = whole_again (entry_bytes plan) plan plan_fits plan_in_range refl
