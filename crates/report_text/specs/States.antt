-- The states of streams and of jobs by their words, in the order by which they are numbered from 0.
use Rattle.std.specs.Prelude.{[], ◌∷◌, ℕ, List, codes, slice_get, unwrap_or}

abbrev pub stream_words : List (List ℕ)
stream_words =
    codes "HOLD" ∷ codes "READY" ∷ codes "EXEC" ∷ codes "STUCK" ∷ codes "SUCC" ∷ codes "ABEND" ∷ codes "CANCEL" ∷ []

abbrev pub job_words : List (List ℕ)
job_words =
    codes "HOLD" ∷ codes "FENCE" ∷ codes "READY" ∷ codes "INTRO" ∷ codes "EXEC" ∷ codes "SUCC" ∷ codes "ABEND"
    ∷ codes "FAIL" ∷ codes "CANCEL" ∷ []

-- the word of this number, and nothing where there is none
abbrev pub word_at : List (List ℕ) → ℕ → List ℕ
word_at words number = unwrap_or (slice_get words number) []
