use Rattle.std.proofs.Common.{ℕ, List, Bor, refl}
use Rattle.history_script.proofs.Sizes.{text_seen}
use Rattle.history_script.proofs.fronts.record_text.Goals as goal

pub returns : goal.returns
returns c =
    text_seen (λ (x : Bor (List ℕ)). x.now) c.args.texts.now c.args.place c.in-Some.place c.in-Some.place _ _ c.in-Some.is
    refl c.in_ok-made.ensures c.in_ok-push_str.ensures.bytes
