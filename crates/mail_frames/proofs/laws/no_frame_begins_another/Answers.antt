use Rattle.std.proofs.Common.{◌≡◌, List, ℕ, ◌++◌, ap, sym, ◌∙◌}
use Rattle.mail_frames.specs.Spelling.{FrameBytes, frame_bytes}
use Rattle.mail_frames.specs.declared.frames.Frame.{Frame}
use Rattle.mail_frames.proofs.Spelled as spelled
use Rattle.mail_frames.proofs.laws.no_frame_begins_another.Goals as goal

law : (f g : Frame) → (bytes others x y : List ℕ) → FrameBytes f bytes → FrameBytes g others
    → bytes ++ x ≡ others ++ y → (f ≡ g) × (bytes ≡ others) × (x ≡ y)
law f g bytes others x y h i e =
    let same : frame_bytes f ++ x ≡ frame_bytes g ++ y =
    ap (λ (b : List ℕ). b ++ x) (sym h.1) ∙ e ∙ ap (λ (b : List ℕ). b ++ y) i.1 in
    let p = spelled.no_frame_begins_another f g x y h.0 i.0 same in
    (p.0, h.1 ∙ ap frame_bytes p.0 ∙ sym i.1, p.1)

pub returns : goal.returns
returns c = law
