use Rattle.std.proofs.Common.{◌≡◌, ◌++◌, ◌∷◌, ℕ, List, ap, ◌∙◌, append_assoc, rules}
use Rattle.model.specs.Fields.{u32_bytes, i32_bytes, flag_bytes}
use Rattle.entry_codec.proofs.Puts.{behind_a_front}
use Rattle.entry_codec.proofs.writing.bodies.put_ended.Goals as goal

pub returns-clause-added : goal.returns-clause-added
returns-clause-added c =
    let front : List ℕ = 10 ∷ u32_bytes c.args.job.now ++ u32_bytes c.args.number in
    let told : List ℕ = i32_bytes c.args.code in
    let first : c.put_launch.new.out ≡ c.args.out.now ++ front = c.in_ok-put_launch.ensures.added in
    let second : c.put_i32.new.out ≡ c.put_launch.new.out ++ told = search rules in
    let so_far : c.put_i32.new.out ≡ c.args.out.now ++ (front ++ told) =
    second ∙ ap (λ (l : List ℕ). l ++ told) first ∙ append_assoc c.args.out.now front told in
    behind_a_front c.put_flag.result c.args.out.now (front ++ told) (flag_bytes c.args.good) c.put_i32.new.out
    c.put_flag.new.out so_far c.put_flag.ensures.ok
