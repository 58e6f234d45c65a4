use Rattle.std.proofs.Common.{◌≡◌, ◌-◌, ◌<◌, ◌∙◌, ◌&&◌, Bor, List, ℕ, Some, arith, bytes_eq, cond, get_or, length, refl, sym}
use Rattle.std.proofs.lemmas.Option.{get_or_from_slice_get, slice_get_read}
use Rattle.definition_names.specs.Keys.{seen_pair}
use Rattle.definition_names.specs.Names.{is_pair}
use Rattle.definition_names.specs.Indexes.{pair_in}
use Rattle.definition_names.proofs.Steps.{put_at}
use Rattle.definition_names.proofs.firsts.pair_index.Goals as goal

pub loop-i-preserved : goal.loop-i-preserved
loop-i-preserved c =
    λ ws name.
    let low : c.loop-i.i - 1 < length c.args.names.now = omega arith in
    let first : get_or c.args.names.now (c.loop-i.i - 1) c.index-names-i.result ≡ c.index-names-i.result =
    sym c.index-names-i.is in
    let second : get_or c.args.names.now (c.loop-i.i - 1) c.index-names-i-in-loop-i.result ≡ c.index-names-i.result =
    get_or_from_slice_get c.args.names.now (c.loop-i.i - 1) c.index-names-i.result c.index-names-i-in-loop-i.result
    (slice_get_read c.args.names.now (length c.args.names.now) (c.loop-i.i - 1) c.index-names-i.result refl low
    c.index-names-i.is) in
    put_at (is_pair ws name) seen_pair c.args.names.now (c.loop-i.i - 1) c.loop-i.i c.index-names-i.result
    (pair_in c.loop-i.index.entries ws name) (pair_in c.put_pair.new.index.entries ws name) (omega arith) low
    c.index-names-i.is
    (c.in_ok-put_pair.ensures ws name
    ∙ (λ j. cond (bytes_eq ws (first j).0.now && bytes_eq name (second j).1.now) (Some (c.loop-i.i - 1))
    (pair_in c.loop-i.index.entries ws name)))
    (c.loop-i.invariant ws name)
