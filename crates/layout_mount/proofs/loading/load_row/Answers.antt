use Rattle.std.proofs.Common.{◌≡◌, length, ap, ◌∙◌, arith}
use Rattle.std.proofs.lemmas.List.FromFn.{length-map-range_with_len}
use Rattle.card_state.specs.Decoding.{row_at}
use Rattle.layout_mount.proofs.loading.load_row.Goals as goal

pub row_passes-requires-clause-few : goal.row_passes-requires-clause-few
row_passes-requires-clause-few c =
    let long : length c.args.earlier.now ≡ c.args.shelf = ap length c.requires.earlier ∙ length-map-range_with_len (row_at c.args.image.now) 0 c.args.shelf in
    omega arith
