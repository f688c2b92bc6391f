use Rattle.std.proofs.Common.{arith}
use Rattle.ring_plain.proofs.Images.{image_of_key}
use Rattle.ring_plain.proofs.sizes.key_image_size.Goals as goal

pub returns-in-len1-up : goal.returns-in-len1-up
returns-in-len1-up c =
    let image = image_of_key c.args.columns.now c.column-item.result c.args.key.now c.in-len1-up.len_at_least c.column-item.is in
    omega (arith, image, c.value_size.ensures, c.saturating_add.ensures)
