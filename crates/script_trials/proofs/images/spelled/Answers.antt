use Rattle.std.proofs.Common.{◌<◌, length, arith}
use Rattle.image_form.specs.Images.{image_form}
use Rattle.record_form.proofs.ShortImages.{short_image}
use Rattle.script_trials.proofs.Sizes.{short_of}
use Rattle.script_trials.proofs.images.spelled.Goals as goal

pub write_image-requires : goal.write_image-requires
write_image-requires c =
    let few : c.size.result < 4294967296 = omega (arith, c.if-size-gt-LONGEST.false) in
    short_image c.args.image.now c.requires.order (short_of (length (image_form.spelling c.args.image.now)) c.size.result c.size.ensures few)
