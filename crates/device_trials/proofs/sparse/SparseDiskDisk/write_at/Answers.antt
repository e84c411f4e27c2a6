use Rattle.std.proofs.Common.{length, [], ◌∷◌}
use Rattle.jp_disk.specs.ImageLaws.{same_image}
use Rattle.device_trials.proofs.sparse.SparseDiskDisk.write_at.Goals as goal

-- each image is one of before, torn nowhere
pub returns-clause-images : goal.returns-clause-images
returns-clause-images c = λ image left. (image, tt, same_image image ((c.args.at, length c.args.bytes.now) ∷ []))
