-- Of its bytes the disk tells nothing, and a crash may leave anything.
use Rattle.std.proofs.Common.{inl, length, [], ◌∷◌, Result, Ok, Err, refl, rules, arith}
use Rattle.std.specs.Prelude.{IfOk, OnOk}
use Rattle.jp_disk.specs.ImageLaws.{same_image}
use Rattle.real_edge.proofs.file_disk.FileDiskDisk.TheImpl.Goals as goal

always : {T E : Type 0} (result : Result T E) (P : Type 0) → P → OnOk result P
always (Ok x) P holds = holds
always (Err e) P holds = tt

always_of : {T E : Type 0} (result : Result T E) (P : T → Type 0) → ((x : T) → P x) → IfOk result P
always_of (Ok x) P holds = holds x
always_of (Err e) P holds = tt

pub len-tells : goal.len-tells
len-tells g c = record {
  length = search rules;
  end = search rules;
  still = record { reads = refl; images = λ image left. left };
  time = record { later = omega arith; nothing_else = λ t image le left. inl left; keeps = λ t image le past. past };
  cause = search rules;
}

pub read_at-tells : goal.read_at-tells
read_at-tells g c = record {
  count = search rules;
  bytes = always_of c.result _ (λ n. tt);
  end = search rules;
  still = record { reads = refl; images = λ image left. left };
  time = record { later = omega arith; nothing_else = λ t image le left. inl left; keeps = λ t image le past. past };
  cause = search rules;
}

pub write_at-tells : goal.write_at-tells
write_at-tells g c = record {
  written = always c.result _ tt;
  told = search rules;
  end = search rules;
  no_shorter = search rules;
  images = λ image left. (image, left, same_image image ((c.args.at, length c.args.bytes.now) ∷ []));
  time = record { later = omega arith; nothing_else = λ t image le left. inl left; keeps = λ t image le past. past };
  cause = search rules;
}

pub sync-tells : goal.sync-tells
sync-tells g c = record {
  durable = always c.result _ tt;
  end = search rules;
  still = record { reads = refl; images = λ image left. left };
  time = record { later = omega arith; nothing_else = λ t image le left. inl left; keeps = λ t image le past. past };
  cause = search rules;
}
