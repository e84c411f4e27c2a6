use Rattle.std.proofs.Common.{◌≡◌, ◌+◌, ◌-◌, ◌^◌, [], length, take, min}
use Rattle.field_form.specs.Forms.{spelled}
use Rattle.record_form.proofs.lists.list_size.Given as goal

abbrev pub invariant-loop-place : goal.invariant-loop-place
invariant-loop-place g l = l.size ≡ min (4 + length (spelled g.L.Listing.behind [] (take l.place l.items))) (2 ^ 64 - 1)
