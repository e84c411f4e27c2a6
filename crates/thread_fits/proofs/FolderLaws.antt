-- The context above a thread has a folder for each request: so has that of the main thread, which is bare, and then each parent's, by its
-- own frames.
use Rattle.std.proofs.Common.{◌≡◌, ℕ, List, [], length, Some, arith, ap, subst}
use Rattle.std.specs.Prelude.{slice_get}
use Rattle.std.specs.List.{AllByRecursion as AllAre}
use Rattle.model_values.proofs.LaterLaws.{all_weaker}
use Rattle.model_run.specs.declared.context.Context.{Context}
use Rattle.seat_laws.specs.Seats.{Room}
use Rattle.seat_laws.proofs.Lists.{all_mapped}
use Rattle.green_threads.specs.declared.runner.Seated.{Seated}
use Rattle.settle_laws.specs.Stances.{Stance}
use Rattle.cps_frames.specs.Places.{HasFolders}
use Rattle.cps_frames.specs.declared.shared.Shared.{Shared}
use Rattle.cps_frames.proofs.Opened.{folders_enough}
use Rattle.thread_fits.specs.Seats.{Fits, SeatStands, standing_as}
use Rattle.thread_fits.proofs.ParentLaws.{from_parents, lows}
use Rattle.thread_fits.proofs.RoomLaws.{above, holding, of_rooms, room_in, rooms}
use Rattle.thread_fits.proofs.SeatRows.{all_at}

bare_has : (c : Context) → c.held ≡ [] → c.folders ≡ [] → HasFolders c
bare_has c held folders = let none : length c.held ≡ 0 = ap length held in omega (arith, none)

module _ {T : Type 0} (stance : T → Stance) (u : Shared) (xs : List (Seated T)) (fits : Fits stance xs u) where
  abbrev OwnHas : Room → Type 0
  OwnHas q = HasFolders q.around → HasFolders q.now

  own_has : AllAre OwnHas (rooms stance (above stance xs) xs)
  own_has = all_mapped OwnHas (room_in stance (above stance xs)) xs
      (all_weaker (λ x. SeatStands stance u (above stance xs x.parent) x) (λ x. OwnHas (room_in stance (above stance xs) x)) (λ x h enough. folders_enough (above stance xs x.parent) (standing_as u (stance x.thread)) enough (h.poised).opened) xs fits.seats)

  both_have : AllAre (λ q. HasFolders q.around × HasFolders q.now) (rooms stance (above stance xs) xs)
  both_have = from_parents (rooms stance (above stance xs) xs) OwnHas (λ q. HasFolders q.around × HasFolders q.now)
      (λ q own held folders. (bare_has q.around held folders, own (bare_has q.around held folders)))
      (λ q p own lower same has. (subst HasFolders same has.1, own (subst HasFolders same has.1)))
      (holding stance u xs fits).around (lows stance u xs fits) own_has

  pub above_has_folders : (i : ℕ) (x : Seated T) → slice_get xs i ≡ Some x → HasFolders (above stance xs x.parent)
  above_has_folders i x at =
      (all_at (λ y. HasFolders (above stance xs y.parent) × HasFolders (stance y.thread).own.context) xs i x (of_rooms stance (λ q. HasFolders q.around × HasFolders q.now) (above stance xs) xs both_have) at).0
