-- The parts of a call's contract for `log` and `graph`, from their table.
use Rattle.std.proofs.Common.{[], ◌≡◌, ◌⊎◌, ℕ, List, Option, Some, inl, inr, refl, ap, ◌∙◌, subst, ⊎_elim, arith}
use Rattle.jp_disk.proofs.MomentLemmas.{if_told}
use Rattle.image_form.specs.declared.image.Image.{Image}
use Rattle.model_run.specs.declared.event.Event.{Event}
use Rattle.model_run.specs.declared.result.BuildResult.TheVariants.{Success}
use Rattle.model_run.specs.State.{Setting}
use Rattle.model_run.specs.World.{Build, world_in}
use Rattle.build_commands.specs.Lower.build_store.Saved.{Stores}
use Rattle.build_commands.specs.Statuses.{HasRun}
use Rattle.build_commands.specs.Showing.{ShowsBuild, Decides, NotTold}
use Rattle.build_commands.specs.Showing as showing
use Rattle.build_commands.specs.Writing as writing
use Rattle.controller.specs.Call.{Call, Devices, Finds, Tells}
use Rattle.controller.specs.Commands.{ShowsBy}
use Rattle.controller.specs.FirstFault.{TellsFault}
use Rattle.controller.specs.Output.{Says, ShowsStore}
use Rattle.controller.proofs.CallLemmas.{untold, unrun}
use Rattle.std.specs.Prelude.{IfSome}
use Rattle.journal_core.specs.Records.{Has}
use Rattle.build_commands.specs.Lower.durable_build.declared.faults.StoreFault.TheVariants.{Damaged}
use Rattle.build_commands.specs.Lower.durable_build.Opening.{OpenFails}
use Rattle.build_commands.specs.Texts.{damaged_text, no_build_text}
use Rattle.controller.proofs.TextLemmas.{says_unrun, decides_says, written_run}

not_told_some : {stored : Option (List ℕ)} {a b n : ℕ} {text : List ℕ} → NotTold stored a b n text → n ≡ 0 → ⊥
not_told_some (showing.no_build calm none) e = omega (arith, e)
not_told_some (showing.damaged at calm fails) e = omega (arith, e)
not_told_some (showing.disk_failed rose) e = omega (arith, e)
not_told_some (showing.no_memory calm) e = omega (arith, e)

module _ (text_of : Build → List ℕ) (text_in : Image → List ℕ) where
  -- the text of a consistent store
  text_here : {stored : Option (List ℕ)} {a b n : ℕ} {text : List ℕ} → Decides text_of stored a b n text → n ≡ 0 → (file : List ℕ) (setting : Setting) (events : List Event) → stored ≡ Some file → Stores setting events file
      → text ≡ text_of (world_in setting events)
  text_here (showing.shown {text = text} calm is) zero file setting events told stores =
      let shows : ShowsBuild text_of file text = if_told (λ f. ShowsBuild text_of f text) told is in
      shows.is setting stores.told.records (record { payloads = stores.payloads; has = stores.has; spelled = stores.told.spelled }) stores.told.story ∙ ap (λ (es : List Event). text_of (world_in setting es)) stores.told.are
  text_here (showing.not_told why) zero file setting events told stores = absurd (not_told_some why zero)

  module _ {D H A : Type 0} (v : Devices D H A) (c : Call D H A) where
    abbrev ShowsSo : ℕ → Type 0
    ShowsSo n = showing.Shows text_of (v.disk.reads c.disk) (v.disk.faults c.disk) (v.disk.faults c.now) c.old c.new c.sink_before c.sink_after n

    wrote : {n : ℕ} → ShowsSo n → HasRun n → (setting : Setting) (events : List Event) → Finds v setting events c
        → writing.Writes c.old c.new c.sink_before c.sink_after (text_of (world_in setting events)) 0 n
    wrote {n = n} (showing.build decides writes) run setting events finds =
        subst (λ (text : List ℕ). writing.Writes c.old c.new c.sink_before c.sink_after text 0 n) (text_here decides refl finds.file setting events finds.told finds.stores) writes
    wrote (showing.refusal decides some tells) run setting events finds = absurd (says_unrun (decides_says decides some) run)

    pub show_says : {n : ℕ} → ShowsSo n → HasRun n ⊎ ((text : List ℕ) × Says n text × Tells text c)
    show_says (showing.build decides writes) = inl (written_run (inl (Success, refl)) writes)
    show_says (showing.refusal {text = text} decides some tells) = inr (text, decides_says decides some, tells)

    none_told : {n : ℕ} {text : List ℕ} → NotTold (v.disk.reads c.disk) (v.disk.faults c.disk) (v.disk.faults c.now) n text → Tells text c → n ≡ 9
        → ((at : ℕ) × Tells (damaged_text at) c × IfSome (v.disk.reads c.disk) (λ file. OpenFails file (Damaged at))) ⊎ (Tells no_build_text c × IfSome (v.disk.reads c.disk) (Has []))
    none_told (showing.no_build calm none) tells nine = inr (tells, none)
    none_told (showing.damaged at calm fails) tells nine = inl (at, tells, fails)
    none_told (showing.disk_failed rose) tells nine = absurd (omega (arith, nine))
    none_told (showing.no_memory calm) tells nine = absurd (omega (arith, nine))

    decided_none : {n : ℕ} {text : List ℕ} → Decides text_of (v.disk.reads c.disk) (v.disk.faults c.disk) (v.disk.faults c.now) n text → Tells text c → n ≡ 9
        → ((at : ℕ) × Tells (damaged_text at) c × IfSome (v.disk.reads c.disk) (λ file. OpenFails file (Damaged at))) ⊎ (Tells no_build_text c × IfSome (v.disk.reads c.disk) (Has []))
    decided_none (showing.shown calm is) tells nine = absurd (omega (arith, nine))
    decided_none (showing.not_told why) tells nine = none_told why tells nine

    refused : {n : ℕ} → ShowsSo n → n ≡ 9
        → ((at : ℕ) × Tells (damaged_text at) c × IfSome (v.disk.reads c.disk) (λ file. OpenFails file (Damaged at))) ⊎ (Tells no_build_text c × IfSome (v.disk.reads c.disk) (Has []))
    refused {n = n} (showing.build decides writes) nine = absurd (unrun 9 n nine refl (written_run (inl (Success, refl)) writes))
    refused (showing.refusal decides some tells) nine = decided_none decides tells nine

    pub show_outputs : ShowsBy v text_of text_in c → ShowsStore v text_of text_in c
    show_outputs by = record { text = wrote by.shows; last = by.last; unchanged = by.store; refused = refused by.shows }

    pub show_untold : ShowsBy v text_of text_in c → TellsFault c.status → ⊥
    show_untold by is = ⊎_elim (λ zero. untold 0 c.status zero (λ e. omega (arith, e)) (λ e. omega (arith, e)) is)
        (⊎_elim (λ five. untold 5 c.status five (λ e. omega (arith, e)) (λ e. omega (arith, e)) is)
        (⊎_elim (λ seven. untold 7 c.status seven (λ e. omega (arith, e)) (λ e. omega (arith, e)) is)
        (⊎_elim (λ eight. untold 8 c.status eight (λ e. omega (arith, e)) (λ e. omega (arith, e)) is) (λ nine. untold 9 c.status nine (λ e. omega (arith, e)) (λ e. omega (arith, e)) is)))) by.causes.known

    pub show_known : ShowsBy v text_of text_in c → c.status ≡ 2 → ⊥
    show_known by two = ⊎_elim (λ zero. omega (arith, two, zero)) (⊎_elim (λ five. omega (arith, two, five)) (⊎_elim (λ seven. omega (arith, two, seven))
        (⊎_elim (λ eight. omega (arith, two, eight)) (λ nine. omega (arith, two, nine))))) by.causes.known
