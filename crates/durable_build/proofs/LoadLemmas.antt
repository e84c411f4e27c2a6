-- What opening a store finds.
use Rattle.std.proofs.Common.{◌≡◌, ◌+◌, ◌-◌, ◌<◌, ◌≤◌, ℕ, ◌⊎◌, inl, inr, true, List, [], ◌∷◌, length, Option, Some, None, Result, Ok, Err, refl, sym, ap, ◌∙◌, subst, arith, slice_get}
use Rattle.std.specs.Prelude.{IsErrAnd}
use Rattle.model_syntax.specs.declared.fault.ScriptFault.{ScriptFault}
use Rattle.model_syntax.specs.declared.tree.Tree.{Tree}
use Rattle.model_syntax.specs.FirstFault.{FirstFault, IsFaultless}
use Rattle.model_syntax.proofs.FirstFaultLaws.{faultless_or_fault}
use Rattle.journal_core.specs.Records.{Has}
use Rattle.journal_core.specs.Answers.{entries_of}
use Rattle.journal_core.proofs.FindingLemmas.{length-entries}
use Rattle.journal_core.specs.declared.record.Record.{Record}
use Rattle.field_form.specs.Forms.{whole_of}
use Rattle.field_form.specs.Reading.{Refuses}
use Rattle.field_form.specs.declared.refusal.FormRefusal.{FormRefusal}
use Rattle.field_form.specs.declared.refusal.FormRefusal.TheVariants.{Fault}
use Rattle.delta_records.specs.Lower.record_form.Records.{record_of}
use Rattle.delta_records.specs.Lower.delta_form.Applying.{◌>>=◌}
use Rattle.delta_records.specs.Lower.delta_form.declared.delta.Delta.{Delta}
use Rattle.delta_records.specs.Payloads.{next_image, payload_form}
use Rattle.delta_records.specs.declared.payload.Payload.{Payload}
use Rattle.delta_records.specs.declared.payload.Payload.TheVariants as payload
use Rattle.delta_records.specs.declared.weights.Weights.{Weights}
use Rattle.delta_records.specs.Lower.record_form.declared.record.EventRecord.{EventRecord}
use Rattle.image_form.specs.declared.image.Image.{Image}
use Rattle.model_run.specs.declared.event.Event.{Event}
use Rattle.model_run.specs.declared.event.Event.TheVariants as event
use Rattle.model_run.specs.State.{Setting}
use Rattle.model_run.specs.Terms.{Term}
use Rattle.model_run.specs.World as W
use Rattle.model_run.specs.AgentsFile.{agents_file, Means}
use Rattle.model_run.specs.declared.site.Site.{Site}
use Rattle.cps_code.specs.declared.row.Row.{Row}
use Rattle.settle_laws.specs.Stances.{Stance}
use Rattle.build_images.specs.Lower.build_core.Builds.{Parts}
use Rattle.store_laws.specs.Store.{Mean, image_at, last_image, payload_in, record_at, record_with, script_limit}
use Rattle.store_laws.proofs.Payloads.{payload_refused}
use Rattle.store_laws.proofs.Tellings.{one_record}
use Rattle.durable_build.specs.declared.faults.StoreFault.{StoreFault}
use Rattle.durable_build.specs.declared.faults.StoreFault.TheVariants.{Memory, Disk, Empty, Damaged}
use Rattle.durable_build.specs.declared.opening.Source.{Source}
use Rattle.durable_build.specs.declared.load.Read.{Read}
use Rattle.durable_build.specs.Kinds.{is_whole, weights_of}
use Rattle.durable_build.specs.Standing.{last_place, Opening, StandsBy}
use Rattle.durable_build.specs.Opening.{CodeOf, SiteOf, SourceOf, DamagedAt, EventOpens, FindsImage, GoesOnFrom, HasPayload, MakesImage, OpensBy, LastFound, LoadFinds, OpenFails, setting_with}
use Rattle.durable_build.proofs.KindLemmas.{first_whole}

-- what the exit of a `?` returns
pub passes_on : {T E : Type 0} (r : Result T E) (e : E) (P : Result T E → Type 0) → IsErrAnd r (λ y. y ≡ e) → P (Err e) → P r
passes_on (Ok x) e P is here = absurd is
passes_on (Err y) e P is here = subst (λ x. P (Err x)) (sym is) here

-- a fault tells less
pub damaged_less : (at : ℕ) (f : StoreFault) (P Q : Type 0) → (P → Q) → DamagedAt at f P → DamagedAt at f Q
damaged_less at Memory P Q to is = tt
damaged_less at Disk P Q to is = is
damaged_less at Empty P Q to is = is
damaged_less at (Damaged n) P Q to is = (is.0, to is.1)

same_script : (s a t b : List ℕ) → event.Start s a ≡ event.Start t b → s ≡ t
same_script s a t b e = cc

same_agents : (s a t b : List ℕ) → event.Start s a ≡ event.Start t b → a ≡ b
same_agents s a t b e = cc

-- what the script and the agents file of a `Start` mean, it says
pub source_opens : (e : Event) (script agents : List ℕ) (at : ℕ) (o : Result Source StoreFault) → e ≡ event.Start script agents → SourceOf script agents at o → EventOpens e at o
source_opens e script agents at (Ok o) is says = (
  is ∙ ap (λ (s : List ℕ). event.Start s agents) (sym says.0) ∙ ap (λ (a : List ℕ). event.Start o.script a) (sym says.1),
  subst (λ (a : List ℕ). Mean o.script a (setting_with o.code o.site)) (sym says.1) (subst (λ (s : List ℕ). Mean s agents (setting_with o.code o.site)) (sym says.0) says.2),
)
source_opens e script agents at (Err f) is says =
    damaged_less at f _ _
    (λ none setting s a there mean.
    let same : event.Start s a ≡ event.Start script agents = sym there ∙ is in
    none setting (subst (λ (x : List ℕ). Mean script x setting) (same_agents s a script agents same) (subst (λ (x : List ℕ). Mean x a setting) (same_script s a script agents same) mean))) says

-- a payload of a whole image tells its event
first_tells : (e : Event) (image : Image) (p : List ℕ) → payload_in p ≡ Some (payload.Whole e image) → record_at None p ≡ Some (record_of e image)
first_tells e image p is = ap (λ (o : Option Payload). o >>= record_with None) is

pub opens_by : (q : Payload) (e : Event) (image : Image) (p : List ℕ) (at : ℕ) (o : Result Source StoreFault) → payload_in p ≡ Some q → q ≡ payload.Whole e image → EventOpens e at o → OpensBy p at o
opens_by q e image p at (Ok o) has whole is = record { first = record_of e image; tells = first_tells e image p (has ∙ ap (λ (x : Payload). Some x) whole); starts = is.0; mean = is.1 }
opens_by q e image p at (Err f) has whole is = damaged_less at f _ _
    (λ none setting script agents opened.
    none setting script agents
    (ap (λ (x : EventRecord). x.event) (one_record None (record_of e image) opened.first p (first_tells e image p (has ∙ ap (λ (x : Payload). Some x) whole)) opened.tells) ∙ opened.starts) opened.mean) is

-- changes tell none, and neither do bytes that were refused
no_opening : (p : List ℕ) → record_at None p ≡ None → (setting : Setting) (script agents : List ℕ) → ¬ (Opening setting script agents p)
no_opening p none setting script agents opened = let bad : None ≡ Some opened.first = sym none ∙ opened.tells in cc

pub no_first_changes : (q : Payload) (e : Event) (delta : Delta) (p : List ℕ) → payload_in p ≡ Some q → q ≡ payload.Changed e delta → (setting : Setting) (script agents : List ℕ) → ¬ (Opening setting script agents p)
no_first_changes q e delta p has changed = no_opening p (ap (λ (o : Option Payload). o >>= record_with None) (has ∙ ap (λ (x : Payload). Some x) changed))

pub no_first : (p : List ℕ) (at : ℕ) (f : StoreFault) → HasPayload p at (Err f) → OpensBy p at (Err f)
no_first p at f is = damaged_less at f _ _ (λ none. no_opening p (ap (λ (o : Option Payload). o >>= record_with None) none)) is

-- bytes that were refused spell no payload
pub none_spelled : (p : List ℕ) (refused : FormRefusal) (place : ℕ) → refused ≡ Fault place → Refuses refused (whole_of payload_form p) → payload_in p ≡ None
none_spelled p refused place is refuses = payload_refused place p (subst (λ (r : FormRefusal). Refuses r (whole_of payload_form p)) is refuses)

-- the image of a payload behind another
image_has : (before : Option Image) (p : List ℕ) (o : Option Payload) → payload_in p ≡ o → image_at before p ≡ (o >>= next_image before)
image_has before p o has = ap (λ (x : Option Payload). x >>= next_image before) has

pub image_by : (before : Option Image) (p : List ℕ) (q : Payload) (at : ℕ) (r : Result Image StoreFault) → payload_in p ≡ Some q → MakesImage before q at r → FindsImage before p at r
image_by before p q at (Ok image) has makes = image_has before p (Some q) has ∙ makes
image_by before p q at (Err f) has makes = damaged_less at f _ _ (λ none. image_has before p (Some q) has ∙ none) makes

pub image_none : (before : Option Image) (p : List ℕ) (at : ℕ) (f : StoreFault) → HasPayload p at (Err f) → FindsImage before p at (Err f)
image_none before p at f is = damaged_less at f _ _ (λ none. image_has before p None none) is

-- a script with a fault has no tree
pub no_tree : (script : List ℕ) (f : ScriptFault) → FirstFault script f → (tree : Tree) → length script ≤ script_limit → IsFaultless script tree → ⊥
no_tree script f first tree within is = faultless_or_fault is first

-- what a script and an agents file mean
pub meant : (script agents : List ℕ) (at : ℕ) (code : List Row) (site : Site) → CodeOf script at (Ok code) → agents_file agents ≡ Means site → Mean script agents (setting_with code site)
meant script agents at code site c means = record {
  tree = c.0;
  within = c.1;
  faultless = c.2;
  means = means;
  is = ap (λ (t : Term). W.setting_of W.run_limits t site) c.3;
}

pub no_site : (script agents : List ℕ) (at : ℕ) (f : StoreFault) → SiteOf agents at (Err f) → SourceOf script agents at (Err f)
no_site script agents at f is = damaged_less at f _ _ (λ none setting mean. none setting.site mean.means) is

pub no_code : (script agents : List ℕ) (at : ℕ) (f : StoreFault) → CodeOf script at (Err f) → SourceOf script agents at (Err f)
no_code script agents at f is = damaged_less at f _ _ (λ none setting mean. none mean.tree mean.within mean.faultless) is

-- the last entry is that of the last record
last_at : (at : ℕ) (p : List ℕ) (ps : List (List ℕ)) → (len : ℕ) × (slice_get (entries_of at (p ∷ ps)) (length ps) ≡ Some (record { at = last_place at p ps; len = len }))
last_at at p [] = (length p, refl)
last_at at p (q ∷ qs) = last_at (at + 5 + length p) q qs

same_entry : (x y : Record) → Some x ≡ Some y → x ≡ y
same_entry x y e = cc

abbrev Found : {T : Type 0} → (List ℕ → ℕ → Result T StoreFault → Type 0) → List (List ℕ) → Record → Result T StoreFault → Type 0
Found By payloads entry r = (k : ℕ) (p : List ℕ) → slice_get (entries_of 0 payloads) k ≡ Some entry → slice_get payloads k ≡ Some p → By p entry.at r ⊎ (r ≡ Err Disk)

first_found : {T : Type 0} (By : List ℕ → ℕ → Result T StoreFault → Type 0) (p : List ℕ) (ps : List (List ℕ)) (entries : List Record) (first : Record) (r : Result T StoreFault) → entries ≡ entries_of 0 (p ∷ ps)
    → slice_get entries 0 ≡ Some first → Found By (p ∷ ps) first r → By p 0 r ⊎ (r ≡ Err Disk)
first_found By p ps entries first r are is found =
    let here : slice_get (entries_of 0 (p ∷ ps)) 0 ≡ Some first = subst (λ (es : List Record). slice_get es 0 ≡ Some first) are is in
    let same : record { at = 0; len = length p } ≡ first = same_entry _ _ here in
    subst (λ (n : ℕ). By p n r ⊎ (r ≡ Err Disk)) (sym (ap (λ (x : Record). x.at) same)) (found 0 p here refl)

last_entry_at : (p : List ℕ) (ps : List (List ℕ)) (entries : List Record) (last : Record) → entries ≡ entries_of 0 (p ∷ ps) → slice_get entries (length entries - 1) ≡ Some last → last.at ≡ last_place 0 p ps
last_entry_at p ps entries last are is =
    let n : length entries - 1 ≡ length ps = omega (arith, ap length are, length-entries 0 (p ∷ ps)) in
    let here : slice_get (entries_of 0 (p ∷ ps)) (length ps) ≡ Some last = subst (λ (es : List Record). slice_get es (length ps) ≡ Some last) are (subst (λ (k : ℕ). slice_get entries k ≡ Some last) n is) in
    let l = last_at 0 p ps in
    sym (ap (λ (x : Record). x.at) (same_entry _ _ (sym l.1 ∙ here)))

abbrev IsDiskFault : {T : Type 0} → Result T StoreFault → Type 0
IsDiskFault r = r ≡ Err Disk

module _ {T : Type 0} (stance : T → Stance) where
  opening_refused : (p : List ℕ) (ps : List (List ℕ)) (f : StoreFault) → OpensBy p 0 (Err f) ⊎ IsDiskFault {T = Source} (Err f) → LoadFinds stance (p ∷ ps) (Err f)
  opening_refused p ps Memory is = tt
  opening_refused p ps Disk is = tt
  opening_refused p ps Empty (inl is) = is
  opening_refused p ps Empty (inr is) = cc
  opening_refused p ps (Damaged n) (inl is) = inl is
  opening_refused p ps (Damaged n) (inr is) = cc

  is_opened : (p : List ℕ) (o : Source) → OpensBy p 0 (Ok o) ⊎ (Ok o ≡ Err Disk) → OpensBy p 0 (Ok o)
  is_opened p o (inl is) = is
  is_opened p o (inr is) = cc

  none_there : (entries : List Record) → 0 < length entries → entries ≡ [] → ⊥
  none_there entries some are = omega (arith, some, ap length are)

  -- the three ends of loading
  pub load_refused_first : (payloads : List (List ℕ)) (entries : List Record) (first : Record) (f : StoreFault) → entries ≡ entries_of 0 payloads → 0 < length entries → slice_get entries 0 ≡ Some first
      → Found OpensBy payloads first (Err f) → LoadFinds stance payloads (Err f)
  load_refused_first [] entries first f are some is found = absurd (none_there entries some are)
  load_refused_first (p ∷ ps) entries first f are some is found = opening_refused p ps f (first_found OpensBy p ps entries first (Err f) are is found)

  -- want of memory alone
  pub load_without_memory : (payloads : List (List ℕ)) (f : StoreFault) → f ≡ Memory → LoadFinds stance payloads (Err f)
  load_without_memory payloads f is = subst (λ (x : StoreFault). LoadFinds stance payloads (Err x)) (sym is) tt

  -- a record that is read is at fault
  breaks_there : (p : List ℕ) (ps : List (List ℕ)) (o : Source) (f : StoreFault) → OpensBy p 0 (Ok o) → LastFound (p ∷ ps) (Err f) → LoadFinds stance (p ∷ ps) (Err f)
  breaks_there p ps o Memory opened found = tt
  breaks_there p ps o Disk opened found = tt
  breaks_there p ps o Empty opened found = found
  breaks_there p ps o (Damaged at) opened found = inr (setting_with o.code o.site, o.script, o.agents, opened, inl found)

  -- or the image of the last one is
  unsound_there : (p : List ℕ) (ps : List (List ℕ)) (o : Source) (read : Read) (at : ℕ) (f : StoreFault) → OpensBy p 0 (Ok o) → last_image (p ∷ ps) ≡ Some read.image → at ≡ last_place 0 p ps
      → GoesOnFrom stance (setting_with o.code o.site) read.image at (Err f) → LoadFinds stance (p ∷ ps) (Err f)
  unsound_there p ps o read at Memory opened closing place is = tt
  unsound_there p ps o read at Disk opened closing place is = tt
  unsound_there p ps o read at Empty opened closing place is = is
  unsound_there p ps o read at (Damaged n) opened closing place is = inr (setting_with o.code o.site, o.script, o.agents, opened, inr (is.0 ∙ place, (read.image, closing, is.1)))

  module _ (entries : List Record) (first last : Record) (o : Source) (some : 0 < length entries) (is : slice_get entries 0 ≡ Some first) (is_last : slice_get entries (length entries - 1) ≡ Some last) where
    abbrev Opened : List (List ℕ) → Type 0
    Opened payloads = Found OpensBy payloads first (Ok o)

    opened_by : (p : List ℕ) (ps : List (List ℕ)) → entries ≡ entries_of 0 (p ∷ ps) → Opened (p ∷ ps) → OpensBy p 0 (Ok o)
    opened_by p ps are found = is_opened p o (first_found OpensBy p ps entries first (Ok o) are is found)

    abbrev Reads : List (List ℕ) → Result Read StoreFault → Type 0
    Reads payloads r = (p : List ℕ) (ps : List (List ℕ)) → payloads ≡ p ∷ ps → is_whole p ≡ true → LastFound (p ∷ ps) r

    read_by : (p : List ℕ) (ps : List (List ℕ)) (r : Result Read StoreFault) → entries ≡ entries_of 0 (p ∷ ps) → Opened (p ∷ ps) → Reads (p ∷ ps) r → LastFound (p ∷ ps) r
    read_by p ps r are found reads = let opened = opened_by p ps are found in reads p ps refl (first_whole p opened.first opened.tells)

    pub load_refused_read : (payloads : List (List ℕ)) (f : StoreFault) → entries ≡ entries_of 0 payloads → Opened payloads → Reads payloads (Err f) → LoadFinds stance payloads (Err f)
    load_refused_read [] f are found reads = absurd (none_there entries some are)
    load_refused_read (p ∷ ps) f are found reads = breaks_there p ps o f (opened_by p ps are found) (read_by p ps (Err f) are found reads)

    module _ (read : Read) where
      pub load_refused_last : (payloads : List (List ℕ)) (f : StoreFault) → entries ≡ entries_of 0 payloads → Opened payloads → Reads payloads (Ok read) → GoesOnFrom stance (setting_with o.code o.site) read.image last.at (Err f) → LoadFinds stance payloads (Err f)
      load_refused_last [] f are found reads goes = absurd (none_there entries some are)
      load_refused_last (p ∷ ps) f are found reads goes =
          unsound_there p ps o read last.at f (opened_by p ps are found) (read_by p ps (Ok read) are found reads).0 (last_entry_at p ps entries last are is_last) goes

      pub load_done : (payloads : List (List ℕ)) (b : Parts T) (at : ℕ) (w : Weights) → entries ≡ entries_of 0 payloads → Opened payloads → Reads payloads (Ok read) → GoesOnFrom stance (setting_with o.code o.site) read.image at (Ok b) → w ≡ read.weights
          → StandsBy stance b o.script o.agents payloads × (w ≡ weights_of payloads)
      load_done [] b at w are found reads goes weights = absurd (none_there entries some are)
      load_done (p ∷ ps) b at w are found reads goes weights =
          let last_read = read_by p ps (Ok read) are found reads in (
            (
              goes.1,
              subst (λ (s : Setting). Opening s o.script o.agents p) (sym goes.0) (opened_by p ps are found),
              last_read.0 ∙ ap (λ (i : Image). Some i) (sym goes.2),
            ),
            weights ∙ last_read.1,
          )

pub open_fails : {T : Type 0} (stance : T → Stance) (file : List ℕ) (payloads : List (List ℕ)) (f : StoreFault) → Has payloads file → LoadFinds stance payloads (Err f) → OpenFails file f
open_fails stance file payloads Memory has is = tt
open_fails stance file payloads Disk has is = tt
open_fails stance file payloads Empty has is = absurd is
open_fails stance file payloads (Damaged at) has is = (payloads, inr (has, is))
