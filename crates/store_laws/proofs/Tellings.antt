-- A payload tells one record at most, a script and an agents file one setting, and a file one list of records.
use Rattle.std.proofs.Common.{◌≡◌, ℕ, List, [], ◌∷◌, Option, Some, None, refl, sym, ap, ◌∙◌, subst}
use Rattle.delta_records.specs.Lower.record_form.declared.record.EventRecord.{EventRecord}
use Rattle.image_form.specs.declared.image.Image.{Image}
use Rattle.journal_core.specs.Records.{Has, Walked}
use Rattle.groovy_parse.proofs.FirstFaults.{faultless_only}
use Rattle.model_syntax.specs.declared.tree.Tree.{Tree}
use Rattle.model_syntax.specs.TreeNodes.{tree_node}
use Rattle.model_run.specs.declared.event.Event.{Event}
use Rattle.model_run.specs.declared.site.Site.{Site}
use Rattle.model_run.specs.AgentsFile.{Means}
use Rattle.model_run.specs.State.{Setting}
use Rattle.model_run.specs.Terms.{term}
use Rattle.model_run.specs.World.{Build, run_limits, setting_of, unbegun}
use Rattle.store_laws.specs.Store.{AllDue, AllWhole, HasEvents, IsConsistent, IsStory, Mean, Tells, Told, events_of, record_at}
use Rattle.store_laws.proofs.Payloads.{whole_told}

-- bytes tell one record at most
pub one_record : (before : Option Image) (r q : EventRecord) (bytes : List ℕ) → record_at before bytes ≡ Some r → record_at before bytes ≡ Some q → r ≡ q
one_record before r q bytes a b = let same : Some r ≡ Some q = sym a ∙ b in cc

pub one_list : (before : Option Image) (rs qs : List EventRecord) (payloads : List (List ℕ)) → Told before rs payloads → Told before qs payloads → rs ≡ qs
one_list before [] [] [] a b = refl
one_list before (r ∷ rs) (q ∷ qs) (p ∷ ps) a b =
    let same : r ≡ q = one_record before r q p a.0 b.0 in
    ap (λ (x : EventRecord). x ∷ rs) same ∙ ap (λ (xs : List EventRecord). q ∷ xs) (one_list (Some q.image) rs qs ps (subst (λ (x : EventRecord). Told (Some x.image) rs ps) same a.1) b.1)
one_list before [] (q ∷ qs) [] a b = absurd b
one_list before (r ∷ rs) qs [] a b = absurd a
one_list before [] qs (p ∷ ps) a b = absurd a
one_list before (r ∷ rs) [] (p ∷ ps) a b = absurd b

-- a file tells one list of records at most, and so one list of events
pub one_telling : (rs qs : List EventRecord) (file : List ℕ) → Tells rs file → Tells qs file → rs ≡ qs
one_telling rs qs file a b =
    let same : a.payloads ≡ b.payloads = ap (λ (w : Walked). w.payloads) (sym a.has ∙ b.has) in
    one_list None rs qs b.payloads (subst (Told None rs) same a.spelled) b.spelled

pub one_history : (es fs : List Event) (file : List ℕ) → HasEvents es file → HasEvents fs file → es ≡ fs
one_history es fs file a b = sym a.are ∙ ap events_of (one_telling a.records b.records file a.tells b.tells) ∙ b.are

same_site : (x y : Site) → Means x ≡ Means y → x ≡ y
same_site x y e = cc

-- a script and an agents file mean one setting at most
pub one_setting : (s t : Setting) (script agents : List ℕ) → Mean script agents s → Mean script agents t → s ≡ t
one_setting s t script agents a b =
    let tree : a.tree ≡ b.tree = faultless_only b.faultless a.faultless in
    let site : s.site ≡ t.site = same_site s.site t.site (sym a.means ∙ b.means) in
    a.is ∙ ap (λ (x : Tree). setting_of run_limits (term 0 (tree_node x)) s.site) tree
    ∙ ap (λ (x : Site). setting_of run_limits (term 0 (tree_node b.tree)) x) site ∙ sym b.is

-- A store all of whose records hold whole images, as the program wrote them before it wrote changes, is consistent as ever.
pub whole_consistent : (image_of : Setting → Build → Image) (setting : Setting) (records : List EventRecord) (payloads : List (List ℕ)) (file : List ℕ) → Has payloads file → AllWhole records payloads → IsStory image_of setting records
    → AllDue setting unbegun records → IsConsistent image_of file
whole_consistent image_of setting records payloads file has whole story due = record {
  setting = setting;
  records = records;
  tells = record { payloads = payloads; has = has; spelled = whole_told None records payloads whole };
  story = story;
  due = due;
}
