-- The command of a call, its status, and what its devices tell.
use Rattle.std.proofs.Common.{◌≡◌, ◌+◌, ◌*◌, ◌<◌, ◌^◌, ℕ, Bool, true, false, List, [], ◌∷◌, Option, None, Some, inl, inr, refl, sym, ap, ◌∙◌, subst, max, arith}
use Rattle.std.specs.Prelude.{nat_eq, if◌then◌else◌, IfSome, IsSomeAnd}
use Rattle.command_words.specs.declared.command.Command.{Command}
use Rattle.command_words.specs.declared.command.Command.TheVariants.{Run, Resume, Log, Graph, Check, Generate}
use Rattle.command_words.specs.Words.{word_of, Gives, IsCommand, IsOperand, IsStages}
use Rattle.std.proofs.lemmas.Fmt.{decimal_injective}
use Rattle.jp_disk.proofs.MomentLemmas.{if_told}
use Rattle.model_syntax.specs.declared.tree.Tree.{Tree}
use Rattle.model_syntax.proofs.FirstFaultLaws.{faultless_or_fault}
use Rattle.model_run.specs.declared.result.BuildResult.{BuildResult}
use Rattle.model_run.specs.declared.result.BuildResult.TheVariants.{Success, Unstable, Failure, NotBuilt, Aborted}
use Rattle.model_run.specs.declared.site.Site.{Site}
use Rattle.model_run.specs.declared.event.Event.{Event}
use Rattle.model_run.specs.State.{Setting}
use Rattle.model_run.specs.World.{Build}
use Rattle.build_commands.specs.Lower.store_laws.Store.{Mean}
use Rattle.build_commands.specs.Lower.durable_build.Settings.{script_setting}
use Rattle.build_commands.specs.Files.{HasFault, HasSite, IsRefused, by_fault, by_length, OfFiles, Builds}
use Rattle.build_commands.specs.Statuses.{HasRun, result_status, world_status, HasLog}
use Rattle.build_commands.specs.Inputs.{Input}
use Rattle.build_commands.proofs.StatusLemmas.{ended_status, going_status}
use Rattle.build_commands.specs.declared.end_text.EndText.{EndText}
use Rattle.build_commands.specs.Living.{Finished}
use Rattle.build_commands.specs.Plans.{Hold}
use Rattle.controller.specs.Call.{Call, Devices, Is}
use Rattle.controller.specs.FirstFault.{TellsFault}

-- the first three letters of a word, in one number
abbrev tag : List ℕ → ℕ
tag (a ∷ (b ∷ (c ∷ more))) = a * 1000000 + b * 1000 + c
tag word = 0

few : (word : List ℕ) (stages : ℕ) → IsStages word stages → stages < 2 ^ 64
few word stages s = let most = s.most in omega (arith, most)

same_command : (a b : Command) (word : List ℕ) → word_of a ≡ word_of b → IsOperand a word → IsOperand b word → a ≡ b
same_command Run Run word e x y = refl
same_command Run Resume word e x y = let t : 114117110 ≡ 114101115 = ap tag e in absurd (omega (arith, t))
same_command Run Log word e x y = let t : 114117110 ≡ 108111103 = ap tag e in absurd (omega (arith, t))
same_command Run Graph word e x y = let t : 114117110 ≡ 103114097 = ap tag e in absurd (omega (arith, t))
same_command Run Check word e x y = let t : 114117110 ≡ 99104101 = ap tag e in absurd (omega (arith, t))
same_command Run (Generate stages) word e x y = let t : 114117110 ≡ 103101110 = ap tag e in absurd (omega (arith, t))
same_command Resume Run word e x y = let t : 114101115 ≡ 114117110 = ap tag e in absurd (omega (arith, t))
same_command Resume Resume word e x y = refl
same_command Resume Log word e x y = let t : 114101115 ≡ 108111103 = ap tag e in absurd (omega (arith, t))
same_command Resume Graph word e x y = let t : 114101115 ≡ 103114097 = ap tag e in absurd (omega (arith, t))
same_command Resume Check word e x y = let t : 114101115 ≡ 99104101 = ap tag e in absurd (omega (arith, t))
same_command Resume (Generate stages) word e x y = let t : 114101115 ≡ 103101110 = ap tag e in absurd (omega (arith, t))
same_command Log Run word e x y = let t : 108111103 ≡ 114117110 = ap tag e in absurd (omega (arith, t))
same_command Log Resume word e x y = let t : 108111103 ≡ 114101115 = ap tag e in absurd (omega (arith, t))
same_command Log Log word e x y = refl
same_command Log Graph word e x y = let t : 108111103 ≡ 103114097 = ap tag e in absurd (omega (arith, t))
same_command Log Check word e x y = let t : 108111103 ≡ 99104101 = ap tag e in absurd (omega (arith, t))
same_command Log (Generate stages) word e x y = let t : 108111103 ≡ 103101110 = ap tag e in absurd (omega (arith, t))
same_command Graph Run word e x y = let t : 103114097 ≡ 114117110 = ap tag e in absurd (omega (arith, t))
same_command Graph Resume word e x y = let t : 103114097 ≡ 114101115 = ap tag e in absurd (omega (arith, t))
same_command Graph Log word e x y = let t : 103114097 ≡ 108111103 = ap tag e in absurd (omega (arith, t))
same_command Graph Graph word e x y = refl
same_command Graph Check word e x y = let t : 103114097 ≡ 99104101 = ap tag e in absurd (omega (arith, t))
same_command Graph (Generate stages) word e x y = let t : 103114097 ≡ 103101110 = ap tag e in absurd (omega (arith, t))
same_command Check Run word e x y = let t : 99104101 ≡ 114117110 = ap tag e in absurd (omega (arith, t))
same_command Check Resume word e x y = let t : 99104101 ≡ 114101115 = ap tag e in absurd (omega (arith, t))
same_command Check Log word e x y = let t : 99104101 ≡ 108111103 = ap tag e in absurd (omega (arith, t))
same_command Check Graph word e x y = let t : 99104101 ≡ 103114097 = ap tag e in absurd (omega (arith, t))
same_command Check Check word e x y = refl
same_command Check (Generate stages) word e x y = let t : 99104101 ≡ 103101110 = ap tag e in absurd (omega (arith, t))
same_command (Generate stages) Run word e x y = let t : 103101110 ≡ 114117110 = ap tag e in absurd (omega (arith, t))
same_command (Generate stages) Resume word e x y = let t : 103101110 ≡ 114101115 = ap tag e in absurd (omega (arith, t))
same_command (Generate stages) Log word e x y = let t : 103101110 ≡ 108111103 = ap tag e in absurd (omega (arith, t))
same_command (Generate stages) Graph word e x y = let t : 103101110 ≡ 103114097 = ap tag e in absurd (omega (arith, t))
same_command (Generate stages) Check word e x y = let t : 103101110 ≡ 99104101 = ap tag e in absurd (omega (arith, t))
same_command (Generate stages) (Generate more) word e x y = ap Generate (decimal_injective stages more (few word stages x) (few word more y) (sym x.is ∙ y.is))

both_given : (words : List (List ℕ)) (a b : Command) (f g : List ℕ) → Gives words a f → Gives words b g → a ≡ b
both_given [] a b f g x y = absurd x
both_given (p ∷ []) a b f g x y = absurd x
both_given (p ∷ (v ∷ [])) a b f g x y = absurd x
both_given (p ∷ (v ∷ (n ∷ []))) a b f g x y = same_command a b n (x.1.0 ∙ sym y.1.0) x.1.1 y.1.1
both_given (p ∷ (v ∷ (n ∷ (m ∷ more)))) a b f g x y = absurd x

-- the words are one command
pub one_command : {D H A : Type 0} (c : Call D H A) (a b : Command) → Is a c → Is b c → a ≡ b
one_command c a b x y = both_given c.words a b x.0 y.0 x.1 y.1

pub is_command : {D H A : Type 0} (c : Call D H A) (a : Command) → Is a c → IsCommand c.words
is_command c a is = (a, is.0, is.1)

-- the statuses of calls that did not do what the command is for
abbrev refuses : ℕ → Bool
refuses n = if nat_eq n 2 then true else (if nat_eq n 4 then true else (if nat_eq n 5 then true else (if nat_eq n 6 then true else (if nat_eq n 8 then true else (if nat_eq n 9 then true else (if nat_eq n 13 then true else nat_eq n 14))))))

never_result : (r : BuildResult) → refuses (result_status r) ≡ false
never_result Success = refl
never_result Failure = refl
never_result Unstable = refl
never_result NotBuilt = refl
never_result Aborted = refl

never : (n : ℕ) → HasRun n → refuses n ≡ false
never n (inl (inl e)) = ap refuses e.1 ∙ never_result e.0
never n (inl (inr e)) = ap refuses e
never n (inr e) = ap refuses e

-- they are not those of builds
pub unrun : (m n : ℕ) → n ≡ m → refuses m ≡ true → HasRun n → ⊥
unrun m n e is run = let bad : true ≡ false = sym is ∙ sym (ap refuses e) ∙ never n run in absurd (cc)

-- nor that of a sink that failed a status of a build
logs_result : (r : BuildResult) → nat_eq (result_status r) 7 ≡ false
logs_result Success = refl
logs_result Failure = refl
logs_result Unstable = refl
logs_result NotBuilt = refl
logs_result Aborted = refl

pub seven_no_log : (n : ℕ) → n ≡ 7 → HasLog n → ⊥
seven_no_log n seven (inl e) = let bad : true ≡ false = sym (ap (λ m. nat_eq m 7) seven) ∙ ap (λ m. nat_eq m 7) e.1 ∙ logs_result e.0 in absurd (cc)
seven_no_log n seven (inr e) = absurd (omega (arith, seven, e))

-- statuses that tell no fault of a file
pub untold : (m n : ℕ) → n ≡ m → ¬ (m ≡ 4) → ¬ (m ≡ 13) → TellsFault n → ⊥
untold m n e no_four no_thirteen (inl four) = no_four (sym e ∙ four)
untold m n e no_four no_thirteen (inr thirteen) = no_thirteen (sym e ∙ thirteen)

pub run_untold : (n : ℕ) → HasRun n → TellsFault n → ⊥
run_untold n run (inl four) = unrun 4 n four refl run
run_untold n run (inr thirteen) = unrun 13 n thirteen refl run

-- the status of a build that has ended or waits
status_by : (w : Build) (b : Bool) → w.ended ≡ b → HasLog (world_status w)
status_by w true e = inl (w.shared.result, ended_status w e)
status_by w false e = inr (going_status w e)

pub world_log : (w : Build) → HasLog (world_status w)
world_log w = status_by w w.ended refl

-- a script that can be built is not refused, and its agents file has no fault
pub built_not_refused : {s a : List ℕ} {tree : Tree} {site : Site} → Builds s a tree site → IsRefused s → ⊥
built_not_refused b (by_fault f) = faultless_or_fault b.faultless f
built_not_refused b (by_length long) = omega (arith, b.fits, long)

pub site_no_fault : (a : List ℕ) → HasSite a → HasFault a → ⊥
site_no_fault a w f = let e = sym w.1 ∙ f.2 in cc

pub built_site : {s a : List ℕ} {tree : Tree} {site : Site} → Builds s a tree site → HasSite a
built_site {site = site} b = (site, b.means)

pub mean_of : {s a : List ℕ} {tree : Tree} {site : Site} → Builds s a tree site → Mean s a (script_setting tree site)
mean_of {tree = tree} b = record { tree = tree; within = b.fits; faultless = b.faultless; means = b.means; is = refl }

-- what holds of the bytes that both sources had, holds of those that they tell
pub of_files : (script agents : Input) (s a : List ℕ) (P : List ℕ → List ℕ → Type 0) → Hold script agents s a → P s a → OfFiles script agents P
of_files script agents s a P hold here x y at_x at_y =
    let same_s : x ≡ s = if_told (λ b. b ≡ s) at_x hold.held_script in
    let same_a : y ≡ a = if_told (λ b. b ≡ a) at_y hold.held_agents in
    subst (λ (u : List ℕ). P u y) (sym same_s) (subst (λ (v : List ℕ). P s v) (sym same_a) here)

-- what holds of the bytes of a disk, where it tells them
pub where_told : (o : Option (List ℕ)) (P : List ℕ → Type 0) → ((file : List ℕ) → o ≡ Some file → P file) → IfSome o P
where_told None P all = tt
where_told (Some file) P all = all file refl

pub some_and : {X : Type 0} (o : Option X) (P Q : X → Type 0) → ((x : X) → P x → Q x) → IsSomeAnd o P → IsSomeAnd o Q
some_and None P Q more holds = absurd holds
some_and (Some x) P Q more holds = more x holds

-- a life over a build of this setting, from these events on, has finished with this status
abbrev pub FinishedIn : {D H A : Type 0} → Devices D H A → Call D H A → EndText → Setting → D → List Event → ℕ → Type 0
FinishedIn v c kind setting origin before n =
    Finished v.disk v.host v.source (max setting.site.looks 1)
    kind setting (v.disk.reads c.disk) origin before c.hosts c.hosts_now c.answers c.answers_now c.history c.now (v.disk.faults origin) (v.disk.faults c.now) c.old c.new c.sink_before c.sink_after n
