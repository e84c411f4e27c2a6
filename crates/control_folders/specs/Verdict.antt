-- What becomes of a control folder that is found where one is to be made. This product's own rules (docs/HOSTS.md).
use Rattle.std.specs.Prelude.{Bool, if◌then◌else◌}
use Rattle.control_folders.specs.declared.facts.Facts.{Facts}
use Rattle.control_folders.specs.declared.fate.Fate.{Fate}
use Rattle.control_folders.specs.declared.fate.Fate.TheVariants as fate
use Rattle.control_folders.specs.declared.machine.Boot.TheVariants as boot
use Rattle.control_folders.specs.declared.facts.Mark.{Mark}
use Rattle.control_folders.specs.declared.facts.Mark.TheVariants as mark
use Rattle.control_folders.specs.declared.facts.Verdict.{Verdict}
use Rattle.control_folders.specs.declared.facts.Verdict.TheVariants as verdict

-- A permit of this boot can be withdrawn, and whoever withdrew it knows that nothing was run. Of another boot nothing is
-- known. A log without any mark is that of a task which was started by hand or by a program that knew no permits.
abbrev pub own_verdict : Mark → Bool → Verdict
own_verdict (mark.Permit boot.Same) has_log = verdict.Withdraw
own_verdict (mark.Permit boot.Other) has_log = verdict.Keep
own_verdict (mark.Permit boot.Unknown) has_log = verdict.Keep
own_verdict mark.Started has_log = verdict.Keep
own_verdict mark.Withdrawn has_log = verdict.Discard
own_verdict mark.Nothing has_log = if has_log then verdict.Keep else verdict.Discard

-- What becomes of the folder of another build's task that was started goes by what is known of its process.
abbrev pub started_verdict : Fate → Verdict
started_verdict fate.Gone = verdict.Discard
started_verdict fate.OtherBoot = verdict.Discard
started_verdict fate.Elsewhere = verdict.Ask
started_verdict fate.Lives = verdict.Refuse
started_verdict fate.Unknown = verdict.Refuse

-- A folder that is not this build's goes where its task cannot be running.
abbrev pub others_verdict : Mark → Bool → Fate → Verdict
others_verdict (mark.Permit boot) has_log fate = verdict.Withdraw
others_verdict mark.Started has_log fate = started_verdict fate
others_verdict mark.Withdrawn has_log fate = verdict.Discard
others_verdict mark.Nothing has_log fate = if has_log then verdict.Refuse else verdict.Discard

-- A folder with a result has a task that has ended.
abbrev pub verdict_of : Facts → Verdict
verdict_of facts =
    if facts.is_own then (if facts.has_result then verdict.Keep else own_verdict facts.mark facts.has_log)
    else (if facts.has_result then verdict.Discard else others_verdict facts.mark facts.has_log facts.fate)
