-- The parts of a call's contract, from what its command does.
use Rattle.std.proofs.Common.{◌≡◌, ◌⊎◌, ◌≤◌, ℕ, List, length, inr, sym, subst}
use Rattle.std.specs.Prelude.{IfSome}
use Rattle.command_words.specs.declared.command.Command.{Command}
use Rattle.command_words.specs.declared.command.Command.TheVariants.{Run, Resume, Log, Graph, Check, Generate}
use Rattle.command_words.specs.Words.{IsCommand}
use Rattle.image_form.specs.declared.image.Image.{Image}
use Rattle.model_run.specs.GraphText.{graph_text}
use Rattle.model_run.specs.World.{Build}
use Rattle.build_commands.specs.Statuses.{HasRun}
use Rattle.settle_laws.specs.Stances.{Stance}
use Rattle.build_commands.specs.declared.end_text.EndText.TheVariants as end
use Rattle.controller.specs.Call.{Call, Devices, Is, IsUnled, Tells, made, usage_text}
use Rattle.controller.specs.Causes.{CausesOf, Causes}
use Rattle.controller.specs.Commands.{Does}
use Rattle.controller.specs.Commands as does
use Rattle.controller.specs.Crash.{CrashOf, Crash}
use Rattle.controller.specs.FirstFault.{FaultOf, FirstFault}
use Rattle.controller.specs.Launches.{Launches}
use Rattle.controller.specs.Output.{OutputOf, Output, Says}
use Rattle.controller.specs.Output as output
use Rattle.controller.specs.Promises.{Promises}
use Rattle.controller.specs.Reads.{Reads, ReadsOf, ReadsNoFile}
use Rattle.controller.proofs.CallLemmas.{is_command, one_command}
use Rattle.controller.proofs.CheckLemmas.{check_outputs, check_says, check_judges, check_causes, check_known}
use Rattle.controller.proofs.LaunchLemmas.{made_launches, resume_launches, run_launches, same_launches, show_launches}
use Rattle.controller.proofs.ResumeLemmas.{resume_unread, resume_says, resume_untold, resume_known, resume_any, resume_outputs, resume_crashes, resume_causes}
use Rattle.controller.proofs.RunLemmas.{run_unread, run_outputs, run_says, run_crashes, run_judges, run_causes, run_known}
use Rattle.controller.proofs.ShowLemmas.{show_says, show_outputs, show_untold, show_known}
use Rattle.jp_disk.specs.View.{DiskLaws}

module _ {D H A T : Type 0} (v : Devices D H A) (stance : T → Stance) (laws : DiskLaws v.disk) (c : Call D H A) where
  abbrev DoesSo : Type 0
  DoesSo = Does v stance c

  -- OUTPUT
  output_by : DoesSo → (command : Command) → Is command c → OutputOf v command c
  output_by (does.usage unsaid files unled same two tells) k is = absurd (unsaid (is_command c k is))
  output_by (does.runs by files table) k is = subst (λ (command : Command). OutputOf v command c) (one_command c Run k by is) (run_outputs v stance laws end.Log c table)
  output_by (does.generates stages by files table) k is = subst (λ (command : Command). OutputOf v command c) (one_command c (Generate stages) k by is) (run_outputs v stance laws (end.Numbers stages) (made stages c) table)
  output_by (does.resumes by files table) k is = subst (λ (command : Command). OutputOf v command c) (one_command c Resume k by is) (resume_outputs v laws c table, resume_any v laws c table.reopens)
  output_by (does.logs by files unled table) k is = subst (λ (command : Command). OutputOf v command c) (one_command c Log k by is) (show_outputs (λ (w : Build). w.shared.log) (λ (i : Image). i.log) v c table)
  output_by (does.graphs by files unled table) k is = subst (λ (command : Command). OutputOf v command c) (one_command c Graph k by is) (show_outputs (λ (w : Build). graph_text w.shared.nodes) (λ (i : Image). graph_text i.nodes) v c table)
  output_by (does.checks by files unled same table) k is = subst (λ (command : Command). OutputOf v command c) (one_command c Check k by is) (check_outputs c table)

  refusal_by : DoesSo → HasRun c.status ⊎ ((text : List ℕ) × Says c.status text × Tells text c)
  refusal_by (does.usage unsaid files unled same two tells) = inr (usage_text, subst (λ (n : ℕ). Says n usage_text) (sym two) output.usage, tells)
  refusal_by (does.runs by files table) = run_says v stance laws end.Log c table
  refusal_by (does.generates stages by files table) = run_says v stance laws (end.Numbers stages) (made stages c) table
  refusal_by (does.resumes by files table) = resume_says v laws c table.reopens
  refusal_by (does.logs by files unled table) = show_says (λ (w : Build). w.shared.log) (λ (i : Image). i.log) v c table.shows
  refusal_by (does.graphs by files unled table) = show_says (λ (w : Build). graph_text w.shared.nodes) (λ (i : Image). graph_text i.nodes) v c table.shows
  refusal_by (does.checks by files unled same table) = check_says c table

  pub output_of : DoesSo → Output v c
  output_of so = record { command = output_by so; refusal = refusal_by so }

  -- CRASH
  crash_by : DoesSo → (command : Command) → Is command c → CrashOf v command c
  crash_by (does.usage unsaid files unled same two tells) k is = absurd (unsaid (is_command c k is))
  crash_by (does.runs by files table) k is =
      subst (λ (command : Command). CrashOf v command c) (one_command c Run k by is) (run_crashes v stance laws end.Log c table)
  crash_by (does.generates stages by files table) k is =
      subst (λ (command : Command). CrashOf v command c) (one_command c (Generate stages) k by is) (run_crashes v stance laws (end.Numbers stages) (made stages c) table)
  crash_by (does.resumes by files table) k is =
      subst (λ (command : Command). CrashOf v command c) (one_command c Resume k by is) (resume_crashes v laws c table)
  crash_by (does.logs by files unled table) k is = subst (λ (command : Command). CrashOf v command c) (one_command c Log k by is) table.any_moment
  crash_by (does.graphs by files unled table) k is = subst (λ (command : Command). CrashOf v command c) (one_command c Graph k by is) table.any_moment
  crash_by (does.checks by files unled same table) k is = subst (λ (command : Command). CrashOf v command c) (one_command c Check k by is) same

  crash_usage : DoesSo → ¬ (IsCommand c.words) → c.now ≡ c.disk
  crash_usage (does.usage unsaid files unled same two tells) other = same
  crash_usage (does.runs by files table) other = absurd (other (is_command c Run by))
  crash_usage (does.generates stages by files table) other = absurd (other (is_command c (Generate stages) by))
  crash_usage (does.resumes by files table) other = absurd (other (is_command c Resume by))
  crash_usage (does.logs by files unled table) other = absurd (other (is_command c Log by))
  crash_usage (does.graphs by files unled table) other = absurd (other (is_command c Graph by))
  crash_usage (does.checks by files unled same table) other = same

  pub crash_of : DoesSo → Crash v c
  crash_of so = record { command = crash_by so; usage = crash_usage so }

  -- FIRST FAULT
  fault_by : DoesSo → (command : Command) → Is command c → FaultOf command c
  fault_by (does.usage unsaid files unled same two tells) k is = absurd (unsaid (is_command c k is))
  fault_by (does.runs by files table) k is = subst (λ (command : Command). FaultOf command c) (one_command c Run k by is) (run_judges v stance laws end.Log c table)
  fault_by (does.generates stages by files table) k is = subst (λ (command : Command). FaultOf command c) (one_command c (Generate stages) k by is) (run_judges v stance laws (end.Numbers stages) (made stages c) table)
  fault_by (does.resumes by files table) k is = subst (λ (command : Command). FaultOf command c) (one_command c Resume k by is) (resume_untold v laws c table.reopens)
  fault_by (does.logs by files unled table) k is = subst (λ (command : Command). FaultOf command c) (one_command c Log k by is) (show_untold (λ (w : Build). w.shared.log) (λ (i : Image). i.log) v c table)
  fault_by (does.graphs by files unled table) k is = subst (λ (command : Command). FaultOf command c) (one_command c Graph k by is) (show_untold (λ (w : Build). graph_text w.shared.nodes) (λ (i : Image). graph_text i.nodes) v c table)
  fault_by (does.checks by files unled same table) k is = subst (λ (command : Command). FaultOf command c) (one_command c Check k by is) (check_judges c same table)

  pub first_fault_of : DoesSo → FirstFault c
  first_fault_of so = record { command = fault_by so }

  -- CAUSES
  causes_by : DoesSo → (command : Command) → Is command c → CausesOf v command c
  causes_by (does.usage unsaid files unled same two tells) k is = absurd (unsaid (is_command c k is))
  causes_by (does.runs by files table) k is = subst (λ (command : Command). CausesOf v command c) (one_command c Run k by is) (run_causes v stance laws end.Log c table)
  causes_by (does.generates stages by files table) k is = subst (λ (command : Command). CausesOf v command c) (one_command c (Generate stages) k by is) (run_causes v stance laws (end.Numbers stages) (made stages c) table)
  causes_by (does.resumes by files table) k is = subst (λ (command : Command). CausesOf v command c) (one_command c Resume k by is) (resume_causes v laws c table)
  causes_by (does.logs by files unled table) k is = subst (λ (command : Command). CausesOf v command c) (one_command c Log k by is) table.causes
  causes_by (does.graphs by files unled table) k is = subst (λ (command : Command). CausesOf v command c) (one_command c Graph k by is) table.causes
  causes_by (does.checks by files unled same table) k is = subst (λ (command : Command). CausesOf v command c) (one_command c Check k by is) (check_causes c {v = v} same unled table)

  usage_only : DoesSo → c.status ≡ 2 → ¬ (IsCommand c.words)
  usage_only (does.usage unsaid files unled same two tells) is = unsaid
  usage_only (does.runs by files table) is = absurd (run_known v stance laws end.Log c table is)
  usage_only (does.generates stages by files table) is = absurd (run_known v stance laws (end.Numbers stages) (made stages c) table is)
  usage_only (does.resumes by files table) is = absurd (resume_known v laws c table.reopens is)
  usage_only (does.logs by files unled table) is = absurd (show_known (λ (w : Build). w.shared.log) (λ (i : Image). i.log) v c table is)
  usage_only (does.graphs by files unled table) is = absurd (show_known (λ (w : Build). graph_text w.shared.nodes) (λ (i : Image). graph_text i.nodes) v c table is)
  usage_only (does.checks by files unled same table) is = absurd (check_known c table is)

  usage_always : DoesSo → ¬ (IsCommand c.words) → c.status ≡ 2
  usage_always (does.usage unsaid files unled same two tells) other = two
  usage_always (does.runs by files table) other = absurd (other (is_command c Run by))
  usage_always (does.generates stages by files table) other = absurd (other (is_command c (Generate stages) by))
  usage_always (does.resumes by files table) other = absurd (other (is_command c Resume by))
  usage_always (does.logs by files unled table) other = absurd (other (is_command c Log by))
  usage_always (does.graphs by files unled table) other = absurd (other (is_command c Graph by))
  usage_always (does.checks by files unled same table) other = absurd (other (is_command c Check by))

  pub causes_of : DoesSo → Causes v c
  causes_of so = record { usage = (usage_only so, usage_always so); command = causes_by so }

  -- READS
  reads_by : DoesSo → (command : Command) → Is command c → ReadsOf command c
  reads_by (does.usage unsaid files unled same two tells) k is = absurd (unsaid (is_command c k is))
  reads_by (does.runs by files table) k is = subst (λ (command : Command). ReadsOf command c) (one_command c Run k by is) (files, run_unread v stance laws end.Log c table)
  reads_by (does.generates stages by files table) k is = subst (λ (command : Command). ReadsOf command c) (one_command c (Generate stages) k by is) (files, run_unread v stance laws (end.Numbers stages) (made stages c) table)
  reads_by (does.resumes by files table) k is = subst (λ (command : Command). ReadsOf command c) (one_command c Resume k by is) (files, resume_unread v laws c table.reopens)
  reads_by (does.logs by files unled table) k is = subst (λ (command : Command). ReadsOf command c) (one_command c Log k by is) (files, unled)
  reads_by (does.graphs by files unled table) k is = subst (λ (command : Command). ReadsOf command c) (one_command c Graph k by is) (files, unled)
  reads_by (does.checks by files unled same table) k is = subst (λ (command : Command). ReadsOf command c) (one_command c Check k by is) (files, unled)

  reads_usage : DoesSo → ¬ (IsCommand c.words) → ReadsNoFile c × IsUnled c
  reads_usage (does.usage unsaid files unled same two tells) other = (files, unled)
  reads_usage (does.runs by files table) other = absurd (other (is_command c Run by))
  reads_usage (does.generates stages by files table) other = absurd (other (is_command c (Generate stages) by))
  reads_usage (does.resumes by files table) other = absurd (other (is_command c Resume by))
  reads_usage (does.logs by files unled table) other = absurd (other (is_command c Log by))
  reads_usage (does.graphs by files unled table) other = absurd (other (is_command c Graph by))
  reads_usage (does.checks by files unled same table) other = absurd (other (is_command c Check by))

  pub reads_of : DoesSo → Reads c
  reads_of so = record { command = reads_by so; usage = reads_usage so }

  -- LAUNCHES
  launches_of : length c.hosts ≡ 64 → DoesSo → Launches v c
  launches_of many (does.usage unsaid files unled same two tells) = same_launches v stance laws c many unled same
  launches_of many (does.runs by files table) = run_launches v stance laws c many end.Log table
  launches_of many (does.generates stages by files table) = made_launches v stages c (run_launches v stance laws (made stages c) many (end.Numbers stages) table)
  launches_of many (does.resumes by files table) = resume_launches v stance laws c many table
  launches_of many (does.logs by files unled table) = show_launches v stance laws c many unled table.any_moment
  launches_of many (does.graphs by files unled table) = show_launches v stance laws c many unled table.any_moment
  launches_of many (does.checks by files unled same table) = same_launches v stance laws c many unled same

  pub promises : length c.hosts ≡ 64 → DoesSo → Promises v c
  promises many so = record { output = output_of so; crash = crash_of so; first_fault = first_fault_of so; causes = causes_of so; reads = reads_of so; launches = launches_of many so }
