-- How a serve begins, and what the whole of it is.
use Rattle.std.proofs.Common.{◌≡◌, ◌⊎◌, ◌++◌, ◌∷◌, [], ℕ, ℤ, List, Bool, true, false, drop, Option, Some, None, inl, inr, sym, ap, ◌∙◌, refl, subst}
use Rattle.std.specs.Prelude.{Contains, MatchBool}
use Rattle.task_host.specs.Host.{GoesOn}
use Rattle.task_host.specs.declared.answers.Made.TheVariants as made
use Rattle.task_host.specs.declared.answers.Started.TheVariants as start
use Rattle.agent_worker.specs.declared.gate.GateCall.{GateCall}
use Rattle.agent_worker.specs.declared.gate.Said.{Said}
use Rattle.agent_worker.specs.declared.task.Served.{Served}
use Rattle.agent_worker.specs.declared.task.Served.TheVariants as served
use Rattle.agent_worker.specs.Types.{Order, Stream, Call, Look, NotStarted}
use Rattle.agent_worker.specs.Gate.{Told, Becomes}
use Rattle.agent_worker.specs.Acts.{Act, with_calls, made_dir, started, WasDone, accepted, kept_before, latest_look}
use Rattle.agent_worker.specs.Serving.{Opened, Starts, Exists, Fails, lost}
use Rattle.agent_worker.specs.Delivering.{Holds}
use Rattle.agent_worker.specs.Folders.{LeavesFolders}
use Rattle.agent_worker.specs.Serve.{Seen, Tasks, LaunchesOnce, ServesOrder}
use Rattle.agent_worker.specs.Standing.{Stands, ServesOn, Opens, Tells}
use Rattle.agent_worker.proofs.TellLemmas.{stays}
use Rattle.agent_worker.proofs.GoesOnLemmas.{goes-nowhere}
use Rattle.agent_worker.proofs.ServeLemmas.{serves-lost, delivers-of}

-- before the first look an honest host has nothing to have
fresh : (order : Order) (output : Stream → List ℕ) (ended : Option ℤ) (past : List Act) → ((stream : Stream) → accepted stream past ≡ []) → latest_look past ≡ None → Holds order output ended past
fresh order output ended past none no_look = record {
  delivered = λ stream small. (drop (kept_before order stream) (output stream), ap (λ (bytes : List ℕ). bytes ++ drop (kept_before order stream) (output stream)) (sym (none stream)));
  over = λ code said. absurd (no said no_look);
  read_out = λ code stream place said found. absurd (no said no_look);
}
  where
    no : {l : Look} → latest_look past ≡ Some l → latest_look past ≡ None → ⊥
    no said no_look = cc

-- It has begun.
pub opened-stands : (honest : Type 0) (order : Order) (looks : ℕ) (old : Seen) (calls : Option (List Call)) (output : ℕ → Stream → List ℕ) (exited : ℕ → Option ℤ) (past : List Act)
    → Opened order past → Becomes (with_calls past) old.calls calls → (honest → GoesOn order.task old.exited exited old.output output)
    → Stands honest order looks old (record old { calls = calls; output = output; exited = exited }) past
opened-stands honest order looks old calls output exited _ Starts called goes = record {
  goes_on = goes;
  shows = record { calls = called; told = stays old.told; reports = stays old.reports; said = refl };
  lawful = ((refl, refl), ((refl, refl), tt));
  holds = λ is. fresh order (output order.task) (exited order.task) (started order start.Started ∷ made_dir order made.Made ∷ []) (λ s. refl) refl;
}
opened-stands honest order looks old calls output exited _ Exists called goes = record {
  goes_on = goes;
  shows = record { calls = called; told = stays old.told; reports = stays old.reports; said = refl };
  lawful = ((refl, refl), tt);
  holds = λ is. fresh order (output order.task) (exited order.task) (made_dir order made.Exists ∷ []) (λ s. refl) refl;
}
opened-stands honest order looks old calls output exited _ Fails called goes = record {
  goes_on = goes;
  shows = record { calls = called; told = stays old.told; reports = stays old.reports; said = refl };
  lawful = ((refl, refl), tt);
  holds = λ is. fresh order (output order.task) (exited order.task) (made_dir order made.Failed ∷ []) (λ s. refl) refl;
}

-- Its start failed.
failed-stands : (honest : Type 0) (order : Order) (looks : ℕ) (old : Seen) (calls : Option (List Call)) (output : ℕ → Stream → List ℕ) (exited : ℕ → Option ℤ)
    → Becomes (with_calls (started order start.Failed ∷ made_dir order made.Made ∷ [])) old.calls calls → (honest → GoesOn order.task old.exited exited old.output output)
    → Stands honest order looks old (record old { calls = calls; output = output; exited = exited }) (started order start.Failed ∷ made_dir order made.Made ∷ [])
failed-stands honest order looks old calls output exited called goes = record {
  goes_on = goes;
  shows = record { calls = called; told = stays old.told; reports = stays old.reports; said = refl };
  lawful = ((refl, refl), ((refl, refl), tt));
  holds = λ is. fresh order (output order.task) (exited order.task) (started order start.Failed ∷ made_dir order made.Made ∷ []) (λ s. refl) refl;
}

-- A whole serve.
pub serves-order : (honest last : Type 0) (order : Order) (looks : ℕ) (old now : Seen) (calls : Option (List Call)) (old_tasks mid tasks : Tasks) (begun : Bool) (answer : Served)
    → (opens : Opens honest order old.calls calls old_tasks mid begun)
    → ServesOn last order looks old now opens.past mid.dirs tasks.dirs answer
    → (honest → last) → tasks.launches ≡ mid.launches
    → ServesOrder honest order looks old now old_tasks tasks answer
serves-order honest last order looks old now calls old_tasks mid tasks begun answer opens on is_honest same = record {
  serve = record {
    past = on.serve.past;
    shows = on.serve.shows;
    lawful = on.serve.lawful;
    ends = on.serve.ends;
    delivers = λ is. on.serve.delivers (is_honest is);
    goes_on = λ is. on.serve.goes_on (is_honest is);
  };
  launched = once opens.launched;
  kept = λ is. record { launched = by is opens.launched; folders = (mid.dirs, opens.folder is, on.folders (is_honest is)) };
}
  where
    Launched : Type 0
    Launched = (mid.launches ≡ old_tasks.launches) ⊎ ((mid.launches ≡ old_tasks.launches ++ order.task ∷ []) × (WasDone (made_dir order made.Made) opens.past
        × (honest → (¬ Contains old_tasks.dirs order.task) × (mid.dirs ≡ old_tasks.dirs ++ order.task ∷ []))))

    once : Launched → LaunchesOnce order on.serve.past old_tasks.launches tasks.launches
    once (inl is) = inl (same ∙ is)
    once (inr (is, (done, made_now))) = inr (same ∙ is, on.still (made_dir order made.Made) done)

    by : honest → Launched → (tasks.launches ≡ old_tasks.launches) ⊎ ((tasks.launches ≡ old_tasks.launches ++ order.task ∷ []) × (¬ Contains old_tasks.dirs order.task) × LeavesFolders order on.serve.past (old_tasks.dirs ++ order.task ∷ []) tasks.dirs)
    by h (inl is) = inl (same ∙ is)
    by h (inr (is, (done, made_now))) = inr (same ∙ is, (made_now h).0, subst (λ (d : List ℕ). LeavesFolders order on.serve.past d tasks.dirs) (made_now h).1 (on.folders (is_honest h)))

-- A serve whose start failed.
pub serves-failed : (honest : Type 0) (order : Order) (looks : ℕ) (old : Seen) (calls : Option (List Call)) (output : ℕ → Stream → List ℕ) (exited : ℕ → Option ℤ) (told : Option (List Told)) (reports : Option (List GateCall)) (said : Said)
    (h : Type 0) (old_tasks tasks : Tasks) (begun : Bool) (answer : Served)
    → begun ≡ false → (opens : Opens h order old.calls calls old_tasks tasks begun) → (honest → GoesOn order.task old.exited exited old.output output)
    → Tells (lost order NotStarted) old.told told old.reports reports said answer
    → ServesOn honest order looks old (record { calls = calls; told = told; reports = reports; said = said; output = output; exited = exited }) opens.past tasks.dirs tasks.dirs answer
serves-failed honest order looks old calls output exited told reports said h old_tasks tasks begun answer not_begun opens goes tells =
    let past_is : opens.past ≡ started order start.Failed ∷ made_dir order made.Made ∷ [] = at-false begun not_begun opens.is in
    let called = subst (λ (p : List Act). Becomes (with_calls p) old.calls calls) past_is opens.called in
    let on = serves-lost honest order looks old (record old { calls = calls; output = output; exited = exited }) (started order start.Failed ∷ made_dir order made.Made ∷ []) NotStarted told reports said tasks.dirs tasks.dirs answer
    (started order start.Failed ∷ made_dir order made.Made ∷ []) (λ act done. done)
    (failed-stands honest order looks old calls output exited called goes) tells (refl, record { said = inl (inl refl) }) refl (inr refl) (λ is. refl) in
    record { serve = on.serve; folders = on.folders; still = λ act done. on.still act (subst (WasDone act) past_is done) }
  where
    at-false : (b : Bool) → b ≡ false → MatchBool b (Opened order opens.past) (opens.past ≡ started order start.Failed ∷ made_dir order made.Made ∷ []) → opens.past ≡ started order start.Failed ∷ made_dir order made.Made ∷ []
    at-false true is p = cc
    at-false false is q = q

-- A serve that has begun.
pub begun-opened : (h : Type 0) (order : Order) (old_calls calls : Option (List Call)) (old now : Tasks) (begun : Bool) → begun ≡ true → (opens : Opens h order old_calls calls old now begun) → Opened order opens.past
begun-opened h order old_calls calls old now begun is opens = by begun is opens.is
  where
    by : (b : Bool) → b ≡ true → MatchBool b (Opened order opens.past) (opens.past ≡ started order start.Failed ∷ made_dir order made.Made ∷ []) → Opened order opens.past
    by true is p = p
    by false is q = cc

-- A serve that did nothing, for want of memory.
pub serves-none : (honest : Type 0) (order : Order) (looks : ℕ) (old : Seen) (tasks : Tasks) → ServesOrder honest order looks old old tasks tasks served.Memory
serves-none honest order looks old tasks = record {
  serve = record {
    past = [];
    shows = nothing.shows;
    lawful = tt;
    ends = tt;
    delivers = delivers-of honest order looks old old [] nothing;
    goes_on = nothing.goes_on;
  };
  launched = inl refl;
  kept = λ is. record { launched = inl refl; folders = (tasks.dirs, inl refl, inl refl) };
}
  where
    nothing : Stands honest order looks old old []
    nothing = record {
      shows = record { calls = stays old.calls; told = stays old.told; reports = stays old.reports; said = refl };
      lawful = tt;
      holds = λ is. fresh order (old.output order.task) (old.exited order.task) [] (λ s. refl) refl;
      goes_on = λ is. goes-nowhere order.task old.exited old.output;
    }
