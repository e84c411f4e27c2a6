use Rattle.std.proofs.Common.{◌≡◌, ◌∷◌, ◌++◌, ◌⊎◌, [], ap, ℕ, List, inl, inr, ◌∙◌, refl, subst, arith}
use Rattle.task_host.specs.Host.{Records, MakesFolder, LaunchesAtMost}
use Rattle.task_host.specs.declared.call.Call.TheVariants as call
use Rattle.task_host.specs.declared.answers.Made.{Made}
use Rattle.task_host.specs.declared.answers.Made.TheVariants as made
use Rattle.task_host.specs.declared.answers.Started.{Started}
use Rattle.task_host.specs.declared.answers.Started.TheVariants as start
use Rattle.agent_worker.specs.Acts.{made_dir, started}
use Rattle.agent_worker.specs.Serving.{Starts, Exists, Fails}
use Rattle.agent_worker.proofs.TellLemmas.{becomes, records}
use Rattle.agent_worker.proofs.GoesOnLemmas.{goes-stays, goes-further}
use Rattle.agent_worker.proofs.task.opened.Goals as goal

by_start : (task : ℕ) (old mid now : List ℕ) (P : Type 0) → LaunchesAtMost task mid now → mid ≡ old → P → (now ≡ old) ⊎ ((now ≡ old ++ task ∷ []) × P)
by_start task old mid now P (inl is) same p = inl (is ∙ same)
by_start task old mid now P (inr is) same p = inr (is ∙ ap (λ (l : List ℕ). l ++ task ∷ []) same, p)

pub returns-in-Exists-clause-opens : goal.returns-in-Exists-clause-opens
returns-in-Exists-clause-opens g c = record {
  past = made_dir c.args.order.now made.Exists ∷ [];
  is = Exists;
  called = records _ _ _ (subst (λ (a : Made). Records (g.H.Host.calls c.args.host.now) (g.H.Host.calls c.make_dir.new.self) (call.MakeDir c.args.order.now a)) c.in-Exists.is c.make_dir.ensures.calls);
  folder = λ is. inl (subst (λ (a : Made). MakesFolder c.args.order.now.task (g.H.Host.dirs c.args.host.now) (g.H.Host.dirs c.make_dir.new.self) a) c.in-Exists.is (c.make_dir.ensures.folder is)).1;
  launched = inl c.make_dir.ensures.launches;
}

pub returns-in-Failed-clause-opens : goal.returns-in-Failed-clause-opens
returns-in-Failed-clause-opens g c = record {
  past = made_dir c.args.order.now made.Failed ∷ [];
  is = Fails;
  called = records _ _ _ (subst (λ (a : Made). Records (g.H.Host.calls c.args.host.now) (g.H.Host.calls c.make_dir.new.self) (call.MakeDir c.args.order.now a)) c.in-Failed.is c.make_dir.ensures.calls);
  folder = λ is. subst (λ (a : Made). MakesFolder c.args.order.now.task (g.H.Host.dirs c.args.host.now) (g.H.Host.dirs c.make_dir.new.self) a) c.in-Failed.is (c.make_dir.ensures.folder is);
  launched = inl c.make_dir.ensures.launches;
}

pub returns-in-Started-clause-opens : goal.returns-in-Started-clause-opens
returns-in-Started-clause-opens g c =
    let order = c.args.order.now in
    let made_so = subst (λ (a : Made). Records (g.H.Host.calls c.args.host.now) (g.H.Host.calls c.make_dir.new.self) (call.MakeDir order a)) c.in-Made.is c.make_dir.ensures.calls in
    let started_so = subst (λ (a : Started). Records (g.H.Host.calls c.make_dir.new.self) (g.H.Host.calls c.start.new.self) (call.Start order a)) c.in-Started.is c.start.ensures.calls in
    let folder = λ (is : g.H.Host.honest c.args.host.now). subst (λ (a : Made). MakesFolder order.task (g.H.Host.dirs c.args.host.now) (g.H.Host.dirs c.make_dir.new.self) a) c.in-Made.is (c.make_dir.ensures.folder is) in
    let stays = λ (is : g.H.Host.honest c.args.host.now). c.start.ensures.folders (c.make_dir.ensures.honest.1 is) in
    record {
      past = started order start.Started ∷ made_dir order made.Made ∷ [];
      is = Starts;
      called = becomes (λ l. l ++ call.MakeDir order made.Made ∷ []) (λ l. l ++ call.Start order start.Started ∷ []) (g.H.Host.calls c.args.host.now) (g.H.Host.calls c.make_dir.new.self) (g.H.Host.calls c.start.new.self) (records _ _ _ made_so) (records _ _ _ started_so);
      folder = λ is. inr ((folder is).0, stays is ∙ (folder is).1);
      launched = by_start _ _ _ _ _ c.start.ensures.launches c.make_dir.ensures.launches (inr (inl refl), λ is. ((folder is).0, stays is ∙ (folder is).1));
    }

pub returns-in-Exists-clause-goes_on : goal.returns-in-Exists-clause-goes_on
returns-in-Exists-clause-goes_on g c is = goes-stays c.args.order.now.task _ _ _ _ (c.make_dir.ensures.output is)

pub returns-in-Failed-clause-goes_on : goal.returns-in-Failed-clause-goes_on
returns-in-Failed-clause-goes_on g c is = goes-stays c.args.order.now.task _ _ _ _ (c.make_dir.ensures.output is)

pub returns-in-Started-clause-goes_on : goal.returns-in-Started-clause-goes_on
returns-in-Started-clause-goes_on g c is =
    goes-further c.args.order.now.task _ _ _ _ _ _ (goes-stays c.args.order.now.task _ _ _ _ (c.make_dir.ensures.output is)) (c.start.ensures.output (c.make_dir.ensures.honest.1 is))

pub returns-in-Exists-clause-faults : goal.returns-in-Exists-clause-faults
returns-in-Exists-clause-faults g c = omega (arith, c.make_dir.ensures.cause.never_falls)

pub returns-in-Failed-clause-faults : goal.returns-in-Failed-clause-faults
returns-in-Failed-clause-faults g c = omega (arith, c.make_dir.ensures.cause.never_falls)

pub returns-in-Started-clause-faults : goal.returns-in-Started-clause-faults
returns-in-Started-clause-faults g c = omega (arith, c.make_dir.ensures.cause.never_falls, c.start.ensures.cause.never_falls)
