use Rattle.std.proofs.Common.{◌≡◌, ◌∙◌, List, ap, sym, subst}
use Rattle.std.specs.List.{AllByRecursion as AllAre}
use Rattle.green_threads.specs.declared.runner.Seated.{Seated}
use Rattle.green_threads.specs.Threads.{Threads}
use Rattle.cps_code.specs.Script.{script_of}
use Rattle.saved_thread.specs.Lower.cps_frames.declared.shared.Shared.{Shared}
use Rattle.saved_thread.specs.Saving.{AtNodes}
use Rattle.build_images.specs.Fronts.{ThreadsStand}
use Rattle.build_images.proofs.SavedBuilds.{at_nodes, image_is, ordered, threads_ready, whole}
use Rattle.build_images.proofs.fronts.threads_told.Goals as goal

pub threads_of-requires : goal.threads_of-requires
threads_of-requires g c =
    let seats : c.threads.result.now ≡ c.args.build.now.group.seats = c.threads.ensures ∙ ap (λ (k : Threads _). k.seats) c.group-group.ensures in
    record {
      nodes = subst (λ (xs : List (Seated _)). AllAre (λ x. AtNodes (script_of c.shared-shared.result.now.code) (g.R.ScriptThread.stance x.thread).frames) xs) (sym seats)
          (subst (λ (u : Shared). AllAre (λ x. AtNodes (script_of u.code) (g.R.ScriptThread.stance x.thread).frames) c.args.build.now.group.seats) (sym c.shared-shared.ensures.shared)
          (at_nodes g.R.ScriptThread.stance g.R.Runner.number g.R.Runner.parent g.R.Runner.branch g.R.Runner.fits g.met.R.SavedThread.storable g.met.R.ScriptThread.shared_fits
          c.args.build.now.phase c.args.build.now.group c.args.build.now.shared c.requires.begun c.requires.goes_on c.shared-shared.ensures.sound));
      order = c.requires.order;
      stood = subst (λ (xs : List (Seated _)). ThreadsStand g.R.ScriptThread.low g.R.ScriptThread.touched g.R.ScriptThread.stance (script_of c.shared-shared.result.now.code) c.args.before.now xs) (sym seats)
          (subst (λ (u : Shared). ThreadsStand g.R.ScriptThread.low g.R.ScriptThread.touched g.R.ScriptThread.stance (script_of u.code) c.args.before.now c.args.build.now.group.seats) (sym c.shared-shared.ensures.shared) c.requires.stood);
    }

pub returns-clause-image : goal.returns-clause-image
returns-clause-image g c =
    let b = c.args.build.now in
    let on = c.requires.goes_on in
    record {
      world = λ w st. image_is g.R.ScriptThread.stance b w c.requires.begun
          (threads_ready g.R.ScriptThread.stance g.R.Runner.number g.R.Runner.parent g.R.Runner.branch g.R.Runner.fits g.met.R.SavedThread.storable g.met.R.ScriptThread.shared_fits
          b.phase b.group b.shared c.requires.begun on c.shared-shared.ensures.sound) st;
      ordered = ordered g.R.ScriptThread.stance g.R.Runner.number g.R.Runner.parent g.R.Runner.branch g.R.Runner.fits g.met.R.SavedThread.storable g.met.R.ScriptThread.shared_fits b c.requires.begun on c.shared-shared.ensures.sound;
      whole = whole g.R.ScriptThread.stance g.R.Runner.number g.R.Runner.parent g.R.Runner.branch g.R.Runner.fits g.met.R.SavedThread.storable g.met.R.ScriptThread.shared_fits g.met.R.SavedThread.fit_rested b c.requires.begun on c.shared-shared.ensures.sound;
    }
