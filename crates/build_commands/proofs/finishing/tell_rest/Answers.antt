use Rattle.std.proofs.Common.{◌≡◌, ◌∙◌, ℕ, List, inl, inr, ap, sym, subst, length}
use Rattle.model_run.specs.declared.flow.FlowNode.{FlowNode}
use Rattle.model_run.specs.declared.result.BuildResult.{BuildResult}
use Rattle.build_life.specs.Lower.build_core.Builds.{StandsFor}
use Rattle.build_life.specs.Lower.build_images.Images.{image_in}
use Rattle.generated_build.specs.Summary.{summary_text}
use Rattle.build_commands.specs.declared.end_text.EndText.{EndText}
use Rattle.build_commands.specs.declared.end_text.EndText.TheVariants.{Log, Numbers}
use Rattle.build_commands.specs.Finishing.{TellsRest}
use Rattle.build_commands.proofs.finishing.tell_rest.Goals as goal

pub returns-in-Log : goal.returns-in-Log
returns-in-Log g c =
    let K = g.K.Sink in
    let stance = g.R.ScriptThread.stance in
    subst (λ (k : EndText). TellsRest k c.args.records (StandsFor stance c.args.build.now) (image_in stance c.args.build.now) (K.written c.args.out.now) (K.written c.tell_text.new.out) (K.faults c.args.out.now) (K.faults c.tell_text.new.out) c.tell_text.result) (sym c.in-Log.is)
    (inl (record {
      text = c.log.result.now;
      ended = c.build_status-status.result;
      known = c.build_status-status.ensures.log;
      wrote = c.tell_text.ensures;
      shown = λ log. c.log.ensures.here;
      by_image = c.build_status-status.ensures.here;
      is = λ w s. (c.log.ensures.world w s, c.build_status-status.ensures.world w s);
    }))

-- the lines hang on the nodes, the number of bytes of the log, and the result
summary_same : (stages records many more : ℕ) (nodes others : List FlowNode) (result shown : BuildResult) → nodes ≡ others → many ≡ more → result ≡ shown → summary_text stages nodes records many result ≡ summary_text stages others records more shown
summary_same stages records many more nodes others result shown n m r =
    ap (λ (ns : List FlowNode). summary_text stages ns records many result) n
    ∙ ap (λ (k : ℕ). summary_text stages others records k result) m
    ∙ ap (λ (q : BuildResult). summary_text stages others records more q) r

-- numbers are no log
other : (stages : ℕ) → Numbers stages ≡ Log → ⊥
other stages is = cc

pub returns-in-Ok : goal.returns-in-Ok
returns-in-Ok g c =
    let K = g.K.Sink in
    let stance = g.R.ScriptThread.stance in
    let stages = c.in-Numbers.stages in
    subst (λ (k : EndText). TellsRest k c.args.records (StandsFor stance c.args.build.now) (image_in stance c.args.build.now) (K.written c.args.out.now) (K.written c.tell_text-in-Ok.new.out) (K.faults c.args.out.now) (K.faults c.tell_text-in-Ok.new.out) c.tell_text-in-Ok.result) (sym c.in-Numbers.is)
    (inl (record {
      text = c.as_bytes.result.now;
      ended = c.build_status-status.result;
      known = c.build_status-status.ensures.log;
      wrote = c.tell_text-in-Ok.ensures;
      shown = λ log. absurd (other stages log);
      by_image = c.build_status-status.ensures.here;
      is = λ w s. (
        c.as_bytes.ensures.value ∙ c.in-Ok.ensures
            ∙ summary_same stages c.args.records (length c.log-log.result.now) (length w.shared.log) c.nodes.result.now w.shared.nodes c.result.result w.shared.result (c.nodes.ensures.world w s)
            (ap (λ (bytes : List ℕ). length bytes) (c.log-log.ensures.world w s)) (c.result.ensures.world w s),
        c.build_status-status.ensures.world w s,
      );
    }))

pub returns-in-Err : goal.returns-in-Err
returns-in-Err g c = inr (c.tell.ensures.status, c.tell.ensures.text)
