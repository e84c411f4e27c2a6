-- What of a build behind its lock may go to another thread.
use mathlib.Core.Path.{◌≡◌}
use denote.RattleType.{RattleType}
use denote.Ref.{NamedLft, ShrRef}
use denote.Struct.Field.{row_field, shr_ref_field}
use denote.Hole.{as_row}
use denote.Model.Cut.{rejoined, split_one}
use denote.Model.Goals.{All, both_laws, All-both_laws, has_of, part_has, send, sync, tied_goals}
use denote.Model.Local.{Parts, rows}
use denote.Param.Send.{IsSend, IsSync, sendable, recorded_send, recorded_sync, shr_send, view_send, view_sync}
use denote.Param.SendFields.{as_row_send, as_row_sync, declared_send, declared_sync, variants_send}
use Rattle.std.proofs.Crossing.{crosses}
use Rattle.std.proofs.MapsCrossing.{crosses as maps}
use Rattle.chain.specs.contracts.chain.Chain as Chain
use Rattle.chain.specs.contracts.chain.Chain.TheKnot as knot
use Rattle.chain.specs.declared.chain.Chain.TheDeep.{the_members, member-Chain}
use Rattle.chain.specs.declared.chain.Chain.TheDeep as deep
use Rattle.chain.specs.declared.chain.Chain.TheInside.{Inside}
use Rattle.chain.specs.declared.chain.Node.{Node}
use Rattle.model_text.specs.contracts.sequence.Sequence as Sequence
use Rattle.model_text.specs.contracts.text.Text as Text
use Rattle.model_values.specs.contracts.cell.Binding as Binding
use Rattle.model_values.specs.contracts.cell.Cell as Cell
use Rattle.model_values.specs.contracts.value.Value as Value
use Rattle.model_run.specs.contracts.event.Event as Event
use Rattle.model_run.specs.contracts.flow.FlowNode as FlowNode
use Rattle.model_run.specs.contracts.request.OpenRequest as OpenRequest
use Rattle.model_run.specs.contracts.site.Site as Site
use Rattle.model_run.specs.contracts.context.Context as Context
use Rattle.model_run.specs.contracts.held.Held as Held
use Rattle.model_run.specs.contracts.wait.Wait as Wait
use Rattle.image_form.specs.contracts.image.Image as Image
use Rattle.image_form.specs.contracts.image.ImageFrame as ImageFrame
use Rattle.image_form.specs.contracts.image.ImageThread as ImageThread
use Rattle.cell_heap.specs.contracts.heap.Heap as Heap
use Rattle.model_syntax.specs.contracts.node.NodeForm as NodeForm
use Rattle.cps_code.specs.contracts.row.Row as Row
use Rattle.cps_code.specs.contracts.code.Code as Code
use Rattle.cps_code.specs.contracts.code.Code.TheInside as CodeInside
use Rattle.flow_graph.specs.contracts.graph.Graph as Graph
use Rattle.build_log.specs.contracts.log.Log as Log
use Rattle.member_turns.specs.Lower.cps_frames.contracts.shared.Shared as Shared
use Rattle.member_turns.specs.Lower.cps_frames.declared.shared.Shared as SharedValue
use Rattle.green_threads.specs.contracts.runner.Seated as Seated
use Rattle.green_threads.specs.contracts.group.Group as Group
use Rattle.green_threads.specs.declared.runner.Runner as Runner
use Rattle.member_turns.specs.Lower.script_thread.declared.thread.ScriptThread as ScriptThread
use Rattle.member_turns.specs.Lower.build_core.contracts.build.Build as Build
use Rattle.member_turns.specs.Lower.build_core.contracts.build.Build.TheInside as BuildInside
use Rattle.jp_disk.specs.declared.disk.Disk as Disk
use Rattle.journal_core.specs.contracts.journal.Journal as Journal
use Rattle.member_turns.specs.Lower.durable_build.contracts.durable.DurableBuild as DurableBuild
use Rattle.member_turns.specs.Lower.durable_build.contracts.durable.DurableBuild.TheInside as DurableInside
use Rattle.member_turns.specs.Lower.durable_build.contracts.store.Last as Last
use Rattle.member_turns.specs.Lower.locked_build.contracts.ask.Ask as Ask
use Rattle.member_turns.specs.Lower.locked_build.contracts.ask.Entry as Entry
use Rattle.member_turns.specs.Lower.locked_build.contracts.ask.Reply as Reply
use Rattle.member_turns.specs.Lower.locked_build.contracts.site.SiteStateStepped.TheImpl as TheImpl
use Rattle.member_turns.specs.Lower.saved_thread.declared.thread.SavedThread as SavedThread
use Rattle.agent_worker.specs.contracts.member.Member as Member
use Rattle.atomic_table.proofs.shared.Shared.TheSendSync as shared_laws
use Rattle.atomic_table.proofs.shared.Seat.TheSendSync as seat_laws
use Rattle.atomic_table.proofs.send_lease.SendLease.TheSendSync as lease_laws
use Rattle.program_lock.specs.declared.stepped.Stepped as Stepped
use Rattle.program_lock.specs.contracts.program.PassOf as PassOf
use Rattle.program_lock.specs.contracts.program.Program as Program
use Rattle.std.specs.contracts.option.Option as Option
use Rattle.std.specs.contracts.snapshot.Snapshot as Snapshot
use Rattle.member_turns.specs.contracts.seat.Seat as Seat
use Rattle.member_turns.specs.Lower.locked_build.contracts.indexed.IndexedHistory as IndexedHistory
use Rattle.member_turns.specs.Lower.locked_build.contracts.indexed.IndexedHistory.TheInside as HistoryInside
use Rattle.member_turns.specs.Lower.locked_build.contracts.site.SiteState as SiteState

pub text_send : IsSend Text.the_row
text_send = search (sendable, crosses) depth 40

pub binding_send : IsSend Binding.the_row
binding_send = search (sendable, crosses) depth 40

pub binding_sync : IsSync Binding.the_row
binding_sync = search (sendable, crosses) depth 40

-- a row at other values
rejoined_send : (R : RattleType) (D : Type 0) (split : D → R.Denot) (join : R.Denot → D) (e : (d : D) → join (split d) ≡ d) → IsSend R → IsSend (rejoined R D split join e)
rejoined_send R D split join e s = recorded_send R D split (split_one R D split join e) s

rejoined_sync : (R : RattleType) (D : Type 0) (split : D → R.Denot) (join : R.Denot → D) (e : (d : D) → join (split d) ≡ d) → IsSync R → IsSync (rejoined R D split join e)
rejoined_sync R D split join e y = recorded_sync R D split (split_one R D split join e) y

-- a chain, link by link
module _ (T : RattleType) (s : IsSend T) (y : IsSync T) where
  node_send : (p : Parts (knot.frame T)) → IsSend (rows (knot.frame T) p member-Chain) → IsSend (knot.at-Node T p)
  node_send p c = rejoined_send (knot.layer-Node T (rows (knot.frame T) p member-Chain)) (Node T.Denot) (deep.split-Node T.Denot) (deep.join-Node T.Denot) (deep.joins-Node T.Denot) (declared_send (knot.type-Node T (rows (knot.frame T) p member-Chain)) (as_row_send (row_field (as_row (row_field T))) (as_row_send (row_field T) s), (as_row_send (row_field (rows (knot.frame T) p member-Chain)) c, tt)))

  node_sync : (p : Parts (knot.frame T)) → IsSync (rows (knot.frame T) p member-Chain) → IsSync (knot.at-Node T p)
  node_sync p c = rejoined_sync (knot.layer-Node T (rows (knot.frame T) p member-Chain)) (Node T.Denot) (deep.split-Node T.Denot) (deep.join-Node T.Denot) (deep.joins-Node T.Denot) (declared_sync (knot.type-Node T (rows (knot.frame T) p member-Chain)) (as_row_sync (row_field (as_row (row_field T))) (as_row_sync (row_field T) y), (as_row_sync (row_field (rows (knot.frame T) p member-Chain)) c, tt)))

  layer_send : (h : RattleType) → IsSend h → IsSync h → IsSend (knot.layer-Chain T h)
  layer_send h hs hy = declared_send (knot.type-Chain T h) (search (sendable, crosses) depth 20, (search (sendable, crosses) depth 20, (search (sendable, crosses) depth 30, tt)))

  layer_sync : (h : RattleType) → IsSend h → IsSync h → IsSync (knot.layer-Chain T h)
  layer_sync h hs hy = declared_sync (knot.type-Chain T h) (search (sendable, crosses) depth 20, (search (sendable, crosses) depth 20, (search (sendable, crosses) depth 30, tt)))

  module _ (p : Parts (knot.frame T)) (cs : IsSend (rows (knot.frame T) p member-Chain)) (cy : IsSync (rows (knot.frame T) p member-Chain)) where
    view_of_send : IsSend (knot.view-Chain T p)
    view_of_send = view_send _ _ _ _ _ (rejoined_send (knot.layer-Chain T (knot.at-Node T p)) (Inside T.Denot) (deep.split-Chain T.Denot) (deep.join-Chain T.Denot) (deep.joins-Chain T.Denot) (layer_send (knot.at-Node T p) (node_send p cs) (node_sync p cy)))

    view_of_sync : IsSync (knot.view-Chain T p)
    view_of_sync = view_sync _ _ _ _ _ (rejoined_sync (knot.layer-Chain T (knot.at-Node T p)) (Inside T.Denot) (deep.split-Chain T.Denot) (deep.join-Chain T.Denot) (deep.joins-Chain T.Denot) (layer_sync (knot.at-Node T p) (node_send p cs) (node_sync p cy)))

    sends : (i : the_members) → IsSend (rows (knot.frame T) (knot.step T p) i)
    sends member-Chain = has_of (knot.frame T) send (knot.step T p) member-Chain (part_has send (knot.view-Chain T p) view_of_send)

    syncs : (i : the_members) → IsSync (rows (knot.frame T) (knot.step T p) i)
    syncs member-Chain = has_of (knot.frame T) sync (knot.step T p) member-Chain (part_has sync (knot.view-Chain T p) view_of_sync)

  steps : (p : Parts (knot.frame T)) → All (both_laws the_members) (rows (knot.frame T) p) → All (both_laws the_members) (rows (knot.frame T) (knot.step T p))
  steps p all = All-both_laws (rows (knot.frame T) (knot.step T p)) (sends p (all (member-Chain, send)) (all (member-Chain, sync))) (syncs p (all (member-Chain, send)) (all (member-Chain, sync)))

  pub chain_send : IsSend (Chain.the_row T)
  chain_send = tied_goals (knot.frame T) (knot.step T) (knot.sizes T) (both_laws the_members) steps (member-Chain, send)

  pub chain_sync : IsSync (Chain.the_row T)
  chain_sync = tied_goals (knot.frame T) (knot.step T) (knot.sizes T) (both_laws the_members) steps (member-Chain, sync)

pub cell_send : IsSend (Chain.the_row Binding.the_row) → IsSend Cell.the_row
cell_send c = search (sendable, crosses, maps) depth 40 fits 100000

pub heap_send : IsSend Cell.the_row → IsSend Heap.the_row
heap_send c = search (sendable, crosses) depth 40 fits 100000

texts_send : IsSend (Sequence.the_row Text.the_row)
texts_send = search (text_send, sendable, crosses) depth 40

some_texts_send : IsSend (Sequence.the_row Text.the_row) → IsSend (Option.the_row (Sequence.the_row Text.the_row))
some_texts_send t = search (sendable, crosses) depth 20

pub form_send : IsSend NodeForm.the_row
form_send = let texts = texts_send in let some_texts = some_texts_send texts_send in variants_send NodeForm.enum (tt, ((text_send, (texts, tt)), (tt, (tt, (tt, (tt, ((text_send, tt), (tt, (tt, ((search (sendable, crosses) depth 20, (text_send, tt)), (tt, ((text_send, tt), ((search (sendable, crosses) depth 20, tt), (tt, (tt, ((text_send, tt), ((text_send, tt), (tt, (tt, (tt, (tt, (tt, (tt, ((search (sendable, crosses) depth 20, tt), ((text_send, tt), (tt, ((text_send, tt), (tt, (tt, (tt, ((text_send, tt), ((text_send, tt), (tt, (tt, (tt, ((text_send, tt), ((search (sendable, crosses) depth 20, tt), (tt, ((some_texts, tt), ((search (sendable, crosses) depth 20, tt), (tt, ((search (sendable, crosses) depth 20, (text_send, tt)), ((search (sendable, crosses) depth 20, (text_send, tt)), (tt, (tt, ((search (sendable, crosses) depth 20, tt), (tt, ((search (sendable, crosses) depth 20, tt), (tt, (tt, (tt, (tt, (tt, tt)))))))))))))))))))))))))))))))))))))))))))))))))))))

pub row_send : IsSend NodeForm.the_row → IsSend Row.the_row
row_send f = declared_send Row.the_type (f, (search (sendable, crosses) depth 40, tt))

pub code_send : IsSend Row.the_row → IsSend Code.the_row
code_send r = view_send _ _ _ _ _ (declared_send CodeInside.the_type (search (sendable, crosses) depth 40, (search (text_send, sendable, crosses, maps) depth 40 fits 100000, tt)))

pub site_send : IsSend Site.the_row
site_send = search (sendable, crosses) depth 40 fits 100000

pub request_send : IsSend OpenRequest.the_row
request_send = search (sendable, crosses) depth 40 fits 100000

pub flow_send : IsSend FlowNode.the_row
flow_send = search (sendable, crosses) depth 40 fits 100000

pub graph_send : IsSend FlowNode.the_row → IsSend Graph.the_row
graph_send f = search (sendable, crosses) depth 40 fits 100000

pub log_send : IsSend Log.the_row
log_send = search (sendable, crosses) depth 40

-- what the threads of a build share: field by field
pub shared_send : IsSend Code.the_row → IsSend Site.the_row → IsSend Heap.the_row → IsSend Binding.the_row → IsSend Graph.the_row → IsSend Log.the_row → IsSend OpenRequest.the_row → IsSend Shared.the_row
shared_send code site heap binding graph log request = declared_send Shared.the_type (
  code,
  (
    site,
    (
      heap,
      (
        search (sendable, crosses) depth 30,
        (
          graph,
          (
            log,
            (
              search (sendable, crosses) depth 30,
              (
                search (sendable, crosses) depth 30,
                (search (sendable, crosses) depth 30, (search (sendable, crosses) depth 20, (search (sendable, crosses) depth 20, tt))),
              ),
            ),
          ),
        ),
      ),
    ),
  ),
)

-- the image that a build over a disk keeps: field by field
values_send : IsSend (Sequence.the_row Value.the_row)
values_send = search (sendable, crosses) depth 40 fits 100000

context_send : IsSend Context.the_row
context_send = search (sendable, crosses) depth 40 fits 100000

wait_send : IsSend Wait.the_row
wait_send = search (sendable, crosses) depth 40 fits 100000

held_send : IsSend Held.the_row
held_send = search (sendable, crosses) depth 40 fits 100000

image_frame_send : IsSend (Chain.the_row Binding.the_row) → IsSend ImageFrame.the_row
image_frame_send env = declared_send ImageFrame.the_type (search (sendable, crosses) depth 20, (search (sendable, crosses) depth 20, (search (sendable, crosses) depth 20, (env, (values_send, tt)))))

image_thread_send : IsSend ImageFrame.the_row → IsSend ImageThread.the_row
image_thread_send frame = declared_send ImageThread.the_type (search (sendable, crosses) depth 20, (search (sendable, crosses) depth 20, (search (sendable, crosses) depth 20, (wait_send, (context_send, (search (sendable, crosses) depth 30, tt))))))

image_send : IsSend Binding.the_row → IsSend Cell.the_row → IsSend FlowNode.the_row → IsSend OpenRequest.the_row → IsSend Held.the_row → IsSend ImageThread.the_row → IsSend Image.the_row
image_send binding cell flow request held thread = declared_send Image.the_type (
  search (sendable, crosses) depth 20,
  (
    search (sendable, crosses) depth 20,
    (
      search (sendable, crosses) depth 20,
      (
        search (sendable, crosses) depth 20,
        (
          search (sendable, crosses) depth 30,
          (
            search (sendable, crosses) depth 30,
            (
              search (sendable, crosses) depth 30,
              (search (sendable, crosses) depth 30, (search (sendable, crosses) depth 30, (search (sendable, crosses) depth 30, (search (sendable, crosses) depth 30, tt)))),
            ),
          ),
        ),
      ),
    ),
  ),
)

last_send : IsSend Image.the_row → IsSend Last.the_row
last_send image = declared_send Last.the_type (search (sendable, crosses) depth 20, (search (sendable, crosses) depth 20, tt))

pub event_send : IsSend Event.the_row
event_send = search (sendable, crosses) depth 40

pub entry_send : IsSend Event.the_row → IsSend Entry.the_row
entry_send e = search (sendable, crosses) depth 40

pub history_send : IsSend Entry.the_row → IsSend IndexedHistory.the_row
history_send e = view_send _ _ _ _ _ (declared_send HistoryInside.the_type (search (sendable, crosses) depth 30, (search (sendable, crosses) depth 20, (search (sendable, crosses) depth 20, tt))))

module _ (R : RattleType) (gs : ScriptThread.Ghosts R.Denot) (gr : Runner.Ghosts R.Denot SharedValue.Shared) (r : IsSend R) where
  pub seated_send : IsSend (Seated.the_row R)
  seated_send = search (sendable, crosses) depth 40 fits 100000

  pub group_send : IsSend (Seated.the_row R) → IsSend (Group.the_row R)
  group_send s = search (sendable, crosses) depth 40 fits 100000

  pub build_send : IsSend Shared.the_row → IsSend (Group.the_row R) → IsSend (Build.the_row R gs gr)
  build_send s g = view_send _ _ _ _ _ (declared_send (BuildInside.the_type R gs gr) (s, (g, (search (sendable, crosses) depth 20, tt))))

module _ (D R : RattleType) (gd : Disk.Ghosts D.Denot) (gs : ScriptThread.Ghosts R.Denot) (gr : Runner.Ghosts R.Denot SharedValue.Shared) where
  pub journal_send : IsSend D → IsSend (Journal.the_row D gd)
  journal_send d = search (sendable, crosses) depth 40

  pub durable_send : IsSend (Journal.the_row D gd) → IsSend (Build.the_row R gs gr) → IsSend Last.the_row → IsSend (DurableBuild.the_row D R gd gs gr)
  durable_send j b l = view_send _ _ _ _ _ (declared_send (DurableInside.the_type D R gd gs gr)
      (j, (b, (search (sendable, crosses) depth 30, (search (sendable, crosses) depth 30, (l, (search (sendable, crosses) depth 20, (search (sendable, crosses) depth 20, tt))))))))

  pub state_send : IsSend IndexedHistory.the_row → IsSend (DurableBuild.the_row D R gd gs gr) → IsSend (SiteState.the_row D R gd gs gr)
  state_send h d = declared_send (SiteState.the_type D R gd gs gr) (search (sendable, crosses) depth 20, (d, (search (sendable, crosses) depth 30, (h, tt))))

-- a program may be shared and a pass may go to another thread, where the state may
module _ (S A E R B : RattleType) where
  pub program_sync : (g : Stepped.Ghosts S.Denot A.Denot E.Denot R.Denot B.Denot) → IsSend S → IsSync (Program.the_row S A E R B g)
  program_sync g s = declared_sync (Program.the_type S A E R B g) (search (sendable, crosses, shared_laws.the_sync, lease_laws.the_sync) depth 40, (search (sendable, crosses) depth 20, tt))

  pub pass_send : IsSend S → IsSend (PassOf.the_row S E B)
  pass_send s = search (sendable, crosses, seat_laws.the_send) depth 30

module _ (H A : RattleType) where
  pub member_send : IsSend H → IsSend A → IsSend (Member.the_row H A)
  member_send h a = search (sendable, crosses) depth 40 fits 100000

-- a seat: a member with its pass, and references to the runtime and the program
module _ (a : NamedLft) (W D R H A : RattleType) (gd : Disk.Ghosts D.Denot) (gs : ScriptThread.Ghosts R.Denot) (gr : Runner.Ghosts R.Denot SharedValue.Shared) (gv : SavedThread.Ghosts R.Denot) where
  abbrev State : RattleType
  State = SiteState.the_row D R gd gs gr

  abbrev Base : RattleType
  Base = Snapshot.the_row (DurableBuild.the_row D R gd gs gr)

  abbrev TheProgram : RattleType
  TheProgram = Program.the_row State Ask.the_row Entry.the_row Reply.the_row Base (TheImpl.ghosts D R gd TheImpl.no_dict gv TheImpl.no_dict gs TheImpl.no_dict gr TheImpl.no_dict TheImpl.no_dict)

  state_of : IsSend D → IsSend R → IsSend State
  state_of d r =
      let binding : IsSend (Chain.the_row Binding.the_row) = chain_send Binding.the_row binding_send binding_sync in
      let cell : IsSend Cell.the_row = cell_send binding in
      let shared : IsSend Shared.the_row = shared_send (code_send (row_send form_send)) site_send (heap_send cell) binding_send (graph_send flow_send) log_send request_send in
      let last : IsSend Last.the_row = last_send (image_send binding_send cell flow_send request_send held_send (image_thread_send (image_frame_send binding))) in
      state_send D R gd gs gr (history_send (entry_send event_send))
      (durable_send D R gd gs gr (journal_send D R gd gs gr d) (build_send R gs gr r shared (group_send R gs gr r (seated_send R gs gr r))) last)

  pass_some : IsSend (PassOf.the_row State Entry.the_row Base) → IsSend (Option.the_row (PassOf.the_row State Entry.the_row Base))
  pass_some p = search (sendable, crosses) depth 20

  pub seat_send : IsSync W → IsSend D → IsSend R → IsSend H → IsSend A → IsSend (Seat.the_row a W D R H A gd gs gr gv)
  seat_send w d r h m = declared_send (Seat.the_type a W D R H A gd gs gr gv) (
    as_row_send (row_field (ShrRef a.mir a.lft W)) (shr_send a.mir a.lft W w),
    (
      search (sendable, crosses) depth 20,
      (
        as_row_send (shr_ref_field a TheProgram tt) (shr_send a.mir a.lft TheProgram
            (program_sync State Ask.the_row Entry.the_row Reply.the_row Base (TheImpl.ghosts D R gd TheImpl.no_dict gv TheImpl.no_dict gs TheImpl.no_dict gr TheImpl.no_dict TheImpl.no_dict) (state_of d r))),
        (search (sendable, crosses) depth 20, (member_send H A h m, (pass_some (pass_send State Ask.the_row Entry.the_row Reply.the_row Base (state_of d r)), tt))),
      ),
    ),
  )
