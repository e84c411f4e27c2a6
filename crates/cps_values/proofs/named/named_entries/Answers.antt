use Rattle.std.proofs.Common.{◌∙◌, [], ap, sym, length, arith}
use Rattle.std.specs.Prelude.{slice_get, zip}
use Rattle.std.specs.Option.{option_copied}
use Rattle.model_values.specs.declared.key.Key.TheVariants.{Text as TextKey}
use Rattle.indexmap.specs.IndexMap.{insert_all, insert_entry}
use Rattle.model_values.specs.Keys.{same_key}
use Rattle.model_run.specs.Gathering.{is_named}
use Rattle.model_run.specs.Nesting.{shape_at}
use Rattle.cps_code.specs.Script.{script_of}
use Rattle.cps_values.proofs.NamedLaws.{count_more, map_more, map_same, named_map, names_same, not_named}
use Rattle.cps_values.proofs.ListLaws.{got, no_element}
use Rattle.cps_values.proofs.named.named_entries.Goals as goal
use Rattle.cps_values.proofs.named.named_entries.Goals.{in-NamedEntry, in-Some+in_ok-clone+in_ok-put, in_default-get, in_default}

pub loop-at-preserved : goal.loop-at-preserved
loop-at-preserved c =
    let fs = (shape_at (script_of c.args.code.now) c.args.node).parts in
    let vs = c.args.values.now in
    let at = c.loop-at.at in
    elim c.match-part_form.branch [
      | in-NamedEntry w ↦
          let is = sym c.part_form.ensures ∙ w.in-NamedEntry.is in
          let m = count_more fs at (omega (arith, c.arity-at-end.ensures)) (ap is_named is) in
          record {
            count = omega (arith, w.count-is, m, c.loop-at.invariant.count);
            entries = w.entries-is ∙ (elim w.match-get.branch [
              | in-Some+in_ok-clone+in_ok-put w' ↦ w'.entries-is ∙ w'.in_ok-put.ensures.put ∙ ap (λ es. insert_entry same_key es (TextKey w'.in_ok-clone.field-0) w'.in-Some.value.now) c.loop-at.invariant.entries
                  ∙ ap (λ t. insert_entry same_key (named_map fs at vs) (TextKey t) w'.in-Some.value.now) w'.in_ok-clone.ensures.cases
                  ∙ sym (map_more fs at w.in-NamedEntry.name vs w'.in-Some.value.now (omega (arith, c.arity-at-end.ensures)) is (ap (slice_get vs) (sym c.loop-at.invariant.count) ∙ sym (got vs c.loop-at.count w.get.result w.get.ensures.lookup.3) ∙ ap option_copied w'.in-Some.is))
              | in_default-get w' ↦ w'.entries-is ∙ c.loop-at.invariant.entries ∙ sym (map_same fs at w.in-NamedEntry.name vs (omega (arith, c.arity-at-end.ensures)) is (ap (slice_get vs) (sym c.loop-at.invariant.count) ∙ sym (got vs c.loop-at.count w.get.result w.get.ensures.lookup.3) ∙ no_element w.get.result w'.in_default-get.not-Some))
            ]);
            low = omega (arith, w.count-is, c.loop-at.invariant.low);
          }
      | in_default w ↦
          let m = names_same fs at (omega (arith, c.arity-at-end.ensures)) (ap is_named (sym c.part_form.ensures) ∙ not_named c.part_form.result.now w.in_default.not-NamedEntry) in
          record {
            count = w.count-is ∙ c.loop-at.invariant.count ∙ ap length (sym m);
            entries = w.entries-is ∙ c.loop-at.invariant.entries ∙ ap (λ ks. insert_all same_key [] (zip ks vs)) (sym m);
            low = omega (arith, w.count-is, c.loop-at.invariant.low);
          }
    ]
