use Rattle.std.proofs.Common.{Some, ◌∙◌, length, refl, sym, ap, arith}
use Rattle.std.specs.Vec.Iter.{into_iter_items}
use Rattle.serde_json.specs.View.{items_view}
use Rattle.wf_json.specs.Forms.{items_form}
use Rattle.wf_json.proofs.Items.{read_none, read_next, not_next, read_all}
use Rattle.wf_json.proofs.form.items_by_value.Goals as goal

pub loop-value-init : goal.loop-value-init
loop-value-init g c =
    let gives = c.into_iter-value-iterator.ensures.into_iter_gives in
    let all = into_iter_items c.into_iter-value-iterator.result in
    (read_none g.T.FromJson.form all all c.new-found.result.items refl c.new-found.ensures.items, gives.1 ∙ (c.args.list.ok.0 ∙ ap length (sym gives.0)))

pub returns-in_default : goal.returns-in_default
returns-in_default g c =
    let form = g.T.FromJson.form in
    not_next form (items_form form (items_view (into_iter_items c.into_iter-value-iterator.result))) c.loop-value.found.items (into_iter_items c.loop-value.value-iterator) (into_iter_items c.next.new.self) c.in-Some.value c.in_ok-one.field-0
    c.loop-value.invariant.0 c.in-Some.ensures.steps.0 c.in_ok-one.ensures c.in_default.is
    ∙ ap (λ l. items_form form (items_view l)) c.into_iter-value-iterator.ensures.into_iter_gives.0

pub loop-value-preserved : goal.loop-value-preserved
loop-value-preserved g c =
    let form = g.T.FromJson.form in
    let count = ap length c.in-Some.ensures.steps.0 in (
      read_next form (items_form form (items_view (into_iter_items c.into_iter-value-iterator.result))) c.loop-value.found.items c.push.new.self.items c.in-Some-2.one (into_iter_items c.loop-value.value-iterator) (into_iter_items c.next.new.self) c.in-Some.value c.in_ok-one.field-0
          c.loop-value.invariant.0 c.in-Some.ensures.steps.0 c.in_ok-one.ensures c.in-Some-2.is c.in_ok-push.ensures.items,
      omega (arith, c.loop-value.invariant.1, c.in-Some.ensures.steps.1),
    )

pub returns : goal.returns
returns g c =
    let form = g.T.FromJson.form in
    ap Some c.from_vec.ensures
    ∙ (read_all form (items_form form (items_view (into_iter_items c.into_iter-value-iterator.result))) c.loop-value.found.items (into_iter_items c.loop-value.value-iterator) c.loop-value.invariant.0 (sym c.loop-value.invariant.1 ∙ c.in-None.ensures.steps.0)
    ∙ ap (λ l. items_form form (items_view l)) c.into_iter-value-iterator.ensures.into_iter_gives.0)
