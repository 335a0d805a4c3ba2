use Rattle.std.proofs.Common.{◌≡◌, ◌<◌, ◌≤◌, ◌∙◌, ap, sym, subst, refl, length, arith}
use Rattle.std.proofs.lemmas.List.{get_or_default}
use Rattle.wf_model.specs.Grammar.{Production}
use Rattle.wf_spec.specs.Tables.{headed, head_at}
use Rattle.wf_spec.proofs.ByHead.{head_within, pushed, placed_more, list_length, headed_few}
use Rattle.wf_spec.proofs.Tables.{list_within}
use Rattle.wf_spec.proofs.lists.heads.by_head.Goals as goal

pub index_mut-list-requires : goal.index_mut-list-requires
index_mut-list-requires c =
    subst (λ n. c.head-head.result.0 < n) (sym c.loop-k.lists.ok.0)
    (list_within c.args.modules c.args.rules.now c.loop-k.k c.head-head.result.0 c.loop-k.lists.items c.loop-k.invariant.lists
    (subst (λ h. h < c.args.modules) (sym c.head-head.ensures)
    (head_within c.args.modules c.args.rules.now c.loop-k.k c.index-rules-k.result c.requires.heads c.index-rules-k.is c.loop-k-test.true)))

pub overflow_cast-place : goal.overflow_cast-place
overflow_cast-place c =
    let below : c.head-head.result.0 < c.args.modules = subst (λ h. h < c.args.modules) (sym c.head-head.ensures)
    (head_within c.args.modules c.args.rules.now c.loop-k.k c.index-rules-k.result c.requires.heads c.index-rules-k.is c.loop-k-test.true) in
    let len : c.len-place.result ≡ length (headed c.args.rules.now c.loop-k.k c.head-head.result.0) = c.len-place.ensures ∙ c.index_mut-list.result.now.ok.0
    ∙ list_length c.args.modules c.args.rules.now c.loop-k.k c.head-head.result.0 c.loop-k.lists.items c.index_mut-list.result.now c.loop-k.invariant.lists below c.index_mut-list.ensures.value in
    let few : length (headed c.args.rules.now c.loop-k.k c.head-head.result.0) ≤ c.loop-k.k = headed_few c.args.rules.now c.loop-k.k c.head-head.result.0 (omega arith) in
    omega (arith, c.requires.few)

pub loop-k-preserved : goal.loop-k-preserved
loop-k-preserved c =
    let below : c.head-head.result.0 < c.args.modules = subst (λ h. h < c.args.modules) (sym c.head-head.ensures)
    (head_within c.args.modules c.args.rules.now c.loop-k.k c.index-rules-k.result c.requires.heads c.index-rules-k.is c.loop-k-test.true) in
    let head : head_at c.args.rules.now c.loop-k.k ≡ c.head-head.result.0 =
    ap (λ (r : Production). r.head) (get_or_default c.args.rules.now c.loop-k.k _ c.index-rules-k.result c.loop-k-test.true ∙ sym c.index-rules-k.is) ∙ sym c.head-head.ensures in
    let len : c.len-place.result ≡ length (headed c.args.rules.now c.loop-k.k c.head-head.result.0) = c.len-place.ensures ∙ c.index_mut-list.result.now.ok.0
    ∙ list_length c.args.modules c.args.rules.now c.loop-k.k c.head-head.result.0 c.loop-k.lists.items c.index_mut-list.result.now c.loop-k.invariant.lists below c.index_mut-list.ensures.value in
    record {
      lists = pushed c.args.modules c.args.rules.now c.loop-k.k c.head-head.result.0 c.loop-k.lists.items c.index_mut-list.result.now c.push-in-loop-k.new.self (record { 0 = c.loop-k.k })
          c.loop-k.invariant.lists head (list_within c.args.modules c.args.rules.now c.loop-k.k c.head-head.result.0 c.loop-k.lists.items c.loop-k.invariant.lists below)
          c.index_mut-list.ensures.value c.in_ok-push-2.ensures.items refl;
      places = placed_more c.args.rules.now c.loop-k.k c.len-place.result c.loop-k.places.items c.push.new.self.items c.loop-k.invariant.places
          (len ∙ ap (λ h. length (headed c.args.rules.now c.loop-k.k h)) (sym head)) c.in_ok-push.ensures.items;
    }
