use Rattle.std.proofs.Common.{◌≡◌, ◌≤◌, ◌*◌, List, ℕ, length, replicate, sym, ap, ◌∙◌, subst}
use Rattle.std.proofs.lemmas.List.{with_items_is, length-replicate}
use Rattle.wf_spec.specs.Rows.{AreAdded}
use Rattle.words_model.specs.Lifting.{lift_pairs}
use Rattle.wf_lift.specs.RowPairs.{set_pairs}
use Rattle.wf_lift.proofs.pairs.lift_rows.Goals as goal

pub add_rows-requires-clause-room : goal.add_rows-requires-clause-room
add_rows-requires-clause-room c =
    let begun : c.deref_mut.result.now ≡ replicate {A = ℕ} (length c.args.rows.now * c.args.states) 0 = c.deref_mut.ensures.value ∙ c.in_ok-lifted.ensures in
    ap length begun ∙ length-replicate (length c.args.rows.now * c.args.states) 0

pub add_rows-requires-clause-few : goal.add_rows-requires-clause-few
add_rows-requires-clause-few c =
    let begun : c.deref_mut.result.now ≡ replicate {A = ℕ} (length c.args.rows.now * c.args.states) 0 = c.deref_mut.ensures.value ∙ c.in_ok-lifted.ensures in
    subst (λ n. n ≤ 64) (sym (ap length begun ∙ length-replicate (length c.args.rows.now * c.args.states) 0)) c.requires.inputs

pub returns-clause-as_many : goal.returns-clause-as_many
returns-clause-as_many c =
    let new = c.add_rows.new.rows in
    let begun : c.deref_mut.result.now ≡ replicate {A = ℕ} (length c.args.rows.now * c.args.states) 0 = c.deref_mut.ensures.value ∙ c.in_ok-lifted.ensures in
    let kept : length new ≡ length c.deref_mut.result.now = c.add_rows.ensures.as_many in
    ap length (with_items_is c.in_ok-lifted.lifted new (kept ∙ c.deref_mut.ensures.len)) ∙ (kept ∙ (ap length begun ∙ length-replicate (length c.args.rows.now * c.args.states) 0))

pub returns-clause-added : goal.returns-clause-added
returns-clause-added c =
    let n = length c.args.rows.now * c.args.states in
    let new = c.add_rows.new.rows in
    let pairs = lift_pairs c.args.automaton.now c.args.m.0 (set_pairs c.args.rows.now c.args.outputs) in
    let begun : c.deref_mut.result.now ≡ replicate {A = ℕ} n 0 = c.deref_mut.ensures.value ∙ c.in_ok-lifted.ensures in
    let kept : length new ≡ length c.deref_mut.result.now = c.add_rows.ensures.as_many in
    subst (λ (l : List ℕ). AreAdded pairs (replicate n 0) l) (sym (with_items_is c.in_ok-lifted.lifted new (kept ∙ c.deref_mut.ensures.len)))
    (subst (λ (l : List ℕ). AreAdded pairs l new) begun c.add_rows.ensures.added)
