use Rattle.std.proofs.Common.{◌≡◌, ◌∙◌, ℕ, List, length, map, replicate, ap, sym, subst}
use Rattle.std.proofs.lemmas.List.{with_items_is, length-replicate}
use Rattle.wf_spec.specs.Pairs.{pair_in}
use Rattle.wf_spec.specs.Rows.{AreAdded}
use Rattle.wf_view.specs.Tables.{names_pair, AreRowsBy}
use Rattle.wf_view.proofs.Pairing.{pairs_made}
use Rattle.wf_view.proofs.assemble.rows.named_rows.Goals as goal

pub returns : goal.returns
returns c =
    let one = c.args.one.now in
    let pairs = c.args.pairs.now in
    let new = c.add_pairs.new.rows in
    let begun : c.deref_mut.result.now ≡ replicate {A = ℕ} (length c.inputs.result.now) 0 = c.deref_mut.ensures.value ∙ c.in_ok-rows.ensures in
    let kept : length new ≡ length c.deref_mut.result.now = c.add_pairs.ensures.as_many in
    subst (λ (l : List ℕ). AreRowsBy (length one.inputs) (length one.outputs) (names_pair one pairs) l) (sym (with_items_is c.in_ok-rows.rows new (kept ∙ c.deref_mut.ensures.len)))
    (pairs_made one c.requires.formed pairs c.requires.known (length c.inputs.result.now) new (kept ∙ (ap length begun ∙ (length-replicate (length c.inputs.result.now) 0 ∙ ap length c.inputs.ensures)))
    (subst (λ l. AreAdded (map (pair_in one) pairs) l new) begun c.add_pairs.ensures.added))
