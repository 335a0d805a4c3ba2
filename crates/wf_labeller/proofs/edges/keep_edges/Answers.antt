use Rattle.std.proofs.Common.{◌<◌, ◌≤◌, length, map, get_or, arith, refl, sym, subst, ◌∙◌}
use Rattle.std.proofs.lemmas.List.{take_all}
use Rattle.wf_model.specs.Meaning.{inner_of, edge_of}
use Rattle.wf_model.proofs.Absent.{no_edge}
use Rattle.bit_pack.specs.Written.{first_bits}
use Rattle.wf_labeller.specs.Entries.{edge_entry, numbered_edges}
use Rattle.wf_labeller.specs.Keeping.{Adds, HasMore}
use Rattle.wf_labeller.proofs.KeptSoFar.{none_kept, one_kept, all_kept, some_kept, no_more, dotted_room}
use Rattle.wf_labeller.proofs.Outputs.{output_short}
use Rattle.wf_labeller.proofs.EdgesRead.{edge_from, from_below, from_small, few_edges, edges-cons, no_edges, label_is, begins_alike, entry_is, name_in, edges_read}
use Rattle.wf_labeller.proofs.edges.keep_edges.Goals as goal

pub overflow_cast-from : goal.overflow_cast-from
overflow_cast-from g c =
    omega (arith, from_small c.args.g.now.core c.production-rule.ensures.formed c.args.production.0 c.requires.production _ _ c.production-rule.ensures.core c.edges-edges.ensures c.loop-k.k)

pub offset_bounds-names-from : goal.offset_bounds-names-from
offset_bounds-names-from g c =
    omega (arith, from_small c.args.g.now.core c.production-rule.ensures.formed c.args.production.0 c.requires.production _ _ c.production-rule.ensures.core c.edges-edges.ensures c.loop-k.k)

pub bounds-names-from : goal.bounds-names-from
bounds-names-from g c =
    omega (arith, from_below c.args.g.now.core c.production-rule.ensures.formed c.args.production.0 c.requires.production _ _ c.production-rule.ensures.core c.edges-edges.ensures c.loop-k.k)

pub output_at-port-requires-clause-from : goal.output_at-port-requires-clause-from
output_at-port-requires-clause-from g c =
    edge_from c.args.g.now.core c.production-rule.ensures.formed c.args.production.0 c.requires.production _ _ c.production-rule.ensures.core c.edges-edges.ensures c.loop-k.k _ c.loop-k-test.true

pub overflow_cast-k : goal.overflow_cast-k
overflow_cast-k g c =
    omega (arith, few_edges c.args.g.now.core c.production-rule.ensures.formed c.args.production.0 c.requires.production _ _ c.production-rule.ensures.core c.edges-edges.ensures)

pub loop-k-init : goal.loop-k-init
loop-k-init g c = record {
  kept = none_kept _ _ _;
  begun = take_all c.length-begun.result c.begin_labels.new.w (omega (arith, c.length-begun.ensures)) ∙ c.in_ok-begin_labels.ensures.ok;
  within = omega (arith, c.length-begun.ensures);
}

pub keep-requires-clause-name : goal.keep-requires-clause-name
keep-requires-clause-name g c =
    let h = c.args.g.now.core in
    let p = c.args.production.0 in
    let at = get_or c.edges-edges.result.now c.loop-k.k no_edge in
    let below = from_below h c.production-rule.ensures.formed p c.requires.production _ _ c.production-rule.ensures.core c.edges-edges.ensures c.loop-k.k no_edge c.loop-k-test.true in
    let o = edge_from h c.production-rule.ensures.formed p c.requires.production _ _ c.production-rule.ensures.core c.edges-edges.ensures c.loop-k.k no_edge c.loop-k-test.true in
    dotted_room c.bytes-instance.result.now c.output_at-port.result.now
    (subst (λ n. length n ≤ 64) (sym c.bytes-instance.ensures) (c.requires.short _ (name_in _ _ _ c.index-names-from.is (subst (λ n. at.from.pos.0 < n) (sym c.requires.one_each) below))))
    (subst (λ n. length n ≤ 64) (sym c.output_at-port.ensures) (output_short h p (inner_of at.from) o c.production-rule.ensures.formed c.requires.production))

pub keep-requires-clause-label : goal.keep-requires-clause-label
keep-requires-clause-label g c = omega (arith, c.bytes.ensures.few, c.in_ok-end_label.ensures.few, c.in_ok-begin_labels.ensures.few, c.length-begun.ensures, c.requires.few)

pub loop-k-preserved : goal.loop-k-preserved
loop-k-preserved g c =
    let h = c.args.g.now.core in
    let p = c.args.production.0 in
    let bits = first_bits c.args.prefix.bytes.now c.args.prefix.length in
    let i = c.loop-k.invariant in
    let below = from_below h c.production-rule.ensures.formed p c.requires.production _ _ c.production-rule.ensures.core c.edges-edges.ensures c.loop-k.k no_edge c.loop-k-test.true in
    let at = get_or c.edges-edges.result.now c.loop-k.k no_edge in
    let alike = begins_alike _ _ _ _ i.within c.in_ok-end_label.ensures.ok in
    let its = label_is bits _ _ c.args.prefix.chain _ _ c.loop-k.k i.begun c.in_ok-end_label.ensures.ok in
    record {
      kept =
          one_kept g.K.Keeper.parts_of _ _ _ _ _ _ _ _ i.kept (edges-cons (edge_entry h p c.args.names.now bits c.args.prefix.chain) c.edges-edges.result.now c.loop-k.k no_edge c.loop-k-test.true) c.in_ok-keep.ensures.ok
          (entry_is h p c.args.names.now bits c.args.prefix.chain (edge_of at) c.loop-k.k _ _ _ _ _ _ c.bytes-instance.ensures c.index-names-from.is (subst (λ n. at.from.pos.0 < n) (sym c.requires.one_each) below)
          c.output_at-port.ensures c.bytes.ensures.packed its (c.alternative-alternative.ensures ∙ c.production-rule.ensures.alternative));
      begun = alike.0 ∙ i.begun;
      within = alike.1;
    }

pub returns-clause-ok : goal.returns-clause-ok
returns-clause-ok g c =
    let h = c.args.g.now.core in
    let p = c.args.production.0 in
    let bits = first_bits c.args.prefix.bytes.now c.args.prefix.length in
    let entry = edge_entry h p c.args.names.now bits c.args.prefix.chain in
    subst (λ es. Adds g.K.Keeper.parts_of (g.K.Keeper.kept c.args.to.now) (g.K.Keeper.kept c.loop-k.to) (map entry (numbered_edges 0 es))) (edges_read h c.production-rule.ensures.formed p c.requires.production _ _ c.production-rule.ensures.core c.edges-edges.ensures)
    (all_kept g.K.Keeper.parts_of (g.K.Keeper.kept c.args.to.now) _ (g.K.Keeper.kept c.loop-k.to) _ c.loop-k.invariant.kept (no_edges entry c.edges-edges.result.now c.loop-k.k c.loop-k-test.false))

pub returns-clause-more : goal.returns-clause-more
returns-clause-more g c = some_kept g.K.Keeper.parts_of _ _ _ _ c.loop-k.invariant.kept

pub returns-in_err-begin_labels-clause-more : goal.returns-in_err-begin_labels-clause-more
returns-in_err-begin_labels-clause-more g c = no_more _ _ refl

pub returns-in_err-end_label-clause-more : goal.returns-in_err-end_label-clause-more
returns-in_err-end_label-clause-more g c = some_kept g.K.Keeper.parts_of _ _ _ _ c.loop-k.invariant.kept

pub returns-in_err-keep-clause-more : goal.returns-in_err-keep-clause-more
returns-in_err-keep-clause-more g c = subst (HasMore _) (sym c.in_err-keep.ensures.err) (some_kept g.K.Keeper.parts_of _ _ _ _ c.loop-k.invariant.kept)
