use Rattle.std.proofs.Common.{◌<◌, ◌≤◌, length, refl, sym, subst, ◌∙◌}
use Rattle.wf_model.proofs.Lists.{at_in, is_at}
use Rattle.label_file.specs.Stored.{no_entry}
use Rattle.wf_label.specs.Values.{AreLabelBits}
use Rattle.wf_lineage.proofs.EntryLines.{all_so_far, one_more, cut_here}
use Rattle.wf_model.proofs.Costs.{one_dearer, one_more_cost, all_cost}
use Rattle.wf_lineage.proofs.listing.add_listed.Goals as goal

pub add_entry-requires-clause-label : goal.add_entry-requires-clause-label
add_entry-requires-clause-label g c =
    let hs = c.args.store.now in
    let k = c.loop-entry.entry in
    let low : k < length hs = subst (λ n. k < n) c.length-entry-end.ensures c.loop-entry-test.true in
    subst (λ b. AreLabelBits c.args.vl.now.grammar b) (sym c.label_at.ensures) (c.requires.store.labels _ (at_in _ k hs (is_at k hs no_entry low)))

pub returns-in_err-add_entry-clause-err : goal.returns-in_err-add_entry-clause-err
returns-in_err-add_entry-clause-err g c = λ failed.
    let hs = c.args.store.now in
    let k = c.loop-entry.entry in
    let low : k < length hs = subst (λ n. k < n) c.length-entry-end.ensures c.loop-entry-test.true in
    cut_here c.args.vl.now c.args.direction c.args.of.now.bits hs c.args.due.now _ k low c.name_at.result.now c.label_at.result c.name_at.ensures c.label_at.ensures c.loop-entry.due _ _ c.loop-entry.invariant.due
    (c.in_err-add_entry.ensures.err refl)

pub returns-in_err-add_entry-clause-cost : goal.returns-in_err-add_entry-clause-cost
returns-in_err-add_entry-clause-cost g c = λ most few.
    let hs = c.args.store.now in
    let k = c.loop-entry.entry in
    let low : k < length hs = subst (λ n. k < n) c.length-entry-end.ensures c.loop-entry-test.true in
    one_dearer c.args.steps.now c.loop-entry.steps c.add_entry.new.steps k (length hs) _ (c.loop-entry.invariant.cost most few) (c.in_err-add_entry.ensures.cost most few) low

pub loop-entry-preserved : goal.loop-entry-preserved
loop-entry-preserved g c =
    let hs = c.args.store.now in
    let k = c.loop-entry.entry in
    let low : k < length hs = subst (λ n. k < n) c.length-entry-end.ensures c.loop-entry-test.true in
    record {
      due = one_more c.args.vl.now c.args.direction c.args.of.now.bits hs c.args.due.now _ k low c.name_at.result.now c.label_at.result c.name_at.ensures c.label_at.ensures c.loop-entry.due _ _ c.loop-entry.invariant.due
          c.add_entry.new.due c.in_ok-add_entry.ensures.ok;
      count = c.in_ok-add_entry.ensures.same ∙ c.loop-entry.invariant.count;
      room = c.in_ok-add_entry.ensures.room ∙ c.loop-entry.invariant.room;
      cost = λ most few. one_more_cost c.args.steps.now c.loop-entry.steps c.add_entry.new.steps k _ (c.loop-entry.invariant.cost most few) (c.in_ok-add_entry.ensures.cost most few);
    }

pub returns-clause-ok : goal.returns-clause-ok
returns-clause-ok g c =
    let hs = c.args.store.now in
    let k = c.loop-entry.entry in
    let high : length hs ≤ k = subst (λ n. n ≤ k) c.length-entry-end.ensures c.loop-entry-test.false in
    all_so_far c.args.vl.now c.args.direction c.args.of.now.bits hs c.args.due.now _ k high c.loop-entry.due _ c.loop-entry.invariant.due

pub returns-clause-cost : goal.returns-clause-cost
returns-clause-cost g c = λ most few.
    let k = c.loop-entry.entry in
    let low : k ≤ length c.args.store.now = subst (λ n. k ≤ n) c.length-entry-end.ensures c.loop-entry.auto.entry-end in
    all_cost c.args.steps.now c.loop-entry.steps k (length c.args.store.now) _ (c.loop-entry.invariant.cost most few) low
