use Rattle.std.proofs.Common.{ℕ, List, ◌<◌, ◌≤◌, ap, sym, subst, length, get_or, refl}
use Rattle.std.proofs.lemmas.Result.{err_from_is_err_and}
use Rattle.wf_model.specs.Lists.{IsIn}
use Rattle.wf_model.proofs.Lists.{at_in, is_at, in_flat_map}
use Rattle.wf_flat.specs.Graph.{links_at}
use Rattle.wf_export.specs.Shown.{instance_links_text, seen_links_text}
use Rattle.wf_export.proofs.Texts.{first_more, first_passed, first_whole}
use Rattle.wf_export.proofs.link_lines.put_links.Goals as goal

pub put_instance_links-requires-clause-there : goal.put_instance_links-requires-clause-there
put_instance_links-requires-clause-there g c =
    let s = c.seen-k-items.result.now in
    let k = get_or s c.loop-k.k-index 0 in
    c.requires.there k (subst (IsIn k) c.seen-k-items.ensures (at_in k c.loop-k.k-index s (is_at c.loop-k.k-index s 0 c.loop-k-test.true)))

pub put_instance_links-requires-clause-within : goal.put_instance_links-requires-clause-within
put_instance_links-requires-clause-within g c = λ l i.
    let s = c.seen-k-items.result.now in
    let k = get_or s c.loop-k.k-index 0 in
    let seen = subst (IsIn k) c.seen-k-items.ensures (at_in k c.loop-k.k-index s (is_at c.loop-k.k-index s 0 c.loop-k-test.true)) in
    c.requires.within l (in_flat_map (links_at c.args.g.now.core c.args.shown.now.marks c.args.rows.now c.args.run.now.instances) k l c.args.shown.now.numbers seen i)

pub returns-in_err-put_instance_links : goal.returns-in_err-put_instance_links
returns-in_err-put_instance_links g c =
    let h = c.args.g.now.core in
    let xs = c.args.run.now.instances in
    let ns = c.args.shown.now.numbers in
    let s = c.seen-k-items.result.now in
    let text = instance_links_text h c.args.shown.now.marks c.args.rows.now xs in
    let more = subst (λ (l : List ℕ). c.loop-k.k-index < length l) c.seen-k-items.ensures c.loop-k-test.true in
    first_passed g.O.Sink.put_bytes g.O.Sink.faults g.O.Sink.at_last text ns (seen_links_text h c.args.shown.now c.args.rows.now xs) refl
    c.loop-k.k-index 0 (text (get_or s c.loop-k.k-index 0)) more (ap (λ (l : List ℕ). text (get_or l c.loop-k.k-index 0)) c.seen-k-items.ensures)
    c.args.due.now c.loop-k.due c.put_instance_links.new.due c.args.out.now c.loop-k.out c.put_instance_links.new.out c.from_residual.result c.in_err-put_instance_links.field-0.0 (err_from_is_err_and c.from_residual.result c.from_residual.ensures.1)
    c.loop-k.invariant c.in_err-put_instance_links.ensures

pub loop-k-preserved : goal.loop-k-preserved
loop-k-preserved g c =
    let h = c.args.g.now.core in
    let xs = c.args.run.now.instances in
    let ns = c.args.shown.now.numbers in
    let s = c.seen-k-items.result.now in
    let text = instance_links_text h c.args.shown.now.marks c.args.rows.now xs in
    let more = subst (λ (l : List ℕ). c.loop-k.k-index < length l) c.seen-k-items.ensures c.loop-k-test.true in
    first_more g.O.Sink.put_bytes g.O.Sink.faults g.O.Sink.at_last text ns
    c.loop-k.k-index 0 (text (get_or s c.loop-k.k-index 0)) more (ap (λ (l : List ℕ). text (get_or l c.loop-k.k-index 0)) c.seen-k-items.ensures)
    c.args.due.now c.loop-k.due c.put_instance_links.new.due c.args.out.now c.loop-k.out c.put_instance_links.new.out c.loop-k.invariant c.in_ok-put_instance_links.ensures

pub returns : goal.returns
returns g c =
    let h = c.args.g.now.core in
    let xs = c.args.run.now.instances in
    let text = instance_links_text h c.args.shown.now.marks c.args.rows.now xs in
    first_whole g.O.Sink.put_bytes g.O.Sink.faults g.O.Sink.at_last text c.args.shown.now.numbers (seen_links_text h c.args.shown.now c.args.rows.now xs) refl
    c.loop-k.k-index (subst (λ (l : List ℕ). length l ≤ c.loop-k.k-index) c.seen-k-items.ensures c.loop-k-test.false)
    c.args.due.now c.loop-k.due c.args.out.now c.loop-k.out c.loop-k.invariant
