use Rattle.std.proofs.Common.{◌≡◌, ◌-◌, ◌<◌, ◌∙◌, take, drop, length, get_or, ap, subst, arith}
use Rattle.std.proofs.lemmas.List.{get_or_read, length-replicate, take-append-drop}
use Rattle.wf_model.specs.Lists.{IsIn}
use Rattle.wf_model.proofs.Lists.{in_append_left, at_in, is_at}
use Rattle.wf_flat.specs.Numbering.{widths_of}
use Rattle.wf_flat.specs.Leading.{IsIndex, AddsInstance}
use Rattle.wf_flat.proofs.Placed.{none_placed, among_more}
use Rattle.wf_flat.proofs.placing.ports_of.Goals as goal

pub loop-k-init : goal.loop-k-init
loop-k-init c =
    let g = c.args.g.now.core in
    let xs = c.args.run.now.instances in
    let begins = c.in_ok-begins.begins.items in
    let are = c.in_ok-begins.ensures.begins in
    let count = are.count in
    let len = c.len.ensures ∙ c.in_ok-begins.begins.ok.0 in
    let place : c.len.result - 1 ≡ length (widths_of g xs) = omega arith in
    let there : c.len.result - 1 < length begins = omega arith in
    let last = get_or_read begins (c.len.result - 1) c.index.result.now there c.index.ensures 0 ∙ ap (λ n. get_or begins n 0) place in
    let words = c.in_ok-words.ensures.items_if_clones_equal (λ y e. e) in
    let low = c.in_ok-begins.ensures.small (length (widths_of g xs)) in
    let n = ap length words ∙ length-replicate c.index.result.now 4294967295 in
    record {
      small = omega arith;
      index = none_placed g c.args.leaf.now xs begins c.in_ok-words.words.items c.in_ok-rows.rows.items c.index.result.now are last words c.in_ok-rows.ensures;
    }

pub place_instance-requires-clause-there : goal.place_instance-requires-clause-there
place_instance-requires-clause-there c =
    let s = c.args.seen.now in
    let k = get_or s c.loop-k.k-index 0 in
    c.requires.there k (at_in k c.loop-k.k-index s (is_at c.loop-k.k-index s 0 c.loop-k-test.true))

pub loop-k-preserved : goal.loop-k-preserved
loop-k-preserved c =
    let g = c.args.g.now.core in
    let xs = c.args.run.now.instances in
    let marks = c.args.expanded.now in
    let leaf = c.args.leaf.now in
    let s = c.args.seen.now in
    let i = c.loop-k.k-index in
    let rows = c.in_ok-rows.rows.items in
    let words' = c.place_instance.new.words.items in
    let count = c.in_ok-place_instance.ensures.count in
    let small = c.loop-k.invariant.small in
    let adds = subst (λ b. AddsInstance g marks leaf xs (get_or s i 0) b c.loop-k.words.items words') c.deref.ensures.value c.in_ok-place_instance.ensures.added in
    record {
      small = omega arith;
      index = subst (λ l. IsIndex l c.in_ok-begins.begins.items words' rows) (among_more g marks leaf xs s i c.loop-k-test.true)
          (adds (take i s) rows (λ j h. c.requires.there j (subst (IsIn j) (take-append-drop i s) (in_append_left j (take i s) (drop i s) h))) c.in_ok-rows.ensures c.loop-k.invariant.index);
    }
