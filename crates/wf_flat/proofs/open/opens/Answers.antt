use Rattle.std.proofs.Common.{ℕ, ◌<◌, ◌+◌, ◌∙◌, ap, sym, subst, length, get_or, take, set, List, arith}
use Rattle.std.proofs.lemmas.List.{take_more, length-set, get_or_read}
use Rattle.wf_model.proofs.Lists.{at_in, is_at}
use Rattle.wf_flat.specs.declared.table.Inst.{Inst}
use Rattle.wf_flat.specs.Table.{no_instance}
use Rattle.wf_flat.specs.Graph.{MarkOpen, flag_of}
use Rattle.wf_flat.proofs.SeenNumbers.{flag_more}
use Rattle.wf_flat.proofs.open.opens.Goals as goal

pub bounds-instances-k : goal.bounds-instances-k
bounds-instances-k c =
    let s = c.args.seen.now in
    let k = get_or s c.loop-k.k-index 0 in
    subst (λ (l : List Inst). k < length l) (sym c.instances-instances.ensures.instances) (c.requires k (at_in k c.loop-k.k-index s (is_at c.loop-k.k-index s 0 c.loop-k-test.true)))

pub index_mut-requires : goal.index_mut-requires
index_mut-requires c =
    let s = c.args.seen.now in
    let k = get_or s c.loop-k.k-index 0 in
    let low = c.requires k (at_in k c.loop-k.k-index s (is_at c.loop-k.k-index s 0 c.loop-k-test.true)) in
    let same = c.loop-k.invariant.count ∙ ap length c.instances-instances.ensures.instances in
    let held = c.loop-k.flags.ok in
    omega arith

pub loop-k-preserved : goal.loop-k-preserved
loop-k-preserved c =
    let s = c.args.seen.now in
    let is = c.instances-instances.result.now in
    let k = get_or s c.loop-k.k-index 0 in
    let w = λ (j : ℕ). flag_of c.args.expanded.now (get_or is j no_instance).module.0 in
    let low = subst (λ (l : List Inst). k < length l) (sym c.instances-instances.ensures.instances) (c.requires k (at_in k c.loop-k.k-index s (is_at c.loop-k.k-index s 0 c.loop-k-test.true))) in
    let mark = c.is_marked.ensures ∙ ap (λ (x : Inst). flag_of c.args.expanded.now x.module.0) (get_or_read is k c.index-instances-k.result low c.index-instances-k.is no_instance) in
    record {
      marked = subst (λ b. MarkOpen (set c.loop-k.flags.items k b) c.args.expanded.now is (take (c.loop-k.k-index + 1) s)) (sym mark)
          (subst (MarkOpen (set c.loop-k.flags.items k (w k)) c.args.expanded.now is) (sym (take_more s c.loop-k.k-index 0 c.loop-k-test.true))
          (flag_more w c.loop-k.flags.items (take c.loop-k.k-index s) k (subst (λ n. k < n) (sym c.loop-k.invariant.count) low) c.loop-k.invariant.marked));
      count = length-set c.loop-k.flags.items k c.is_marked.result ∙ c.loop-k.invariant.count;
    }
