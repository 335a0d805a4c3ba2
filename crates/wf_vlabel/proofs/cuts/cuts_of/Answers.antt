use Rattle.std.proofs.Common.{◌≡◌, ◌+◌, ◌<◌, ◌∙◌, ℕ, None, length, get_or, sym, ap, subst, arith, rules}
use Rattle.std.proofs.lemmas.List.{length-replicate, with_items_is}
use Rattle.wf_model.specs.View.{expands}
use Rattle.wf_recur.specs.Cycles.{round_at}
use Rattle.wf_vlabel.specs.Cuts.{IsCut}
use Rattle.wf_vlabel.proofs.Cutting.{cuts_more, cuts_all}
use Rattle.wf_recur.proofs.OneTable.{cycled}
use Rattle.wf_vlabel.proofs.cuts.cuts_of.Goals as goal

pub loop-c-init : goal.loop-c-init
loop-c-init c =
    let none = c.in_ok-cuts.ensures.items_if_clones_equal (λ y e. search rules) in
    (ap length none ∙ (length-replicate _ _ ∙ ap length c.modules.ensures.modules), λ k j l h. absurd (omega arith))

pub loop-c-preserved : goal.loop-c-preserved
loop-c-preserved c =
    let n = c.deref_mut.ensures.len in
    let e = c.deref_mut.ensures.value in
    let k = c.cut_cycle.ensures.count in
    let g = c.args.s.linear.grammar.now.core in
    let t = c.args.s.linear.cycles.now in
    let v = c.loop-c.invariant in
    let kept = subst (λ old. (m : ℕ) → IsCut g (expands c.args.s.view.now.core) m (get_or old m None) → IsCut g (expands c.args.s.view.now.core) m (get_or c.cut_cycle.new.cuts m None)) e c.cut_cycle.ensures.kept in
    subst (λ cuts. (length cuts ≡ length g.modules) × ((k j : ℕ) → k < c.loop-c.c + 1 → j < length (round_at t k) → IsCut g (expands c.args.s.view.now.core) (get_or (round_at t k) j 0) (get_or cuts (get_or (round_at t k) j 0) None)))
    (sym (with_items_is c.loop-c.cuts c.cut_cycle.new.cuts (k ∙ n))) (
      k ∙ ap length e ∙ v.0,
      cuts_more g t (expands c.args.s.view.now.core) c.loop-c.c c.loop-c.cuts.items c.cut_cycle.new.cuts kept c.cut_cycle.ensures.told v.1,
    )

pub returns-clause-cuts : goal.returns-clause-cuts
returns-clause-cuts c =
    let e = c.count-c-end.ensures in
    cuts_all c.args.s.linear.grammar.now.core c.args.s.linear.cycles.now (expands c.args.s.view.now.core) c.loop-c.cuts.items (cycled c.args.s.linear.grammar.now.core c.modules.ensures.formed c.args.s.linear.linear c.args.s.linear.cycles.now c.args.s.linear.cycled) (λ k j l h. c.loop-c.invariant.1 k j (omega arith) h)
