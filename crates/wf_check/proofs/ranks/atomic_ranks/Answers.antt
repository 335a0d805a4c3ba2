use Rattle.std.proofs.Common.{◌<◌, ◌+◌, ◌∙◌, ℕ, List, Option, None, ap, sym, subst, length, get_or}
use Rattle.std.proofs.lemmas.List.{length_push}
use Rattle.wf_check.specs.Ranks.{TellsRankBelow}
use Rattle.wf_check.proofs.Rounds.{atomic_told}
use Rattle.wf_model.proofs.Positions.{each_more}
use Rattle.wf_check.proofs.ranks.atomic_ranks.Goals as goal

pub loop-m-preserved : goal.loop-m-preserved
loop-m-preserved c =
    let g = c.args.g.now.core in
    let e = c.in_ok-push.ensures.items in
    record {
      count = ap length e ∙ (length_push c.loop-m.ranks.items c.then_some.result ∙ ap (λ n. n + 1) c.loop-m.invariant.count);
      told = subst (λ (l : List (Option ℕ)). (k : ℕ) → k < c.loop-m.m + 1 → TellsRankBelow g 1 k (get_or l k None)) (sym e)
          (each_more (TellsRankBelow g 1) c.loop-m.ranks.items c.loop-m.m c.then_some.result None c.loop-m.invariant.count c.loop-m.invariant.told (atomic_told g c.loop-m.m c.is_composite-is_atomic.result c.then_some.result c.is_composite-is_atomic.ensures.composite c.then_some.ensures));
    }
