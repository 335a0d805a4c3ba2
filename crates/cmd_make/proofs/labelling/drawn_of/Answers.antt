use Rattle.std.proofs.Common.{List, length, map, ◌<◌, ap, sym, subst, ◌∙◌}
use Rattle.cmd_make.specs.DrillText.{pairs_drawn}
use Rattle.cmd_make.specs.HeldLabels.{AreWithin, pair_of}
use Rattle.cmd_make.specs.declared.pairs.Pair.{Pair as PairHeld}
use Rattle.cmd_make.proofs.PairVerdicts.{drawn_within, some_items}
use Rattle.cmd_make.proofs.labelling.drawn_of.Goals as goal

pub labels_of-requires : goal.labels_of-requires
labels_of-requires c =
    let items = c.items-items.result in
    let draws = c.args.generator.now.draws in
    let some = subst (λ n. 0 < n → 0 < items) (sym c.pair_count.ensures) (some_items items) in
    let drawn = ap (λ (l : List PairHeld). map pair_of l) c.deref.ensures.value ∙ c.in_ok-pairs.ensures in
    subst (AreWithin (length c.args.run.now.labels)) (sym drawn)
    (subst (λ n. AreWithin n (pairs_drawn c.pair_count.result items draws)) c.items-items.ensures (drawn_within c.pair_count.result items draws some))
