use Rattle.std.proofs.Common.{◌≡◌, ◌<◌, ◌≤◌, ◌+◌, ◌-◌, ℕ, suc, length, get_or, set, None, refl, sym, ap, ◌∙◌, subst, arith, length-set}
use Rattle.wf_model.specs.View.{expands}
use Rattle.label_model.specs.Continuing.{after}
use Rattle.wf_recur.specs.Cycles.{round_at, least_of}
use Rattle.wf_recur.proofs.OneTable.{cycled}
use Rattle.wf_recur.proofs.Places.{place_below, place_from_first, place_back}
use Rattle.wf_vlabel.specs.Cuts.{IsCut, IsCutWithin}
use Rattle.wf_vlabel.proofs.Cutting.{cut_back, cut_whole, cut_few, cut_kept, cut_told}
use Rattle.wf_vlabel.proofs.cuts.cut_cycle.Goals as goal

pub one_before-next-requires : goal.one_before-next-requires
one_before-next-requires c =
    let v = c.loop-ahead.invariant in
    let short = (cycled c.args.g.grammar.now.core c.modules-modules.ensures.formed c.args.g.linear c.args.g.cycles.now c.args.g.cycled).short c.args.c.0 in
    record { few = cut_few c.args.g.grammar.now.core (expands c.args.view.now.core) _ (c.length-length.result - c.loop-ahead.ahead) 4096 c.loop-ahead.next (v.1 _ (omega (arith, v.0))) (omega (arith, c.length-length.ensures)) }

pub loop-ahead-preserved : goal.loop-ahead-preserved
loop-ahead-preserved c =
    let v = c.loop-ahead.invariant in
    let e = c.length-length.ensures in
    (omega (arith, v.0), cut_back _ _ _ (expands c.args.view.now.core) c.loop-ahead.ahead _ _ _ c.loop-ahead.next _ c.modules-modules.ensures.formed c.args.g.linear (cycled c.args.g.grammar.now.core c.modules-modules.ensures.formed c.args.g.linear c.args.g.cycles.now c.args.g.cycled) c.requires.cycle (omega arith) (omega (arith, v.0)) (omega arith) c.at.ensures c.one_before-next.ensures v.1)

pub loop-place-init : goal.loop-place-init
loop-place-init c =
    let v = c.loop-ahead.invariant in
    let e = c.length-length.ensures in
    let g = c.args.g.grammar.now.core in
    let first = least_of (round_at c.args.g.cycles.now c.args.c.0) in
    let zero_left : c.loop-ahead.ahead ≡ 0 = omega arith in
    let back = ap (λ z. after g z first) e ∙ place_back g c.args.g.cycles.now c.modules-modules.ensures.formed c.args.g.linear (cycled c.args.g.grammar.now.core c.modules-modules.ensures.formed c.args.g.linear c.args.g.cycles.now c.args.g.cycled) c.args.c.0 0 c.requires.cycle ((cycled c.args.g.grammar.now.core c.modules-modules.ensures.formed c.args.g.linear c.args.g.cycles.now c.args.g.cycled).rounds c.args.c.0 c.requires.cycle).whole.0 in
    let here = subst (λ z. IsCutWithin g (expands c.args.view.now.core) (after g z first) c.length-length.result c.loop-ahead.next) zero_left (v.1 c.length-length.result (omega arith)) in (
      omega arith,
      (λ b s. let is : c.length-length.result ≡ b = omega arith in subst (λ z. IsCutWithin g (expands c.args.view.now.core) (after g c.length-length.result first) z c.loop-ahead.next) is (subst (λ z. IsCutWithin g (expands c.args.view.now.core) z c.length-length.result c.loop-ahead.next) (sym back) here)),
      refl,
      (λ m h. h),
      λ j low high. absurd (omega arith),
    )

pub one_before-next-requires-in-loop-place : goal.one_before-next-requires-in-loop-place
one_before-next-requires-in-loop-place c =
    let v = c.loop-place.invariant in
    let short = (cycled c.args.g.grammar.now.core c.modules-modules.ensures.formed c.args.g.linear c.args.g.cycles.now c.args.g.cycled).short c.args.c.0 in
    record { few = cut_few c.args.g.grammar.now.core (expands c.args.view.now.core) _ (c.length-length.result + c.length-length.result - c.loop-place.place) 4096 c.loop-place.next (v.1 _ (omega (arith, v.0))) (omega (arith, c.length-length.ensures)) }

pub bounds-cuts-m : goal.bounds-cuts-m
bounds-cuts-m c =
    let v = c.loop-place.invariant in
    let low = place_below c.args.g.grammar.now.core c.args.g.cycles.now (cycled c.args.g.grammar.now.core c.modules-modules.ensures.formed c.args.g.linear c.args.g.cycles.now c.args.g.cycled) c.modules-modules.ensures.formed c.args.c.0 (c.loop-place.place - 1) c.requires.cycle (omega (arith, v.0, c.length-length.ensures)) in
    omega (arith, low, c.at-m.ensures, v.2, c.requires.count)

pub loop-place-preserved : goal.loop-place-preserved
loop-place-preserved c =
    let v = c.loop-place.invariant in
    let e = c.length-length.ensures in
    let g = c.args.g.grammar.now.core in
    let t = c.args.g.cycles.now in
    let wf = c.modules-modules.ensures.formed in
    let j = c.loop-place.place - 1 in
    let inside : j < length (round_at t c.args.c.0) = omega (arith, v.0) in
    let one : c.loop-place.place ≡ suc j = omega arith in
    let next = cut_back g t c.args.c.0 (expands c.args.view.now.core) c.loop-place.place j _ _ c.loop-place.next _ wf c.args.g.linear (cycled c.args.g.grammar.now.core c.modules-modules.ensures.formed c.args.g.linear c.args.g.cycles.now c.args.g.cycled) c.requires.cycle one (omega (arith, v.0)) (omega arith) c.at-m.ensures c.one_before-next-in-loop-place.ensures v.1 in
    let b = c.length-length.result + c.length-length.result - j in
    let cut : IsCut g (expands c.args.view.now.core) (get_or (round_at t c.args.c.0) j 0) c.one_before-next-in-loop-place.result =
    cut_whole g t c.args.c.0 j (expands c.args.view.now.core) b _ wf c.args.g.linear (cycled c.args.g.grammar.now.core c.modules-modules.ensures.formed c.args.g.linear c.args.g.cycles.now c.args.g.cycled) c.requires.cycle inside (omega arith)
    (subst (λ z. IsCutWithin g (expands c.args.view.now.core) z b c.one_before-next-in-loop-place.result) (place_from_first g t wf c.args.g.linear (cycled c.args.g.grammar.now.core c.modules-modules.ensures.formed c.args.g.linear c.args.g.cycles.now c.args.g.cycled) c.args.c.0 j c.requires.cycle inside) (next b (omega arith))) in
    let low : get_or (round_at t c.args.c.0) j 0 < length c.loop-place.cuts = omega (arith, bounds-cuts-m c, c.at-m.ensures) in
    let here = sym c.at-m.ensures in (
      omega arith,
      next,
      (length-set c.loop-place.cuts c.at-m.result.0 _ ∙ v.2),
      (λ m h. cut_kept g (expands c.args.view.now.core) c.loop-place.cuts c.at-m.result.0 m _ (subst (λ z. IsCut g (expands c.args.view.now.core) z c.one_before-next-in-loop-place.result) here cut) (bounds-cuts-m c) (v.3 m h)),
      subst (λ m. (i : ℕ) → j ≤ i → i < c.length-length.result → IsCut g (expands c.args.view.now.core) (get_or (round_at t c.args.c.0) i 0) (get_or (set c.loop-place.cuts m c.one_before-next-in-loop-place.result) (get_or (round_at t c.args.c.0) i 0) None)) here
          (cut_told g (expands c.args.view.now.core) (round_at t c.args.c.0) c.loop-place.cuts j c.length-length.result _ cut low (λ i l h. v.4 i (omega arith) h)),
    )
