-- The place after so many continuing steps, as it is read of the table of cycles.
use Rattle.std.proofs.Common.{◌≡◌, ◌≢◌, ℕ, ◌+◌, ◌%◌, ◌<◌, false, List, [], ◌∷◌, length, get_or, drop, Some, None, sym, ap, ◌∙◌, subst, arith}
use Rattle.wf_recur.specs.declared.table.CycleNo.{CycleNo}
use Rattle.wf_recur.specs.Cycles.{OnSeen, CyclesSeen, round_at}
use Rattle.wf_vlabel.specs.Seen.{ViewLabelSeen, IsViewLabel}
use Rattle.wf_decode.specs.declared.leg.Leg.{Leg as LegHeld}
use Rattle.wf_decode.specs.declared.leg.Leg.TheVariants.{Chain as ChainHeld}
use Rattle.wf_decode.specs.HeldLegs.{AreHeld, StandsOn, step_by, step_on, module_on}
use Rattle.wf_recur.proofs.Places.{place_below, place_told}
use Rattle.std.proofs.lemmas.Option.{none-some}
use Rattle.wf_decode.proofs.LegsLeft.{drop_at}

-- the module from which legs lead stands at the place of the chain that comes first
pub stands_held : (l : ViewLabelSeen) (legs : List LegHeld) (at : ℕ) (d : LegHeld) (k : CycleNo) (j n : ℕ) → at < length legs → get_or legs at d ≡ ChainHeld k j n →
    (h : (m : ℕ) × AreHeld l m false (drop at legs)) → StandsOn l h.0 k.0 j
stands_held l legs at d k j n i e h =
    let held : AreHeld l h.0 false (ChainHeld k j n ∷ drop (at + 1) legs) = subst (AreHeld l h.0 false) (drop_at legs at d (ChainHeld k j n) i e) h.1 in
    held.1

-- the module at a place, from the number of the place
pub place_read : (t : CyclesSeen) (k at place m : ℕ) → at ≡ place → m ≡ get_or (get_or t.rounds k []) at 0 → m ≡ get_or (get_or t.rounds k []) place 0
place_read t k at place m e is = is ∙ ap (λ z. get_or (get_or t.rounds k []) z 0) e

module _ (l : ViewLabelSeen) (label : IsViewLabel l) (t : CyclesSeen) (same : t ≡ l.cycles) (k j n many m : ℕ) (cycle : k < length l.cycles.rounds) (place : j < length (round_at l.cycles k))
    (many_is : many ≡ length (get_or t.rounds k [])) (is : m ≡ get_or (get_or t.rounds k []) ((j + n) % many) 0) where
  pub length_read : many ≡ length (round_at l.cycles k)
  length_read = many_is ∙ ap (λ (z : CyclesSeen). length (round_at z k)) same

  module_read : m ≡ module_on l.cycles k ((j + n) % many)
  module_read = is ∙ ap (λ (z : CyclesSeen). module_on z k ((j + n) % many)) same

  place_within : (j + n) % many < length (round_at l.cycles k)
  place_within = let e = length_read in omega arith

  pub read_below : m < length t.on
  read_below =
      subst (λ (z : CyclesSeen). m < length z.on) (sym same)
      (subst (λ z. z < length l.cycles.on) (sym module_read) (subst (λ z. module_on l.cycles k ((j + n) % many) < z) (sym label.cycles_are.one_each) (place_below l.grammar l.cycles label.cycles_are label.formed k ((j + n) % many) cycle place_within)))

  pub read_told : get_or t.on m None ≢ None
  read_told e =
      let o = place_told l.grammar l.cycles label.formed label.linear label.cycles_are k ((j + n) % many) cycle place_within in
      none-some o.0 (sym e ∙ ap (λ (z : CyclesSeen). get_or z.on m None) same ∙ ap (λ z. get_or l.cycles.on z None) module_read ∙ o.1)

  pub read_step : (o : OnSeen) → get_or t.on m None ≡ Some o → step_on l.cycles (module_on l.cycles k ((j + n) % many)) ≡ o.step
  read_step o e = ap (step_on l.cycles) (sym module_read) ∙ ap (λ (z : CyclesSeen). step_on z m) (sym same) ∙ ap step_by e
