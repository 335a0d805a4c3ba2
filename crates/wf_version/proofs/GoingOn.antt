-- The steps of a cycle, and those that lead on from a module on it.
use Rattle.std.proofs.Common.{◌≡◌, ◌≢◌, ◌↔◌, ℕ, ◌+◌, ◌-◌, ◌%◌, ◌<◌, Bool, true, false, nat_lt, IsTrue, List, length, get_or, Some, None, sym, ap, ◌∙◌, subst, arith, true≢false}
use Rattle.std.proofs.Math.Nat.{mod-lt, mod-eq_of_lt, add-mod_left}
use Rattle.std.proofs.lemmas.Bool.Decides.{Decides-ltb}
use Rattle.std.proofs.lemmas.Option.{none-some}
use Rattle.wf_model.specs.Grammar.{Grammar, IsComposite}
use Rattle.wf_model.specs.WellFormed.{IsWellFormed}
use Rattle.wf_model.specs.Linear.{IsLinear}
use Rattle.wf_model.specs.Reach.{Step}
use Rattle.wf_model.specs.Versions.{version_of, IsVersion, GetsOnCycle}
use Rattle.label_model.specs.Continuing.{continuing, after}
use Rattle.label_model.proofs.ContinuingSteps.{continuing_law}
use Rattle.version_model.specs.Versions.{GoesOnWithin}
use Rattle.version_model.proofs.VersionCycles.{version_cycles_law}
use Rattle.wf_recur.specs.Cycles.{OnSeen, CyclesSeen, round_at, AreCyclesOf}
use Rattle.wf_recur.proofs.Places.{place_after}
use Rattle.wf_version.specs.Rounds.{ContinuesWithin, RoundWithin, AreMarksOf}

-- the step on which a module continues tells whether it does so within
pub within_told : (g : Grammar) (p m : ℕ) (s : Step) → continuing g m ≡ Some s → IsTrue (nat_lt s.production p) ↔ ContinuesWithin g p m
within_told g p m s e =
    let test = Decides-ltb s.production p in (
      λ t u q. (let same : Some s ≡ Some u = sym e ∙ q in let one : s ≡ u = cc in subst (λ (z : Step). z.production < p) one (test.0 t)),
      λ w. test.1 (w s e),
    )

-- a module that stands on a cycle
module _ (g : Grammar) (t : CyclesSeen) (wf : IsWellFormed g) (lin : IsLinear g) (h : AreCyclesOf g t) (m : ℕ) (o : OnSeen) (at : get_or t.on m None ≡ Some o) where
  abbrev size : ℕ
  size = length (round_at t o.cycle)

  -- so many steps on from it stands the module of this place
  place_on : (c : ℕ) → after g c m ≡ get_or (round_at t o.cycle) ((o.place + c) % size) 0
  place_on c = let s = h.on_one m o at in ap (after g c) (sym s.is) ∙ place_after g t wf lin h o.cycle o.place c s.cycle s.place

  -- each place is met
  place_met : (j : ℕ) → j < size → after g (j + (size - o.place)) m ≡ get_or (round_at t o.cycle) j 0
  place_met j l =
      let s = h.on_one m o at in
      let low : o.place < size = s.place in
      let e : o.place + (j + (size - o.place)) ≡ size + j = omega arith in
      place_on (j + (size - o.place)) ∙ ap (λ z. get_or (round_at t o.cycle) z 0) (ap (λ z. z % size) e ∙ add-mod_left size j ∙ mod-eq_of_lt l)

  -- the steps of its cycle are those that lead on from it
  round_goes_on : (p : ℕ) → RoundWithin g p (round_at t o.cycle) ↔ GoesOnWithin g p m
  round_goes_on p = (
    λ within c u q. (let s = h.on_one m o at in let some = s.place in within ((o.place + c) % size) (mod-lt (o.place + c) (omega arith)) u (ap (continuing g) (sym (place_on c)) ∙ q)),
    λ goes j l u q. goes (j + (size - o.place)) u (ap (continuing g) (place_met j l) ∙ q),
  )

  module _ (n p : ℕ) (is : IsVersion g n p) where
    law : GetsOnCycle g n p m ↔ (IsComposite (version_of g n p) m × (continuing g m ≢ None) × (GoesOnWithin g p m → ⊥))
    law = (version_cycles_law g n p is wf lin m).gets_on

    continued : continuing g m ≢ None
    continued e = none-some o.step (sym e ∙ (continuing_law g wf lin m o.step).1 (h.on_one m o at).step)

    -- if all steps of its cycle are by productions of the version, it gets on none
    pub marked_stays : (marks : List Bool) → AreMarksOf g p t marks → get_or marks o.cycle false ≡ true → IsTrue false ↔ GetsOnCycle g n p m
    marked_stays marks told e = (
      λ f. absurd (true≢false (sym f)),
      λ q. absurd ((law.0 q).2 ((round_goes_on p).0 ((told.told o.cycle (h.on_one m o at).cycle).0 e))),
    )

    -- and if not, it gets on one where it is composite in the version
    pub unmarked_gets_on : (marks : List Bool) → AreMarksOf g p t marks → get_or marks o.cycle false ≡ false → (b : Bool) → IsTrue b ↔ IsComposite (version_of g n p) m → IsTrue b ↔ GetsOnCycle g n p m
    unmarked_gets_on marks told e b composite = (
      λ f. law.1 (composite.0 f, continued, λ goes. true≢false (sym ((told.told o.cycle (h.on_one m o at).cycle).1 ((round_goes_on p).1 goes)) ∙ e)),
      λ q. composite.1 (law.0 q).0,
    )
