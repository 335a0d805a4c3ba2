-- Where chain numbers end.
use Rattle.std.proofs.Common.{◌≡◌, ◌≢◌, ℕ, ◌+◌, ◌-◌, ◌^◌, ◌<◌, Bool, true, false, List, [], ◌∷◌, ◌++◌, length, Option, Some, None, refl, sym, subst, inr, true≢false}
use Rattle.std.specs.Prelude.{MatchOption, option_map, is_some}
use Rattle.wf_model.specs.declared.body.Step.{Step as StepHeld}
use Rattle.wf_model.specs.declared.numbers.ModNo.{ModNo}
use Rattle.wf_model.specs.Grammar.{Grammar, alternative_of, IsAtomic, IsComposite}
use Rattle.wf_model.specs.Reach.{Step, target_of}
use Rattle.wf_model.specs.Steps.{step_of}
use Rattle.bit_pack.specs.Gamma.{gamma}
use Rattle.label_model.specs.Continuing.{continuing, after}
use Rattle.label_model.specs.Labels.{PlaceStep}
use Rattle.wf_spec.specs.Held.{HeldGrammar}
use Rattle.wf_loops.specs.Looped.{LoopedValue, IsLooped, loop_in}
use Rattle.wf_translate.specs.declared.chain.ChainEnd.{ChainEnd}
use Rattle.wf_translate.specs.Readable.{ReadsOut}
use Rattle.wf_translate.specs.Chains.{IsWalked, IsWalkEnd, IsChainTold, IsChainRead, StopsAlong}
use Rattle.wf_translate.proofs.Readings.{out_here}
use Rattle.wf_translate.proofs.Walking.{walk_more, told_all, stops_along, told_none_at, stops_at}

-- whether an option holds something
pub holds_some : {A : Type 0} (o : Option A) → is_some o ≡ true → o ≢ None
holds_some None e q = true≢false (sym e)
holds_some (Some x) e q = absurd (cc)

-- a module is an end, if it is composite
abbrev pub IsEndAt : Grammar → ModNo → Option ChainEnd → Type 0
IsEndAt g m o = MatchOption o (IsAtomic g m.0) (λ e. (e.module ≡ m) × (e.last ≡ None) × IsComposite g m.0)

module _ (l : LoopedValue) (f : IsLooped l) where
  abbrev g : Grammar
  g = l.accepted.grammar.core

  abbrev loop : ℕ → Option Step
  loop = loop_in l.steps

  -- the loop step of a module on no cycle, if a step is left
  pub next_told : (m left : ℕ) (o : Option StepHeld) → option_map step_of o ≡ loop m → continuing g m ≡ None → 0 < left →
      MatchOption o (IsWalkEnd g loop m left) (λ s. (loop m ≡ Some (step_of s)) × (continuing g m ≡ None) × (0 < left))
  next_told m left None e off some = inr (inr (sym e))
  next_told m left (Some s) e off some = (sym e, off, some)

  -- one more step is taken
  pub walk_next : (h : HeldGrammar) → h ≡ l.accepted.grammar → (m count : ℕ) (before between after : List PlaceStep) (k left j : ℕ) (s : Step) → IsWalked g loop m count before between k left → loop k ≡ Some s → continuing g k ≡ None → 0 < left →
      j ≡ target_of h.core s → j < length h.core.modules → after ≡ between ++ record { chain = None; alternative = alternative_of h.core s.production; position = s.position } ∷ [] → IsWalked g loop m count before after j (left - 1)
  walk_next h same m count before between after k left j s w is off some to low written =
      walk_more l f m count before between after k left j s w is off some (subst (λ (z : HeldGrammar). j ≡ target_of z.core s) same to) (subst (λ (z : HeldGrammar). j < length z.core.modules) same low)
      (subst (λ (z : HeldGrammar). after ≡ between ++ record { chain = None; alternative = alternative_of z.core s.production; position = s.position } ∷ []) same written)

  -- all steps are taken, or some, and come to an end or to an atomic module
  pub end_told : (h : HeldGrammar) → h ≡ l.accepted.grammar → (o : Option ChainEnd) (k : ModNo) (m count : ℕ) (before between : List PlaceStep) (left : ℕ) → IsEndAt h.core k o → loop m ≢ None → count < 2 ^ 24 →
      IsWalked g loop m count before between k.0 left → IsWalkEnd g loop k.0 left → continuing g k.0 ≡ None →
      MatchOption o (StopsAlong g loop m (Some count)) (λ e. IsChainTold g loop m (Some count) before between e.module.0 e.last)
  end_told h same None k m count before between left is on few w end off = stops_along l f m count before between k.0 left on few w (subst (λ (z : HeldGrammar). IsAtomic z.core k.0) same is)
  end_told h same (Some e) k m count before between left is on few w end off =
      subst (λ z. IsChainTold g loop m (Some count) before between e.module.0 z) (sym is.1)
      (subst (λ (z : ModNo). IsChainTold g loop m (Some count) before between z.0 None) (sym is.0) (told_all l f m count before between k.0 left on few w end off (subst (λ (z : HeldGrammar). IsComposite z.core k.0) same is.2)))

  -- where there is no loop step, no chain number is read
  pub none_read : (h : HeldGrammar) → h ≡ l.accepted.grammar → (o : Option ChainEnd) (m : ModNo) (bits : List Bool) (before : List PlaceStep) → IsEndAt h.core m o → loop m.0 ≡ None → m.0 < length g.modules →
      MatchOption o (ReadsOut g loop m.0 bits) (λ e. IsChainRead g loop m.0 bits bits before before e.module.0 e.last)
  none_read h same None m bits before is none low = out_here g loop m.0 None bits bits (stops_at l f m.0 (subst (λ (z : HeldGrammar). IsAtomic z.core m.0) same is)) refl
  none_read h same (Some e) m bits before is none low =
      subst (λ z. IsChainRead g loop m.0 bits bits before before e.module.0 z) (sym is.1)
      (subst (λ (z : ModNo). IsChainRead g loop m.0 bits bits before before z.0 None) (sym is.0)
      (record { chain = None; is = refl; told = told_none_at l f m.0 before low none (subst (λ (z : HeldGrammar). IsComposite z.core m.0) same is.2) }))

  -- where there is one, it is
  pub some_read : (o : Option ChainEnd) (m c : ℕ) (old new : List Bool) (before after : List PlaceStep) → MatchOption o (StopsAlong g loop m (Some c)) (λ e. IsChainTold g loop m (Some c) before after e.module.0 e.last) → old ≡ gamma (c + 1) ++ new →
      MatchOption o (ReadsOut g loop m old) (λ e. IsChainRead g loop m old new before after e.module.0 e.last)
  some_read None m c old new before after h is = out_here g loop m (Some c) old new h is
  some_read (Some e) m c old new before after h is = record { chain = Some c; is = is; told = h }
