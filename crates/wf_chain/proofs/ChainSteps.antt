-- Steps that are gone through one after the other, and those that are left.
use Rattle.std.proofs.Common.{◌≡◌, ℕ, ◌+◌, ◌<◌, ◌≤◌, List, [], ◌∷◌, drop, length, get_or, refl, sym, ap, subst, ◌∙◌}
use Rattle.std.specs.Prelude.{◌↔◌}
use Rattle.std.proofs.lemmas.List.{drop_more, drop_all, length-map}
use Rattle.wf_model.specs.Lists.{IsIn}
use Rattle.wf_model.specs.Items.{Item}
use Rattle.wf_model.proofs.Lists.{at_in, is_at}
use Rattle.wf_flat.specs.declared.item.Item.{Item as ItemHeld}
use Rattle.wf_chain.specs.declared.chain.ChainStep.{ChainStep as StepHeld}
use Rattle.wf_chain.specs.ViewedRuns.{ViewedRunValue, IsVisibleIn}
use Rattle.wf_chain.specs.declared.chain.WrongStep.{WrongStep}
use Rattle.wf_chain.specs.declared.chain.WrongStep.TheVariants.{Via, Onward}
use Rattle.wf_chain.specs.Steps.{GoesOn, IsStepIn, IsWrong, step_in}
use Rattle.wf_chain.specs.Chains.{AreStepsTo, IsChainTo, end_in}

-- the steps from the first item are a chain exactly if those that are left are one from where they begin
pub record IsLeft (v : ViewedRunValue) (first : ItemHeld) (all : List StepHeld) (at : ItemHeld) (left : List StepHeld) : Type 0 where
  pub visible : IsVisibleIn v at
  pub end : end_in v at left ≡ end_in v first all
  pub leads : (y : Item) → AreStepsTo v first all y ↔ AreStepsTo v at left y

pub all_left : (v : ViewedRunValue) (first : ItemHeld) (all : List StepHeld) → IsVisibleIn v first → IsLeft v first all first all
all_left v first all h = record { visible = h; end = refl; leads = λ y. ((λ x. x), (λ x. x)) }

module _ (v : ViewedRunValue) (first : ItemHeld) (all : List StepHeld) (at : ItemHeld) (s : StepHeld) (rest : List StepHeld) (h : IsLeft v first all at (s ∷ rest)) where
  -- one step on
  one_on : GoesOn v at s → IsStepIn v s → IsLeft v first all s.item rest
  one_on g held = record {
    visible = record { held = held.item; visible = g.visible };
    end = h.end;
    leads = λ y. ((λ x. ((h.leads y).0 x).1), (λ x. (h.leads y).1 (g, x)));
  }

  -- a step that does not go on
  stuck : (GoesOn v at s → ⊥) → (y : Item) → AreStepsTo v first all y → ⊥
  stuck wrong y x = wrong ((h.leads y).0 x).0

-- a step that is wrong does not go on
wrong_stuck : (v : ViewedRunValue) (i : ItemHeld) (s : StepHeld) (w : WrongStep) → IsWrong v i s w → GoesOn v i s → ⊥
wrong_stuck v i s Via h g = let x = g.through in h (record { seen = x.seen; not_open = x.not_open; from = x.from; i = x.i; consumed = x.consumed; entries = x.entries; input_there = x.input_there })
wrong_stuck v i s Onward h g = h.1 g

module _ (v : ViewedRunValue) (first : ItemHeld) (all : List StepHeld) (at : ItemHeld) (k : ℕ) (read : List StepHeld) (d : StepHeld) (same : read ≡ all) (there : k < length read) where
  abbrev next : StepHeld
  next = get_or read k d

  low : k < length all
  low = subst (λ (l : List StepHeld). k < length l) same there

  next_is : next ≡ get_or all k d
  next_is = ap (λ l. get_or l k d) same

  left_is : drop k all ≡ next ∷ drop (k + 1) all
  left_is = drop_more all k d low ∙ ap (λ s. s ∷ drop (k + 1) all) (sym next_is)

  -- a step that is read is one of them
  pub next_in : IsIn next all
  next_in = subst (λ s. IsIn s all) (sym next_is) (at_in (get_or all k d) k all (is_at k all d low))

  module _ (h : IsLeft v first all at (drop k all)) where
    left : IsLeft v first all at (next ∷ drop (k + 1) all)
    left = subst (IsLeft v first all at) left_is h

    pub next_on : GoesOn v at next → IsStepIn v next → IsLeft v first all next.item (drop (k + 1) all)
    next_on = one_on v first all at next (drop (k + 1) all) left

    pub next_stuck : (w : WrongStep) → IsWrong v at next w → (y : Item) → AreStepsTo v first all y → ⊥
    next_stuck w wrong = stuck v first all at next (drop (k + 1) all) left (wrong_stuck v at next w wrong)

-- none is left
none_left : (v : ViewedRunValue) (first : ItemHeld) (all : List StepHeld) (at : ItemHeld) → IsLeft v first all at [] → AreStepsTo v first all (end_in v first all)
none_left v first all at h = (h.leads (end_in v first all)).1 h.end

-- past the last all of them were gone through
pub all_gone : (v : ViewedRunValue) (first : ItemHeld) (all : List StepHeld) (at : ItemHeld) (k : ℕ) → length all ≤ k → IsLeft v first all at (drop k all) → AreStepsTo v first all (end_in v first all)
all_gone v first all at k past h = none_left v first all at (subst (IsLeft v first all at) (drop_all k all past) h)

-- some steps that go on from a visible item are a chain
pub chain_told : (v : ViewedRunValue) (first : ItemHeld) (all : List StepHeld) (y : Item) → IsVisibleIn v first → 0 < length all → AreStepsTo v first all y → IsChainTo v first all y
chain_told v first all y visible some h = record { there = visible.held.there; visible = visible.visible; some = subst (λ n. 0 < n) (sym (length-map all (step_in v))) some; steps_lead = h }
