-- Of each list of lines one text is said.
use Rattle.std.proofs.Common.{◌≡◌, ◌⊎◌, ℕ, zero, suc, ◌<◌, List, [], ◌∷◌, length, get_or, refl, sym, ap, ◌∙◌, subst, inl, inr, ⊎_elim, arith}
use Rattle.std.proofs.lemmas.Bool.{cases_lt}
use Rattle.std.proofs.lemmas.List.{take_all}
use Rattle.wf_model.specs.Grammar.{Grammar, Assignment}
use Rattle.wf_model.specs.WellFormed.{IsWellFormed}
use Rattle.wf_model.specs.View.{View}
use Rattle.wf_model.specs.declared.event.Event.{Event}
use Rattle.wf_model.specs.Run.{Instance, IsRun}
use Rattle.wf_model.specs.Items.{Item}
use Rattle.wf_model.proofs.Deciding.{Either, all_or_first}
use Rattle.chain_model.specs.Chains.{ChainStep, StepsLead}
use Rattle.wf_reason.specs.declared.turn.Turn.TheVariants.{Item as ItemTurn}
use Rattle.wf_reason.specs.ChainLines.{ChainLine, turn_behind, lines_of}
use Rattle.wf_reason.specs.HandedIn.{HandedLine, said}
use Rattle.wf_reason.specs.Right.{LeadToItem, LeadToInstance, AreRight, none, to_item, to_instance, IsRightUpTo, AreOfChain, IsFirstWrong}
use Rattle.wf_reason.specs.Checked.{IsCheckedText, yes, no, number_behind, yes_line, no_line}
use Rattle.wf_reason.specs.Laws.{HasOneText, OneTextLaw, YesLaw}
use Rattle.wf_reason.proofs.LineLists.{turn_of_lines, via_not_item}
use Rattle.wf_reason.proofs.Onward.{instance_turn, chain_right}
use Rattle.wf_reason.proofs.RightOrNot.{up_to_either, right_down}

module _ (g : Grammar) (u : View) (d : Assignment) (m : ℕ) (events : List Event) where
  -- lines of a chain are those of an item, an instance and an item at least
  pub chain_longer : (lines : List ChainLine) → AreOfChain g u d m events lines → 1 < length lines
  chain_longer lines h = go h.steps h.chain.some h.are
    where
      go : (steps : List ChainStep) → 0 < length steps → lines ≡ lines_of h.from steps → 1 < length lines
      go [] some e = absurd (omega arith)
      go (s ∷ steps) some e = let n : length lines ≡ length (lines_of h.from (s ∷ steps)) = ap (λ (l : List ChainLine). length l) e in omega (arith, n)

  -- lines that lead to an item are those of a chain, or there is one line
  pub chain_or_one : (lines : List ChainLine) (y : Item) → LeadToItem g u d m events lines y → AreOfChain g u d m events lines ⊎ (length lines ≡ 1)
  chain_or_one lines y h = go h.steps h.steps_lead h.are
    where
      go : (steps : List ChainStep) → StepsLead g u d m events h.first steps y → lines ≡ lines_of h.first steps → AreOfChain g u d m events lines ⊎ (length lines ≡ 1)
      go [] lead e = inr (ap (λ (l : List ChainLine). length l) e)
      go (s ∷ steps) lead e = inl (record { from = h.first; steps = s ∷ steps; to = y; chain = record { there = h.there; visible = h.visible; some = omega arith; steps_lead = lead }; are = e })

  -- no chain ends with the line of an instance
  pub no_chain_ends : (lines : List ChainLine) (n : Instance) → LeadToInstance g u d m events lines n → ¬ AreOfChain g u d m events lines
  no_chain_ends lines n h c = via_not_item (sym (turn_of_lines c.from c.steps) ∙ (sym (ap (turn_behind ItemTurn) c.are) ∙ instance_turn g u d m events lines n h))

  -- right lines are those of a chain, or they are not
  pub chain_or_not : (lines : List ChainLine) → AreRight g u d m events lines → Either (AreOfChain g u d m events lines)
  chain_or_not lines (none e) = inr (λ h. let l = chain_longer lines h in let n : length lines ≡ 0 = ap (λ (z : List ChainLine). length z) e in absurd (omega arith))
  chain_or_not lines (to_item y h) = go (chain_or_one lines y h)
    where
      go : AreOfChain g u d m events lines ⊎ (length lines ≡ 1) → Either (AreOfChain g u d m events lines)
      go (inl c) = inl c
      go (inr n) = inr (λ c. let l = chain_longer lines c in absurd (omega arith))
  chain_or_not lines (to_instance n h) = inr (no_chain_ends lines n h)

  -- all lines are right, and no chain ends with the last
  pub all_right : (lines : List ChainLine) → AreRight g u d m events lines → (¬ AreOfChain g u d m events lines) → IsFirstWrong g u d m events lines (length lines)
  all_right lines r not = record {
    no_chain = not;
    within = omega arith;
    right = subst (AreRight g u d m events) (sym (take_all (length lines) lines (omega arith))) r;
    most = λ j h q. h;
  }

  -- k lines are right, and one more are not
  pub wrong_behind : (lines : List ChainLine) (k : ℕ) → k < length lines → IsRightUpTo g u d m events lines k → ¬ IsRightUpTo g u d m events lines (suc k) → IsFirstWrong g u d m events lines k
  wrong_behind lines k h r not = record {
    no_chain = λ c. not (right_down g u d m events lines (suc k) (length lines) (omega arith) (omega arith) (subst (AreRight g u d m events) (sym (take_all (length lines) lines (omega arith))) (chain_right g u d m events lines c)));
    within = omega arith;
    right = r;
    most = λ j w q. ⊎_elim (λ l. omega arith) (λ l. absurd (not (right_down g u d m events lines (suc k) j l w q))) (cases_lt j (suc k));
  }

  module _ (wf : IsWellFormed g) (run : IsRun g m events) where
    -- lines are those of a chain, or one of them is the first wrong one, or would be
    pub chain_or_wrong : (lines : List ChainLine) → AreOfChain g u d m events lines ⊎ ((k : ℕ) × IsFirstWrong g u d m events lines k)
    chain_or_wrong lines = go (all_or_first (IsRightUpTo g u d m events lines) (suc (length lines)) (λ k h. up_to_either g u d m events wf run lines k))
      where
        whole : AreRight g u d m events lines → Either (AreOfChain g u d m events lines) → AreOfChain g u d m events lines ⊎ ((k : ℕ) × IsFirstWrong g u d m events lines k)
        whole r (inl c) = inl c
        whole r (inr not) = inr (length lines, all_right lines r not)

        part : (k : ℕ) → k < suc (length lines) → ¬ IsRightUpTo g u d m events lines k → ((j : ℕ) → j < k → IsRightUpTo g u d m events lines j) → (k : ℕ) × IsFirstWrong g u d m events lines k
        part zero h not before = absurd (not (none refl))
        part (suc k) h not before = (k, wrong_behind lines k (omega arith) (before k (omega arith)) not)

        go : ((k : ℕ) → k < suc (length lines) → IsRightUpTo g u d m events lines k) ⊎ ((k : ℕ) × (k < suc (length lines)) × (IsRightUpTo g u d m events lines k → ⊥) × ((j : ℕ) → j < k → IsRightUpTo g u d m events lines j)) →
            AreOfChain g u d m events lines ⊎ ((k : ℕ) × IsFirstWrong g u d m events lines k)
        go (inl all) = let r = subst (AreRight g u d m events) (take_all (length lines) lines (omega arith)) (all (length lines) (omega arith)) in whole r (chain_or_not lines r)
        go (inr f) = inr (part f.0 f.1 f.2 f.3)

  -- one line alone is the first wrong one
  pub one_wrong : (lines : List ChainLine) (j k : ℕ) → IsFirstWrong g u d m events lines j → IsFirstWrong g u d m events lines k → j ≡ k
  one_wrong lines j k a b = let p = a.most k b.within b.right in let q = b.most j a.within a.right in omega arith

  pub one_text : (lines : List HandedLine) (t s : List ℕ) → IsCheckedText g u d m events lines t → IsCheckedText g u d m events lines s → t ≡ s
  one_text lines t s (yes c e) (yes b f) = e ∙ sym f
  one_text lines t s (yes c e) (no k w f) = absurd (w.no_chain c)
  one_text lines t s (no k w e) (yes c f) = absurd (w.no_chain c)
  one_text lines t s (no j a e) (no k b f) = e ∙ (ap (λ n. no_line (number_behind 0 lines n)) (one_wrong (said lines) j k a b) ∙ sym f)

pub one_text_law : OneTextLaw
one_text_law g u d wf events run lines = go (chain_or_wrong g u d g.start events wf run (said lines))
  where
    with_text : (text : List ℕ) → IsCheckedText g u d g.start events lines text → HasOneText g u d events lines
    with_text text is = record { text = text; is = is; one = λ other h. one_text g u d g.start events lines other text h is }

    go : AreOfChain g u d g.start events (said lines) ⊎ ((k : ℕ) × IsFirstWrong g u d g.start events (said lines) k) → HasOneText g u d events lines
    go (inl c) = with_text yes_line (yes c refl)
    go (inr w) = with_text (no_line (number_behind 0 lines w.0)) (no w.0 w.1 refl)

-- `yes` and `no` begin with different letters
pub yes_law : YesLaw
yes_law g u d m events lines = (
  (λ h. go h),
  (λ c. yes c refl),
)
  where
    go : IsCheckedText g u d m events lines yes_line → AreOfChain g u d m events (said lines)
    go (yes c e) = c
    go (no k w e) = let z : 121 ≡ 110 = ap (λ (l : List ℕ). get_or l 0 0) e in absurd (omega (arith, z))
