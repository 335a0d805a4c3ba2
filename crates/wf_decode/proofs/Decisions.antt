-- The verdict on two labels, from the answer of their ports.
use Rattle.std.proofs.Common.{◌≡◌, ◌≢◌, ℕ, List, [], ◌∷◌, ◌++◌, refl, sym, ◌∙◌, subst, ⊎_elim}
use Rattle.wf_model.specs.Grammar.{Grammar}
use Rattle.wf_model.specs.WellFormed.{IsWellFormed}
use Rattle.wf_model.specs.View.{View}
use Rattle.wf_model.specs.Reach.{Step}
use Rattle.wf_model.specs.Routes.{Agree}
use Rattle.label_model.specs.Labels.{Label, Input, Output, OfEdge, IsLabel}
use Rattle.verdict_model.specs.declared.verdict.Verdict.{Verdict}
use Rattle.verdict_model.specs.declared.verdict.Verdict.TheVariants.{Hidden1, Hidden2, Clash, Yes, No}
use Rattle.verdict_model.specs.Telling.{ConsumedAt, ProducedAt}
use Rattle.verdict_model.specs.Verdicts.{IsHidden, AreShown, AreClashing, NeverDepends, AlwaysDepends}
use Rattle.verdict_model.specs.Laws.{IsAnswered}
use Rattle.verdict_model.proofs.Naming.{input_unnamed, output_unnamed}
use Rattle.verdict_model.proofs.Hiding.{input_shown, output_shown}
use Rattle.verdict_model.proofs.Clashing.{child_of, parting_or_agree, agree_not_parting, clash_parting, parting_clash, agreed_at}
use Rattle.verdict_model.proofs.Answering.{answer_induced}
use Rattle.wf_vlabel.specs.Seen.{ViewLabelSeen, IsLabelOfView, IsViewLabel, matrices_of, full_in}
use Rattle.wf_decode.specs.Parting.{AreClashingSteps}
use Rattle.wf_decode.specs.declared.leg.Leg.{Leg as LegHeld}
use Rattle.wf_decode.specs.declared.decision.ends.End.{End}
use Rattle.wf_decode.specs.declared.decision.ends.End.TheVariants.{Hidden, Nowhere, At}
use Rattle.wf_decode.specs.Ends.{IsProducingEnd}
use Rattle.wf_decode.specs.Answers.{IsAnswerOfAddresses, IsDecision}

-- the empty address clashes with none
not_empty : (common rest : List Step) (s : Step) → [] ≡ common ++ s ∷ rest → ⊥
not_empty [] rest s e = cc
not_empty (t ∷ common) rest s e = cc

agree_not_clash : (a b : List Step) → Agree a b → AreClashingSteps a b → ⊥
agree_not_clash a b h x =
    let w = subst (λ z. Agree z (x.common ++ x.second ∷ x.second_rest)) x.first_is (subst (λ z. Agree a z) x.second_is h) in
    x.differ (agreed_at x.common x.first x.second x.first_rest x.second_rest w)

-- labels whose addresses agree do not clash
labels_agree : (g : Grammar) → IsWellFormed g → (x y : Label) (a b : List Step) (i o : ℕ) → ConsumedAt g x a i → ProducedAt g y b o → Agree a b → AreClashing g x y → ⊥
labels_agree g wf (Input k) y a b i o c p agree h = input_unnamed g k h.0 h.1 h.3
labels_agree g wf (Output k) y a b i o c p agree h = absurd c
labels_agree g wf (OfEdge q) (Input k) a b i o c p agree h = absurd p
labels_agree g wf (OfEdge q) (Output k) a b i o c p agree h = output_unnamed g k h.0 h.2 h.4
labels_agree g wf (OfEdge q) (OfEdge r) a b i o c p agree h =
    let w = subst (λ z. Agree z (child_of p.0 p.1 p.3.from.position)) c.6 (subst (λ z. Agree a z) p.6 agree) in
    agree_not_parting c.0 p.0 c.1 p.1 c.3.to.position p.3.from.position w (clash_parting g wf (OfEdge q) (OfEdge r) c.0 p.0 c.1 p.1 c.2 p.2 c.4 p.4 h)

-- labels whose addresses clash clash
labels_clash : (g : Grammar) → IsWellFormed g → (x y : Label) (a b : List Step) (i o : ℕ) → ConsumedAt g x a i → ProducedAt g y b o → AreClashingSteps a b → AreClashing g x y
labels_clash g wf (Input k) y a b i o c p h = absurd (not_empty h.common h.first_rest h.first (sym c.0 ∙ h.first_is))
labels_clash g wf (Output k) y a b i o c p h = absurd c
labels_clash g wf (OfEdge q) (Input k) a b i o c p h = absurd p
labels_clash g wf (OfEdge q) (Output k) a b i o c p h = absurd (not_empty h.common h.second_rest h.second (sym p.0 ∙ h.second_is))
labels_clash g wf (OfEdge q) (OfEdge r) a b i o c p h = ⊎_elim
    (λ w. parting_clash g wf (OfEdge q) (OfEdge r) c.0 p.0 c.1 p.1 c.2 p.2 c.4 p.4 w)
    (λ w. absurd (agree_not_clash a b (subst (λ z. Agree z b) (sym c.6) (subst (λ z. Agree (child_of c.0 c.1 c.3.to.position) z) (sym p.6) w)) h))
    (parting_or_agree c.1 p.1 c.3.to.position p.3.from.position c.0 p.0)

module _ (l : ViewLabelSeen) (is : IsViewLabel l) (u : View) (of : IsLabelOfView l u) (x y : Label) (lx : IsLabel l.grammar x) (ly : IsLabel l.grammar y) where
  answered : AreShown l.grammar u x y → (AreClashing l.grammar x y → ⊥) → IsAnswered l.grammar u (full_in (matrices_of l)) x y
  answered = answer_induced l.grammar u (full_in (matrices_of l)) is.formed is.proper of.is_view.expanded of.induced x y lx ly

  decision_no : AreShown l.grammar u x y → (AreClashing l.grammar x y → ⊥) → NeverDepends l.grammar u x y × (AlwaysDepends l.grammar u x y → ⊥) → IsDecision l.grammar u x y No
  decision_no shown apart n = record { verdict = (shown, apart, n.1); never = λ e. n.0 }

  -- the answer of the ports where the first item is consumed and the second is produced
  pub decided : (a b : List Step) (i o : ℕ) (v : Verdict) → ConsumedAt l.grammar x a i → ProducedAt l.grammar y b o → AreShown l.grammar u x y → IsAnswerOfAddresses l.grammar (full_in (matrices_of l)) a b i o v → IsDecision l.grammar u x y v
  decided a b i o Hidden1 c p shown h = absurd h
  decided a b i o Hidden2 c p shown h = absurd h
  decided a b i o Clash c p shown h = record { verdict = (shown, labels_clash l.grammar is.formed x y a b i o c p h); never = λ e. absurd (cc) }
  decided a b i o Yes c p shown h =
      let apart = labels_agree l.grammar is.formed x y a b i o c p h.0 in
      record { verdict = (shown, apart, (answered shown apart).yes a b i o c p h.1); never = λ e. absurd (cc) }
  decided a b i o No c p shown h =
      let apart = labels_agree l.grammar is.formed x y a b i o c p h.0 in
      decision_no shown apart ((answered shown apart).no a b i o c p h.1)

  -- nothing depends on an output of the root
  pub unconsumed : (p : ℕ) → x ≡ Output p → (IsHidden l.grammar u y → ⊥) → IsDecision l.grammar u x y No
  unconsumed p e s =
      let shown : AreShown l.grammar u x y = (subst (λ z. IsHidden l.grammar u z → ⊥) (sym e) (output_shown l.grammar u p), s) in
      let apart : AreClashing l.grammar x y → ⊥ = subst (λ z. AreClashing l.grammar z y → ⊥) (sym e) (λ h. output_unnamed l.grammar p h.0 h.1 h.3) in
      decision_no shown apart ((answered shown apart).from_output p e)

  -- and no input of it depends on anything
  pub unproduced : (p : ℕ) → y ≡ Input p → (IsHidden l.grammar u x → ⊥) → IsDecision l.grammar u x y No
  unproduced p e s =
      let shown : AreShown l.grammar u x y = (s, subst (λ z. IsHidden l.grammar u z → ⊥) (sym e) (input_shown l.grammar u p)) in
      let apart : AreClashing l.grammar x y → ⊥ = subst (λ z. AreClashing l.grammar x z → ⊥) (sym e) (λ h. input_unnamed l.grammar p h.0 h.2 h.4) in
      decision_no shown apart ((answered shown apart).to_input p e)

-- a label that was not found to be hidden is not, wherever its item is produced
pub producing_shown : (l : ViewLabelSeen) (u : View) (y : Label) (e : End) (legs : List LegHeld) → e ≢ Hidden → IsProducingEnd l u y e legs → IsHidden l.grammar u y → ⊥
producing_shown l u y Hidden legs n h = absurd (n refl)
producing_shown l u y Nowhere legs n h = subst (λ z. IsHidden l.grammar u z → ⊥) (sym h.1) (input_shown l.grammar u h.0)
producing_shown l u y (At k o) legs n h = h.shown
