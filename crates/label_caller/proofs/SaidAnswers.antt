-- What an answer from the entries of a label file says.
use Rattle.std.proofs.Common.{◌⊎◌, ℕ, List, sym, subst, inl, inr}
use Rattle.wf_model.specs.View.{View}
use Rattle.label_model.specs.Labels.{Label}
use Rattle.label_model.specs.Files.{Entry}
use Rattle.verdict_model.specs.declared.verdict.Verdict.{Verdict}
use Rattle.verdict_model.specs.declared.verdict.Verdict.TheVariants.{Hidden1, Hidden2, Clash as ClashTold, Yes as YesTold, No as NoTold}
use Rattle.verdict_model.specs.Verdicts.{IsHidden, AreShown, AreClashing, AlwaysDepends, NeverDepends}
use Rattle.verdict_model.proofs.Answering.{one_answer_induced}
use Rattle.wf_vlabel.specs.Seen.{ViewLabelSeen, IsViewLabel, IsLabelOfView, full_in, matrices_of}
use Rattle.wf_query.specs.declared.answers.Answer.{Answer}
use Rattle.wf_query.specs.Answers.{AreDecided, IsAnswerOfLabels, answer_of}
use Rattle.label_caller.specs.Answers.{HoldsOfLabels, AreFit, Says}

module _ (l : ViewLabelSeen) (u : View) (label : IsViewLabel l) (of : IsLabelOfView l u) (es : List Entry) (first second : List ℕ) where
  -- what holds of the labels that were decided holds of the labels of two entries
  with_labels : (v : Verdict) (d : AreDecided l.grammar u es first second v) (Fact : Label → Label → Type 0) → Fact d.x d.y → HoldsOfLabels l.grammar es first second Fact
  with_labels v d Fact fact = record { x = d.x; y = d.y; first_entry = d.first_entry; second_entry = d.second_entry; fact = fact }

  -- where the second item does not always depend on the first, it never does
  never : (x y : Label) → AreShown l.grammar u x y → (AlwaysDepends l.grammar u x y → ⊥) → NeverDepends l.grammar u x y
  never x y shown not events more s t both depends = not (one_answer_induced l.grammar u (full_in (matrices_of l)) label.formed of.induced x y shown events more s t both depends)

  -- the answer that a verdict is says what the verdict does
  verdict_says : (v : Verdict) → AreDecided l.grammar u es first second v → Says l.grammar u es first second (answer_of v)
  verdict_says Hidden1 d = with_labels Hidden1 d (λ x y. IsHidden l.grammar u x ⊎ IsHidden l.grammar u y) (inl d.verdict)
  verdict_says Hidden2 d = with_labels Hidden2 d (λ x y. IsHidden l.grammar u x ⊎ IsHidden l.grammar u y) (inr d.verdict.1)
  verdict_says ClashTold d = with_labels ClashTold d (λ x y. AreShown l.grammar u x y × AreClashing l.grammar x y) d.verdict
  verdict_says YesTold d = with_labels YesTold d (λ x y. AreFit l.grammar u x y × AlwaysDepends l.grammar u x y) ((d.verdict.0, d.verdict.1), d.verdict.2)
  verdict_says NoTold d = with_labels NoTold d (λ x y. AreFit l.grammar u x y × NeverDepends l.grammar u x y) ((d.verdict.0, d.verdict.1), never d.x d.y d.verdict.0 d.verdict.2)

  -- an answer from the entries says what its case does
  pub answer_says : (a : Answer) → IsAnswerOfLabels l.grammar u es first second a → Says l.grammar u es first second a
  answer_says a (inl p) = subst (λ z. Says l.grammar u es first second z) (sym p.1) p.0
  answer_says a (inr p) = subst (λ z. Says l.grammar u es first second z) (sym p.2) (verdict_says p.0 p.1)
