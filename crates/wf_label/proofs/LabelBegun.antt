-- What is read from the front of a label begins with it.
use Rattle.std.proofs.Common.{◌≡◌, ◌++◌, Bool, List, refl, ap, ◌∙◌}
use Rattle.wf_model.specs.Grammar.{Grammar}
use Rattle.label_model.specs.Labels.{Label, label_bits, IsLabel}
use Rattle.wf_label.specs.Marks.{marks_of, BeginLabel, IsBegunBy}

pub label_begun : (g : Grammar) (bits left : List Bool) (l : Label) → IsBegunBy bits left → IsLabel g l → bits ≡ label_bits l → BeginLabel g left (marks_of g l)
label_begun g bits left l begun of_it e = record {
  label = l;
  of_it = of_it;
  behind = begun.0;
  is = begun.1 ∙ ap (λ z. z ++ begun.0) e;
  marks_are = refl;
}
