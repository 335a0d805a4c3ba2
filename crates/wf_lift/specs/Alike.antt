-- Views that perceive the same.
use Rattle.std.specs.Prelude.{◌≡◌, ◌↔◌, ℕ}
use Rattle.wf_model.specs.Grammar.{Grammar}
use Rattle.wf_model.specs.View.{View, expands}
use Rattle.wf_model.specs.Links.{perceived}
use Rattle.wf_model.specs.Safe.{IsSafe}
use Rattle.label_model.specs.Labels.{Label}
use Rattle.verdict_model.specs.declared.verdict.Verdict.{Verdict}
use Rattle.verdict_model.specs.Verdicts.{IsVerdict}

-- two views expand the same modules, and perceive the same pairs of the others
pub record PerceiveAlike (u w : View) : Type 0 where
  pub expanded : (m : ℕ) → expands u m ≡ expands w m
  pub perceived : (m i o : ℕ) → perceived u m i o ≡ perceived w m i o

-- such views are safe both or neither, and give two labels the same verdict
abbrev pub PerceivedAlikeLaw : Type 0
PerceivedAlikeLaw =
    (g : Grammar) (u w : View) → PerceiveAlike u w → record {
      safe : IsSafe g u ↔ IsSafe g w;
      verdict : (x y : Label) (v : Verdict) → IsVerdict g u x y v ↔ IsVerdict g w x y v;
    }
