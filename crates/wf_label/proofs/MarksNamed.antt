-- What the marks of a label name is there in the grammar.
use Rattle.std.proofs.Common.{◌≡◌, ℕ, Bool, false, true, List, ◌∷◌, refl, sym, ◌∙◌, subst}
use Rattle.wf_model.specs.Grammar.{Grammar}
use Rattle.label_model.specs.Labels.{Label, Input, Output, OfEdge, IsLabel}
use Rattle.wf_label.specs.declared.cursor.Ahead.{Ahead}
use Rattle.wf_label.specs.declared.cursor.Ahead.TheVariants.{Whole, Entered, Passed, Nothing}
use Rattle.wf_label.specs.Marks.{Mark, AtInput, AtOutput, Chain, Into, End, IsMarkOf, marks_of, AreMarksAt, AreAhead}
use Rattle.wf_label.proofs.MarksSpelled.{place_spelled}

module _ (g : Grammar) where
  marks_named : (m : ℕ) (told : Bool) (k : Mark) (rest : List Mark) → AreMarksAt g m told (k ∷ rest) → IsMarkOf g k
  marks_named m told (AtInput p) rest a = absurd a
  marks_named m told (AtOutput p) rest a = absurd a
  marks_named m told (Chain c) rest a = a.2
  marks_named m told (Into s) rest a = record { in_range = a.1.in_range; head = refl; position = a.1.position }
  marks_named m told (End p e) rest a = (a.1.0, a.2)

  label_named : (l : Label) (k : Mark) (rest : List Mark) → IsLabel g l → marks_of g l ≡ k ∷ rest → IsMarkOf g k
  label_named (Input p) k rest h e = let q : AtInput p ≡ k = cc in subst (IsMarkOf g) q h
  label_named (Output p) k rest h e = let q : AtOutput p ≡ k = cc in subst (IsMarkOf g) q h
  label_named (OfEdge p) k rest h e = marks_named g.start false k rest (subst (AreMarksAt g g.start false) e (place_spelled g g.start p.steps p.chain p.alternative p.edge h).of_it)

  -- the first mark of what is ahead names what is there
  pub first_named : (ahead : Ahead) (bits : List Bool) (marks : List Mark) (k : Mark) (rest : List Mark) → AreAhead g ahead bits marks → marks ≡ k ∷ rest → IsMarkOf g k
  first_named Whole bits marks k rest h e = label_named h.label k rest h.of_it (sym h.marks_are ∙ e)
  first_named (Entered m) bits marks k rest h e = marks_named m.0 false k rest (subst (AreMarksAt g m.0 false) e h.of_it)
  first_named (Passed m) bits marks k rest h e = marks_named m.0 true k rest (subst (AreMarksAt g m.0 true) e h.of_it)
  first_named Nothing bits marks k rest h e = absurd (cc)
