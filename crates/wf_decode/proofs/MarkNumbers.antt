-- A label has few marks, and with all of them left it is read from the start.
use Rattle.std.proofs.Common.{◌≡◌, ℕ, ◌+◌, ◌≤◌, ◌&&◌, false, cond, List, [], ◌∷◌, ◌++◌, length, count_by, is_some, Option, Some, None, refl, ◌∙◌, arith}
use Rattle.std.proofs.lemmas.List.Sums.{count_by-le-length}
use Rattle.wf_model.specs.Lists.{numbers_from}
use Rattle.wf_model.specs.Grammar.{Grammar}
use Rattle.wf_model.specs.WellFormed.{IsWellFormed}
use Rattle.wf_model.specs.View.{View}
use Rattle.wf_model.specs.Reach.{target_of}
use Rattle.wf_model.specs.Linear.{IsLinear}
use Rattle.wf_model.proofs.NumberLists.{length-numbers}
use Rattle.label_model.specs.Continuing.{continuing, is_least}
use Rattle.label_model.specs.Labels.{PlaceStep, Label, Input, Output, OfEdge, IsLabel}
use Rattle.label_model.proofs.Visits.{count_cons, one_visit_law}
use Rattle.verdict_model.proofs.LabelsTold.{telling_law}
use Rattle.wf_label.specs.Marks.{Mark, Into, chain_marks, step_at, place_marks, marks_of}
use Rattle.wf_vlabel.specs.Seen.{ViewLabelSeen, IsViewLabel}
use Rattle.wf_decode.specs.Reading.{most_legs}
use Rattle.wf_decode.specs.Marking.{AreLeftOf, IsReading}
use Rattle.wf_decode.proofs.AddressMarks.{address_marks}
use Rattle.wf_model.specs.Composite.{is_composite}

-- one mark for a number of continuing steps, if it is there
length-chain_marks : (c : Option ℕ) (ms : List Mark) → length (chain_marks c ++ ms) ≡ cond (is_some c) 1 0 + length ms
length-chain_marks None ms = omega arith
length-chain_marks (Some c) ms = omega arith

length-place_marks : (g : Grammar) (m : ℕ) (steps : List PlaceStep) (c : Option ℕ) (a e : ℕ) →
    length (place_marks g m steps c a e) ≡ (length steps + (count_by (λ (s : PlaceStep). is_some s.chain) steps + cond (is_some c) 1 0)) + 1
length-place_marks g m [] c a e = length-chain_marks c _ ∙ (let h : cond (is_some c) 1 0 + 1 ≡ (0 + (0 + cond (is_some c) 1 0)) + 1 = omega arith in h)
length-place_marks g m (s ∷ steps) c a e =
    omega (arith, length-chain_marks s.chain (Into (step_at g m s) ∷ place_marks g (target_of g (step_at g m s)) steps c a e), length-place_marks g (target_of g (step_at g m s)) steps c a e, count_cons s steps)

marks_few : (g : Grammar) → IsWellFormed g → IsLinear g → (x : Label) → IsLabel g x → length (marks_of g x) ≤ most_legs g
marks_few g wf lin (Input p) h = let low = wf.start in omega arith
marks_few g wf lin (Output p) h = let low = wf.start in omega arith
marks_few g wf lin (OfEdge q) h =
    let few = one_visit_law g wf lin g.start q wf.start h in
    let numbers = numbers_from 0 (length g.modules) in
    let n = length-numbers 0 (length g.modules) in
    let a = count_by-le-length (λ m. is_composite g m && is_least g m) numbers in
    let b = count_by-le-length (λ m. is_some (continuing g m) && is_least g m) numbers in
    omega (arith, few.0, few.1, length-place_marks g g.start q.steps q.chain q.alternative q.edge)

module _ (l : ViewLabelSeen) (u : View) (label : IsViewLabel l) where
  all_left : (x : Label) → IsLabel l.grammar x → AreLeftOf l u x [] l.grammar.start (marks_of l.grammar x)
  all_left (Input p) h = refl
  all_left (Output p) h = refl
  all_left (OfEdge q) h =
      let t = (telling_law l.grammar label.formed).each q h in
      record {
        address = t.0;
        production = t.1;
        edge = t.2;
        tells = t.3;
        gone = [];
        rest = t.0;
        parts = refl;
        told = false;
        ahead = address_marks l.grammar label.formed label.linear (OfEdge q) t.0 t.1 t.2 t.3;
        at = refl;
        open_route = tt;
        held = λ more w. w;
        steps = refl;
      }

  -- a label is read from the start
  pub reading_starts : (x : Label) → IsLabel l.grammar x → IsReading l u x [] l.grammar.start (marks_of l.grammar x)
  reading_starts x h = let few = marks_few l.grammar label.formed label.linear x h in record { left = all_left x h; room = omega (arith, few) }
