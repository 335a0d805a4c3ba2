-- Labels that are read, mark by mark.
use Rattle.std.proofs.Common.{◌≡◌, ℕ, ◌^◌, ◌<◌, Bool, true, false, List, [], ◌∷◌, ◌++◌, length, take, sym, ap, ◌∙◌, subst, arith, length-append}
use Rattle.wf_model.specs.declared.body.Step.{Step as StepHeld}
use Rattle.wf_model.specs.Grammar.{head_of}
use Rattle.wf_model.specs.View.{View}
use Rattle.wf_model.specs.Reach.{target_of}
use Rattle.label_model.specs.Continuing.{after}
use Rattle.label_model.specs.Labels.{Label, Input, Output, OfEdge}
use Rattle.wf_recur.specs.Cycles.{step_of}
use Rattle.wf_label.specs.declared.place.Part.{Part}
use Rattle.wf_label.specs.Marks.{Mark, AtInput, AtOutput, Chain, Into, End, AreMarksAt, IsPartRead, AreBehind, mark_of_part}
use Rattle.verdict_model.specs.Verdicts.{IsHidden}
use Rattle.verdict_model.proofs.LabelsTold.{input_untold, output_untold}
use Rattle.wf_vlabel.specs.Seen.{ViewLabelSeen, IsViewLabel, IsLabelOfView, is_expanded}
use Rattle.wf_decode.specs.declared.leg.Leg.{Leg as LegHeld}
use Rattle.wf_decode.specs.declared.leg.Leg.TheVariants.{Into as IntoHeld, Chain as ChainHeld}
use Rattle.wf_decode.specs.Reading.{IsEdgeTold}
use Rattle.wf_decode.specs.Marking.{IsReadTo, AreLeftOf, IsReading, IsReadAt, IsCutWithin, IsChainHeld}
use Rattle.wf_decode.proofs.MarksTaken.{hidden_here, hidden_within, chain_taken, step_taken, end_taken}

-- a mark of a place
abbrev IsOfPlace : Mark → Type 0
IsOfPlace (AtInput p) = ⊥
IsOfPlace (AtOutput p) = ⊥
IsOfPlace (Chain c) = Unit {0}
IsOfPlace (Into s) = Unit {0}
IsOfPlace (End p e) = Unit {0}

-- the leg of continuing steps leads where they lead
pub chain_leads : (l : ViewLabelSeen) (m c k : ℕ) (leg : LegHeld) → IsChainHeld l m c leg k → k ≡ after l.grammar c m
chain_leads l m c k (IntoHeld s) h = absurd h
chain_leads l m c k (ChainHeld o j n) h = h.2.to

-- the part that is read of a place is the first mark that was left of it
pub part_left : (l : ViewLabelSeen) (u : View) (x : Label) (legs : List LegHeld) (m : ℕ) (bits left : List Bool) (part : Part) → IsPartRead l.grammar m bits part left → IsReadAt l u x legs m true bits →
    (rest : List Mark) × IsReading l u x legs m (mark_of_part part ∷ rest) × AreBehind l.grammar part left rest
part_left l u x legs m bits left part read r = let n = read r.0 r.1 in (n.0, subst (IsReading l u x legs m) n.1 r.2, n.2)

module _ (l : ViewLabelSeen) (u : View) (label : IsViewLabel l) (of_view : IsLabelOfView l u) where
  module _ (legs : List LegHeld) (m : ℕ) where
    -- marks of a place are left of the label of an edge
    of_edge : (x : Label) (k : Mark) (marks : List Mark) → IsOfPlace k → AreLeftOf l u x legs m (k ∷ marks) → IsReadTo l u x legs m (k ∷ marks)
    of_edge (Input p) k marks h e = let q : k ≡ AtInput p = cc in absurd (subst IsOfPlace q h)
    of_edge (Output p) k marks h e = let q : k ≡ AtOutput p = cc in absurd (subst IsOfPlace q h)
    of_edge (OfEdge q) k marks h e = e

    edge_left : (x : Label) (marks : List Mark) → IsReadTo l u x legs m marks → AreLeftOf l u x legs m marks
    edge_left (Input p) marks r = absurd (input_untold l.grammar p r.address r.production r.edge r.tells)
    edge_left (Output p) marks r = absurd (output_untold l.grammar p r.address r.production r.edge r.tells)
    edge_left (OfEdge q) marks r = r

    -- a port is left of its label
    input_left : (x : Label) (p : ℕ) (marks : List Mark) → AreLeftOf l u x legs m (AtInput p ∷ marks) → x ≡ Input p
    input_left (Input q) p marks e = let h : q ≡ p = cc in ap Input h
    input_left (Output q) p marks e = absurd (cc)
    input_left (OfEdge q) p marks r = absurd r.ahead

    output_left : (x : Label) (p : ℕ) (marks : List Mark) → AreLeftOf l u x legs m (AtOutput p ∷ marks) → x ≡ Output p
    output_left (Input q) p marks e = absurd (cc)
    output_left (Output q) p marks e = let h : q ≡ p = cc in ap Output h
    output_left (OfEdge q) p marks r = absurd r.ahead

  module _ (x : Label) (legs : List LegHeld) (m : ℕ) (marks : List Mark) where
    -- one leg more, and one mark less
    one_more : (k : Mark) (leg : LegHeld) (to : ℕ) → IsReading l u x legs m (k ∷ marks) → IsReadTo l u x (legs ++ leg ∷ []) to marks → IsReading l u x (legs ++ leg ∷ []) to marks
    one_more k leg to h r = record { left = edge_left (legs ++ leg ∷ []) to x marks r; room = omega (arith, h.room, length-append legs (leg ∷ [])) }

    pub cut_hides : (c : ℕ) → IsReading l u x legs m (Chain c ∷ marks) → IsCutWithin l m c → IsHidden l.grammar u x
    cut_hides c h cut = hidden_within l u label of_view x legs m c marks (of_edge legs m x (Chain c) marks tt h.left) cut

    pub chain_goes : (c : ℕ) (leg : LegHeld) (to : ℕ) → c < 2 ^ 24 → IsReading l u x legs m (Chain c ∷ marks) → IsChainHeld l m c leg to → IsReading l u x (legs ++ leg ∷ []) to marks
    chain_goes c leg to low h held = one_more (Chain c) leg to h (chain_taken l u label of_view x legs m c marks leg to low (of_edge legs m x (Chain c) marks tt h.left) held)

    pub step_goes : (s : StepHeld) (to : ℕ) → to ≡ target_of l.grammar (step_of s) → IsReading l u x legs m (Into (step_of s) ∷ marks) → is_expanded l m ≡ true → IsReading l u x (legs ++ IntoHeld s ∷ []) to marks
    step_goes s to is h e =
        let t = Into (step_of s) in
        let r = of_edge legs m x t marks tt h.left in
        subst (λ z. IsReading l u x (legs ++ IntoHeld s ∷ []) z marks) (sym is)
        (one_more t (IntoHeld s) (target_of l.grammar (step_of s)) h (step_taken l u label of_view x legs m s marks r (ap (is_expanded l) r.ahead.1.head ∙ e)))

    pub end_tells : (p e : ℕ) (all : List LegHeld) (n : ℕ) → take n all ≡ legs → n < length all → IsReading l u x legs m (End p e ∷ marks) → is_expanded l m ≡ true → IsEdgeTold l u x n p e all
    end_tells p e all n are low h f =
        let r = of_edge legs m x (End p e) marks tt h.left in
        end_taken l u label of_view x legs m p e marks all n are low r (ap (is_expanded l) (ap (head_of l.grammar) r.ahead.3 ∙ r.ahead.1.1) ∙ f)

    pub input_told : (p : ℕ) → IsReading l u x legs m (AtInput p ∷ marks) → x ≡ Input p
    input_told p h = input_left legs m x p marks h.left

    pub output_told : (p : ℕ) → IsReading l u x legs m (AtOutput p ∷ marks) → x ≡ Output p
    output_told p h = output_left legs m x p marks h.left

  -- a label is hidden where a part of its place is left at a module that the view does not expand
  pub place_hides : (x : Label) (legs : List LegHeld) (m : ℕ) (told : Bool) (marks : List Mark) → AreMarksAt l.grammar m told marks → IsReading l u x legs m marks → is_expanded l m ≡ false → IsHidden l.grammar u x
  place_hides x legs m told [] a h e = absurd a
  place_hides x legs m told (AtInput p ∷ marks) a h e = absurd a
  place_hides x legs m told (AtOutput p ∷ marks) a h e = absurd a
  place_hides x legs m told (Chain c ∷ marks) a h e = hidden_here l u label of_view x legs m (Chain c ∷ marks) (of_edge legs m x (Chain c) marks tt h.left) e
  place_hides x legs m told (Into s ∷ marks) a h e = hidden_here l u label of_view x legs m (Into s ∷ marks) (of_edge legs m x (Into s) marks tt h.left) e
  place_hides x legs m told (End p f ∷ marks) a h e = hidden_here l u label of_view x legs m (End p f ∷ marks) (of_edge legs m x (End p f) marks tt h.left) e
