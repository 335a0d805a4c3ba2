-- The last part of a label, by its marks and by its bits.
use Rattle.std.proofs.Common.{◌≡◌, ℕ, ◌+◌, ◌-◌, ◌^◌, ◌<◌, ◌≤◌, Bool, false, List, [], ◌∷◌, ◌++◌, length, Option, Some, None, refl, sym, ap, ◌∙◌, subst, arith, append_assoc, length-append}
use Rattle.wf_model.specs.Grammar.{Grammar}
use Rattle.wf_model.specs.WellFormed.{IsWellFormed}
use Rattle.wf_model.specs.Linear.{IsLinear}
use Rattle.wf_model.specs.Reach.{target_of}
use Rattle.bit_pack.specs.Gamma.{gamma}
use Rattle.label_model.specs.Labels.{PlaceStep, Label, Input, Output, OfEdge, chain_bits, prefix_bits, label_bits, IsLabel}
use Rattle.label_model.proofs.LabelRoom.{room_law}
use Rattle.wf_label.specs.Marks.{Mark, Into, End, CursorSeen, AreLeft, production_by, passed, chain_marks, step_at, place_marks, marks_of}
use Rattle.wf_label.specs.Values.{AreLabelBits}
use Rattle.wf_words.specs.LastParts.{port_or_edge, bits_to_number, IsLastPart, number_by}

-- the number of the last port or edge that marks name, and otherwise the one before
abbrev pub number_in : ℕ → List Mark → ℕ
number_in n [] = n
number_in n (m ∷ ms) = number_in (number_by n m) ms

chain_unnamed : (n : ℕ) (c : Option ℕ) (ms : List Mark) → number_in n (chain_marks c ++ ms) ≡ number_in n ms
chain_unnamed n None ms = refl
chain_unnamed n (Some c) ms = refl

place_named : (g : Grammar) (m n : ℕ) (steps : List PlaceStep) (c : Option ℕ) (a e : ℕ) → number_in n (place_marks g m steps c a e) ≡ e
place_named g m n [] c a e = chain_unnamed n c (End (production_by g (passed g m c) a) e ∷ [])
place_named g m n (s ∷ steps) c a e =
    chain_unnamed n s.chain (Into (step_at g m s) ∷ place_marks g (target_of g (step_at g m s)) steps c a e) ∙ place_named g (target_of g (step_at g m s)) n steps c a e

-- the marks of a label name the number of its port or edge
pub label_named : (g : Grammar) (n : ℕ) (l : Label) → number_in n (marks_of g l) ≡ port_or_edge l
label_named g n (Input p) = refl
label_named g n (Output p) = refl
label_named g n (OfEdge p) = place_named g g.start n p.steps p.chain p.alternative p.edge

-- some marks are left that name it
pub record NamesLast (c : CursorSeen) (number : ℕ) (l : Label) : Type 0 where
  pub marks : List Mark
  pub ahead : AreLeft c marks
  pub named : number_in number marks ≡ port_or_edge l

-- so for each label of the grammar with these bits
abbrev pub NamesLastOf : Grammar → List Bool → CursorSeen → ℕ → Type 0
NamesLastOf g bits c number = (l : Label) → IsLabel g l → bits ≡ label_bits l → NamesLast c number l

joined : (x y z w : List Bool) (b : Bool) → x ++ (y ++ (b ∷ (z ++ w))) ≡ (x ++ (y ++ (b ∷ z))) ++ w
joined x y z w b = simp append_assoc

-- the bits of a label end with the code of this number
pub spelled_last : (l : Label) → label_bits l ≡ bits_to_number l ++ gamma (port_or_edge l + 1)
unfolding label_bits
spelled_last (Input p) = refl
spelled_last (Output p) = refl
spelled_last (OfEdge p) = joined (prefix_bits p.steps) (chain_bits p.chain) (gamma (p.alternative + 1)) (gamma (p.edge + 1)) false

-- so many bits stand before it
pub last_part_is : (l : Label) (bits : List Bool) (n at : ℕ) → bits ≡ label_bits l → n ≡ port_or_edge l → at ≡ length bits - length (gamma (n + 1)) → IsLastPart l at n
last_part_is l bits n at e is h =
    let total : length bits ≡ length (bits_to_number l) + length (gamma (n + 1)) =
    ap length (e ∙ spelled_last l) ∙ (length-append (bits_to_number l) (gamma (port_or_edge l + 1)) ∙ ap (λ k. length (bits_to_number l) + length (gamma (k + 1))) (sym is)) in
    record { number = is; before = omega (arith, h, total) }

-- the code of its number is within the bits of a label
pub code_within : (l : Label) (bits : List Bool) (n : ℕ) → bits ≡ label_bits l → n ≡ port_or_edge l → length (gamma (n + 1)) ≤ length bits
code_within l bits n e is =
    let total : length bits ≡ length (bits_to_number l) + length (gamma (n + 1)) =
    ap length (e ∙ spelled_last l) ∙ (length-append (bits_to_number l) (gamma (port_or_edge l + 1)) ∙ ap (λ k. length (bits_to_number l) + length (gamma (k + 1))) (sym is)) in
    omega (arith, total)

-- a label has few bits
pub few_label_bits : (g : Grammar) (bits : List Bool) → IsWellFormed g → IsLinear g → AreLabelBits g bits → length bits < 2 ^ 17
few_label_bits g bits wf lin h = subst (λ b. length b < 2 ^ 17) (sym h.2) (room_law g wf lin h.0 h.1)
