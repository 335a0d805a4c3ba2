-- What the first bits of a label tell of its marks.
use Rattle.std.proofs.Common.{◌≡◌, ◌≢◌, ℕ, ◌+◌, ◌<◌, Bool, true, false, List, [], ◌∷◌, ◌++◌, flat_map, sym, ap, ◌∙◌, subst, arith}
use Rattle.bit_pack.specs.Gamma.{gamma}
use Rattle.wf_model.specs.Grammar.{Grammar, module_at}
use Rattle.wf_model.specs.WellFormed.{IsWellFormed}
use Rattle.label_model.specs.Labels.{Label, Input, Output, OfEdge, step_bits, ending_bits, label_bits, IsLabel}
use Rattle.label_model.proofs.RunBounds.{start_module}
use Rattle.wf_label.specs.Parts.{HasNoNumber}
use Rattle.wf_label.specs.Marks.{Mark, AtInput, AtOutput, marks_of, BeginMarks, BeginLabel}
use Rattle.wf_label.proofs.MarksRead.{same_code}
use Rattle.wf_label.proofs.MarksSpelled.{place_begins}

-- the mark of a port of the root
abbrev pub port_mark : Bool → ℕ → Mark
port_mark true p = AtOutput p
port_mark false p = AtInput p

-- of a port of the root the side is left, and then the number
pub record IsPortFirst (bits : List Bool) (marks : List Mark) : Type 0 where
  pub is_output : Bool
  pub port : ℕ
  pub few : port < 64
  pub behind : List Bool
  pub is : bits ≡ is_output ∷ (gamma (port + 1) ++ behind)
  pub marks_are : marks ≡ port_mark is_output port ∷ []

module _ (g : Grammar) where
  -- some bit is left
  pub label_bit : (bits : List Bool) (marks : List Mark) → BeginLabel g bits marks → bits ≢ []
  unfolding label_bits
  label_bit bits marks h e = go h.label h.is
    where
      go : (l : Label) → bits ≡ label_bits l ++ h.behind → ⊥
      go (Input p) q = absurd (cc)
      go (Output p) q = absurd (cc)
      go (OfEdge p) q = absurd (cc)

  -- behind a one the marks of a place are left,
  pub edge_first : (bits left : List Bool) (marks : List Mark) → bits ≡ true ∷ left → BeginLabel g bits marks → BeginMarks g g.start false left marks
  unfolding label_bits
  edge_first bits left marks e h = go h.label h.of_it h.is h.marks_are
    where
      go : (l : Label) → IsLabel g l → bits ≡ label_bits l ++ h.behind → marks ≡ marks_of g l → BeginMarks g g.start false left marks
      go (Input p) i q m = absurd (cc)
      go (Output p) i q m = absurd (cc)
      go (OfEdge p) i q m = let t : left ≡ (flat_map step_bits p.steps ++ ending_bits p.chain p.alternative p.edge) ++ h.behind = cc in subst (BeginMarks g g.start false left) (sym m) (place_begins g g.start p left h.behind i t)

  -- and behind a zero a port
  pub port_first : IsWellFormed g → (bits left : List Bool) (marks : List Mark) → bits ≡ false ∷ left → BeginLabel g bits marks → IsPortFirst left marks
  unfolding label_bits
  port_first wf bits left marks e h = go h.label h.of_it h.is h.marks_are
    where
      go : (l : Label) → IsLabel g l → bits ≡ label_bits l ++ h.behind → marks ≡ marks_of g l → IsPortFirst left marks
      go (Input p) i q m =
          let few = (wf.modules (module_at g g.start) (start_module g wf)).few_inputs in
          record { is_output = false; port = p; few = omega (arith, i, few); behind = h.behind; is = cc; marks_are = m }
      go (Output p) i q m =
          let few = (wf.modules (module_at g g.start) (start_module g wf)).few_outputs in
          record { is_output = true; port = p; few = omega (arith, i, few); behind = h.behind; is = cc; marks_are = m }
      go (OfEdge p) i q m = absurd (cc)

-- the number of the port is one of at most 64
pub port_number : (b : Bool) (bits left : List Bool) (marks : List Mark) → IsPortFirst bits marks → bits ≡ b ∷ left → HasNoNumber 64 left → ⊥
port_number b bits left marks h e none = let q = h.is in none h.port h.behind h.few (cc)

pub port_bit : (bits : List Bool) (marks : List Mark) → IsPortFirst bits marks → bits ≢ []
port_bit bits marks h e = let q = h.is in absurd (cc)

-- what is read of a port is its mark, and the only one
pub port_read : (b : Bool) (n : ℕ) (bits left : List Bool) (marks : List Mark) → IsPortFirst bits marks → bits ≡ b ∷ (gamma (n + 1) ++ left) → marks ≡ port_mark b n ∷ []
port_read b n bits left marks h e =
    let q = h.is in
    let k : h.is_output ≡ b = cc in
    let t : gamma (n + 1) ++ left ≡ gamma (h.port + 1) ++ h.behind = cc in
    let r = same_code n h.port left h.behind t in
    h.marks_are ∙ (ap (λ z. port_mark z h.port ∷ []) k ∙ ap (λ z. port_mark b z ∷ []) (sym r.0))
