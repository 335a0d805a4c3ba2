-- Laws of the bits of labels: no label begins another, and a label is read part by part.
use Rattle.std.specs.Prelude.{◌≡◌, ◌≢◌, ◌↔◌, ℕ, ◌+◌, ◌^◌, ◌<◌, ◌≤◌, Bool, true, false, List, [], ◌∷◌, ◌++◌, length, Some, None}
use Rattle.wf_model.specs.Grammar.{Grammar, production_at, alternative_of, IsProductionOf}
use Rattle.wf_model.specs.Reach.{Step, target_of}
use Rattle.wf_model.specs.Linear.{IsStepOf}
use Rattle.bit_pack.specs.Bits.{bits_of, Holds}
use Rattle.bit_pack.specs.Gamma.{gamma}
use Rattle.label_model.specs.Continuing.{continuing, after}
use Rattle.label_model.specs.Labels.{Label, label_bits, IsLabel}
use Rattle.label_model.specs.Reading.{IsLabelBytes, IsPadding, IsPlaceLeft, IsPartLeft, IsChainLeft, IsLabelLeft}

-- no label's bits begin another label's bits, and bits tell their label; since the bits of a label are a function of it, one label has one spelling
abbrev pub PrefixFreeLaw : Type 0
PrefixFreeLaw = (g : Grammar) (l k : Label) (x y : List Bool) → IsLabel g l → IsLabel g k → label_bits l ++ x ≡ label_bits k ++ y → (l ≡ k) × (x ≡ y)

-- no label's bytes begin another label's bytes: so neither a part of a label from the front is a label, nor a label with bytes after it
abbrev pub WholeLaw : Type 0
WholeLaw = (g : Grammar) (l k : Label) (bytes more : List ℕ) → IsLabel g l → IsLabel g k → Holds bytes (label_bits l) → Holds (bytes ++ more) (label_bits k) → (more ≡ []) × (l ≡ k)

-- a label is read from the front: what is left is told by what comes next and by what is left then
pub record ReadingLaw : Type 0 where
  pub label : (g : Grammar) (bytes : List ℕ) → IsLabelBytes g bytes ↔ IsLabelLeft g (bits_of bytes)
  pub place : (g : Grammar) (m : ℕ) (bits : List Bool) → IsPlaceLeft g m bits ↔ IsChainLeft g m bits

-- What a reader of a label tests at each part. Of a module on no cycle a step or an ending is left. Of a module on a cycle a chain number is left, at most 2^24 with one added, and then a step or an ending of the module to which it leads.
-- A step begins with a one, has numbers of a step that is not the continuing one, and leaves a place at its target. An ending begins with a zero, has numbers of a production and an edge, and leaves padding
pub record PartsLaw : Type 0 where
  pub no_chain : (g : Grammar) (m : ℕ) (bits : List Bool) → continuing g m ≡ None → IsChainLeft g m bits ↔ IsPartLeft g m bits
  pub a_chain : (g : Grammar) (m c : ℕ) (rest : List Bool) → continuing g m ≢ None → IsChainLeft g m (gamma (c + 1) ++ rest) ↔ ((c + 1 ≤ 2 ^ 24) × IsPartLeft g (after g c m) rest)
  pub chain_cut : (g : Grammar) (m : ℕ) (bits : List Bool) → continuing g m ≢ None → IsChainLeft g m bits → (c : ℕ) × (rest : List Bool) × (bits ≡ gamma (c + 1) ++ rest)
  pub a_step : (g : Grammar) (k a i : ℕ) (rest : List Bool) →
      IsPartLeft g k (true ∷ (gamma (a + 1) ++ (gamma (i + 1) ++ rest))) ↔
      ((t : Step) × IsStepOf g k t × (alternative_of g t.production ≡ a) × (t.position ≡ i) × (continuing g k ≢ Some t) × IsPlaceLeft g (target_of g t) rest)
  pub an_ending : (g : Grammar) (k a e : ℕ) (rest : List Bool) →
      IsPartLeft g k (false ∷ (gamma (a + 1) ++ (gamma (e + 1) ++ rest))) ↔
      ((p : ℕ) × IsProductionOf g p k × (alternative_of g p ≡ a) × (e < length (production_at g p).edges) × IsPadding rest)
  pub cut : (g : Grammar) (k : ℕ) (bits : List Bool) → IsPartLeft g k bits → (b : Bool) × (m : ℕ) × (n : ℕ) × (rest : List Bool) × (bits ≡ b ∷ (gamma (m + 1) ++ (gamma (n + 1) ++ rest)))
