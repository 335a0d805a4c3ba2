-- Labels: what they tell, how they are spelled in bits, and which of them are labels of a grammar.
use Rattle.std.specs.Prelude.{◌≡◌, ◌≢◌, ℕ, ◌+◌, ◌^◌, ◌<◌, ◌≤◌, Bool, true, false, List, [], ◌∷◌, ◌++◌, length, flat_map, Option, Some, None}
use Rattle.wf_model.specs.Grammar.{Grammar, production_at, inputs_of, outputs_of, alternative_of, IsProductionOf}
use Rattle.wf_model.specs.Reach.{Step, target_of}
use Rattle.wf_model.specs.Linear.{IsStepOf}
use Rattle.bit_pack.specs.Gamma.{gamma}
use Rattle.label_model.specs.Continuing.{continuing, after}

-- a step that is not the continuing one, by the alternative number of its production and its position. Before it a number of continuing steps is told, exactly if they are taken from a module on a cycle
pub record PlaceStep : Type 0 where
  pub chain : Option ℕ
  pub alternative : ℕ
  pub position : ℕ

-- an edge of a production of an instance. The instance is told by the steps that lead to it, the last of which may be continuing ones
pub record Place : Type 0 where
  pub steps : List PlaceStep
  pub chain : Option ℕ
  pub alternative : ℕ
  pub edge : ℕ

-- a label is that of an input of the root, of an output of the root, or of an edge
pub data Label : Type 0 where
  Input : (port : ℕ) → Label
  Output : (port : ℕ) → Label
  OfEdge : (place : Place) → Label

-- the bits of a chain number, which may not be there
abbrev pub chain_bits : Option ℕ → List Bool
chain_bits None = []
chain_bits (Some c) = gamma (c + 1)

-- a step: its chain number, a one, and its two numbers
abbrev pub step_bits : PlaceStep → List Bool
step_bits s = chain_bits s.chain ++ (true ∷ gamma (s.alternative + 1) ++ gamma (s.position + 1))

-- an ending: its chain number, a zero, and the numbers of the alternative and of the edge
abbrev pub ending_bits : Option ℕ → ℕ → ℕ → List Bool
ending_bits chain a e = chain_bits chain ++ (false ∷ gamma (a + 1) ++ gamma (e + 1))

-- the bits of the label of an edge up to its last chain number
abbrev pub prefix_bits : List PlaceStep → List Bool
prefix_bits steps = true ∷ flat_map step_bits steps

-- the bits of a label
unfoldable pub label_bits : Label → List Bool
label_bits (Input p) = false ∷ false ∷ gamma (p + 1)
label_bits (Output p) = false ∷ true ∷ gamma (p + 1)
label_bits (OfEdge p) = prefix_bits p.steps ++ ending_bits p.chain p.alternative p.edge

-- a chain number leads from m to k; it is there exactly if m is on a cycle
abbrev pub IsChain : Grammar → ℕ → Option ℕ → ℕ → Type 0
IsChain g m None k = (continuing g m ≡ None) × (m ≡ k)
IsChain g m (Some c) k = (continuing g m ≢ None) × (c + 1 ≤ 2 ^ 24) × (after g c m ≡ k)

-- a step of a place leaves m: along its chain, and then by the step t, which does not continue
pub record Leaves (g : Grammar) (m : ℕ) (s : PlaceStep) (t : Step) : Type 0 where
  pub from : ℕ
  pub chain : IsChain g m s.chain from
  pub step : IsStepOf g from t
  pub alternative : alternative_of g t.production ≡ s.alternative
  pub position : t.position ≡ s.position
  pub leaves : continuing g from ≢ Some t

-- the steps of a place lead from m to k
abbrev pub Leads : Grammar → ℕ → List PlaceStep → ℕ → Type 0
Leads g m [] k = m ≡ k
Leads g m (s ∷ steps) k = (t : Step) × Leaves g m s t × Leads g (target_of g t) steps k

-- a place at the module m: its steps lead from m to some module, its chain leads on, and there it names a production and an edge
pub record IsPlace (g : Grammar) (m : ℕ) (p : Place) : Type 0 where
  pub entered : ℕ
  pub leads : Leads g m p.steps entered
  pub from : ℕ
  pub chain : IsChain g entered p.chain from
  pub production : ℕ
  pub of_it : IsProductionOf g production from
  pub alternative : alternative_of g production ≡ p.alternative
  pub edge : p.edge < length (production_at g production).edges

-- a label of the grammar: of a port of the start module, or of a place at it
abbrev pub IsLabel : Grammar → Label → Type 0
IsLabel g (Input p) = p < inputs_of g g.start
IsLabel g (Output p) = p < outputs_of g g.start
IsLabel g (OfEdge p) = IsPlace g g.start p
