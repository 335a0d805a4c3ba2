-- Words of sources: bit x of the word of a port tells that source x reaches the port.
use Rattle.std.specs.Prelude.{◌≡◌, ℕ, zero, suc, ◌<◌, ◌↔◌, ◌⊎◌, IsTrue, List, [], ◌∷◌, map, length, get_or, Option, Some, None, Vec}
use Rattle.std.specs.declared.alloc.Global.{Global}
use Rattle.wf_model.specs.declared.body.Edge.{Edge as EdgeHeld}
use Rattle.wf_model.specs.declared.numbers.PosNo.{PosNo}
use Rattle.wf_model.specs.Grammar.{Grammar, Assignment, Edge, production_at, body_of, inputs_of, outputs_of}
use Rattle.wf_model.specs.Meaning.{edge_of}
use Rattle.wf_model.specs.Lists.{IsIn, IsAt}
use Rattle.wf_model.specs.Links.{Port, input, output}
use Rattle.bool_mat.specs.Matrix.{has}
use Rattle.wf_body.specs.Body.{ToInput, ToOutput, at_port}

-- source x: input x of the head, or output x of a position
abbrev pub source : Option PosNo → ℕ → Port (Option ℕ)
source None x = input None x
source (Some s) x = output (Some s.0) x

-- the word at a place has the bits of another added, and the other words are as before
abbrev pub Gains : List ℕ → ℕ → ℕ → List ℕ → Type 0
Gains old at word new = (j x : ℕ) → IsTrue (has (get_or new j 0) x) ↔ (IsTrue (has (get_or old j 0) x) ⊎ ((j ≡ at) × IsTrue (has word x)))

-- the edges in a list of a table
abbrev pub edges_in : List (Vec EdgeHeld Global) → ℕ → List Edge
edges_in [] k = []
edges_in (v ∷ vs) zero = map edge_of v.items
edges_in (v ∷ vs) (suc k) = edges_in vs k

-- the list of a place has one edge more, and the other lists are as before
abbrev pub HasOneMore : List (Vec EdgeHeld Global) → ℕ → Edge → List (Vec EdgeHeld Global) → Type 0
HasOneMore old at e new = (k : ℕ) (f : Edge) → IsIn f (edges_in new k) ↔ (IsIn f (edges_in old k) ⊎ ((k ≡ at) × (f ≡ e)))

-- the edges of a body that lead to a position
abbrev pub AreLeading : Grammar → ℕ → ℕ → List Edge → Type 0
AreLeading g p k es = (e : Edge) → IsIn e es ↔ (IsIn e (production_at g p).edges × (e.to.position ≡ k))

-- the word of port j of position k
abbrev pub word_at : List (List ℕ) → ℕ → ℕ → ℕ
word_at words k j = get_or (get_or words k []) j 0

-- an entry leads from an input of the head, which is the source x, to input j of position k
abbrev pub Enters : Grammar → ℕ → Option PosNo → ℕ → ℕ → ℕ → Type 0
Enters g p from k j x = (h : ℕ) × IsAt (at_port k j) h (production_at g p).entries × (source from x ≡ input None h)

-- Words of the inputs of position k: source x reaches input j by an entry, or by an edge from an output that it reaches
abbrev pub AreInputs : Grammar → ℕ → Option PosNo → ℕ → List (List ℕ) → List ℕ → Type 0
AreInputs g p from k outs row = (j x : ℕ) → IsTrue (has (get_or row j 0) x) ↔
    (Enters g p from k j x ⊎ ((e : Edge) × IsIn e (production_at g p).edges × (e.to ≡ at_port k j) × IsTrue (has (word_at outs e.from.position e.from.port) x)))

-- what reaches output o of position k: the output is the source x, or one of the rows leads to it from an input that x reaches
abbrev pub Leaves : Option PosNo → ℕ → List ℕ → List ℕ → ℕ → ℕ → Type 0
Leaves from k ins rows o x = (source from x ≡ output (Some k) o) ⊎ ((i : ℕ) × IsTrue (has (get_or rows i 0) o) × IsTrue (has (get_or ins i 0) x))

-- words of the first n outputs of position k
abbrev pub AreFirstOutputs : Option PosNo → ℕ → List ℕ → List ℕ → ℕ → List ℕ → Type 0
AreFirstOutputs from k ins rows n outs = (o x : ℕ) → o < n → IsTrue (has (get_or outs o 0) x) ↔ Leaves from k ins rows o x

-- Words of the outputs of position k: source x is output o, or a pair joins an input that it reaches to output o
abbrev pub AreOutputs : Grammar → Assignment → ℕ → Option PosNo → ℕ → List ℕ → List ℕ → Type 0
AreOutputs g d p from k ins row = (m o x : ℕ) → IsAt m k (body_of g p) → o < outputs_of g m → IsTrue (has (get_or row o 0) x) ↔
    ((source from x ≡ output (Some k) o) ⊎ ((i : ℕ) × (i < inputs_of g m) × IsTrue (d m i o) × IsTrue (has (get_or ins i 0) x)))

-- the words of the ports of position k tell the paths from each source
pub record AreToldAt (g : Grammar) (d : Assignment) (p : ℕ) (from : Option PosNo) (ins outs : List (List ℕ)) (k : ℕ) : Type 0 where
  pub inputs : (j x : ℕ) → IsTrue (has (word_at ins k j) x) ↔ ToInput g d p (source from x) k j
  pub outputs : (m o x : ℕ) → IsAt m k (body_of g p) → o < outputs_of g m → IsTrue (has (word_at outs k o) x) ↔ ToOutput g d p (source from x) k o

-- so do those of all positions
pub record AreTold (g : Grammar) (d : Assignment) (p : ℕ) (from : Option PosNo) (ins outs : List (List ℕ)) : Type 0 where
  pub as_many_inputs : length ins ≡ length (body_of g p)
  pub as_many_outputs : length outs ≡ length (body_of g p)
  pub each : (k : ℕ) → k < length (body_of g p) → AreToldAt g d p from ins outs k
