-- Paths in one body, by what leads to each port.
use Rattle.std.specs.Prelude.{◌≡◌, ℕ, ◌<◌, ◌↔◌, ◌⊎◌, IsTrue, Option, Some, None}
use Rattle.wf_model.specs.Lists.{IsIn, IsAt}
use Rattle.wf_model.specs.Grammar.{Grammar, Assignment, Inner, Edge, production_at, inputs_of, outputs_of, body_of}
use Rattle.wf_model.specs.Links.{Port, input, output, body_links, Path}

-- from a port of the body a path leads to input j of position k
abbrev pub ToInput : Grammar → Assignment → ℕ → Port (Option ℕ) → ℕ → ℕ → Type 0
ToInput g d p x k j = Path (body_links g d p) x (input (Some k) j)

-- to output o of position k
abbrev pub ToOutput : Grammar → Assignment → ℕ → Port (Option ℕ) → ℕ → ℕ → Type 0
ToOutput g d p x k o = Path (body_links g d p) x (output (Some k) o)

-- to output o of the head
abbrev pub ToExit : Grammar → Assignment → ℕ → Port (Option ℕ) → ℕ → Type 0
ToExit g d p x o = Path (body_links g d p) x (output None o)

-- port j of position k
abbrev pub at_port : ℕ → ℕ → Inner
at_port k j = record { position = k; port = j }

-- What leads to each port: to an input its entry or its edge, to an output the pairs of its module, to an output of the head its exit
pub record IsLedTo (g : Grammar) (d : Assignment) (p : ℕ) (x : Port (Option ℕ)) : Type 0 where
  pub inputs : (k j : ℕ) → ToInput g d p x k j ↔
      ((x ≡ input (Some k) j) ⊎
      (((h : ℕ) × IsAt (at_port k j) h (production_at g p).entries × (x ≡ input None h)) ⊎
      ((e : Edge) × IsIn e (production_at g p).edges × (e.to ≡ at_port k j) × ToOutput g d p x e.from.position e.from.port)))
  pub outputs : (k o : ℕ) → ToOutput g d p x k o ↔
      ((x ≡ output (Some k) o) ⊎
      ((m : ℕ) × (i : ℕ) × IsAt m k (body_of g p) × (i < inputs_of g m) × (o < outputs_of g m) × IsTrue (d m i o) × ToInput g d p x k i))
  pub exits : (o : ℕ) → ToExit g d p x o ↔
      ((x ≡ output None o) ⊎ ((i : Inner) × IsAt i o (production_at g p).exits × ToOutput g d p x i.position i.port))

-- so it is in every body
abbrev pub BodyLaw : Type 0
BodyLaw = (g : Grammar) (d : Assignment) (p : ℕ) (x : Port (Option ℕ)) → IsLedTo g d p x
