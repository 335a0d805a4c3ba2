-- The law that a path does not come back.
use Rattle.std.specs.Prelude.{ℕ, Some}
use Rattle.wf_model.specs.Grammar.{Grammar, Assignment}
use Rattle.wf_model.specs.WellFormed.{IsWellFormedBody}
use Rattle.wf_model.specs.Links.{input, output, body_links, Path}

-- in a well-formed body no path leads from an output of a position to an input of it, whatever pairs the modules have
abbrev pub NoReturnLaw : Type 0
NoReturnLaw =
    (g : Grammar) (d : Assignment) (p : ℕ) → IsWellFormedBody g p → (k j i : ℕ) → ¬ Path (body_links g d p) (output (Some k) j) (input (Some k) i)
