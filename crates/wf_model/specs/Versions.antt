-- Earlier versions of a grammar.
use Rattle.std.specs.Prelude.{ℕ, ◌<◌, ◌≤◌, nat_lt, filter, length, take}
use Rattle.wf_model.specs.Lists.{IsIn}
use Rattle.wf_model.specs.Grammar.{Grammar, Given, head_of, body_of, IsComposite}
use Rattle.wf_model.specs.Linear.{IsOnCycle}

-- the first m modules and the first p productions of a grammar, with the pairs that are given to these modules
abbrev pub version_of : Grammar → ℕ → ℕ → Grammar
version_of g m p = record {
  start = g.start;
  modules = take m g.modules;
  productions = take p g.productions;
  given = filter (λ (d : Given). nat_lt d.module_no m) g.given;
}

-- they are an earlier version of the grammar: the start module, and the heads and the modules of the bodies of the first p productions, are among the first m modules
pub record IsVersion (g : Grammar) (m p : ℕ) : Type 0 where
  pub modules : m ≤ length g.modules
  pub productions : p ≤ length g.productions
  pub start : g.start < m
  pub heads : (q : ℕ) → q < p → head_of g q < m
  pub bodies : (q : ℕ) → q < p → (k : ℕ) → IsIn k (body_of g q) → k < m

-- a module gets on a cycle: it is composite in a version, on no cycle of it, and on a cycle of the grammar
abbrev pub GetsOnCycle : Grammar → ℕ → ℕ → ℕ → Type 0
GetsOnCycle g m p k = IsComposite (version_of g m p) k × (IsOnCycle (version_of g m p) k → ⊥) × IsOnCycle g k

-- the version keeps its cycles: none of its modules gets on one
abbrev pub KeepsCycles : Grammar → ℕ → ℕ → Type 0
KeepsCycles g m p = (k : ℕ) → GetsOnCycle g m p k → ⊥
