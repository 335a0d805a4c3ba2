-- Proper grammars: every composite module is reached and has a rank, and there is no unit loop.
use Rattle.std.specs.Prelude.{◌≡◌, ℕ, zero, suc, ◌≤◌, ◌⊎◌, length}
use Rattle.wf_model.specs.Lists.{IsIn, Walk}
use Rattle.wf_model.specs.Grammar.{Grammar, body_of, IsAtomic, IsComposite, IsProductionOf}

-- b stands in a body of a
abbrev pub Makes : Grammar → ℕ → ℕ → Type 0
Makes g a b = (p : ℕ) × IsProductionOf g p a × IsIn b (body_of g p)

-- a derives b where a list of modules leads from a to b, and each next one stands in a body of the one before; each module derives itself
abbrev pub Derives : Grammar → ℕ → ℕ → Type 0
Derives g = Walk (Makes g)

-- a rank of at most n: 0 for an atomic module, and one more than those of some body for a composite one
abbrev pub RankWithin : Grammar → ℕ → ℕ → Type 0
RankWithin g zero m = IsAtomic g m
RankWithin g (suc n) m = IsAtomic g m ⊎ ((p : ℕ) × IsProductionOf g p m × ((k : ℕ) → IsIn k (body_of g p) → RankWithin g n k))

-- the rank of a module is the least such number
abbrev pub IsRank : Grammar → ℕ → ℕ → Type 0
IsRank g m n = RankWithin g n m × ((k : ℕ) → RankWithin g k m → n ≤ k)

-- b alone stands in a body of a: a unit production leads from a to b
abbrev pub Becomes : Grammar → ℕ → ℕ → Type 0
Becomes g a b = (p : ℕ) × IsProductionOf g p a × (length (body_of g p) ≡ 1) × IsIn b (body_of g p)

-- a grammar is proper where each composite module is derived from the start module and has a rank, and unit productions lead from no module back to it
pub record IsProper (g : Grammar) : Type 0 where
  pub reached : (m : ℕ) → IsComposite g m → Derives g g.start m
  pub ranked : (m : ℕ) → IsComposite g m → (n : ℕ) × RankWithin g n m
  pub no_unit_loop : (a b : ℕ) → Becomes g a b → Walk (Becomes g) b a → ⊥
