-- The loops of a package, whoever wrote it: which step each module has by them, and when they are good.
use Rattle.std.specs.Prelude.{◌≡◌, ◌↔◌, ℕ, ◌<◌, List, map, length, Option, Some}
use Rattle.wf_model.specs.Lists.{IsIn, AllDiffer, Walk}
use Rattle.wf_model.specs.Grammar.{Grammar, module_at, IsAtomic, IsComposite}
use Rattle.wf_model.specs.Reach.{Step, target_of}
use Rattle.wf_model.specs.Linear.{IsStepOf, Continues, IsOnCycle}
use Rattle.package_model.specs.Packages.{LoopEntry}

-- the entry names the module m
abbrev pub NamesModule : Grammar → LoopEntry → ℕ → Type 0
NamesModule g e m = (m < length g.modules) × ((module_at g m).name ≡ e.module_name)

-- s is a loop step of the module m: an entry names m and has the step s
abbrev pub HasLoop : Grammar → List LoopEntry → ℕ → Step → Type 0
HasLoop g entries m s = (e : LoopEntry) × IsIn e entries × NamesModule g e m × (e.step ≡ s)

-- the loop steps of the modules, as a function: none exactly where no entry names the module
abbrev pub AreLoopsOf : Grammar → List LoopEntry → (ℕ → Option Step) → Type 0
AreLoopsOf g entries loop = (m : ℕ) (s : Step) → (loop m ≡ Some s) ↔ HasLoop g entries m s

-- a loop step leads from a to b
abbrev pub LoopsTo : Grammar → List LoopEntry → ℕ → ℕ → Type 0
LoopsTo g entries a b = (s : Step) × HasLoop g entries a s × (target_of g s ≡ b)

-- Good loops of a grammar
pub record AreGoodLoops (g : Grammar) (entries : List LoopEntry) : Type 0 where
  -- each entry names a composite module
  pub composite : (e : LoopEntry) → IsIn e entries → (m : ℕ) × NamesModule g e m × IsComposite g m
  -- none is named twice
  pub once : AllDiffer (map (λ (e : LoopEntry). e.module_name) entries)
  -- the production of an entry is one of its module, and the position is one of the production
  pub steps : (e : LoopEntry) (m : ℕ) → IsIn e entries → NamesModule g e m → IsStepOf g m e.step
  -- the target of a loop step is atomic, or has an entry
  pub targets : (m : ℕ) (s : Step) → HasLoop g entries m s → IsComposite g (target_of g s) → (t : Step) × HasLoop g entries (target_of g s) t
  -- a module on a cycle has an entry, and it is its continuing step
  pub cycles : (m : ℕ) → IsOnCycle g m → (s : Step) × HasLoop g entries m s × Continues g m s
  -- from a module on no cycle that has an entry, loop steps lead to an atomic module
  pub ends : (m : ℕ) (s : Step) → HasLoop g entries m s → (IsOnCycle g m → ⊥) → (k : ℕ) × Walk (LoopsTo g entries) m k × IsAtomic g k
