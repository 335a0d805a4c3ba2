-- The entries of loops, one by one, and the table that they make.
use Rattle.std.specs.Prelude.{◌≡◌, ℕ, List, map, length, get_or, set, Option, Some, None}
use Rattle.wf_model.specs.Lists.{IsIn, AllDiffer}
use Rattle.wf_model.specs.Grammar.{Grammar}
use Rattle.wf_model.specs.Reach.{Step}
use Rattle.wf_model.specs.Linear.{IsStepOf}
use Rattle.package_model.specs.Packages.{LoopEntry}
use Rattle.package_model.specs.Loops.{NamesModule, AreLoopsOf}
use Rattle.wf_loops.specs.Looped.{loop_in}

-- the entry names the module m, and its step is one of m
abbrev pub IsEntryOf : Grammar → LoopEntry → ℕ → Type 0
IsEntryOf g e m = NamesModule g e m × IsStepOf g m e.step

-- each entry names a module, and its step is one of this module; none is named twice
pub record AreEntriesOf (g : Grammar) (entries : List LoopEntry) : Type 0 where
  pub each : (e : LoopEntry) → IsIn e entries → (m : ℕ) × IsEntryOf g e m
  pub once : AllDiffer (map (λ (e : LoopEntry). e.module_name) entries)

-- the loop steps that entries give, a place for each module
pub record AreStepsByEntries (g : Grammar) (entries : List LoopEntry) (steps : List (Option Step)) : Type 0 where
  pub one_each : length steps ≡ length g.modules
  pub entries_of : AreEntriesOf g entries
  pub loops : AreLoopsOf g entries (loop_in steps)

-- an entry gives its step to a module that had none
pub record IsEntered (g : Grammar) (e : LoopEntry) (before after : List (Option Step)) : Type 0 where
  pub module_no : ℕ
  pub entry_of : IsEntryOf g e module_no
  pub free : get_or before module_no None ≡ None
  pub is : after ≡ set before module_no (Some e.step)

-- the entry is of no module, or of one that has a step already
abbrev pub IsSecondEntry : Grammar → LoopEntry → List (Option Step) → Type 0
IsSecondEntry g e steps = (m : ℕ) → IsEntryOf g e m → (s : Step) × (get_or steps m None ≡ Some s)
