-- The numbers of good loops are small, as those of all steps of a grammar.
use Rattle.std.proofs.Common.{◌≡◌, ℕ, List, Option, Some, None, option_map, subst, arith}
use Rattle.wf_model.specs.Lists.{IsIn}
use Rattle.wf_model.specs.Grammar.{Grammar}
use Rattle.wf_model.specs.WellFormed.{IsWellFormed}
use Rattle.wf_model.proofs.Lists.{in_map}
use Rattle.package_model.specs.Packages.{LoopEntry}
use Rattle.package_model.specs.Loops.{AreGoodLoops}
use Rattle.package_file.specs.declared.parts.LoopPart.{LoopPart}
use Rattle.package_file.specs.Packed.{said_entry, said_entries}
use Rattle.package_file.specs.Numbers.{HasSmallNumbers, HaveLargeNumber, AreNumbered}

module _ (g : Grammar) (formed : IsWellFormed g) where
  good_small : (entries : List LoopEntry) (e : LoopEntry) → AreGoodLoops g entries → IsIn e entries → HasSmallNumbers e.step
  good_small entries e good i =
      let c = good.composite e i in
      let s = good.steps e c.0 i c.1 in
      let few = formed.few_productions in
      let below = s.in_range in
      let short = formed.few_positions e.step.production s.in_range in
      let there = s.position in
      record { production = omega arith; position = omega arith }

  pub large_not_good : (loops : List LoopPart) → HaveLargeNumber loops → AreGoodLoops g (said_entries loops) → ⊥
  large_not_good loops h good = h.2 (good_small (said_entries loops) (said_entry h.0) good (in_map said_entry h.0 loops h.1))

-- what is told of entries that are not numbered, and of those that are
pub none_numbered : {V : Type 0} (items : V → List LoopEntry) (loops : List LoopPart) (o : Option V) → AreNumbered loops (option_map items o) → o ≡ None → HaveLargeNumber loops
none_numbered items loops o h is = subst (λ z. AreNumbered loops (option_map items z)) is h

pub some_numbered : {V : Type 0} (items : V → List LoopEntry) (loops : List LoopPart) (o : Option V) (v : V) → AreNumbered loops (option_map items o) → o ≡ Some v → items v ≡ said_entries loops
some_numbered items loops o v h is = subst (λ z. AreNumbered loops (option_map items z)) is h
