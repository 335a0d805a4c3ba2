-- The package of what is shown, as it is held with the tables of its grammar.
use Rattle.std.proofs.Common.{◌≡◌, ℕ, zero, suc, List, [], ◌∷◌, get_or, map, None, refl, sym, subst}
use Rattle.wf_model.specs.WellFormed.{IsWellFormed}
use Rattle.wf_model.specs.Proper.{IsProper}
use Rattle.wf_model.specs.Linear.{IsLinear}
use Rattle.wf_check.proofs.ProperOrFault.{some_ranking}
use Rattle.wf_recur.proofs.SomeCycles.{some_cycles}
use Rattle.package_model.specs.Shown.{Shown, ShownModule}
use Rattle.package_model.specs.Packages.{package_of, loops_of, loop_of}
use Rattle.package_model.specs.Loops.{AreLoopsOf, AreGoodLoops}
use Rattle.wf_loops.specs.Looped.{LoopedValue, loop_in}
use Rattle.package_file.specs.Packed.{IsSafeByDefault, IsHeldPackage}
use Rattle.package_laws.specs.ReadBack.{held_package_of}

-- the loop steps of modules, as a list
loops_listed : (ss : List ShownModule) (m : ℕ) →
    get_or (map (λ (x : ShownModule). x.loop) ss) m None ≡ (get_or ss m (record { ins = 0; outs = 0; pairs = None; loop = None })).loop
loops_listed [] m = refl
loops_listed (s ∷ ss) zero = refl
loops_listed (s ∷ ss) (suc m) = loops_listed ss m

module _ (s : Shown) (formed : IsWellFormed (package_of s)) (proper : IsProper (package_of s)) (linear : IsLinear (package_of s)) where
  abbrev pub held_package : LoopedValue
  held_package = record {
    accepted = record {
      grammar = held_package_of s;
      ranking = (some_ranking (package_of s) formed proper).0;
      cycles = (some_cycles (package_of s) formed linear).0;
    };
    steps = map (λ (x : ShownModule). x.loop) s.modules;
  }

  pub held_loops : loop_in held_package.steps ≡ loop_of s
  held_loops n m = loops_listed s.modules m n

  pub package_held : IsSafeByDefault (package_of s) → AreGoodLoops (package_of s) (loops_of s) → AreLoopsOf (package_of s) (loops_of s) (loop_of s) →
      IsHeldPackage held_package
  package_held safe good loops = record {
    looped = record {
      accepted = record {
        formed = formed;
        proper = proper;
        linear = linear;
        ranked = (some_ranking (package_of s) formed proper).1;
        cycled = (some_cycles (package_of s) formed linear).1;
        keeps = λ v i. absurd i;
      };
      entries = loops_of s;
      good = good;
      loops = subst (AreLoopsOf (package_of s) (loops_of s)) (sym held_loops) loops;
    };
    safe = safe;
  }
