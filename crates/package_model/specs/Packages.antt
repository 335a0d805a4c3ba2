-- A package: a grammar of what is shown, with names by place, and its loops.
use Rattle.std.specs.Prelude.{ℕ, suc, cond, ◌&&◌, ◌==◌, Bool, List, [], ◌∷◌, map, get_or, Option, Some, None, decimal}
use Rattle.std.specs.List.{list_all}
use Rattle.wf_model.specs.Lists.{some, numbers_from}
use Rattle.wf_model.specs.Grammar.{Grammar, Module, Position, Production, Given}
use Rattle.wf_model.specs.Reach.{Step}
use Rattle.package_model.specs.Shown.{ShownModule, ShownProduction, Shown}

-- a name: a letter and a number
abbrev pub numbered : ℕ → ℕ → List ℕ
numbered letter k = letter ∷ decimal k

-- n such names, from 0 on
abbrev pub numbered_names : ℕ → ℕ → List (List ℕ)
numbered_names letter n = map (numbered letter) (numbers_from 0 n)

-- the name of a module: m0, m1 and so on
abbrev pub module_name : ℕ → List ℕ
module_name k = numbered 109 k

-- a module, with the inputs i0, i1 and so on, and the outputs o0, o1 and so on
abbrev pub package_module : ℕ → ShownModule → Module
package_module k s = record { name = module_name k; inputs = numbered_names 105 s.ins; outputs = numbered_names 111 s.outs }

-- the modules, numbered from k on
abbrev pub package_modules : ℕ → List ShownModule → List Module
package_modules k [] = []
package_modules k (s ∷ ss) = package_module k s ∷ package_modules (suc k) ss

-- the positions of a body: p0, p1 and so on
abbrev pub package_positions : ℕ → List ℕ → List Position
package_positions k [] = []
package_positions k (m ∷ ms) = record { name = numbered 112 k; module_no = m } ∷ package_positions (suc k) ms

abbrev pub package_production : ShownProduction → Production
package_production p = record { head = p.head; positions = package_positions 0 p.body; edges = p.edges; entries = p.entries; exits = p.exits }

-- whether a pair is among these
abbrev pub is_among : List (ℕ × ℕ) → ℕ × ℕ → Bool
is_among pairs p = some (λ (e : ℕ × ℕ). (e.0 == p.0) && (e.1 == p.1)) pairs

-- whether all pairs of so many inputs and outputs are among these: so it is where there are no inputs or no outputs
abbrev pub has_all : ℕ → ℕ → List (ℕ × ℕ) → Bool
has_all ins outs pairs = list_all (λ i. list_all (λ o. is_among pairs (i, o)) (numbers_from 0 outs)) (numbers_from 0 ins)

-- the perceived pairs of a module are given to it, but for one that has all pairs: these are its pairs where none are given
abbrev pub given_if : ℕ → ℕ → ℕ → Option (List (ℕ × ℕ)) → List Given → List Given
given_if k ins outs None rest = rest
given_if k ins outs (Some pairs) rest = cond (has_all ins outs pairs) rest (record { module_no = k; pairs = pairs } ∷ rest)

-- the pairs that are given, in order of the modules, which are numbered from k on
abbrev pub package_given : ℕ → List ShownModule → List Given
package_given k [] = []
package_given k (s ∷ ss) = given_if k s.ins s.outs s.pairs (package_given (suc k) ss)

-- the grammar of a package
abbrev pub package_of : Shown → Grammar
package_of s = record { start = s.start; modules = package_modules 0 s.modules; productions = map package_production s.productions; given = package_given 0 s.modules }

-- an entry of the loops: the name of a module, and a step
pub record LoopEntry : Type 0 where
  pub module_name : List ℕ
  pub step : Step

abbrev pub entry_if : ℕ → Option Step → List LoopEntry → List LoopEntry
entry_if k None rest = rest
entry_if k (Some s) rest = record { module_name = module_name k; step = s } ∷ rest

-- the loops, in order of the modules, which are numbered from k on: one for each that has a continuing step
abbrev pub package_loops : ℕ → List ShownModule → List LoopEntry
package_loops k [] = []
package_loops k (s ∷ ss) = entry_if k s.loop (package_loops (suc k) ss)

-- the entries of the loops of a package
abbrev pub loops_of : Shown → List LoopEntry
loops_of s = package_loops 0 s.modules

-- the loop step of a module of a package
abbrev pub loop_of : Shown → ℕ → Option Step
loop_of s k = (get_or s.modules k (record { ins = 0; outs = 0; pairs = None; loop = None })).loop
