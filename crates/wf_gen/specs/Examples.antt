-- Worked runs: what two seeds make of the grammar of a phylogeny.
use Rattle.std.specs.Prelude.{◌≡◌, ℕ, List, [], ◌∷◌, codes}
use Prim.Native.String.{String}
use Rattle.wf_model.specs.Grammar.{Grammar}
use Rattle.wf_model.specs.declared.event.Event.TheVariants.{Start, Expand}
use Rattle.wf_laws.specs.Examples.{a_module, at, port, edge}
use Rattle.wf_laws.specs.TwistingGrammar.{two}
use Rattle.wf_gen.specs.Turns.{generated}

abbrev four : String → String → String → String → List (List ℕ)
four a b c d = codes a ∷ codes b ∷ codes c ∷ codes d ∷ []

-- Main is expanded to an Align, a Refine, a Build and a Report; Refine to a Realign and a Refine again, or to a Score; Build to a Split and an Infer
abbrev pub phylogeny : Grammar
phylogeny = record {
  start = 0;
  modules =
      a_module "Main" (two "seqs" "cfg") (two "tree" "report") ∷
      a_module "Align" (codes "s" ∷ []) (two "m" "log") ∷
      a_module "Refine" (two "m" "c") (two "r" "q") ∷
      a_module "Realign" (two "m" "c") (two "m2" "c2") ∷
      a_module "Score" (two "m" "c") (two "r" "q") ∷
      a_module "Build" (codes "m" ∷ []) (two "t" "n") ∷
      a_module "Split" (codes "m" ∷ []) (two "a" "n") ∷
      a_module "Infer" (codes "m" ∷ []) (codes "t" ∷ []) ∷
      a_module "Report" (codes "log" ∷ codes "q" ∷ codes "n" ∷ []) (codes "out" ∷ []) ∷ [];
  productions =
      record {
        head = 0;
        positions = at "al" 1 ∷ at "re" 2 ∷ at "bu" 5 ∷ at "rp" 8 ∷ [];
        edges = edge 0 0 1 0 ∷ edge 0 1 3 0 ∷ edge 1 0 2 0 ∷ edge 1 1 3 1 ∷ edge 2 1 3 2 ∷ [];
        entries = port 0 0 ∷ port 1 1 ∷ [];
        exits = port 2 0 ∷ port 3 0 ∷ [];
      } ∷
      record { head = 2; positions = at "rl" 3 ∷ at "nx" 2 ∷ []; edges = edge 0 0 1 0 ∷ edge 0 1 1 1 ∷ []; entries = port 0 0 ∷ port 0 1 ∷ []; exits = port 1 0 ∷ port 1 1 ∷ [] } ∷
      record { head = 2; positions = at "sc" 4 ∷ []; edges = []; entries = port 0 0 ∷ port 0 1 ∷ []; exits = port 0 0 ∷ port 0 1 ∷ [] } ∷
      record { head = 5; positions = at "sp" 6 ∷ at "inf" 7 ∷ []; edges = edge 0 0 1 0 ∷ []; entries = port 0 0 ∷ []; exits = port 1 0 ∷ port 0 1 ∷ [] } ∷ [];
  given = record { module_no = 3; pairs = (0, 0) ∷ (1, 1) ∷ [] } ∷ record { module_no = 4; pairs = (0, 0) ∷ (0, 1) ∷ (1, 1) ∷ [] } ∷ [];
}

-- the draws of the seed 4 end the run, and those of the seed 1 do not
pub record RunsAreWorked : Type 0 where
  pub ended : (generated phylogeny 12 4 16777216).events ≡
      Start (codes "n0") ∷ Expand (codes "n0") 0 (four "n1" "n2" "n3" "n4") ∷ Expand (codes "n2") 2 (codes "n5" ∷ []) ∷ Expand (codes "n3") 3 (two "n6" "n7") ∷ []
  pub cut : (generated phylogeny 4 1 16777216).events ≡
      Start (codes "n0") ∷ Expand (codes "n0") 0 (four "n1" "n2" "n3" "n4") ∷ Expand (codes "n3") 3 (two "n5" "n6") ∷ Expand (codes "n2") 1 (two "n7" "n8") ∷ Expand (codes "n8") 1 (two "n9" "n10") ∷ []
