-- Worked packages: of the line grammar with nothing expanded, of the twisting grammar whole, and of a cycle that is cut.
use Rattle.std.specs.Prelude.{◌≡◌, ℕ, List, [], ◌∷◌, codes}
use Rattle.wf_model.specs.Grammar.{Grammar}
use Rattle.wf_model.specs.View.{View}
use Rattle.wf_laws.specs.Examples.{a_module, at, port, edge}
use Rattle.wf_laws.specs.LineGrammar.{line, shut_view}
use Rattle.wf_laws.specs.TwistingGrammar.{two, twisting, whole_view}
use Rattle.label_model.specs.Labels.{Input, Output}
use Rattle.label_model.specs.Examples.{fork, pair, edge_after}
use Rattle.verdict_model.specs.declared.verdict.Verdict.{Verdict}
use Rattle.verdict_model.specs.declared.verdict.Verdict.TheVariants.{Hidden1, Hidden2, Yes}
use Rattle.verdict_model.specs.Examples.{first_edge}
use Rattle.package_model.specs.Shown.{AreSeen, Shown, shown_of}
use Rattle.package_model.specs.Packages.{LoopEntry, package_of, loops_of, loop_of}
use Rattle.package_model.specs.Translating.{Translation, Inside, Outside, Malformed, TranslatesTo}
use Rattle.package_model.specs.Consulting.{IsConsulted}

-- what is shown of the line grammar where nothing is expanded: S alone
abbrev pub shut : Shown
shut = shown_of line shut_view (0 ∷ []) []

-- its package: one module, with an input and an output
abbrev pub shut_package : Grammar
shut_package = record { start = 0; modules = a_module "m0" (codes "i0" ∷ []) (codes "o0" ∷ []) ∷ []; productions = []; given = [] }

-- what is shown of the twisting grammar by default: all of it
abbrev pub whole : Shown
whole = shown_of twisting whole_view (0 ∷ 1 ∷ 2 ∷ 3 ∷ []) (0 ∷ 1 ∷ 2 ∷ [])

-- its package: the same modules, positions and pairs by other names
abbrev pub whole_package : Grammar
whole_package = record {
  start = 0;
  modules = a_module "m0" (two "i0" "i1") (two "o0" "o1") ∷ a_module "m1" (two "i0" "i1") (two "o0" "o1") ∷ a_module "m2" (two "i0" "i1") (two "o0" "o1") ∷ a_module "m3" (two "i0" "i1") (two "o0" "o1") ∷ [];
  productions =
      record { head = 0; positions = at "p0" 1 ∷ []; edges = []; entries = port 0 0 ∷ port 0 1 ∷ []; exits = port 0 0 ∷ port 0 1 ∷ [] } ∷
      record { head = 1; positions = at "p0" 2 ∷ at "p1" 1 ∷ at "p2" 2 ∷ []; edges = edge 0 0 1 0 ∷ edge 0 1 1 1 ∷ edge 1 0 2 0 ∷ edge 1 1 2 1 ∷ []; entries = port 0 0 ∷ port 0 1 ∷ []; exits = port 2 0 ∷ port 2 1 ∷ [] } ∷
      record { head = 1; positions = at "p0" 3 ∷ []; edges = []; entries = port 0 0 ∷ port 0 1 ∷ []; exits = port 0 0 ∷ port 0 1 ∷ [] } ∷ [];
  given = record { module_no = 2; pairs = (0, 1) ∷ (1, 0) ∷ [] } ∷ record { module_no = 3; pairs = (0, 0) ∷ (1, 1) ∷ [] } ∷ [];
}

-- A alone is expanded, and the others have all pairs
abbrev pub a_alone : View
a_alone = record { expanded = 0 ∷ []; shown = [] ∷ ((0, 0) ∷ []) ∷ ((0, 0) ∷ []) ∷ ((0, 0) ∷ []) ∷ [] }

-- what it shows of the pair grammar: A, B and P, of which A is expanded. The cycle of A and B is cut
abbrev pub cut : Shown
cut = shown_of pair a_alone (0 ∷ 1 ∷ 2 ∷ []) (0 ∷ 1 ∷ [])

-- a loop entry
abbrev pub loop_entry : List ℕ → ℕ → ℕ → LoopEntry
loop_entry name p i = record { module_name = name; step = record { production = p; position = i } }

-- what bytes come to over the package
abbrev pub ComesTo : Shown → List ℕ → Translation → Type 0
ComesTo s bytes t = TranslatesTo (package_of s) (loop_of s) bytes t

-- two byte strings have a verdict by the package
abbrev pub Tells : Shown → List ℕ → List ℕ → Verdict → Type 0
Tells s x y v = IsConsulted (package_of s) (loop_of s) x y v

-- packages, and labels that are read over them
pub record PackagesAreWorked : Type 0 where
  -- nothing is expanded
  pub shut_seen : AreSeen line shut_view (0 ∷ []) []
  pub shut_is : package_of shut ≡ shut_package
  pub shut_loops : loops_of shut ≡ []
  -- the fork, which can be expanded in two ways, has the same package
  pub fork_is : shown_of fork shut_view (0 ∷ []) [] ≡ shut
  -- an input and an output of the root
  pub shut_input : ComesTo shut (0x20 ∷ []) (Inside (Input 0))
  pub shut_output : ComesTo shut (0x60 ∷ []) (Inside (Output 0))
  -- the edge of S; bytes that are no label, but begin so; and another input, which S has not
  pub shut_edge : ComesTo shut (0xb0 ∷ []) Outside
  pub shut_beginning : ComesTo shut (0xb1 ∷ []) Outside
  pub shut_malformed : ComesTo shut (0x10 ∷ []) Malformed
  pub shut_yes : Tells shut (0x20 ∷ []) (0x60 ∷ []) Yes
  pub shut_second : Tells shut (0x20 ∷ []) (0xb0 ∷ []) Hidden2
  pub shut_first : Tells shut (0xb1 ∷ []) (0x20 ∷ []) Hidden1
  pub shut_none : (v : Verdict) → ¬ Tells shut (0x10 ∷ []) (0x20 ∷ []) v
  -- all is expanded
  pub whole_seen : AreSeen twisting whole_view (0 ∷ 1 ∷ 2 ∷ 3 ∷ []) (0 ∷ 1 ∷ 2 ∷ [])
  pub whole_is : package_of whole ≡ whole_package
  pub whole_loops : loops_of whole ≡ loop_entry (codes "m1") 1 1 ∷ []
  -- an edge of an L, with chain number 0
  pub whole_edge : ComesTo whole (0xfb ∷ []) (Inside (edge_after 0))
  -- B is not expanded: the loop step of A leads to it
  pub cut_loops : loops_of cut ≡ loop_entry (codes "m0") 0 1 ∷ []
  -- the edge of A has a chain number in the grammar, and none in the package, where A is on no cycle
  pub cut_edge : ComesTo cut (0xd8 ∷ []) (Inside first_edge)
  -- after one continuing step B stands
  pub cut_outside : ComesTo cut (0xa6 ∷ []) Outside
