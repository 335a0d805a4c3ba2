-- Worked versions: the line grammar is a version of a longer one, and of one in which it does not keep its cycles.
use Rattle.std.specs.Prelude.{◌≡◌, ℕ, [], ◌∷◌, map, Option, Some, None, codes}
use Rattle.wf_model.specs.Grammar.{Grammar}
use Rattle.wf_model.specs.WellFormed.{IsWellFormed}
use Rattle.wf_model.specs.Proper.{IsProper}
use Rattle.wf_model.specs.Linear.{IsLinear}
use Rattle.wf_model.specs.View.{View}
use Rattle.wf_model.specs.Safe.{IsSafe}
use Rattle.wf_model.specs.Items.{Item}
use Rattle.wf_laws.specs.Examples.{a_module, at, port, edge}
use Rattle.wf_laws.specs.LineGrammar.{line, whole_view, events as line_run}
use Rattle.label_model.specs.Labels.{Label, Input, Output, OfEdge}
use Rattle.label_model.specs.RunLabels.{labelled}
use Rattle.label_model.specs.Files.{entries_of}
use Rattle.verdict_model.specs.declared.verdict.Verdict.TheVariants.{Yes}
use Rattle.verdict_model.specs.Verdicts.{IsVerdict}
use Rattle.wf_model.specs.Versions.{version_of, IsVersion, GetsOnCycle, KeepsCycles}
use Rattle.version_model.specs.Versions.{ShowAlike}

-- as the line grammar, with a module R that has input x and output y, and its pair; Q is expanded to z of R
abbrev pub longer : Grammar
longer = record {
  start = 0;
  modules =
      a_module "S" (codes "a" ∷ []) (codes "b" ∷ []) ∷ a_module "P" (codes "x" ∷ []) (codes "y" ∷ []) ∷
      a_module "Q" (codes "x" ∷ []) (codes "y" ∷ []) ∷ a_module "R" (codes "x" ∷ []) (codes "y" ∷ []) ∷ [];
  productions =
      record { head = 0; positions = at "u" 1 ∷ at "v" 2 ∷ []; edges = edge 0 0 1 0 ∷ []; entries = port 0 0 ∷ []; exits = port 1 0 ∷ [] } ∷
      record { head = 2; positions = at "z" 3 ∷ []; edges = []; entries = port 0 0 ∷ []; exits = port 0 0 ∷ [] } ∷ [];
  given = record { module_no = 3; pairs = (0, 0) ∷ [] } ∷ [];
}

-- as the longer one, and Q is expanded to s of S first, which closes a cycle of S and Q
abbrev pub closed : Grammar
closed = record {
  start = 0;
  modules =
      a_module "S" (codes "a" ∷ []) (codes "b" ∷ []) ∷ a_module "P" (codes "x" ∷ []) (codes "y" ∷ []) ∷
      a_module "Q" (codes "x" ∷ []) (codes "y" ∷ []) ∷ a_module "R" (codes "x" ∷ []) (codes "y" ∷ []) ∷ [];
  productions =
      record { head = 0; positions = at "u" 1 ∷ at "v" 2 ∷ []; edges = edge 0 0 1 0 ∷ []; entries = port 0 0 ∷ []; exits = port 1 0 ∷ [] } ∷
      record { head = 2; positions = at "s" 0 ∷ []; edges = []; entries = port 0 0 ∷ []; exits = port 0 0 ∷ [] } ∷
      record { head = 2; positions = at "z" 3 ∷ []; edges = []; entries = port 0 0 ∷ []; exits = port 0 0 ∷ [] } ∷ [];
  given = [];
}

-- S is expanded, and P, Q and R have all pairs
abbrev pub s_alone : View
s_alone = record { expanded = 0 ∷ []; shown = ((0, 0) ∷ []) ∷ ((0, 0) ∷ []) ∷ ((0, 0) ∷ []) ∷ ((0, 0) ∷ []) ∷ [] }

-- the edge of the first production of S at the root, with this chain number
abbrev pub edge_of_s : Option ℕ → Label
edge_of_s chain = OfEdge (record { steps = []; chain = chain; alternative = 0; edge = 0 })

-- the line grammar is a version of both
pub record VersionsAreWorked : Type 0 where
  pub longer_version : IsVersion longer 3 1
  pub longer_line : version_of longer 3 1 ≡ line
  pub longer_keeps : KeepsCycles longer 3 1
  -- with R too it is another version
  pub line_with_r : IsVersion longer 4 1
  -- Q, which stands in the body of S, is the third module
  pub too_few_modules : IsVersion longer 2 1 → ⊥
  pub longer_entries : entries_of longer line_run ≡ entries_of line line_run
  -- the laws speak of it: it is accepted, and a safe view of it shows the line grammar as the default view does
  pub longer_formed : IsWellFormed longer
  pub longer_proper : IsProper longer
  pub longer_linear : IsLinear longer
  pub longer_safe : IsSafe longer s_alone
  pub longer_alike : ShowAlike line whole_view s_alone
  -- so a verdict in the line grammar is one here
  pub longer_verdict : IsVerdict longer s_alone (Input 0) (edge_of_s None) Yes
  -- S is composite in the line grammar, and gets on a cycle by a production that came later
  pub closed_version : IsVersion closed 3 1
  pub closed_line : version_of closed 3 1 ≡ line
  pub closed_gets_on : GetsOnCycle closed 3 1 0
  pub closed_changes : KeepsCycles closed 3 1 → ⊥
  -- so the label of its edge tells a chain number in the grammar, and tells none in the version
  pub line_labels : map (λ (t : Item × Label). t.1) (labelled line line_run) ≡ Input 0 ∷ Output 0 ∷ edge_of_s None ∷ []
  pub closed_labels : map (λ (t : Item × Label). t.1) (labelled closed line_run) ≡ Input 0 ∷ Output 0 ∷ edge_of_s (Some 0) ∷ []
  -- with both later productions the version has the cycle
  pub closed_keeps : KeepsCycles closed 4 2
