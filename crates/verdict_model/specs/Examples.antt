-- Worked verdicts: one of each kind, on two small grammars.
use Rattle.std.specs.Prelude.{[], None}
use Rattle.wf_laws.specs.LineGrammar.{line, whole_view, shut_view, events, r_a, r_b, i1_y}
use Rattle.label_model.specs.Labels.{Label, Input, Output, OfEdge}
use Rattle.label_model.specs.RunLabels.{HasLabel}
use Rattle.label_model.specs.Examples.{fork}
use Rattle.verdict_model.specs.declared.verdict.Verdict.TheVariants.{Hidden1, Hidden2, Clash, Yes, No}
use Rattle.verdict_model.specs.Verdicts.{IsVerdict}

-- the edge of the first production of S, where the root is expanded by it
abbrev pub first_edge : Label
first_edge = OfEdge (record { steps = []; chain = None; alternative = 0; edge = 0 })

-- the edge of the second one
abbrev pub second_edge : Label
second_edge = OfEdge (record { steps = []; chain = None; alternative = 1; edge = 0 })

-- labels of a run, and what they tell two by two
pub record VerdictsAreWorked : Type 0 where
  pub label_of_r_a : HasLabel line events r_a (Input 0)
  pub label_of_r_b : HasLabel line events r_b (Output 0)
  pub label_of_i1_y : HasLabel line events i1_y first_edge
  -- the edge of S depends on its input, and the output of S on both
  pub edge_of_input : IsVerdict line whole_view (Input 0) first_edge Yes
  pub output_of_edge : IsVerdict line whole_view first_edge (Output 0) Yes
  pub output_of_input : IsVerdict line whole_view (Input 0) (Output 0) Yes
  -- an item does not depend on itself, and nothing depends on an output of the root
  pub edge_not_of_itself : IsVerdict line whole_view first_edge first_edge No
  pub input_not_of_output : IsVerdict line whole_view (Output 0) (Input 0) No
  -- where S is not expanded, its edge is hidden
  pub hidden_first : IsVerdict line shut_view first_edge (Input 0) Hidden1
  pub hidden_second : IsVerdict line shut_view (Input 0) first_edge Hidden2
  pub hidden_both : IsVerdict line shut_view first_edge first_edge Hidden1
  -- S of the fork is expanded in one of two ways, so no run has the edges of both
  pub edges_clash : IsVerdict fork whole_view first_edge second_edge Clash
