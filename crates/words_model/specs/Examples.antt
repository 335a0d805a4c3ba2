-- Worked words and verdicts of the line grammar, by an automaton that waits for Q.
use Rattle.std.specs.Prelude.{◌≡◌, [], ◌∷◌, ◌++◌, None, codes}
use Rattle.wf_model.specs.Grammar.{module_at}
use Rattle.wf_model.specs.Links.{links}
use Rattle.wf_laws.specs.Examples.{into, out, link}
use Rattle.wf_laws.specs.LineGrammar.{line, whole_view, shut_view, events, r_a, r_b, i1_y}
use Rattle.label_model.specs.Labels.{Input, Output, OfEdge}
use Rattle.verdict_model.specs.declared.verdict.Verdict.TheVariants.{Hidden2, Yes, No}
use Rattle.verdict_model.specs.Examples.{first_edge}
use Rattle.words_model.specs.Automata.{Automaton, state_after}
use Rattle.words_model.specs.Words.{WordPath, Accepts}
use Rattle.words_model.specs.Lifting.{lift, lift_view, lift_label}
use Rattle.words_model.specs.Verdicts.{IsWordVerdict}
use Rattle.words_model.specs.Laws.{LiftSafely}

-- two states: Q leads from the first to the second, which accepts
abbrev pub past_q : Automaton
past_q = record { states = 2; start = 0; accept = 1 ∷ []; moves = record { from = 0; module_no = 2; to = 1 } ∷ [] }

-- words of the run, and the links of it lifted
pub record WordsAreWorked : Type 0 where
  -- the path from the input of r to its output goes by P and then by Q
  pub whole_word : WordPath line whole_view 0 events (into "r" 0) (out "r" 0) (1 ∷ 2 ∷ [])
  pub state_of_whole : state_after past_q 0 (1 ∷ 2 ∷ []) ≡ 1
  -- P keeps the state, and Q alone leads on
  pub state_of_p : state_after past_q 0 (1 ∷ []) ≡ 0
  pub r_a_to_r_b : Accepts line whole_view past_q events r_a r_b
  pub r_a_to_i1_y : ¬ Accepts line whole_view past_q events r_a i1_y
  pub i1_y_to_r_b : Accepts line whole_view past_q events i1_y r_b
  -- the edge, the entry and the exit of r in both states; then the pairs: that of P keeps the state, and that of Q leads both to the second
  pub lifted_links : links (lift line 2) (lift_view past_q whole_view) 0 events ≡
      link (out "i1" 0) (into "i2" 0) ∷ link (out "i1" 1) (into "i2" 1) ∷
      link (into "r" 0) (into "i1" 0) ∷ link (into "r" 1) (into "i1" 1) ∷
      link (out "i2" 0) (out "r" 0) ∷ link (out "i2" 1) (out "r" 1) ∷
      link (into "i1" 0) (out "i1" 0) ∷ link (into "i1" 1) (out "i1" 1) ∷
      link (into "i2" 0) (out "i2" 1) ∷ link (into "i2" 1) (out "i2" 1) ∷ []
  -- the ports of S are named by port and state, and its edge in the second state has the number 1
  pub ports_of_s : (module_at (lift line 2) 0).inputs ++ (module_at (lift line 2) 0).outputs ≡ codes "i0-0" ∷ codes "i0-1" ∷ codes "o0-0" ∷ codes "o0-1" ∷ []
  pub edge_in_second : lift_label 2 1 first_edge ≡ OfEdge (record { steps = []; chain = None; alternative = 0; edge = 1 })
  -- the laws speak of it
  pub lifted : LiftSafely line whole_view past_q
  -- so the labels have the verdicts that the items have in the run
  pub output_of_input : IsWordVerdict line whole_view past_q (Input 0) (Output 0) Yes
  pub edge_of_input : IsWordVerdict line whole_view past_q (Input 0) first_edge No
  pub output_of_edge : IsWordVerdict line whole_view past_q first_edge (Output 0) Yes
  -- where S is not expanded, its edge is hidden
  pub hidden : IsWordVerdict line shut_view past_q (Input 0) first_edge Hidden2
