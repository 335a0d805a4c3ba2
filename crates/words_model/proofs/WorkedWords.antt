-- The worked words and verdicts of the line grammar.
use Rattle.std.proofs.Common.{◌≡◌, ◌↔◌, ℕ, zero, suc, ◌+◌, ◌*◌, ◌<◌, ◌≤◌, true, false, cond, eqb, IsTrue, List, [], ◌∷◌, ◌++◌, length, codes, Option, bytes_eq, Some, None, refl, sym, ap, subst, inl, inr, ⊎_elim, arith, lit<, lit≤, true≢false}
use Rattle.std.specs.Prelude.{◌==◌}
use Rattle.std.specs.Option.{option_eq}
use Rattle.std.proofs.lemmas.Bool.{eqb-true}
use Rattle.std.proofs.lemmas.Fmt.{decimal_digit}
use Rattle.wf_model.specs.Lists.{IsIn}
use Rattle.wf_model.specs.Grammar.{Module, Assignment, inputs_of, outputs_of, head_of}
use Rattle.wf_model.specs.View.{expands, shows}
use Rattle.wf_model.specs.Links.{Port, Link, input, output, instance_at, move_link, wiring, body_links, links, Path}
use Rattle.wf_model.specs.Safe.{BodyJoins, IsInduced}
use Rattle.wf_model.specs.Finishing.{ExpandsComposites}
use Rattle.wf_model.specs.Items.{Item}
use Rattle.wf_model.proofs.Lists.{same_bytes}
use Rattle.wf_model.proofs.DefaultView.{default_expands_composites}
use Rattle.wf_laws.specs.Examples.{into, out}
use Rattle.wf_laws.specs.LineGrammar.{line, whole_view, events, r_a, r_b, i1_y}
use Rattle.wf_laws.proofs.Safe.{one_test_suffices}
use Rattle.wf_laws.proofs.LineGrammar.{line_grammar_is_worked}
use Rattle.wf_laws.proofs.Reached.{found, not_found}
use Rattle.label_model.specs.Labels.{Label, Input, Output}
use Rattle.label_model.specs.RunLabels.{HasLabel}
use Rattle.verdict_model.specs.Verdicts.{AreShown, AreClashing, HasBoth}
use Rattle.verdict_model.specs.Examples.{first_edge}
use Rattle.verdict_model.proofs.WorkedVerdicts.{verdicts_are_worked}
use Rattle.chain_model.specs.Examples.{r, i1, i2}
use Rattle.chain_model.proofs.WorkedChains.{of_open}
use Rattle.words_model.specs.Automata.{Move, IsAutomaton, state_after}
use Rattle.words_model.specs.Words.{IsWire, WordPath, stay, by_wire, by_pair, Accepts}
use Rattle.words_model.specs.Lifting.{port_name, lift, HasFewStates, lift_view}
use Rattle.words_model.specs.Verdicts.{AlwaysAccepts}
use Rattle.words_model.specs.Laws.{Fits, LiftSafely}
use Rattle.words_model.specs.Examples.{past_q, WordsAreWorked}
use Rattle.words_model.proofs.LiftedGrammars.{lifted_formed}
use Rattle.words_model.proofs.LiftedPaths.{back}
use Rattle.words_model.proofs.WordAnswers.{word_answer_law}

pub past_q_is : IsAutomaton past_q
past_q_is = record {
  start = lit< tt;
  accept = λ s h. ⊎_elim (λ e. subst (λ z. z < 2) (sym e) (lit< tt)) (λ e. absurd e) h;
  moves = λ v h. ⊎_elim (λ e. subst (λ (z : Move). (z.from < 2) × (z.to < 2)) (sym e) (lit< tt, lit< tt)) (λ e. absurd e) h;
}

-- a wire of r, which is expanded by the production with the number 0
r_wire : (l : Link (Option ℕ)) → IsIn l (wiring line 0) → (x y : Port (List ℕ)) → ◌≡◌ {A = Link (List ℕ)} (record { from = x; to = y }) (move_link (instance_at (codes "r") (codes "i1" ∷ codes "i2" ∷ [])) l) → IsWire line whole_view 0 events x y
r_wire l h x y e = of_open line whole_view 0 events (wiring line) r (record { production = 0; names = codes "i1" ∷ codes "i2" ∷ [] }) l (inl refl) refl refl h x y e

-- the entry, the edge and the exit
entry : IsWire line whole_view 0 events (into "r" 0) (into "i1" 0)
entry = r_wire (record { from = input None 0; to = input (Some 0) 0 }) (inr (inl refl)) (into "r" 0) (into "i1" 0) refl

edge_between : IsWire line whole_view 0 events (out "i1" 0) (into "i2" 0)
edge_between = r_wire (record { from = output (Some 0) 0; to = input (Some 1) 0 }) (inl refl) (out "i1" 0) (into "i2" 0) refl

exit : IsWire line whole_view 0 events (out "i2" 0) (out "r" 0)
exit = r_wire (record { from = output (Some 1) 0; to = output None 0 }) (inr (inr (inl refl))) (out "i2" 0) (out "r" 0) refl

-- through Q to the output of r, and through P before it
q_word : WordPath line whole_view 0 events (into "i2" 0) (out "r" 0) (2 ∷ [])
q_word = by_pair i2 (inr (inr (inl refl)), inl refl) (by_wire exit stay)

whole_word : WordPath line whole_view 0 events (into "r" 0) (out "r" 0) (1 ∷ 2 ∷ [])
whole_word = by_wire entry (by_pair i1 (inr (inl refl), inl refl) (by_wire edge_between q_word))

-- in the lifted links no path leads from the input of r in the first state to the output of i1 in the second, so no path there has an accepted word
not_there : (word : List ℕ) → WordPath line whole_view 0 events (into "r" 0) (out "i1" 0) word → IsIn (state_after past_q 0 word) (1 ∷ []) → ⊥
not_there word w (inr e) = absurd e
not_there word w (inl e) =
    not_found bytes_eq same_bytes (links (lift line 2) (lift_view past_q whole_view) 0 events) (into "r" 0) 5 (out "i1" 1) refl refl refl
    (subst (λ z. Path (links (lift line 2) (lift_view past_q whole_view) 0 events) (into "r" 0) (out "i1" (0 + z))) e (back line whole_view past_q past_q_is 0 events w 0 (lit< tt)))

-- ---- the lifted view is safe
-- each module has one port on a side, so two states are few
few : HasFewStates line 2
few m h = ⊎_elim (λ e. one m e) (λ h. ⊎_elim (λ e. one m e) (λ h. ⊎_elim (λ e. one m e) (λ e. absurd e) h) h) h
  where
    one : (m : Module) {n a b : List ℕ} → m ≡ record { name = n; inputs = a ∷ []; outputs = b ∷ [] } → (length m.inputs * 2 ≤ 64) × (length m.outputs * 2 ≤ 64)
    one m e = subst (λ (z : Module). (length z.inputs * 2 ≤ 64) × (length z.outputs * 2 ≤ 64)) (sym e) (lit≤ tt, lit≤ tt)

fits : Fits line past_q
fits = record { automaton = past_q_is; states = lit≤ tt; ports = few }

-- P keeps the state, and Q leads to the second; so does S
abbrev lifted_pairs : Assignment
lifted_pairs m i o = cond (m == 1) (i == o) (o == 1)

-- the places of a body's ports
same_owner : (a b : Option ℕ) → option_eq eqb a b ≡ true → a ≡ b
same_owner None None e = refl
same_owner None (Some k) e = absurd (true≢false (sym e))
same_owner (Some j) None e = absurd (true≢false (sym e))
same_owner (Some j) (Some k) e = ap Some (eqb-true j k e)

abbrev of_s : List (Link (Option ℕ))
of_s = body_links (lift line 2) lifted_pairs 0

-- what holds of 0 and 1 holds of what is below 2
below_two : (P : ℕ → Type 0) (i : ℕ) → i < 2 → P 0 → P 1 → P i
below_two P zero h a b = a
below_two P (suc zero) h a b = b
below_two P (suc (suc i)) h a b = absurd (omega arith)

lifted_induced : IsInduced (lift line 2) (lift_view past_q whole_view) lifted_pairs
lifted_induced = record {
  shown = λ m s ex i o hi ho. shown m i o ex hi ho;
  induced = λ p hp s ex i o hi ho. let e : p ≡ 0 = omega arith in
      subst (λ z. i < inputs_of (lift line 2) (head_of (lift line 2) z) → o < outputs_of (lift line 2) (head_of (lift line 2) z) → IsTrue (lifted_pairs (head_of (lift line 2) z) i o) ↔ BodyJoins (lift line 2) lifted_pairs z i o) (sym e) (joins i o) hi ho;
}
  where
    shown : (m i o : ℕ) → expands whole_view m ≡ false → i < inputs_of (lift line 2) m → o < outputs_of (lift line 2) m → lifted_pairs m i o ≡ shows (lift_view past_q whole_view) m i o
    shown zero i o ex hi ho = absurd (true≢false ex)
    shown (suc zero) i o ex hi ho = below_two (λ i. lifted_pairs 1 i o ≡ shows (lift_view past_q whole_view) 1 i o) i hi (below_two (λ o. lifted_pairs 1 0 o ≡ shows (lift_view past_q whole_view) 1 0 o) o ho refl refl) (below_two (λ o. lifted_pairs 1 1 o ≡ shows (lift_view past_q whole_view) 1 1 o) o ho refl refl)
    shown (suc (suc zero)) i o ex hi ho = below_two (λ i. lifted_pairs 2 i o ≡ shows (lift_view past_q whole_view) 2 i o) i hi (below_two (λ o. lifted_pairs 2 0 o ≡ shows (lift_view past_q whole_view) 2 0 o) o ho refl refl) (below_two (λ o. lifted_pairs 2 1 o ≡ shows (lift_view past_q whole_view) 2 1 o) o ho refl refl)
    shown (suc (suc (suc m))) i o ex hi ho = absurd (omega arith)

    not_joined : (i : ℕ) → ¬ BodyJoins (lift line 2) lifted_pairs 0 i 0 → IsTrue (lifted_pairs 0 i 0) ↔ BodyJoins (lift line 2) lifted_pairs 0 i 0
    not_joined i n = ((λ e. absurd (true≢false (sym e))), (λ w. absurd (n w)))

    joined : (i : ℕ) → BodyJoins (lift line 2) lifted_pairs 0 i 1 → IsTrue (lifted_pairs 0 i 1) ↔ BodyJoins (lift line 2) lifted_pairs 0 i 1
    joined i w = ((λ e. w), (λ w. refl))

    joins : (i o : ℕ) → i < 2 → o < 2 → IsTrue (lifted_pairs 0 i o) ↔ BodyJoins (lift line 2) lifted_pairs 0 i o
    joins i o hi ho =
        below_two (λ i. IsTrue (lifted_pairs 0 i o) ↔ BodyJoins (lift line 2) lifted_pairs 0 i o) i hi
        (below_two (λ o. IsTrue (lifted_pairs 0 0 o) ↔ BodyJoins (lift line 2) lifted_pairs 0 0 o) o ho
        (not_joined 0 (not_found (option_eq eqb) same_owner of_s (input None 0) 5 (output None 0) refl refl refl))
        (joined 0 (found (option_eq eqb) same_owner of_s (input None 0) 5 (output None 1) refl)))
        (below_two (λ o. IsTrue (lifted_pairs 0 1 o) ↔ BodyJoins (lift line 2) lifted_pairs 0 1 o) o ho
        (not_joined 1 (not_found (option_eq eqb) same_owner of_s (input None 1) 5 (output None 0) refl refl refl))
        (joined 1 (found (option_eq eqb) same_owner of_s (input None 1) 5 (output None 1) refl)))

lifted : LiftSafely line whole_view past_q
lifted =
    let full = one_test_suffices (lift line 2) (lift_view past_q whole_view) lifted_pairs (lifted_formed line past_q line_grammar_is_worked.well_formed fits) lifted_induced in
    record {
      formed = line_grammar_is_worked.well_formed;
      proper = line_grammar_is_worked.proper;
      composites = subst (ExpandsComposites line) line_grammar_is_worked.default (default_expands_composites line);
      fits = fits;
      safe = λ m s e f x y i o hi ho w. (full m s f y i o hi ho).0 ((full m s e x i o hi ho).1 w);
    }

-- ---- verdicts
both : (x y : Label) (s t : Item) → HasLabel line events s x → HasLabel line events t y → HasBoth line whole_view x y events [] s t
both x y s t hs ht = record { run = line_grammar_is_worked.accepted.0; first = hs; second = ht; finishing = record { run = line_grammar_is_worked.accepted.0; finished = line_grammar_is_worked.expansion.finished } }

-- what is accepted in the run is always accepted
always : (x y : Label) (s t : Item) → AreShown line whole_view x y → (AreClashing line x y → ⊥) → HasLabel line events s x → HasLabel line events t y → Accepts line whole_view past_q events s t → AlwaysAccepts line whole_view past_q x y
always x y s t shown apart hs ht w = (word_answer_law line whole_view past_q lifted x y hs.1 ht.1 shown apart).once.0 (record { events = events; more = []; first = s; second = t; both = both x y s t hs ht; accepts = w })

to_output : Accepts line whole_view past_q events r_a r_b
to_output = (1 ∷ 2 ∷ [], whole_word, inl refl)

to_edge : ¬ Accepts line whole_view past_q events r_a i1_y
to_edge q = not_there q.0 q.1 q.2

from_edge : Accepts line whole_view past_q events i1_y r_b
from_edge = (2 ∷ [], q_word, inl refl)

-- the name of a port whose numbers have one digit each
one_digit : (letter p s : ℕ) → p < 10 → s < 10 → port_name letter p s ≡ letter ∷ (48 + p) ∷ 45 ∷ (48 + s) ∷ []
one_digit letter p s hp hs = λ i. letter ∷ decimal_digit p hp i ++ 45 ∷ decimal_digit s hs i

pub words_are_worked : WordsAreWorked
words_are_worked = record {
  whole_word = whole_word;
  state_of_whole = refl;
  state_of_p = refl;
  r_a_to_r_b = to_output;
  r_a_to_i1_y = to_edge;
  i1_y_to_r_b = from_edge;
  lifted_links = refl;
  ports_of_s = λ i. one_digit 105 0 0 (lit< tt) (lit< tt) i ∷ one_digit 105 0 1 (lit< tt) (lit< tt) i ∷ one_digit 111 0 0 (lit< tt) (lit< tt) i ∷ one_digit 111 0 1 (lit< tt) (lit< tt) i ∷ [];
  edge_in_second = refl;
  lifted = lifted;
  output_of_input = let v = verdicts_are_worked.output_of_input in (v.0, v.1, always (Input 0) (Output 0) r_a r_b v.0 v.1 verdicts_are_worked.label_of_r_a verdicts_are_worked.label_of_r_b to_output);
  edge_of_input = let v = verdicts_are_worked.edge_of_input in (v.0, v.1, λ w. to_edge (w events [] r_a i1_y (both (Input 0) first_edge r_a i1_y verdicts_are_worked.label_of_r_a verdicts_are_worked.label_of_i1_y)));
  output_of_edge = let v = verdicts_are_worked.output_of_edge in (v.0, v.1, always first_edge (Output 0) i1_y r_b v.0 v.1 verdicts_are_worked.label_of_i1_y verdicts_are_worked.label_of_r_b from_edge);
  hidden = verdicts_are_worked.hidden_second;
}
