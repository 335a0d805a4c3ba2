-- The worked verdicts. Where one tells of all runs, it follows from the law of answers.
use Rattle.std.proofs.Common.{◌≡◌, ℕ, List, [], ◌∷◌, ◌++◌, refl, sym, ap, ◌∙◌, subst, inl, inr, ⊎_elim, arith, lit<, true≢false}
use Rattle.wf_model.specs.Lists.{IsIn, here, onward}
use Rattle.wf_model.specs.View.{expands}
use Rattle.wf_model.specs.Finishing.{ExpandsComposites}
use Rattle.wf_model.specs.Reach.{Step, module_along, Reaches}
use Rattle.wf_model.proofs.DefaultView.{default_expands_composites}
use Rattle.wf_laws.specs.LineGrammar.{line, all_pairs, whole_view, shut_view, events, r_a, r_b, i1_y, LineGrammarIsWorked}
use Rattle.wf_laws.proofs.LineGrammar.{line_grammar_is_worked}
use Rattle.label_model.specs.Continuing.{derives_within, derives, continuing}
use Rattle.label_model.specs.Labels.{Label, Place, Input, Output, OfEdge, IsLabel}
use Rattle.label_model.specs.Places.{place_of}
use Rattle.label_model.specs.RunLabels.{address_in, labelled}
use Rattle.label_model.specs.Examples.{fork}
use Rattle.label_model.proofs.OneRoute.{one_route}
use Rattle.verdict_model.specs.Telling.{Tells, Names, ConsumedAt, ProducedAt}
use Rattle.verdict_model.specs.Verdicts.{IsHidden, AreShown, AreClashing, AlwaysDepends}
use Rattle.verdict_model.specs.Laws.{IsAnswered}
use Rattle.verdict_model.specs.Examples.{first_edge, second_edge, VerdictsAreWorked}
use Rattle.verdict_model.proofs.LabelsTold.{same_place}
use Rattle.verdict_model.proofs.Naming.{input_unnamed, output_unnamed}
use Rattle.verdict_model.proofs.Hiding.{expanded_shown, input_shown, output_shown}
use Rattle.verdict_model.proofs.Clashing.{agree_not_parting, clash_parting}
use Rattle.verdict_model.proofs.Answering.{answer_law}

worked : LineGrammarIsWorked
worked = line_grammar_is_worked

-- what the labels tell
line_tells : Tells line first_edge [] 0 0
unfolding derives_within derives continuing
line_tells = record { ending = record { route = tt; of_it = (lit< tt, refl); edge = lit< tt }; is = refl }

line_label : IsLabel line first_edge
unfolding derives_within derives continuing
line_label = record { entered = 0; leads = refl; from = 0; chain = (refl, refl); production = 0; of_it = (lit< tt, refl); alternative = refl; edge = lit< tt }

first_tells : Tells fork first_edge [] 0 0
unfolding derives_within derives continuing
first_tells = record { ending = record { route = tt; of_it = (lit< tt, refl); edge = lit< tt }; is = refl }

second_tells : Tells fork second_edge [] 1 0
unfolding derives_within derives continuing
second_tells = record { ending = record { route = tt; of_it = (lit< tt, refl); edge = lit< tt }; is = refl }

-- the items of the run have these labels
listed : IsIn (r_a, Input 0) (labelled line events) × IsIn (r_b, Output 0) (labelled line events) × IsIn (i1_y, first_edge) (labelled line events)
unfolding derives_within derives continuing address_in
listed = (inl refl, inr (inl refl), inr (inr (inl refl)))

-- where the root is expanded, the edges of its productions are shown
edge_shown : IsHidden line whole_view first_edge → ⊥
edge_shown = expanded_shown line worked.well_formed whole_view first_edge [] 0 0 line_tells (tt, refl)

composites : ExpandsComposites line whole_view
composites = subst (ExpandsComposites line) worked.default (default_expands_composites line)

-- the labels do not clash
input_clashes : (y : Label) → AreClashing line (Input 0) y → ⊥
input_clashes y h = input_unnamed line 0 h.0 h.1 h.3

output_clashes : (y : Label) → AreClashing line (Output 0) y → ⊥
output_clashes y h = output_unnamed line 0 h.0 h.1 h.3

clashes_output : (x : Label) → AreClashing line x (Output 0) → ⊥
clashes_output x h = output_unnamed line 0 h.0 h.2 h.4

edge_clashes : AreClashing line first_edge first_edge → ⊥
edge_clashes h = agree_not_parting [] [] 0 0 0 0 (refl, λ e. tt) (clash_parting line worked.well_formed first_edge first_edge [] [] 0 0 0 0 line_tells line_tells h)

-- what the law of answers says of two of them
answers : (x y : Label) → IsLabel line x → IsLabel line y → AreShown line whole_view x y → (AreClashing line x y → ⊥) → IsAnswered line whole_view all_pairs x y
answers x y lx ly shown apart = answer_law line whole_view all_pairs worked.well_formed worked.proper composites worked.full x y lx ly shown apart

-- the first position of S and the second
abbrev at_u : List Step
at_u = record { production = 0; position = 0 } ∷ []

abbrev at_v : List Step
at_v = record { production = 0; position = 1 } ∷ []

edge_consumed : ConsumedAt line first_edge at_v 0
edge_consumed = ([], 0, 0, _, line_tells, refl, refl, refl)

edge_produced : ProducedAt line first_edge at_u 0
edge_produced = ([], 0, 0, _, line_tells, refl, refl, refl)

-- from input a of S to output y of u
input_to_edge : Reaches line all_pairs 0 [] at_u 0 0
input_to_edge = (0, (lit< tt, onward (inr (inl refl)) here), refl)

-- from input x of v to output b of S
edge_to_output : Reaches line all_pairs 0 at_v [] 0 0
edge_to_output = (0, (lit< tt, onward (inr (inr (inl refl))) here), refl)

-- the run has the edge's item, which does not depend on itself
edge_not_always : AlwaysDepends line whole_view first_edge first_edge → ⊥
edge_not_always always = worked.not_of_itself (always events [] i1_y i1_y (record { run = worked.accepted.0; first = (listed.2, line_label); second = (listed.2, line_label); finishing = record { run = worked.accepted.0; finished = worked.expansion.finished } }))

edge_hidden : IsHidden line shut_view first_edge
edge_hidden = ([], 0, ([], 0, 0, line_tells, inl (refl, refl)), refl)

-- a label whose place is that of the empty address names a production at the root alone
names_root : (p e : ℕ) (c : List Step) (r : ℕ) → Names fork (OfEdge (place_of fork 0 [] p e)) c r → c ≡ []
names_root p e c r n = ⊎_elim (λ q. sym q.0 ∙ none) (λ q. absurd (longer c q.0 q.1 (sym q.2 ∙ none))) n.4
  where
    none : n.0 ≡ []
    none = let w = same_place _ _ (sym n.3.is) in one_route fork n.0 [] 0 0 n.3.ending.route tt (ap (λ (z : Place). z.steps) w) (ap (λ (z : Place). z.chain) w)

    longer : (c : List Step) (s : Step) (rest : List Step) → c ++ s ∷ rest ≡ [] → ⊥
    longer [] s rest e = cc
    longer (t ∷ c) s rest e = cc

fork_shown : (l : Label) (p e : ℕ) → l ≡ OfEdge (place_of fork 0 [] p e) → IsHidden fork whole_view l → ⊥
fork_shown l p e is h =
    let c = names_root p e h.0 h.1 (subst (λ z. Names fork z h.0 h.1) is h.2) in
    true≢false (ap (λ z. expands whole_view (module_along fork 0 z)) (sym c) ∙ h.3)

pub verdicts_are_worked : VerdictsAreWorked
verdicts_are_worked = record {
  label_of_r_a = (listed.0, lit< tt);
  label_of_r_b = (listed.1, lit< tt);
  label_of_i1_y = (listed.2, line_label);
  edge_of_input =
      let shown : AreShown line whole_view (Input 0) first_edge = (input_shown line whole_view 0, edge_shown) in
      (shown, input_clashes first_edge, (answers (Input 0) first_edge (lit< tt) line_label shown (input_clashes first_edge)).yes [] at_u 0 0 (refl, refl) edge_produced input_to_edge);
  output_of_edge =
      let shown : AreShown line whole_view first_edge (Output 0) = (edge_shown, output_shown line whole_view 0) in
      (shown, clashes_output first_edge, (answers first_edge (Output 0) line_label (lit< tt) shown (clashes_output first_edge)).yes at_v [] 0 0 edge_consumed (refl, refl) edge_to_output);
  output_of_input =
      let shown : AreShown line whole_view (Input 0) (Output 0) = (input_shown line whole_view 0, output_shown line whole_view 0) in
      (shown, input_clashes (Output 0), (answers (Input 0) (Output 0) (lit< tt) (lit< tt) shown (input_clashes (Output 0))).yes [] [] 0 0 (refl, refl) (refl, refl) refl);
  edge_not_of_itself = ((edge_shown, edge_shown), edge_clashes, edge_not_always);
  input_not_of_output =
      let shown : AreShown line whole_view (Output 0) (Input 0) = (output_shown line whole_view 0, input_shown line whole_view 0) in
      (shown, output_clashes (Input 0), ((answers (Output 0) (Input 0) (lit< tt) (lit< tt) shown (output_clashes (Input 0))).from_output 0 refl).1);
  hidden_first = edge_hidden;
  hidden_second = (input_shown line shut_view 0, edge_hidden);
  hidden_both = edge_hidden;
  edges_clash = (
    (fork_shown first_edge 0 0 first_tells.is, fork_shown second_edge 1 0 second_tells.is),
    ([], 0, 1, ([], 0, 0, first_tells, inl (refl, refl)), ([], 1, 0, second_tells, inl (refl, refl)), λ e. absurd (omega (arith, e))),
  );
}
