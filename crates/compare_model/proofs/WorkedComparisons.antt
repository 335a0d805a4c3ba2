-- The worked comparisons.
use Rattle.std.proofs.Common.{◌≡◌, ◌≢◌, ◌↔◌, ◌==◌, ℕ, zero, suc, ◌<◌, ◌≤◌, ◌⊎◌, Bool, true, false, IsTrue, List, [], ◌∷◌, length, get_or, Option, Some, None, refl, sym, ap, ◌∙◌, subst, inl, inr, ⊎_elim, arith, lit<, true≢false}
use Rattle.std.specs.Fmt.{digits}
use Rattle.std.proofs.lemmas.Bool.Decides.{nat_tests}
use Rattle.wf_model.specs.Grammar.{Grammar, inputs_of, outputs_of, head_of, body_of}
use Rattle.wf_model.specs.View.{View, expands, shows, at_start, in_body}
use Rattle.wf_model.specs.Safe.{IsInduced, IsFull, BodyJoins}
use Rattle.wf_model.specs.Links.{input, output, body_links}
use Rattle.wf_model.specs.Linear.{IsStepOf}
use Rattle.wf_model.specs.Reach.{Step, target_of}
use Rattle.wf_model.specs.Finishing.{ExpandsComposites}
use Rattle.wf_model.specs.OpenRoutes.{IsOpenRoute}
use Rattle.wf_model.proofs.DefaultView.{default_expands_composites}
use Rattle.wf_laws.specs.LineGrammar.{line, all_pairs, whole_view as line_view, shut_view}
use Rattle.wf_laws.specs.TwistingGrammar.{twisting, whole_view, outer_view, straight}
use Rattle.wf_laws.proofs.LineGrammar.{line_grammar_is_worked}
use Rattle.wf_laws.proofs.Reached.{found, not_found}
use Rattle.wf_laws.proofs.Safe.{one_test_suffices}
use Rattle.label_model.specs.Examples.{fork}
use Rattle.compare_model.specs.Routes.{IsEarlier, LeadsTo, ComesFirst, IsFirstShortestRoute}
use Rattle.wf_laws.proofs.Reach.{step_to}
use Rattle.compare_model.specs.Laws.{AreCompared}
use Rattle.compare_model.specs.Examples.{crossed_view, parted_view, half_view, ComparisonsAreWorked}
use Rattle.compare_model.proofs.PairTests.{denies_none, adds_none, first_denied, first_added}

-- the places of a body's ports, as numbers: the head, or a position
abbrev place_no : Option ℕ → ℕ
place_no None = 0
place_no (Some k) = suc k

abbrev same_place : Option ℕ → Option ℕ → Bool
same_place a b = place_no a == place_no b

place_same : (a b : Option ℕ) → same_place a b ≡ true → a ≡ b
place_same None None e = refl
place_same None (Some k) e = absurd (grind (arith, nat_tests))
place_same (Some j) None e = absurd (grind (arith, nat_tests))
place_same (Some j) (Some k) e = let q : j ≡ k = grind (arith, nat_tests) in ap Some q

-- by each production of the twisting grammar the ports of its head are joined straight
straight_by : (p i o : ℕ) → p < 3 → i < inputs_of twisting (head_of twisting p) → o < outputs_of twisting (head_of twisting p) → IsTrue (straight (head_of twisting p) i o) ↔ BodyJoins twisting straight p i o
straight_by zero zero zero lp li lo = ((λ t. found same_place place_same (body_links twisting straight 0) (input None 0) 4 (output None 0) refl), (λ w. refl))
straight_by zero zero (suc zero) lp li lo = ((λ t. absurd (true≢false (sym t))), (λ w. absurd (not_found same_place place_same (body_links twisting straight 0) (input None 0) 4 (output None 1) refl refl refl w)))
straight_by zero (suc zero) zero lp li lo = ((λ t. absurd (true≢false (sym t))), (λ w. absurd (not_found same_place place_same (body_links twisting straight 0) (input None 1) 4 (output None 0) refl refl refl w)))
straight_by zero (suc zero) (suc zero) lp li lo = ((λ t. found same_place place_same (body_links twisting straight 0) (input None 1) 4 (output None 1) refl), (λ w. refl))
straight_by (suc zero) zero zero lp li lo = ((λ t. found same_place place_same (body_links twisting straight 1) (input None 0) 8 (output None 0) refl), (λ w. refl))
straight_by (suc zero) zero (suc zero) lp li lo = ((λ t. absurd (true≢false (sym t))), (λ w. absurd (not_found same_place place_same (body_links twisting straight 1) (input None 0) 8 (output None 1) refl refl refl w)))
straight_by (suc zero) (suc zero) zero lp li lo = ((λ t. absurd (true≢false (sym t))), (λ w. absurd (not_found same_place place_same (body_links twisting straight 1) (input None 1) 8 (output None 0) refl refl refl w)))
straight_by (suc zero) (suc zero) (suc zero) lp li lo = ((λ t. found same_place place_same (body_links twisting straight 1) (input None 1) 8 (output None 1) refl), (λ w. refl))
straight_by (suc (suc zero)) zero zero lp li lo = ((λ t. found same_place place_same (body_links twisting straight 2) (input None 0) 4 (output None 0) refl), (λ w. refl))
straight_by (suc (suc zero)) zero (suc zero) lp li lo = ((λ t. absurd (true≢false (sym t))), (λ w. absurd (not_found same_place place_same (body_links twisting straight 2) (input None 0) 4 (output None 1) refl refl refl w)))
straight_by (suc (suc zero)) (suc zero) zero lp li lo = ((λ t. absurd (true≢false (sym t))), (λ w. absurd (not_found same_place place_same (body_links twisting straight 2) (input None 1) 4 (output None 0) refl refl refl w)))
straight_by (suc (suc zero)) (suc zero) (suc zero) lp li lo = ((λ t. found same_place place_same (body_links twisting straight 2) (input None 1) 4 (output None 1) refl), (λ w. refl))
straight_by (suc (suc (suc p))) i o lp li lo = absurd (omega arith)
straight_by zero (suc (suc i)) o lp li lo = absurd (omega arith)
straight_by (suc zero) (suc (suc i)) o lp li lo = absurd (omega arith)
straight_by (suc (suc zero)) (suc (suc i)) o lp li lo = absurd (omega arith)
straight_by zero i (suc (suc o)) lp li lo = absurd (omega arith)
straight_by (suc zero) i (suc (suc o)) lp li lo = absurd (omega arith)
straight_by (suc (suc zero)) i (suc (suc o)) lp li lo = absurd (omega arith)

-- W and T have the pairs that the view shows
straight_shown : (m i o : ℕ) → expands whole_view m ≡ false → i < inputs_of twisting m → o < outputs_of twisting m → straight m i o ≡ shows whole_view m i o
straight_shown zero i o ex hi ho = absurd (true≢false ex)
straight_shown (suc zero) i o ex hi ho = absurd (true≢false ex)
straight_shown (suc (suc zero)) zero zero ex hi ho = refl
straight_shown (suc (suc zero)) zero (suc zero) ex hi ho = refl
straight_shown (suc (suc zero)) (suc zero) zero ex hi ho = refl
straight_shown (suc (suc zero)) (suc zero) (suc zero) ex hi ho = refl
straight_shown (suc (suc zero)) (suc (suc i)) o ex hi ho = absurd (omega arith)
straight_shown (suc (suc zero)) i (suc (suc o)) ex hi ho = absurd (omega arith)
straight_shown (suc (suc (suc zero))) zero zero ex hi ho = refl
straight_shown (suc (suc (suc zero))) zero (suc zero) ex hi ho = refl
straight_shown (suc (suc (suc zero))) (suc zero) zero ex hi ho = refl
straight_shown (suc (suc (suc zero))) (suc zero) (suc zero) ex hi ho = refl
straight_shown (suc (suc (suc zero))) (suc (suc i)) o ex hi ho = absurd (omega arith)
straight_shown (suc (suc (suc zero))) i (suc (suc o)) ex hi ho = absurd (omega arith)
straight_shown (suc (suc (suc (suc m)))) i o ex hi ho = absurd (omega arith)

induced : IsInduced twisting whole_view straight
induced = record {
  shown = λ m s ex i o hi ho. straight_shown m i o ex hi ho;
  induced = λ p hp s ex i o hi ho. straight_by p i o hp hi ho;
}

-- the first step that leads from one module to another
record IsFirstStep (g : Grammar) (k w : ℕ) (s : Step) : Type 0 where
  step : IsStepOf g k s
  leads : target_of g s ≡ w
  first : (t : Step) → IsStepOf g k t → target_of g t ≡ w → (s ≡ t) ⊎ IsEarlier s t

-- a module to which the first step from the start module leads
one_step : (g : Grammar) (c : View) (m : ℕ) (s : Step) → IsFirstStep g g.start m s → IsTrue (expands c g.start) → g.start ≢ m → IsFirstShortestRoute g c m (s ∷ [])
one_step g c m s f ex differ = record {
  leads = ((record { in_range = f.step.in_range; seen = at_start f.step.head; expanded = ap (expands c) f.step.head ∙ ex; position = f.step.position }, f.step.head, tt), f.leads);
  fewest = fewest;
  first = first;
}
  where
    fewest : (b : List Step) → LeadsTo g c m b → 1 ≤ length b
    fewest [] q = absurd (differ q.1)
    fewest (t ∷ b) q = omega arith

    first : (b : List Step) → LeadsTo g c m b → length b ≡ 1 → ComesFirst (s ∷ []) b
    first [] q l = absurd (omega arith)
    first (t ∷ []) q l = ⊎_elim (λ e. inr (e, tt)) (λ e. inl e) (f.first t (record { in_range = q.0.0.in_range; head = q.0.1; position = q.0.0.position }) q.1)
    first (t ∷ v ∷ b) q l = absurd (omega arith)

of_s : (p k : ℕ) → p < 3 → head_of twisting p ≡ 0 → k < length (body_of twisting p) → (0 ≡ p) × (0 ≡ k)
of_s zero zero lp h lk = (refl, refl)
of_s zero (suc k) lp h lk = absurd (omega arith)
of_s (suc zero) k lp h lk = absurd (omega arith)
of_s (suc (suc zero)) k lp h lk = absurd (omega arith)
of_s (suc (suc (suc p))) k lp h lk = absurd (omega arith)

to_t : (p k : ℕ) → p < 3 → head_of twisting p ≡ 1 → k < length (body_of twisting p) → get_or (body_of twisting p) k 0 ≡ 3 → (2 ≡ p) × (0 ≡ k)
to_t zero k lp h lk e = absurd (omega arith)
to_t (suc zero) zero lp h lk e = absurd (omega arith)
to_t (suc zero) (suc zero) lp h lk e = absurd (omega arith)
to_t (suc zero) (suc (suc zero)) lp h lk e = absurd (omega arith)
to_t (suc zero) (suc (suc (suc k))) lp h lk e = absurd (omega arith)
to_t (suc (suc zero)) zero lp h lk e = (refl, refl)
to_t (suc (suc zero)) (suc k) lp h lk e = absurd (omega arith)
to_t (suc (suc (suc p))) k lp h lk e = absurd (omega arith)

abbrev s_to_l : Step
s_to_l = step_to 0 0

abbrev l_to_t : Step
l_to_t = step_to 2 0

abbrev s_to_q : Step
s_to_q = step_to 0 1

l_first : IsFirstStep twisting 0 1 s_to_l
l_first = record {
  step = record { in_range = lit< tt; head = refl; position = lit< tt };
  leads = refl;
  first = λ t h e. let r = of_s t.production t.position h.in_range h.head h.position in inl (λ j. record { production = r.0 j; position = r.1 j });
}

q_first : IsFirstStep fork 0 2 s_to_q
q_first = record {
  step = record { in_range = lit< tt; head = refl; position = lit< tt };
  leads = refl;
  first = λ t h e. go t.production t.position h.in_range e;
}
  where
    go : (p k : ℕ) → p < 2 → get_or (body_of fork p) k 0 ≡ 2 → (s_to_q ≡ record { production = p; position = k }) ⊎ ((0 < p) ⊎ ((0 ≡ p) × (1 < k)))
    go zero zero lp e = absurd (omega arith)
    go zero (suc zero) lp e = inl refl
    go zero (suc (suc k)) lp e = absurd (omega arith)
    go (suc p) k lp e = inr (inl (omega arith))

t_first : IsFirstShortestRoute twisting parted_view 3 (s_to_l ∷ l_to_t ∷ [])
t_first = record {
  leads = (
    (
      record { in_range = lit< tt; seen = at_start refl; expanded = refl; position = lit< tt },
      refl,
      (record { in_range = lit< tt; seen = in_body 0 (lit< tt) (at_start refl) refl (inl refl); expanded = refl; position = lit< tt }, refl, tt),
    ),
    refl,
  );
  fewest = fewest;
  first = first;
}
  where
    s_leads : (t : Step) (m : ℕ) → IsOpenRoute twisting parted_view 0 (t ∷ []) → s_to_l ≡ t
    s_leads t m x = let r = of_s t.production t.position x.0.in_range x.1 x.0.position in λ j. record { production = r.0 j; position = r.1 j }

    fewest : (b : List Step) → LeadsTo twisting parted_view 3 b → 2 ≤ length b
    fewest [] q = absurd (let z : 0 ≡ 3 = q.1 in omega arith)
    fewest (t ∷ []) q =
        let from : 1 ≡ target_of twisting t = ap (target_of twisting) (s_leads t 0 q.0) in
        let to : target_of twisting t ≡ 3 = q.1 in
        absurd (omega (arith, from, to))
    fewest (t ∷ v ∷ b) q = omega arith

    first : (b : List Step) → LeadsTo twisting parted_view 3 b → length b ≡ 2 → ComesFirst (s_to_l ∷ l_to_t ∷ []) b
    first [] q l = absurd (omega arith)
    first (t ∷ []) q l = absurd (omega arith)
    first (t ∷ v ∷ []) q l =
        let one : s_to_l ≡ t = s_leads t 0 (q.0.0, q.0.1, tt) in
        let r = to_t v.production v.position q.0.2.0.in_range (q.0.2.1 ∙ sym (ap (target_of twisting) one)) q.0.2.0.position q.1 in
        inr (one, inr ((λ j. record { production = r.0 j; position = r.1 j }), tt))
    first (t ∷ v ∷ w ∷ b) q l = absurd (omega arith)

-- S of the line shows the pair that it has
shut_full : IsFull line shut_view all_pairs
shut_full = one_test_suffices line shut_view all_pairs line_grammar_is_worked.well_formed (record { shown = λ m s ex i o hi ho. shown m i o hi ho; induced = λ p hp s ex i o hi ho. absurd (true≢false (sym ex)) })
  where
    shown : (m i o : ℕ) → i < inputs_of line m → o < outputs_of line m → true ≡ shows shut_view m i o
    shown zero zero zero hi ho = refl
    shown (suc zero) zero zero hi ho = refl
    shown (suc (suc zero)) zero zero hi ho = refl
    shown zero (suc i) o hi ho = absurd (omega arith)
    shown zero i (suc o) hi ho = absurd (omega arith)
    shown (suc zero) (suc i) o hi ho = absurd (omega arith)
    shown (suc zero) i (suc o) hi ho = absurd (omega arith)
    shown (suc (suc zero)) (suc i) o hi ho = absurd (omega arith)
    shown (suc (suc zero)) i (suc o) hi ho = absurd (omega arith)
    shown (suc (suc (suc m))) i o hi ho = absurd (omega arith)

compared : AreCompared line shut_view line_view all_pairs
compared = record {
  formed = line_grammar_is_worked.well_formed;
  proper = line_grammar_is_worked.proper;
  coarse_composites = λ m ex. absurd (true≢false (sym ex));
  fine_composites = subst (ExpandsComposites line) line_grammar_is_worked.default (default_expands_composites line);
  coarser = λ m ex. absurd (true≢false (sym ex));
  safe = λ m s e f xe xf i o hi ho q. (shut_full m s f xf i o hi ho).0 ((shut_full m s e xe i o hi ho).1 q);
  full = line_grammar_is_worked.full;
}

pub comparisons_are_worked : ComparisonsAreWorked
unfolding digits
comparisons_are_worked = record {
  straight_induced = induced;
  itself = (denies_none twisting whole_view straight refl, adds_none twisting whole_view straight refl);
  crosswise_added = (
    denies_none twisting outer_view straight refl,
    first_added twisting outer_view straight (record { module_no = 1; input = 0; output = 1 })
        (record { pair = record { border = (in_body 0 (lit< tt) (at_start refl) refl (inl refl), refl); input_there = lit< tt; output_there = lit< tt }; fine = refl; coarse = refl }) refl,
  );
  straight_denied = (
    first_denied twisting crossed_view straight (record { module_no = 1; input = 0; output = 0 })
        (record { pair = record { border = (in_body 0 (lit< tt) (at_start refl) refl (inl refl), refl); input_there = lit< tt; output_there = lit< tt }; fine = refl; coarse = refl }) refl,
    record { route = s_to_l ∷ []; shortest = one_step twisting crossed_view 1 s_to_l l_first refl (λ e. absurd (let z : 0 ≡ 1 = e in omega arith)); instance_is = refl; run_is = refl },
  );
  deeper_denied = (
    first_denied twisting parted_view straight (record { module_no = 3; input = 0; output = 0 })
        (record { pair = record { border = (in_body 2 (lit< tt) (in_body 0 (lit< tt) (at_start refl) refl (inl refl)) refl (inl refl), refl); input_there = lit< tt; output_there = lit< tt }; fine = refl; coarse = refl }) refl,
    record { route = s_to_l ∷ l_to_t ∷ []; shortest = t_first; instance_is = refl; run_is = refl },
  );
  first_way = (
    first_denied fork half_view all_pairs (record { module_no = 2; input = 0; output = 0 })
        (record { pair = record { border = (in_body 0 (lit< tt) (at_start refl) refl (inr (inl refl)), refl); input_there = lit< tt; output_there = lit< tt }; fine = refl; coarse = refl }) refl,
    record { route = s_to_q ∷ []; shortest = one_step fork half_view 2 s_to_q q_first refl (λ e. absurd (let z : 0 ≡ 2 = e in omega arith)); instance_is = refl; run_is = refl },
  );
  line_compared = compared;
  line_exact = (denies_none line shut_view all_pairs refl, adds_none line shut_view all_pairs refl);
  not_coarser = ((refl, refl), λ k h. omega arith);
}
