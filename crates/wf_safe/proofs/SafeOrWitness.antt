-- A view of a proper grammar is safe, or has a first witness.
use Rattle.std.proofs.Common.{◌≡◌, ◌⊎◌, ◌↔◌, ℕ, zero, suc, ◌+◌, ◌<◌, ◌≤◌, Bool, true, false, cond, IsTrue, List, [], ◌∷◌, ◌++◌, length, get_or, Option, None, refl, sym, ap, ◌∙◌, subst, inl, inr, ⊎_elim, arith, true≢false}
use Rattle.std.specs.Cmp.Derive.{one_truth}
use Rattle.std.proofs.lemmas.Bool.{cases_lt}
use Rattle.wf_model.specs.Lists.{IsIn}
use Rattle.wf_model.specs.Grammar.{Grammar, Assignment, inputs_of, outputs_of, head_of, body_of, IsProductionOf}
use Rattle.wf_model.specs.WellFormed.{IsWellFormed}
use Rattle.wf_model.specs.View.{View, expands, shows, IsSeenModule}
use Rattle.wf_model.specs.Links.{input, output, body_links}
use Rattle.wf_model.specs.Finishing.{ExpandsComposites}
use Rattle.wf_model.specs.Safe.{BodyJoins, Joins, Ends, IsSafe, IsInduced, IsInducedBy, IsChosen}
use Rattle.wf_model.proofs.Lists.{in_map_from}
use Rattle.wf_model.proofs.Deciding.{Either, IsFirst, is_so, so_gives, so_from, either_not, either_both, either_if, option_either, number_either, test_either, all_below, all_or_first, some_below, first_below}
use Rattle.wf_laws.specs.Chosen.{HasBothExpansions}
use Rattle.wf_laws.proofs.PathTests.{path_either}
use Rattle.wf_laws.proofs.SeenOrNot.{seen_either}
use Rattle.wf_laws.proofs.Ranked.{ends_law}
use Rattle.wf_laws.proofs.Safety.{chosen_law, safety_law}
use Rattle.wf_check.specs.Proper.{Ranking, IsRankingOf}
use Rattle.wf_safe.specs.declared.witness.Choice.{Choice}
use Rattle.wf_safe.specs.declared.witness.Witness.{Witness}
use Rattle.wf_safe.specs.Witness.{chosen_in, IsChoiceOf, Disagree, ComesBefore, AgreesOn, Agrees, IsFirstWitness}
use Rattle.wf_safe.specs.Inducing.{rank_of, choice_of, IsSeenExpanded}
use Rattle.wf_safe.proofs.Choosing.{AreChosenBelow, none_chosen, not_chosen, next_chosen}
use Rattle.wf_safe.proofs.Disagreeing.{witness_law, disagree_same}
use Rattle.wf_safe.proofs.Falling.{falls}
use Rattle.wf_safe.proofs.SameBodies.{SameOn, body_joins_same}
use Rattle.wf_safe.proofs.SeenBelow.{seen_below}

-- a body joins two ports by an assignment, or not
body_either : (g : Grammar) (d : Assignment) (p i o : ℕ) → Either (BodyJoins g d p i o)
body_either g d p i o = path_either (option_either number_either) (body_links g d p) (input None i) (output None o)

same_truth : {P Q : Type 0} (e : Either P) (f : Either Q) → (P → Q) → (Q → P) → is_so e ≡ is_so f
same_truth e f to from = one_truth (is_so e) (is_so f) (λ t. so_from f (to (so_gives e t))) (λ t. so_from e (from (so_gives f t)))

module _ (g : Grammar) (u : View) (r : Ranking) (formed : IsWellFormed g) (ranking : IsRankingOf g r) (composites : ExpandsComposites g u) where
  expanded_either : (m : ℕ) → Either (IsSeenExpanded g u m)
  expanded_either m = either_both (seen_either g u m) (test_either (expands u m))

  -- the choice of the seen, expanded modules below n
  chosen_below : (n : ℕ) → (list : List Choice) × AreChosenBelow g u r n (chosen_in list)
  chosen_below zero = ([], none_chosen g u r)
  chosen_below (suc n) = by (chosen_below n) (expanded_either n)
    where
      one_more : n + 1 ≡ suc n
      one_more = omega arith

      by : (list : List Choice) × AreChosenBelow g u r n (chosen_in list) → Either (IsSeenExpanded g u n) → (list : List Choice) × AreChosenBelow g u r (suc n) (chosen_in list)
      by b (inl o) =
          let c : Choice = record { «module» = record { 0 = n }; production = record { 0 = choice_of r n } } in
          (b.0 ++ c ∷ [], subst (λ k. AreChosenBelow g u r k (chosen_in (b.0 ++ c ∷ []))) one_more (next_chosen g u r n b.0 c b.1 o refl refl))
      by b (inr not) = (b.0, subst (λ k. AreChosenBelow g u r k (chosen_in b.0)) one_more (not_chosen g u r n (chosen_in b.0) b.1 not))

  list : List Choice
  list = (chosen_below (length g.modules)).0

  below : AreChosenBelow g u r (length g.modules) (chosen_in list)
  unfolding list
  below = (chosen_below (length g.modules)).1

  choice : IsChoiceOf g u (chosen_in list)
  choice = record {
    in_order = below.in_order;
    all = λ m seen x. below.all m (seen_below g u m formed seen) (seen, x);
    seen = below.seen;
    productions = λ m p i. subst (λ q. IsProductionOf g q m) (sym (below.ranked m p i)) (falls g r m formed ranking (composites m (below.seen m p i).1)).of_module;
  }

  -- the choice of a seen, expanded module is that of its rank
  named : (m : ℕ) → IsSeenExpanded g u m → IsChosen (chosen_in list) m (choice_of r m)
  named m o =
      let q = in_map_from (λ (z : ℕ × ℕ). z.0) m (chosen_in list) (choice.all m o.0 o.1) in
      let here : IsChosen (chosen_in list) m q.0.1 = subst (λ k. IsChosen (chosen_in list) k q.0.1) (sym q.2) q.1 in
      subst (IsChosen (chosen_in list) m) (below.ranked m q.0.1 here) here

  -- the pairs that chosen productions join within n ranks
  pairs : ℕ → Assignment
  pairs zero m i o = cond (expands u m) false (shows u m i o)
  pairs (suc n) m i o = cond (expands u m) (is_so (body_either g (pairs n) (choice_of r m) i o)) (shows u m i o)

  -- past the rank of a module they stay
  pairs_stay : (n a b m : ℕ) → rank_of r m < n → rank_of r m < a → rank_of r m < b → (i o : ℕ) → pairs a m i o ≡ pairs b m i o
  unfolding pairs
  pairs_stay zero a b m l h k i o = absurd (omega arith)
  pairs_stay (suc n) zero b m l h k i o = absurd (omega arith)
  pairs_stay (suc n) (suc a) zero m l h k i o = absurd (omega arith)
  pairs_stay (suc n) (suc a) (suc b) m l h k i o = by (pairs_stay n) (expands u m) refl
    where
      by : ((a b m : ℕ) → rank_of r m < n → rank_of r m < a → rank_of r m < b → (i o : ℕ) → pairs a m i o ≡ pairs b m i o) → (t : Bool) → expands u m ≡ t → pairs (suc a) m i o ≡ pairs (suc b) m i o
      by stay false is = ap (λ t. cond t (is_so (body_either g (pairs a) (choice_of r m) i o)) (shows u m i o)) is ∙ sym (ap (λ t. cond t (is_so (body_either g (pairs b) (choice_of r m) i o)) (shows u m i o)) is)
      by stay true is =
          let f = falls g r m formed ranking (composites m is) in
          let forth : SameOn g (pairs a) (pairs b) (body_of g (choice_of r m)) = λ j at x y hx hy. let w = f.lower j at in stay a b j (omega arith) (omega arith) (omega arith) x y in
          let back : SameOn g (pairs b) (pairs a) (body_of g (choice_of r m)) = λ j at x y hx hy. sym (forth j at x y hx hy) in
          ap (λ t. cond t (is_so (body_either g (pairs a) (choice_of r m) i o)) (shows u m i o)) is
          ∙ (same_truth (body_either g (pairs a) (choice_of r m) i o) (body_either g (pairs b) (choice_of r m) i o) (body_joins_same g (pairs a) (pairs b) (choice_of r m) i o forth) (body_joins_same g (pairs b) (pairs a) (choice_of r m) i o back)
          ∙ sym (ap (λ t. cond t (is_so (body_either g (pairs b) (choice_of r m) i o)) (shows u m i o)) is))

  -- the pairs of each module, within its rank
  settled : Assignment
  settled m i o = pairs (suc (rank_of r m)) m i o

  settled_shown : (m i o : ℕ) → expands u m ≡ false → settled m i o ≡ shows u m i o
  unfolding settled pairs
  settled_shown m i o is = ap (λ t. cond t (is_so (body_either g (pairs (rank_of r m)) (choice_of r m) i o)) (shows u m i o)) is

  settled_joined : (m i o : ℕ) → expands u m ≡ true → settled m i o ≡ is_so (body_either g (pairs (rank_of r m)) (choice_of r m) i o)
  unfolding settled pairs
  settled_joined m i o is = ap (λ t. cond t (is_so (body_either g (pairs (rank_of r m)) (choice_of r m) i o)) (shows u m i o)) is

  -- of the modules of its chosen body they are those within its rank
  settled_below : (m : ℕ) → expands u m ≡ true → SameOn g (pairs (rank_of r m)) settled (body_of g (choice_of r m))
  unfolding settled
  settled_below m is k at i o hi ho =
      let f = (falls g r m formed ranking (composites m is)).lower k at in
      pairs_stay (suc (rank_of r k)) (rank_of r m) (suc (rank_of r k)) k (omega arith) f (omega arith) i o

  -- the chosen productions induce them
  induced : IsInducedBy g u (IsChosen (chosen_in list)) settled
  induced = record {
    shown = λ m seen is i o hi ho. settled_shown m i o is;
    induced = λ p hp c seen is i o hi ho.
        let m = head_of g p in
        let same : p ≡ choice_of r m = below.ranked m p c in
        let down = settled_below m is in
        let up : SameOn g settled (pairs (rank_of r m)) (body_of g (choice_of r m)) = λ k at x y hx hy. sym (down k at x y hx hy) in
        let e = body_either g (pairs (rank_of r m)) (choice_of r m) i o in (
          (λ t. subst (λ q. BodyJoins g settled q i o) (sym same) (body_joins_same g (pairs (rank_of r m)) settled (choice_of r m) i o down (so_gives e (sym (settled_joined m i o is) ∙ t)))),
          (λ w. settled_joined m i o is ∙ so_from e (body_joins_same g settled (pairs (rank_of r m)) (choice_of r m) i o up (subst (λ q. BodyJoins g settled q i o) same w))),
        );
  }

  -- by the choice each seen module is expanded whole
  ends : (m : ℕ) → IsSeenModule g u m → (n : ℕ) × Ends g u (IsChosen (chosen_in list)) n m
  ends = ends_law g u (chosen_in list) (rank_of r) (λ m seen x. let f = falls g r m formed ranking (composites m x) in (choice_of r m, named m (seen, x), f.of_module, f.lower))

  both : HasBothExpansions g u settled (chosen_in list)
  both = chosen_law g u settled (chosen_in list) formed ends induced

  agrees_on_either : (p i o : ℕ) → Either (AgreesOn g settled p i o)
  agrees_on_either p i o =
      let assigned = test_either (settled (head_of g p) i o) in
      let joined = body_either g settled p i o in
      either_both (either_if assigned joined) (either_if joined assigned)

  -- the first pair on which a production does not agree with its head
  record IsFirstApart (p i o : ℕ) : Type 0 where
    input : i < inputs_of g (head_of g p)
    output : o < outputs_of g (head_of g p)
    apart : AgreesOn g settled p i o → ⊥
    first : (j q : ℕ) → j < inputs_of g (head_of g p) → q < outputs_of g (head_of g p) → ComesBefore j q i o → AgreesOn g settled p j q

  abbrev AgreesOrPair : ℕ → Type 0
  AgreesOrPair p = Agrees g settled p ⊎ ((i : ℕ) × (o : ℕ) × IsFirstApart p i o)

  agrees_or_pair : (p : ℕ) → AgreesOrPair p
  agrees_or_pair p = ⊎_elim
      (λ all. inl (λ i o hi ho. all i hi o ho))
      (λ f. by_output f.0 f.1 f.2 f.3 (all_or_first (λ o. AgreesOn g settled p f.0 o) (outputs_of g (head_of g p)) (λ o l. agrees_on_either p f.0 o)))
      (all_or_first Row (inputs_of g (head_of g p)) (λ i l. all_below (λ o. AgreesOn g settled p i o) (outputs_of g (head_of g p)) (λ o k. agrees_on_either p i o)))
    where
      Row : ℕ → Type 0
      Row i = (o : ℕ) → o < outputs_of g (head_of g p) → AgreesOn g settled p i o

      by_output : (i : ℕ) → i < inputs_of g (head_of g p) → (((o : ℕ) → o < outputs_of g (head_of g p) → AgreesOn g settled p i o) → ⊥) → ((j : ℕ) → j < i → (o : ℕ) → o < outputs_of g (head_of g p) → AgreesOn g settled p j o) →
          ((o : ℕ) → o < outputs_of g (head_of g p) → AgreesOn g settled p i o) ⊎ ((o : ℕ) × (o < outputs_of g (head_of g p)) × (AgreesOn g settled p i o → ⊥) × ((q : ℕ) → q < o → AgreesOn g settled p i q)) → AgreesOrPair p
      by_output i l not before (inl all) = absurd (not all)
      by_output i l not before (inr f) = inr (
        i,
        f.0,
        record {
          input = l;
          output = f.1;
          apart = f.2;
          first = λ j q hj hq b. ⊎_elim (λ k. before j k q hq) (λ same. subst (λ z. AgreesOn g settled p z q) (sym same.0) (f.3 q same.1)) b;
        },
      )

  -- a production passes the test where its head is seen and expanded only if it agrees with it
  abbrev Passes : ℕ → Type 0
  Passes p = IsSeenExpanded g u (head_of g p) → Agrees g settled p

  passes_either : (p : ℕ) → Either (Passes p)
  passes_either p = either_if (expanded_either (head_of g p)) (⊎_elim (λ a. inl a) (λ f. inr (λ a. f.2.apart (a f.0 f.1 f.2.input f.2.output))) (agrees_or_pair p))

  all_pass : ((p : ℕ) → p < length g.productions → Passes p) → IsInduced g u settled
  all_pass all = record { shown = induced.shown; induced = λ p hp seen x i o hi ho. all p hp (seen, x) i o hi ho }

  -- where they disagree, exactly one of the two has the pair
  disagree_told : (p i o : ℕ) → (AgreesOn g settled p i o → ⊥) → Disagree (settled (head_of g p) i o) (IsTrue (settled (head_of g p) i o)) (BodyJoins g settled p i o)
  disagree_told p i o apart = go (settled (head_of g p) i o) refl (body_either g settled p i o)
    where
      go : (b : Bool) → settled (head_of g p) i o ≡ b → Either (BodyJoins g settled p i o) → Disagree (settled (head_of g p) i o) (IsTrue (settled (head_of g p) i o)) (BodyJoins g settled p i o)
      go true is e = subst (λ b. Disagree b (IsTrue (settled (head_of g p) i o)) (BodyJoins g settled p i o)) (sym is) (is, λ w. apart (λ t. w, λ v. is))
      go false is (inl w) = subst (λ b. Disagree b (IsTrue (settled (head_of g p) i o)) (BodyJoins g settled p i o)) (sym is) (λ t. true≢false (sym t ∙ is), w)
      go false is (inr none) = absurd (apart (λ t. absurd (true≢false (sym t ∙ is)), λ w. absurd (none w)))

  module _ (p : ℕ) (within : p < length g.productions) (o : IsSeenExpanded g u (head_of g p)) (before : (q : ℕ) → q < p → Passes q) (i j : ℕ) (pair : IsFirstApart p i j) where
    abbrev told : Witness
    told = record {
      «module» = record { 0 = head_of g p };
      one = record { 0 = choice_of r (head_of g p) };
      other = record { 0 = p };
      input = record { 0 = i };
      output = record { 0 = j };
      joined_by_one = settled (head_of g p) i j;
      choice = list;
    }

    told_first : IsFirstWitness g u r told
    told_first =
        let m = head_of g p in
        let one = both.chosen m o.0 in
        let other = both.other p within o.0 o.1 in
        record {
          witness = record {
            choice = choice;
            one = named m o;
            other = (within, refl);
            input = pair.input;
            output = pair.output;
            runs = record {
              one_run = one.events;
              is_one = record { expansion_of = one.expansion_of; by = one.by };
              other_run = other.events;
              is_other = record { expansion_of = other.expansion_of; by = other.by };
              disagree = disagree_same (settled m i j) (IsTrue (settled m i j)) (BodyJoins g settled p i j) (Joins g u m one.events i j) (Joins g u m other.events i j)
                  (one.joins i j pair.input pair.output) (other.joins i j) (disagree_told p i j pair.apart);
            };
          };
          ranked = below.ranked;
          pairs = settled;
          induced = induced;
          least = λ q l seen x. before q l (seen, x);
          first = pair.first;
        }

  -- a view is safe, or has a first witness
  pub safe_or_witness : IsSafe g u ⊎ ((w : Witness) × IsFirstWitness g u r w)
  safe_or_witness = ⊎_elim
      (λ all. inl ((safety_law g u settled (chosen_in list) formed ends induced).1 (all_pass all)))
      (λ f. by_head f.0 f.1 f.2 f.3 (expanded_either (head_of g f.0)) (agrees_or_pair f.0))
      (all_or_first Passes (length g.productions) (λ p l. passes_either p))
    where
      by_head : (p : ℕ) → p < length g.productions → (Passes p → ⊥) → ((q : ℕ) → q < p → Passes q) → Either (IsSeenExpanded g u (head_of g p)) → AgreesOrPair p → IsSafe g u ⊎ ((w : Witness) × IsFirstWitness g u r w)
      by_head p l not before (inr none) a = absurd (not (λ o. absurd (none o)))
      by_head p l not before (inl o) (inl a) = absurd (not (λ x. a))
      by_head p l not before (inl o) (inr f) = inr (told p l o before f.0 f.1 f.2, told_first p l o before f.0 f.1 f.2)

  -- one that has a witness is not safe
  pub witness_unsafe : (w : Witness) → IsFirstWitness g u r w → ¬ IsSafe g u
  witness_unsafe w f = witness_law g u w f.witness
