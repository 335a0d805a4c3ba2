-- The worked chains of the line grammar, and how steps of worked runs are put together.
use Rattle.std.proofs.Common.{◌≡◌, ℕ, ◌<◌, ◌≤◌, false, IsTrue, List, [], ◌∷◌, length, codes, Option, Some, None, refl, sym, ap, ◌∙◌, subst, inl, inr, arith, lit<, true≢false}
use Rattle.wf_model.specs.Lists.{IsIn, Walk, here, onward}
use Rattle.wf_model.specs.Grammar.{Grammar, Assignment, inputs_of, outputs_of}
use Rattle.wf_model.specs.View.{View, expands}
use Rattle.wf_model.specs.declared.event.Event.{Event}
use Rattle.wf_model.specs.Run.{Instance, Expanded, expanded_by, IsOpen, seen_in}
use Rattle.wf_model.specs.Links.{Port, Link, input, output, instance_at, move_link}
use Rattle.wf_model.specs.Items.{Item, items}
use Rattle.wf_laws.specs.Examples.{into, out}
use Rattle.wf_laws.specs.LineGrammar.{line, all_pairs, whole_view, shut_view, events, r_a, r_b, i1_y}
use Rattle.wf_laws.proofs.LineGrammar.{line_grammar_is_worked}
use Rattle.chain_model.specs.Chains.{entries_in, exits_in, IsOfOpen, IsEntry, IsExit, unopened_pairs, LeadsThrough, ChainStep, IsItemChain}
use Rattle.chain_model.specs.Shortest.{items_along, ComesFirst}
use Rattle.chain_model.specs.Examples.{r, i1, i2, start_alone, two_steps, one_step, ChainsAreWorked}
use Rattle.chain_model.proofs.OneInstance.{via_law}

module _ (g : Grammar) (u : View) (m : ℕ) (events : List Event) where
  -- a link of an open instance
  pub of_open : (listed : ℕ → List (Link (Option ℕ))) (n : Instance) (by : Expanded) (l : Link (Option ℕ)) → IsIn n (seen_in g u m events) → IsTrue (expands u n.module_no) → expanded_by events n.name ≡ Some by → IsIn l (listed by.production) →
      (x y : Port (List ℕ)) → ◌≡◌ {A = Link (List ℕ)} (record { from = x; to = y }) (move_link (instance_at n.name by.names) l) → IsOfOpen g u m events listed x y
  of_open listed n by l seen ex told there x y e = record { owner = n; is_open = (seen, ex, (by, told)); by = by; told = told; inner = l; in_body = there; is = e }

  -- an item that is consumed at an entrance of an instance leads through it to one that is produced at a way out of it
  pub leads : (d : Assignment) (x : Item) (n : Instance) (y : Item) (i o : ℕ) (from to : Port (List ℕ)) → IsIn n (seen_in g u m events) → ¬ IsOpen g u m events n → x.consumed ≡ Some from → Walk (IsEntry g u m events) from (input n.name i) →
      (i < inputs_of g n.module_no) × (o < outputs_of g n.module_no) → IsTrue (unopened_pairs u d n.module_no i o) → Walk (IsExit g u m events) (output n.name o) to → y.produced ≡ Some to → LeadsThrough g u d m events x n y
  leads d x n y i o from to seen not consumed entries there pair exits produced = record {
    seen = seen;
    not_open = not;
    from = from;
    to = to;
    i = i;
    o = o;
    consumed = consumed;
    entries = entries;
    input_there = there.0;
    output_there = there.1;
    pair = pair;
    exits = exits;
    produced = produced;
  }

  -- an instance is not open where the view does not expand its module, or where no event expands it
  pub not_shown : (n : Instance) → expands u n.module_no ≡ false → ¬ IsOpen g u m events n
  not_shown n e h = true≢false (sym h.1 ∙ e)

  pub not_expanded : (n : Instance) → expanded_by events n.name ≡ None → ¬ IsOpen g u m events n
  not_expanded n e h = let z = sym e ∙ h.2.1 in cc

abbrev children : Expanded
children = record { production = 0; names = codes "i1" ∷ codes "i2" ∷ [] }

-- the entry and the exit of the root
entry : IsEntry line whole_view 0 events (into "r" 0) (into "i1" 0)
entry = of_open line whole_view 0 events (entries_in line) r children (record { from = input None 0; to = input (Some 0) 0 }) (inl refl) refl refl (inl refl) (into "r" 0) (into "i1" 0) refl

exit : IsExit line whole_view 0 events (out "i2" 0) (out "r" 0)
exit = of_open line whole_view 0 events (exits_in line) r children (record { from = output (Some 1) 0; to = output None 0 }) (inl refl) refl refl (inl refl) (out "i2" 0) (out "r" 0) refl

first_through : LeadsThrough line whole_view all_pairs 0 events r_a i1 i1_y
first_through = leads line whole_view 0 events all_pairs r_a i1 i1_y 0 0 (into "r" 0) (out "i1" 0) (inr (inl refl)) (not_shown line whole_view 0 events i1 refl) refl (onward entry here) (lit< tt, lit< tt) refl here refl

second_through : LeadsThrough line whole_view all_pairs 0 events i1_y i2 r_b
second_through = leads line whole_view 0 events all_pairs i1_y i2 r_b 0 0 (into "i2" 0) (out "r" 0) (inr (inr (inl refl))) (not_shown line whole_view 0 events i2 refl) refl here (lit< tt, lit< tt) refl (onward exit here) refl

of_two : IsItemChain line whole_view all_pairs 0 events r_a two_steps r_b
of_two = record {
  there = inl refl;
  visible = tt;
  some = lit< tt;
  steps_lead = (record { there = inr (inr (inl refl)); visible = refl; through = first_through }, (record { there = inr (inl refl); visible = tt; through = second_through }, refl));
}

-- r.a leads on through i1 alone, and r.b is led to through i2 alone
by_i1 : (n : Instance) (t : Item) → LeadsThrough line whole_view all_pairs 0 events r_a n t → n ≡ i1
by_i1 n t h = (via_law line whole_view all_pairs 0 events line_grammar_is_worked.accepted.0 r_a r_b n i1).consumed t i1_y h first_through

by_i2 : (n : Instance) (t : Item) → LeadsThrough line whole_view all_pairs 0 events t n r_b → n ≡ i2
by_i2 n t h = (via_law line whole_view all_pairs 0 events line_grammar_is_worked.accepted.0 r_a r_b n i2).produced t i1_y h second_through

i1_not_i2 : i1 ≡ i2 → ⊥
i1_not_i2 e = let z : 1 ≡ 2 = ap (λ (n : Instance). n.module_no) e in absurd (omega (arith, z))

not_straight : (n : Instance) → LeadsThrough line whole_view all_pairs 0 events r_a n r_b → ⊥
not_straight n h = i1_not_i2 (sym (by_i1 n r_b h) ∙ by_i2 n r_a h)

-- no item leads to r.a, and r.b leads to none
not_to_r_a : (x : Item) (n : Instance) → LeadsThrough line whole_view all_pairs 0 events x n r_a → ⊥
not_to_r_a x n h = let z : None ≡ Some h.to = h.produced in cc

not_from_r_b : (n : Instance) (y : Item) → LeadsThrough line whole_view all_pairs 0 events r_b n y → ⊥
not_from_r_b n y h = let z : None ≡ Some h.from = h.consumed in cc

fewest : (others : List ChainStep) → IsItemChain line whole_view all_pairs 0 events r_a others r_b → 2 ≤ length others
fewest [] q = let z : 0 < 0 = q.some in absurd (omega arith)
fewest (s ∷ []) q = absurd (not_straight s.via (subst (LeadsThrough line whole_view all_pairs 0 events r_a s.via) q.steps_lead.1 q.steps_lead.0.through))
fewest (s ∷ (t ∷ others)) q = omega arith

-- of two steps the first leads to i1.y
first_item : (s t : ChainStep) → IsItemChain line whole_view all_pairs 0 events r_a (s ∷ t ∷ []) r_b → i1_y ≡ s.item
first_item s t q = go q.steps_lead.0.there
  where
    go : IsIn s.item (items line 0 events) → i1_y ≡ s.item
    go (inl e) = absurd (not_to_r_a r_a s.via (subst (LeadsThrough line whole_view all_pairs 0 events r_a s.via) e q.steps_lead.0.through))
    go (inr (inl e)) = absurd (not_straight s.via (subst (LeadsThrough line whole_view all_pairs 0 events r_a s.via) e q.steps_lead.0.through))
    go (inr (inr (inl e))) = sym e
    go (inr (inr (inr e))) = absurd e

first : (others : List ChainStep) → IsItemChain line whole_view all_pairs 0 events r_a others r_b → length others ≡ 2 → ComesFirst (items line 0 events) (items_along two_steps) (items_along others)
first [] q e = absurd (omega arith)
first (s ∷ []) q e = absurd (omega arith)
first (s ∷ (t ∷ [])) q e = inr (first_item s t q, inr (sym q.steps_lead.1.1, tt))
first (s ∷ (t ∷ (o ∷ others))) q e = absurd (omega arith)

of_pending : IsItemChain line whole_view all_pairs 0 start_alone r_a one_step r_b
of_pending =
    let t : LeadsThrough line whole_view all_pairs 0 start_alone r_a r r_b =
    leads line whole_view 0 start_alone all_pairs r_a r r_b 0 0 (into "r" 0) (out "r" 0) (inl refl) (not_expanded line whole_view 0 start_alone r refl) refl here (lit< tt, lit< tt) refl here refl in
    record { there = inl refl; visible = tt; some = lit< tt; steps_lead = (record { there = inr (inl refl); visible = tt; through = t }, refl) }

of_shut : IsItemChain line shut_view all_pairs 0 events r_a one_step r_b
of_shut =
    let t : LeadsThrough line shut_view all_pairs 0 events r_a r r_b =
    leads line shut_view 0 events all_pairs r_a r r_b 0 0 (into "r" 0) (out "r" 0) (inl refl) (not_shown line shut_view 0 events r refl) refl here (lit< tt, lit< tt) refl here refl in
    record { there = inl refl; visible = tt; some = lit< tt; steps_lead = (record { there = inr (inl refl); visible = tt; through = t }, refl) }

none_back : (steps : List ChainStep) → ¬ IsItemChain line whole_view all_pairs 0 events r_b steps r_a
none_back [] q = let z : 0 < 0 = q.some in absurd (omega arith)
none_back (s ∷ steps) q = not_from_r_b s.via s.item q.steps_lead.0.through

pub chains_are_worked : ChainsAreWorked
chains_are_worked = record {
  of_two = of_two;
  text_of_two = refl;
  two_first = record { chain = of_two; fewest = fewest; first = first };
  not_by_other = λ q. i1_not_i2 (sym (by_i1 i2 i1_y q.steps_lead.0.through));
  of_pending = of_pending;
  text_of_pending = refl;
  of_shut = of_shut;
  none_back = none_back;
}
