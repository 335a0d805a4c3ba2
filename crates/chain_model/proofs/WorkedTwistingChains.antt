-- The worked chains of the twisting grammar.
use Rattle.std.proofs.Common.{[], ◌∷◌, codes, Some, None, refl, inl, inr, lit<}
use Rattle.wf_model.specs.Lists.{here, onward}
use Rattle.wf_model.specs.Run.{Expanded}
use Rattle.wf_model.specs.Links.{input, output}
use Rattle.wf_laws.specs.Examples.{into, out}
use Rattle.wf_laws.specs.LineGrammar.{all_pairs}
use Rattle.wf_laws.specs.TwistingGrammar.{twisting, whole_view, outer_view, straight, r_a1, r_b1, r_b2, w0_y2, w1_y1, l2_y1, l1_y2}
use Rattle.chain_model.specs.Chains.{entries_in, exits_in, IsEntry, IsExit, LeadsThrough, IsItemChain}
use Rattle.chain_model.specs.Examples.{r}
use Rattle.chain_model.specs.TwistingChains.{an_l, a_w, unfinished, w2_y2, l3_y2, seven_steps, TwistingChainsAreWorked}
use Rattle.chain_model.proofs.WorkedChains.{of_open, leads, not_shown, not_expanded}

-- how r, l0, l1 and l2 are expanded
abbrev r_by : Expanded
r_by = record { production = 0; names = codes "l0" ∷ [] }

abbrev l0_by : Expanded
l0_by = record { production = 1; names = codes "w0" ∷ codes "l1" ∷ codes "v0" ∷ [] }

abbrev l1_by : Expanded
l1_by = record { production = 1; names = codes "w1" ∷ codes "l2" ∷ codes "v1" ∷ [] }

abbrev l2_by : Expanded
l2_by = record { production = 1; names = codes "w2" ∷ codes "l3" ∷ codes "v2" ∷ [] }

-- entries on the way down
r_in : IsEntry twisting whole_view 0 unfinished (into "r" 0) (into "l0" 0)
r_in = of_open twisting whole_view 0 unfinished (entries_in twisting) r r_by (record { from = input None 0; to = input (Some 0) 0 }) (inl refl) refl refl (inl refl) (into "r" 0) (into "l0" 0) refl

l0_in : IsEntry twisting whole_view 0 unfinished (into "l0" 0) (into "w0" 0)
l0_in = of_open twisting whole_view 0 unfinished (entries_in twisting) (an_l "l0") l0_by (record { from = input None 0; to = input (Some 0) 0 }) (inr (inl refl)) refl refl (inl refl) (into "l0" 0) (into "w0" 0) refl

l1_in : IsEntry twisting whole_view 0 unfinished (into "l1" 1) (into "w1" 1)
l1_in = of_open twisting whole_view 0 unfinished (entries_in twisting) (an_l "l1") l1_by (record { from = input None 1; to = input (Some 0) 1 }) (inr (inr (inr (inl refl)))) refl refl (inr (inl refl)) (into "l1" 1) (into "w1" 1) refl

l2_in : IsEntry twisting whole_view 0 unfinished (into "l2" 0) (into "w2" 0)
l2_in = of_open twisting whole_view 0 unfinished (entries_in twisting) (an_l "l2") l2_by (record { from = input None 0; to = input (Some 0) 0 }) (inr (inr (inr (inr (inr (inr (inl refl))))))) refl refl (inl refl) (into "l2" 0) (into "w2" 0) refl

-- exits on the way up
l2_out : IsExit twisting whole_view 0 unfinished (out "v2" 0) (out "l2" 0)
l2_out = of_open twisting whole_view 0 unfinished (exits_in twisting) (an_l "l2") l2_by (record { from = output (Some 2) 0; to = output None 0 }) (inr (inr (inr (inr (inr (inr (inl refl))))))) refl refl (inl refl) (out "v2" 0) (out "l2" 0) refl

l1_out : IsExit twisting whole_view 0 unfinished (out "v1" 1) (out "l1" 1)
l1_out = of_open twisting whole_view 0 unfinished (exits_in twisting) (an_l "l1") l1_by (record { from = output (Some 2) 1; to = output None 1 }) (inr (inr (inr (inl refl)))) refl refl (inr (inl refl)) (out "v1" 1) (out "l1" 1) refl

l0_out : IsExit twisting whole_view 0 unfinished (out "v0" 0) (out "l0" 0)
l0_out = of_open twisting whole_view 0 unfinished (exits_in twisting) (an_l "l0") l0_by (record { from = output (Some 2) 0; to = output None 0 }) (inr (inl refl)) refl refl (inl refl) (out "v0" 0) (out "l0" 0) refl

r_out : IsExit twisting whole_view 0 unfinished (out "l0" 0) (out "r" 0)
r_out = of_open twisting whole_view 0 unfinished (exits_in twisting) r r_by (record { from = output (Some 0) 0; to = output None 0 }) (inl refl) refl refl (inl refl) (out "l0" 0) (out "r" 0) refl

-- the steps
by_w0 : LeadsThrough twisting whole_view straight 0 unfinished r_a1 (a_w "w0") w0_y2
by_w0 = leads twisting whole_view 0 unfinished straight r_a1 (a_w "w0") w0_y2 0 1 (into "r" 0) (out "w0" 1) (inr (inr (inl refl))) (not_shown twisting whole_view 0 unfinished (a_w "w0") refl) refl (onward r_in (onward l0_in here)) (lit< tt, lit< tt) refl here refl

by_w1 : LeadsThrough twisting whole_view straight 0 unfinished w0_y2 (a_w "w1") w1_y1
by_w1 = leads twisting whole_view 0 unfinished straight w0_y2 (a_w "w1") w1_y1 1 0 (into "l1" 1) (out "w1" 0) (inr (inr (inr (inr (inr (inl refl)))))) (not_shown twisting whole_view 0 unfinished (a_w "w1") refl) refl (onward l1_in here) (lit< tt, lit< tt) refl here refl

by_w2 : LeadsThrough twisting whole_view straight 0 unfinished w1_y1 (a_w "w2") w2_y2
by_w2 = leads twisting whole_view 0 unfinished straight w1_y1 (a_w "w2") w2_y2 0 1 (into "l2" 0) (out "w2" 1) (inr (inr (inr (inr (inr (inr (inr (inr (inl refl))))))))) (not_shown twisting whole_view 0 unfinished (a_w "w2") refl) refl (onward l2_in here) (lit< tt, lit< tt) refl here refl

by_l3 : LeadsThrough twisting whole_view straight 0 unfinished w2_y2 (an_l "l3") l3_y2
by_l3 = leads twisting whole_view 0 unfinished straight w2_y2 (an_l "l3") l3_y2 1 1 (into "l3" 1) (out "l3" 1) (inr (inr (inr (inr (inr (inr (inr (inr (inr (inl refl)))))))))) (not_expanded twisting whole_view 0 unfinished (an_l "l3") refl) refl here (lit< tt, lit< tt) refl here refl

by_v2 : LeadsThrough twisting whole_view straight 0 unfinished l3_y2 (a_w "v2") l2_y1
by_v2 = leads twisting whole_view 0 unfinished straight l3_y2 (a_w "v2") l2_y1 1 0 (into "v2" 1) (out "l2" 0) (inr (inr (inr (inr (inr (inr (inr (inr (inr (inr (inl refl))))))))))) (not_shown twisting whole_view 0 unfinished (a_w "v2") refl) refl here (lit< tt, lit< tt) refl (onward l2_out here) refl

by_v1 : LeadsThrough twisting whole_view straight 0 unfinished l2_y1 (a_w "v1") l1_y2
by_v1 = leads twisting whole_view 0 unfinished straight l2_y1 (a_w "v1") l1_y2 0 1 (into "v1" 0) (out "l1" 1) (inr (inr (inr (inr (inr (inr (inr (inl refl)))))))) (not_shown twisting whole_view 0 unfinished (a_w "v1") refl) refl here (lit< tt, lit< tt) refl (onward l1_out here) refl

by_v0 : LeadsThrough twisting whole_view straight 0 unfinished l1_y2 (a_w "v0") r_b1
by_v0 = leads twisting whole_view 0 unfinished straight l1_y2 (a_w "v0") r_b1 1 0 (into "v0" 1) (out "r" 0) (inr (inr (inr (inr (inl refl))))) (not_shown twisting whole_view 0 unfinished (a_w "v0") refl) refl here (lit< tt, lit< tt) refl (onward l0_out (onward r_out here)) refl

down_and_up : IsItemChain twisting whole_view straight 0 unfinished r_a1 seven_steps r_b1
down_and_up = record {
  there = inl refl;
  visible = tt;
  some = lit< tt;
  steps_lead = (
    record { there = inr (inr (inr (inr (inr (inl refl))))); visible = refl; through = by_w0 },
    (
      record { there = inr (inr (inr (inr (inr (inr (inr (inr (inl refl)))))))); visible = refl; through = by_w1 },
      (
        record { there = inr (inr (inr (inr (inr (inr (inr (inr (inr (inr (inr (inr (inr (inl refl))))))))))))); visible = refl; through = by_w2 },
        (
          record { there = inr (inr (inr (inr (inr (inr (inr (inr (inr (inr (inr (inr (inr (inr (inr (inl refl))))))))))))))); visible = refl; through = by_l3 },
          (
            record { there = inr (inr (inr (inr (inr (inr (inr (inr (inr (inr (inl refl)))))))))); visible = refl; through = by_v2 },
            (
              record { there = inr (inr (inr (inr (inr (inr (inr (inl refl))))))); visible = refl; through = by_v1 },
              (record { there = inr (inr (inl refl)); visible = tt; through = by_v0 }, refl),
            ),
          ),
        ),
      ),
    ),
  );
}

-- under the other view
outer_in : IsEntry twisting outer_view 0 unfinished (into "r" 0) (into "l0" 0)
outer_in = of_open twisting outer_view 0 unfinished (entries_in twisting) r r_by (record { from = input None 0; to = input (Some 0) 0 }) (inl refl) refl refl (inl refl) (into "r" 0) (into "l0" 0) refl

outer_out : IsExit twisting outer_view 0 unfinished (out "l0" 1) (out "r" 1)
outer_out = of_open twisting outer_view 0 unfinished (exits_in twisting) r r_by (record { from = output (Some 0) 1; to = output None 1 }) (inl refl) refl refl (inr (inl refl)) (out "l0" 1) (out "r" 1) refl

by_l0 : LeadsThrough twisting outer_view all_pairs 0 unfinished r_a1 (an_l "l0") r_b2
by_l0 = leads twisting outer_view 0 unfinished all_pairs r_a1 (an_l "l0") r_b2 0 1 (into "r" 0) (out "r" 1) (inr (inl refl)) (not_shown twisting outer_view 0 unfinished (an_l "l0") refl) refl (onward outer_in here) (lit< tt, lit< tt) refl (onward outer_out here) refl

pub twisting_chains_are_worked : TwistingChainsAreWorked
twisting_chains_are_worked = record {
  down_and_up = down_and_up;
  outside = record { there = inl refl; visible = tt; some = lit< tt; steps_lead = (record { there = inr (inr (inr (inl refl))); visible = tt; through = by_l0 }, refl) };
}
