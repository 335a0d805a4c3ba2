-- Worked chains of the line grammar, and words for writing them down.
use Rattle.std.specs.Prelude.{◌≡◌, List, [], ◌∷◌, codes}
use Rattle.wf_model.specs.declared.event.Event.{Event}
use Rattle.wf_model.specs.declared.event.Event.TheVariants.{Start}
use Rattle.wf_model.specs.Run.{Instance}
use Rattle.wf_model.specs.Items.{Item}
use Rattle.wf_laws.specs.LineGrammar.{line, all_pairs, whole_view, shut_view, events, r_a, r_b, i1_y}
use Rattle.chain_model.specs.Chains.{ChainStep, IsItemChain}
use Rattle.chain_model.specs.Shortest.{IsFirstShortestChain}
use Rattle.chain_model.specs.ChainText.{chain_text}

-- the root r of S, and i1 of P and i2 of Q
abbrev pub r : Instance
r = record { name = codes "r"; module_no = 0 }

abbrev pub i1 : Instance
i1 = record { name = codes "i1"; module_no = 1 }

abbrev pub i2 : Instance
i2 = record { name = codes "i2"; module_no = 2 }

-- a step through an instance to an item
abbrev pub through : Instance → Item → ChainStep
through n t = record { via = n; item = t }

-- the run with its start event alone
abbrev pub start_alone : List Event
start_alone = Start (codes "r") ∷ []

-- through i1 to i1.y, and through i2 to r.b
abbrev pub two_steps : List ChainStep
two_steps = through i1 i1_y ∷ through i2 r_b ∷ []

-- the same items, with i2 in the place of i1
abbrev pub other_steps : List ChainStep
other_steps = through i2 i1_y ∷ through i2 r_b ∷ []

-- through r to r.b
abbrev pub one_step : List ChainStep
one_step = through r r_b ∷ []

-- chains of the run, and of the run with its start event alone
pub record ChainsAreWorked : Type 0 where
  pub of_two : IsItemChain line whole_view all_pairs 0 events r_a two_steps r_b
  pub text_of_two : chain_text r_a two_steps ≡ codes "r.a\nvia i1\ni1.y\nvia i2\nr.b\n"
  -- no other is shorter, or as short and before it
  pub two_first : IsFirstShortestChain line whole_view all_pairs 0 events r_a two_steps r_b
  -- i2 does not consume r.a
  pub not_by_other : ¬ IsItemChain line whole_view all_pairs 0 events r_a other_steps r_b
  -- unexpanded, r is pending, and joins its ports by the full assignment
  pub of_pending : IsItemChain line whole_view all_pairs 0 start_alone r_a one_step r_b
  pub text_of_pending : chain_text r_a one_step ≡ codes "r.a\nvia r\nr.b\n"
  -- where the view does not expand S, r joins them by the pair that it shows, though it is expanded
  pub of_shut : IsItemChain line shut_view all_pairs 0 events r_a one_step r_b
  -- nothing leads from an output of the root on
  pub none_back : (steps : List ChainStep) → ¬ IsItemChain line whole_view all_pairs 0 events r_b steps r_a
