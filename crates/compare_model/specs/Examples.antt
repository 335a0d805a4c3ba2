-- Worked comparisons of views.
use Rattle.std.specs.Prelude.{ℕ, [], ◌∷◌, codes}
use Rattle.wf_model.specs.declared.numbers.ModNo.{ModNo}
use Rattle.wf_model.specs.declared.numbers.PortNo.{PortNo}
use Rattle.wf_model.specs.View.{View}
use Rattle.wf_model.specs.Safe.{IsInduced}
use Rattle.wf_model.specs.declared.event.Event.TheVariants.{Start, Expand}
use Rattle.wf_laws.specs.LineGrammar.{line, all_pairs, whole_view as line_view, shut_view}
use Rattle.wf_laws.specs.TwistingGrammar.{two, twisting, whole_view, outer_view, straight}
use Rattle.label_model.specs.Examples.{fork}
use Rattle.compare_model.specs.declared.compared.Compared.TheVariants.{Denied, Extra, Exact}
use Rattle.compare_model.specs.Coarser.{IsFirstExpandedAlone}
use Rattle.compare_model.specs.Comparison.{IsCompared}
use Rattle.compare_model.specs.Laws.{AreCompared}

-- a module and a port by number
abbrev pub module_of : ℕ → ModNo
module_of n = record { 0 = n }

abbrev pub port_of : ℕ → PortNo
port_of n = record { 0 = n }

-- of the twisting grammar S alone is expanded, and L is shown to join its ports crosswise
abbrev pub crossed_view : View
crossed_view = record { expanded = 0 ∷ []; shown = [] ∷ ((0, 1) ∷ (1, 0) ∷ []) ∷ ((0, 1) ∷ (1, 0) ∷ []) ∷ ((0, 0) ∷ (1, 1) ∷ []) ∷ [] }

-- S and L are expanded, and T is shown to join no ports
abbrev pub parted_view : View
parted_view = record { expanded = 0 ∷ 1 ∷ []; shown = [] ∷ [] ∷ ((0, 1) ∷ (1, 0) ∷ []) ∷ [] ∷ [] }

-- of the fork S is expanded, and Q is shown to join no ports
abbrev pub half_view : View
half_view = record { expanded = 0 ∷ []; shown = [] ∷ ((0, 0) ∷ []) ∷ [] ∷ [] }

pub record ComparisonsAreWorked : Type 0 where
  -- L and S join their ports straight, whichever way L is expanded
  pub straight_induced : IsInduced twisting whole_view straight
  -- a view beside itself
  pub itself : IsCompared twisting whole_view straight Exact
  -- x1 of L is shown to join y2, which it never does
  pub crosswise_added : IsCompared twisting outer_view straight (Extra (module_of 1) (port_of 0) (port_of 1))
  -- x1 of L is not shown to join y1, which it does; L is one step from S
  pub straight_denied : IsCompared twisting crossed_view straight
      (Denied (module_of 1) (port_of 0) (port_of 0) (codes "n1") (Start (codes "n0") ∷ Expand (codes "n0") 0 (codes "n1" ∷ []) ∷ []))
  -- T is two steps from S: by the second production of L
  pub deeper_denied : IsCompared twisting parted_view straight
      (Denied (module_of 3) (port_of 0) (port_of 0) (codes "n2") (Start (codes "n0") ∷ Expand (codes "n0") 0 (codes "n1" ∷ []) ∷ Expand (codes "n1") 2 (codes "n2" ∷ []) ∷ []))
  -- Q is one step from S by either production, and the first of them counts: Q stands second in it
  pub first_way : IsCompared fork half_view all_pairs
      (Denied (module_of 2) (port_of 0) (port_of 0) (codes "n2") (Start (codes "n0") ∷ Expand (codes "n0") 0 (two "n1" "n2") ∷ []))
  -- where S of the line is not expanded and shows its pair, nothing changes
  pub line_compared : AreCompared line shut_view line_view all_pairs
  pub line_exact : IsCompared line shut_view all_pairs Exact
  -- the other way round S is expanded by one of the two alone
  pub not_coarser : IsFirstExpandedAlone line_view shut_view 0
