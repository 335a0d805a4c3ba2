-- A view that bytes tell expands composite modules only.
use Rattle.std.proofs.Common.{◌≡◌, ℕ, ◌<◌, true, List, length, Option, Some, None, sym, subst, arith}
use Rattle.std.specs.Prelude.{◌==◌}
use Rattle.std.proofs.lemmas.Bool.{eqb-true}
use Rattle.wf_model.specs.declared.parts.ViewParts.{ViewParts}
use Rattle.wf_model.specs.Lists.{IsAt, numbers_from}
use Rattle.wf_model.specs.Grammar.{Grammar}
use Rattle.wf_model.specs.WellFormed.{IsWellFormed}
use Rattle.wf_model.specs.View.{View}
use Rattle.wf_model.specs.Finishing.{ExpandsComposites}
use Rattle.wf_model.proofs.Lists.{some_gives, in_filter_from, among_gives, in_at, at_below}
use Rattle.wf_model.proofs.Composites.{composite_gives}
use Rattle.wf_model.proofs.Level.{in_numbers}
use Rattle.wf_model.specs.Composite.{is_composite}
use Rattle.wf_view.proofs.Naming.{number_is}
use Rattle.wf_view.specs.Viewing.{name_of, is_among, is_expanded, view_of}
use Rattle.wf_view.specs.Rules.{IsCompositeName, IsViewed, listed}
use Rattle.wf_inputs.specs.ViewTold.{TellsView}

module _ (g : Grammar) (formed : IsWellFormed g) where
  -- what is to be expanded is composite, where each name that is listed is that of a composite module
  among_composite : (o : Option (List (List ℕ))) (m : ℕ) → m < length g.modules → ((k : ℕ) → k < length (listed o) → (n : List ℕ) → IsAt n k (listed o) → IsCompositeName g n) → is_among g o m ≡ true → is_composite g m ≡ true
  among_composite None m h rule t = t
  among_composite (Some names) m h rule t =
      let i = in_at (name_of g m) names (among_gives (name_of g m) names t) in
      subst (λ k. is_composite g k ≡ true) (number_is g formed m h) (rule i.0 (at_below (name_of g m) i.0 names i.1) (name_of g m) i.1)

  pub viewed_composites : (parts : ViewParts) → IsViewed g parts → ExpandsComposites g (view_of g parts)
  viewed_composites parts viewed m t =
      let k = some_gives (λ j. j == m) (view_of g parts).expanded t in
      let among = in_filter_from (is_expanded g parts) k.0 (numbers_from 0 (length g.modules)) k.1 in
      let h = in_numbers k.0 0 (length g.modules) among.0 in
      composite_gives g m (subst (λ j. is_composite g j ≡ true) (eqb-true k.0 m k.2) (among_composite parts.expand k.0 (omega arith) viewed.1.1.0 among.1))

  pub told_composites : (bytes : List ℕ) (u : View) → TellsView g bytes u → ExpandsComposites g u
  told_composites bytes u t = subst (ExpandsComposites g) (sym t.is) (viewed_composites t.parts t.viewed)
