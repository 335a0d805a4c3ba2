-- A view is one of a grammar where it is known that there is a proof of it.
use Rattle.std.proofs.Common.{inl, inr}
use Rattle.std.specs.Prelude.{IsTrue, ◌^◌}
use Rattle.std.proofs.Math.Logic.{∥∥₁_elim, ∥∥₁_map}
use Rattle.std.proofs.Props.{props}
use Rattle.wf_model.specs.Grammar.{Grammar}
use Rattle.wf_model.specs.Composite.{is_composite}
use Rattle.wf_model.specs.View.{expands, IsSeenModule}
use Rattle.wf_model.proofs.Composites.{composite_gives, composite_is}
use Rattle.wf_model.proofs.Deciding.{Either, either_same, test_either}
use Rattle.wf_laws.proofs.SeenOrNot.{seen_either}
use Rattle.wf_view.specs.Held.{HeldView, AreShownRows, IsHeldFor}

-- what is decided is so where there is a proof of it
stands : {P : Type 0} → Either P → ∥ P ∥₁ → P
stands (inl p) t = p
stands (inr none) t = absurd (∥∥₁_elim t (Prim.hlevel props) none)

pub held : (g : Grammar) (v : HeldView) → ∥ IsHeldFor g v ∥₁ → IsHeldFor g v
held g v t = record {
  is_view = record {
    expanded = λ m e. stands (either_same (composite_gives g m) (composite_is g m) (test_either (is_composite g m))) (∥∥₁_map t (λ h. h.is_view.expanded m e));
    shown = λ m i o e. ∥∥₁_elim t (Prim.hlevel props) (λ h. h.is_view.shown m i o e);
  };
  one_flag_each = ∥∥₁_elim t (Prim.hlevel props) (λ h. h.one_flag_each);
  seen = λ m l. (λ e. stands (seen_either g v.core m) (∥∥₁_map t (λ h. (h.seen m l).0 e)), λ s. ∥∥₁_elim t (Prim.hlevel props) (λ h. (h.seen m l).1 s));
  rows_each = ∥∥₁_elim t (Prim.hlevel props) (λ h. h.rows_each);
  rows = λ m l e. record {
    one_each = ∥∥₁_elim t (Prim.hlevel props) (λ h. (h.rows m l e).one_each);
    bits = λ i o p q. ∥∥₁_elim t (Prim.hlevel props) (λ h. (h.rows m l e).bits i o p q);
    no_more = ∥∥₁_elim t (Prim.hlevel props) (λ h. (h.rows m l e).no_more);
  };
}
