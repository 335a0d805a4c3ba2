-- The numbers of seen modules, and the flags of seen, expanded ones.
use Rattle.std.proofs.Common.{◌≡◌, ℕ, ◌<◌, Bool, true, false, ◌&&◌, IsTrue, ◌↔◌, length, get_or, refl, sym, ap, ◌∙◌, subst, true≢false}
use Rattle.wf_model.specs.Grammar.{Grammar, head_of}
use Rattle.wf_model.specs.WellFormed.{IsWellFormed}
use Rattle.wf_model.specs.View.{View, expands, IsSeenModule, at_start, in_body}
use Rattle.wf_view.specs.Held.{HeldView, IsHeldFor}
use Rattle.wf_safe.specs.Choosing.{is_seen_expanded}
use Rattle.wf_safe.specs.Inducing.{IsSeenExpanded}

pub seen_below : (g : Grammar) (u : View) (m : ℕ) → IsWellFormed g → IsSeenModule g u m → m < length g.modules
seen_below g u m wf (at_start e) = subst (λ k. k < length g.modules) (sym e) wf.start
seen_below g u m wf (in_body p hp s e i) = (wf.bodies p hp).modules m i

both : (a b : Bool) → a && b ≡ true → (a ≡ true) × (b ≡ true)
both true b h = (refl, h)
both false b h = absurd (true≢false (sym h))

-- the flags of a module tell whether it is seen and expanded
pub seen_expanded_is : (g : Grammar) (v : HeldView) (m : ℕ) → IsHeldFor g v → m < length g.modules → IsTrue (is_seen_expanded v m) ↔ IsSeenExpanded g v.core m
seen_expanded_is g v m h l = (
  (λ t. let b = both (get_or v.seen m false) (expands v.core m) t in ((h.seen m l).0 b.0, b.1)),
  (λ o. ap (λ a. a && expands v.core m) ((h.seen m l).1 o.0) ∙ o.1),
)

-- a module whose flags are not both set is not seen and expanded
pub not_seen_expanded : (g : Grammar) (v : HeldView) (m : ℕ) → IsHeldFor g v → m < length g.modules → is_seen_expanded v m ≡ false → IsSeenExpanded g v.core m → ⊥
not_seen_expanded g v m h l f o = true≢false (sym ((seen_expanded_is g v m h l).1 o) ∙ f)

-- so do the flags of the head of a production
pub seen_expanded_head : (g : Grammar) (v : HeldView) (p m : ℕ) → IsWellFormed g → IsHeldFor g v → p < length g.productions → m ≡ head_of g p → is_seen_expanded v m ≡ true → IsSeenExpanded g v.core (head_of g p)
seen_expanded_head g v p m wf h hp e t = (seen_expanded_is g v (head_of g p) h (wf.heads p hp)).0 (ap (is_seen_expanded v) (sym e) ∙ t)
