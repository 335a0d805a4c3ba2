-- What is tested of a choice tells that it is one.
use Rattle.std.proofs.Common.{◌≡◌, ◌↔◌, ℕ, Bool, false, IsTrue, List, length, get_or, sym, ◌∙◌, subst, arith, true≢false}
use Rattle.std.proofs.lemmas.Bool.{and_parts, and_from}
use Rattle.wf_model.specs.Lists.{IsIn, numbers_from}
use Rattle.wf_model.specs.Grammar.{Grammar}
use Rattle.wf_model.specs.WellFormed.{IsWellFormed}
use Rattle.wf_model.specs.View.{expands, IsSeenModule}
use Rattle.wf_model.proofs.Lists.{in_map, in_map_from, in_filter, in_filter_from}
use Rattle.wf_model.proofs.Level.{in_numbers, numbers_in}
use Rattle.wf_view.specs.Held.{HeldView, IsHeldFor}
use Rattle.wf_safe.specs.Choosing.{is_seen_expanded, needing_below, AreProductions}
use Rattle.wf_safe.specs.Witness.{modules_in, IsChoiceOf}
use Rattle.wf_model.proofs.Rising.{IsRising, same_rising, numbers_rise}
use Rattle.wf_safe.proofs.SeenBelow.{seen_below}

module _ (g : Grammar) (v : HeldView) (wf : IsWellFormed g) (held : IsHeldFor g v) where
  needing_gives : (m : ℕ) → IsIn m (needing_below v (length g.modules)) → IsSeenModule g v.core m × IsTrue (expands v.core m)
  needing_gives m i =
      let f = in_filter_from (is_seen_expanded v) m (numbers_from 0 (length g.modules)) i in
      let b = in_numbers m 0 (length g.modules) f.0 in
      let t = and_parts (get_or v.seen m false) (expands v.core m) f.1 in
      ((held.seen m (omega arith)).0 t.0, t.1)

  needing_from : (m : ℕ) → IsSeenModule g v.core m → IsTrue (expands v.core m) → IsIn m (needing_below v (length g.modules))
  needing_from m s e =
      let b = seen_below g v.core m wf s in
      in_filter (is_seen_expanded v) m (numbers_from 0 (length g.modules)) (numbers_in m 0 (length g.modules) (omega arith) (omega arith)) (and_from (get_or v.seen m false) (expands v.core m) ((held.seen m b).1 s) e)

  module _ (choice : List (ℕ × ℕ)) where
    choice_from : modules_in choice ≡ needing_below v (length g.modules) → AreProductions g choice → IsChoiceOf g v.core choice
    choice_from e ps = record {
      in_order = subst IsRising (sym e) (numbers_rise (is_seen_expanded v) 0 (length g.modules));
      all = λ m s t. subst (IsIn m) (sym e) (needing_from m s t);
      seen = λ m p i. needing_gives m (subst (IsIn m) e (in_map (λ (c : ℕ × ℕ). c.0) (m, p) choice i));
      productions = ps;
    }

    choice_gives : IsChoiceOf g v.core choice → modules_in choice ≡ needing_below v (length g.modules)
    choice_gives h =
        same_rising (modules_in choice) (needing_below v (length g.modules)) h.in_order (numbers_rise (is_seen_expanded v) 0 (length g.modules))
        (λ m. (
          λ i. let a = in_map_from (λ (c : ℕ × ℕ). c.0) m choice i in
              let s = h.seen m a.0.1 (subst (λ z. IsIn (z, a.0.1) choice) (sym a.2) a.1) in
              needing_from m s.0 s.1,
          λ i. let s = needing_gives m i in h.all m s.0 s.1,
        ))

    -- where the modules are those that need a choice, the productions tell whether it is one
    pub by_productions : (b : Bool) → modules_in choice ≡ needing_below v (length g.modules) → IsTrue b ↔ AreProductions g choice → IsTrue b ↔ IsChoiceOf g v.core choice
    by_productions b e told = (λ t. choice_from e (told.0 t), λ h. told.1 h.productions)

    -- and it is none where they are not
    pub not_by_modules : (b : Bool) → IsTrue b ↔ (modules_in choice ≡ needing_below v (length g.modules)) → b ≡ false → IsTrue b ↔ IsChoiceOf g v.core choice
    not_by_modules b told f = (λ t. absurd (true≢false (sym t ∙ f)), λ h. told.1 (choice_gives h))
