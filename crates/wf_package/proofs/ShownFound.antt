-- The flags of what is shown, and what they flag.
use Rattle.std.proofs.Common.{◌≡◌, ℕ, ◌+◌, ◌<◌, ◌≤◌, Bool, true, false, List, length, map, get_or, sym, ap, ◌∙◌, subst, arith}
use Rattle.std.proofs.lemmas.Bool.{and_parts, and_from}
use Rattle.std.proofs.lemmas.List.{length-map}
use Rattle.wf_model.specs.Lists.{IsIn, numbers_from}
use Rattle.wf_model.specs.Grammar.{Grammar, head_of}
use Rattle.wf_model.specs.View.{IsSeenModule, expands}
use Rattle.wf_model.proofs.Lists.{in_filter, in_filter_from}
use Rattle.wf_model.proofs.Level.{in_numbers, numbers_in}
use Rattle.wf_model.proofs.NumberLists.{length-numbers, get_numbered}
use Rattle.wf_model.proofs.Rising.{IsRising, numbers_rise}
use Rattle.wf_view.specs.Held.{HeldView, IsHeldFor, flagged}
use Rattle.wf_safe.specs.Choosing.{is_seen_expanded}
use Rattle.wf_package.specs.Parts.{ArePlaces, AreShownParts, seen_module_flags, open_production_flags}
use Rattle.wf_package.proofs.FlaggedPlaces.{nought, few_passing}
use Rattle.wf_package.specs.declared.places.PlacedNumbers.{PlacedNumbers}

-- flags by a test of the numbers below n
module _ (f : ℕ → Bool) (n : ℕ) where
  abbrev flags : List Bool
  flags = map f (numbers_from 0 n)

  pub length-flags : length flags ≡ n
  length-flags = length-map (numbers_from 0 n) f ∙ length-numbers 0 n

  -- what is flagged passes the test
  pub flagged_passes : (m : ℕ) → IsIn m (flagged flags) → (m < n) × (f m ≡ true)
  flagged_passes m h =
      let q = in_filter_from (λ k. get_or flags k false) m (numbers_from 0 (length flags)) h in
      let a : m < 0 + length flags = in_numbers m 0 (length flags) q.0 in
      let l : m < n = omega (arith, a, length-flags) in
      (l, ap f (sym (nought m)) ∙ sym (get_numbered f 0 n m false l) ∙ q.1)

  -- and what passes is flagged
  pub passes_flagged : (m : ℕ) → m < n → f m ≡ true → IsIn m (flagged flags)
  passes_flagged m l p =
      let a : m < 0 + length flags = omega (arith, length-flags) in
      in_filter (λ k. get_or flags k false) m (numbers_from 0 (length flags)) (numbers_in m 0 (length flags) (omega arith) a) (get_numbered f 0 n m false l ∙ ap f (nought m) ∙ p)

  pub flagged_rise : IsRising (flagged flags)
  flagged_rise = numbers_rise (λ k. get_or flags k false) 0 (length flags)

-- the flagged modules and productions are those that are shown
pub shown_are : (g : Grammar) (v : HeldView) → IsHeldFor g v → ((m : ℕ) → IsSeenModule g v.core m → m < length g.modules) → (modules productions : PlacedNumbers) → ((p : ℕ) → p < length g.productions → head_of g p < length g.modules) →
    ArePlaces (seen_module_flags g v) modules → ArePlaces (open_production_flags g v) productions → AreShownParts g v.core modules productions
shown_are g v held below modules productions heads ms ps =
    let n = length g.modules in
    let p = length g.productions in
    let seen : ℕ → Bool = λ m. get_or v.seen m false in
    let open_test : ℕ → Bool = λ q. is_seen_expanded v (head_of g q) in
    record {
      seen = record {
        modules_in_order = subst IsRising (sym ms.numbers) (flagged_rise seen n);
        modules = λ m. (
          (λ h. let q = flagged_passes seen n m (subst (IsIn m) ms.numbers h) in (held.seen m q.0).0 q.1),
          (λ s. subst (IsIn m) (sym ms.numbers) (passes_flagged seen n m (below m s) ((held.seen m (below m s)).1 s))),
        );
        productions_in_order = subst IsRising (sym ps.numbers) (flagged_rise open_test p);
        productions = λ k. (
          (λ h. let q = flagged_passes open_test p k (subst (IsIn k) ps.numbers h) in
              let r = and_parts (get_or v.seen (head_of g k) false) (expands v.core (head_of g k)) q.1 in
              (q.0, (held.seen (head_of g k) (heads k q.0)).0 r.0, r.1)),
          (λ o. subst (IsIn k) (sym ps.numbers) (passes_flagged open_test p k o.0 (and_from (get_or v.seen (head_of g k) false) (expands v.core (head_of g k)) ((held.seen (head_of g k) (heads k o.0)).1 o.1) o.2))),
        );
      };
      few = subst (λ (l : List ℕ). length l ≤ n) (sym ms.numbers) (omega (arith, few_passing (λ k. get_or (seen_module_flags g v) k false) 0 (length (seen_module_flags g v)), length-flags seen n));
      module_each = ms.one_each ∙ length-flags seen n;
      module_places = ms.places;
      production_each = ps.one_each ∙ length-flags open_test p;
      production_places = ps.places;
    }
