-- A chain is cut exactly where the view does not expand the whole cycle.
use Rattle.std.proofs.Common.{◌≡◌, ℕ, ◌+◌, ◌-◌, ◌%◌, ◌<◌, Bool, true, false, not, IsTrue, Option, Some, None, is_some, length, refl, sym, ap, ◌∙◌, subst, arith, true≢false}
use Rattle.std.proofs.Math.Nat.{mod-lt, mod-eq_of_lt, add-mod_right}
use Rattle.wf_model.specs.Lists.{some}
use Rattle.wf_model.proofs.Lists.{some_from, some_gives, in_at, at_in, at_is, at_below, is_at}
use Rattle.label_model.specs.Continuing.{after}
use Rattle.wf_recur.specs.Cycles.{round_at}
use Rattle.wf_vlabel.specs.Cuts.{IsCut}
use Rattle.wf_vlabel.specs.Seen.{ViewLabelSeen, IsViewLabel, is_expanded}
use Rattle.wf_decode.specs.HeldLegs.{module_on, is_whole}
use Rattle.wf_recur.proofs.Places.{place_after}

not_true : (b : Bool) → IsTrue b → not b ≡ true → ⊥
not_true true h e = true≢false (sym e)
not_true false h e = true≢false (sym h)

not_some : (b : Bool) → (b ≡ true → ⊥) → not b ≡ true
not_some true h = absurd (h refl)
not_some false h = refl

module _ (l : ViewLabelSeen) (is : IsViewLabel l) (k j : ℕ) (h : k < length l.cycles.rounds) (i : j < length (round_at l.cycles k)) where
  -- each place is met from each
  place_met : (p : ℕ) → p < length (round_at l.cycles k) → after l.grammar (p + length (round_at l.cycles k) - j) (module_on l.cycles k j) ≡ module_on l.cycles k p
  place_met p low =
      let n = length (round_at l.cycles k) in
      let e : j + (p + n - j) ≡ p + n = omega arith in
      place_after l.grammar l.cycles is.formed is.linear is.cycles_are k j (p + n - j) h i ∙
      ap (module_on l.cycles k) (ap (λ z. z % n) e ∙ (add-mod_right p n ∙ mod-eq_of_lt low))

  -- no module is left out
  none_out : IsCut l.grammar (is_expanded l) (module_on l.cycles k j) None → some (λ m. not (is_expanded l m)) (round_at l.cycles k) ≡ true → ⊥
  none_out cut e =
      let round = round_at l.cycles k in
      let x = some_gives (λ m. not (is_expanded l m)) round e in
      let p = in_at x.0 round x.1 in
      let at = place_met p.0 (at_below x.0 p.0 round p.1) ∙ at_is x.0 p.0 round 0 p.1 in
      not_true (is_expanded l x.0) (subst (λ m. IsTrue (is_expanded l m)) at (cut (p.0 + length round - j))) x.2

  whole_uncut : IsCut l.grammar (is_expanded l) (module_on l.cycles k j) None → is_whole l k ≡ true
  whole_uncut cut = not_some (some (λ m. not (is_expanded l m)) (round_at l.cycles k)) (none_out cut)

  cut_whole : (n : ℕ) → IsCut l.grammar (is_expanded l) (module_on l.cycles k j) (Some n) → is_whole l k ≡ false
  cut_whole n cut =
      let round = round_at l.cycles k in
      let at = (j + n) % length round in
      let low : at < length round = mod-lt (j + n) (omega arith) in
      let e = place_after l.grammar l.cycles is.formed is.linear is.cycles_are k j n h i in
      let m = module_on l.cycles k at in
      ap not (some_from (λ z. not (is_expanded l z)) m round (at_in m at round (is_at at round 0 low)) (ap not (ap (is_expanded l) (sym e) ∙ cut.0)))

  -- so the test for a cut tells whether the view expands the whole cycle
  pub whole_told : (o : Option ℕ) → IsCut l.grammar (is_expanded l) (module_on l.cycles k j) o → (b : Bool) → is_some o ≡ b → is_whole l k ≡ not b
  whole_told None cut b e = whole_uncut cut ∙ ap not e
  whole_told (Some n) cut b e = cut_whole n cut ∙ ap not e
