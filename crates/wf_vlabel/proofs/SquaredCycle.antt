-- The matrices of many rounds for the modules of a cycle, place by place.
use Rattle.std.proofs.Common.{◌≡◌, ℕ, ◌+◌, ◌<◌, List, length, get_or, set, Option, Some, sym, ap, ◌∙◌, subst, inl, inr, arith}
use Rattle.std.proofs.lemmas.Bool.{cases_eq}
use Rattle.bool_mat.specs.Matrix.{Matrix, Adds}
use Rattle.wf_model.specs.Grammar.{Grammar, Assignment}
use Rattle.wf_model.specs.WellFormed.{IsWellFormed}
use Rattle.wf_model.specs.Linear.{IsLinear}
use Rattle.label_model.specs.Continuing.{after}
use Rattle.wf_recur.specs.Cycles.{CyclesSeen, round_at, least_of, AreCyclesOf}
use Rattle.wf_recur.proofs.Places.{place_from_first, place_back}
use Rattle.wf_vlabel.specs.declared.rounds.way.Way.TheVariants.{Down, Up}
use Rattle.wf_vlabel.specs.Groups.{GroupsSeen}
use Rattle.wf_vlabel.specs.ChainMatrices.{AreParts, HasSteps}
use Rattle.wf_vlabel.specs.RoundSteps.{steps_on, IsOnce, IsSquareGroup, HasRounds}
use Rattle.wf_vlabel.proofs.OnceRound.{once_told}
use Rattle.wf_vlabel.proofs.Squares.{rounds_kept, rounds_here}

-- the pools of the first and of the last steps, and what the modules have so far
pub record SquaredSoFar (g : Grammar) (t : CyclesSeen) (bodies : GroupsSeen) (c place : ℕ) (start : List Matrix) (none : List (Option ℕ)) (down up squares : List Matrix) (first : List (Option ℕ)) : Type 0 where
  pub downs : (d : Assignment) → HasSteps g d bodies (least_of (round_at t c)) → AreParts Down g d (least_of (round_at t c)) (length (round_at t c)) down
  pub ups : (d : Assignment) → HasSteps g d bodies (least_of (round_at t c)) → AreParts Up g d (least_of (round_at t c)) (length (round_at t c)) up
  pub kept : (d : Assignment) → HasSteps g d bodies (least_of (round_at t c)) → (m : ℕ) → HasRounds g d m start none → HasRounds g d m squares first
  pub told : (d : Assignment) → HasSteps g d bodies (least_of (round_at t c)) → (j : ℕ) → j < place → HasRounds g d (get_or (round_at t c) j 0) squares first

pub squared_none : (g : Grammar) (t : CyclesSeen) (bodies : GroupsSeen) (c size : ℕ) (down up squares : List Matrix) (first : List (Option ℕ)) → size ≡ length (round_at t c) →
    ((d : Assignment) → HasSteps g d bodies (least_of (round_at t c)) → AreParts Down g d (least_of (round_at t c)) (length (round_at t c)) down) →
    ((d : Assignment) → HasSteps g d bodies (least_of (round_at t c)) → AreParts Up g d (least_of (round_at t c)) (length (round_at t c)) up) →
    SquaredSoFar g t bodies c 0 squares first down up squares first
squared_none g t bodies c size down up squares first e x y = record {
  downs = x;
  ups = y;
  kept = λ d h m r. r;
  told = λ d h j l. absurd (omega arith);
}

-- one place more
pub squared_more : (g : Grammar) (t : CyclesSeen) (bodies : GroupsSeen) (c place size at n : ℕ) (start : List Matrix) (none : List (Option ℕ)) (down up squares down' up' squares' : List Matrix) (first : List (Option ℕ)) →
    IsWellFormed g → IsLinear g → AreCyclesOf g t → c < length t.rounds → size ≡ length (round_at t c) → place < size → at ≡ get_or (round_at t c) place 0 → at < length first →
    ((g : Grammar) (d : Assignment) (m : ℕ) → AreParts Down g d m size down → AreParts Down g d m size down') →
    ((g : Grammar) (d : Assignment) (m : ℕ) → AreParts Up g d m size up → AreParts Up g d m size up') →
    Adds squares squares' (length squares) 50 →
    ((g : Grammar) (d : Assignment) (m : ℕ) → after g size m ≡ m → AreParts Down g d m size down → AreParts Up g d m size up → IsSquareGroup g d (after g place m) (steps_on g size (after g place m)) squares' n) →
    SquaredSoFar g t bodies c place start none down up squares first → SquaredSoFar g t bodies c (place + 1) start none down' up' squares' (set first at (Some n))
squared_more g t bodies c place size at n start none down up squares down' up' squares' first wf lin h i e l is low keeps keeps' a made s =
    let round = round_at t c in
    let m = least_of round in
    let inside : place < length round = omega arith in
    let back : after g size m ≡ m = ap (λ z. after g z m) e ∙ place_back g t wf lin h c 0 i (h.rounds c i).whole.0 in
    let there : after g place m ≡ at = place_from_first g t wf lin h c place i inside ∙ sym is in
    let own : (d : Assignment) → HasSteps g d bodies m → (list : _) → IsOnce g at list → IsSquareGroup g d at list squares' n =
    λ d q list o.
    let lists : list ≡ steps_on g size at = subst (λ z. IsOnce g z list → list ≡ steps_on g size z) (sym is) (λ w. once_told g t c place wf lin h i inside list w ∙ ap (λ z. steps_on g z (get_or round place 0)) (sym e)) o in
    subst (λ z. IsSquareGroup g d at z squares' n) (sym lists)
    (subst (λ z. IsSquareGroup g d z (steps_on g size z) squares' n) there
    (made g d m back (subst (λ z. AreParts Down g d m z down) (sym e) (s.downs d q)) (subst (λ z. AreParts Up g d m z up) (sym e) (s.ups d q)))) in
    record {
      downs = λ d q. subst (λ z. AreParts Down g d m z down') e (keeps g d m (subst (λ z. AreParts Down g d m z down) (sym e) (s.downs d q)));
      ups = λ d q. subst (λ z. AreParts Up g d m z up') e (keeps' g d m (subst (λ z. AreParts Up g d m z up) (sym e) (s.ups d q)));
      kept = λ d q k r. rounds_kept g d k at n squares squares' first (length squares) 50 a low (own d q) (s.kept d q k r);
      told = λ d q j w. elim (cases_eq j place) [
        | inl same ↦ subst (λ z. HasRounds g d (get_or round z 0) squares' (set first at (Some n))) (sym same) (subst (λ z. HasRounds g d z squares' (set first at (Some n))) is (rounds_here g d at n squares' first low (own d q)))
        | inr not ↦ let less : j < place = omega arith in rounds_kept g d (get_or round j 0) at n squares squares' first (length squares) 50 a low (own d q) (s.told d q j less)
      ];
    }
