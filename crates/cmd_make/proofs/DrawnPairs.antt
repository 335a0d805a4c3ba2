-- Pairs that are drawn one after the other.
use Rattle.std.proofs.Common.{◌≡◌, ℕ, suc, ◌+◌, ◌-◌, ◌<◌, List, [], ◌∷◌, ◌++◌, map, ap, sym, ◌∙◌, arith, append_assoc}
use Rattle.std.proofs.lemmas.List.{map-append}
use Rattle.rand_pcg.specs.Lcg.{Lcg}
use Rattle.wf_gen.specs.Draws.{drawn}
use Rattle.cmd_make.specs.declared.pairs.Pair.{Pair as PairHeld}
use Rattle.cmd_make.specs.DrillText.{pair_drawn, pairs_drawn}
use Rattle.cmd_make.specs.HeldLabels.{pair_of}

-- the pairs so far and those that are left are all, also behind the next one
pub one_drawn : (count items k : ℕ) (r next : Lcg) (done new : List PairHeld) (p : PairHeld) (all : List (ℕ × ℕ)) → k < count → map pair_of done ++ pairs_drawn (count - k) items r ≡ all → pair_of p ≡ pair_drawn items r → next ≡ drawn (drawn r) → new ≡ done ++ p ∷ [] →
    map pair_of new ++ pairs_drawn (count - (k + 1)) items next ≡ all
one_drawn count items k r next done new p all less before is after push =
    let left : count - k ≡ suc (count - (k + 1)) = omega (arith, less) in
    ap (λ l. map pair_of l ++ pairs_drawn (count - (k + 1)) items next) push ∙
    (ap (λ l. l ++ pairs_drawn (count - (k + 1)) items next) (map-append pair_of done (p ∷ [])) ∙
    (append_assoc (map pair_of done) (pair_of p ∷ []) (pairs_drawn (count - (k + 1)) items next) ∙
    (ap (λ q. map pair_of done ++ q ∷ pairs_drawn (count - (k + 1)) items next) is ∙
    (ap (λ s. map pair_of done ++ pair_drawn items r ∷ pairs_drawn (count - (k + 1)) items s) after ∙
    (ap (λ n. map pair_of done ++ pairs_drawn n items r) (sym left) ∙ before)))))
