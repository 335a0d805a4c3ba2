-- The productions that attain the ranks of their heads.
use Rattle.std.proofs.Common.{◌≡◌, ℕ, zero, suc, ◌≤◌, List, Option, None, Some, MatchOption, subst, inl, inr, arith}
use Rattle.std.specs.Prelude.{unwrap_or}
use Rattle.wf_model.specs.declared.numbers.ProdNo.{ProdNo}
use Rattle.wf_model.specs.Grammar.{Grammar, IsComposite}
use Rattle.wf_model.specs.Proper.{RankWithin, IsRank}
use Rattle.wf_model.specs.WellFormed.{IsWellFormed}
use Rattle.wf_check.specs.Improper.{IsProductive}
use Rattle.wf_check.specs.Proper.{Attains, IsChoice}
use Rattle.wf_check.specs.Ranks.{AreRanks, IsLower}
use Rattle.wf_check.proofs.Rounds.{ranks_known, lower_gives, lower_from}

abbrev pub IsChosen : Grammar → ℕ → ℕ → Type 0
IsChosen g m p = IsComposite g m → IsProductive g m → IsChoice g m p

-- a production attains the rank of its head where its body has lower ranks alone
attains_from : (g : Grammar) (j m p : ℕ) (ranks : List (Option ℕ)) → IsWellFormed g → AreRanks g ranks → IsRank g m (suc j) → IsLower g ranks (suc j) m p → Attains g m p
attains_from g j m p ranks w h rank l = record { of_module = l.of_module; below = j; rank = rank; body = lower_gives g j m p ranks w (ranks_known g (suc j) ranks h) l }

attains_gives : (g : Grammar) (j m p : ℕ) (ranks : List (Option ℕ)) → IsWellFormed g → AreRanks g ranks → IsRank g m (suc j) → Attains g m p → IsLower g ranks (suc j) m p
attains_gives g j m p ranks w h rank a =
    let x = a.rank.1 (suc j) rank.0 in
    let y = rank.1 (suc a.below) a.rank.0 in
    let e : a.below ≡ j = omega arith in
    lower_from g j m p ranks w (ranks_known g (suc j) ranks h) a.of_module (λ k i. subst (λ n. RankWithin g n k) e (a.body k i))

-- a composite module has a production that attains its rank
pub chosen_some : (g : Grammar) (n m : ℕ) (ranks : List (Option ℕ)) (o : Option ProdNo) → IsWellFormed g → AreRanks g ranks → IsRank g m n → MatchOption o ((p : ℕ) → ¬ IsLower g ranks n m p) (λ p. IsLower g ranks n m p.0 × ((q : ℕ) → IsLower g ranks n m q → p.0 ≤ q)) → IsChosen g m (unwrap_or o (record { 0 = 0 })).0
chosen_some g zero m ranks o w h rank least c r = absurd (rank.0 c.0 c.1.0 c.1.1)
chosen_some g (suc j) m ranks (Some p) w h rank least c r = (attains_from g j m p.0 ranks w h rank least.0, λ q a. least.1 q (attains_gives g j m q ranks w h rank a))
chosen_some g (suc j) m ranks None w h (inl a, least_rank) least c r = absurd (a c.0 c.1.0 c.1.1)
chosen_some g (suc j) m ranks None w h (inr d, least_rank) least c r = absurd (least d.0 (lower_from g j m d.0 ranks w (ranks_known g (suc j) ranks h) d.1 d.2))
