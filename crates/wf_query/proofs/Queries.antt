-- How query lines are split.
use Rattle.std.proofs.Common.{◌≡◌, ℕ, List, ◌∷◌, ◌++◌, sym, ◌∙◌}
use Rattle.wf_model.specs.Lists.{IsIn}
use Rattle.name_text.proofs.Cuts.{one_cut}
use Rattle.name_text.proofs.Names.{item_no_space}
use Rattle.wf_query.specs.Line.{IsQuery, QueryLaw}

-- a line is split in one way
pub one_query : (l a b c d : List ℕ) → IsQuery l a b → l ≡ c ++ 32 ∷ d → (IsIn 32 c → ⊥) → (a ≡ c) × (b ≡ d)
one_query l a b c d h e k = one_cut 32 a b c d (item_no_space a h.1) k (sym h.0 ∙ e)

pub query_law : QueryLaw
query_law l a b c d h k = one_query l a b c d h k.0 (item_no_space c k.1)
