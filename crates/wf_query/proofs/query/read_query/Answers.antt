use Rattle.std.proofs.Common.{◌≡◌, ℕ, List, [], ◌∷◌, ◌++◌, length, sym, ap, ◌∙◌, subst, arith}
use Rattle.wf_model.specs.Items.{IsItemName}
use Rattle.name_text.specs.Fronts.{BeginsOtherwise}
use Rattle.name_text.proofs.Fronts.{space_otherwise, one_item}
use Rattle.wf_query.specs.Line.{IsQuery, IsNoQuery}
use Rattle.wf_query.proofs.query.read_query.Goals as goal

-- what is behind the first item's name where the line is a query
behind_first : (line first behind a b : List ℕ) → line ≡ first ++ behind → IsItemName first → BeginsOtherwise behind → IsQuery line a b → behind ≡ 32 ∷ b
behind_first line first behind a b w item ends h = (one_item line first behind a (32 ∷ b) w item ends h.0 h.1 (space_otherwise b)).1

pub returns-in_default-clause-wrong : goal.returns-in_default-clause-wrong
returns-in_default-clause-wrong c = λ a b h. c.in_default.ensures.none a (32 ∷ b) h.0 h.1 (space_otherwise b)

pub returns-in_default-split_first-clause-wrong : goal.returns-in_default-split_first-clause-wrong
returns-in_default-split_first-clause-wrong c = λ a b h.
    let n = ap length (behind_first _ _ _ a b c.in-Some.ensures.whole c.in-Some.ensures.item c.in-Some.ensures.ends h) in
    omega (arith, c.in_default-split_first.ensures.cases)

pub returns-then-space-ne32-clause-wrong : goal.returns-then-space-ne32-clause-wrong
returns-then-space-ne32-clause-wrong c = λ a b h.
    let d = sym c.in-Some-split_first.ensures.cases.0 ∙ behind_first _ _ _ a b c.in-Some.ensures.whole c.in-Some.ensures.item c.in-Some.ensures.ends h in
    c.if-space-ne32.true cc

pub returns-in_default-split_item-clause-wrong : goal.returns-in_default-split_item-clause-wrong
returns-in_default-split_item-clause-wrong c = λ a b h.
    let d = sym c.in-Some-split_first.ensures.cases.0 ∙ behind_first _ _ _ a b c.in-Some.ensures.whole c.in-Some.ensures.item c.in-Some.ensures.ends h in
    c.in_default-split_item.ensures.none (subst IsItemName (sym cc) h.2)
