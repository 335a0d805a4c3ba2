-- The test of held items tells whether they are the same.
use Rattle.std.proofs.Common.{◌≡◌, true, arith}
use Rattle.std.proofs.lemmas.Bool.Decides.{nat_tests}
use Rattle.wf_flat.specs.declared.item.Item.{Item}
use Rattle.wf_flat.specs.contracts.item.ItemPartialEq.TheImpl.{eq-value}

pub item_same : (a b : Item) → (eq-value).it a b ≡ true → a ≡ b
item_same a b e = grind (arith, nat_tests)

pub item_self : (a : Item) → (eq-value).it a a ≡ true
item_self a = grind (arith, nat_tests)
