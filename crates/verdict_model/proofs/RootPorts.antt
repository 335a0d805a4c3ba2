-- The items of the ports of the root: no instance made them, an input is consumed at the root and an output is produced there.
use Rattle.std.proofs.Common.{◌≡◌, ℕ, zero, suc, ◌+◌, ◌<◌, List, [], ◌∷◌, length, get_or, Some, None, refl, ap, ◌∙◌, arith}
use Rattle.wf_model.specs.Links.{input, output}
use Rattle.wf_model.specs.Items.{Item, input_items, output_items}

-- the item of input n of the root
pub record IsInputItem (r : List ℕ) (n : ℕ) (t : Item) : Type 0 where
  pub maker : t.maker ≡ None
  pub produced : t.produced ≡ None
  pub consumed : t.consumed ≡ Some (input r n)

-- the item of output n of the root
pub record IsOutputItem (r : List ℕ) (n : ℕ) (t : Item) : Type 0 where
  pub maker : t.maker ≡ None
  pub produced : t.produced ≡ Some (output r n)
  pub consumed : t.consumed ≡ None

pub input_item_at : (r : List ℕ) (k : ℕ) (ns : List (List ℕ)) (j : ℕ) (d : Item) → j < length ns → IsInputItem r (k + j) (get_or (input_items r k ns) j d)
input_item_at r k [] j d h = absurd (omega arith)
input_item_at r k (n ∷ ns) zero d h = record { maker = refl; produced = refl; consumed = ap (λ z. Some (input r z)) (let w : k ≡ k + 0 = omega arith in w) }
input_item_at r k (n ∷ ns) (suc j) d h =
    let q = input_item_at r (suc k) ns j d (let w : j < length ns = omega arith in w) in
    record { maker = q.maker; produced = q.produced; consumed = q.consumed ∙ ap (λ z. Some (input r z)) (let w : suc k + j ≡ k + suc j = omega arith in w) }

pub output_item_at : (r : List ℕ) (k : ℕ) (ns : List (List ℕ)) (j : ℕ) (d : Item) → j < length ns → IsOutputItem r (k + j) (get_or (output_items r k ns) j d)
output_item_at r k [] j d h = absurd (omega arith)
output_item_at r k (n ∷ ns) zero d h = record { maker = refl; produced = ap (λ z. Some (output r z)) (let w : k ≡ k + 0 = omega arith in w); consumed = refl }
output_item_at r k (n ∷ ns) (suc j) d h =
    let q = output_item_at r (suc k) ns j d (let w : j < length ns = omega arith in w) in
    record { maker = q.maker; produced = q.produced ∙ ap (λ z. Some (output r z)) (let w : suc k + j ≡ k + suc j = omega arith in w); consumed = q.consumed }
