-- Row products one after another, and the bit that they end in.
use Rattle.std.proofs.Common.{◌≡◌, ℕ, ◌+◌, ◌≤◌, Bool, List, [], ◌∷◌, ◌++◌, length, arith, length-append}
use Rattle.bool_mat.specs.Matrix.{Matrix, IsUnion, has}
use Rattle.decode_model.specs.Rows.{Progress}
use Rattle.wf_decode.specs.Products.{IsRowAfter, IsBit}
use Rattle.wf_decode.proofs.Progressing.{through_append, progress_one}

-- a row to which row products came that were counted one by one
pub after_products : (done : List Matrix) (first row start now : ℕ) → Progress done first row start now → IsRowAfter done first row start now
after_products done first row start now p = let c = p.counted in record { through = p.through; few = omega arith }

-- a row by one list of matrices and then by another
pub after_more : (a b : List Matrix) (first row last start now later : ℕ) → IsRowAfter a first row start now → IsRowAfter b row last now later → IsRowAfter (a ++ b) first last start later
after_more a b first row last start now later p q =
    let c = p.few in
    let d = q.few in
    let l = length-append a b in
    record { through = through_append a b first row last p.through q.through; few = omega arith }

-- a bit after more products
pub bit_after : (a b : List Matrix) (first row start now later o : ℕ) (answer : Bool) → IsRowAfter a first row start now → IsBit b row now later o answer → IsBit (a ++ b) first start later o answer
bit_after a b first row start now later o answer p q = record { last = q.last; after = after_more a b first row q.last start now later p q.after; bit = q.bit }

-- the bit after one product
pub bit_of_one : (m : Matrix) (row last now later o : ℕ) (answer : Bool) → IsUnion row m last → later ≡ now + 1 → answer ≡ has last o → IsBit (m ∷ []) row now later o answer
bit_of_one m row last now later o answer u e b = record { last = last; after = after_products (m ∷ []) row last now later (progress_one m row last now later u e); bit = b }

-- no more products were counted than there are matrices
pub bit_within : (done : List Matrix) (first start now o most : ℕ) (answer : Bool) → IsBit done first start now o answer → length done ≤ most → now ≤ start + most
bit_within done first start now o most answer b h = let e = b.after.few in omega arith
