-- Laws of Boolean matrices.
use Rattle.std.specs.Prelude.{◌≡◌, ℕ, ◌+◌, ◌↔◌, length}
use Rattle.bool_mat.specs.Matrix.{Matrix, IsMatrix, Joined, IsUnion, IsProduct, IsTransposed, IsPower}

-- two matrices of one size with the same pairs are equal
abbrev pub SameLaw : Type 0
SameLaw =
    (a b : Matrix) → IsMatrix a → IsMatrix b → length a.rows ≡ length b.rows → a.columns ≡ b.columns → ((i j : ℕ) → Joined a i j ↔ Joined b i j) → a ≡ b

-- two matrices have one product at most
abbrev pub OneProductLaw : Type 0
OneProductLaw = (a b p q : Matrix) → IsProduct a b p → IsProduct a b q → p ≡ q

-- the product is associative
abbrev pub AssociativeLaw : Type 0
AssociativeLaw =
    (a b c ab bc x y : Matrix) → IsProduct a b ab → IsProduct ab c x → IsProduct b c bc → IsProduct a bc y → x ≡ y

-- a row times a product is the row times the first factor, and this times the second
abbrev pub RowLaw : Type 0
RowLaw = (row middle last : ℕ) (a b p : Matrix) → IsProduct a b p → IsUnion row a middle → IsUnion middle b last → IsUnion row p last

-- the transpose of the transpose is the matrix
abbrev pub TwiceTransposedLaw : Type 0
TwiceTransposedLaw = (a t u : Matrix) → IsMatrix a → IsTransposed a t → IsTransposed t u → u ≡ a

-- the transpose of a product is the product of the transposes in the other order
abbrev pub TransposeLaw : Type 0
TransposeLaw =
    (a b p a' b' p' : Matrix) → IsProduct a b p → IsTransposed a a' → IsTransposed b b' → IsTransposed p p' → IsProduct b' a' p'

-- the product of two powers of a matrix is its power with the sum of the exponents
abbrev pub PowerSumLaw : Type 0
PowerSumLaw = (a p q r : Matrix) (m n : ℕ) → IsPower a m p → IsPower a n q → IsProduct p q r → IsPower a (m + n) r

-- two powers of one matrix commute
abbrev pub CommuteLaw : Type 0
CommuteLaw = (a p q r s : Matrix) (m n : ℕ) → IsPower a m p → IsPower a n q → IsProduct p q r → IsProduct q p s → r ≡ s
