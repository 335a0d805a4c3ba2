-- Matrices that stand in the words of a pool.
use Rattle.std.proofs.Common.{◌≡◌, ℕ, zero, suc, ◌+◌, ◌<◌, ◌≤◌, List, [], ◌∷◌, ◌++◌, map, length, get_or, take, drop, refl, sym, ap, ◌∙◌, subst, arith, length-append, length-drop}
use Rattle.std.proofs.lemmas.List.{take-append-le, drop-append-le, map-append, get_or_append_left}
use Rattle.std.proofs.lemmas.List.Elements.{All-append}
use Rattle.std.proofs.Math.Seq.{drop-append_seam, take-length}
use Rattle.std.specs.List.{All}
use Rattle.bool_mat.specs.declared.pool.Shape.{Shape}
use Rattle.bool_mat.specs.Matrix.{Matrix, IsMatrix, Adds}
use Rattle.bool_mat.specs.Pool.{matrix_in, Stored}

part_append : (words more : List ℕ) (s n : ℕ) → s + n ≤ length words → take n (drop s (words ++ more)) ≡ take n (drop s words)
part_append words more s n h =
    let a : s ≤ length words = omega arith in
    let b : n ≤ length (drop s words) = rw (length-drop s words) (omega arith) in
    ap (take n) (drop-append-le s words more a) ∙ take-append-le n (drop s words) more b

-- a matrix stands where it stood, whatever words come after
pub in_append : (words more : List ℕ) (s : Shape) → Stored words s → matrix_in (words ++ more) s ≡ matrix_in words s
in_append words more s h = ap (λ (r : List ℕ). record { rows = r; columns = s.columns }) (part_append words more s.start s.rows h.inside)

pub stored_append : (words more : List ℕ) (s : Shape) → Stored words s → Stored (words ++ more) s
stored_append words more s h =
    let l = length-append words more in
    record {
      inside = omega arith;
      is_matrix = subst IsMatrix (sym (in_append words more s h)) h.is_matrix;
    }

pub all_stored_append : (words more : List ℕ) (shapes : List Shape) → All (Stored words) shapes → All (Stored (words ++ more)) shapes
all_stored_append words more shapes h k d l = stored_append words more (get_or shapes k d) (h k d l)

pub view_append : (words more : List ℕ) (shapes : List Shape) → All (Stored words) shapes → map (matrix_in (words ++ more)) shapes ≡ map (matrix_in words) shapes
view_append words more [] h = refl
view_append words more (s ∷ shapes) h =
    let z : 0 < length (s ∷ shapes) = omega arith in
    let rest : All (Stored words) shapes = λ k d l. let l' : suc k < length (s ∷ shapes) = omega arith in h (suc k) d l' in
    ap (λ (m : Matrix). m ∷ map (matrix_in (words ++ more)) shapes) (in_append words more s (h 0 s z)) ∙ ap (λ (ms : List Matrix). matrix_in words s ∷ ms) (view_append words more shapes rest)

-- the rows that were put last
pub in_last : (words rows : List ℕ) (s : Shape) → s.start ≡ length words → s.rows ≡ length rows → matrix_in (words ++ rows) s ≡ record { rows = rows; columns = s.columns }
in_last words rows s a b =
    ap (λ (r : List ℕ). record { rows = r; columns = s.columns })
    (ap (λ n. take s.rows (drop n (words ++ rows))) a ∙ (ap (take s.rows) (drop-append_seam words rows) ∙ (ap (λ n. take n rows) b ∙ take-length rows)))

pub stored_last : (words rows : List ℕ) (s : Shape) → s.start ≡ length words → s.rows ≡ length rows → IsMatrix (record { rows = rows; columns = s.columns }) → Stored (words ++ rows) s
stored_last words rows s a b m =
    let l = length-append words rows in
    record {
      inside = omega arith;
      is_matrix = subst IsMatrix (sym (in_last words rows s a b)) m;
    }

pub all_stored_push : (words rows : List ℕ) (shapes : List Shape) (s : Shape) → All (Stored words) shapes → s.start ≡ length words → s.rows ≡ length rows → IsMatrix (record { rows = rows; columns = s.columns }) → All (Stored (words ++ rows)) (shapes ++ s ∷ [])
all_stored_push words rows shapes s h a b m =
    All-append (Stored (words ++ rows)) shapes (s ∷ []) (all_stored_append words rows shapes h)
    (λ k d l. only k d l)
  where
    only : (k : ℕ) (d : Shape) → k < length (s ∷ []) → Stored (words ++ rows) (get_or (s ∷ []) k d)
    only zero d l = stored_last words rows s a b m
    only (suc k) d l = absurd (omega arith)

pub view_push : (words rows : List ℕ) (shapes : List Shape) (s : Shape) → All (Stored words) shapes → s.start ≡ length words → s.rows ≡ length rows →
    map (matrix_in (words ++ rows)) (shapes ++ s ∷ []) ≡ map (matrix_in words) shapes ++ record { rows = rows; columns = s.columns } ∷ []
view_push words rows shapes s h a b =
    map-append (matrix_in (words ++ rows)) shapes (s ∷ []) ∙
    (ap (λ (ms : List Matrix). ms ++ matrix_in (words ++ rows) s ∷ []) (view_append words rows shapes h) ∙
    ap (λ (m : Matrix). map (matrix_in words) shapes ++ m ∷ []) (in_last words rows s a b))

-- one matrix more at the end
pub adds_one : (old new : List Matrix) (m : Matrix) (n : ℕ) → n ≡ length old → new ≡ old ++ m ∷ [] → Adds old new n 1
adds_one old new m n e h =
    let l : length new ≡ length old + 1 = ap length h ∙ length-append old (m ∷ []) in
    record {
      number = e;
      total = l;
      kept = λ k b. ap (λ (ms : List Matrix). get_or ms k (record { rows = []; columns = 0 })) h ∙ get_or_append_left old (m ∷ []) (record { rows = []; columns = 0 }) k b;
    }

pub adds_more : (a b c : List Matrix) (n m j k : ℕ) → Adds a b n j → Adds b c m k → Adds a c n (j + k)
adds_more a b c n m j k p q =
    let t = p.total in
    let t' = q.total in
    record {
      number = p.number;
      total = omega arith;
      kept = λ i h. let h' : i < length b = omega arith in q.kept i h' ∙ p.kept i h;
    }

pub adds_none : (a : List Matrix) → Adds a a (length a) 0
adds_none a = record { number = refl; total = omega arith; kept = λ k h. refl }
