-- Matrices of the positions of a body, position after position.
use Rattle.std.proofs.Common.{◌≡◌, ℕ, ◌+◌, ◌*◌, ◌<◌, ◌≤◌, List, length, sym, subst, inl, inr, arith}
use Rattle.std.proofs.Math.Nat.{add-mul, mul-le-mul_right}
use Rattle.std.proofs.lemmas.Bool.{cases_eq}
use Rattle.bool_mat.specs.Matrix.{Matrix, Adds}
use Rattle.bool_mat.proofs.Pools.{adds_more}
use Rattle.wf_model.specs.Grammar.{Grammar, Assignment, head_of, inputs_of, outputs_of}
use Rattle.wf_model.specs.Reach.{Step, Between, Into, OutOf, target_of}
use Rattle.wf_body.specs.Matrices.{IsMatrixOf, beside}
use Rattle.wf_vlabel.specs.Growing.{Grows}
use Rattle.wf_vlabel.specs.Tables.{AreStepGroups, IsStepGroup, of_position}
use Rattle.wf_vlabel.proofs.Grouping.{grows_by, matrix_kept}

-- the matrices of a position keep their numbers
pub step_kept : (g : Grammar) (d : Assignment) (s : Step) (old new : List Matrix) (n : ℕ) → Grows old new → n + of_position g s.production ≤ length old → IsStepGroup g d s old n → IsStepGroup g d s new n
step_kept g d s old new n grows room h = record {
  into = subst (IsMatrixOf (inputs_of g (head_of g s.production)) (inputs_of g (target_of g s)) (Into g d s)) (sym (matrix_kept old new n grows (omega (arith, room)))) h.into;
  out_of = subst (IsMatrixOf (outputs_of g (target_of g s)) (outputs_of g (head_of g s.production)) (OutOf g d s)) (sym (matrix_kept old new (n + 1) grows (omega (arith, room)))) h.out_of;
  between = λ to l. subst (IsMatrixOf (outputs_of g (target_of g s)) (inputs_of g (target_of g (beside s to))) (Between g d s to)) (sym (matrix_kept old new (n + (2 + to)) grows (omega (arith, room, l)))) (h.between to l);
}

-- those of position j end where those of the next begin
pub ends_within : (j k size : ℕ) → j < k → j * size + size ≤ k * size
ends_within j k size h =
    let next = mul-le-mul_right {m = j + 1} {n = k} size (omega (arith, h)) in
    let one = add-mul j 1 size in
    omega (arith, next, one)

-- the matrices of one position more
pub steps_more : (g : Grammar) (d : Assignment) (p k first n : ℕ) (old now new : List Matrix) → Adds old now first (k * of_position g p) → AreStepGroups g d p k now first → Adds now new n (of_position g p) → IsStepGroup g d (record { production = p; position = k }) new n →
    AreStepGroups g d p (k + 1) new first
steps_more g d p k first n old now new a h b here j l =
    let size = of_position g p in
    let f = a.number in
    let t = a.total in
    let e = b.number in
    elim (cases_eq j k) [
      | inl same ↦ let place : n ≡ first + k * of_position g p = omega (arith, f, t, e) in
          subst (λ z. IsStepGroup g d (record { production = p; position = z }) new (first + z * of_position g p)) (sym same)
          (subst (IsStepGroup g d (record { production = p; position = k }) new) place here)
      | inr other ↦ let l' : j < k = omega arith in
          let within = ends_within j k (of_position g p) l' in
          step_kept g d (record { production = p; position = j }) now new (first + j * of_position g p) (grows_by now new n (of_position g p) b) (omega (arith, f, t, within)) (h j l')
    ]

pub adds_position : (g : Grammar) (p k first n : ℕ) (old now new : List Matrix) → Adds old now first (k * of_position g p) → Adds now new n (of_position g p) → Adds old new first ((k + 1) * of_position g p)
adds_position g p k first n old now new a b =
    let one = add-mul k 1 (of_position g p) in
    let same : k * of_position g p + of_position g p ≡ (k + 1) * of_position g p = omega (arith, one) in
    subst (Adds old new first) same (adds_more old now new first n (k * of_position g p) (of_position g p) a b)
