-- Matrices of steps, from those of sources.
use Rattle.std.proofs.Common.{◌≡◌, ℕ, ◌+◌, ◌<◌, List, length, get_or, Option, Some, None, refl, sym, subst, inl, inr, arith}
use Rattle.std.proofs.lemmas.Bool.{cases_eq}
use Rattle.wf_model.specs.Grammar.{Grammar, Assignment, body_of, head_of, inputs_of, outputs_of}
use Rattle.wf_model.specs.declared.numbers.PosNo.{PosNo}
use Rattle.wf_model.specs.Links.{input, output}
use Rattle.wf_model.specs.Reach.{Step, Into, OutOf, target_of}
use Rattle.wf_model.specs.WellFormed.{IsWellFormedBody}
use Rattle.bool_mat.specs.Matrix.{Matrix, Adds, matrix_at}
use Rattle.wf_body.specs.Body.{ToInput, ToExit}
use Rattle.wf_body.specs.Matrices.{IsMatrixOf, LeadsToExits, LeadsToInputs}
use Rattle.wf_body.proofs.Meaning.{input_below, source_below, exit_apart}
use Rattle.wf_body.proofs.Turning.{same_pairs}

pub into_matrix : (g : Grammar) (d : Assignment) (s : Step) (m : Matrix) → IsWellFormedBody g s.production → LeadsToInputs g d s.production None s.position m → IsMatrixOf (inputs_of g (head_of g s.production)) (inputs_of g (target_of g s)) (Into g d s) m
into_matrix g d s m wf h =
    same_pairs (inputs_of g (head_of g s.production)) (inputs_of g (target_of g s)) (λ i j. ToInput g d s.production (input None i) s.position j) (Into g d s) m
    (λ i j. ((λ w. (input_below g d s.production None i s.position j wf w, w)), λ r. r.1)) h

pub out_matrix : (g : Grammar) (d : Assignment) (p : ℕ) (k : PosNo) (m : Matrix) → IsWellFormedBody g p → LeadsToExits g d p (Some k) m →
    IsMatrixOf (outputs_of g (target_of g (record { production = p; position = k.0 }))) (outputs_of g (head_of g p)) (OutOf g d (record { production = p; position = k.0 })) m
out_matrix g d p k m wf h =
    same_pairs (outputs_of g (get_or (body_of g p) k.0 0)) (outputs_of g (head_of g p)) (λ i o. ToExit g d p (output (Some k.0) i) o) (OutOf g d (record { production = p; position = k.0 })) m
    (λ i o. ((λ w. (source_below g d p (Some k) i (output (Some k.0) i) (output None o) wf refl w (exit_apart (Some k) o i), w)), λ r. r.1)) h

-- the next position of a body
pub all_more : (g : Grammar) (d : Assignment) (p k first : ℕ) (from : Option PosNo) (old now new : List Matrix) (m : ℕ) → Adds old now first k → Adds now new m 1 → ((q : ℕ) → q < k → LeadsToInputs g d p from q (matrix_at now (first + q))) → LeadsToInputs g d p from k (matrix_at new m) →
    (q : ℕ) → q < k + 1 → LeadsToInputs g d p from q (matrix_at new (first + q))
all_more g d p k first from old now new m a b h here q l =
    let t = a.total in
    let n = a.number in
    let j = b.number in
    elim (cases_eq q k) [
      | inl e ↦ let place : m ≡ first + q = omega arith in
          subst (λ z. LeadsToInputs g d p from q (matrix_at new z)) place (subst (λ z. LeadsToInputs g d p from z (matrix_at new m)) (sym e) here)
      | inr e ↦ let l' : q < k = omega arith in
          let there : first + q < length now = omega arith in
          subst (LeadsToInputs g d p from q) (sym (b.kept (first + q) there)) (h q l')
    ]
