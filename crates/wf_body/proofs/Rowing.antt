-- Words of the outputs of one position, from those of its inputs.
use Rattle.std.proofs.Common.{◌≡◌, ◌↔◌, ℕ, zero, suc, ◌+◌, ◌<◌, ◌≤◌, ◌⊎◌, IsTrue, List, [], ◌∷◌, map, length, get_or, set, bit_or, Option, Some, None, refl, sym, ap, ◌∙◌, subst, inl, inr, ⊎_elim, arith}
use Rattle.std.proofs.lemmas.Bool.{cases_lt, cases_eq}
use Rattle.std.proofs.lemmas.List.{get_or-set_same, get_or-set_other, get_or_past}
use Rattle.wf_model.specs.declared.body.Position.{Position as PositionHeld}
use Rattle.wf_model.specs.declared.numbers.PosNo.{PosNo}
use Rattle.wf_model.specs.Lists.{IsAt}
use Rattle.wf_model.specs.Grammar.{Grammar, Position, Production, production_at, body_of, inputs_of, outputs_of}
use Rattle.wf_model.specs.Links.{output}
use Rattle.wf_model.specs.Meaning.{position_of, bit_of, pairs_of}
use Rattle.wf_model.specs.WellFormed.{IsWellFormed}
use Rattle.wf_model.proofs.Lists.{at_is}
use Rattle.bool_mat.specs.Matrix.{has, IsUnion}
use Rattle.bool_mat.proofs.Rows.{has_none, has_or}
use Rattle.wf_body.specs.Matrices.{HasRows}
use Rattle.wf_body.specs.Words.{AreFirstOutputs, AreOutputs, Leaves, source}
use Rattle.wf_body.proofs.Feeding.{few_at}

-- the word of one output
pub one_out : (from : Option PosNo) (k o columns column union itself : ℕ) (ins rows : List ℕ) → IsUnion column (record { rows = ins; columns = columns }) union → ((i : ℕ) → IsTrue (has column i) ↔ IsTrue (has (get_or rows i 0) o)) → ((x : ℕ) → IsTrue (has itself x) ↔ (source from x ≡ output (Some k) o)) → (x : ℕ) → IsTrue (has (bit_or union itself) x) ↔ Leaves from k ins rows o x
one_out from k o columns column union itself ins rows u c w x = (
  (λ t. ⊎_elim (λ a. let s = (u x).0 a in inr (s.0, (c s.0).0 s.1, s.2)) (λ a. inl ((w x).0 a)) ((has_or union itself x).0 t)),
  λ s. (has_or union itself x).1 (⊎_elim (λ a. inr ((w x).1 a)) (λ a. inl ((u x).1 (a.0, (c a.0).1 a.1, a.2))) s),
)

pub outs_more : (from : Option PosNo) (k n word : ℕ) (ins rows outs : List ℕ) → AreFirstOutputs from k ins rows n outs → n < length outs → ((x : ℕ) → IsTrue (has word x) ↔ Leaves from k ins rows n x) → AreFirstOutputs from k ins rows (n + 1) (set outs n word)
outs_more from k n word ins rows outs h room w o x l =
    elim (cases_eq o n) [
      | inl e ↦ subst (λ z. IsTrue (has (get_or (set outs n word) z 0) x) ↔ Leaves from k ins rows z x) (sym e)
          (subst (λ z. IsTrue (has z x) ↔ Leaves from k ins rows n x) (sym (get_or-set_same outs n word 0 room)) (w x))
      | inr e ↦ let l' : o < n = omega arith in subst (λ z. IsTrue (has z x) ↔ Leaves from k ins rows o x) (sym (get_or-set_other outs n o word 0 e)) (h o x l')
    ]

-- the module of a held position
pub module_stands : (g : Grammar) (p : ℕ) (xs : List PositionHeld) (r : Production) (k : ℕ) (d : PositionHeld) → map position_of xs ≡ r.positions → r ≡ production_at g p → k < length xs → IsAt (get_or xs k d).«module».0 k (body_of g p)
module_stands g p xs r k d same core h =
    subst (IsAt (get_or xs k d).«module».0 k) (ap (map (λ (z : Position). z.module_no)) same ∙ ap (λ (z : Production). map (λ (z : Position). z.module_no) z.positions) core) (mapped xs k d h)
  where
    mapped : (ys : List PositionHeld) (m : ℕ) (d : PositionHeld) → m < length ys → IsAt (get_or ys m d).«module».0 m (map (λ (z : Position). z.module_no) (map position_of ys))
    mapped [] m d l = absurd (omega arith)
    mapped (y ∷ ys) zero d l = refl
    mapped (y ∷ ys) (suc m) d l = let l' : m < length ys = omega arith in mapped ys m d l'

-- the pairs of a module are those of its rows
pub pair_is : (deps : List (Option (List ℕ))) (rows : List ℕ) (m i o : ℕ) → get_or deps m None ≡ Some rows → pairs_of deps m i o ≡ has (get_or rows i 0) o
unfolding has
pair_is deps rows m i o e = ap (λ z. bit_of z i o) e

-- the words of all outputs
pub outs_whole : (g : Grammar) (p k m n : ℕ) (from : Option PosNo) (deps : List (Option (List ℕ))) (ins rows outs : List ℕ) → IsAt m k (body_of g p) → (held : HasRows g deps m) → rows ≡ held.rows → outputs_of g m ≤ n → AreFirstOutputs from k ins rows n outs → AreOutputs g (pairs_of deps) p from k ins outs
outs_whole g p k m n from deps ins rows outs a held e past h m' o x a' l =
    let same : m' ≡ m = sym (at_is m' k (body_of g p) 0 a') ∙ at_is m k (body_of g p) 0 a in
    let l' : o < outputs_of g m = subst (λ z. o < outputs_of g z) same l in
    let b = h o x (omega arith) in
    subst (λ z. IsTrue (has (get_or outs o 0) x) ↔ ((source from x ≡ output (Some k) o) ⊎ ((i : ℕ) × (i < inputs_of g z) × IsTrue (pairs_of deps z i o) × IsTrue (has (get_or ins i 0) x)))) (sym same) (
      (λ t. ⊎_elim (λ q. inl q) (λ q. inr (q.0, below q.0 q.1, pair_is deps rows m q.0 o (held.held ∙ ap Some (sym e)) ∙ q.1, q.2)) (b.0 t)),
      λ s. b.1 (⊎_elim (λ q. inl q) (λ q. inr (q.0, sym (pair_is deps rows m q.0 o (held.held ∙ ap Some (sym e))) ∙ q.2, q.3)) s),
    )
  where
    below : (i : ℕ) → IsTrue (has (get_or rows i 0) o) → i < inputs_of g m
    below i t =
        let c = held.one_each in
        let f = ap length e in
        elim (cases_lt i (length rows)) [
          | inl b ↦ omega arith
          | inr b ↦ absurd (has_none o (subst (λ z. IsTrue (has z o)) (get_or_past rows i 0 b) t))
        ]

-- the rows of a module are few
pub few_rows : (g : Grammar) (p k m : ℕ) (deps : List (Option (List ℕ))) (rows : List ℕ) → IsWellFormed g → p < length g.productions → IsAt m k (body_of g p) → (held : HasRows g deps m) → rows ≡ held.rows → length rows ≤ 64
few_rows g p k m deps rows wf h a held e =
    let b = (few_at g p m k wf h a).2 in
    let c = held.one_each in
    let f = ap length e in
    omega arith
