-- Matrices of the rows of modules.
use Rattle.std.proofs.Common.{◌≡◌, ℕ, ◌+◌, ◌<◌, ◌≤◌, false, IsTrue, List, length, get_or, Option, Some, None, refl, sym, ap, ◌∙◌, subst, inl, inr, ⊎_elim, arith}
use Rattle.std.proofs.lemmas.Bool.{cases_lt}
use Rattle.std.proofs.lemmas.List.{get_or_past}
use Rattle.std.proofs.lemmas.Nat.Bits.{bit_at-zero}
use Rattle.bool_mat.specs.Matrix.{Matrix, IsMatrix, Joined, has, joins, matrix_at}
use Rattle.bool_mat.proofs.Rows.{has_none}
use Rattle.bool_mat.proofs.Products.{joined_below}
use Rattle.wf_model.specs.Grammar.{Grammar, inputs_of, outputs_of, module_at}
use Rattle.wf_model.specs.WellFormed.{IsWellFormed}
use Rattle.wf_model.specs.View.{View, expands, IsSeenModule}
use Rattle.wf_model.specs.Meaning.{bit_of, pairs_of}
use Rattle.wf_model.proofs.Lists.{at_in, is_at}
use Rattle.wf_body.specs.Matrices.{HasRows, IsMatrixOf}
use Rattle.wf_body.proofs.Rowing.{pair_is}
use Rattle.decode_model.specs.Matrices.{Within}
use Rattle.wf_safe.specs.Full.{AreFit, AreFullRows}
use Rattle.wf_vlabel.specs.Groups.{GroupsSeen, HasGroup, matrix_of, nth_from}
use Rattle.wf_vlabel.specs.Growing.{AreGroupsOf, IsRowsGroup}
use Rattle.wf_vlabel.specs.Tables.{AreFullGroups, Expands}
use Rattle.wf_vlabel.proofs.Grouping.{Stays, matrix_kept, room_kept}
use Rattle.wf_vlabel.proofs.SameSeen.{same_seen}

-- the rows as a matrix
abbrev pub of_rows : Grammar → ℕ → List ℕ → Matrix
of_rows g m rows = record { rows = rows; columns = outputs_of g m }

-- rows that are set are those that a module has
fit_rows : (g : Grammar) (deps : List (Option (List ℕ))) (m : ℕ) (rows : List ℕ) → AreFit g deps → get_or deps m None ≡ Some rows → (held : HasRows g deps m) × (held.rows ≡ rows)
fit_rows g deps m rows fit e =
    ⊎_elim
    (λ held. let q : Some held.rows ≡ Some rows = sym held.held ∙ e in let same : held.rows ≡ rows = cc in (held, same))
    (λ none. absurd (let q : None ≡ Some rows = sym none ∙ e in cc))
    (fit m)

-- the rows of a module make a matrix
rows_matrix : (g : Grammar) (deps : List (Option (List ℕ))) (m : ℕ) → IsWellFormed g → m < length g.modules → (held : HasRows g deps m) → IsMatrix (of_rows g m held.rows)
rows_matrix g deps m wf h held =
    let w = wf.modules (module_at g m) (at_in (module_at g m) m g.modules (is_at m g.modules _ h)) in
    let few = w.few_inputs in
    let one = held.one_each in
    record { few_rows = omega arith; few_columns = w.few_outputs; within = held.no_more }

-- the matrix that is pushed for rows that are set
pub pushed_rows : (g : Grammar) (deps : List (Option (List ℕ))) (m columns : ℕ) (rows : List ℕ) → IsWellFormed g → m < length g.modules → AreFit g deps → Some rows ≡ get_or deps m None → columns ≡ outputs_of g m →
    IsMatrix (record { rows = rows; columns = columns }) × ((held : HasRows g deps m) × (record { rows = rows; columns = columns } ≡ of_rows g m held.rows))
pushed_rows g deps m columns rows wf h fit e c =
    let told = fit_rows g deps m rows fit (sym e) in
    let same : record { rows = rows; columns = columns } ≡ of_rows g m told.0.rows = ap (λ (n : ℕ). let x : Matrix = record { rows = rows; columns = n } in x) c ∙ ap (of_rows g m) (sym told.1) in
    (subst IsMatrix (sym same) (rows_matrix g deps m wf h told.0), (told.0, same))

-- whose pairs are those of the rows
rows_mean : (g : Grammar) (deps : List (Option (List ℕ))) (m : ℕ) → IsWellFormed g → m < length g.modules → (held : HasRows g deps m) → IsMatrixOf (inputs_of g m) (outputs_of g m) (Within g (pairs_of deps) m) (of_rows g m held.rows)
rows_mean g deps m wf h held =
    let is = rows_matrix g deps m wf h held in
    let same : (i o : ℕ) → pairs_of deps m i o ≡ has (get_or held.rows i 0) o = λ i o. pair_is deps held.rows m i o held.held in
    record {
      is_matrix = is;
      has_rows = held.one_each;
      has_columns = refl;
      pairs = λ i o. (
        (λ t. (row_below i o t, joined_below (of_rows g m held.rows) i o is t, same i o ∙ t)),
        λ w. sym (same i o) ∙ w.2,
      );
    }
  where
    row_below : (i o : ℕ) → Joined (of_rows g m held.rows) i o → i < inputs_of g m
    row_below i o t =
        let one = held.one_each in
        elim (cases_lt i (length held.rows)) [
          | inl l ↦ omega arith
          | inr l ↦ absurd (has_none o (subst (λ z. IsTrue (has z o)) (get_or_past held.rows i 0 l) t))
        ]

pub rows_stay : (g : Grammar) (deps : List (Option (List ℕ))) → Stays (IsRowsGroup g deps)
rows_stay g deps key old new None grows h = h
rows_stay g deps key old new (Some n) grows h =
    let r = room_kept old new grows in
    let l = h.0 in
    (omega arith, h.1, matrix_kept old new n grows h.0 ∙ h.2)

-- a matrix that is not there has no pairs
no_pair : (o : ℕ) → has 0 o ≡ false
unfolding has
no_pair o = let z = bit_at-zero o in rw z refl

-- the groups of all modules
module _ (g : Grammar) (deps : List (Option (List ℕ))) (t : GroupsSeen) (places : length deps ≡ length g.modules) (groups : AreGroupsOf (IsRowsGroup g deps) (length g.modules) t.pool t.first) where
  pub pairs_are : (m i o : ℕ) → joins (matrix_of t m 0) i o ≡ pairs_of deps m i o
  pairs_are m i o =
      elim (cases_lt m (length g.modules)) [
        | inl l ↦ by_group (get_or t.first m None) (groups.each m l)
        | inr l ↦ let n = groups.one_each in
            let past : length t.first ≤ m = omega arith in
            let past' : length deps ≤ m = omega arith in
            subst (λ k. joins (nth_from t.pool k 0) i o ≡ pairs_of deps m i o) (sym (get_or_past t.first m None past)) (without (get_or_past deps m None past'))
      ]
    where
      without : get_or deps m None ≡ None → has 0 o ≡ pairs_of deps m i o
      without e = no_pair o ∙ sym (ap (λ z. bit_of z i o) e)

      by_group : (n : Option ℕ) → IsRowsGroup g deps m t.pool n → joins (nth_from t.pool n 0) i o ≡ pairs_of deps m i o
      by_group None e = without e
      by_group (Some n) h =
          let z : n + 0 ≡ n = omega arith in
          ap (λ k. joins (matrix_at t.pool k) i o) z ∙ (ap (λ k. joins k i o) h.2 ∙ sym (pair_is deps h.1.rows m i o h.1.held))

  of_seen : (m : ℕ) → IsWellFormed g → m < length g.modules → HasRows g deps m → HasGroup t m 1 × IsMatrixOf (inputs_of g m) (outputs_of g m) (Within g (pairs_of deps) m) (matrix_of t m 0)
  of_seen m wf l held = by_group (get_or t.first m None) refl (groups.each m l)
    where
      by_group : (n : Option ℕ) → get_or t.first m None ≡ n → IsRowsGroup g deps m t.pool n → HasGroup t m 1 × IsMatrixOf (inputs_of g m) (outputs_of g m) (Within g (pairs_of deps) m) (nth_from t.pool n 0)
      by_group None is e = absurd (let q : Some held.rows ≡ None = sym held.held ∙ e in cc)
      by_group (Some n) is h =
          let b = h.0 in
          let z : n + 0 ≡ n = omega arith in (
            record { number = n; has = is; inside = omega arith },
            subst (IsMatrixOf (inputs_of g m) (outputs_of g m) (Within g (pairs_of deps) m)) (sym (ap (matrix_at t.pool) z ∙ h.2)) (rows_mean g deps m wf l h.1),
          )

  pub full_are : (u : View) → IsWellFormed g → AreFullRows g u deps → AreFullGroups g (expands u) (pairs_of deps) t
  full_are u wf rows =
      record {
        has = λ v m same seen. (of_view v m same seen).0;
        full = λ v m same seen. (of_view v m same seen).1;
      }
    where
      of_view : (v : View) (m : ℕ) → Expands v (expands u) → IsSeenModule g v m → HasGroup t m 1 × IsMatrixOf (inputs_of g m) (outputs_of g m) (Within g (pairs_of deps) m) (matrix_of t m 0)
      of_view v m same seen =
          let held = rows.each m (same_seen g v u same m seen) in
          let w = held.within in
          of_seen m wf (omega arith) held
