-- Rows that are set for one module.
use Rattle.std.proofs.Common.{◌≡◌, ◌≢◌, ◌↔◌, ℕ, ◌<◌, ◌^◌, IsTrue, List, length, get_or, set, length-set, Option, Some, None, replicate, inl, inr, ⊎_elim, sym, ap, ◌∙◌, subst, arith}
use Rattle.std.specs.List.{All}
use Rattle.std.proofs.lemmas.Bool.{cases_lt, cases_eq}
use Rattle.std.proofs.lemmas.List.{get_or-set_same, get_or-set_other, get_or-replicate, get_or_past, length-replicate}
use Rattle.wf_model.specs.Grammar.{Grammar, inputs_of, outputs_of}
use Rattle.wf_model.specs.Meaning.{bit_of, pairs_of}
use Rattle.wf_model.specs.View.{View, shows}
use Rattle.bool_mat.specs.Matrix.{has}
use Rattle.wf_body.specs.Matrices.{HasRows, IsMatrixOf}
use Rattle.wf_body.proofs.Rowing.{pair_is}
use Rattle.wf_safe.specs.Full.{AreFit}
use Rattle.wf_safe.specs.Inducing.{HasPairs, HasShown}

-- the rows of the other modules stay
pub pairs_stay : (rows : List (Option (List ℕ))) (x : Option (List ℕ)) (m k i o : ℕ) → k ≢ m → pairs_of (set rows m x) k i o ≡ pairs_of rows k i o
pairs_stay rows x m k i o n = ap (λ z. bit_of z i o) (get_or-set_other rows m k x None n)

pub rows_stay : (g : Grammar) (rows : List (Option (List ℕ))) (x : Option (List ℕ)) (m k : ℕ) → k ≢ m → HasRows g rows k → HasRows g (set rows m x) k
rows_stay g rows x m k n h = record {
  rows = h.rows;
  within = subst (λ l. k < l) (sym (length-set rows m x)) h.within;
  held = get_or-set_other rows m k x None n ∙ h.held;
  one_each = h.one_each;
  no_more = h.no_more;
}

pub shown_stays : (g : Grammar) (u : View) (rows : List (Option (List ℕ))) (x : Option (List ℕ)) (m k : ℕ) → k ≢ m → HasShown g u rows k → HasShown g u (set rows m x) k
shown_stays g u rows x m k n s = record {
  held = rows_stay g rows x m k n s.held;
  pairs = λ i o hi ho. subst (λ b. IsTrue b ↔ IsTrue (shows u k i o)) (sym (pairs_stay rows x m k i o n)) (s.pairs i o hi ho);
}

-- the rows of the module are those that are set
pub rows_set : (g : Grammar) (rows : List (Option (List ℕ))) (new : List ℕ) (m : ℕ) → m < length rows → length new ≡ inputs_of g m → All (λ r. r < 2 ^ outputs_of g m) new → HasRows g (set rows m (Some new)) m
rows_set g rows new m l one_each no_more = record {
  rows = new;
  within = subst (λ n. m < n) (sym (length-set rows m (Some new))) l;
  held = get_or-set_same rows m (Some new) None l;
  one_each = one_each;
  no_more = no_more;
}

pub pairs_set : (rows : List (Option (List ℕ))) (new : List ℕ) (m i o : ℕ) → m < length rows → pairs_of (set rows m (Some new)) m i o ≡ has (get_or new i 0) o
pairs_set rows new m i o l = pair_is (set rows m (Some new)) new m i o (get_or-set_same rows m (Some new) None l)

-- rows that fit are set among rows that fit
pub fit_set : (g : Grammar) (rows : List (Option (List ℕ))) (new : List ℕ) (m : ℕ) → HasRows g (set rows m (Some new)) m → AreFit g rows → AreFit g (set rows m (Some new))
fit_set g rows new m h fit k = elim (cases_eq k m) [
  | inl e ↦ inl (subst (HasRows g (set rows m (Some new))) (sym e) h)
  | inr q ↦ ⊎_elim (λ a. inl (rows_stay g rows (Some new) m k q a)) (λ a. inr (get_or-set_other rows m k (Some new) None q ∙ a)) (fit k)
]

-- where nothing is set, all fits
pub fit_none : (g : Grammar) (n : ℕ) → AreFit g (replicate n None)
fit_none g n m = elim (cases_lt m n) [
  | inl l ↦ inr (get_or-replicate n m None None l)
  | inr l ↦ inr (get_or_past (replicate n None) m None (let e : length (replicate {A = Option (List ℕ)} n None) ≡ n = length-replicate n None in omega (arith, e)))
]

-- so they have the pairs of their matrix
pub matrix_set : (g : Grammar) (rows : List (Option (List ℕ))) (new : List ℕ) (m : ℕ) (R : ℕ → ℕ → Type 0) → m < length rows → IsMatrixOf (inputs_of g m) (outputs_of g m) R (record { rows = new; columns = outputs_of g m }) → HasPairs g (set rows m (Some new)) m R
matrix_set g rows new m R l h = record {
  held = rows_set g rows new m l h.has_rows h.is_matrix.within;
  pairs = λ i o hi ho. subst (λ b. IsTrue b ↔ R i o) (sym (pairs_set rows new m i o l)) (h.pairs i o);
}
