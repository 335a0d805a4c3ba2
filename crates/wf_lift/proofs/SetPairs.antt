-- The pairs of the bits of rows are gone through bit by bit and row by row, and are those that a view shows.
use Rattle.std.proofs.Common.{◌≡◌, ℕ, suc, ◌+◌, ◌<◌, ◌==◌, Bool, true, List, [], ◌∷◌, ◌++◌, length, get_or, flat_map, sym, ap, ◌∙◌, arith, append-nil}
use Rattle.std.specs.Int.{bit_at}
use Rattle.std.specs.Cmp.Derive.{one_truth}
use Rattle.std.proofs.lemmas.List.Concat.{flat_map-append}
use Rattle.wf_model.specs.Lists.{numbers_from}
use Rattle.wf_model.specs.Grammar.{Grammar, inputs_of, outputs_of}
use Rattle.wf_model.specs.View.{View, shows, IsViewOf}
use Rattle.wf_model.proofs.NumberLists.{numbers_from-last}
use Rattle.wf_spec.specs.Rows.{has_pair}
use Rattle.wf_view.specs.Held.{AreShownRows}
use Rattle.wf_view.proofs.Viewed.{in_passing, passing_from}
use Rattle.wf_lift.specs.RowPairs.{bit_pair, row_pairs, set_pairs_below, set_pairs}

-- what a function makes of one number more
pub numbers_more : {A : Type 0} (f : ℕ → List A) (n : ℕ) → flat_map f (numbers_from 0 (n + 1)) ≡ flat_map f (numbers_from 0 n) ++ f n
numbers_more f n =
    let e : n + 1 ≡ suc n = omega arith in
    let first : 0 + n ≡ n = omega arith in
    ap (λ k. flat_map f (numbers_from 0 k)) e ∙ (ap (flat_map f) (numbers_from-last 0 n) ∙ (ap (λ k. flat_map f (numbers_from 0 n ++ k ∷ [])) first ∙ flat_map-append f (numbers_from 0 n) (n ∷ []) ∙ ap (λ l. flat_map f (numbers_from 0 n) ++ l) (append-nil (f n))))

-- one bit more
pub row_more : (i row n : ℕ) → row_pairs i row (n + 1) ≡ row_pairs i row n ++ bit_pair i row n
row_more i row n = numbers_more (bit_pair i row) n

-- one row more
pub rows_more : (rows : List ℕ) (n c : ℕ) → set_pairs_below rows n (c + 1) ≡ set_pairs_below rows n c ++ row_pairs c (get_or rows c 0) n
rows_more rows n c = numbers_more (λ i. row_pairs i (get_or rows i 0) n) c

-- the bit of a pair is set in rows
abbrev is_set : List ℕ → ℕ → ℕ → Bool
is_set rows i o = bit_at (get_or rows i 0) o == 1

-- the pairs of the rows that are shown of a module are the pairs that the view shows
pub shown_are : (g : Grammar) (u : View) (m : ℕ) (rows : List ℕ) → IsViewOf g u → AreShownRows g u m rows → (i o : ℕ) → has_pair (set_pairs rows (outputs_of g m)) i o ≡ shows u m i o
shown_are g u m rows view are i o = one_truth (has_pair (set_pairs rows (outputs_of g m)) i o) (shows u m i o) there back
  where
    there : has_pair (set_pairs rows (outputs_of g m)) i o ≡ true → shows u m i o ≡ true
    there h =
        let q = in_passing (length rows) (outputs_of g m) (is_set rows) i o h in
        let l : i < inputs_of g m = (let a = q.0 in let e = are.one_each in omega arith) in
        sym (are.bits i o l q.1.0) ∙ q.1.1

    back : shows u m i o ≡ true → has_pair (set_pairs rows (outputs_of g m)) i o ≡ true
    back h =
        let q = view.shown m i o h in
        let l : i < length rows = (let a = q.1 in let e = are.one_each in omega arith) in
        passing_from (length rows) (outputs_of g m) (is_set rows) i o l q.2 (are.bits i o q.1 q.2 ∙ h)
