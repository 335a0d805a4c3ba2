-- Tables of rows in which the rows of one module are set.
use Rattle.std.proofs.Common.{◌≡◌, ◌↔◌, ℕ, ◌<◌, ◌≤◌, ◌^◌, ◌==◌, true, false, IsTrue, List, Option, None, Some, length, get_or, set, is_some, is_none, refl, sym, ap, ◌∙◌, subst, ⊎_elim, arith, true≢false}
use Rattle.std.specs.List.{All}
use Rattle.std.specs.Int.{bit_at}
use Rattle.std.proofs.lemmas.Grind.{common_steps}
use Rattle.std.proofs.lemmas.Nat.Bits.{bit_at-zero}
use Rattle.std.proofs.lemmas.List.{get_or-set_same, get_or-set_other, get_or_past, length-set}
use Rattle.std.proofs.lemmas.Bool.{cases_eq}
use Rattle.wf_model.specs.Lists.{IsIn}
use Rattle.wf_model.specs.Grammar.{Grammar, module_at, inputs_of, outputs_of, body_of, IsProductionOf}
use Rattle.wf_model.specs.WellFormed.{IsWellFormed}
use Rattle.wf_model.specs.Meaning.{bit_of, pairs_of}
use Rattle.wf_model.specs.Safe.{BodyJoins}
use Rattle.wf_model.proofs.Lists.{is_at, at_in}
use Rattle.bool_mat.specs.Matrix.{has}
use Rattle.wf_body.specs.Matrices.{HasRows}
use Rattle.wf_safe.proofs.SameBodies.{body_joins_same}
use Rattle.wf_safe.specs.Settling.{is_set, IsTable, unset}

-- a bit of a row, as a test of its pair
pub has_is : (rows : List ℕ) (i o : ℕ) → has (get_or rows i 0) o ≡ bit_of (Some rows) i o
unfolding has
has_is rows i o = refl

-- past the last row there is no bit
pub no_bit : (rows : List ℕ) (i o : ℕ) → length rows ≤ i → has (get_or rows i 0) o ≡ false
unfolding has
no_bit rows i o h = ap (λ z. bit_at z o == 1) (get_or_past rows i 0 h) ∙ ap (λ z. z == 1) (bit_at-zero o)

-- a module whose rows are the same has them in both tables
pub rows_same : (g : Grammar) (old new : List (Option (List ℕ))) (m : ℕ) → length new ≡ length old → get_or new m None ≡ get_or old m None → HasRows g old m → HasRows g new m
rows_same g old new m size e h =
    let within = h.within in
    record { rows = h.rows; within = omega arith; held = e ∙ h.held; one_each = h.one_each; no_more = h.no_more }

pub pairs_same : (old new : List (Option (List ℕ))) (m : ℕ) → get_or new m None ≡ get_or old m None → (i o : ℕ) → pairs_of new m i o ≡ pairs_of old m i o
pairs_same old new m e i o = ap (λ (z : Option (List ℕ)). bit_of z i o) e

module _ (g : Grammar) (old : List (Option (List ℕ))) (m : ℕ) (rows : List ℕ) (low : m < length old) where
  pub set_here : get_or (set old m (Some rows)) m None ≡ Some rows
  set_here = get_or-set_same old m (Some rows) None low

  pub set_there : (k : ℕ) → (k ≡ m → ⊥) → get_or (set old m (Some rows)) k None ≡ get_or old k None
  set_there k n = get_or-set_other old m k (Some rows) None n

  pub table_more : IsTable g old → length rows ≡ inputs_of g m → All (λ r. r < 2 ^ outputs_of g m) rows → IsTable g (set old m (Some rows))
  table_more t one few = record {
    one_each = length-set old m (Some rows) ∙ t.one_each;
    formed = λ k h. ⊎_elim
        (λ e. subst (HasRows g (set old m (Some rows))) (sym e) has_here)
        (λ n. rows_same g old (set old m (Some rows)) k (length-set old m (Some rows)) (set_there k n) (t.formed k (subst (λ (z : Option (List ℕ)). IsTrue (is_some z)) (set_there k n) h)))
        (cases_eq k m);
  }
    where
      has_here : HasRows g (set old m (Some rows)) m
      has_here = record { rows = rows; within = (let s = length-set old m (Some rows) in omega arith); held = set_here; one_each = one; no_more = few }

-- a body joins the same pairs by two tables that agree on its modules
pub joins_same : (g : Grammar) (old new : List (Option (List ℕ))) (p i o : ℕ) → ((m : ℕ) → IsIn m (body_of g p) → get_or new m None ≡ get_or old m None) → BodyJoins g (pairs_of new) p i o ↔ BodyJoins g (pairs_of old) p i o
joins_same g old new p i o same = (
  body_joins_same g (pairs_of new) (pairs_of old) p i o (λ m a j q hj hq. pairs_same old new m (same m a) j q),
  body_joins_same g (pairs_of old) (pairs_of new) p i o (λ m a j q hj hq. sym (pairs_same old new m (same m a) j q)),
)

is_none_from : {A : Type 0} (o : Option A) → is_some o ≡ false → is_none o ≡ true
is_none_from None e = refl
is_none_from (Some x) e = absurd (true≢false e)

-- one module fewer has no rows
pub fewer_unset : (xs : List (Option (List ℕ))) (m : ℕ) (rows : List ℕ) → m < length xs → is_set xs m ≡ false → unset (set xs m (Some rows)) < unset xs
fewer_unset xs m rows low e = let n = is_none_from (get_or xs m None) e in grind (arith, common_steps)

-- a module of which there is a production has a place
pub place_there : (g : Grammar) (rows : List (Option (List ℕ))) (m p : ℕ) → IsWellFormed g → IsTable g rows → IsProductionOf g p m → m < length rows
place_there g rows m p wf t of = let low : m < length g.modules = subst (λ z. z < length g.modules) of.1 (wf.heads p of.0) in let e = t.one_each in omega arith

-- an output of the head of a production has a number below 64
pub few_outputs : (g : Grammar) (m p o : ℕ) → IsWellFormed g → IsProductionOf g p m → o < outputs_of g m → o < 64
few_outputs g m p o wf of h =
    let low : m < length g.modules = subst (λ z. z < length g.modules) of.1 (wf.heads p of.0) in
    let f = (wf.modules (module_at g m) (at_in (module_at g m) m g.modules (is_at m g.modules _ low))).few_outputs in
    omega arith
