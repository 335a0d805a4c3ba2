-- What a row comes to by row products, one after another.
use Rattle.std.proofs.Common.{◌≡◌, ℕ, ◌+◌, IsTrue, List, [], ◌∷◌, ◌++◌, refl, sym, subst, arith, length-append}
use Rattle.bool_mat.specs.Matrix.{Matrix, has, Joined, Then, IsUnion}
use Rattle.bool_mat.proofs.Relations.{Same, same_refl, same_sym, same_trans, then_same, then_assoc, then_id_left, then_id_right}
use Rattle.decode_model.specs.Rows.{Through, Along, Progress}
use Rattle.decode_model.specs.RowLaws.{ThroughLaw, ProgressLaw}

pub through_law : ThroughLaw
through_law [] row last t k = ((λ h. (k, subst (λ z. IsTrue (has z k)) (sym t) h, refl)), λ h. subst (λ z. IsTrue (has z k)) t (subst (λ z. IsTrue (has row z)) h.2 h.1))
through_law (m ∷ ms) row last t k =
    let r = through_law ms t.0 last t.2 k in (
      (λ h. let x = r.0 h in let y = (t.1 x.0).0 x.1 in (y.0, y.1, (x.0, y.2, x.2))),
      λ h. r.1 (h.2.0, (t.1 h.2.0).1 (h.0, h.1, h.2.1), h.2.2),
    )

pub through_more : (ms : List Matrix) (row last : ℕ) (m : Matrix) (next : ℕ) → Through ms row last → IsUnion last m next → Through (ms ++ m ∷ []) row next
through_more [] row last m next t u = (next, subst (λ z. IsUnion z m next) (sym t) u, refl)
through_more (n ∷ ms) row last m next t u = (t.0, t.1, through_more ms t.0 last m next t.2 u)

pub along_append : (a b : List Matrix) → Same (Along (a ++ b)) (Then (Along a) (Along b))
along_append [] b = same_sym (then_id_left (Along b))
along_append (m ∷ a) b = same_trans (then_same (same_refl (Joined m)) (along_append a b)) (same_sym (then_assoc (Joined m) (Along a) (Along b)))

pub along_one : (m : Matrix) → Same (Along (m ∷ [])) (Joined m)
along_one m = then_id_right (Joined m)

progress_none : (first start : ℕ) → Progress [] first first start start
progress_none first start = record { through = refl; counted = (let e : start ≡ start + 0 = omega arith in e) }

progress_more : (done : List Matrix) (first row start now : ℕ) (m : Matrix) (next later : ℕ) → Progress done first row start now → IsUnion row m next → later ≡ now + 1 → Progress (done ++ m ∷ []) first next start later
progress_more done first row start now m next later p u e =
    let c = p.counted in
    let l = length-append done (m ∷ []) in
    record { through = through_more done first row m next p.through u; counted = omega arith }

pub progress_law : ProgressLaw
progress_law = record { none = progress_none; more = progress_more }
