-- The edges of a body begin at ports that differ.
use Rattle.std.proofs.Common.{◌≡◌, ℕ, suc, ◌<◌, ◌≤◌, Bool, true, false, cond, List, [], ◌∷◌, ◌++◌, length, map, count_by, refl, sym, ap, subst, inl, inr, arith}
use Rattle.std.specs.Prelude.{filter}
use Rattle.std.proofs.lemmas.List.Sums.{length-filter}
use Rattle.wf_model.specs.Lists.{IsIn, AllDiffer}
use Rattle.wf_model.specs.Grammar.{Grammar, Inner, Edge, production_at}
use Rattle.wf_model.specs.WellFormed.{IsWellFormed, IsInnerOutput, same_inner}
use Rattle.wf_model.proofs.Lists.{in_filter, in_append_left, in_map_from}
use Rattle.wf_model.proofs.Positions.{has_length}
use Rattle.wf_model.proofs.ItemNames.{same_itself}

-- an element that passes a test is one more
filter_long : (test : Inner → Bool) (x : Inner) (xs : List Inner) → test x ≡ true → length (filter test (x ∷ xs)) ≡ suc (length (filter test xs))
filter_long test x xs t = ap (λ b. length (cond b (x ∷ filter test xs) (filter test xs))) t

-- ports that are counted once differ
once_differ : (xs ys : List Inner) → ((x : Inner) → IsIn x xs → count_by (same_inner x) (xs ++ ys) ≤ 1) → AllDiffer xs
once_differ [] ys h = tt
once_differ (x ∷ xs) ys h = (
  (λ i.
      let a = h x (inl refl) in
      let b = has_length x (filter (same_inner x) (xs ++ ys)) (in_filter (same_inner x) x (xs ++ ys) (in_append_left x xs ys i) (same_itself x)) in
      let c = filter_long (same_inner x) x (xs ++ ys) (same_itself x) in
      absurd (omega (arith, a, b, c, length-filter (same_inner x) (x ∷ (xs ++ ys))))),
  once_differ xs ys (λ y i. let a = h y (inr i) in let c = fewer (same_inner y) (xs ++ ys) (same_inner y x) in omega (arith, a, c, length-filter (same_inner y) (x ∷ (xs ++ ys)), length-filter (same_inner y) (xs ++ ys))),
)
  where
    fewer : (test : Inner → Bool) (zs : List Inner) (b : Bool) → length (filter test zs) ≤ length (cond b (x ∷ filter test zs) (filter test zs))
    fewer test zs true = omega arith
    fewer test zs false = omega arith

-- the sources of a body's edges differ
pub sources_differ : (g : Grammar) → IsWellFormed g → (p : ℕ) → p < length g.productions → AllDiffer (map (λ (e : Edge). e.from) (production_at g p).edges)
sources_differ g wf p h =
    let b = wf.bodies p h in
    once_differ (map (λ (e : Edge). e.from) (production_at g p).edges) (production_at g p).exits
    (λ x i. let r = in_map_from (λ (e : Edge). e.from) x (production_at g p).edges i in let o = b.used_once x (subst (λ z. IsInnerOutput g p z) (sym r.2) (b.edges_from r.0 r.1)) in omega (arith, o))
