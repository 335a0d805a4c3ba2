-- Tables of lists of edges that are made edge by edge.
use Rattle.std.proofs.Common.{◌≡◌, ◌↔◌, ℕ, zero, suc, ◌+◌, ◌<◌, ◌⊎◌, List, [], ◌∷◌, ◌++◌, length, get_or, set, map, take, Vec, refl, sym, ap, ◌∙◌, subst, inl, inr, ⊎_elim, arith}
use Rattle.std.specs.declared.alloc.Global.{Global}
use Rattle.std.proofs.lemmas.List.{map-append}
use Rattle.std.proofs.lemmas.Bool.{cases_eq}
use Rattle.wf_model.specs.declared.body.Edge.{Edge as EdgeHeld}
use Rattle.wf_model.specs.Lists.{IsIn}
use Rattle.wf_model.specs.Grammar.{Grammar, Edge}
use Rattle.wf_model.specs.Meaning.{edge_of}
use Rattle.wf_model.proofs.Lists.{in_append_left, in_append_right, in_append_cases}
use Rattle.wf_spec.proofs.Graphs.{edges_more}
use Rattle.wf_body.specs.Words.{AreLeading, edges_in, HasOneMore}

edges_in-set_same : (lists : List (Vec EdgeHeld Global)) (k : ℕ) (new : Vec EdgeHeld Global) → k < length lists → edges_in (set lists k new) k ≡ map edge_of new.items
edges_in-set_same [] k new h = absurd (omega arith)
edges_in-set_same (x ∷ lists) zero new h = refl
edges_in-set_same (x ∷ lists) (suc k) new h = let r : k < length lists = omega arith in edges_in-set_same lists k new r

edges_in-set_other : (lists : List (Vec EdgeHeld Global)) (k j : ℕ) (new : Vec EdgeHeld Global) → (j ≡ k → ⊥) → edges_in (set lists k new) j ≡ edges_in lists j
edges_in-set_other [] k j new h = refl
edges_in-set_other (x ∷ lists) zero zero new h = absurd (h refl)
edges_in-set_other (x ∷ lists) zero (suc j) new h = refl
edges_in-set_other (x ∷ lists) (suc k) zero new h = refl
edges_in-set_other (x ∷ lists) (suc k) (suc j) new h = edges_in-set_other lists k j new (λ e. h (ap suc e))

edges_in_read : (lists : List (Vec EdgeHeld Global)) (k : ℕ) (x : Vec EdgeHeld Global) → k < length lists → x ≡ get_or lists k x → edges_in lists k ≡ map edge_of x.items
edges_in_read [] k x h e = absurd (omega arith)
edges_in_read (y ∷ lists) zero x h e = ap (λ (z : Vec EdgeHeld Global). map edge_of z.items) (sym e)
edges_in_read (y ∷ lists) (suc k) x h e = let r : k < length lists = omega arith in edges_in_read lists k x r e

-- a list gets one edge more
pub list_more : (lists : List (Vec EdgeHeld Global)) (at : ℕ) (e : EdgeHeld) (old new : Vec EdgeHeld Global) → at < length lists → old ≡ get_or lists at old → new.items ≡ old.items ++ e ∷ [] → HasOneMore lists at (edge_of e) (set lists at new)
list_more lists at e old new h was now = λ k f. ⊎_elim (at_it k f) (at_other k f) (cases_eq k at)
  where
    list : edges_in (set lists at new) at ≡ edges_in lists at ++ edge_of e ∷ []
    list = edges_in-set_same lists at new h ∙ (ap (map edge_of) now ∙ (map-append edge_of old.items (e ∷ []) ∙ ap (λ l. l ++ edge_of e ∷ []) (sym (edges_in_read lists at old h was))))

    at_it : (k : ℕ) (f : Edge) → k ≡ at → IsIn f (edges_in (set lists at new) k) ↔ (IsIn f (edges_in lists k) ⊎ ((k ≡ at) × (f ≡ edge_of e)))
    at_it k f q = (
      λ i. ⊎_elim
          (λ j. inl (subst (λ z. IsIn f (edges_in lists z)) (sym q) j))
          (λ j. ⊎_elim (λ d. inr (q, d)) (λ z. absurd z) j)
          (in_append_cases f (edges_in lists at) (edge_of e ∷ []) (subst (IsIn f) list (subst (λ z. IsIn f (edges_in (set lists at new) z)) q i))),
      λ s. subst (λ z. IsIn f (edges_in (set lists at new) z)) (sym q) (subst (IsIn f) (sym list)
          (⊎_elim (λ i. in_append_left f (edges_in lists at) (edge_of e ∷ []) (subst (λ z. IsIn f (edges_in lists z)) q i)) (λ d. in_append_right f (edges_in lists at) (edge_of e ∷ []) (inl d.1)) s)),
    )

    at_other : (k : ℕ) (f : Edge) → (k ≡ at → ⊥) → IsIn f (edges_in (set lists at new) k) ↔ (IsIn f (edges_in lists k) ⊎ ((k ≡ at) × (f ≡ edge_of e)))
    at_other k f q = (
      λ i. inl (subst (IsIn f) (edges_in-set_other lists at k new q) i),
      λ s. ⊎_elim (λ i. subst (IsIn f) (sym (edges_in-set_other lists at k new q)) i) (λ d. absurd (q d.0)) s,
    )

-- one list more, without edges
pub none_more : (lists : List (Vec EdgeHeld Global)) (new : Vec EdgeHeld Global) → new.items ≡ [] → ((k : ℕ) (e : Edge) → IsIn e (edges_in lists k) → ⊥) → (k : ℕ) (e : Edge) → IsIn e (edges_in (lists ++ new ∷ []) k) → ⊥
none_more [] new q h zero e i = subst (λ l. IsIn e (map edge_of l)) q i
none_more [] new q h (suc k) e i = i
none_more (x ∷ lists) new q h zero e i = h zero e i
none_more (x ∷ lists) new q h (suc k) e i = none_more lists new q (λ j f. h (suc j) f) k e i

-- the lists have the edges so far, each at its target
abbrev pub AreListed : List Edge → List (Vec EdgeHeld Global) → Type 0
AreListed edges lists = (k : ℕ) (e : Edge) → IsIn e (edges_in lists k) ↔ (IsIn e edges × (e.to.position ≡ k))

listed_more : (edges : List Edge) (e : Edge) (old new : List (Vec EdgeHeld Global)) → AreListed edges old → HasOneMore old e.to.position e new → AreListed (edges ++ e ∷ []) new
listed_more edges e old new h m k f = (
  λ i. ⊎_elim
      (λ j. let r = (h k f).0 j in (in_append_left f edges (e ∷ []) r.0, r.1))
      (λ d. (in_append_right f edges (e ∷ []) (inl d.1), ap (λ (z : Edge). z.to.position) d.1 ∙ sym d.0))
      ((m k f).0 i),
  λ r. (m k f).1 (⊎_elim
      (λ i. inl ((h k f).1 (i, r.1)))
      (λ i. ⊎_elim (λ d. inr (sym r.1 ∙ ap (λ (z : Edge). z.to.position) d, d)) (λ z. absurd z) i)
      (in_append_cases f edges (e ∷ []) r.0)),
)

pub listed_next : (xs : List EdgeHeld) (n : ℕ) (d : EdgeHeld) (old new : List (Vec EdgeHeld Global)) → n < length xs → AreListed (map edge_of (take n xs)) old → HasOneMore old (get_or xs n d).to.pos.0 (edge_of (get_or xs n d)) new → AreListed (map edge_of (take (n + 1) xs)) new
listed_next xs n d old new h f g = subst (λ es. AreListed es new) (sym (edges_more xs n d h)) (listed_more (map edge_of (take n xs)) (edge_of (get_or xs n d)) old new f g)

-- the list of a position
pub leading_read : (g : Grammar) (p k : ℕ) (lists : List (Vec EdgeHeld Global)) (x : Vec EdgeHeld Global) (xs : List EdgeHeld) → AreLeading g p k (edges_in lists k) → k < length lists → x ≡ get_or lists k x → xs ≡ x.items → AreLeading g p k (map edge_of xs)
leading_read g p k lists x xs l h is same = subst (AreLeading g p k) (edges_in_read lists k x h is ∙ ap (map edge_of) (sym same)) l
