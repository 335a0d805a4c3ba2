-- Positions are placed one after another, each after its feeders, until none is left.
use Rattle.std.proofs.Common.{◌≡◌, ◌↔◌, ℕ, zero, suc, ◌+◌, ◌-◌, ◌<◌, ◌≤◌, ◌⊎◌, Bool, true, false, IsTrue, List, [], ◌∷◌, ◌++◌, map, length, get_or, take, bit_or, refl, sym, ap, ◌∙◌, subst, inl, inr, ⊎_elim, arith, length-append, append-nil}
use Rattle.std.proofs.lemmas.Bool.{cases_lt, cases_eq}
use Rattle.std.proofs.lemmas.List.{get_or_append_left, get_or_push, take-append-le, length-map, map-append}
use Rattle.wf_model.specs.declared.body.Position.{Position as PositionHeld}
use Rattle.wf_model.specs.declared.numbers.PosNo.{PosNo}
use Rattle.wf_model.specs.Meaning.{position_of}
use Rattle.std.proofs.Math.Seq.{take-append_seam}
use Rattle.wf_model.specs.Lists.{IsIn, AllDiffer, Walk, here, onward}
use Rattle.wf_model.specs.Grammar.{Grammar, Edge, Position, Production, production_at, body_of}
use Rattle.wf_model.specs.WellFormed.{IsFollowedBy, IsWellFormedBody}
use Rattle.wf_model.proofs.Lists.{in_append_left, in_append_right, in_append_cases, at_below, in_at, at_is}
use Rattle.wf_model.proofs.NumberLists.{differ_few}
use Rattle.wf_model.proofs.Positions.{parted}
use Rattle.wf_spec.proofs.Once.{apart_from, differ_with}
use Rattle.bool_mat.specs.Matrix.{has}
use Rattle.bool_mat.proofs.Rows.{has_none, has_or}
use Rattle.wf_body.specs.Order.{AreFeeders, IsNext, IsForward, IsOrder, positions_of}

-- a list whose elements differ is no longer than one that has them all
fits : (xs ys : List ℕ) → AllDiffer xs → ((x : ℕ) → IsIn x xs → IsIn x ys) → length xs ≤ length ys
fits [] ys d h = omega arith
fits (x ∷ xs) ys d h =
    let p = parted x ys (h x (inl refl)) in
    let l = p.0 in
    let r = p.1 in
    let shorter : length xs ≤ length (l ++ r) = fits xs (l ++ r) d.1 (λ z i. apart_from x z l r (subst (IsIn z) p.2 (h z (inr i))) (λ e. d.0 (subst (λ k. IsIn k xs) e i))) in
    let a = length-append l (x ∷ r) in
    let b = length-append l r in
    let c = ap length p.2 in
    omega arith

-- the positions that are placed, and the order in which they were
pub record IsSoFar (g : Grammar) (p placed : ℕ) (order : List ℕ) : Type 0 where
  pub marks : (k : ℕ) → IsTrue (has placed k) ↔ IsIn k order
  pub differ : AllDiffer order
  pub each : IsForward g p order

pub so_far_none : (g : Grammar) (p : ℕ) → IsSoFar g p 0 []
so_far_none g p =
    record {
      marks = λ k. ((λ t. absurd (has_none k t)), λ i. absurd i);
      differ = tt;
      each = record { within = λ n h. absurd (omega arith); forward = λ n a h. absurd (omega arith) };
    }

-- each placed position is a position
pub order_within : (g : Grammar) (p : ℕ) (order : List ℕ) → IsForward g p order → (k : ℕ) → IsIn k order → k < length (body_of g p)
order_within g p order f k i = let a = in_at k order i in subst (λ z. z < length (body_of g p)) (at_is k a.0 order 0 a.1) (f.within a.0 (at_below k a.0 order a.1))

-- the next position is placed
module _ (g : Grammar) (p : ℕ) (feeders : List ℕ) (placed k word : ℕ) (order : List ℕ) (s : IsSoFar g p placed order) (f : AreFeeders g p feeders) (next : IsNext feeders placed k) (room : k < length (body_of g p)) (one : (x : ℕ) → IsTrue (has word x) ↔ (x ≡ k)) where
  marks_more : (x : ℕ) → IsTrue (has (bit_or placed word) x) ↔ IsIn x (order ++ k ∷ [])
  marks_more x =
      let o = has_or placed word x in (
        (λ t. ⊎_elim (λ a. in_append_left x order (k ∷ []) ((s.marks x).0 a)) (λ b. in_append_right x order (k ∷ []) (inl ((one x).0 b))) (o.0 t)),
        λ i. o.1 (⊎_elim (λ a. inl ((s.marks x).1 a)) (λ b. ⊎_elim (λ e. inr ((one x).1 e)) (λ z. absurd z) b) (in_append_cases x order (k ∷ []) i)),
      )

  within_more : (n : ℕ) → n < length (order ++ k ∷ []) → get_or (order ++ k ∷ []) n 0 < length (body_of g p)
  within_more n h =
      let l = length-append order (k ∷ []) in
      elim (cases_lt n (length order)) [
        | inl b ↦ subst (λ z. z < length (body_of g p)) (sym (get_or_append_left order (k ∷ []) 0 n b)) (s.each.within n b)
        | inr b ↦ let e : length order ≡ n = omega arith in subst (λ z. z < length (body_of g p)) (sym (get_or_push order k 0 n e)) room
      ]

  forward_more : (n a : ℕ) → n < length (order ++ k ∷ []) → IsFollowedBy g p a (get_or (order ++ k ∷ []) n 0) → IsIn a (take n (order ++ k ∷ []))
  forward_more n a h w =
      let l = length-append order (k ∷ []) in
      elim (cases_lt n (length order)) [
        | inl b ↦ let b' : n ≤ length order = omega arith in
            subst (IsIn a) (sym (take-append-le n order (k ∷ []) b')) (s.each.forward n a b (subst (IsFollowedBy g p a) (get_or_append_left order (k ∷ []) 0 n b) w))
        | inr b ↦ let e : length order ≡ n = omega arith in
            subst (λ m. IsIn a (take m (order ++ k ∷ []))) e (subst (IsIn a) (sym (take-append_seam order (k ∷ [])))
            ((s.marks a).0 (next.ready a ((f k a).1 (subst (IsFollowedBy g p a) (get_or_push order k 0 n e) w)))))
      ]

  pub so_far_more : IsSoFar g p (bit_or placed word) (order ++ k ∷ [])
  so_far_more =
      record {
        marks = marks_more;
        differ = differ_with k order [] (subst AllDiffer (sym (append-nil order)) s.differ) (λ i. next.new ((s.marks k).1 (subst (IsIn k) (append-nil order) i)));
        each = record { within = within_more; forward = forward_more };
      }

  pub more_room : length order < length (body_of g p)
  more_room =
      let l = length-append order (k ∷ []) in
      let b = differ_few (length (body_of g p)) (order ++ k ∷ []) so_far_more.differ (order_within g p (order ++ k ∷ []) so_far_more.each) in
      omega arith

-- some feeder of a position is not placed, or all are
feeder_left : (placed k : ℕ) (es : List Edge) → ((e : Edge) × IsIn e es × (e.to.position ≡ k) × (IsTrue (has placed e.from.position) → ⊥)) ⊎ ((e : Edge) → IsIn e es → e.to.position ≡ k → IsTrue (has placed e.from.position))
feeder_left placed k [] = inr (λ e i. absurd i)
feeder_left placed k (f ∷ es) =
    ⊎_elim
    (λ a. inl (a.0, inr a.1, a.2, a.3))
    (λ b. ⊎_elim
    (λ t. ⊎_elim
    (λ m. inr (λ e i d. ⊎_elim (λ q. subst (λ (z : Edge). IsTrue (has placed z.from.position)) (sym q) m) (λ j. b e j d) i))
    (λ m. inl (f, inl refl, t, m))
    (marked (has placed f.from.position) refl))
    (λ t. inr (λ e i d. ⊎_elim (λ q. absurd (t (ap (λ (z : Edge). z.to.position) (sym q) ∙ d))) (λ j. b e j d) i))
    (cases_eq f.to.position k))
    (feeder_left placed k es)
  where
    marked : (b : Bool) → b ≡ has placed f.from.position → IsTrue (has placed f.from.position) ⊎ (IsTrue (has placed f.from.position) → ⊥)
    marked true e = inl (sym e)
    marked false e = inr (λ t. absurd (let q : true ≡ false = sym t ∙ sym e in cc))

-- where none is next, all are placed, since the edges make no cycle
module _ (g : Grammar) (p : ℕ) (feeders : List ℕ) (placed : ℕ) (order : List ℕ) (wf : IsWellFormedBody g p) (f : AreFeeders g p feeders) (none : (k : ℕ) → k < length (body_of g p) → IsNext feeders placed k → ⊥) where
  abbrev Left : ℕ → Type 0
  Left k = (k < length (body_of g p)) × (IsTrue (has placed k) → ⊥)

  back : (k : ℕ) → Left k → (a : ℕ) × Left a × IsFollowedBy g p a k
  back k h =
      ⊎_elim
      (λ a. let w = wf.edges_from a.0 a.1 in (a.0.from.position, (at_below w.0 a.0.from.position (body_of g p) w.1, a.3), (a.0, a.1, refl, a.2)))
      (λ b. absurd (none k h.0 (record { new = h.1; ready = λ a t. (let w = (f k a).0 t in subst (λ z. IsTrue (has placed z)) w.2 (b w.0 w.1 w.3)) })))
      (feeder_left placed k (production_at g p).edges)

  chain : (fuel v : ℕ) (vs : List ℕ) → Left v → AllDiffer (v ∷ vs) → ((u : ℕ) → IsIn u (v ∷ vs) → (u < length (body_of g p)) × Walk (IsFollowedBy g p) v u) → length vs + fuel ≡ length (body_of g p) → ⊥
  chain zero v vs h d w e = let b = differ_few (length (body_of g p)) (v ∷ vs) d (λ u i. (w u i).0) in absurd (omega arith)
  chain (suc fuel) v vs h d w e =
      let b = back v h in
      chain fuel b.0 (v ∷ vs) b.1 ((λ i. wf.acyclic b.0 v b.2 (w b.0 i).1), d)
      (λ u i. ⊎_elim (λ q. (subst (λ z. z < length (body_of g p)) (sym q) b.1.0, subst (Walk (IsFollowedBy g p) b.0) (sym q) here)) (λ j. ((w u j).0, onward b.2 (w u j).1)) i)
      (omega arith)

  none_left : (k : ℕ) → Left k → ⊥
  none_left k h = chain (length (body_of g p)) k [] h ((λ i. i), tt) (λ u i. ⊎_elim (λ q. (subst (λ z. z < length (body_of g p)) (sym q) h.0, subst (Walk (IsFollowedBy g p) k) (sym q) here)) (λ z. absurd z) i) (omega arith)

  pub all_placed : IsSoFar g p placed order → IsOrder g p order
  all_placed s = record { each = s.each; whole = λ k h. (s.marks k).0 (marked k h (has placed k) refl) }
    where
      marked : (k : ℕ) → k < length (body_of g p) → (b : Bool) → b ≡ has placed k → IsTrue (has placed k)
      marked k h true e = sym e
      marked k h false e = absurd (none_left k (h, λ t. absurd (let q : true ≡ false = sym t ∙ sym e in cc)))

-- held positions
pub count_is : (g : Grammar) (p : ℕ) (xs : List PositionHeld) (r : Production) → map position_of xs ≡ r.positions → r ≡ production_at g p → length xs ≡ length (body_of g p)
count_is g p xs r h e =
    sym (length-map xs position_of) ∙ (ap length h ∙ (ap (λ (z : Production). length z.positions) e ∙ sym (length-map (production_at g p).positions (λ (q : Position). q.module_no))))

pub held_push : (g : Grammar) (p placed : ℕ) (old new : List PosNo) (k : PosNo) → new ≡ old ++ k ∷ [] → IsSoFar g p placed (positions_of old ++ k.0 ∷ []) → IsSoFar g p placed (positions_of new)
held_push g p placed old new k e s = subst (IsSoFar g p placed) (sym (ap positions_of e ∙ map-append (λ (q : PosNo). q.0) old (k ∷ []))) s

pub falls : (n a b : ℕ) → a < n → b ≡ a + 1 → n - b < n - a
falls n a b h e = omega arith
